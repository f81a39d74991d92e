-- The memory of a call as it begins: the return address is there, and what is not on the stack is as it was.
use Rattle.std.proofs.Common.{◌≡◌, ℕ, ◌+◌, ◌%◌, ◌≤◌, length, ap, ◌∙◌, arith}
use Rattle.std.specs.Prelude.{slice_index}
use Rattle.cpu6502.specs.declared.machine.Machine.{Machine}
use Rattle.cpu6502.specs.declared.memory.TheConstants.{MEMORY_SIZE}
use Rattle.cpu6502.specs.Effects.{stack_place}
use Rattle.cpu6502.specs.Step.{written}
use Rattle.cpu6502.specs.Call.{return_address}
use Rattle.code_runs.specs.Runs.{put, put_all}
use Rattle.code_runs.proofs.Moves.{put_other, put_same}
use Rattle.code_runs.proofs.Bridge.{entered_view}
use Rattle.code_runs.specs.Calls.{Pulls, IsEntry}

-- the two places of a return address differ
places_differ : (sp : ℕ) → stack_place sp ≡ stack_place (sp + 255) → ⊥
places_differ sp e = omega arith

-- what a caller pushes is what a return pulls
pushed_pulls : (at : ℕ → ℕ) (sp : ℕ) → Pulls (put_all at (return_address sp)) ((sp + 254) % 256) 255 255
pushed_pulls at sp =
    let first : stack_place ((sp + 254) % 256 + 1) ≡ stack_place (sp + 255) = omega arith in
    let second : stack_place ((sp + 254) % 256 + 2) ≡ stack_place sp = omega arith in
    record {
      low_is = ap (put_all at (return_address sp)) first
          ∙ put_same (put at (stack_place sp) 255) (stack_place (sp + 255)) 255;
      high_is =
          ap (put_all at (return_address sp)) second
          ∙ put_other (put at (stack_place sp) 255) (stack_place (sp + 255)) 255 (stack_place sp) (places_differ sp)
          ∙ put_same at (stack_place sp) 255;
    }

pub entry_pulls : (m : Machine) → length m.memory ≡ MEMORY_SIZE →
    Pulls (slice_index (written m.memory (return_address m.cpu.sp))) ((m.cpu.sp + 254) % 256) 255 255
entry_pulls m size = rw (entered_view m size) (pushed_pulls (slice_index m.memory) m.cpu.sp)

-- a byte elsewhere is as it was
entry_keeps : (m : Machine) (q : ℕ) → length m.memory ≡ MEMORY_SIZE → (q ≡ stack_place m.cpu.sp → ⊥) →
    (q ≡ stack_place (m.cpu.sp + 255) → ⊥) →
    slice_index (written m.memory (return_address m.cpu.sp)) q ≡ slice_index m.memory q
entry_keeps m q size first second =
    ap (λ at. at q) (entered_view m size)
    ∙ put_other (put (slice_index m.memory) (stack_place m.cpu.sp) 255) (stack_place (m.cpu.sp + 255)) 255 q second
    ∙ put_other (slice_index m.memory) (stack_place m.cpu.sp) 255 q first

pub entry_kept : (m : Machine) (q : ℕ) → length m.memory ≡ MEMORY_SIZE → 512 ≤ q →
    slice_index (written m.memory (return_address m.cpu.sp)) q ≡ slice_index m.memory q
entry_kept m q size above =
    entry_keeps m q size (λ e. absurd (omega arith)) (λ e. absurd (omega arith))

pub calls_begin_so : (m : Machine) → length m.memory ≡ MEMORY_SIZE →
    IsEntry m (slice_index (written m.memory (return_address m.cpu.sp)))
calls_begin_so m size = record {
  pulls = entry_pulls m size;
  kept = λ q first second. entry_keeps m q size first second;
}
