-- Where an entrance's code stands, and that a call writes apart from it and from its return address.
use Rattle.std.proofs.Common.{◌≡◌, ℕ, ◌+◌, ◌<◌, ◌≤◌, ◌⊎◌, true, ◌++◌, inl, inr, sym, ap}
use Rattle.std.proofs.Common.{◌∙◌, subst, arith}
use Rattle.cpu6502.specs.declared.memory.TheConstants.{MEMORY_SIZE}
use Rattle.cpu6502.specs.Registers.{stack_place}
use Rattle.cpu6502.proofs.Laws.{opcodes_have_rows}
use Rattle.asm6502.specs.Lines.{kept, size_of}
use Rattle.asm6502.specs.Assembly.{assembled_bytes}
use Rattle.asm6502.specs.Standing.{LinesAt}
use Rattle.asm6502.specs.Stretches.{HasBytes}
use Rattle.asm6502.proofs.Laws.{kept-append, size_of-append, stretches_stand}
use Rattle.scope_lines.specs.Lowered.{writes_at}
use Rattle.scope_lines.proofs.Laws.{Ground}
use Rattle.scope_calls.specs.Entrances.{entrance_lines}
use Rattle.scope_calls.specs.Listed.{Listed, listing_at, end_at, low_at, high_at, layout_at, HasCode, IsWellEntered}
use Rattle.scope_calls.specs.Listed.{MayStore, AsBlock, AsCall}
use Rattle.scope_calls.proofs.Sizing.{entrances_take_size, entrance_kept, place_within}

-- the listing ends behind the entrance's lines
pub lines_in_listing : (e : Listed) → high_at e ≤ end_at e
lines_in_listing e =
    let own = entrance_lines e.entrance in
    let a =
    ap size_of (kept-append e.set e.front (own ++ e.back))
    ∙ size_of-append (kept e.set e.front) (kept e.set (own ++ e.back)) in
    let b = ap size_of (kept-append e.set own e.back) ∙ size_of-append (kept e.set own) (kept e.set e.back) in
    let c = ap size_of (entrance_kept e.set e.entrance) ∙ entrances_take_size e.entrance in
    omega (arith, a, b, c)

-- the code stands between $0800 and $D000
pub record Bounds (e : Listed) : Type 0 where
  pub low : 0x0800 ≤ low_at e
  pub high : high_at e ≤ 0xD000
  pub entry_low : 0x0800 ≤ e.entry
  pub entry_high : e.entry + 3 ≤ 0xD000

pub bounds_of : (e : Listed) → IsWellEntered e → Bounds e
bounds_of e well =
    let within = lines_in_listing e in
    record {
      low = omega (arith, well.begins);
      high = omega (arith, within, well.ends);
      entry_low = omega (arith, well.begins, well.jump_begins);
      entry_high = omega (arith, well.jump_ends, well.ends);
    }

-- labels are in the listing, or right behind it
pub labels_below : (e : Listed) (label : ℕ) → IsWellEntered e → (layout_at e).address label < MEMORY_SIZE
labels_below e label well =
    let within = place_within (kept e.set (listing_at e)) label in
    omega (arith, within, well.ends)

-- what the lines of an entrance stand on
abbrev pub ground_of : (e : Listed) → (ℕ → ℕ) → IsWellEntered e → Ground
ground_of e at well = record {
  layout = layout_at e;
  code = at;
  start = (layout_at e).address e.entrance.label;
  low = low_at e;
  high = high_at e;
  laid = record {
    labels = λ label. labels_below e label well;
    pointer = well.pointer_high;
  };
  away = (let bounds = bounds_of e well in omega (arith, bounds.low));
  ends = (let bounds = bounds_of e well in omega (arith, bounds.high));
  apart = well.writes_outside;
}

-- and that they stand
pub code_stands : (e : Listed) (at : ℕ → ℕ) → IsWellEntered e → HasCode e at →
    LinesAt (layout_at e).address at (low_at e) (entrance_lines e.entrance)
code_stands e at well has =
    let own = entrance_lines e.entrance in
    let same = entrance_kept e.set e.entrance in
    let size = ap size_of same ∙ entrances_take_size e.entrance in
    let bytes : HasBytes at e.origin (size_of (kept e.set e.front)) (size_of (kept e.set own))
    (assembled_bytes e.set e.origin (listing_at e)) =
    subst (λ n. HasBytes at e.origin (size_of (kept e.set e.front)) n (assembled_bytes e.set e.origin (listing_at e)))
    (sym size) has.bytes in
    subst (λ ls. LinesAt (layout_at e).address at (low_at e) ls) same
    (stretches_stand opcodes_have_rows e.set e.origin e.front own e.back at well.assembles bytes)

-- ---- where a call writes

-- in memory, and not in the code
pub store_below : (e : Listed) (sp place : ℕ) → IsWellEntered e → MayStore e sp place → place < MEMORY_SIZE
store_below e sp place well (AsBlock may) = well.writes_below place may
store_below e sp place well (AsCall block voice (inl is)) = omega (arith, is)
store_below e sp place well (AsCall block voice (inr is)) = omega (arith, is)

pub store_outside : (e : Listed) (sp place : ℕ) → IsWellEntered e → MayStore e sp place →
    (place < low_at e) ⊎ (high_at e ≤ place)
store_outside e sp place well (AsBlock may) = well.writes_outside place may
store_outside e sp place well (AsCall block voice (inl is)) =
    (let bounds = bounds_of e well in inl (omega (arith, is, bounds.low)))
store_outside e sp place well (AsCall block voice (inr is)) =
    (let bounds = bounds_of e well in inl (omega (arith, is, bounds.low)))

-- not where the return address is
pub block_off_stack : (e : Listed) (sp : ℕ) → IsWellEntered e → writes_at (layout_at e) (stack_place sp) ≡ true → ⊥
block_off_stack e sp well may = neither (well.writes_off_stack (stack_place sp) may)
  where
    neither : (stack_place sp < 256) ⊎ (512 ≤ stack_place sp) → ⊥
    neither (inl h) = omega arith
    neither (inr h) = omega arith

-- it is at the stack pointer and one below it
pub return_unwritten : (e : Listed) (sp : ℕ) → IsWellEntered e → (MayStore e sp (stack_place sp) → ⊥)
    × (MayStore e sp (stack_place (sp + 255)) → ⊥)
return_unwritten e sp well = (first, second)
  where
    first : MayStore e sp (stack_place sp) → ⊥
    first (AsBlock may) = block_off_stack e sp well may
    first (AsCall block voice (inl is)) = omega (arith, is)
    first (AsCall block voice (inr is)) = omega (arith, is)

    second : MayStore e sp (stack_place (sp + 255)) → ⊥
    second (AsBlock may) = block_off_stack e (sp + 255) well may
    second (AsCall block voice (inl is)) = omega (arith, is)
    second (AsCall block voice (inr is)) = omega (arith, is)
