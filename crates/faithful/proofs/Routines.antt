-- Routines of small images, run wherever they stand, from any registers and in any memory.
use Rattle.std.proofs.Common.{◌≡◌, ◌≢◌, ℕ, suc, ◌+◌, ◌/◌, ◌%◌, ◌<◌, ◌≤◌, ◌⊎◌}
use Rattle.std.proofs.Common.{inl, inr, Bool, true, false, if◌then◌else◌, List, [], ◌∷◌, length, Some, refl}
use Rattle.std.proofs.Common.{sym, ap, ◌∙◌, subst, arith}
use Rattle.cpu6502.specs.declared.machine.Machine.{Machine}
use Rattle.cpu6502.specs.declared.memory.TheConstants.{MEMORY_SIZE}
use Rattle.cpu6502.specs.declared.mnemonic.Mnemonic.{Mnemonic}
use Rattle.cpu6502.specs.declared.mnemonic.Mnemonic.TheVariants.{Beq, Jmp, Lda, Ldx, Ldy, Nop, Rts, Sta, Stx}
use Rattle.cpu6502.specs.declared.mnemonic.Mode.TheVariants.{Absolute}
use Rattle.cpu6502.specs.Opcodes.{meaning_of}
use Rattle.cpu6502.specs.Registers.{stack_place, with_a, with_x, with_y}
use Rattle.cpu6502.specs.Call.{entered}
use Rattle.code_runs.specs.Runs.{State, view, put, Goes, Puts, Leads}
use Rattle.code_runs.specs.Code.{Stands}
use Rattle.code_runs.specs.Calls.{IsBelow, CallsTo, Pulls}
use Rattle.code_runs.proofs.Laws.{jumped, stay, goes, puts, goes_once, leads_on, put_other, stands_implied}
use Rattle.code_runs.proofs.Laws.{stands_immediate, stands_absolute, stands_relative, works, reads, reads_immediate}
use Rattle.code_runs.proofs.Laws.{load_steps, flag_steps, lda, ldx, sta, jmp, rts, beq_taken, beq_passed, call_returns}
use Rattle.code_runs.proofs.Laws.{entry_pulls}
use Rattle.faithful.specs.Routines.{Op, LoadA, LoadX, FetchA, StoreA, StoreX, SkipNop, Wait, routine}
use Rattle.faithful.proofs.Waiting.{LoopStands, wait_steps, loop_leads}

-- ---- what a routine does

abbrev pub done : Op → State → State
done (LoadA byte) s = record { cpu = with_a s.cpu byte; at = s.at }
done (LoadX byte) s = record { cpu = with_x s.cpu byte; at = s.at }
done (FetchA place) s = record { cpu = with_a s.cpu (s.at place); at = s.at }
done (StoreA place) s = record { cpu = s.cpu; at = put s.at place s.cpu.a }
done (StoreX place) s = record { cpu = s.cpu; at = put s.at place s.cpu.x }
done SkipNop s = s
done (Wait turns) s = record { cpu = with_y (with_x s.cpu 0) 0; at = s.at }

abbrev pub all_done : List Op → State → State
all_done [] s = s
all_done (op ∷ ops) s = all_done ops (done op s)

-- in how many steps, before n more
abbrev skipped : Bool → ℕ → ℕ
skipped is_zero n = if is_zero then suc n else suc (suc n)

abbrev steps_on : Op → State → ℕ → ℕ
steps_on (LoadA byte) s n = suc n
steps_on (LoadX byte) s n = suc n
steps_on (FetchA place) s n = suc n
steps_on (StoreA place) s n = suc n
steps_on (StoreX place) s n = suc n
steps_on SkipNop s n = skipped s.cpu.z n
steps_on (Wait turns) s n = suc (suc (wait_steps (turns % 256) + n))

abbrev pub step_count : List Op → State → ℕ
step_count [] s = 0
step_count (op ∷ ops) s = steps_on op s (step_count ops (done op s))

-- where its RTS stands
abbrev pub behind : ℕ → Op → ℕ
behind pc (LoadA byte) = pc + 1 + 1
behind pc (LoadX byte) = pc + 1 + 1
behind pc (FetchA place) = pc + 1 + 1 + 1
behind pc (StoreA place) = pc + 1 + 1 + 1
behind pc (StoreX place) = pc + 1 + 1 + 1
behind pc SkipNop = pc + 1 + 1 + 1
behind pc (Wait turns) = pc + 1 + 1 + 1 + 1 + 1 + 1 + 1 + 1 + 1 + 1 + 1 + 1

abbrev pub end_at : ℕ → List Op → ℕ
end_at pc [] = pc
end_at pc (op ∷ ops) = end_at (behind pc op) ops

-- each place at which it stores
abbrev pub EachStore : (ℕ → Type 0) → List Op → Type 0
EachStore P [] = Unit {0}
EachStore P (LoadA byte ∷ ops) = EachStore P ops
EachStore P (LoadX byte ∷ ops) = EachStore P ops
EachStore P (FetchA place ∷ ops) = EachStore P ops
EachStore P (StoreA place ∷ ops) = P place × EachStore P ops
EachStore P (StoreX place ∷ ops) = P place × EachStore P ops
EachStore P (SkipNop ∷ ops) = EachStore P ops
EachStore P (Wait turns ∷ ops) = EachStore P ops

-- a place that keeps the routine and the return address as they are
pub record IsSafe (W : ℕ → Type 0) (sp place : ℕ) : Type 0 where
  pub may : W place
  pub apart : (place < 0x1006) ⊎ (0x2000 ≤ place)
  pub first : place ≢ stack_place sp
  pub second : place ≢ stack_place (sp + 255)

-- these bytes stand from a place on, below $2000
abbrev pub BytesStand : (ℕ → ℕ) → ℕ → List ℕ → Type 0
BytesStand at pc [] = Unit {0}
BytesStand at pc (byte ∷ bytes) = (at pc ≡ byte) × (pc < 0x2000) × BytesStand at (pc + 1) bytes

-- ---- memory

differs : (pc place : ℕ) → 0x1006 ≤ pc → pc < 0x2000 → (place < 0x1006) ⊎ (0x2000 ≤ place) → pc ≡ place → ⊥
differs pc place from below (inl low) e = omega arith
differs pc place from below (inr high) e = omega arith

pub bytes_stay : (at : ℕ → ℕ) (place byte pc : ℕ) (bytes : List ℕ) → 0x1006 ≤ pc → (place < 0x1006) ⊎ (0x2000 ≤ place) →
    BytesStand at pc bytes → BytesStand (put at place byte) pc bytes
bytes_stay at place byte pc [] from apart has = tt
bytes_stay at place byte pc (first ∷ bytes) from apart has = (
  put_other at place byte pc (differs pc place from has.1 apart) ∙ has.0,
  has.1,
  bytes_stay at place byte (pc + 1) bytes (omega arith) apart has.2,
)

-- a byte at which it doesn't store is as before
pub others_stay : (P : ℕ → Type 0) (ops : List Op) (s : State) (q : ℕ) → EachStore P ops → (P q → ⊥) →
    (all_done ops s).at q ≡ s.at q
others_stay P [] s q each out = refl
others_stay P (LoadA byte ∷ ops) s q each out = others_stay P ops (done (LoadA byte) s) q each out
others_stay P (LoadX byte ∷ ops) s q each out = others_stay P ops (done (LoadX byte) s) q each out
others_stay P (FetchA place ∷ ops) s q each out = others_stay P ops (done (FetchA place) s) q each out
others_stay P (StoreA place ∷ ops) s q each out =
    others_stay P ops (done (StoreA place) s) q each.1 out
    ∙ put_other s.at place s.cpu.a q (λ e. out (subst P (sym e) each.0))
others_stay P (StoreX place ∷ ops) s q each out =
    others_stay P ops (done (StoreX place) s) q each.1 out
    ∙ put_other s.at place s.cpu.x q (λ e. out (subst P (sym e) each.0))
others_stay P (SkipNop ∷ ops) s q each out = others_stay P ops s q each out
others_stay P (Wait turns ∷ ops) s q each out = others_stay P ops (done (Wait turns) s) q each out

-- so is the stack pointer
pub same_sp : (ops : List Op) (s : State) → (all_done ops s).cpu.sp ≡ s.cpu.sp
same_sp [] s = refl
same_sp (LoadA byte ∷ ops) s = same_sp ops (done (LoadA byte) s)
same_sp (LoadX byte ∷ ops) s = same_sp ops (done (LoadX byte) s)
same_sp (FetchA place ∷ ops) s = same_sp ops (done (FetchA place) s)
same_sp (StoreA place ∷ ops) s = same_sp ops (done (StoreA place) s)
same_sp (StoreX place ∷ ops) s = same_sp ops (done (StoreX place) s)
same_sp (SkipNop ∷ ops) s = same_sp ops s
same_sp (Wait turns ∷ ops) s = same_sp ops (done (Wait turns) s)

-- ---- its instructions

abbrev pub at_pc : ℕ → State → State
at_pc pc s = record { cpu = jumped s.cpu pc; at = s.at }

pub absolute : (at : ℕ → ℕ) (pc opcode place : ℕ) (mn : Mnemonic) → at pc ≡ opcode →
    meaning_of opcode ≡ Some (mn, Absolute) → at (pc + 1) ≡ place % 256 → at (pc + 1 + 1) ≡ place / 256 →
    pc < 0x2000 → Stands at pc mn Absolute place
absolute at pc opcode place mn e m low high below =
    stands_absolute at pc opcode (pc + 1) (pc + 1 + 1) (place % 256) (place / 256) place mn e m (omega arith)
    (omega arith) low high (omega arith)

pub load_a : (s : State) (pc byte : ℕ) → 0x1006 ≤ pc → pc < 0x2000 → s.at pc ≡ 0xA9 → s.at (pc + 1) ≡ byte →
    Goes (at_pc pc s) (jumped (with_a s.cpu byte) (pc + 1 + 1))
load_a s pc byte from below e b =
    lda
    (reads_immediate {at = s.at} {cpu = jumped s.cpu pc} (pc + 1 + 1)
    (stands_immediate s.at pc 0xA9 (pc + 1) byte Lda e refl (omega arith) b) (omega arith) (omega arith))

load_x : (s : State) (pc byte : ℕ) → 0x1006 ≤ pc → pc < 0x2000 → s.at pc ≡ 0xA2 → s.at (pc + 1) ≡ byte →
    Goes (at_pc pc s) (jumped (with_x s.cpu byte) (pc + 1 + 1))
load_x s pc byte from below e b =
    ldx
    (reads_immediate {at = s.at} {cpu = jumped s.cpu pc} (pc + 1 + 1)
    (stands_immediate s.at pc 0xA2 (pc + 1) byte Ldx e refl (omega arith) b) (omega arith) (omega arith))

load_y : (s : State) (pc byte : ℕ) → 0x1006 ≤ pc → pc < 0x2000 → s.at pc ≡ 0xA0 → s.at (pc + 1) ≡ byte →
    Goes (at_pc pc s) (jumped (with_y s.cpu byte) (pc + 1 + 1))
load_y s pc byte from below e b =
    load_steps.ldy
    (reads_immediate {at = s.at} {cpu = jumped s.cpu pc} (pc + 1 + 1)
    (stands_immediate s.at pc 0xA0 (pc + 1) byte Ldy e refl (omega arith) b) (omega arith) (omega arith))

fetch_a : (s : State) (pc place : ℕ) → 0x1006 ≤ pc → pc < 0x2000 → s.at pc ≡ 0xAD → s.at (pc + 1) ≡ place % 256 →
    s.at (pc + 1 + 1) ≡ place / 256 →
    Goes (at_pc pc s) (jumped (with_a s.cpu (s.at place)) (pc + 1 + 1 + 1))
fetch_a s pc place from below e low high =
    lda
    (reads
    (works {at = s.at} {cpu = jumped s.cpu pc} place (pc + 1 + 1 + 1) (absolute s.at pc 0xAD place Lda e refl low high below)
    refl refl (omega arith) (omega arith)) refl)

pub store_a : (s : State) (pc place : ℕ) → 0x1006 ≤ pc → pc < 0x2000 → s.at pc ≡ 0x8D → s.at (pc + 1) ≡ place % 256 →
    s.at (pc + 1 + 1) ≡ place / 256 →
    Puts (at_pc pc s) (jumped s.cpu (pc + 1 + 1 + 1)) place s.cpu.a
store_a s pc place from below e low high =
    sta
    (works {at = s.at} {cpu = jumped s.cpu pc} place (pc + 1 + 1 + 1) (absolute s.at pc 0x8D place Sta e refl low high below)
    refl refl (omega arith) (omega arith))

store_x : (s : State) (pc place : ℕ) → 0x1006 ≤ pc → pc < 0x2000 → s.at pc ≡ 0x8E → s.at (pc + 1) ≡ place % 256 →
    s.at (pc + 1 + 1) ≡ place / 256 →
    Puts (at_pc pc s) (jumped s.cpu (pc + 1 + 1 + 1)) place s.cpu.x
store_x s pc place from below e low high =
    load_steps.stx
    (works {at = s.at} {cpu = jumped s.cpu pc} place (pc + 1 + 1 + 1) (absolute s.at pc 0x8E place Stx e refl low high below)
    refl refl (omega arith) (omega arith))

behind_nop : (pc : ℕ) → pc < 0x2000 → (pc + 2 + 1) % 65536 ≡ pc + 1 + 1 + 1
behind_nop pc below = omega arith

-- BEQ passes over the NOP, or comes to it
skip_nop : {W : ℕ → Type 0} {n : ℕ} {after : State} (s : State) (pc : ℕ) → 0x1006 ≤ pc → pc < 0x2000 →
    s.at pc ≡ 0xF0 → s.at (pc + 1) ≡ 0x01 → s.at (pc + 1 + 1) ≡ 0xEA → (is_zero : Bool) → s.cpu.z ≡ is_zero →
    Leads W n (at_pc (pc + 1 + 1 + 1) s) after → Leads W (skipped is_zero n) (at_pc pc s) after
skip_nop s pc from below e b nop true is rest =
    goes
    (beq_taken
    (works {at = s.at} {cpu = jumped s.cpu pc} (pc + 1 + 1 + 1) (pc + 1 + 1)
    (stands_relative s.at pc 0xF0 (pc + 1) 1 (pc + 1 + 1 + 1) Beq e refl (omega arith) b (behind_nop pc below)) refl refl
    (omega arith) (omega arith)) is) rest
skip_nop s pc from below e b nop false is rest =
    goes
    (beq_passed
    (works {at = s.at} {cpu = jumped s.cpu pc} (pc + 1 + 1 + 1) (pc + 1 + 1)
    (stands_relative s.at pc 0xF0 (pc + 1) 1 (pc + 1 + 1 + 1) Beq e refl (omega arith) b (behind_nop pc below)) refl refl
    (omega arith) (omega arith)) is)
    (goes
    (flag_steps.nop
    (works {at = s.at} {cpu = jumped s.cpu (pc + 1 + 1)} 0 (pc + 1 + 1 + 1)
    (stands_implied s.at (pc + 1 + 1) 0xEA Nop nop refl) refl refl (omega arith) (omega arith))) rest)

waits : (at : ℕ → ℕ) (a : ℕ) (rest : List ℕ) → 0x1006 ≤ a →
    BytesStand at a (0xEA ∷ 0xEA ∷ 0xCA ∷ 0xD0 ∷ 0xFB ∷ 0x88 ∷ 0xD0 ∷ 0xF8 ∷ rest) →
    LoopStands at a × BytesStand at (a + 1 + 1 + 1 + 1 + 1 + 1 + 1 + 1) rest
waits at a rest from has = (
  record {
    from = from;
    below = has.2.2.2.2.2.2.2.1;
    one = has.0;
    two = has.2.0;
    down = has.2.2.0;
    on = has.2.2.2.0;
    back = has.2.2.2.2.0;
    outer_down = has.2.2.2.2.2.0;
    outer_on = has.2.2.2.2.2.2.0;
    outer_back = has.2.2.2.2.2.2.2.0;
  },
  has.2.2.2.2.2.2.2.2,
)

-- ---- from its first instruction to its RTS

pub record Passes (W : ℕ → Type 0) (pc : ℕ) (ops : List Op) (s : State) : Type 0 where
  pub leads : Leads W (step_count ops s) (at_pc pc s) (at_pc (end_at pc ops) (all_done ops s))
  pub back : (all_done ops s).at (end_at pc ops) ≡ 0x60
  pub from : 0x1006 ≤ end_at pc ops
  pub below : end_at pc ops < 0x2000

-- an instruction, or a few, and then the rest
record PassesOne (W : ℕ → Type 0) (sp pc : ℕ) (op : Op) (ops : List Op) (s : State) : Type 0 where
  from : 0x1006 ≤ behind pc op
  bytes : BytesStand (done op s).at (behind pc op) (routine ops)
  each : EachStore (IsSafe W sp) ops
  leads : (n : ℕ) (after : State) → Leads W n (at_pc (behind pc op) (done op s)) after →
      Leads W (steps_on op s n) (at_pc pc s) after

passes_one : (W : ℕ → Type 0) (sp pc : ℕ) (op : Op) (ops : List Op) (s : State) → 0x1006 ≤ pc →
    BytesStand s.at pc (routine (op ∷ ops)) → EachStore (IsSafe W sp) (op ∷ ops) → PassesOne W sp pc op ops s
passes_one W sp pc (LoadA byte) ops s from has each = record {
  from = omega arith;
  bytes = has.2.2;
  each = each;
  leads = λ n after rest. goes (load_a s pc byte from has.1 has.0 has.2.0) rest;
}
passes_one W sp pc (LoadX byte) ops s from has each = record {
  from = omega arith;
  bytes = has.2.2;
  each = each;
  leads = λ n after rest. goes (load_x s pc byte from has.1 has.0 has.2.0) rest;
}
passes_one W sp pc (FetchA place) ops s from has each = record {
  from = omega arith;
  bytes = has.2.2.2;
  each = each;
  leads = λ n after rest. goes (fetch_a s pc place from has.1 has.0 has.2.0 has.2.2.0) rest;
}
passes_one W sp pc (StoreA place) ops s from has each = record {
  from = omega arith;
  bytes = bytes_stay s.at place s.cpu.a (pc + 1 + 1 + 1) (routine ops) (omega arith) each.0.apart has.2.2.2;
  each = each.1;
  leads = λ n after rest. puts (store_a s pc place from has.1 has.0 has.2.0 has.2.2.0) each.0.may rest;
}
passes_one W sp pc (StoreX place) ops s from has each = record {
  from = omega arith;
  bytes = bytes_stay s.at place s.cpu.x (pc + 1 + 1 + 1) (routine ops) (omega arith) each.0.apart has.2.2.2;
  each = each.1;
  leads = λ n after rest. puts (store_x s pc place from has.1 has.0 has.2.0 has.2.2.0) each.0.may rest;
}
passes_one W sp pc SkipNop ops s from has each = record {
  from = omega arith;
  bytes = has.2.2.2;
  each = each;
  leads = λ n after rest. skip_nop s pc from has.1 has.0 has.2.0 has.2.2.0 s.cpu.z refl rest;
}
passes_one W sp pc (Wait turns) ops s from has each =
    let loop = waits s.at (pc + 1 + 1 + 1 + 1) (routine ops) (omega arith) has.2.2.2.2 in
    let begins : State = record { cpu = with_x s.cpu 0; at = s.at } in
    record {
      from = omega arith;
      bytes = loop.1;
      each = each;
      leads = λ n after rest.
          goes (load_x s pc 0 from has.1 has.0 has.2.0)
          (goes (load_y begins (pc + 1 + 1) (turns % 256) (omega arith) has.2.2.1 has.2.2.0 has.2.2.2.0)
          (leads_on
          (loop_leads s.at (pc + 1 + 1 + 1 + 1) loop.0 (turns % 256) (with_y (with_x s.cpu 0) (turns % 256)) (few_turns turns) refl refl)
          rest));
    }
  where
    few_turns : (turns : ℕ) → turns % 256 < 256
    few_turns turns = omega arith

pub passes : (W : ℕ → Type 0) (sp pc : ℕ) (ops : List Op) (s : State) → 0x1006 ≤ pc →
    BytesStand s.at pc (routine ops) → EachStore (IsSafe W sp) ops → Passes W pc ops s
passes W sp pc [] s from has each = record { leads = stay _; back = has.0; from = from; below = has.1 }
passes W sp pc (op ∷ ops) s from has each =
    let one = passes_one W sp pc op ops s from has each in
    let rest = passes W sp (behind pc op) ops (done op s) one.from one.bytes one.each in
    record {
      leads = one.leads (step_count ops (done op s)) (at_pc (end_at (behind pc op) ops) (all_done ops (done op s))) rest.leads;
      back = rest.back;
      from = rest.from;
      below = rest.below;
    }

-- ---- a call of it

-- the state in which a call begins
abbrev pub begun : Machine → ℕ → ℕ → State
begun machine entry number = view (entered machine entry number)

-- and the one in which it has returned
abbrev pub ended : Machine → ℕ → ℕ → List Op → State
ended machine entry number ops = record {
  cpu = record (all_done ops (begun machine entry number)).cpu { pc = 0; sp = machine.cpu.sp };
  at = (all_done ops (begun machine entry number)).at;
}

abbrev pub call_steps : Machine → ℕ → ℕ → List Op → ℕ
call_steps machine entry number ops = suc (step_count ops (begun machine entry number) + 1)

-- a jump to a routine
pub record HasRoutine (at : ℕ → ℕ) (entry target : ℕ) (ops : List Op) : Type 0 where
  pub away : 0 < entry
  pub jump : Stands at entry Jmp Absolute target
  pub from : 0x1006 ≤ target
  pub bytes : BytesStand at target (routine ops)

pub back_sp : (sp : ℕ) → sp < 256 → ((sp + 254) % 256 + 2) % 256 ≡ sp
back_sp sp few = omega arith

-- the return address is still there
pub pulls_stay : (W : ℕ → Type 0) (machine : Machine) (entry number : ℕ) (ops : List Op) →
    length machine.memory ≡ MEMORY_SIZE → EachStore (IsSafe W machine.cpu.sp) ops →
    Pulls (all_done ops (begun machine entry number)).at ((machine.cpu.sp + 254) % 256) 255 255
pulls_stay W machine entry number ops size each =
    let sp = machine.cpu.sp in
    let pulls = entry_pulls machine size in
    record {
      low_is =
          others_stay (IsSafe W sp) ops (begun machine entry number) (stack_place ((sp + 254) % 256 + 1)) each
          (λ safe. safe.second (first sp))
          ∙ pulls.low_is;
      high_is =
          others_stay (IsSafe W sp) ops (begun machine entry number) (stack_place ((sp + 254) % 256 + 2)) each
          (λ safe. safe.first (second sp))
          ∙ pulls.high_is;
    }
  where
    first : (sp : ℕ) → stack_place ((sp + 254) % 256 + 1) ≡ stack_place (sp + 255)
    first sp = omega arith

    second : (sp : ℕ) → stack_place ((sp + 254) % 256 + 2) ≡ stack_place sp
    second sp = omega arith

pub returns_so : {W : ℕ → Type 0} (s : State) (pc sp : ℕ) → s.at pc ≡ 0x60 → 0x1006 ≤ pc → Pulls s.at s.cpu.sp 255 255 →
    (s.cpu.sp + 2) % 256 ≡ sp →
    Leads W 1 (at_pc pc s) (record { cpu = record s.cpu { pc = 0; sp = sp }; at = s.at })
returns_so s pc sp e from pulls back =
    goes_once
    (rts
    (works {at = s.at} {cpu = jumped s.cpu pc} 0 ((pc + 1) % 65536) (stands_implied s.at pc 0x60 Rts e refl) refl refl refl
    (omega arith)) pulls refl back)

pub routine_is_called : (W : ℕ → Type 0) → IsBelow W → (machine : Machine) (entry number target : ℕ) (ops : List Op) →
    length machine.memory ≡ MEMORY_SIZE → machine.cpu.sp < 256 →
    HasRoutine (begun machine entry number).at entry target ops → EachStore (IsSafe W machine.cpu.sp) ops →
    CallsTo W machine entry number (call_steps machine entry number ops) (ended machine entry number ops)
routine_is_called W below machine entry number target ops size few has each =
    let s = begun machine entry number in
    let way = passes W machine.cpu.sp target ops s has.from has.bytes each in
    let sp = same_sp ops s in
    let pulls =
    subst (λ (p : ℕ). Pulls (all_done ops s).at p 255 255) (sym sp) (pulls_stay W machine entry number ops size each) in
    call_returns W below machine entry number (call_steps machine entry number ops) (ended machine entry number ops) size
    (goes
    (jmp
    (works {at = s.at} {cpu = s.cpu} target ((entry + 3) % 65536) has.jump refl refl refl has.away))
    (leads_on way.leads
    (returns_so (all_done ops s) (end_at target ops) machine.cpu.sp way.back way.from pulls
    (ap (λ p. (p + 2) % 256) sp ∙ back_sp machine.cpu.sp few)))) refl refl
