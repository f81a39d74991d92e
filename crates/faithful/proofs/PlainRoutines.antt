-- How many clock cycles a call of a routine takes that loads bytes and stores them, and nothing else.
use Rattle.std.proofs.Common.{◌≡◌, ℕ, suc, ◌+◌, ◌%◌, ◌<◌, ◌≤◌, Bool, true, false, List, [], ◌∷◌, length, refl, sym, ap}
use Rattle.std.proofs.Common.{◌∙◌, subst, arith}
use Rattle.std.proofs.lemmas.Bool.{false≢true}
use Rattle.cpu6502.specs.declared.machine.Machine.{Machine}
use Rattle.cpu6502.specs.declared.memory.TheConstants.{MEMORY_SIZE}
use Rattle.cpu6502.specs.declared.mnemonic.Mnemonic.TheVariants.{Lda, Rts, Sta}
use Rattle.code_runs.specs.Runs.{State, cycles_from}
use Rattle.code_runs.specs.Calls.{Pulls}
use Rattle.code_runs.proofs.Laws.{goes_once, puts_once, works, jmp, stands_implied, stands_immediate}
use Rattle.code_runs.proofs.Laws.{Lasts, lasts_none, lasts_on, lasts_in, lasts_once}
use Rattle.faithful.specs.Routines.{Op, LoadA, LoadX, FetchA, StoreA, StoreX, SkipNop, Wait, routine}
use Rattle.faithful.proofs.Routines.{done, all_done, step_count, EachStore, IsSafe, BytesStand, HasRoutine, at_pc, behind}
use Rattle.faithful.proofs.Routines.{end_at, absolute, load_a, store_a, bytes_stay, pulls_stay, same_sp, returns_so}
use Rattle.faithful.proofs.Routines.{back_sp, passes, begun, call_steps}

abbrev pub are_plain : List Op → Bool
are_plain [] = true
are_plain (LoadA byte ∷ ops) = are_plain ops
are_plain (StoreA place ∷ ops) = are_plain ops
are_plain (op ∷ ops) = false

abbrev pub ops_cycles : List Op → ℕ
ops_cycles [] = 0
ops_cycles (LoadA byte ∷ ops) = 2 + ops_cycles ops
ops_cycles (StoreA place ∷ ops) = 4 + ops_cycles ops
ops_cycles (op ∷ ops) = 0

one_more : (n : ℕ) → 1 + n ≡ suc n
one_more n = omega arith

plain_lasts : (W : ℕ → Type 0) (sp pc : ℕ) (ops : List Op) (s : State) → 0x1006 ≤ pc →
    BytesStand s.at pc (routine ops) → EachStore (IsSafe W sp) ops → are_plain ops ≡ true →
    Lasts W (step_count ops s) (ops_cycles ops) (at_pc pc s) (at_pc (end_at pc ops) (all_done ops s))
plain_lasts W sp pc [] s from has each plain = lasts_none _
plain_lasts W sp pc (LoadA byte ∷ ops) s from has each plain =
    let below : (pc + 1) % 65536 ≡ pc + 1 = omega (arith, has.1) in
    lasts_in (one_more (step_count ops (done (LoadA byte) s)))
    (lasts_on
    (lasts_once (stands_immediate s.at pc 0xA9 (pc + 1) byte Lda has.0 refl below has.2.0)
    (goes_once (load_a s pc byte from has.1 has.0 has.2.0)))
    (plain_lasts W sp (pc + 1 + 1) ops (done (LoadA byte) s) (omega arith) has.2.2 each plain))
plain_lasts W sp pc (StoreA place ∷ ops) s from has each plain =
    lasts_in (one_more (step_count ops (done (StoreA place) s)))
    (lasts_on
    (lasts_once (absolute s.at pc 0x8D place Sta has.0 refl has.2.0 has.2.2.0 has.1)
    (puts_once (store_a s pc place from has.1 has.0 has.2.0 has.2.2.0) each.0.may))
    (plain_lasts W sp (pc + 1 + 1 + 1) ops (done (StoreA place) s) (omega arith)
    (bytes_stay s.at place s.cpu.a (pc + 1 + 1 + 1) (routine ops) (omega arith) each.0.apart has.2.2.2) each.1 plain))
plain_lasts W sp pc (LoadX byte ∷ ops) s from has each plain = absurd (false≢true plain)
plain_lasts W sp pc (FetchA place ∷ ops) s from has each plain = absurd (false≢true plain)
plain_lasts W sp pc (StoreX place ∷ ops) s from has each plain = absurd (false≢true plain)
plain_lasts W sp pc (SkipNop ∷ ops) s from has each plain = absurd (false≢true plain)
plain_lasts W sp pc (Wait turns ∷ ops) s from has each plain = absurd (false≢true plain)

-- a jump to it, and the return
pub routine_takes : (W : ℕ → Type 0) (machine : Machine) (entry number target : ℕ) (ops : List Op) →
    length machine.memory ≡ MEMORY_SIZE → machine.cpu.sp < 256 →
    HasRoutine (begun machine entry number).at entry target ops → EachStore (IsSafe W machine.cpu.sp) ops →
    are_plain ops ≡ true →
    cycles_from (call_steps machine entry number ops) (begun machine entry number) ≡ 3 + (ops_cycles ops + 6)
routine_takes W machine entry number target ops size few has each plain =
    let s = begun machine entry number in
    let way = passes W machine.cpu.sp target ops s has.from has.bytes each in
    let sp = same_sp ops s in
    let pulls =
    subst (λ (p : ℕ). Pulls (all_done ops s).at p 255 255) (sym sp) (pulls_stay W machine entry number ops size each) in
    let jump =
    lasts_once has.jump
    (goes_once
    (jmp (works {at = s.at} {cpu = s.cpu} target ((entry + 3) % 65536) has.jump refl refl refl has.away))) in
    let back =
    lasts_once (stands_implied (all_done ops s).at (end_at target ops) 0x60 Rts way.back refl)
    (returns_so {W = W} (all_done ops s) (end_at target ops) machine.cpu.sp way.back way.from pulls
    (ap (λ p. (p + 2) % 256) sp ∙ back_sp machine.cpu.sp few)) in
    (lasts_in (one_more (step_count ops s + 1))
    (lasts_on jump (lasts_on (plain_lasts W machine.cpu.sp target ops s has.from has.bytes each plain) back))).takes
