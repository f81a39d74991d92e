-- Behind a call the decimal flag is clear, and the interrupt flag as it was.
use Rattle.std.proofs.Common.{◌≡◌, ℕ, ◌+◌, Bool, true, false, Option, Some, None, refl, ap, ◌∙◌}
use Rattle.std.proofs.lemmas.Bool.{and_parts}
use Rattle.cpu6502.specs.declared.cpu.Cpu.{Cpu}
use Rattle.scopes.specs.Desk.{Desk, Layout}
use Rattle.scopes.specs.Trees.{Tree}
use Rattle.scopes.specs.Meaning.{Outcome, Done, Left, Again, Stuck, Ran, each_one, behind, and_then, ran}
use Rattle.scope_lines.specs.Reach.{nothing_around, has_lines}
use Rattle.scope_calls.specs.Entrances.{Entrance, voices_place, voice_has_lines}
use Rattle.scope_calls.specs.Meaning.{cleared, at_voice, called_from, back, voice_called, voice_last, voices_ran}
use Rattle.scope_calls.specs.Meaning.{entrance_ran}
use Rattle.scope_calls.specs.Listed.{layout_at, entrance_desk}
use Rattle.scope_calls.specs.EntranceLaws.{FlagsAreClear}
use Rattle.scope_calls.proofs.Keeping.{ran_keeps}

-- the decimal and the interrupt flag
abbrev pub quiet_flags : Cpu → Bool × Bool
quiet_flags cpu = (cpu.d, cpu.i)

abbrev cleared_flags : Cpu → Bool × Bool
cleared_flags cpu = (false, cpu.i)

abbrev Stays : Desk → Ran → Type 0
Stays desk r = quiet_flags r.desk.cpu ≡ quiet_flags desk.cpu

abbrev last_two : ℕ × Bool × Bool → Bool × Bool
last_two c = (c.1, c.2)

ran_stays : (layout : Layout) (tree : Tree) (desk : Desk) → has_lines nothing_around tree ≡ true →
    Stays desk (ran each_one layout tree desk)
ran_stays layout tree desk has = ap last_two (ran_keeps each_one layout nothing_around tree desk has)

then_stays : (desk : Desk) (one : Ran) (next : Desk → Ran) → Stays desk one → Stays one.desk (next one.desk) →
    Stays desk (and_then one next)
then_stays desk one next first rest = by_outcome one.outcome
  where
    by_outcome : (o : Outcome) → Stays desk (behind o one next)
    by_outcome Done = rest ∙ first
    by_outcome (Left name) = first
    by_outcome Again = first
    by_outcome Stuck = first

called_stays : (layout : Layout) (block : Tree) (last voice : ℕ) (desk : Desk) →
    has_lines nothing_around block ≡ true → Stays desk (voice_called layout block last voice desk)
called_stays layout block last voice desk has =
    then_stays desk (ran each_one layout block (called_from last (at_voice voice desk))) back
    (ran_stays layout block (called_from last (at_voice voice desk)) has) refl

voices_stay : (layout : Layout) (voice : Option Tree) (place : ℕ) (desk : Desk) → voice_has_lines voice ≡ true →
    Stays desk (voices_ran layout voice place desk)
voices_stay layout None place desk has = refl
voices_stay layout (Some block) place desk has =
    let one = voice_called layout block (place + 4) 0 desk in
    let two = voice_called layout block (place + 9) 1 one.desk in
    then_stays desk one (λ next. and_then (voice_called layout block (place + 9) 1 next) (voice_last layout block))
    (called_stays layout block (place + 4) 0 desk has)
    (then_stays one.desk two (voice_last layout block) (called_stays layout block (place + 9) 1 one.desk has)
    (ran_stays layout block (at_voice 2 two.desk) has))

entrance_clear : (layout : Layout) (e : Entrance) (desk : Desk) → has_lines nothing_around e.first ≡ true →
    voice_has_lines e.voice ≡ true →
    quiet_flags (entrance_ran layout e desk).desk.cpu ≡ cleared_flags desk.cpu
entrance_clear layout e desk has has_voice =
    let start = cleared desk in
    let one = ran each_one layout e.first start in
    let place = layout.address e.label + voices_place e in
    then_stays start one (λ next. and_then (voices_ran layout e.voice place next) back)
    (ran_stays layout e.first start has)
    (then_stays one.desk (voices_ran layout e.voice place one.desk) back
    (voices_stay layout e.voice place one.desk has_voice) refl)

pub flags_are_clear : FlagsAreClear
flags_are_clear e machine number well r =
    let lines = and_parts (has_lines nothing_around e.entrance.first) (voice_has_lines e.entrance.voice) well.lines in
    let clear = entrance_clear (layout_at e) e.entrance (entrance_desk e machine number) lines.0 lines.1 in
    record {
      decimal = ap (λ s. s.cpu.d) r.seen ∙ ap (λ c. c.0) clear;
      interrupts = ap (λ s. s.cpu.i) r.seen ∙ ap (λ c. c.1) clear;
    }
