-- What follows from what is told of a song.
use Rattle.std.proofs.Common.{ℕ, ◌+◌, ◌-◌, ◌*◌, ◌≤◌, Option, Some, None, subst, arith}
use Rattle.std.proofs.lemmas.List.Elements.{All-from_get_or}
use Rattle.cpu6502.specs.declared.machine.Machine.{Machine}
use Rattle.cpu6502.proofs.Laws.{steps_take_few_cycles}
use Rattle.sid_run.specs.State.{loaded, most_steps}
use Rattle.song_length.specs.declared.counts.Dearest.{Dearest}
use Rattle.song_length.specs.declared.measuring.Repeat.{Repeat}
use Rattle.song_length.specs.Plays.{PlayTold, Tells}
use Rattle.song_length.specs.Measured.{IsDearest}
use Rattle.song_length.specs.Told.{AreTold}
use Rattle.song_length.specs.Laws.{MeasuredSongsGoOn, FewAreTold, PlaysCostLittle}
use Rattle.song_length.proofs.Repeating.{repeating_songs_go_on}

pub measured_songs_go_on : MeasuredSongsGoOn
measured_songs_go_on psid song calls measured repeat is repeats =
    let told = subst (AreTold (loaded psid).play is.first calls measured.dearest) repeats is.told in
    let goes = repeating_songs_go_on (loaded psid).play is.first repeat.from repeat.length told.1.repeats in
    record {
      first = is.first;
      begins = is.begins;
      goes = goes;
      most = goes.most measured.dearest.cycles (λ n some few tells. told.2.3 n some few tells);
    }

-- what is told of a play takes few clock cycles
told_few : (play : ℕ) (first : Machine) (n : ℕ) (told : PlayTold) → Tells play first n told →
    told.cycles ≤ 7 * most_steps
told_few play first n told tells =
    let few = steps_take_few_cycles tells.before play tells.before.cpu.a told.steps in
    let within = tells.takes.within in
    let cycles = tells.cycles in
    omega (arith, few, within, cycles)

pub plays_cost_little : PlaysCostLittle
plays_cost_little psid song calls cycles is =
    All-from_get_or (λ play. play ≤ 7 * most_steps) cycles 0
    (λ i few.
    let many = is.costs.as_many in
    let its = is.costs.each i (omega (arith, few, many)) in
    let least = told_few (loaded psid).play is.first i its.0 its.1 in
    let same = its.2 in
    omega (arith, least, same))

dearest_few : (play : ℕ) (first : Machine) (n : ℕ) (dearest : Dearest) → IsDearest play first n (Some dearest) →
    dearest.cycles ≤ 7 * most_steps
dearest_few play first n dearest is =
    let few = told_few play first (dearest.call - 1) is.2.0 is.2.1 in
    let same = is.2.2 in
    omega (arith, few, same)

pub few_are_told : FewAreTold
few_are_told psid song calls measured is = (init_few, by measured.repeat is.told)
  where
    init_few : measured.init ≤ 7 * most_steps
    init_few =
        let few = steps_take_few_cycles (loaded psid).machine (loaded psid).init song is.begins.steps in
        let within = is.begins.takes.within in
        let cycles = is.begins.cycles_are in
        omega (arith, few, within, cycles)

    by : (repeat : Option Repeat) → AreTold (loaded psid).play is.first calls measured.dearest repeat →
        measured.dearest.cycles ≤ 7 * most_steps
    by (Some repeat) told =
        dearest_few (loaded psid).play is.first (repeat.from + repeat.length) measured.dearest told.2
    by None told = dearest_few (loaded psid).play is.first calls measured.dearest told.2
