use Rattle.std.proofs.Common.{refl, ◌∙◌}
use Rattle.play_model.proofs.Laws.{whole_lem}
use Rattle.asked_numbers.proofs.Laws.{ranges_lie_in_the_table}
use Rattle.song_pack.specs.Answers.{IsCause}
use Rattle.song_pack.proofs.HandedOn.{err_caused}
use Rattle.song_pack.proofs.Answered.{stands, exact, size, short, cause}
use Rattle.song_pack.proofs.MadeSongs.{order_few, placed, numbered}
use Rattle.song_pack.proofs.packing.pack_song.Goals as goal

pub packed_patterns-requires-clause-stored : goal.packed_patterns-requires-clause-stored
packed_patterns-requires-clause-stored c p marked =
    (whole_lem c.args.song.now c.requires.playable).pattern p ((c.requires.parts.patterns.each p).0 marked)

pub packed_instruments-requires : goal.packed_instruments-requires
packed_instruments-requires c = record {
  few = order_few c.args.song.now c.args.usage.now c.deref.result.now (c.deref.ensures.value ∙ c.in_ok-order.ensures);
}

pub instrument_numbers-numbers-requires : goal.instrument_numbers-numbers-requires
instrument_numbers-numbers-requires c = record {
  few = order_few c.args.song.now c.args.usage.now c.deref-2.result.now
      (c.deref-2.ensures.value ∙ c.in_ok-order.ensures);
}

pub returns-in_err-patterns-clause-fault : goal.returns-in_err-patterns-clause-fault
returns-in_err-patterns-clause-fault c used are limits =
    err_caused (IsCause c.args.song.now used) c.in_err-patterns.field-0.0 c.from_residual-in_err-patterns.result
    c.from_residual-in_err-patterns.ensures.1
    (cause c.args.song.now c.args.usage.now c.in_ok-tables.tables c.instrument_numbers-numbers.result
    c.requires.playable
    c.requires.parts c.in_ok-tables.ensures
    (numbered c.args.song.now c.args.usage.now c.deref-2.result.now c.instrument_numbers-numbers.result
    (c.deref-2.ensures.value ∙ c.in_ok-order.ensures) c.instrument_numbers-numbers.ensures.numbers)
    c.in_err-patterns.field-0.0 c.in_err-patterns.ensures.fault used are limits)

pub invariant_of-result-clause-numbers_within : goal.invariant_of-result-clause-numbers_within
invariant_of-result-clause-numbers_within c =
    ranges_lie_in_the_table c.args.song.now c.number_range.result c.number_range.ensures

pub returns-clause-stands : goal.returns-clause-stands
returns-clause-stands c =
    stands c.args.song.now c.args.usage.now c.in_ok-tables.tables c.instrument_numbers-numbers.result
    c.requires.playable
    c.requires.parts c.in_ok-tables.ensures
    (numbered c.args.song.now c.args.usage.now c.deref-2.result.now c.instrument_numbers-numbers.result
    (c.deref-2.ensures.value ∙ c.in_ok-order.ensures) c.instrument_numbers-numbers.ensures.numbers)
    c.in_ok-patterns.patterns.to _
    (record {
      wave = refl;
      pulse = refl;
      filter = refl;
      speed = refl;
      instruments = placed c.args.song.now c.args.usage.now c.in_ok-tables.tables c.deref.result.now _
          (c.deref.ensures.value ∙ c.in_ok-order.ensures) c.in_ok-instruments.ensures;
      patterns = c.in_ok-patterns.ensures.patterns;
      subtunes = c.in_ok-subtunes.ensures;
      features = refl;
      facts = refl;
      range = c.number_range.ensures;
    })

pub returns-clause-exact : goal.returns-clause-exact
returns-clause-exact c =
    exact c.args.song.now c.args.usage.now c.in_ok-tables.tables c.instrument_numbers-numbers.result c.requires.playable
    c.requires.parts c.in_ok-tables.ensures
    (numbered c.args.song.now c.args.usage.now c.deref-2.result.now c.instrument_numbers-numbers.result
    (c.deref-2.ensures.value ∙ c.in_ok-order.ensures) c.instrument_numbers-numbers.ensures.numbers)
    c.in_ok-patterns.patterns.to _
    (record {
      wave = refl;
      pulse = refl;
      filter = refl;
      speed = refl;
      instruments = placed c.args.song.now c.args.usage.now c.in_ok-tables.tables c.deref.result.now _
          (c.deref.ensures.value ∙ c.in_ok-order.ensures) c.in_ok-instruments.ensures;
      patterns = c.in_ok-patterns.ensures.patterns;
      subtunes = c.in_ok-subtunes.ensures;
      features = refl;
      facts = refl;
      range = c.number_range.ensures;
    })

pub returns-clause-size : goal.returns-clause-size
returns-clause-size c =
    size c.args.song.now c.args.usage.now c.in_ok-tables.tables c.instrument_numbers-numbers.result c.requires.playable
    c.requires.parts c.in_ok-tables.ensures
    (numbered c.args.song.now c.args.usage.now c.deref-2.result.now c.instrument_numbers-numbers.result
    (c.deref-2.ensures.value ∙ c.in_ok-order.ensures) c.instrument_numbers-numbers.ensures.numbers)
    c.in_ok-patterns.patterns.to _
    (record {
      wave = refl;
      pulse = refl;
      filter = refl;
      speed = refl;
      instruments = placed c.args.song.now c.args.usage.now c.in_ok-tables.tables c.deref.result.now _
          (c.deref.ensures.value ∙ c.in_ok-order.ensures) c.in_ok-instruments.ensures;
      patterns = c.in_ok-patterns.ensures.patterns;
      subtunes = c.in_ok-subtunes.ensures;
      features = refl;
      facts = refl;
      range = c.number_range.ensures;
    })

pub returns-clause-short : goal.returns-clause-short
returns-clause-short c =
    short c.args.song.now c.args.usage.now c.in_ok-tables.tables c.instrument_numbers-numbers.result c.requires.playable
    c.requires.parts c.in_ok-tables.ensures
    (numbered c.args.song.now c.args.usage.now c.deref-2.result.now c.instrument_numbers-numbers.result
    (c.deref-2.ensures.value ∙ c.in_ok-order.ensures) c.instrument_numbers-numbers.ensures.numbers)
    c.in_ok-patterns.patterns.to c.in_ok-patterns.patterns.list c.in_ok-patterns.ensures.patterns
