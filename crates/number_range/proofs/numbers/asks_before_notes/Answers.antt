use Rattle.std.proofs.Common.{inl, inr}
use Rattle.song_facts.specs.declared.facts.Fact.TheVariants.{RowTone}
use Rattle.number_range.proofs.SoundedNumbers.{tone_row, row_tone}
use Rattle.number_range.proofs.numbers.asks_before_notes.Goals as goal

pub returns-then-parts : goal.returns-then-parts
returns-then-parts c = (
  λ t. inl (tone_row c.args.song.now ((c.requires.facts.each RowTone).0 c.if-parts.true)),
  λ asks. c.if-parts.true,
)

pub returns-else-parts : goal.returns-else-parts
returns-else-parts c = (
  λ t. inr (c.has_feature.ensures.0 t),
  λ asks. elim asks [
    | inl tone ↦ absurd
        (let is = (c.requires.facts.each RowTone).1 (row_tone c.args.song.now tone) in
        let not = c.if-parts.false in cc)
    | inr wave ↦ c.has_feature.ensures.1 wave
  ],
)
