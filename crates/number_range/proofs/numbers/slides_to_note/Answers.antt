use Rattle.std.proofs.Common.{inl, inr}
use Rattle.number_range.proofs.SoundedNumbers.{slide_or_tie, tie_slides}
use Rattle.number_range.proofs.numbers.slides_to_note.Goals as goal

pub returns-else-has_feature : goal.returns-else-has_feature
returns-else-has_feature c = (
  λ t. tie_slides c.args.song.now (c.has_feature-else-has_feature.ensures.0 t),
  λ slides. elim (slide_or_tie c.args.song.now slides) [
    | inl slide ↦ absurd (let is = c.has_feature.ensures.1 slide in let not = c.if-has_feature.false in cc)
    | inr tie ↦ c.has_feature-else-has_feature.ensures.1 tie
  ],
)
