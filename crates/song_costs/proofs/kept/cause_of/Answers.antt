use Rattle.std.proofs.Common.{◌≡◌, Option, Some, None, IsSome, refl, arith}
use Rattle.song_model.specs.declared.songs.Song.{Song}
use Rattle.usage.specs.declared.parts.UsedParts.{UsedParts}
use Rattle.usage.specs.Parts.{AreUsedParts}
use Rattle.kept_lines.specs.Asked.{asked, Asks}
use Rattle.song_places.specs.PlaceLaws.{IsOfOptions}
use Rattle.song_places.proofs.Laws.{kept_for, kept_for_none}
use Rattle.song_costs.proofs.kept.cause_of.Goals as goal

no_some : {X : Type 0} (o : Option X) → o ≡ None → IsSome o → ⊥
no_some (Some x) none some = absurd (cc)
no_some None none some = absurd (cc)

-- what the song asks for
asks : (song : Song) (parts : UsedParts) → AreUsedParts song parts → Asks song (asked parts.features.0 parts.facts)
asks song parts are = record {
  features = parts.features.0;
  facts = parts.facts;
  are_features = are.features;
  are_facts = are.facts;
  is = refl;
}

pub returns-in_err-part_place-in_default-clause-kept : goal.returns-in_err-part_place-in_default-clause-kept
returns-in_err-part_place-in_default-clause-kept c =
    let other : ¬ IsOfOptions c.args.part = (λ of. let a = of.from in let b = of.to in omega arith) in (
      λ some. absurd (no_some c.from_residual.result c.from_residual.ensures some),
      λ kept. absurd (kept_for_none c.args.song.now (asked c.args.parts.now.features.0 c.args.parts.now.facts)
          c.args.options.now c.args.part (asks c.args.song.now c.args.parts.now c.requires.parts) other
          c.in_err-part_place-in_default.ensures.none kept),
    )

pub returns-in_default-clause-kept : goal.returns-in_default-clause-kept
returns-in_default-clause-kept c =
    let other : ¬ IsOfOptions c.args.part = (λ of. let a = of.from in let b = of.to in omega arith) in (
      λ some. kept_for c.args.song.now (asked c.args.parts.now.features.0 c.args.parts.now.facts) c.args.options.now
          c.args.part c.in_ok-part_place-in_default.field-0
          (asks c.args.song.now c.args.parts.now c.requires.parts) other
          c.in_ok-part_place-in_default.ensures.first.is_such,
      λ kept. refl,
    )
