use Rattle.std.proofs.Common.{◌≡◌, ℕ, Option, Some, None, IsSome, refl, sym, ap, ◌∙◌}
use Rattle.usage.specs.declared.parts.UsedParts.{UsedParts}
use Rattle.kept_lines.specs.Asked.{asked}
use Rattle.kept_lines.specs.KeptLines.{keeps}
use Rattle.image_parts.specs.CodeParts.{length_of_part, part_length}
use Rattle.song_costs.proofs.KeptParts.{cost_exactly}
use Rattle.song_costs.proofs.Sums.{few_bytes}
use Rattle.song_costs.proofs.ToldSums.{is_told as told_so, told_is}
use Rattle.song_costs.proofs.kept.part_cost.Goals as goal

-- what a song with these parts asks for
abbrev asks : UsedParts → ℕ
asks parts = asked parts.features.0 parts.facts

pub part_length-bytes-requires : goal.part_length-bytes-requires
part_length-bytes-requires c = few_bytes (asks c.args.parts.now) c.args.options.now c.args.code.now c.requires.code

-- nothing is told where there are no bytes, and where there is no cause
pub returns-then-bytes-eq0-clause-told : goal.returns-then-bytes-eq0-clause-told
returns-then-bytes-eq0-clause-told c =
    let set = asks c.args.parts.now in
    let options = c.args.options.now in
    let part = c.args.part in
    let bytes = c.part_length-bytes.ensures ∙ ap (λ code. length_of_part code part) c.requires.code in (
      λ some. absurd (cc),
      λ so. absurd ((told_is (keeps set options) (part_length set options) part so).1
          (sym bytes ∙ c.if-bytes-eq0.true)),
    )

no_some : {X : Type 0} (o : Option X) → o ≡ None → IsSome o → ⊥
no_some (Some x) none some = absurd (cc)
no_some None none some = absurd (cc)

pub returns-in_err-cause-clause-told : goal.returns-in_err-cause-clause-told
returns-in_err-cause-clause-told c =
    let set = asks c.args.parts.now in
    let options = c.args.options.now in (
      λ some. absurd (no_some c.from_residual.result c.from_residual.ensures some),
      λ so. absurd (let kept = (told_is (keeps set options) (part_length set options) c.args.part so).0 in
          let some = c.in_err-cause.ensures.kept.1 kept in cc),
    )

pub returns-clause-exact : goal.returns-clause-exact
returns-clause-exact c =
    cost_exactly c.args.song.now (asks c.args.parts.now) c.args.options.now c.args.part c.part_length-bytes.result
    c.in_ok-cause.cause (c.in_ok-cause.ensures.kept.0 refl)
    (c.part_length-bytes.ensures ∙ ap (λ code. length_of_part code c.args.part) c.requires.code) c.if-bytes-eq0.false
    c.in_ok-cause.ensures.cause

pub returns-clause-told : goal.returns-clause-told
returns-clause-told c =
    let bytes = c.part_length-bytes.ensures ∙ ap (λ code. length_of_part code c.args.part) c.requires.code in
    let some = c.if-bytes-eq0.false in (
      λ so. told_so (keeps (asks c.args.parts.now) c.args.options.now)
          (part_length (asks c.args.parts.now) c.args.options.now) c.args.part (c.in_ok-cause.ensures.kept.0 refl)
          (λ none. some (bytes ∙ none)),
      λ so. refl,
    )
