-- One byte more.
use Rattle.std.proofs.Common.{ℕ, ◌+◌, ◌<◌, ◌≤◌, List, [], ◌∷◌, ◌++◌, length}
use Rattle.std.proofs.Common.{take, get_or, refl, sym, ◌∙◌, arith, subst}
use Rattle.std.proofs.lemmas.List.{take_more, length-take-le}
use Rattle.player_build.specs.declared.image.PartSpan.{PartSpan}
use Rattle.player_build.proofs.Joining.{Joins, joins_longer, joins_more}
use Rattle.player_build.proofs.spans.code_spans.Goals.{then-part-open, else-part-open+in_ok-push}
use Rattle.player_build.proofs.spans.code_spans.Goals as goal

-- the bytes so far and this one are no more than all
within : (i : ℕ) (code : List ℕ) → i < length code → length code ≤ 0xD000 → length (take i code) + 1 ≤ 0xD000
within i code inside fits =
    let size = length-take-le i code (omega (arith, inside)) in
    omega (arith, size, inside, fits)

pub overflow_add-open : goal.overflow_add-open
overflow_add-open c =
    let small = within c.loop-part.part-index c.args.code.now c.loop-part-test.true c.requires in
    let end = c.loop-part.invariant.end in
    omega (arith, small, end)

-- as far as a byte more
further : (spans : List PartSpan) (span : PartSpan) (i : ℕ) (code : List ℕ) → i < length code →
    Joins spans span (take i code ++ get_or code i 0 ∷ []) → Joins spans span (take (i + 1) code)
further spans span i code inside j = subst (Joins spans span) (sym (take_more code i 0 inside)) j

pub loop-part-preserved : goal.loop-part-preserved
loop-part-preserved c =
    let front : List ℕ = take c.loop-part.part-index c.args.code.now in
    let old : Joins c.loop-part.spans c.loop-part.open front =
    record {
      follow = c.loop-part.invariant.follow;
      end = c.loop-part.invariant.end;
      parts = c.loop-part.invariant.parts;
    } in
    let part : ℕ = get_or c.args.code.now c.loop-part.part-index 0 in
    let new : Joins c.if-part-open.spans c.if-part-open.open (front ++ part ∷ []) =
    elim c.if-part-open.branch [
      | then-part-open w ↦
          let branch = w in
          subst (λ (spans : List PartSpan). Joins spans c.if-part-open.open (front ++ part ∷ [])) (sym branch.spans-is)
          (subst (λ (span : PartSpan). Joins c.loop-part.spans span (front ++ part ∷ [])) (sym branch.open-is)
          (joins_longer c.loop-part.spans c.loop-part.open front part branch.if-part-open.true old))
      | else-part-open+in_ok-push w ↦
          let branch = w in
          subst (λ (spans : List PartSpan). Joins spans c.if-part-open.open (front ++ part ∷ []))
          (sym (branch.spans-is ∙ branch.in_ok-push.ensures.ok))
          (subst (λ (span : PartSpan). Joins (c.loop-part.spans ++ c.loop-part.open ∷ []) span (front ++ part ∷ []))
          (sym branch.open-is)
          (joins_more c.loop-part.spans c.loop-part.open _ front part refl refl refl old))
    ] in
    let all = further c.if-part-open.spans c.if-part-open.open c.loop-part.part-index c.args.code.now
    c.loop-part-test.true new in
    record { follow = all.follow; end = all.end; parts = all.parts }
