-- A zero more.
use Rattle.std.proofs.Common.{◌≡◌, ℕ, ◌+◌, List, [], ◌∷◌, ◌++◌, replicate, ap, ◌∙◌}
use Rattle.std.proofs.lemmas.List.{append_assoc, replicate_more}
use Rattle.song_lists.proofs.bytes.push_gap.Goals as goal

one_more : (start before after : List ℕ) (n : ℕ) → before ≡ start ++ replicate n 0 → after ≡ before ++ 0 ∷ [] →
    after ≡ start ++ replicate (n + 1) 0
one_more start before after n old new =
    new ∙ ap (λ (bytes : List ℕ). bytes ++ 0 ∷ []) old ∙ regrouped start (replicate n 0)
    ∙ ap (λ (bytes : List ℕ). start ++ bytes) (replicate_more n 0)
  where
    regrouped : (front back : List ℕ) → (front ++ back) ++ 0 ∷ [] ≡ front ++ (back ++ 0 ∷ [])
    regrouped front back = simp append_assoc

pub loop-zero-preserved : goal.loop-zero-preserved
loop-zero-preserved c =
    one_more c.args.bytes.now c.loop-zero.bytes c.push.new.self c.loop-zero._zero c.loop-zero.invariant
    c.in_ok-push.ensures.ok
