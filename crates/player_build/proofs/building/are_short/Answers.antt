-- One pattern more.
use Rattle.std.proofs.Common.{◌≡◌, ℕ, ◌+◌, ◌<◌, ◌≤◌, List, [], ◌∷◌, ◌++◌, All, length, take}
use Rattle.std.proofs.Common.{get_or, sym, ap, ◌∙◌, subst}
use Rattle.std.proofs.lemmas.List.{take_more}
use Rattle.std.proofs.lemmas.List.Elements.{All-append, All-cons, All-nil}
use Rattle.player_build.proofs.building.are_short.Goals as goal

abbrev IsShort : List ℕ → Type 0
IsShort pattern = length pattern ≤ 256

more : (patterns : List (List ℕ)) (i : ℕ) (pattern : List ℕ) → i < length patterns →
    pattern ≡ get_or patterns i pattern → IsShort pattern → All IsShort (take i patterns) →
    All IsShort (take (i + 1) patterns)
more patterns i pattern inside is short old =
    subst (All IsShort)
    (ap (λ (p : List ℕ). take i patterns ++ p ∷ []) is ∙ sym (take_more patterns i pattern inside))
    (All-append IsShort (take i patterns) (pattern ∷ []) old (All-cons IsShort pattern [] short (All-nil IsShort)))

pub loop-pattern-preserved : goal.loop-pattern-preserved
loop-pattern-preserved c = record {
  each = more c.args.patterns.now c.loop-pattern.pattern-index c.pattern-item.result c.loop-pattern-test.true
      c.pattern-item.is c.is_short.ensures c.loop-pattern.invariant.each;
}
