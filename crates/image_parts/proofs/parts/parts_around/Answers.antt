-- The parts of the blocks and of what stands around them, one behind the other.
use Rattle.std.proofs.Common.{◌≡◌, ℕ, ◌+◌, List, [], ◌++◌, replicate, ap, ◌∙◌}
use Rattle.std.proofs.lemmas.List.{append_assoc}
use Rattle.scopes.specs.declared.line.Line.{Line}
use Rattle.scopes.specs.Trees.{tree_of}
use Rattle.scope_lines.specs.Readings.{holds_in}
use Rattle.scope_parts.specs.Parts.{parts}
use Rattle.image_parts.specs.CodeParts.{always}
use Rattle.image_parts.proofs.parts.parts_around.Goals as goal

-- what stands behind a list that has been made longer
behind : (new old own rest : List ℕ) → new ≡ old ++ own → new ++ rest ≡ old ++ (own ++ rest)
behind new old own rest is = ap (λ l. l ++ rest) is ∙ append_assoc old own rest

-- seven lists, one behind the other
joined : (none one two three four five six all a f b v c i d : List ℕ) → none ≡ [] → one ≡ none ++ a → two ≡ one ++ f →
    three ≡ two ++ b → four ≡ three ++ v → five ≡ four ++ c → six ≡ five ++ i → all ≡ six ++ d →
    all ≡ a ++ (f ++ (b ++ (v ++ (c ++ (i ++ d)))))
joined none one two three four five six all a f b v c i d e0 e1 e2 e3 e4 e5 e6 e7 =
    e7 ∙ behind six five i d e6 ∙ behind five four c (i ++ d) e5 ∙ behind four three v (c ++ (i ++ d)) e4
    ∙ behind three two b (v ++ (c ++ (i ++ d))) e3 ∙ behind two one f (b ++ (v ++ (c ++ (i ++ d)))) e2
    ∙ behind one none a (f ++ (b ++ (v ++ (c ++ (i ++ d))))) e1
    ∙ ap (λ l. l ++ (a ++ (f ++ (b ++ (v ++ (c ++ (i ++ d))))))) e0

pub returns : goal.returns
returns c =
    let block : List Line → List ℕ = (λ lines. parts (holds_in c.args.conditions.0) always (tree_of lines)) in
    joined _ _ _ _ _ _ _ _ _ _ _ _ _ _ _ c.new-list.ensures
    (c.in_ok-push_always.ensures
    ∙ ap (λ (n : ℕ). c.new-list.result ++ replicate (7 + n) always) (c.from.ensures ∙ c.requires.variables))
    (c.in_ok-push_parts.ensures ∙ ap (λ ls. c.push_always.new.list ++ block ls) c.requires.filter)
    c.in_ok-push_always-2.ensures
    (c.in_ok-push_parts-2.ensures ∙ ap (λ ls. c.push_always-2.new.list ++ block ls) c.requires.voice)
    c.in_ok-push_always-3.ensures c.in_ok-push_parts-3.ensures c.in_ok-push_always-4.ensures
