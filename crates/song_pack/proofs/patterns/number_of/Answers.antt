use Rattle.std.proofs.Common.{◌≡◌, ℕ, Bool, true, false, not, List, [], ◌∷◌, ◌++◌, refl, sym, ◌∙◌, ap}
use Rattle.std.specs.List.{position_or_len, list_any}
use Rattle.std.specs.Str.{bytes_eq}
use Rattle.std.proofs.Math.Bool.{not-not}
use Rattle.packing_rules.proofs.Laws.{place_of_map, any_of_map}
use Rattle.song_pack.specs.Texts.{with_text}
use Rattle.song_pack.proofs.patterns.number_of.Goals as goal
use Rattle.song_pack.proofs.patterns.number_of.Goals.{then-is_new+in_ok-push, else-is_new}

pub returns-clause-number : goal.returns-clause-number
returns-clause-number c =
    let key_is : c.extend_from_slice.new.self.items ≡ c.args.packed =
    c.in_ok-extend_from_slice.ensures.items ∙ rw c.new-key.ensures.items c.as_slice.ensures.bytes in
    c.in_ok-index.ensures.index
    ∙ sym (place_of_map (λ key. key.items) (bytes_eq c.args.packed) _ c.args.seen.now.keys
    (λ key. ap (λ (text : List ℕ). bytes_eq text key.items) (sym key_is)))
    ∙ ap (position_or_len (bytes_eq c.args.packed)) c.requires.together

-- the text is added exactly where it isn't there
added : (texts : List (List ℕ)) (text : List ℕ) (there : Bool) → list_any (bytes_eq text) texts ≡ there → there ≡
    false →
    texts ++ text ∷ [] ≡ with_text texts text
added texts text there is none = let e : list_any (bytes_eq text) texts ≡ false = is ∙ none in rw e refl

stays : (texts : List (List ℕ)) (text : List ℕ) (there : Bool) → list_any (bytes_eq text) texts ≡ there → there ≡ true →
    texts ≡ with_text texts text
stays texts text there is some = let e : list_any (bytes_eq text) texts ≡ true = is ∙ some in rw e refl

pub returns-clause-list : goal.returns-clause-list
returns-clause-list c =
    let key_is : c.extend_from_slice.new.self.items ≡ c.args.packed =
    c.in_ok-extend_from_slice.ensures.items ∙ rw c.new-key.ensures.items c.as_slice.ensures.bytes in
    let there : list_any (bytes_eq c.args.packed) c.args.list.now.items ≡ not c.in_ok-index.is_new =
    ap (list_any (bytes_eq c.args.packed)) (sym c.requires.together)
    ∙ any_of_map (λ key. key.items) (bytes_eq c.args.packed) _ c.args.seen.now.keys
    (λ key. ap (λ (text : List ℕ). bytes_eq text key.items) (sym key_is))
    ∙ sym (not-not _) ∙ ap not (sym c.in_ok-index.ensures.added) in
    elim c.if-is_new.branch [
      | then-is_new+in_ok-push w ↦ rw (w.list-is, w.in_ok-push.ensures.items)
          (added c.args.list.now.items c.args.packed (not c.in_ok-index.is_new) there (ap not w.if-is_new.true))
      | else-is_new w ↦ rw w.list-is
          (stays c.args.list.now.items c.args.packed (not c.in_ok-index.is_new) there (ap not w.if-is_new.false))
    ]
