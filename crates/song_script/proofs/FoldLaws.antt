-- Commands that are edits go through the songs that the edits make.
use Rattle.std.proofs.Common.{◌≡◌, ℕ, ◌+◌, List, [], ◌∷◌, ◌++◌, Result, Ok, Err, refl, sym, ap, ◌∙◌}
use Rattle.std.proofs.lemmas.List.{append_assoc, append-nil}
use Rattle.song_model.specs.declared.songs.Song.{Song}
use Rattle.edit_ops.specs.declared.edits.Edit.{Edit}
use Rattle.edit_ops.specs.declared.edits.EditFault.{EditFault}
use Rattle.edit_ops.specs.Edits.{edited}
use Rattle.edit_history.specs.History.{History, goes_on, song_after, joined, after_edit}
use Rattle.edit_script.specs.declared.commands.Action.TheVariants as action
use Rattle.edit_script.specs.Runs.{fold_on, fold_of, after_action, edit_done}
use Rattle.song_script.specs.Statements.{Statement, Comment, Do, edits_among}
use Rattle.song_script.proofs.ReadLaws.{commands_of}

-- what can be done to the end can be done up to a place
front_by : (r : Result Song EditFault) (f g : Song → Result Song EditFault) (e : Song) →
    ((x : Song) → g x ≡ Ok e → (m : Song) × (f x ≡ Ok m)) → goes_on r g ≡ Ok e → (m : Song) × (goes_on r f ≡ Ok m)
front_by (Ok x) f g e each is = each x is
front_by (Err fault) f g e each is = absurd (cc (is))

front_done : (s e : Song) (a b : List Edit) → song_after s (a ++ b) ≡ Ok e → (m : Song) × (song_after s a ≡ Ok m)
front_done s e [] b is = (s, refl)
front_done s e (edit ∷ a) b is =
    front_by (edited s edit) (λ next. song_after next a) (λ next. song_after next (a ++ b)) e
    (λ x more. front_done x e a b more) is

-- edits that stand on a song
abbrev pub stands : Song → List Edit → History
stands s edits = record { first = s; standing = edits; undone = [] }

joins : (s m : Song) (before : List Edit) (edit : Edit) → song_after s (before ++ edit ∷ []) ≡ Ok m →
    after_action (stands s before) (action.Edit edit) ≡ Ok (stands s (before ++ edit ∷ []))
unfolding after_action after_edit
joins s m before edit is = ap (λ r. edit_done (joined (stands s before) edit r)) is

pub fold_goes : (s e : Song) (n : ℕ) (statements : List Statement) (before : List Edit) →
    song_after s (before ++ edits_among statements) ≡ Ok e →
    fold_of (stands s before) (commands_of n statements) ≡ Ok (stands s (before ++ edits_among statements))
fold_goes s e n [] before is = ap (λ edits. Ok (stands s edits)) (sym (append-nil before))
fold_goes s e n (Comment words ∷ rest) before is = fold_goes s e (n + 1) rest before is
fold_goes s e n (Do edit ∷ rest) before is =
    let all : (before ++ edit ∷ []) ++ edits_among rest ≡ before ++ edit ∷ edits_among rest =
    append_assoc before (edit ∷ []) (edits_among rest) in
    let whole : song_after s ((before ++ edit ∷ []) ++ edits_among rest) ≡ Ok e = ap (song_after s) all ∙ is in
    let front = front_done s e (before ++ edit ∷ []) (edits_among rest) whole in
    ap (λ r. fold_on (stands s before) n r (λ after. fold_of after (commands_of (n + 1) rest)))
    (joins s front.0 before edit front.1)
    ∙ fold_goes s e (n + 1) rest (before ++ edit ∷ []) whole ∙ ap (λ edits. Ok (stands s edits)) all
