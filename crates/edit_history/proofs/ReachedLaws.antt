-- Histories that steps lead to: each edit of them can be done, and memory is never why one can't be.
use Rattle.std.proofs.Common.{◌≡◌, Bool, true, false, List, [], ◌∷◌, ◌++◌, reverse, Result, Ok, Err}
use Rattle.std.proofs.Common.{Some, if◌then◌else◌, refl, sym, ap, subst, ◌∙◌}
use Rattle.std.proofs.lemmas.List.{append-nil, append_assoc, reverse-append}
use Rattle.song_model.specs.declared.songs.Song.{Song}
use Rattle.edit_ops.specs.declared.edits.Edit.{Edit}
use Rattle.edit_ops.specs.declared.edits.EditFault.{EditFault}
use Rattle.edit_ops.specs.declared.edits.EditFault.TheVariants.{NoSuchPlace, OutOfLimit, BadValue, NoMemory}
use Rattle.edit_ops.specs.Edits.{edited, lacks_place, is_over, is_bad, changed}
use Rattle.edit_history.specs.History.{History, begun, goes_on, joined, song_after, song_of, after_edit, after_undo, after_redo}
use Rattle.edit_history.proofs.StepLaws.{split_last, undo_push, redo_push, same_history, undo_none, redo_none}

-- ---- memory is no reason

one_of_three : (place limit value : Bool) (song : Song) →
    (if place then Err NoSuchPlace else if limit then Err OutOfLimit else if value then Err BadValue else Ok song)
    ≡ Err NoMemory → ⊥
one_of_three true limit value song e = cc (e)
one_of_three false true value song e = cc (e)
one_of_three false false true song e = cc (e)
one_of_three false false false song e = cc (e)

edited_never : (song : Song) (edit : Edit) → edited song edit ≡ Err NoMemory → ⊥
unfolding edited
edited_never song edit e =
    one_of_three (lacks_place song edit) (is_over song edit) (is_bad song edit) (changed song edit) e

goes_on_never : (r : Result Song EditFault) (rest : Song → Result Song EditFault) → (r ≡ Err NoMemory → ⊥) →
    ((next : Song) → rest next ≡ Err NoMemory → ⊥) → goes_on r rest ≡ Err NoMemory → ⊥
goes_on_never (Ok song) rest here later e = later song e
goes_on_never (Err fault) rest here later e = here e

song_never : (song : Song) (edits : List Edit) → song_after song edits ≡ Err NoMemory → ⊥
song_never song [] e = cc (e)
song_never song (edit ∷ edits) e =
    goes_on_never (edited song edit) (λ next. song_after next edits) (edited_never song edit)
    (λ next f. song_never next edits f) e

joined_never : (history : History) (edit : Edit) (r : Result Song EditFault) → (r ≡ Err NoMemory → ⊥) →
    joined history edit r ≡ Err NoMemory → ⊥
joined_never history edit (Ok song) never e = cc (e)
joined_never history edit (Err fault) never e = let same : fault ≡ NoMemory = cc (e) in never (ap Err same)

pub edit_never : (history : History) (edit : Edit) → after_edit history edit ≡ Err NoMemory → ⊥
unfolding after_edit
edit_never history edit e =
    joined_never history edit (song_after history.first (history.standing ++ edit ∷ []))
    (song_never history.first (history.standing ++ edit ∷ [])) e

-- ---- the edits that stand and those that were undone, in the order in which they were done

pub record IsReached (first : Song) (history : History) : Type 0 where
  pub first_is : history.first ≡ first
  pub end : Song
  pub whole : song_after history.first (history.standing ++ reverse history.undone) ≡ Ok end

pub begun_reached : (song : Song) → IsReached song (begun song)
begun_reached song = record { first_is = refl; end = song; whole = refl }

pub record HasSong (first : Song) (edits : List Edit) : Type 0 where
  pub song : Song
  pub is : song_after first edits ≡ Ok song

goes_first : (r : Result Song EditFault) (some all : Song → Result Song EditFault) (end : Song) →
    ((next : Song) → all next ≡ Ok end → (song : Song) × (some next ≡ Ok song)) → goes_on r all ≡ Ok end →
    (song : Song) × (goes_on r some ≡ Ok song)
goes_first (Ok next) some all end each e = each next e
goes_first (Err fault) some all end each e = absurd (cc (e))

-- the first of edits that can be done can be done
front_has : (first end : Song) (front back : List Edit) → song_after first (front ++ back) ≡ Ok end →
    (song : Song) × (song_after first front ≡ Ok song)
front_has first end [] back e = (first, refl)
front_has first end (edit ∷ front) back e =
    goes_first (edited first edit) (λ next. song_after next front) (λ next. song_after next (front ++ back)) end
    (λ next f. front_has next end front back f) e

pub reached_has_song : (first : Song) (history : History) → IsReached first history →
    (song : Song) × (song_of history ≡ Ok song)
reached_has_song first history is =
    front_has history.first is.end history.standing (reverse history.undone) is.whole

-- ---- the steps

joined_reached : (first : Song) (history after : History) (edit : Edit) (r : Result Song EditFault) →
    history.first ≡ first → song_after history.first (history.standing ++ edit ∷ []) ≡ r →
    joined history edit r ≡ Ok after → IsReached first after
joined_reached first history after edit (Err fault) is e j = absurd (cc (j))
joined_reached first history after edit (Ok song) is e j =
    let h : History = record history { standing = history.standing ++ edit ∷ []; undone = [] } in
    let same : h ≡ after = cc (j) in
    subst (IsReached first) same
    (record {
      first_is = is;
      end = song;
      whole = ap (song_after history.first) (append-nil (history.standing ++ edit ∷ [])) ∙ e;
    })

pub edit_reached : (first : Song) (history after : History) (edit : Edit) → IsReached first history →
    after_edit history edit ≡ Ok after → IsReached first after
unfolding after_edit
edit_reached first history after edit is e =
    joined_reached first history after edit (song_after history.first (history.standing ++ edit ∷ [])) is.first_is
    refl e

-- an edit that is undone stays where it was
same_order : (rest undone : List Edit) (edit : Edit) →
    (rest ++ edit ∷ []) ++ reverse undone ≡ rest ++ reverse (undone ++ edit ∷ [])
same_order rest undone edit =
    append_assoc rest (edit ∷ []) (reverse undone)
    ∙ ap (λ (es : List Edit). rest ++ es) (sym (reverse-append undone (edit ∷ [])))

undone_reached : (song first : Song) (standing undone : List Edit) (after : History) →
    IsReached song (record { first = first; standing = standing; undone = undone }) →
    after_undo (record { first = first; standing = standing; undone = undone }) ≡ Some after → IsReached song after
undone_reached song first [] undone after is e = absurd (undo_none first undone after e)
undone_reached song first (edit ∷ edits) undone after is e =
    let s = split_last edit edits in
    let h : History = record { first = first; standing = s.rest; undone = undone ++ s.edit ∷ [] } in
    let same : h ≡ after =
    same_history h after (sym (undo_push first s.rest undone s.edit)
    ∙ ap (λ (es : List Edit). after_undo (record { first = first; standing = es; undone = undone })) (sym s.is) ∙ e) in
    subst (IsReached song) same
    (record {
      first_is = is.first_is;
      end = is.end;
      whole = ap (song_after first) (sym (same_order s.rest undone s.edit)
          ∙ ap (λ (es : List Edit). es ++ reverse undone) (sym s.is))
          ∙ is.whole;
    })

pub undo_reached : (song : Song) (history after : History) → IsReached song history →
    after_undo history ≡ Some after → IsReached song after
undo_reached song history after is e =
    undone_reached song history.first history.standing history.undone after is e

redone_reached : (song first : Song) (standing undone : List Edit) (after : History) →
    IsReached song (record { first = first; standing = standing; undone = undone }) →
    after_redo (record { first = first; standing = standing; undone = undone }) ≡ Some after → IsReached song after
redone_reached song first standing [] after is e = absurd (redo_none first standing after e)
redone_reached song first standing (edit ∷ edits) after is e =
    let s = split_last edit edits in
    let h : History = record { first = first; standing = standing ++ s.edit ∷ []; undone = s.rest } in
    let same : h ≡ after =
    same_history h after (sym (redo_push first standing s.rest s.edit)
    ∙ ap (λ (es : List Edit). after_redo (record { first = first; standing = standing; undone = es })) (sym s.is)
    ∙ e) in
    subst (IsReached song) same
    (record {
      first_is = is.first_is;
      end = is.end;
      whole = ap (song_after first) (same_order standing s.rest s.edit
          ∙ ap (λ (es : List Edit). standing ++ reverse es) (sym s.is))
          ∙ is.whole;
    })

pub redo_reached : (song : Song) (history after : History) → IsReached song history →
    after_redo history ≡ Some after → IsReached song after
redo_reached song history after is e =
    redone_reached song history.first history.standing history.undone after is e

-- ---- an edit that isn't refused

done_or_not : (history : History) (edit : Edit) (r : Result History EditFault) → after_edit history edit ≡ r →
    (r ≡ Err NoSuchPlace → ⊥) → (r ≡ Err OutOfLimit → ⊥) → (r ≡ Err BadValue → ⊥) →
    (after : History) × (after_edit history edit ≡ Ok after)
done_or_not history edit (Ok after) is place limit value = (after, is)
done_or_not history edit (Err NoSuchPlace) is place limit value = absurd (place refl)
done_or_not history edit (Err OutOfLimit) is place limit value = absurd (limit refl)
done_or_not history edit (Err BadValue) is place limit value = absurd (value refl)
done_or_not history edit (Err NoMemory) is place limit value = absurd (edit_never history edit is)

-- can be done
pub unrefused_is_done : (history : History) (edit : Edit) → (after_edit history edit ≡ Err NoSuchPlace → ⊥) →
    (after_edit history edit ≡ Err OutOfLimit → ⊥) → (after_edit history edit ≡ Err BadValue → ⊥) →
    (after : History) × (after_edit history edit ≡ Ok after)
unrefused_is_done history edit place limit value =
    done_or_not history edit (after_edit history edit) refl place limit value
