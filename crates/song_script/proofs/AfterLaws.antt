-- Edits one after the other: what the first have made is gone on with, item by item.
use Rattle.std.proofs.Common.{◌≡◌, ℕ, zero, suc, ◌+◌, ◌<◌, ◌≤◌, Bool, true, false}
use Rattle.std.proofs.Common.{if◌then◌else◌, List, [], ◌∷◌, ◌++◌, length, replicate, Result, Ok, Err}
use Rattle.std.proofs.Common.{refl, sym, ap, ◌∙◌, arith}
use Rattle.std.proofs.lemmas.List.{append_assoc, append-nil}
use Rattle.song_model.specs.declared.songs.Song.{Song}
use Rattle.edit_ops.specs.declared.edits.Edit.{Edit}
use Rattle.edit_ops.specs.declared.edits.EditFault.{EditFault}
use Rattle.edit_ops.specs.Edits.{edited}
use Rattle.edit_history.specs.History.{goes_on, song_after}
use Rattle.song_script.specs.Statements.{Statement, Comment, Do, edits_among, each_from}
use Rattle.song_script.proofs.EachLaws.{edits_append}

goes_both : (r : Result Song EditFault) (f g : Song → Result Song EditFault) (m : Song)
    (wanted : Result Song EditFault) → ((x : Song) → f x ≡ Ok m → g x ≡ wanted) → goes_on r f ≡ Ok m →
    goes_on r g ≡ wanted
goes_both (Ok x) f g m wanted each e = each x e
goes_both (Err fault) f g m wanted each e = absurd (cc (e))

pub after-append : (s m : Song) (a b : List Edit) → song_after s a ≡ Ok m → song_after s (a ++ b) ≡ song_after m b
after-append s m [] b one =
    let same : s ≡ m = cc (one) in ap (λ x. song_after x b) same
after-append s m (edit ∷ a) b one =
    goes_both (edited s edit) (λ next. song_after next a) (λ next. song_after next (a ++ b)) m (song_after m b)
    (λ x e. after-append x m a b e) one

-- the edits among these statements make of one song the other
pub record Makes (statements : List Statement) (s e : Song) : Type 0 where
  pub is : song_after s (edits_among statements) ≡ Ok e

pub none_makes : (s : Song) → Makes [] s s
none_makes s = record { is = refl }

pub both_make : {a b : List Statement} {s m e : Song} → Makes a s m → Makes b m e → Makes (a ++ b) s e
both_make {a} {b} {s} {m} {e} one two = record {
  is = ap (song_after s) (edits_append a b) ∙ after-append s m (edits_among a) (edits_among b) one.is ∙ two.is;
}

pub comment_makes : {rest : List Statement} {s e : Song} (words : List ℕ) → Makes rest s e →
    Makes (Comment words ∷ rest) s e
comment_makes words makes = record { is = makes.is }

pub one_makes : (edit : Edit) (s e : Song) → edited s edit ≡ Ok e → Makes (Do edit ∷ []) s e
one_makes edit s e done = record { is = ap (λ r. goes_on r (λ next. song_after next [])) done }

-- an edit that is left out where it would change nothing
pub unless_makes : (test : Bool) (edit : Edit) (s e : Song) → (test ≡ true → s ≡ e) →
    (test ≡ false → edited s edit ≡ Ok e) → Makes (if test then [] else Do edit ∷ []) s e
unless_makes true edit s e same done = record { is = ap Ok (same refl) }
unless_makes false edit s e same done = one_makes edit s e (done refl)

pub unless_said_makes : (test : Bool) (words : List ℕ) (edit : Edit) (s e : Song) → (test ≡ true → s ≡ e) →
    (test ≡ false → edited s edit ≡ Ok e) → Makes (if test then [] else Comment words ∷ Do edit ∷ []) s e
unless_said_makes true words edit s e same done = record { is = ap Ok (same refl) }
unless_said_makes false words edit s e same done = comment_makes words (one_makes edit s e (done refl))

-- ---- item by item

-- the song of the items that are done and those that are left goes from each to the next
pub each_makes : {X : Type 0} (whole : List X) (T : List X → List X → Song) (said : ℕ → X → List Statement) (base : ℕ) →
    ((front : List X) (x : X) (back : List X) (n : ℕ) → whole ≡ front ++ x ∷ back → n ≡ base + length front →
    Makes (said n x) (T front (x ∷ back)) (T (front ++ x ∷ []) back)) →
    (front back : List X) (n : ℕ) → n ≡ base + length front → whole ≡ front ++ back →
    Makes (each_from n said back) (T front back) (T (front ++ back) [])
each_makes whole T said base step front [] n is all =
    record { is = ap (λ xs. Ok (T xs [])) (sym (append-nil front)) }
each_makes whole T said base step front (x ∷ back) n is all =
    let next : n + 1 ≡ base + length (front ++ x ∷ []) = omega (arith, is, length_one front x) in
    let others =
    each_makes whole T said base step (front ++ x ∷ []) back (n + 1) next
    (all ∙ sym (append_assoc front (x ∷ []) back)) in
    let here = step front x back n all is in
    record {
      is = (both_make here others).is ∙ ap (λ xs. Ok (T xs [])) (append_assoc front (x ∷ []) back);
    }
  where
    length_one : {X : Type 0} (xs : List X) (x : X) → length (xs ++ x ∷ []) ≡ length xs + 1
    length_one [] x = refl
    length_one (y ∷ xs) x = let more = length_one xs x in omega (arith, more)

pub all_make : {X : Type 0} (whole : List X) (T : List X → List X → Song) (said : ℕ → X → List Statement) (base : ℕ) →
    ((front : List X) (x : X) (back : List X) (n : ℕ) → whole ≡ front ++ x ∷ back → n ≡ base + length front →
    Makes (said n x) (T front (x ∷ back)) (T (front ++ x ∷ []) back)) →
    Makes (each_from base said whole) (T [] whole) (T whole [])
all_make whole T said base step = each_makes whole T said base step [] whole base (omega arith) refl

-- the same edit again and again
pub again_makes : (T : ℕ → Song) (edit : Edit) (most : ℕ) →
    ((k : ℕ) → k < most → edited (T k) edit ≡ Ok (T (suc k))) → (n k : ℕ) → n + k ≤ most →
    Makes (replicate n (Do edit)) (T k) (T (n + k))
again_makes T edit most step zero k few =
    let same : k ≡ 0 + k = omega arith in record { is = ap (λ i. Ok (T i)) same }
again_makes T edit most step (suc n) k few =
    let others = again_makes T edit most step n (suc k) (omega (arith, few)) in
    let place : n + suc k ≡ suc n + k = omega arith in
    let here = one_makes edit (T k) (T (suc k)) (step k (omega (arith, few))) in
    record { is = (both_make here others).is ∙ ap (λ i. Ok (T i)) place }
