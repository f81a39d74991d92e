-- The lightest of five, and patterns that are settled one after the other.
use Rattle.std.proofs.Common.{◌≡◌, ℕ, ◌+◌, true, false, List, [], ◌∷◌, ◌++◌, refl, sym, ◌∙◌, ap}
use Rattle.std.specs.List.{fold, filter, range_with_len}
use Rattle.std.proofs.lemmas.List.{append-nil}
use Rattle.std.proofs.lemmas.List.Sums.{fold_push}
use Rattle.std.proofs.lemmas.List.Elements.{filter-append}
use Rattle.song_model.specs.declared.songs.Song.{Song}
use Rattle.pattern_cut.specs.Pieces.{is_named}
use Rattle.pattern_cut.specs.CutSongs.{Ways}
use Rattle.pattern_cut.specs.Choice.{lighter, lightest, settled}
use Rattle.song_cut.proofs.Lists.{range_next}

pub lightest_of_five : {X : Type 0} (weighs : X → ℕ) (one two three four five first second third fourth : X) →
    first ≡ lighter weighs one two → second ≡ lighter weighs first three → third ≡ lighter weighs second four →
    fourth ≡ lighter weighs third five → fourth ≡ lightest weighs one (two ∷ three ∷ four ∷ five ∷ [])
lightest_of_five {X} weighs one two three four five first second third fourth a b c d =
    d ∙ ap (λ (x : X). lighter weighs x five)
    (c ∙ ap (λ (x : X). lighter weighs x four) (b ∙ ap (λ (x : X). lighter weighs x three) a))

pub lightest_alike : {X : Type 0} (weighs : X → ℕ) (a b c d e one two three four five : X) → a ≡ one → b ≡ two →
    c ≡ three → d ≡ four → e ≡ five →
    lightest weighs a (b ∷ c ∷ d ∷ e ∷ []) ≡ lightest weighs one (two ∷ three ∷ four ∷ five ∷ [])
lightest_alike {X} weighs a b c d e one two three four five first second third fourth fifth =
    ap (λ (x : X). lightest weighs x (b ∷ c ∷ d ∷ e ∷ [])) first
    ∙ ap (λ (x : X). lightest weighs one (x ∷ c ∷ d ∷ e ∷ [])) second
    ∙ ap (λ (x : X). lightest weighs one (two ∷ x ∷ d ∷ e ∷ [])) third
    ∙ ap (λ (x : X). lightest weighs one (two ∷ three ∷ x ∷ e ∷ [])) fourth
    ∙ ap (λ (x : X). lightest weighs one (two ∷ three ∷ four ∷ x ∷ [])) fifth

-- those of the first n patterns that are named
abbrev pub named_below : Song → ℕ → List ℕ
named_below song n = filter (is_named song) (range_with_len 0 n)

next_named : (song : Song) (n : ℕ) → is_named song n ≡ true → named_below song (n + 1) ≡ named_below song n ++ n ∷ []
next_named song n is =
    ap (filter (is_named song)) (range_next n) ∙ filter-append (is_named song) (range_with_len 0 n) (n ∷ [])
    ∙ rw is refl

next_unnamed : (song : Song) (n : ℕ) → is_named song n ≡ false → named_below song (n + 1) ≡ named_below song n
next_unnamed song n fails =
    ap (filter (is_named song)) (range_next n) ∙ filter-append (is_named song) (range_with_len 0 n) (n ∷ [])
    ∙ rw fails (append-nil (named_below song n))

pub settled_next : (song : Song) (first ways next : Ways) (n : ℕ) → is_named song n ≡ true →
    ways ≡ fold (settled song) first (named_below song n) → next ≡ settled song ways n →
    next ≡ fold (settled song) first (named_below song (n + 1))
settled_next song first ways next n is so_far next_is =
    next_is ∙ ap (λ (w : Ways). settled song w n) so_far ∙ sym (fold_push (settled song) first (named_below song n) n)
    ∙ ap (fold (settled song) first) (sym (next_named song n is))

pub settled_left : (song : Song) (first ways : Ways) (n : ℕ) → is_named song n ≡ false →
    ways ≡ fold (settled song) first (named_below song n) → ways ≡ fold (settled song) first (named_below song (n + 1))
settled_left song first ways n fails so_far =
    so_far ∙ ap (fold (settled song) first) (sym (next_unnamed song n fails))
