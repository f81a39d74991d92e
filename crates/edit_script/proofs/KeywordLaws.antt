-- A word is one keyword's or none's, and has no space in it.
use Rattle.std.proofs.Common.{◌≡◌, ℕ, zero, suc, Bool, true, eqb, ltb, not, List, [], ◌∷◌, ◌++◌}
use Rattle.std.proofs.Common.{length, Option, Some, None, refl, sym, ap, ◌∙◌, subst, inl, inr, lit<, arith}
use Rattle.std.specs.List.{find, list_all}
use Rattle.std.specs.Str.{IsAscii, IsUtf8, bytes_eq}
use Rattle.std.proofs.lemmas.Bool.{cases_Bool, and_parts, eq-eqb, ltb-true}
use Rattle.std.proofs.lemmas.List.Folds.{prefix_len-append}
use Rattle.std.proofs.lemmas.Slice.Eq.{bytes_eq-Decides}
use Rattle.std.proofs.lemmas.Str.{IsUtf8-from_ascii}
use Rattle.edit_script.specs.declared.forms.Keyword.{Keyword}
use Rattle.edit_script.specs.declared.forms.Keyword.TheVariants.{Row}
use Rattle.edit_script.specs.Reading.{made, word_of, keywords, keyword_at, word_end}

-- ---- look-ups

find_passes : {X : Type 0} (test : X → Bool) (xs : List X) (x : X) → find test xs ≡ Some x → test x ≡ true
find_passes test [] x e = absurd (cc (e))
find_passes test (y ∷ ys) x e = elim (cases_Bool (test y)) [
  | inl holds ↦ let same : y ≡ x = cc (rw holds at e) in subst (λ z. test z ≡ true) same holds
  | inr never ↦ find_passes test ys x (rw never at e)
]

keyword_again : (keyword : Keyword) → keyword_at (word_of keyword) ≡ Some keyword
unfolding keyword_at word_of made
keyword_again Row = refl
keyword_again keyword = refl

pub keyword_found : (word : List ℕ) (keyword : Keyword) → word ≡ word_of keyword → keyword_at word ≡ Some keyword
keyword_found word keyword same = ap keyword_at same ∙ keyword_again keyword

pub keyword_has : (word : List ℕ) (keyword : Keyword) → keyword_at word ≡ Some keyword → word ≡ word_of keyword
unfolding keyword_at
keyword_has word keyword e =
    let passes = find_passes (λ k. bytes_eq (word_of k) word) keywords keyword e in
    sym ((bytes_eq-Decides (word_of keyword) word).0 passes)

none_of : (o : Option Keyword) → ((keyword : Keyword) → o ≡ Some keyword → ⊥) → o ≡ None
none_of None never = refl
none_of (Some keyword) never = absurd (never keyword refl)

pub no_keyword : (word : List ℕ) → ((keyword : Keyword) → word ≡ word_of keyword → ⊥) → keyword_at word ≡ None
no_keyword word never = none_of (keyword_at word) (λ keyword e. never keyword (keyword_has word keyword e))

-- ---- where words end

no_space : (keyword : Keyword) → word_end (word_of keyword) ≡ length (word_of keyword)
unfolding word_of made
no_space Row = refl
no_space keyword = refl

-- a keyword's word ends before what begins with a space, or before nothing
pub ends_behind : (keyword : Keyword) (behind : List ℕ) → word_end behind ≡ 0 →
    word_end (word_of keyword ++ behind) ≡ length (word_of keyword)
ends_behind keyword behind stops =
    let whole : eqb (word_end (word_of keyword)) (length (word_of keyword)) ≡ true =
    eq-eqb _ _ (no_space keyword) in
    prefix_len-append (λ byte. not (eqb byte 32)) (word_of keyword) behind ∙ rw (whole, stops) (omega arith)

-- ---- words as text

ascii_at : (bytes : List ℕ) → list_all (λ byte. ltb byte 128) bytes ≡ true → IsAscii bytes
ascii_at [] e i = lit< tt
ascii_at (byte ∷ bytes) e zero = ltb-true byte 128 (and_parts _ _ e).0
ascii_at (byte ∷ bytes) e (suc i) = ascii_at bytes (and_parts _ _ e).1 i

is_text : (keyword : Keyword) → list_all (λ byte. ltb byte 128) (word_of keyword) ≡ true
unfolding word_of made
is_text Row = refl
is_text keyword = refl

pub word_is_utf8 : (word : List ℕ) (keyword : Keyword) → word ≡ word_of keyword → IsUtf8 word
word_is_utf8 word keyword same =
    subst IsUtf8 (sym same) (IsUtf8-from_ascii (word_of keyword) (ascii_at (word_of keyword) (is_text keyword)))
