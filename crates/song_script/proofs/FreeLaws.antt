-- The lines of a script have no line feed and no carriage return in them.
use Rattle.std.proofs.Common.{◌≡◌, ℕ, zero, suc, ◌+◌, ◌*◌, ◌-◌, ◌/◌, ◌%◌, ◌≤◌, Bool}
use Rattle.std.proofs.Common.{true, false, eqb, leb, not, ◌&&◌, if◌then◌else◌, get_or, slice_index, map}
use Rattle.std.proofs.Common.{codes, List, [], ◌∷◌, ◌++◌, All, refl, arith}
use Rattle.std.specs.List.{list_all, flat_map}
use Rattle.std.proofs.lemmas.Bool.{and_parts, and_from, ne_eqb, leb-true, not-true}
use Rattle.std.proofs.lemmas.List.Elements.{All-nil, All-cons}
use Rattle.hex.specs.Hex.{encode_with, encode_upper, upper_digits}
use Rattle.song_model.specs.declared.rows.Row.{Row}
use Rattle.edit_ops.specs.declared.edits.Edit.{Edit}
use Rattle.edit_ops.specs.declared.edits.Edit.TheVariants.{AddSubtune}
use Rattle.edit_script.specs.Forms.{Argument, edit_form}
use Rattle.song_script.specs.Statements.{argument_text, edit_text}
use Rattle.song_script.specs.Words.{two_digits, readable, before_zero, readable_text, tone_letters, tone_words}
use Rattle.song_script.specs.Words.{note_words, row_words}

abbrev pub is_free : ℕ → Bool
is_free byte = not (eqb byte 10) && not (eqb byte 13)

abbrev pub are_free : List ℕ → Bool
are_free text = list_all is_free text

pub free_append : (front back : List ℕ) → are_free front ≡ true → are_free back ≡ true → are_free (front ++ back) ≡ true
free_append [] back h e = e
free_append (byte ∷ front) back h e =
    let parts = and_parts (is_free byte) (are_free front) h in
    and_from (is_free byte) (are_free (front ++ back)) parts.0 (free_append front back parts.1 e)

pub free_cons : (byte : ℕ) (text : List ℕ) → is_free byte ≡ true → are_free text ≡ true → are_free (byte ∷ text) ≡ true
free_cons byte text h e = and_from (is_free byte) (are_free text) h e

-- behind the end there is a zero
pub free_at : (text : List ℕ) (i : ℕ) → are_free text ≡ true → is_free (get_or text i 0) ≡ true
free_at [] zero h = refl
free_at [] (suc i) h = refl
free_at (byte ∷ text) zero h = (and_parts (is_free byte) (are_free text) h).0
free_at (byte ∷ text) (suc i) h = free_at text i (and_parts (is_free byte) (are_free text) h).1

large_free : (byte : ℕ) → 14 ≤ byte → is_free byte ≡ true
large_free byte large =
    let feed : eqb byte 10 ≡ false = ne_eqb byte 10 (λ is. absurd (omega (arith, is, large))) in
    let back : eqb byte 13 ≡ false = ne_eqb byte 13 (λ is. absurd (omega (arith, is, large))) in
    rw (feed, back) refl

-- ---- digits

pub digits_free : (bytes : List ℕ) → are_free (encode_upper bytes) ≡ true
unfolding encode_with
digits_free [] = refl
digits_free (byte ∷ bytes) =
    free_cons (slice_index upper_digits (byte / 16))
    (slice_index upper_digits (byte % 16) ∷ encode_upper bytes) (free_at upper_digits (byte / 16) refl)
    (free_cons (slice_index upper_digits (byte % 16)) (encode_upper bytes) (free_at upper_digits (byte % 16) refl)
    (digits_free bytes))

-- ---- texts

readable_by : (byte : ℕ) (low : Bool) (high : Bool) → leb 32 byte ≡ low →
    is_free (if low && high then byte else 63) ≡ true
readable_by byte true true e = let least = leb-true 32 byte e in large_free byte (omega (arith, least))
readable_by byte true false e = refl
readable_by byte false high e = refl

readable_free : (text : List ℕ) → are_free (map readable text) ≡ true
readable_free [] = refl
readable_free (byte ∷ text) =
    free_cons (readable byte) (map readable text) (readable_by byte (leb 32 byte) (leb byte 126) refl)
    (readable_free text)

pub text_free : (text : List ℕ) → are_free (readable_text text) ≡ true
text_free text = readable_free (before_zero text)

-- ---- rows

tone_free : (note : ℕ) → are_free (tone_words note) ≡ true
tone_free note =
    free_cons (slice_index tone_letters (2 * (note % 12)))
    (slice_index tone_letters (2 * (note % 12) + 1) ∷ (48 + (note / 12 - 8)) ∷ [])
    (free_at tone_letters (2 * (note % 12)) refl)
    (free_cons (slice_index tone_letters (2 * (note % 12) + 1)) ((48 + (note / 12 - 8)) ∷ [])
    (free_at tone_letters (2 * (note % 12) + 1) refl)
    (free_cons (48 + (note / 12 - 8)) [] (large_free (48 + (note / 12 - 8)) (omega arith)) refl))

note_by : (note : ℕ) (rest off on : Bool) →
    are_free (if rest then codes "..." else if off then codes "---" else if on then codes "+++" else tone_words note)
    ≡ true
note_by note true off on = refl
note_by note false true on = refl
note_by note false false true = refl
note_by note false false false = tone_free note

pub row_free : (place : ℕ) (row : Row) → are_free (row_words place row) ≡ true
row_free place row =
    free_append
    (two_digits place ++ codes "  " ++ note_words row.note ++ codes " " ++ two_digits row.instrument ++ codes " ")
    (slice_index upper_digits row.command ∷ two_digits row.param)
    (free_append (two_digits place ++ codes "  " ++ note_words row.note ++ codes " " ++ two_digits row.instrument)
    (codes " ")
    (free_append (two_digits place ++ codes "  " ++ note_words row.note ++ codes " ") (two_digits row.instrument)
    (free_append (two_digits place ++ codes "  " ++ note_words row.note) (codes " ")
    (free_append (two_digits place ++ codes "  ") (note_words row.note)
    (free_append (two_digits place) (codes "  ") (digits_free (place ∷ [])) refl)
    (note_by row.note (eqb row.note 0xBD) (eqb row.note 0xBE) (eqb row.note 0xBF)))
    refl)
    (digits_free (row.instrument ∷ [])))
    refl)
    (free_cons (slice_index upper_digits row.command) (two_digits row.param) (free_at upper_digits row.command refl)
    (digits_free (row.param ∷ [])))

-- ---- edits

word_free : (edit : Edit) → are_free (edit_form edit).word ≡ true
word_free AddSubtune = refl
word_free edit = refl

arguments_free : (arguments : List Argument) → are_free (flat_map argument_text arguments) ≡ true
arguments_free [] = refl
arguments_free (argument ∷ arguments) =
    free_append (argument_text argument) (flat_map argument_text arguments) (digits_free argument.bytes)
    (arguments_free arguments)

pub edit_free : (edit : Edit) → are_free (edit_text edit) ≡ true
edit_free edit =
    free_append (edit_form edit).word (flat_map argument_text (edit_form edit).arguments) (word_free edit)
    (arguments_free (edit_form edit).arguments)

-- ---- what stands at each place

pub no_feed : (text : List ℕ) → are_free text ≡ true → All (λ byte. eqb byte 10 ≡ false) text
no_feed [] h = All-nil (λ byte. eqb byte 10 ≡ false)
no_feed (byte ∷ text) h =
    let parts = and_parts (is_free byte) (are_free text) h in
    let one = and_parts (not (eqb byte 10)) (not (eqb byte 13)) parts.0 in
    All-cons (λ byte. eqb byte 10 ≡ false) byte text (not-true (eqb byte 10) one.0) (no_feed text parts.1)

pub no_return : (text : List ℕ) (i : ℕ) → are_free text ≡ true → eqb (get_or text i 0) 13 ≡ false
no_return text i h =
    not-true (eqb (get_or text i 0) 13)
    (and_parts (not (eqb (get_or text i 0) 10)) (not (eqb (get_or text i 0) 13)) (free_at text i h)).1
