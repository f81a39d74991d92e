-- Lines of bytes with labels in front of them: how many they are, what they take, and what they hold.
use Rattle.std.proofs.Common.{◌≡◌, ℕ, ◌+◌, ◌-◌, ◌*◌, ◌<◌, ◌≤◌, Bool, List, [], ◌∷◌}
use Rattle.std.proofs.Common.{◌++◌, length, get_or, take, drop, All, refl, sym, ap, subst, ◌∙◌, arith}
use Rattle.std.proofs.Common.{length-append}
use Rattle.std.proofs.lemmas.List.{append_assoc, take-append-drop, drop-drop, drop_more}
use Rattle.std.proofs.lemmas.List.Elements.{All-nil, All-cons}
use Rattle.asm6502.specs.declared.lines.Line.{Line}
use Rattle.asm6502.specs.Lines.{kept, size_of, data_size}
use Rattle.asm6502.specs.Standing.{BytesStand, LinesAt}
use Rattle.asm6502.specs.Stretches.{IsAtHome, AtHome}
use Rattle.asm6502.proofs.Laws.{bytes_append}
use Rattle.song_lists.specs.declared.marks.Mark.{Mark}
use Rattle.song_lists.specs.Marks.{marked, label_line, bytes_line}
use Rattle.song_lists.specs.ListLaws.{IsPlainLine}

-- a piece and what is left of it
pieces_add : (n : ℕ) (bytes : List ℕ) → length (take n bytes) + length (drop n bytes) ≡ length bytes
pieces_add n bytes =
    let e : length (take n bytes) + length (drop n bytes) ≡ length bytes =
    omega (arith, length-append (take n bytes) (drop n bytes), ap length (take-append-drop n bytes)) in e

pub marked_size : (from : ℕ) (marks : List Mark) (bytes : List ℕ) → size_of (marked from marks bytes) ≡ length bytes
marked_size from [] bytes = omega arith
marked_size from (mark ∷ marks) bytes =
    omega (arith, pieces_add (mark.place - from) bytes, marked_size mark.place marks (drop (mark.place - from) bytes))

pub marked_data : (from : ℕ) (marks : List Mark) (bytes : List ℕ) → data_size (marked from marks bytes) ≡ length bytes
marked_data from [] bytes = omega arith
marked_data from (mark ∷ marks) bytes =
    omega (arith, pieces_add (mark.place - from) bytes, marked_data mark.place marks (drop (mark.place - from) bytes))

pub marked_length : (from : ℕ) (marks : List Mark) (bytes : List ℕ) →
    length (marked from marks bytes) ≡ 2 * length marks + 1
marked_length from [] bytes = omega arith
marked_length from (mark ∷ marks) bytes =
    omega (arith, marked_length mark.place marks (drop (mark.place - from) bytes))

-- each line is a label or bytes, always kept
plain_label : (label : ℕ) → IsPlainLine (label_line label)
plain_label label = record { part = refl; item = refl }

plain_bytes : (bytes : List ℕ) → IsPlainLine (bytes_line bytes)
plain_bytes bytes = record { part = refl; item = refl }

pub marked_plain : (from : ℕ) (marks : List Mark) (bytes : List ℕ) → All IsPlainLine (marked from marks bytes)
marked_plain from [] bytes = All-cons IsPlainLine (bytes_line bytes) [] (plain_bytes bytes) (All-nil IsPlainLine)
marked_plain from (mark ∷ marks) bytes =
    let rest = marked mark.place marks (drop (mark.place - from) bytes) in
    All-cons IsPlainLine (bytes_line (take (mark.place - from) bytes)) (label_line mark.label ∷ rest)
    (plain_bytes (take (mark.place - from) bytes))
    (All-cons IsPlainLine (label_line mark.label) rest (plain_label mark.label)
    (marked_plain mark.place marks (drop (mark.place - from) bytes)))

pub marked_kept : (set from : ℕ) (marks : List Mark) (bytes : List ℕ) →
    kept set (marked from marks bytes) ≡ marked from marks bytes
marked_kept set from [] bytes = refl
marked_kept set from (mark ∷ marks) bytes =
    ap (λ (lines : List Line). bytes_line (take (mark.place - from) bytes) ∷ label_line mark.label ∷ lines)
    (marked_kept set mark.place marks (drop (mark.place - from) bytes))

-- and at home anywhere
home_label : (others : ℕ → Bool) (before after : List Line) (label : ℕ) →
    IsAtHome others before (label_line label) after
home_label others before after label = record {
  part = refl;
  sound = refl;
  named = λ name e. absurd (cc);
  reach = λ name offset e. absurd (cc);
}

home_bytes : (others : ℕ → Bool) (before after : List Line) (bytes : List ℕ) →
    IsAtHome others before (bytes_line bytes) after
home_bytes others before after bytes = record {
  part = refl;
  sound = refl;
  named = λ name e. absurd (cc);
  reach = λ name offset e. absurd (cc);
}

pub marked_home : (others : ℕ → Bool) (from : ℕ) (marks : List Mark) (bytes : List ℕ) (before after : List Line) →
    AtHome others before (marked from marks bytes) after
marked_home others from [] bytes before after = (home_bytes others before after bytes, tt)
marked_home others from (mark ∷ marks) bytes before after =
    let piece = bytes_line (take (mark.place - from) bytes) in
    let rest = marked mark.place marks (drop (mark.place - from) bytes) in (
      home_bytes others before (label_line mark.label ∷ (rest ++ after)) (take (mark.place - from) bytes),
      (
        home_label others (before ++ piece ∷ []) (rest ++ after) mark.label,
        marked_home others mark.place marks (drop (mark.place - from) bytes)
            ((before ++ piece ∷ []) ++ label_line mark.label ∷ []) after,
      ),
    )

-- one mark more
pub marked_more : (whole listing : List Line) (marks : List Mark) (bytes : List ℕ) (i from : ℕ) (d : Mark) →
    i < length marks → from ≤ (get_or marks i d).place →
    whole ≡ listing ++ marked from (drop i marks) (drop from bytes) →
    whole ≡ ((listing ++ bytes_line (take ((get_or marks i d).place - from) (drop from bytes)) ∷ [])
    ++ label_line (get_or marks i d).label ∷ [])
    ++ marked (get_or marks i d).place (drop (i + 1) marks) (drop (get_or marks i d).place bytes)
marked_more whole listing marks bytes i from d inside later e =
    let place : from + ((get_or marks i d).place - from) ≡ (get_or marks i d).place = omega arith in
    e ∙ ap (λ (ms : List Mark). listing ++ marked from ms (drop from bytes)) (drop_more marks i d inside)
    ∙ ap (λ (bs : List ℕ). listing ++ bytes_line (take ((get_or marks i d).place - from) (drop from bytes))
    ∷ label_line (get_or marks i d).label ∷ marked (get_or marks i d).place (drop (i + 1) marks) bs)
    (drop-drop ((get_or marks i d).place - from) from bytes ∙ ap (λ (n : ℕ). drop n bytes) place)
    ∙ two_on listing (bytes_line (take ((get_or marks i d).place - from) (drop from bytes)))
    (label_line (get_or marks i d).label)
    (marked (get_or marks i d).place (drop (i + 1) marks) (drop (get_or marks i d).place bytes))
  where
    two_on : (front : List Line) (x y : Line) (back : List Line) →
        front ++ x ∷ y ∷ back ≡ ((front ++ x ∷ []) ++ y ∷ []) ++ back
    two_on front x y back = simp append_assoc

-- where the two lines are appended
pub cut_more : (whole listing pushed cut : List Line) (line : Line) (marks : List Mark) (bytes : List ℕ)
    (i from place : ℕ) (d : Mark) → i < length marks → from ≤ (get_or marks i d).place →
    place ≡ (get_or marks i d).place →
    whole ≡ listing ++ marked from (drop i marks) (drop from bytes) →
    pushed ≡ listing ++ bytes_line (take (place - from) (drop from bytes)) ∷ [] → cut ≡ pushed ++ line ∷ [] →
    line ≡ label_line (get_or marks i d).label →
    whole ≡ cut ++ marked place (drop (i + 1) marks) (drop place bytes)
cut_more whole listing pushed cut line marks bytes i from place d inside later is e first second named =
    let more = marked_more whole listing marks bytes i from d inside later e in
    let front : cut ≡ (listing ++ bytes_line (take ((get_or marks i d).place - from) (drop from bytes)) ∷ [])
    ++ label_line (get_or marks i d).label ∷ [] =
    second ∙ ap (λ (ls : List Line). ls ++ line ∷ []) first
    ∙ ap (λ (p : ℕ). (listing ++ bytes_line (take (p - from) (drop from bytes)) ∷ []) ++ line ∷ []) is
    ∙ ap (λ (l : Line).
    (listing ++ bytes_line (take ((get_or marks i d).place - from) (drop from bytes)) ∷ []) ++ l ∷ [])
    named in
    more ∙ ap (λ (ls : List Line). ls ++ marked (get_or marks i d).place (drop (i + 1) marks)
    (drop (get_or marks i d).place bytes)) (sym front)
    ∙ ap (λ (p : ℕ). cut ++ marked p (drop (i + 1) marks) (drop p bytes)) (sym is)

-- the bytes of lines with labels in them
pub marked_stand : (address at : ℕ → ℕ) (marks : List Mark) (pc from : ℕ) (bytes : List ℕ) →
    LinesAt address at pc (marked from marks bytes) → BytesStand at pc bytes
marked_stand address at [] pc from bytes lines = lines.0
marked_stand address at (mark ∷ marks) pc from bytes lines =
    let front : List ℕ = take (mark.place - from) bytes in
    let back : List ℕ = drop (mark.place - from) bytes in
    let rest : BytesStand at (pc + length front + 0) back =
    marked_stand address at marks (pc + length front + 0) mark.place back lines.1.1 in
    let same : pc + length front + 0 ≡ pc + length front = omega arith in
    subst (BytesStand at pc) (take-append-drop (mark.place - from) bytes)
    (bytes_append at pc front back lines.0 (subst (λ p. BytesStand at p back) same rest))
