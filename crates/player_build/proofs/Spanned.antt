-- The spans of an image name the parts of its bytes.
use Rattle.std.proofs.Common.{◌≡◌, ℕ, ◌+◌, ◌-◌, ◌<◌, ◌≤◌, ◌⊎◌, ◌==◌, Bool, true, false, if◌then◌else◌}
use Rattle.std.proofs.Common.{List, [], ◌∷◌, ◌++◌, All, length, replicate, refl, sym, ap, ◌∙◌, arith, inl, inr, subst}
use Rattle.std.proofs.lemmas.Bool.{cases_lt, cases_eq, ne_eqb}
use Rattle.std.proofs.lemmas.List.Elements.{All-nil, All-cons, All-append}
use Rattle.std.proofs.lemmas.List.Sums.{sum_by-append}
use Rattle.play_model.specs.declared.options.Options.{Options}
use Rattle.packed_form.specs.declared.packed_songs.PackedSong.{PackedSong}
use Rattle.scope_parts.specs.Parts.{bytes_of}
use Rattle.kept_lines.specs.Asked.{asked_by}
use Rattle.image_parts.specs.CodeParts.{always, code_parts, code_length, zero_bytes}
use Rattle.image_parts.specs.Lengths.{slide_bytes, read_of, frequency_bytes, image_length}
use Rattle.image_parts.proofs.Laws.{speeds_are_read}
use Rattle.player_build.specs.declared.image.PartSpan.{PartSpan}
use Rattle.player_build.specs.Spans.{StandInOrder, spans_size, part_size, parts_of_spans, zero_length, IsNamed, song_bytes, NamesParts}
use Rattle.player_build.specs.Joined.{Follow, zero_span, AreSpansOf}
use Rattle.player_build.proofs.Parted.{spans_split, spans_bytes}
use Rattle.player_build.proofs.Joining.{follows_size, follows_named}
use Rattle.player_build.proofs.Naming.{named_left, named_right, named_as_left, code_named, none_packed, follow_inside}
use Rattle.player_build.proofs.Naming.{front_named, first_zero_named, second_zero_named}

-- ---- the spans of an image

zeros_sum : (code one two : ℕ) → code + (0 + one + two) ≡ code + one + two
zeros_sum code one two = omega arith

-- of one part
pub spans_part : (part : ℕ) (code : List PartSpan) (a b : ℕ) →
    part_size part (code ++ zero_span a ∷ zero_span b ∷ [])
    ≡ part_size part code + (if always == part then zero_length else 0)
    + (if always == part then zero_length else 0)
spans_part part code a b =
    sum_by-append _ code (zero_span a ∷ zero_span b ∷ [])
    ∙ zeros_sum (part_size part code)
    (if always == part then zero_length else 0) (if always == part then zero_length else 0)

pub spans_all : (code : List PartSpan) (a b : ℕ) →
    spans_size (code ++ zero_span a ∷ zero_span b ∷ []) ≡ spans_size code + zero_length + zero_length
spans_all code a b =
    sum_by-append _ code (zero_span a ∷ zero_span b ∷ [])
    ∙ zeros_sum (spans_size code) zero_length zero_length

-- each part has its length
part_is : (part : ℕ) (front : List PartSpan) (code : List ℕ) (a b : ℕ) → parts_of_spans front ≡ code →
    part_size part (front ++ zero_span a ∷ zero_span b ∷ [])
    ≡ bytes_of part code + (if part == always then zero_bytes else 0)
part_is part front code a b parts =
    let all = spans_part part front a b in
    let own = spans_bytes part front ∙ ap (bytes_of part) parts in
    elim (cases_eq part always) [
      | inl same ↦ by_both (always == part) (part == always) (is_same part same) (same_is part same) all own
      | inr other ↦
          by_none (always == part) (part == always) (ne_eqb always part (λ e. other (sym e))) (ne_eqb part always other)
          all own
    ]
  where
    is_same : (part : ℕ) → part ≡ always → (always == part) ≡ true
    is_same part e = rw e refl

    same_is : (part : ℕ) → part ≡ always → (part == always) ≡ true
    same_is part e = rw e refl

    by_both : (y z : Bool) → y ≡ true → z ≡ true → {spans own bytes : ℕ} →
        spans ≡ own + (if y then zero_length else 0) + (if y then zero_length else 0) → own ≡ bytes →
        spans ≡ bytes + (if z then zero_bytes else 0)
    by_both true true y z all own = omega (arith, all, own)
    by_both true false y z all own = absurd (cc)
    by_both false true y z all own = absurd (cc)
    by_both false false y z all own = absurd (cc)

    by_none : (y z : Bool) → y ≡ false → z ≡ false → {spans own bytes : ℕ} →
        spans ≡ own + (if y then zero_length else 0) + (if y then zero_length else 0) → own ≡ bytes →
        spans ≡ bytes + (if z then zero_bytes else 0)
    by_none false false y z all own = omega (arith, all, own)
    by_none true true y z all own = absurd (cc)
    by_none true false y z all own = absurd (cc)
    by_none false true y z all own = absurd (cc)

-- ---- the spans name the parts

end_follows : (code speeds : ℕ) → code + zero_length + zero_length + speeds ≡ code + zero_length + speeds + zero_length
end_follows code speeds = omega arith

code_end : (from code : ℕ) → from ≡ code → from ≤ code
code_end from code e = omega (arith, e)

rows_between : (code speeds : ℕ) → code + zero_length ≤ code + zero_length + speeds
rows_between code speeds = omega arith

span_begin : (start from : ℕ) → start ≡ from → from ≤ start
span_begin start from e = omega (arith, e)

all_in_order : (front : List PartSpan) (from code speeds : ℕ) → Follow from front code →
    StandInOrder from (front ++ zero_span code ∷ zero_span (code + zero_length + speeds) ∷ [])
all_in_order [] from code speeds f = (code_end from code f, (rows_between code speeds, tt))
all_in_order (span ∷ front) from code speeds f = (
  span_begin _ _ f.0,
  all_in_order front (span.start + span.length) code speeds
      (subst (λ n. Follow (n + span.length) front code) (sym f.0) f.1),
)

zero_few : 0 < 2
zero_few = omega arith

one_few : 1 < 2
one_few = omega arith

nothing_low : (byte : ℕ) → 0 ≤ byte
nothing_low byte = omega arith

rows_low : (byte code all : ℕ) → code + zero_bytes ≡ all → code + zero_length ≤ byte → all - zero_length ≤ byte
rows_low byte code all e h = omega (arith, e, h)

rows_high : (byte code speeds rows all : ℕ) → code + zero_bytes ≡ all → speeds ≡ rows →
    byte < code + zero_length + speeds → byte < all - zero_length + rows
rows_high byte code speeds rows all e f h = omega (arith, e, f, h)

rest_low : (byte code speeds rows all : ℕ) → code + zero_bytes ≡ all → speeds ≡ rows →
    code + zero_length + speeds + zero_length ≤ byte → all + rows ≤ byte
rest_low byte code speeds rows all e f h = omega (arith, e, f, h)

all_named : (byte code speeds rows all : ℕ) → code + zero_bytes ≡ all → speeds ≡ rows → (front : List PartSpan) →
    Follow 0 front code →
    IsNamed (front ++ zero_span code ∷ zero_span (code + zero_length + speeds) ∷ []) byte
    ⊎ (((all - zero_length ≤ byte) × (byte < all - zero_length + rows)) ⊎ (all + rows ≤ byte))
all_named byte code speeds rows all e f front follow =
    let back : List PartSpan = zero_span code ∷ zero_span (code + zero_length + speeds) ∷ [] in
    elim (cases_lt byte code) [
      | inl a ↦
          let low = a in
          inl (named_left front back byte (follows_named front 0 code byte follow (nothing_low byte) low))
      | inr a ↦
          let first = a in
          elim (cases_lt byte (code + zero_length)) [
            | inl b ↦
                let in_first = b in
                inl (named_right front back byte record {
                  span = zero_span code;
                  is_there = (0, zero_few, refl);
                  from = first;
                  below = in_first;
                })
            | inr b ↦
                let second = b in
                elim (cases_lt byte (code + zero_length + speeds)) [
                  | inl d ↦
                      let in_rows = d in
                      inr (inl (rows_low byte code all e second, rows_high byte code speeds rows all e f in_rows))
                  | inr d ↦
                      let third = d in
                      elim (cases_lt byte (code + zero_length + speeds + zero_length)) [
                        | inl g ↦
                            let in_second = g in
                            inl (named_right front back byte record {
                              span = zero_span (code + zero_length + speeds);
                              is_there = (1, one_few, refl);
                              from = third;
                              below = in_second;
                            })
                        | inr g ↦
                            let last = g in inr (inr (rest_low byte code speeds rows all e f last))
                      ]
                ]
          ]
    ]

-- so a byte that isn't the packed song's is named
named_else : (byte code speeds rows all : ℕ) → code + zero_bytes ≡ all → speeds ≡ rows → (front : List PartSpan) →
    Follow 0 front code →
    ((((all - zero_length ≤ byte) × (byte < all - zero_length + rows)) ⊎ (all + rows ≤ byte)) → ⊥) →
    IsNamed (front ++ zero_span code ∷ zero_span (code + zero_length + speeds) ∷ []) byte
named_else byte code speeds rows all e f front follow other =
    elim (all_named byte code speeds rows all e f front follow) [
      | inl a ↦ let named = a in named
      | inr b ↦ let packed = b in absurd (other packed)
    ]

added : (spans code packed all size : ℕ) → 0 + spans ≡ code → code + zero_bytes ≡ all → size ≡ packed + all →
    spans + zero_length + zero_length + packed ≡ size
added spans code packed all size a b c = omega (arith, a, b, c)

-- how its parts follow each other
zero_parts : (code : List PartSpan) (a b : ℕ) →
    parts_of_spans (code ++ zero_span a ∷ zero_span b ∷ []) ≡ parts_of_spans code
    ++ replicate zero_bytes always
zero_parts code a b = spans_split code (zero_span a ∷ zero_span b ∷ [])

rows_within : (packed : PackedSong) → length packed.speed ≤ song_bytes packed
rows_within packed =
    within (read_of packed) (length packed.speed) (slide_bytes (asked_by packed) (length packed.speed))
    (frequency_bytes packed.numbers (read_of packed)) (speeds_are_read packed)
  where
    within : (read rows slides frequencies : ℕ) → rows ≤ read → rows ≤ read + slides + frequencies
    within read rows slides frequencies few = omega (arith, few)

code_ends : (code packed all size : ℕ) → code + zero_bytes ≡ all → size ≡ packed + all → code ≤ size
code_ends code packed all size a b = omega (arith, a, b)

first_ends : (code packed all size : ℕ) → code + zero_bytes ≡ all → size ≡ packed + all → code + zero_length ≤ size
first_ends code packed all size a b = omega (arith, a, b)

second_ends : (code packed all size speeds rows : ℕ) → code + zero_bytes ≡ all → size ≡ packed + all →
    speeds ≡ rows → rows ≤ packed → code + zero_length + speeds + zero_length ≤ size
second_ends code packed all size speeds rows a b c h = omega (arith, a, b, c, h)

abbrev Ends : ℕ → PartSpan → Type 0
Ends size span = span.start + span.length ≤ size

all_inside : (front : List PartSpan) (code packed all size speeds rows : ℕ) → Follow 0 front code →
    code + zero_bytes ≡ all → size ≡ packed + all → speeds ≡ rows → rows ≤ packed →
    All (Ends size) (front ++ zero_span code ∷ zero_span (code + zero_length + speeds) ∷ [])
all_inside front code packed all size speeds rows follow a b c h =
    All-append (Ends size) front (zero_span code ∷ zero_span (code + zero_length + speeds) ∷ [])
    (follow_inside front 0 code size follow (code_ends code packed all size a b))
    (All-cons (Ends size) (zero_span code) (zero_span (code + zero_length + speeds) ∷ [])
    (first_ends code packed all size a b)
    (All-cons (Ends size) (zero_span (code + zero_length + speeds)) []
    (second_ends code packed all size speeds rows a b c h) (All-nil (Ends size))))

pub is_parts : (packed : PackedSong) (o : Options) (size speeds : ℕ) (code : List ℕ) (spans : List PartSpan) →
    code ≡ code_parts (asked_by packed) o → size ≡ image_length packed o → speeds ≡ length packed.speed →
    AreSpansOf code speeds spans → NamesParts packed o size spans
is_parts packed o size speeds code spans code_is size_is speeds_are are =
    let long = length code in
    let all : ℕ = code_length (asked_by packed) o in
    let rows = length packed.speed in
    let whole : long + zero_bytes ≡ all = ap (λ (c : List ℕ). length c + zero_bytes) code_is in
    let lists : ℕ = song_bytes packed in
    let parts_are = are.parts ∙ code_is in
    let here : NamesParts packed o size
    (are.front ++ zero_span long ∷ zero_span (long + zero_length + speeds) ∷ []) =
    record {
      in_order = all_in_order are.front 0 long speeds are.follow;
      inside = all_inside are.front long lists all size speeds rows are.follow whole size_is speeds_are
          (rows_within packed);
      named = λ byte below. (
        none_packed byte long speeds rows all whole speeds_are are.front are.follow,
        named_else byte long speeds rows all whole speeds_are are.front are.follow,
      );
      add_up = ap (λ n. n + lists) (spans_all are.front long (long + zero_length + speeds))
          ∙ added _ _ _ _ _ (follows_size are.front 0 long are.follow) whole size_is;
      in_parts = zero_parts are.front long (long + zero_length + speeds)
          ∙ ap (λ (ps : List ℕ). ps ++ replicate zero_bytes always) parts_are;
      in_code = λ byte few.
          named_as_left are.front _ byte _
          (code_named are.front (code_parts (asked_by packed) o) byte
          (subst (λ c. Follow 0 are.front (length c)) code_is are.follow) parts_are few);
      common = record {
        front = λ byte few.
            named_as_left are.front _ byte always
            (front_named are.front (asked_by packed) o long are.follow parts_are byte few);
        first_zero = first_zero_named are.front long (long + zero_length + speeds) all whole;
        second_zero = second_zero_named are.front long speeds rows all whole speeds_are;
      };
      parts = λ part.
          part_is part are.front (code_parts (asked_by packed) o) long (long + zero_length + speeds) parts_are;
    } in
    subst (NamesParts packed o size) (sym are.are) here
