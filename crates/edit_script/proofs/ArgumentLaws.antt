-- Arguments are read as they are spelled, and spelled as they are read.
use borrow.Rule.Slice.PartMut.{put_mid}
use Rattle.std.proofs.Common.{◌≡◌, ℕ, ◌+◌, ◌-◌, ◌*◌, ◌<◌, ◌≤◌, Bool, true, false}
use Rattle.std.proofs.Common.{◌&&◌, cond, eqb, leb, get_or, List, [], ◌∷◌, ◌++◌, length, map, take, drop}
use Rattle.std.proofs.Common.{sum, Option, Some, None, Result, Ok, Err, refl, sym, ap, ◌∙◌, arith}
use Rattle.std.specs.List.{flat_map}
use Rattle.std.specs.Result.{MatchResult, result_ok}
use Rattle.std.proofs.lemmas.Bool.{eqb-true, eq-eqb, ne_eqb, le-leb, lt-leb}
use Rattle.std.proofs.lemmas.Slice.{take-put_mid}
use Rattle.std.proofs.lemmas.List.{append-nil, append_assoc, length-append, length-take, length-take-le, length-drop}
use Rattle.std.proofs.lemmas.List.{take-append-drop, take_at, drop_at, drop_all, drop_more}
use Rattle.std.proofs.lemmas.List.Sums.{sum_by-cons}
use Rattle.hex.specs.declared.error.FromHexError.{FromHexError}
use Rattle.hex.specs.Hex.{decode_sized}
use Rattle.hex.proofs.HexLemmas.{decode_sized-ok, decode_sized-twice, decode_of-ok}
use Rattle.edit_script.specs.Forms.{Argument}
use Rattle.edit_script.specs.Spells.{AreSpelled}
use Rattle.edit_script.specs.Reading.{◌>>=◌, argument_at, arguments_at, word_end}

-- ---- one argument

bytes_count : (digits : List ℕ) (size : ℕ) (bytes : List ℕ) → decode_sized digits size ≡ Ok bytes →
    length bytes ≡ size
bytes_count digits size bytes e =
    let long : length digits ≡ 2 * size = decode_sized-ok digits size bytes e in
    let all = decode_of-ok digits bytes (sym (decode_sized-twice digits size long) ∙ e) in
    omega (arith, long, all.2)

pub argument_again : (size : ℕ) (digits rest bytes : List ℕ) → decode_sized digits size ≡ Ok bytes →
    argument_at size (32 ∷ (digits ++ rest)) ≡ Some (bytes, rest)
unfolding argument_at
argument_again size digits rest bytes e =
    let long : length digits ≡ 2 * size = decode_sized-ok digits size bytes e in
    let fits : leb (2 * size) (length (digits ++ rest)) ≡ true =
    le-leb _ _ (omega (arith, length-append digits rest, long)) in
    let front : take (2 * size) (digits ++ rest) ≡ digits = take_at digits rest (2 * size) long in
    let back : drop (2 * size) (digits ++ rest) ≡ rest = drop_at digits rest (2 * size) long in
    rw (fits, front, e, back) refl

abbrev with_rest : List ℕ → List ℕ → Option (List ℕ × List ℕ)
with_rest rest read = Some (read, rest)

-- what was tested and decoded
record HasPassed (space fits : Bool) (decoded : Result (List ℕ) FromHexError)
    (behind bytes rest : List ℕ) : Type 0 where
  is_space : space ≡ true
  is_long : fits ≡ true
  is_decoded : decoded ≡ Ok bytes
  is_rest : behind ≡ rest

passed : (space fits : Bool) (decoded : Result (List ℕ) FromHexError) (behind bytes rest : List ℕ) →
    cond (space && fits) (result_ok decoded >>= with_rest behind) None ≡ Some (bytes, rest) →
    HasPassed space fits decoded behind bytes rest
passed true true (Ok read) behind bytes rest e =
    let pair : (read, behind) ≡ (bytes, rest) = cc (e) in
    record {
      is_space = refl;
      is_long = refl;
      is_decoded = ap (λ (x : List ℕ × List ℕ). Ok x.0) pair;
      is_rest = ap (λ (x : List ℕ × List ℕ). x.1) pair;
    }
passed true true (Err fault) behind bytes rest e = absurd (cc (e))
passed true false decoded behind bytes rest e = absurd (cc (e))
passed false fits decoded behind bytes rest e = absurd (cc (e))

pub record IsAtFront (size : ℕ) (text bytes rest : List ℕ) : Type 0 where
  pub digits : List ℕ
  pub parts : text ≡ 32 ∷ (digits ++ rest)
  pub decoded : decode_sized digits size ≡ Ok bytes

pub argument_takes : (size : ℕ) (text bytes rest : List ℕ) → argument_at size text ≡ Some (bytes, rest) →
    IsAtFront size text bytes rest
unfolding argument_at
argument_takes size [] bytes rest e = absurd (cc (e))
argument_takes size (first ∷ behind) bytes rest e =
    let is =
    passed (eqb first 32) (leb (2 * size) (length behind)) (decode_sized (take (2 * size) behind) size)
    (drop (2 * size) behind) bytes rest e in
    let space : first ≡ 32 = eqb-true first 32 is.is_space in
    let whole : behind ≡ take (2 * size) behind ++ rest =
    sym (take-append-drop (2 * size) behind) ∙ ap (λ b. take (2 * size) behind ++ b) is.is_rest in
    record {
      digits = take (2 * size) behind;
      parts = ap (λ b. first ∷ b) whole ∙ ap (λ f. f ∷ (take (2 * size) behind ++ rest)) space;
      decoded = is.is_decoded;
    }

-- ---- all arguments

-- bytes, cut into arguments of these sizes
abbrev pub cut : List ℕ → List ℕ → List Argument
cut [] bytes = []
cut (size ∷ sizes) bytes = record { size = size; bytes = take size bytes } ∷ cut sizes (drop size bytes)

abbrev pub bytes_of : List Argument → List ℕ
bytes_of arguments = flat_map (λ (argument : Argument). argument.bytes) arguments

abbrev pub AreSized : List Argument → Type 0
AreSized [] = Unit {0}
AreSized (argument ∷ arguments) = (length argument.bytes ≡ argument.size) × AreSized arguments

pub are_sized : (arguments : List Argument) (text : List ℕ) → AreSpelled arguments text → AreSized arguments
are_sized [] text spelled = tt
are_sized (argument ∷ arguments) text (digits, rest, parts, decoded, others) =
    (bytes_count digits argument.size argument.bytes decoded, are_sized arguments rest others)

-- arguments begin with a space, or there are none
pub stops : (arguments : List Argument) (text : List ℕ) → AreSpelled arguments text → word_end text ≡ 0
stops [] text nil = ap word_end nil
stops (argument ∷ arguments) text (digits, rest, parts, decoded, others) = ap word_end parts

pub arguments_again : (arguments : List Argument) (text : List ℕ) → AreSpelled arguments text →
    arguments_at (map (λ (argument : Argument). argument.size) arguments) text ≡ Some (bytes_of arguments)
unfolding arguments_at
arguments_again [] text nil = rw nil refl
arguments_again (argument ∷ arguments) text (digits, rest, parts, decoded, others) =
    let one = argument_again argument.size digits rest argument.bytes decoded in
    let more = arguments_again arguments rest others in
    rw (parts, one, more) refl

-- what one argument and the others give
record HasJoined (first : Option (List ℕ × List ℕ)) (sizes : List ℕ) (bytes : List ℕ) : Type 0 where
  front : List ℕ
  rest : List ℕ
  back : List ℕ
  is_front : first ≡ Some (front, rest)
  is_back : arguments_at sizes rest ≡ Some back
  is_all : bytes ≡ front ++ back

joined_back : (first : Option (List ℕ × List ℕ)) (front rest : List ℕ) (sizes bytes : List ℕ) (o : Option (List ℕ)) →
    first ≡ Some (front, rest) → arguments_at sizes rest ≡ o →
    (o >>= (λ others. Some (front ++ others))) ≡ Some bytes → HasJoined first sizes bytes
joined_back first front rest sizes bytes None is read e = absurd (cc (e))
joined_back first front rest sizes bytes (Some back) is read e =
    record { front = front; rest = rest; back = back; is_front = is; is_back = read; is_all = cc (e) }

joined : (first : Option (List ℕ × List ℕ)) (sizes bytes : List ℕ) →
    (first >>= (λ (x : List ℕ × List ℕ). arguments_at sizes x.1 >>= (λ others. Some (x.0 ++ others)))) ≡ Some bytes →
    HasJoined first sizes bytes
joined None sizes bytes e = absurd (cc (e))
joined (Some (front, rest)) sizes bytes e =
    joined_back (Some (front, rest)) front rest sizes bytes (arguments_at sizes rest) refl refl e

pub record Takes (sizes : List ℕ) (text bytes : List ℕ) : Type 0 where
  pub count : length bytes ≡ sum sizes
  pub spelled : AreSpelled (cut sizes bytes) text

none_left : (text bytes : List ℕ) → cond (eqb (length text) 0) (Some []) None ≡ Some bytes → Takes [] text bytes
none_left [] bytes e = let nil : [] ≡ bytes = cc (e) in record { count = ap length (sym nil); spelled = refl }
none_left (byte ∷ text) bytes e =
    let some : eqb (length (byte ∷ text)) 0 ≡ false = ne_eqb _ 0 (λ zero. absurd (omega (arith, zero))) in
    absurd (cc (rw some at e))

pub arguments_take : (sizes text bytes : List ℕ) → arguments_at sizes text ≡ Some bytes → Takes sizes text bytes
unfolding arguments_at
arguments_take [] text bytes e = none_left text bytes e
arguments_take (size ∷ sizes) text bytes e =
    let is = joined (argument_at size text) sizes bytes e in
    let one = argument_takes size text is.front is.rest is.is_front in
    let others = arguments_take sizes is.rest is.back is.is_back in
    let count : length is.front ≡ size = bytes_count one.digits size is.front one.decoded in
    let front : take size bytes ≡ is.front = ap (take size) is.is_all ∙ take_at is.front is.back size count in
    let back : drop size bytes ≡ is.back = ap (drop size) is.is_all ∙ drop_at is.front is.back size count in
    record {
      count = ap length is.is_all ∙ length-append is.front is.back ∙ ap (λ n. n + length is.back) count
          ∙ ap (λ n. size + n) others.count ∙ sym (sum_by-cons (λ n. n) size sizes);
      spelled =
          (one.digits, is.rest, one.parts, one.decoded ∙ ap Ok (sym front), rw back others.spelled);
    }

-- ---- the loop over arguments

abbrev with_front : List ℕ → Option (List ℕ) → Option (List ℕ)
with_front front read = read >>= (λ others. Some (front ++ others))

no_front : (read : Option (List ℕ)) → with_front [] read ≡ read
no_front None = refl
no_front (Some others) = refl

more_front : (front piece : List ℕ) (read : Option (List ℕ)) →
    with_front front (with_front piece read) ≡ with_front (front ++ piece) read
more_front front piece None = refl
more_front front piece (Some others) = ap Some (sym (append_assoc front piece others))

-- of arguments of these sizes in a text so many are read, to so many bytes, and this is left of the text
pub record IsReadTo (sizes text : List ℕ) (i at : ℕ) (bytes left : List ℕ) : Type 0 where
  pub total : at + sum (drop i sizes) ≡ sum sizes
  pub reading : with_front (take at bytes) (arguments_at (drop i sizes) left) ≡ arguments_at sizes text

pub none_read : (sizes text bytes : List ℕ) → IsReadTo sizes text 0 0 bytes text
none_read sizes text bytes = record { total = omega arith; reading = no_front (arguments_at sizes text) }

arguments_from : (size : ℕ) (sizes left : List ℕ) (o : Option (List ℕ × List ℕ)) → argument_at size left ≡ o →
    arguments_at (size ∷ sizes) left ≡ (o >>= (λ (x : List ℕ × List ℕ). with_front x.0 (arguments_at sizes x.1)))
unfolding arguments_at
arguments_from size sizes left o e = rw e refl

sizes_from : (sizes : List ℕ) (i size : ℕ) → i < length sizes → size ≡ get_or sizes i 0 →
    drop i sizes ≡ size ∷ drop (i + 1) sizes
sizes_from sizes i size lt is = drop_more sizes i 0 lt ∙ ap (λ (n : ℕ). n ∷ drop (i + 1) sizes) (sym is)

pub one_read : (sizes text : List ℕ) (i at size : ℕ) (bytes after left piece rest : List ℕ) → i < length sizes →
    size ≡ get_or sizes i 0 → argument_at size left ≡ Some (piece, rest) →
    take (at + size) after ≡ take at bytes ++ piece → IsReadTo sizes text i at bytes left →
    IsReadTo sizes text (i + 1) (at + size) after rest
one_read sizes text i at size bytes after left piece rest lt is read front to =
    let next = sizes_from sizes i size lt is in
    let total : sum (drop i sizes) ≡ size + sum (drop (i + 1) sizes) =
    ap sum next ∙ sum_by-cons (λ n. n) size (drop (i + 1) sizes) in
    let step : arguments_at (drop i sizes) left ≡ with_front piece (arguments_at (drop (i + 1) sizes) rest) =
    ap (λ ss. arguments_at ss left) next ∙ arguments_from size (drop (i + 1) sizes) left (Some (piece, rest)) read in
    record {
      total = omega (arith, total, to.total);
      reading =
          ap (λ f. with_front f (arguments_at (drop (i + 1) sizes) rest)) front
          ∙ sym (more_front (take at bytes) piece (arguments_at (drop (i + 1) sizes) rest))
          ∙ ap (with_front (take at bytes)) (sym step) ∙ to.reading;
    }

pub one_fails : (sizes text : List ℕ) (i at size : ℕ) (bytes left : List ℕ) → i < length sizes →
    size ≡ get_or sizes i 0 → argument_at size left ≡ None → IsReadTo sizes text i at bytes left →
    arguments_at sizes text ≡ None
one_fails sizes text i at size bytes left lt is none to =
    let next = sizes_from sizes i size lt is in
    let step : arguments_at (drop i sizes) left ≡ None =
    ap (λ ss. arguments_at ss left) next ∙ arguments_from size (drop (i + 1) sizes) left None none in
    sym to.reading ∙ ap (with_front (take at bytes)) step

nothing_left : (left : List ℕ) → arguments_at [] left ≡ cond (eqb (length left) 0) (Some []) None
unfolding arguments_at
nothing_left left = refl

at_end : (sizes text : List ℕ) (i at : ℕ) (bytes left : List ℕ) → length sizes ≤ i →
    IsReadTo sizes text i at bytes left →
    with_front (take at bytes) (cond (eqb (length left) 0) (Some []) None) ≡ arguments_at sizes text
at_end sizes text i at bytes left over to =
    let none : drop i sizes ≡ [] = drop_all i sizes over in
    ap (with_front (take at bytes)) (sym (ap (λ ss. arguments_at ss left) none ∙ nothing_left left)) ∙ to.reading

pub all_are_read : (sizes text : List ℕ) (i at : ℕ) (bytes left : List ℕ) → length sizes ≤ i → length left ≡ 0 →
    IsReadTo sizes text i at bytes left → arguments_at sizes text ≡ Some (take (sum sizes) bytes)
all_are_read sizes text i at bytes left over empty to =
    let none : drop i sizes ≡ [] = drop_all i sizes over in
    let place : at ≡ sum sizes = omega (arith, to.total, ap sum none) in
    let is_empty : eqb (length left) 0 ≡ true = eq-eqb _ _ empty in
    let end : with_front (take at bytes) (Some []) ≡ arguments_at sizes text =
    rw is_empty at (at_end sizes text i at bytes left over to) in
    sym end ∙ ap Some (append-nil (take at bytes) ∙ ap (λ n. take n bytes) place)

pub some_is_left : (sizes text : List ℕ) (i at : ℕ) (bytes left : List ℕ) → length sizes ≤ i → 0 < length left →
    IsReadTo sizes text i at bytes left → arguments_at sizes text ≡ None
some_is_left sizes text i at bytes left over some to =
    let not_empty : eqb (length left) 0 ≡ false = ne_eqb _ _ (λ e. absurd (omega (arith, e, some))) in
    sym (rw not_empty at (at_end sizes text i at bytes left over to))

-- ---- one argument, as it is tried

pub no_blank : (size : ℕ) (text : List ℕ) → ((rest : List ℕ) → text ≡ (32 ∷ []) ++ rest → ⊥) →
    argument_at size text ≡ None
unfolding argument_at
no_blank size [] none = refl
no_blank size (first ∷ behind) none =
    let other : eqb first 32 ≡ false =
    ne_eqb first 32 (λ is. none behind (ap (λ (byte : ℕ). byte ∷ behind) is)) in rw other refl

pub too_short : (size : ℕ) (text behind : List ℕ) → text ≡ (32 ∷ []) ++ behind → length behind < 2 * size →
    argument_at size text ≡ None
unfolding argument_at
too_short size text behind parts short =
    let over : leb (2 * size) (length behind) ≡ false = lt-leb _ _ short in rw (parts, over) refl

pub no_digits : (size : ℕ) (text behind : List ℕ) → text ≡ (32 ∷ []) ++ behind → 2 * size ≤ length behind →
    result_ok (decode_sized (take (2 * size) behind) size) ≡ None → argument_at size text ≡ None
unfolding argument_at
no_digits size text behind parts long none =
    let fits : leb (2 * size) (length behind) ≡ true = le-leb _ _ long in rw (parts, fits, none) refl

pub some_digits : (size : ℕ) (text behind bytes : List ℕ) → text ≡ (32 ∷ []) ++ behind →
    decode_sized (take (2 * size) behind) size ≡ Ok bytes →
    argument_at size text ≡ Some (bytes, drop (2 * size) behind)
some_digits size text behind bytes parts decoded =
    let whole : text ≡ 32 ∷ (take (2 * size) behind ++ drop (2 * size) behind) =
    parts ∙ ap (λ (b : List ℕ). 32 ∷ b) (sym (take-append-drop (2 * size) behind)) in
    ap (argument_at size) whole ∙ argument_again size (take (2 * size) behind) (drop (2 * size) behind) bytes decoded

-- what decoding into room has answered
abbrev pub IsDecoded : Result (List ℕ) FromHexError → Result (Unit {0}) FromHexError → List ℕ → Type 0
IsDecoded decoded result out =
    MatchResult decoded (λ bytes. (result ≡ Ok tt) × (out ≡ bytes)) (λ fault. result ≡ Err fault)

pub undecoded : (decoded : Result (List ℕ) FromHexError) (result : Result (Unit {0}) FromHexError) (out : List ℕ) →
    IsDecoded decoded result out → result_ok result ≡ None → result_ok decoded ≡ None
undecoded (Ok bytes) result out is none = absurd (cc (ap result_ok is.0, none))
undecoded (Err fault) result out is none = refl

pub is_decoded : (decoded : Result (List ℕ) FromHexError) (result : Result (Unit {0}) FromHexError) (out : List ℕ) →
    (x : Unit {0}) → IsDecoded decoded result out → result_ok result ≡ Some x → decoded ≡ Ok out
is_decoded (Ok bytes) result out x is some = ap Ok (sym is.1)
is_decoded (Err fault) result out x is some = absurd (cc (ap result_ok is, some))

-- ---- one argument more in the loop

-- there is room for the next argument
room_for : (sizes text : List ℕ) (i at : ℕ) (bytes left : List ℕ) → i < length sizes → sum sizes ≤ length bytes →
    IsReadTo sizes text i at bytes left → at + get_or sizes i 0 ≤ length bytes
room_for sizes text i at bytes left lt fits to =
    let next = sizes_from sizes i (get_or sizes i 0) lt refl in
    let total : sum (drop i sizes) ≡ get_or sizes i 0 + sum (drop (i + 1) sizes) =
    ap sum next ∙ sum_by-cons (λ n. n) (get_or sizes i 0) (drop (i + 1) sizes) in
    omega (arith, total, to.total, fits)

part_size : (at size : ℕ) (bytes : List ℕ) → at + size ≤ length bytes →
    length (take (at + size - at) (drop at bytes)) ≡ size
part_size at size bytes fits =
    let k : at + size - at ≡ size = omega arith in
    length-take (at + size - at) (drop at bytes) ∙ omega (arith, k, length-drop at bytes, fits)

pub part_read : (sizes text : List ℕ) (i at : ℕ) (bytes left piece rest : List ℕ) → i < length sizes →
    sum sizes ≤ length bytes →
    argument_at (length (take (at + get_or sizes i 0 - at) (drop at bytes))) left ≡ Some (piece, rest) →
    length piece ≡ length (take (at + get_or sizes i 0 - at) (drop at bytes)) → IsReadTo sizes text i at bytes left →
    IsReadTo sizes text (i + 1) (at + get_or sizes i 0) (put_mid at (at + get_or sizes i 0 - at) bytes piece) rest
part_read sizes text i at bytes left piece rest lt fits read long to =
    let size = get_or sizes i 0 in
    let room = room_for sizes text i at bytes left lt fits to in
    let part = part_size at size bytes room in
    let front : take (at + size) (put_mid at (at + size - at) bytes piece) ≡ take at bytes ++ piece =
    take-put_mid at (at + size - at) bytes piece (at + size) (omega (arith, long, part)) (omega (arith, room)) in
    one_read sizes text i at size bytes (put_mid at (at + size - at) bytes piece) left piece rest lt refl
    (ap (λ n. argument_at n left) (sym part) ∙ read) front to

pub part_fails : (sizes text : List ℕ) (i at : ℕ) (bytes left : List ℕ) → i < length sizes →
    sum sizes ≤ length bytes →
    argument_at (length (take (at + get_or sizes i 0 - at) (drop at bytes))) left ≡ None →
    IsReadTo sizes text i at bytes left → arguments_at sizes text ≡ None
part_fails sizes text i at bytes left lt fits none to =
    let size = get_or sizes i 0 in
    let part = part_size at size bytes (room_for sizes text i at bytes left lt fits to) in
    one_fails sizes text i at size bytes left lt refl (ap (λ n. argument_at n left) (sym part) ∙ none) to

length_put : (at size : ℕ) (bytes piece : List ℕ) → at + size ≤ length bytes → length piece ≡ size →
    length (put_mid at size bytes piece) ≡ length bytes
length_put at size bytes piece fits long =
    let behind : List ℕ = drop size (drop at bytes) in
    let whole = length-append (take at bytes) (piece ++ behind) in
    let back = length-append piece behind in
    let front : length (take at bytes) ≡ at = length-take-le at bytes (omega (arith, fits)) in
    let one = length-drop size (drop at bytes) in
    let two = length-drop at bytes in
    whole ∙ omega (arith, back, front, one, two, fits, long)

-- the bytes stay as many
pub part_room : (sizes text : List ℕ) (i at : ℕ) (bytes left piece : List ℕ) → i < length sizes →
    sum sizes ≤ length bytes → length piece ≡ length (take (at + get_or sizes i 0 - at) (drop at bytes)) →
    IsReadTo sizes text i at bytes left →
    length (put_mid at (at + get_or sizes i 0 - at) bytes piece) ≡ length bytes
part_room sizes text i at bytes left piece lt fits long to =
    let size = get_or sizes i 0 in
    let room = room_for sizes text i at bytes left lt fits to in
    let part = part_size at size bytes room in
    length_put at (at + size - at) bytes piece (omega (arith, room)) (omega (arith, long, part))
