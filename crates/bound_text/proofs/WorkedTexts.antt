-- The texts that are worked by hand are as they say.
use Rattle.std.proofs.Common.{◌≡◌, ℕ, ◌<◌, ◌^◌, ◌==◌, Some, None, List, [], ◌∷◌, ◌++◌, length, take, position, decimal, codes}
use Rattle.std.proofs.Common.{refl, sym, ap, ◌∙◌, subst, lit<, arith}
use Rattle.std.specs.Fmt.{digits}
use Rattle.std.specs.Str.Parse.{digits_value}
use Rattle.std.proofs.lemmas.Fmt.{decimal_is_IsNumeral}
use Rattle.bound_text.specs.Texts.{IsBadLine}
use Rattle.bound_text.specs.WorkedTexts.{TextsAreWorked, BadLinesAreWorked}
use Rattle.bound_text.proofs.OneReading.{texts_have_no_bad_line, one_bad_line}

pub texts_are_worked : TextsAreWorked
unfolding digits
texts_are_worked = record { none = refl; two = refl; greatest = refl }

-- digits are those of their value alone
value_of : (word : List ℕ) (number : ℕ) → number < 2 ^ 64 → word ≡ decimal number → number ≡ digits_value 10 word
value_of word number few is = sym (decimal_is_IsNumeral number few).1 ∙ ap (digits_value 10) (sym is)

-- a rest whose first line is a word that isn't what its value is written as
module _ (word more : List ℕ) (place : ℕ) (there : position (λ byte. byte == 10) (word ++ 10 ∷ more) ≡ Some place)
    (is_word : take place (word ++ 10 ∷ more) ≡ word) (other : decimal (digits_value 10 word) ≡ word → ⊥) where
  bad_rest : (end number : ℕ) → position (λ byte. byte == 10) (word ++ 10 ∷ more) ≡ Some end → number < 2 ^ 64 →
      ¬ (take end (word ++ 10 ∷ more) ≡ decimal number)
  bad_rest end number at few is =
      let same : place ≡ end = let both : Some place ≡ Some end = sym there ∙ at in cc (both) in
      let spelled : word ≡ decimal number =
      sym is_word ∙ ap (λ n. take n (word ++ 10 ∷ more)) same ∙ is in
      other (ap decimal (sym (value_of word number few spelled)) ∙ sym spelled)

-- one whose value has no room
great_rest : (end number : ℕ) → position (λ byte. byte == 10) (codes "18446744073709551616\n") ≡ Some end →
    number < 2 ^ 64 → ¬ (take end (codes "18446744073709551616\n") ≡ decimal number)
great_rest end number at few is =
    let same : 20 ≡ end = let both : Some 20 ≡ Some end = at in cc (both) in
    let spelled : codes "18446744073709551616" ≡ decimal number =
    ap (λ n. take n (codes "18446744073709551616\n")) same ∙ is in
    let value : number ≡ 18446744073709551616 = value_of (codes "18446744073709551616") number few spelled in
    omega (arith, value, few)

pub bad_lines_are_worked : BadLinesAreWorked
unfolding digits
bad_lines_are_worked = record {
  zero = record {
    numbers = [];
    rest = codes "01\n";
    fit = tt;
    are = refl;
    some = lit< tt;
    bad = bad_rest (codes "01") [] 2 refl refl (λ e. cc (e));
    place = refl;
  };
  unended = record {
    numbers = 1 ∷ [];
    rest = codes "2";
    fit = (lit< tt, tt);
    are = refl;
    some = lit< tt;
    bad = λ end number at few is. cc (at);
    place = refl;
  };
  empty = record {
    numbers = 1 ∷ [];
    rest = codes "\n";
    fit = (lit< tt, tt);
    are = refl;
    some = lit< tt;
    bad = bad_rest [] [] 0 refl refl (λ e. cc (e));
    place = refl;
  };
  return = record {
    numbers = [];
    rest = codes "1\r\n";
    fit = tt;
    are = refl;
    some = lit< tt;
    bad = bad_rest (codes "1\r") [] 2 refl refl (λ e. cc (e));
    place = refl;
  };
  great = record {
    numbers = [];
    rest = codes "18446744073709551616\n";
    fit = tt;
    are = refl;
    some = lit< tt;
    bad = great_rest;
    place = refl;
  };
  later = λ is.
      (let first : IsBadLine (codes "x\ny\n") 1 = record {
        numbers = [];
        rest = codes "x\ny\n";
        fit = tt;
        are = refl;
        some = lit< tt;
        bad = bad_rest (codes "x") (codes "y\n") 1 refl refl (λ e. cc (e));
        place = refl;
      } in
      let same = one_bad_line (codes "x\ny\n") 1 2 first is in omega (arith, same));
  nothing = λ line. texts_have_no_bad_line [] line tt;
  numbers = λ line. texts_have_no_bad_line (0 ∷ 12 ∷ []) line (lit< tt, (lit< tt, tt));
}
