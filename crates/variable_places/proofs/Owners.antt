-- A variable that has a byte is a voice's, of one of its fields, or one of the others, of one of their numbers, or one
-- of the funk tempos; and where it stands then.
use Rattle.std.proofs.Common.{◌≡◌, ℕ, ◌+◌, ◌<◌, ◌≤◌, ◌⊎◌, Bool, true, false, ◌||◌, not, nat_eq, length, get_or, take}
use Rattle.std.proofs.Common.{refl, sym, ap, ◌∙◌, inl, inr, arith}
use Rattle.std.proofs.lemmas.Bool.{lt-ltb, eqb-true, agree_below, agree_below_at}
use Rattle.narrow_runs.specs.Named.{stands_under}
use Rattle.player_memory.specs.Labels.{is_shared}
use Rattle.variable_places.specs.Places.{voice_rows, shared_rows, asked_in, voice_of, base_of, asks, has_byte, standing}
use Rattle.variable_places.specs.Places.{position_in, voice_labels, field_count, other_labels, other_count, own_place}
use Rattle.variable_places.specs.Places.{free_place, funk_place, shared_place, voice_place, place_of}
use Rattle.variable_places.proofs.Lists.{lists, stands_in, stand_few, asks_first, stands_at}

-- ---- what the tables list, tested for each label

lists_voices : agree_below (λ label. is_shared label || lists voice_rows (base_of label)) (λ _. true) 113 ≡ true
unfolding voice_rows
lists_voices = refl

lists_others : agree_below
    (λ label. not (is_shared label)
    || (nat_eq label 111 || (nat_eq label 112 || lists (take 9 shared_rows) label))) (λ _. true) 113 ≡ true
unfolding shared_rows
lists_others = refl

-- so there are as many fields as rows at most, and as many others
few_voice_rows : length voice_rows ≡ 34
unfolding voice_rows
few_voice_rows = refl

few_other_rows : length (take 9 shared_rows) ≡ 9
unfolding shared_rows
few_other_rows = refl

pub few_fields : (holds : ℕ → Bool) → field_count holds ≤ 34
unfolding voice_labels
few_fields holds =
    let most = stand_few holds voice_rows in
    let rows = few_voice_rows in
    omega (arith, most, rows)

pub few_others : (holds : ℕ → Bool) → other_count holds ≤ 9
unfolding other_labels
few_others holds =
    let most = stand_few holds (take 9 shared_rows) in
    let rows = few_other_rows in
    omega (arith, most, rows)

-- ---- what a label asks, and where it stands

pub own_asks : (label : ℕ) → is_shared label ≡ false → label < 113 → asks label ≡ asked_in voice_rows (base_of label)
unfolding asks
own_asks label own low = rw (own, lt-ltb label 113 low) refl

pub shared_asks : (label : ℕ) → is_shared label ≡ true → asks label ≡ asked_in shared_rows label
unfolding asks
shared_asks label shared = rw shared refl

pub own_stands : (holds : ℕ → Bool) (label : ℕ) → has_byte holds label ≡ true → is_shared label ≡ false →
    place_of holds label ≡ voice_place holds label
unfolding place_of
own_stands holds label there own = rw (there, own) refl

pub shared_stands : (holds : ℕ → Bool) (label : ℕ) → has_byte holds label ≡ true → is_shared label ≡ true →
    place_of holds label ≡ shared_place holds label
unfolding place_of
shared_stands holds label there shared = rw (there, shared) refl

pub none_stands : (holds : ℕ → Bool) (label : ℕ) → has_byte holds label ≡ false → place_of holds label ≡ 0
unfolding place_of
none_stands holds label none = rw none refl

-- ---- kinds

pub record IsOwn (holds : ℕ → Bool) (label : ℕ) : Type 0 where
  pub field : ℕ
  pub few : field < field_count holds
  pub base_is : get_or (voice_labels holds) field 0 ≡ base_of label
  pub place_is : place_of holds label ≡ own_place field (voice_of label)

pub record IsOther (holds : ℕ → Bool) (label : ℕ) : Type 0 where
  pub number : ℕ
  pub few : number < other_count holds
  pub label_is : get_or (other_labels holds) number 0 ≡ label
  pub place_is : place_of holds label ≡ free_place (field_count holds) number

pub record IsFunk (holds : ℕ → Bool) (label : ℕ) : Type 0 where
  pub behind : ℕ
  pub few : behind < 2
  pub label_is : label ≡ 111 + behind
  pub place_is : place_of holds label ≡ funk_place holds + behind
  pub both : has_byte holds 111 ≡ true

second_asks : asks 112 ≡ asks 111
unfolding asks shared_rows
second_asks = refl

pub second_too : (holds : ℕ → Bool) → has_byte holds 112 ≡ has_byte holds 111
unfolding has_byte
second_too holds = ap (stands_under holds) second_asks

is_own : (holds : ℕ → Bool) (label : ℕ) → label < 113 → has_byte holds label ≡ true → is_shared label ≡ false →
    IsOwn holds label
unfolding has_byte voice_labels
is_own holds label low there own =
    let listed : lists voice_rows (base_of label) ≡ true =
    (rw own at (agree_below_at (λ l. is_shared l || lists voice_rows (base_of l)) (λ _. true) 113 label lists_voices
    low)) in
    let asked : stands_under holds (asked_in voice_rows (base_of label)) ≡ true =
    ap (stands_under holds) (sym (own_asks label own low)) ∙ there in
    let at = stands_at (standing holds voice_rows) (base_of label)
    (stands_in holds voice_rows (base_of label) listed asked) in
    record {
      field = position_in (standing holds voice_rows) (base_of label);
      few = at.below;
      base_is = at.is;
      place_is = own_stands holds label there own;
    }

is_other : (holds : ℕ → Bool) (label : ℕ) → label < 113 → has_byte holds label ≡ true → is_shared label ≡ true →
    nat_eq label 111 ≡ false → nat_eq label 112 ≡ false → IsOther holds label
unfolding has_byte other_labels
is_other holds label low there shared one two =
    let listed : lists (take 9 shared_rows) label ≡ true =
    (rw (shared, one, two) at (agree_below_at
    (λ l. not (is_shared l) || (nat_eq l 111 || (nat_eq l 112 || lists (take 9 shared_rows) l))) (λ _. true) 113 label
    lists_others low)) in
    let asked : stands_under holds (asked_in (take 9 shared_rows) label) ≡ true =
    ap (stands_under holds) (sym (shared_asks label shared ∙ asks_first 9 shared_rows label listed)) ∙ there in
    let at = stands_at (standing holds (take 9 shared_rows)) label
    (stands_in holds (take 9 shared_rows) label listed asked) in
    record {
      number = position_in (standing holds (take 9 shared_rows)) label;
      few = at.below;
      label_is = at.is;
      place_is = shared_stands holds label there shared ∙ rw (one, two) refl;
    }

is_funk_one : (holds : ℕ → Bool) → has_byte holds 111 ≡ true → IsFunk holds 111
is_funk_one holds there = record {
  behind = 0;
  few = omega arith;
  label_is = refl;
  place_is = shared_stands holds 111 there refl ∙ omega arith;
  both = there;
}

is_funk_two : (holds : ℕ → Bool) → has_byte holds 112 ≡ true → IsFunk holds 112
is_funk_two holds there = record {
  behind = 1;
  few = omega arith;
  label_is = refl;
  place_is = shared_stands holds 112 there refl;
  both = sym (second_too holds) ∙ there;
}

pub kinds : (holds : ℕ → Bool) (label : ℕ) → label < 113 → has_byte holds label ≡ true →
    IsOwn holds label ⊎ (IsOther holds label ⊎ IsFunk holds label)
kinds holds label low there = by_owner (is_shared label) refl
  where
    by_two : (z : Bool) → nat_eq label 112 ≡ z → is_shared label ≡ true → nat_eq label 111 ≡ false →
        IsOwn holds label ⊎ (IsOther holds label ⊎ IsFunk holds label)
    by_two true e shared one =
        let is = eqb-true label 112 e in
        inr (inr (rw is (is_funk_two holds (rw is at there))))
    by_two false e shared one = inr (inl (is_other holds label low there shared one e))

    by_one : (z : Bool) → nat_eq label 111 ≡ z → is_shared label ≡ true →
        IsOwn holds label ⊎ (IsOther holds label ⊎ IsFunk holds label)
    by_one true e shared =
        let is = eqb-true label 111 e in
        inr (inr (rw is (is_funk_one holds (rw is at there))))
    by_one false e shared = by_two (nat_eq label 112) refl shared e

    by_owner : (z : Bool) → is_shared label ≡ z → IsOwn holds label ⊎ (IsOther holds label ⊎ IsFunk holds label)
    by_owner true e = by_one (nat_eq label 111) refl e
    by_owner false e = inl (is_own holds label low there e)
