-- What the joined song has under a number: what the first song has, or what the second one has under its old number.
use Rattle.std.specs.Prelude.{◌&&◌}
use Rattle.std.proofs.Common.{◌≡◌, ◌≢◌, ℕ, ◌+◌, ◌-◌, ◌<◌, ◌≤◌, true, List, [], ◌++◌}
use Rattle.std.proofs.Common.{map, length, get_or, nat_le, refl, sym, ap, ◌∙◌, arith}
use Rattle.std.proofs.lemmas.Bool.{ne_eqb}
use Rattle.std.proofs.lemmas.Bool.Decides.{nat_tests}
use Rattle.std.proofs.lemmas.List.{get_or_append_left, get_or-append-add, get_or-map}
use Rattle.song_model.specs.declared.tables.TableRow.{TableRow}
use Rattle.song_model.specs.declared.tables.TableName.{TableName}
use Rattle.song_model.specs.declared.tables.TableName.TheVariants.{Wave, Pulse, Filter, Speed}
use Rattle.song_model.specs.declared.songs.Song.{Song}
use Rattle.song_model.specs.LookUp.{numbered, IsNumbered, zero_instrument, zero_table_row, table_of, table_row}
use Rattle.song_model.specs.LookUp.{instrument_at, pattern_at}
use Rattle.same_frames.specs.Maps.{moved_row, moved_instrument}
use Rattle.song_join.specs.Numbers.{raised, new_numbers}
use Rattle.song_join.specs.Joined.{moved_pattern_row, joined_rows, joined}

-- ---- two lists in one

pub some_number : {X : Type 0} (items : List X) (n : ℕ) (z : X) → n ≢ 0 → numbered items n z ≡ get_or items (n - 1) z
some_number items n z some = let test = ne_eqb n 0 some in rw test refl

number_first : {X : Type 0} (xs ys : List X) (n : ℕ) (z : X) → IsNumbered xs n → numbered (xs ++ ys) n z ≡ numbered xs n z
number_first xs ys n z is =
    let least = is.first in
    let most = is.last in
    let some : n ≢ 0 = omega arith in
    some_number (xs ++ ys) n z some
    ∙ get_or_append_left xs ys z (n - 1) (omega arith)
    ∙ sym (some_number xs n z some)

number_second : {X : Type 0} (f : X → X) (xs ys : List X) (n : ℕ) (z : X) → IsNumbered ys n →
    numbered (xs ++ map f ys) (n + length xs) z ≡ f (numbered ys n z)
number_second {X} f xs ys n z is =
    let least = is.first in
    let most = is.last in
    let some : n ≢ 0 = omega arith in
    let some_too : n + length xs ≢ 0 = omega arith in
    let place : n + length xs - 1 ≡ length xs + (n - 1) = omega arith in
    some_number (xs ++ map f ys) (n + length xs) z some_too
    ∙ ap (λ (k : ℕ). get_or (xs ++ map f ys) k z) place
    ∙ get_or-append-add xs (map f ys) (n - 1) z
    ∙ get_or-map f ys (n - 1) z z (omega arith)
    ∙ ap f (sym (some_number ys n z some))

stored_test : (stored n : ℕ) → 1 ≤ n → n ≤ stored → (nat_le 1 n && nat_le n stored) ≡ true
stored_test stored n least most = grind (arith, nat_tests)

raised_stored : (stored by n : ℕ) → 1 ≤ n → n ≤ stored → raised stored by n ≡ n + by
raised_stored stored by n least most = let test = stored_test stored n least most in rw test refl

module _ (first second : Song) where
  -- ---- tables

  pub table_is : (name : TableName) → table_of (joined first second) name ≡ joined_rows first second name
  unfolding joined
  table_is Wave = refl
  table_is Pulse = refl
  table_is Filter = refl
  table_is Speed = refl

  pub row_number : (name : TableName) (p : ℕ) → IsNumbered (table_of second name) p →
      (new_numbers first second).row name p ≡ p + length (table_of first name)
  unfolding new_numbers
  row_number name p is = raised_stored (length (table_of second name)) (length (table_of first name)) p is.first is.last

  pub first_row : (name : TableName) (p : ℕ) → IsNumbered (table_of first name) p →
      table_row (joined first second) name p ≡ table_row first name p
  unfolding table_row
  first_row name p is =
      ap (λ (rows : List TableRow). numbered rows p zero_table_row) (table_is name)
      ∙ number_first (table_of first name) _ p zero_table_row is

  pub second_row : (name : TableName) (p : ℕ) → IsNumbered (table_of second name) p →
      table_row (joined first second) name (p + length (table_of first name))
      ≡ moved_row (new_numbers first second) name (table_row second name p)
  unfolding table_row
  second_row name p is =
      ap (λ (rows : List TableRow). numbered rows (p + length (table_of first name)) zero_table_row) (table_is name)
      ∙ number_second (moved_row (new_numbers first second) name) (table_of first name) (table_of second name) p
      zero_table_row is

  -- ---- instruments

  pub instrument_number : (i : ℕ) → IsNumbered second.instruments i →
      (new_numbers first second).instrument i ≡ i + length first.instruments
  unfolding new_numbers
  instrument_number i is = raised_stored (length second.instruments) (length first.instruments) i is.first is.last

  pub first_instrument : (i : ℕ) → IsNumbered first.instruments i →
      instrument_at (joined first second) i ≡ instrument_at first i
  unfolding instrument_at joined
  first_instrument i is = number_first first.instruments _ i zero_instrument is

  pub second_instrument : (i : ℕ) → IsNumbered second.instruments i →
      instrument_at (joined first second) (i + length first.instruments)
      ≡ moved_instrument (new_numbers first second) (instrument_at second i)
  unfolding instrument_at joined
  second_instrument i is =
      number_second (moved_instrument (new_numbers first second)) first.instruments second.instruments i
      zero_instrument is

  -- ---- patterns

  pub first_pattern : (n : ℕ) → n < length first.patterns → pattern_at (joined first second) n ≡ pattern_at first n
  unfolding pattern_at joined
  first_pattern n inside = get_or_append_left first.patterns _ [] n inside

  pub second_pattern : (n : ℕ) → n < length second.patterns →
      pattern_at (joined first second) (n + length first.patterns)
      ≡ map (moved_pattern_row (new_numbers first second)) (pattern_at second n)
  unfolding pattern_at joined
  second_pattern n inside =
      let move = map (moved_pattern_row (new_numbers first second)) in
      let place : n + length first.patterns ≡ length first.patterns + n = omega arith in
      ap (λ (k : ℕ). get_or (first.patterns ++ map move second.patterns) k []) place
      ∙ get_or-append-add first.patterns (map move second.patterns) n []
      ∙ get_or-map move second.patterns n [] [] inside
