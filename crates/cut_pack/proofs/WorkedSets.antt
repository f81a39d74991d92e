-- What a song uses whose voice 1 plays some patterns, while the others play pattern 0, if it has the instrument and the
-- tables of the song of one note and no command of its rows names a row of a table.
use Rattle.std.proofs.Common.{◌≡◌, ◌≢◌, ℕ, zero, suc, ◌<◌, ◌≤◌, Bool, true, false, ◌&&◌, ◌==◌, nat_lt, nat_le}
use Rattle.std.proofs.Common.{List, [], ◌∷◌, Option, Some, None, is_none, refl, sym, ap, ◌∙◌, subst, inl, inr}
use Rattle.std.proofs.Common.{Contains, get_or, arith, lit<, lit≤}
use Rattle.std.specs.List.{list_all}
use Rattle.std.proofs.lemmas.Bool.{and_parts, or_cases, eqb-true, eq-eqb, ltb-true, leb-true}
use Rattle.std.proofs.lemmas.List.Folds.{list_any_at}
use Rattle.std.proofs.lemmas.List.Sums.{AllPass-from_list_all}
use Rattle.std.proofs.lemmas.List.Elements.{All-nil, All-cons, All-contains}
use Rattle.song_model.specs.declared.rows.Row.{Row}
use Rattle.song_model.specs.declared.orders.Order.{Order}
use Rattle.song_model.specs.declared.orders.Subtune.{Subtune}
use Rattle.song_model.specs.declared.tables.TableName.{TableName}
use Rattle.song_model.specs.declared.tables.TableName.TheVariants.{Wave, Pulse, Filter, Speed}
use Rattle.song_model.specs.declared.songs.Song.{Song}
use Rattle.song_model.specs.LookUp.{table_of, table_row, instrument_at, pattern_at, order_of, playable_subtunes}
use Rattle.song_model.specs.Pointers.{instrument_pointer, command_table, wave_row_table}
use Rattle.play_model.specs.Used.{IsChannel, IsPlayedOrder, IsUsedPattern, IsUsedRow, IsUsedInstrument}
use Rattle.play_model.specs.Reached.{led_to, IsPlayedPointer, of_instrument, of_row, IsWaveRowPointer, IsReached}
use Rattle.play_model.specs.Reached.{played, pointed, led, IsPointer, of_played, of_wave_row}
use Rattle.play_model.specs.WorkedSongs.{order, subtune}
use Rattle.packing_rules.specs.UsedSets.{AreUsedSets}
use Rattle.packing_rules.specs.WorkedSizes.{among, note_rows, note_pointers}
use Rattle.pattern_cut.specs.WorkedChoice.{voiced}
use Rattle.cut_pack.specs.WorkedChosen.{sets_naming}

-- ---- lists that are written out

pub passes : {X : Type 0} (test : X → Bool) (xs : List X) (x : X) → list_all test xs ≡ true → Contains xs x →
    test x ≡ true
passes {X} test xs x e has =
    All-contains (λ (x : X). test x ≡ true) xs x (AllPass-from_list_all test xs e) has

pub one_of : (ns : List ℕ) (n : ℕ) → among ns n ≡ true → Contains ns n
one_of [] n e = absurd cc
one_of (m ∷ ms) n e = elim (or_cases (m == n) (among ms n) e) [
  | inl here ↦ (0, omega arith, eqb-true m n here)
  | inr later ↦
      let (k, inside, is) = one_of ms n later in
      (suc k, omega arith, is)
]

is_among : (ns : List ℕ) (n : ℕ) → Contains ns n → among ns n ≡ true
is_among ns n (k, inside, is) = list_any_at (λ m. m == n) ns k n inside (eq-eqb (get_or ns k n) n is)

-- ---- what is used

-- a row names instrument 1, if any, and no row of a table
unfoldable pub row_passes : Row → Bool
row_passes row = nat_le row.instrument 1 && is_none (command_table row.command)

unfoldable pub rows_pass : Song → ℕ → Bool
rows_pass song n = list_all row_passes (pattern_at song n)

-- the song can be played, its voice names patterns alone, and their rows are such
pub record IsPlain (song : Song) (entries : List ℕ) : Type 0 where
  pub plays : playable_subtunes song ≡ subtune entries (0 ∷ []) (0 ∷ []) ∷ []
  pub low : list_all (λ n. nat_lt n 0xD0) (0 ∷ entries) ≡ true
  pub rows : list_all (rows_pass song) (0 ∷ entries) ≡ true

module _ (entries : List ℕ) (patterns : List (List Row)) (plain : IsPlain (voiced entries patterns) entries) where
  abbrev song : Song
  song = voiced entries patterns

  abbrev its_subtune : Subtune
  its_subtune = subtune entries (0 ∷ []) (0 ∷ [])

  -- ---- patterns, rows and instruments

  later : (n : ℕ) → Contains entries n → Contains (0 ∷ entries) n
  later n (k, inside, is) = (suc k, omega arith, is)

  first : (n : ℕ) → Contains (0 ∷ []) n → Contains (0 ∷ entries) n
  first n (zero, inside, is) = (0, omega arith, is)
  first n (suc k, inside, is) = absurd (omega arith)

  -- an entry of a channel's orderlist is one of voice 1, or 0
  entry_is : (channel n : ℕ) (a b : Bool) → (channel == 1) ≡ a → (channel == 2) ≡ b →
      Contains (order_of channel its_subtune).entries n → Contains (0 ∷ entries) n
  entry_is channel n true b e f has = later n (rw e at has)
  entry_is channel n false true e f has = first n (rw (e, f) at has)
  entry_is channel n false false e f has = first n (rw (e, f) at has)

  only : (x y : Subtune) → Contains (x ∷ []) y → x ≡ y
  only x y (zero, inside, is) = is
  only x y (suc k, inside, is) = absurd (omega arith)

  pattern_there : (n : ℕ) → IsUsedPattern song n → Contains (0 ∷ entries) n
  pattern_there n is =
      let played = is.byte.played in
      let same =
      only its_subtune played.subtune
      (subst (λ (all : List Subtune). Contains all played.subtune) plain.plays played.playable) in
      let there =
      subst (λ (o : Order). Contains o.entries n)
      (played.order_is ∙ ap (order_of played.channel) (sym same)) is.byte.entry in
      entry_is played.channel n (played.channel == 1) (played.channel == 2) refl refl there

  pattern_is : (n : ℕ) → IsUsedPattern song n → among (0 ∷ entries) n ≡ true
  pattern_is n is = is_among (0 ∷ entries) n (pattern_there n is)

  low_entry : (n : ℕ) → among (0 ∷ entries) n ≡ true → n < 0xD0
  low_entry n e = ltb-true n 0xD0 (passes (λ n. nat_lt n 0xD0) (0 ∷ entries) n plain.low (one_of (0 ∷ entries) n e))

  -- the orderlist of each channel is played
  plays : (channel : ℕ) → IsChannel channel → IsPlayedOrder song (order_of channel its_subtune)
  plays channel is = record {
    subtune = its_subtune;
    playable = subst (λ (all : List Subtune). Contains all its_subtune) (sym plain.plays) (0, lit< tt, refl);
    channel = channel;
    is_channel = is;
    order_is = refl;
  }

  pattern_used : (n : ℕ) → among (0 ∷ entries) n ≡ true → IsUsedPattern song n
  pattern_used n e = elim (or_cases (0 == n) (among entries n) e) [
    | inl here ↦ record {
      byte = record {
        order = order (0 ∷ []);
        played = plays 2 (record { first = lit≤ tt; last = lit≤ tt });
        entry = (0, lit< tt, eqb-true 0 n here);
      };
      is_pattern = low_entry n e;
    }
    | inr there ↦ record {
      byte = record {
        order = order entries;
        played = plays 1 (record { first = lit≤ tt; last = lit≤ tt });
        entry = one_of entries n there;
      };
      is_pattern = low_entry n e;
    }
  ]

  row_is : (row : Row) → IsUsedRow song row → row_passes row ≡ true
  unfolding rows_pass
  row_is row is =
      passes row_passes (pattern_at song is.pattern) row
      (passes (rows_pass song) (0 ∷ entries) is.pattern plain.rows (pattern_there is.pattern is.used)) is.has

  instrument_one : (n : ℕ) → IsUsedInstrument song n → n ≡ 1
  unfolding row_passes
  instrument_one n (inl e) = e
  instrument_one n (inr named) =
      let both =
      and_parts (nat_le named.row.instrument 1) (is_none (command_table named.row.command))
      (row_is named.row named.used) in
      let most = leb-true named.row.instrument 1 both.0 in
      one n named.some (subst (λ k. k ≤ 1) named.names most)
    where
      one : (n : ℕ) → n ≢ 0 → n ≤ 1 → n ≡ 1
      one zero some most = absurd (some refl)
      one (suc zero) some most = refl
      one (suc (suc k)) some most = absurd (omega arith)

  instrument_is : (n : ℕ) → IsUsedInstrument song n → among (1 ∷ []) n ≡ true
  instrument_is n is = rw (instrument_one n is) refl

  instrument_used : (n : ℕ) → among (1 ∷ []) n ≡ true → IsUsedInstrument song n
  instrument_used n e = inl (one n (one_of (1 ∷ []) n e))
    where
      one : (n : ℕ) → Contains (1 ∷ []) n → n ≡ 1
      one n (zero, inside, is) = sym is
      one n (suc k, inside, is) = absurd (omega arith)

  -- ---- pointers

  its_pointer : (name : TableName) (p : ℕ) → instrument_pointer name (instrument_at song 1) ≡ p → p ≢ 0 →
      note_pointers name p ≡ true
  unfolding instrument_at
  its_pointer Wave p e some = rw (sym e) refl
  its_pointer Pulse p e some = rw (sym e) refl
  its_pointer Filter p e some = absurd (some (sym e))
  its_pointer Speed p e some = absurd (some (sym e))

  no_table : (o : Option TableName) (name : TableName) → o ≡ Some name → is_none o ≡ true → ⊥
  no_table None name e none = cc
  no_table (Some other) name e none = cc

  played_is : (name : TableName) (p : ℕ) → IsPlayedPointer song name p → note_pointers name p ≡ true
  unfolding row_passes
  played_is name p (of_instrument i used e some) =
      its_pointer name p
      (subst (λ k. instrument_pointer name (instrument_at song k) ≡ p) (instrument_one i used) e) some
  played_is name p (of_row row used table e some) =
      let both = and_parts (nat_le row.instrument 1) (is_none (command_table row.command)) (row_is row used) in
      absurd (no_table (command_table row.command) name table both.1)

  no_wave_pointer : (r : ℕ) (name : TableName) (p : ℕ) → note_rows Wave r ≡ true → IsWaveRowPointer song r name p → ⊥
  unfolding table_row
  no_wave_pointer r name p reached is =
      no_table (wave_row_table (table_row song Wave r).left) name is.table
      (passes (λ k. is_none (wave_row_table (table_row song Wave k).left)) (1 ∷ 2 ∷ []) r refl
      (one_of (1 ∷ 2 ∷ []) r reached))

  -- ---- rows

  pointer_rows : (name : TableName) (p : ℕ) → note_pointers name p ≡ true → note_rows name p ≡ true
  pointer_rows Wave p e = passes (note_rows Wave) (1 ∷ []) p refl (one_of (1 ∷ []) p e)
  pointer_rows Pulse p e = passes (note_rows Pulse) (1 ∷ []) p refl (one_of (1 ∷ []) p e)
  pointer_rows Filter p e = e
  pointer_rows Speed p e = e

  abbrev leads : TableName → Option ℕ → Bool
  leads name None = true
  leads name (Some q) = note_rows name q

  abbrev leads_on : TableName → ℕ → Bool
  leads_on name p = leads name (led_to name (table_of song name) p)

  rows_lead : (name : TableName) (p : ℕ) → note_rows name p ≡ true → leads_on name p ≡ true
  rows_lead Wave p e = passes (leads_on Wave) (1 ∷ 2 ∷ []) p refl (one_of (1 ∷ 2 ∷ []) p e)
  rows_lead Pulse p e = passes (leads_on Pulse) (1 ∷ 2 ∷ []) p refl (one_of (1 ∷ 2 ∷ []) p e)
  rows_lead Filter p e = absurd cc
  rows_lead Speed p e = absurd cc

  reached_is : (name : TableName) (p : ℕ) → IsReached song name p → note_rows name p ≡ true
  reached_is name p (played is) = pointer_rows name p (played_is name p is)
  reached_is name p (pointed r before is) = absurd (no_wave_pointer r name p (reached_is Wave r before) is)
  reached_is name q (led p before e) =
      subst (λ (o : Option ℕ). leads name o ≡ true) e (rows_lead name p (reached_is name p before))

  pointer_is : (name : TableName) (p : ℕ) → IsPointer song name p → note_pointers name p ≡ true
  pointer_is name p (of_played is) = played_is name p is
  pointer_is name p (of_wave_row r before is) = absurd (no_wave_pointer r name p (reached_is Wave r before) is)

  -- ---- all of it is used

  wave_1 : IsPlayedPointer song Wave 1
  unfolding instrument_at
  wave_1 = of_instrument 1 (inl refl) refl (λ e. omega (arith, e))

  pulse_1 : IsPlayedPointer song Pulse 1
  unfolding instrument_at
  pulse_1 = of_instrument 1 (inl refl) refl (λ e. omega (arith, e))

  pointers_from : (name : TableName) (p : ℕ) → note_pointers name p ≡ true → IsPointer song name p
  pointers_from Wave p e =
      All-contains (IsPointer song Wave) (1 ∷ []) p
      (All-cons (IsPointer song Wave) 1 [] (of_played wave_1) (All-nil (IsPointer song Wave))) (one_of (1 ∷ []) p e)
  pointers_from Pulse p e =
      All-contains (IsPointer song Pulse) (1 ∷ []) p
      (All-cons (IsPointer song Pulse) 1 [] (of_played pulse_1) (All-nil (IsPointer song Pulse))) (one_of (1 ∷ []) p e)
  pointers_from Filter p e = absurd cc
  pointers_from Speed p e = absurd cc

  both_reached : (name : TableName) → IsReached song name 1 → IsReached song name 2 → (p : ℕ) →
      among (1 ∷ 2 ∷ []) p ≡ true → IsReached song name p
  both_reached name first second p e =
      All-contains (IsReached song name) (1 ∷ 2 ∷ []) p
      (All-cons (IsReached song name) 1 (2 ∷ []) first
      (All-cons (IsReached song name) 2 [] second (All-nil (IsReached song name)))) (one_of (1 ∷ 2 ∷ []) p e)

  rows_from : (name : TableName) (p : ℕ) → note_rows name p ≡ true → IsReached song name p
  rows_from Wave p e = both_reached Wave (played wave_1) (led 1 (played wave_1) refl) p e
  rows_from Pulse p e = both_reached Pulse (played pulse_1) (led 1 (played pulse_1) refl) p e
  rows_from Filter p e = absurd cc
  rows_from Speed p e = absurd cc

  pub plain_sets : AreUsedSets song (sets_naming entries)
  plain_sets = record {
    patterns = λ n. (pattern_used n, pattern_is n);
    instruments = λ n. (instrument_used n, instrument_is n);
    reached = λ name n. (rows_from name n, reached_is name n);
    pointers = λ name n. (pointers_from name n, pointer_is name n);
  }
