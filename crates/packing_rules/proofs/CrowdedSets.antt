-- The sets of the song whose new numbers were worked out by hand are what it uses.
use Rattle.std.proofs.Common.{◌≡◌, ◌≢◌, ℕ, ◌<◌, length, slice_index_or, Bool, true, false, ◌&&◌}
use Rattle.std.proofs.Common.{◌||◌, ◌==◌, List, [], ◌∷◌, Option, Some, None, refl, sym, subst, inl, inr}
use Rattle.std.proofs.Common.{arith}
use Rattle.std.specs.List.{All, Contains, list_all}
use Rattle.std.proofs.lemmas.Bool.{and_parts, or_cases, eqb-true}
use Rattle.std.proofs.lemmas.List.Elements.{All-nil, All-cons, All-contains}
use Rattle.song_model.specs.declared.rows.Row.{Row}
use Rattle.song_model.specs.declared.orders.Order.{Order}
use Rattle.song_model.specs.declared.orders.Subtune.{Subtune}
use Rattle.song_model.specs.declared.tables.TableName.{TableName}
use Rattle.song_model.specs.declared.tables.TableName.TheVariants.{Wave, Pulse, Filter, Speed}
use Rattle.song_model.specs.LookUp.{table_of, table_row, instrument_at, pattern_at, order_of, playable_subtunes}
use Rattle.song_model.specs.Pointers.{instrument_pointer, command_table, wave_row_table}
use Rattle.play_model.specs.Used.{IsChannel, IsPlayedOrder, IsUsedPattern, IsUsedRow, IsUsedInstrument}
use Rattle.play_model.specs.Reached.{led_to, IsPlayedPointer, of_instrument, of_row, IsWaveRowPointer, IsReached}
use Rattle.play_model.specs.Reached.{played, pointed, led, IsPointer, of_played, of_wave_row}
use Rattle.play_model.specs.WorkedSongs.{row, order, subtune}
use Rattle.packing_rules.specs.Segments.{numbers}
use Rattle.packing_rules.specs.WorkedSizes.{among}
use Rattle.packing_rules.specs.WorkedNumbers.{crowded_song, crowded_rows, crowded_pointers, CrowdedSetsAreUsed}

-- ---- lists that are written out

all_pass : {X : Type 0} (test : X → Bool) (xs : List X) → list_all test xs ≡ true → All (λ x. test x ≡ true) xs
all_pass {X} test [] e = All-nil (λ (x : X). test x ≡ true)
all_pass {X} test (x ∷ xs) e =
    let parts = and_parts (test x) (list_all test xs) e in
    All-cons (λ (x : X). test x ≡ true) x xs parts.0 (all_pass test xs parts.1)

passes : {X : Type 0} (test : X → Bool) (xs : List X) (x : X) → list_all test xs ≡ true → Contains xs x → test x ≡ true
passes {X} test xs x e has = All-contains (λ (x : X). test x ≡ true) xs x (all_pass test xs e) has

-- a property of each number of a list
abbrev pub Each : (ℕ → Type 0) → List ℕ → Type 0
Each P [] = Unit {0}
Each P (n ∷ ns) = P n × Each P ns

pub each_of : (P : ℕ → Type 0) (ns : List ℕ) → Each P ns → (n : ℕ) → among ns n ≡ true → P n
each_of P [] are n e = absurd cc
each_of P (m ∷ ms) are n e = elim (or_cases (m == n) (among ms n) e) [
  | inl here ↦ subst P (eqb-true m n here) are.0
  | inr later ↦ each_of P ms are.1 n later
]

each_passes : (test : ℕ → Bool) (ns : List ℕ) → list_all test ns ≡ true → Each (λ (n : ℕ). test n ≡ true) ns
each_passes test [] e = tt
each_passes test (n ∷ ns) e =
    let parts = and_parts (test n) (list_all test ns) e in
    (parts.0, each_passes test ns parts.1)

pub in_list : (test : ℕ → Bool) (ns : List ℕ) (n : ℕ) → list_all test ns ≡ true → among ns n ≡ true → test n ≡ true
in_list test ns n e has = each_of (λ (k : ℕ). test k ≡ true) ns (each_passes test ns e) n has

-- ---- nothing else is used

order_passes : Order → Bool
order_passes order = list_all (among (0 ∷ 2 ∷ 3 ∷ 4 ∷ [])) order.entries

subtune_passes : Subtune → Bool
subtune_passes subtune = order_passes subtune.one && (order_passes subtune.two && order_passes subtune.three)

channel_passes : (subtune : Subtune) (channel : ℕ) → order_passes subtune.one ≡ true → order_passes subtune.two ≡ true →
    order_passes subtune.three ≡ true → (a b : Bool) → (channel == 1) ≡ a → (channel == 2) ≡ b →
    order_passes (order_of channel subtune) ≡ true
channel_passes subtune channel one two three true b e f = rw e one
channel_passes subtune channel one two three false true e f = rw (e, f) two
channel_passes subtune channel one two three false false e f = rw (e, f) three

order_is : (order : Order) → IsPlayedOrder crowded_song order → order_passes order ≡ true
unfolding order_passes subtune_passes
order_is order is =
    let s = passes subtune_passes (playable_subtunes crowded_song) is.subtune refl is.playable in
    let first = and_parts (order_passes is.subtune.one) (order_passes is.subtune.two && order_passes is.subtune.three) s in
    let others = and_parts (order_passes is.subtune.two) (order_passes is.subtune.three) first.1 in
    subst (λ (o : Order). order_passes o ≡ true) (sym is.order_is)
    (channel_passes is.subtune is.channel first.0 others.0 others.1 (is.channel == 1) (is.channel == 2) refl refl)

pattern_is : (n : ℕ) → IsUsedPattern crowded_song n → among (0 ∷ 2 ∷ 3 ∷ 4 ∷ []) n ≡ true
unfolding order_passes
pattern_is n is =
    passes (among (0 ∷ 2 ∷ 3 ∷ 4 ∷ [])) is.byte.order.entries n (order_is is.byte.order is.byte.played) is.byte.entry

-- 0, or one of the pointers into this table
abbrev points : Option TableName → ℕ → Bool
points None p = true
points (Some name) p = (p == 0) || crowded_pointers name p

row_passes : Row → Bool
row_passes row = among (0 ∷ 1 ∷ 3 ∷ []) row.instrument && points (command_table row.command) row.param

rows_pass : ℕ → Bool
rows_pass n = list_all row_passes (pattern_at crowded_song n)

row_is : (row : Row) → IsUsedRow crowded_song row → row_passes row ≡ true
unfolding rows_pass row_passes pattern_at
row_is row is =
    passes row_passes (pattern_at crowded_song is.pattern) row
    (in_list rows_pass (0 ∷ 2 ∷ 3 ∷ 4 ∷ []) is.pattern refl (pattern_is is.pattern is.used)) is.has

-- of numbers other than 0
some_instrument : (n : ℕ) → among (0 ∷ 1 ∷ 3 ∷ []) n ≡ true → n ≢ 0 → among (1 ∷ 3 ∷ []) n ≡ true
some_instrument n e =
    each_of (λ (k : ℕ). k ≢ 0 → among (1 ∷ 3 ∷ []) k ≡ true) (0 ∷ 1 ∷ 3 ∷ [])
    ((λ some. absurd (some refl)), ((λ some. refl), ((λ some. refl), tt))) n e

row_instrument : (row : Row) (n : ℕ) → row_passes row ≡ true → row.instrument ≡ n → among (0 ∷ 1 ∷ 3 ∷ []) n ≡ true
unfolding row_passes
row_instrument row n e names =
    subst (λ (k : ℕ). among (0 ∷ 1 ∷ 3 ∷ []) k ≡ true) names
    (and_parts (among (0 ∷ 1 ∷ 3 ∷ []) row.instrument) (points (command_table row.command) row.param) e).0

instrument_is : (n : ℕ) → IsUsedInstrument crowded_song n → among (1 ∷ 3 ∷ []) n ≡ true
instrument_is n (inl e) = rw e refl
instrument_is n (inr named) =
    some_instrument n (row_instrument named.row n (row_is named.row named.used) named.names) named.some

points_is : (o : Option TableName) (name : TableName) (p : ℕ) → o ≡ Some name → points o p ≡ true → p ≢ 0 →
    crowded_pointers name p ≡ true
points_is o name p e is some = elim (or_cases (p == 0) (crowded_pointers name p) (named e is)) [
  | inl zero ↦ absurd (some (eqb-true p 0 zero))
  | inr there ↦ there
]
  where
    named : o ≡ Some name → points o p ≡ true → points (Some name) p ≡ true
    named e is = subst (λ (x : Option TableName). points x p ≡ true) e is

instrument_points : (name : TableName) (i : ℕ) → among (1 ∷ 3 ∷ []) i ≡ true →
    points (Some name) (instrument_pointer name (instrument_at crowded_song i)) ≡ true
unfolding instrument_at
instrument_points Wave i e =
    in_list (λ (k : ℕ). points (Some Wave) (instrument_pointer Wave (instrument_at crowded_song k))) (1 ∷ 3 ∷ []) i refl e
instrument_points Pulse i e =
    in_list (λ (k : ℕ). points (Some Pulse) (instrument_pointer Pulse (instrument_at crowded_song k))) (1 ∷ 3 ∷ []) i refl e
instrument_points Filter i e =
    in_list (λ (k : ℕ). points (Some Filter) (instrument_pointer Filter (instrument_at crowded_song k))) (1 ∷ 3 ∷ []) i refl e
instrument_points Speed i e =
    in_list (λ (k : ℕ). points (Some Speed) (instrument_pointer Speed (instrument_at crowded_song k))) (1 ∷ 3 ∷ []) i refl e

row_points : (row : Row) (p : ℕ) → row_passes row ≡ true → row.param ≡ p → points (command_table row.command) p ≡ true
unfolding row_passes
row_points row p e param =
    subst (λ (k : ℕ). points (command_table row.command) k ≡ true) param
    (and_parts (among (0 ∷ 1 ∷ 3 ∷ []) row.instrument) (points (command_table row.command) row.param) e).1

played_is : (name : TableName) (p : ℕ) → IsPlayedPointer crowded_song name p → crowded_pointers name p ≡ true
played_is name p (of_instrument i used e some) =
    points_is (Some name) name p refl
    (subst (λ (k : ℕ). points (Some name) k ≡ true) e (instrument_points name i (instrument_is i used))) some
played_is name p (of_row row used table e some) =
    points_is (command_table row.command) name p table (row_points row p (row_is row used) e) some

wave_points : (r : ℕ) → crowded_rows Wave r ≡ true →
    points (wave_row_table (table_row crowded_song Wave r).left) (table_row crowded_song Wave r).right ≡ true
unfolding table_row
wave_points r e =
    in_list (λ (k : ℕ). points (wave_row_table (table_row crowded_song Wave k).left) (table_row crowded_song Wave k).right)
    (numbers 8) r refl e

wave_pointer_is : (r : ℕ) (name : TableName) (p : ℕ) → crowded_rows Wave r ≡ true →
    IsWaveRowPointer crowded_song r name p → crowded_pointers name p ≡ true
wave_pointer_is r name p reached is =
    points_is (wave_row_table (table_row crowded_song Wave r).left) name p is.table
    (subst (λ (k : ℕ). points (wave_row_table (table_row crowded_song Wave r).left) k ≡ true) is.right
    (wave_points r reached)) is.some

pointer_rows : (name : TableName) (p : ℕ) → crowded_pointers name p ≡ true → crowded_rows name p ≡ true
pointer_rows Wave p e = in_list (crowded_rows Wave) (1 ∷ 4 ∷ 7 ∷ []) p refl e
pointer_rows Pulse p e = in_list (crowded_rows Pulse) (1 ∷ 4 ∷ 6 ∷ []) p refl e
pointer_rows Filter p e = in_list (crowded_rows Filter) (2 ∷ []) p refl e
pointer_rows Speed p e = e

abbrev leads : TableName → Option ℕ → Bool
leads name None = true
leads name (Some q) = crowded_rows name q

abbrev leads_on : TableName → ℕ → Bool
leads_on name p = leads name (led_to name (table_of crowded_song name) p)

rows_lead : (name : TableName) (p : ℕ) → crowded_rows name p ≡ true → leads_on name p ≡ true
rows_lead Wave p e = in_list (leads_on Wave) (numbers 8) p refl e
rows_lead Pulse p e = in_list (leads_on Pulse) (1 ∷ 2 ∷ 4 ∷ 5 ∷ 6 ∷ 7 ∷ []) p refl e
rows_lead Filter p e = in_list (leads_on Filter) (2 ∷ 3 ∷ 4 ∷ []) p refl e
rows_lead Speed p e = in_list (leads_on Speed) (2 ∷ 3 ∷ 9 ∷ []) p refl e

led_is : (name : TableName) (o : Option ℕ) (q : ℕ) → o ≡ Some q → leads name o ≡ true → crowded_rows name q ≡ true
led_is name o q e is = subst (λ (x : Option ℕ). leads name x ≡ true) e is

pub reached_is : (name : TableName) (p : ℕ) → IsReached crowded_song name p → crowded_rows name p ≡ true
reached_is name p (played is) = pointer_rows name p (played_is name p is)
reached_is name p (pointed r before is) =
    pointer_rows name p (wave_pointer_is r name p (reached_is Wave r before) is)
reached_is name q (led p before e) =
    led_is name (led_to name (table_of crowded_song name) p) q e (rows_lead name p (reached_is name p before))

pub pointer_is : (name : TableName) (p : ℕ) → IsPointer crowded_song name p → crowded_pointers name p ≡ true
pointer_is name p (of_played is) = played_is name p is
pointer_is name p (of_wave_row r before is) = wave_pointer_is r name p (reached_is Wave r before) is

-- ---- all of it is used

abbrev pub crowded_subtune : Subtune
crowded_subtune = subtune (0 ∷ 4 ∷ []) (2 ∷ []) (3 ∷ [])

used_pattern : (n channel k : ℕ) (one : Order) → IsChannel channel → one ≡ order_of channel crowded_subtune →
    k < length one.entries → slice_index_or one.entries k n ≡ n → n < 0xD0 → IsUsedPattern crowded_song n
used_pattern n channel k one is order_is inside there small = record {
  byte = record {
    order = one;
    played = record {
      subtune = crowded_subtune;
      playable = (0, omega arith, refl);
      channel = channel;
      is_channel = is;
      order_is = order_is;
    };
    entry = (k, inside, there);
  };
  is_pattern = small;
}

used_0 : IsUsedPattern crowded_song 0
used_0 =
    used_pattern 0 1 0 (order (0 ∷ 4 ∷ [])) (record { first = omega arith; last = omega arith }) refl (omega arith) refl
    (omega arith)

used_4 : IsUsedPattern crowded_song 4
used_4 =
    used_pattern 4 1 1 (order (0 ∷ 4 ∷ [])) (record { first = omega arith; last = omega arith }) refl (omega arith) refl
    (omega arith)

used_2 : IsUsedPattern crowded_song 2
used_2 =
    used_pattern 2 2 0 (order (2 ∷ [])) (record { first = omega arith; last = omega arith }) refl (omega arith) refl
    (omega arith)

used_3 : IsUsedPattern crowded_song 3
used_3 =
    used_pattern 3 3 0 (order (3 ∷ [])) (record { first = omega arith; last = omega arith }) refl (omega arith) refl
    (omega arith)

-- row k of pattern 4
used_row : (row : Row) (k : ℕ) → k < 6 → slice_index_or (pattern_at crowded_song 4) k row ≡ row → IsUsedRow crowded_song row
unfolding pattern_at
used_row row k inside there = record { pattern = 4; used = used_4; has = (k, inside, there) }

row_0 : IsUsedRow crowded_song (row 0xBD 0 8 7)
unfolding pattern_at
row_0 = used_row (row 0xBD 0 8 7) 0 (omega arith) refl

row_2 : IsUsedRow crowded_song (row 0x91 0 1 2)
unfolding pattern_at
row_2 = used_row (row 0x91 0 1 2) 2 (omega arith) refl

row_5 : IsUsedRow crowded_song (row 0x93 3 9 6)
unfolding pattern_at
row_5 = used_row (row 0x93 3 9 6) 5 (omega arith) refl

instrument_3 : IsUsedInstrument crowded_song 3
instrument_3 = inr (record { row = row 0x93 3 9 6; used = row_5; names = refl; some = λ e. cc })

-- pointers of instruments 1 and 3, and of rows
wave_1 : IsPlayedPointer crowded_song Wave 1
unfolding instrument_at
wave_1 = of_instrument 1 (inl refl) refl (λ e. cc)

wave_4 : IsPlayedPointer crowded_song Wave 4
unfolding instrument_at
wave_4 = of_instrument 3 instrument_3 refl (λ e. cc)

wave_7 : IsPlayedPointer crowded_song Wave 7
wave_7 = of_row (row 0xBD 0 8 7) row_0 refl refl (λ e. cc)

pulse_1 : IsPlayedPointer crowded_song Pulse 1
unfolding instrument_at
pulse_1 = of_instrument 1 (inl refl) refl (λ e. cc)

pulse_4 : IsPlayedPointer crowded_song Pulse 4
unfolding instrument_at
pulse_4 = of_instrument 3 instrument_3 refl (λ e. cc)

pulse_6 : IsPlayedPointer crowded_song Pulse 6
pulse_6 = of_row (row 0x93 3 9 6) row_5 refl refl (λ e. cc)

filter_2 : IsPlayedPointer crowded_song Filter 2
unfolding instrument_at
filter_2 = of_instrument 3 instrument_3 refl (λ e. cc)

speed_2 : IsPlayedPointer crowded_song Speed 2
speed_2 = of_row (row 0x91 0 1 2) row_2 refl refl (λ e. cc)

speed_3 : IsPlayedPointer crowded_song Speed 3
unfolding instrument_at
speed_3 = of_instrument 3 instrument_3 refl (λ e. cc)

speed_9 : IsWaveRowPointer crowded_song 7 Speed 9
unfolding table_row
speed_9 = record { table = refl; right = refl; some = λ e. cc }

pointers_from : (name : TableName) (p : ℕ) → crowded_pointers name p ≡ true → IsPointer crowded_song name p
pointers_from Wave p e =
    each_of (IsPointer crowded_song Wave) (1 ∷ 4 ∷ 7 ∷ [])
    (of_played wave_1, (of_played wave_4, (of_played wave_7, tt))) p e
pointers_from Pulse p e =
    each_of (IsPointer crowded_song Pulse) (1 ∷ 4 ∷ 6 ∷ [])
    (of_played pulse_1, (of_played pulse_4, (of_played pulse_6, tt))) p e
pointers_from Filter p e = each_of (IsPointer crowded_song Filter) (2 ∷ []) (of_played filter_2, tt) p e
pointers_from Speed p e =
    each_of (IsPointer crowded_song Speed) (2 ∷ 3 ∷ 9 ∷ [])
    (of_played speed_2, (of_played speed_3, (of_wave_row 7 (played wave_7) speed_9, tt))) p e

rows_from : (name : TableName) (p : ℕ) → crowded_rows name p ≡ true → IsReached crowded_song name p
rows_from Wave p e =
    let second : IsReached crowded_song Wave 2 = led 1 (played wave_1) refl in
    let fifth : IsReached crowded_song Wave 5 = led 4 (played wave_4) refl in
    each_of (IsReached crowded_song Wave) (numbers 8) (
      played wave_1,
      (
        second,
        (
          led 2 second refl,
          (
            played wave_4,
            (
              fifth,
              (
                led 5 fifth refl,
                (played wave_7, (led 7 (played wave_7) refl, tt)),
              ),
            ),
          ),
        ),
      ),
    ) p e
rows_from Pulse p e =
    each_of (IsReached crowded_song Pulse) (1 ∷ 2 ∷ 4 ∷ 5 ∷ 6 ∷ 7 ∷ []) (
      played pulse_1,
      (
        led 1 (played pulse_1) refl,
        (
          played pulse_4,
          (
            led 4 (played pulse_4) refl,
            (played pulse_6, (led 6 (played pulse_6) refl, tt)),
          ),
        ),
      ),
    ) p e
rows_from Filter p e =
    let third : IsReached crowded_song Filter 3 = led 2 (played filter_2) refl in
    each_of (IsReached crowded_song Filter) (2 ∷ 3 ∷ 4 ∷ []) (played filter_2, (third, (led 3 third refl, tt))) p e
rows_from Speed p e =
    each_of (IsReached crowded_song Speed) (2 ∷ 3 ∷ 9 ∷ [])
    (played speed_2, (played speed_3, (pointed 7 (played wave_7) speed_9, tt))) p e

pub crowded_sets_are_used : CrowdedSetsAreUsed
crowded_sets_are_used = record {
  patterns = λ n. (
    each_of (IsUsedPattern crowded_song) (0 ∷ 2 ∷ 3 ∷ 4 ∷ []) (used_0, (used_2, (used_3, (used_4, tt)))) n,
    pattern_is n,
  );
  instruments = λ n.
      (each_of (IsUsedInstrument crowded_song) (1 ∷ 3 ∷ []) (inl refl, (instrument_3, tt)) n, instrument_is n);
  reached = λ name n. (rows_from name n, reached_is name n);
  pointers = λ name n. (pointers_from name n, pointer_is name n);
}
