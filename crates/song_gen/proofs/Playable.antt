-- Generated songs can be played: their orderlists name stored patterns and go on for ever, and their programs stay in the
-- tables.
use Rattle.std.proofs.Common.{◌≡◌, ◌≢◌, ℕ, zero, suc, ◌+◌, ◌-◌, ◌==◌, ◌*◌, ◌<◌}
use Rattle.std.proofs.Common.{◌≤◌, ◌⊎◌, Bool, true, false, not, nat_le, ◌&&◌, if◌then◌else◌, List}
use Rattle.std.proofs.Common.{[], length, drop, get_or, All, Option, Some, None, slice_get, inl, inr, refl, sym, ap}
use Rattle.std.proofs.Common.{◌∙◌, subst, arith}
use Rattle.std.specs.List.{range_with_len, list_all}
use Rattle.std.proofs.lemmas.Bool.{and_parts, leb-true}
use Rattle.std.proofs.lemmas.List.{length-drop, get_or-drop, length-map}
use Rattle.std.proofs.lemmas.List.FromFn.{length-range_with_len, get_or-map-range_with_len}
use Rattle.std.proofs.lemmas.List.Elements.{All-contains, All-map, All-filter}
use Rattle.std.proofs.lemmas.Option.{get_or_from_slice_get, slice_get_within}
use Rattle.base.proofs.Laws.{All-get_or_any}
use Rattle.song_model.specs.declared.rows.Row.{Row}
use Rattle.song_model.specs.declared.orders.Order.{Order}
use Rattle.song_model.specs.declared.orders.Subtune.{Subtune}
use Rattle.song_model.specs.declared.tables.TableRow.{TableRow}
use Rattle.song_model.specs.declared.tables.TableName.{TableName}
use Rattle.song_model.specs.declared.tables.TableName.TheVariants.{Wave, Pulse, Filter, Speed}
use Rattle.song_model.specs.declared.songs.Song.{Song}
use Rattle.song_model.specs.Endless.{IsEndless}
use Rattle.song_model.specs.LookUp.{numbered, zero_table_row, instrument_at, table_of, table_row, pattern_at, order_of}
use Rattle.song_model.specs.LookUp.{is_playable_subtune, playable_subtunes}
use Rattle.song_model.specs.Pointers.{instrument_pointer, command_table, wave_row_table}
use Rattle.play_model.specs.declared.unplayable.Unplayable.TheVariants.{NoSubtune, MissingPattern, BadRestart}
use Rattle.play_model.specs.declared.unplayable.Unplayable.TheVariants.{TableOverflow, PointerToJump}
use Rattle.play_model.specs.Used.{IsPlayedOrder, IsUsedRow, IsUsedInstrument}
use Rattle.play_model.specs.Reached.{is_jump, led_to, IsPlayedPointer, of_instrument, of_row, IsReached, played}
use Rattle.play_model.specs.Reached.{pointed, led, IsPointer, of_played, of_wave_row}
use Rattle.play_model.specs.Playable.{HasOrder, MissesPattern, StopsAtRestart, IsJumpTarget, PointsAtJump}
use Rattle.packing_rules.proofs.Laws.{all_at}
use Rattle.song_gen.specs.Draws.{after, draw}
use Rattle.song_gen.specs.GeneratedSong.{wave_rows, pulse_rows, filter_rows, speed_rows, instruments_from}
use Rattle.song_gen.specs.GeneratedSong.{behind_instruments, behind_patterns, behind_rows, pattern_from, patterns_from}
use Rattle.song_gen.specs.GeneratedSong.{order_from, subtune_from, subtunes_from, generated_song}
use Rattle.song_gen.specs.GeneratedLaws.{GeneratedSongsArePlayable, GeneratedSongsHaveEightSubtunes}
use Rattle.song_gen.proofs.Limits.{IsDrawnRow, rows_are_drawn, pattern_rows, IsDrawnEntry, transpose, pattern}
use Rattle.song_gen.proofs.Limits.{order_length, entries_are_drawn, restart_below, draw_small}

-- ---- orderlists

-- an orderlist that was drawn from some number
pub record IsDrawnOrder (order : Order) : Type 0 where
  pub number : ℕ
  pub is : order ≡ order_from number

pub record IsDrawnSubtune (subtune : Subtune) : Type 0 where
  pub one : IsDrawnOrder subtune.one
  pub two : IsDrawnOrder subtune.two
  pub three : IsDrawnOrder subtune.three

subtunes_are_drawn : (x : ℕ) → All IsDrawnSubtune (generated_song x).subtunes
unfolding generated_song subtunes_from
subtunes_are_drawn x =
    All-map IsDrawnSubtune (λ s. subtune_from (after (behind_patterns x) (150 * s))) (range_with_len 0 8)
    (λ i d inside. record {
      one = record { number = after (behind_patterns x) (150 * _); is = refl };
      two = record { number = after (after (behind_patterns x) (150 * _)) 50; is = refl };
      three = record { number = after (after (behind_patterns x) (150 * _)) 100; is = refl };
    })

by_channel : (P : Order → Type 0) (c : ℕ) (subtune : Subtune) → P subtune.one → P subtune.two → P subtune.three →
    P (order_of c subtune)
by_channel P c subtune one two three = both (c == 1) (c == 2)
  where
    both : (a b : Bool) → P (if a then subtune.one else if b then subtune.two else subtune.three)
    both true b = one
    both false true = two
    both false false = three

drawn_order_of : (c : ℕ) (subtune : Subtune) → IsDrawnSubtune subtune → IsDrawnOrder (order_of c subtune)
drawn_order_of c subtune d = by_channel IsDrawnOrder c subtune d.one d.two d.three

-- what holds of each item holds of one that is found
found_is : {X : Type 0} (P : X → Type 0) (items : List X) (i : ℕ) (item : X) → All P items →
    slice_get items i ≡ Some item → P item
found_is P items i item each found =
    subst P (get_or_from_slice_get items i item item found) (each i item (slice_get_within items i item found))

stored_is_drawn : (x s c : ℕ) (order : Order) → HasOrder (generated_song x) s c order → IsDrawnOrder order
stored_is_drawn x s c order has =
    subst IsDrawnOrder (sym has.order_is)
    (drawn_order_of c has.subtune
    (found_is IsDrawnSubtune (generated_song x).subtunes (s - 1) has.subtune (subtunes_are_drawn x) has.subtune_is))

played_is_drawn : (x : ℕ) (order : Order) → IsPlayedOrder (generated_song x) order → IsDrawnOrder order
played_is_drawn x order p =
    subst IsDrawnOrder (sym p.order_is)
    (drawn_order_of p.channel p.subtune
    (All-contains IsDrawnSubtune (playable_subtunes (generated_song x)) p.subtune
    (All-filter is_playable_subtune IsDrawnSubtune (generated_song x).subtunes (subtunes_are_drawn x)) p.playable))

pub pattern_count : (x : ℕ) → length (generated_song x).patterns ≡ 100
unfolding generated_song patterns_from
pattern_count x =
    length-map (range_with_len 0 100) (λ p. pattern_from (behind_rows (behind_instruments x) (32 * p)))
    ∙ length-range_with_len 0 100

few_patterns : (byte : ℕ) → IsDrawnEntry byte → byte < 0xD0 → byte < 100
few_patterns byte (transpose from to) low = omega (arith, from, low)
few_patterns byte (pattern few) low = few

none_missing : (x s c place number : ℕ) → ¬ MissesPattern (generated_song x) s c place number
none_missing x s c place number m =
    let drawn = stored_is_drawn x s c m.order m.has in
    let found : slice_get (order_from drawn.number).entries place ≡ Some number =
    subst (λ (o : Order). slice_get o.entries place ≡ Some number) drawn.is m.names in
    let below = few_patterns number
    (found_is IsDrawnEntry (order_from drawn.number).entries place number (entries_are_drawn drawn.number) found)
    m.is_pattern in
    let missing = m.missing in
    let count = pattern_count x in
    omega (arith, below, missing, count)

-- the last entry is a pattern
last_entry : (y d : ℕ) → get_or (order_from y).entries 48 d ≡ draw y 48 100
unfolding order_from
last_entry y d = get_or-map-range_with_len (λ n. draw y n 100) 1 48 47 48 d (omega arith) refl

drawn_is_endless : (y : ℕ) → IsEndless (order_from y)
drawn_is_endless y =
    let restart = restart_below y in
    let size = order_length y in
    let r = (order_from y).restart in
    record {
      restart = omega (arith, restart, size);
      pattern = (
        48 - r,
        draw y 48 100,
        inside r _ _ (length-drop r (order_from y).entries) size restart,
        at_end y r restart,
        (let few = draw_small y 48 100 (omega arith) in omega (arith, few)),
      );
    }
  where
    inside : (r rest size : ℕ) → rest ≡ size - r → size ≡ 49 → r < 49 → 48 - r < rest
    inside r rest size e is few = omega (arith, e, is, few)

    at_end : (y r : ℕ) → r < 49 → get_or (drop r (order_from y).entries) (48 - r) (draw y 48 100) ≡ draw y 48 100
    at_end y r few =
        let there : r + (48 - r) ≡ 48 = omega (arith, few) in
        get_or-drop r (order_from y).entries (48 - r) (draw y 48 100)
        ∙ ap (λ (k : ℕ). get_or (order_from y).entries k (draw y 48 100)) there ∙ last_entry y (draw y 48 100)

endless : (x s c : ℕ) → ¬ StopsAtRestart (generated_song x) s c
endless x s c h =
    let drawn = stored_is_drawn x s c h.order h.has in
    h.stops (subst IsEndless (sym drawn.is) (drawn_is_endless drawn.number))

pub generated_songs_have_eight_subtunes : GeneratedSongsHaveEightSubtunes
unfolding generated_song subtunes_from order_from
generated_songs_have_eight_subtunes x = refl

some_subtune : (x : ℕ) → playable_subtunes (generated_song x) ≢ []
unfolding generated_song subtunes_from order_from
some_subtune x none = cc

-- ---- rows, and what they name

no_rows_are_drawn : All IsDrawnRow []
no_rows_are_drawn i d inside = absurd (omega (arith, inside))

patterns_are_drawn : (x : ℕ) → All (All IsDrawnRow) (generated_song x).patterns
unfolding generated_song patterns_from
patterns_are_drawn x =
    All-map (All IsDrawnRow) (λ p. pattern_from (behind_rows (behind_instruments x) (32 * p))) (range_with_len 0 100)
    (λ i d inside. pattern_rows IsDrawnRow rows_are_drawn (behind_rows (behind_instruments x) (32 * _)))

pattern_is_drawn : (x n : ℕ) → All IsDrawnRow (pattern_at (generated_song x) n)
unfolding pattern_at
pattern_is_drawn x n =
    All-get_or_any (All IsDrawnRow) (generated_song x).patterns n [] no_rows_are_drawn (patterns_are_drawn x)

used_is_drawn : (x : ℕ) (row : Row) → IsUsedRow (generated_song x) row → IsDrawnRow row
used_is_drawn x row u =
    All-contains IsDrawnRow (pattern_at (generated_song x) u.pattern) row (pattern_is_drawn x u.pattern) u.has

-- a command up to 4 points into the speed table, if into any
speed_only : (command : ℕ) (name : TableName) → command ≤ 4 → command_table command ≡ Some name → name ≡ Speed
speed_only zero name few e = cc
speed_only (suc zero) name few e = cc
speed_only (suc (suc zero)) name few e = cc
speed_only (suc (suc (suc zero))) name few e = cc
speed_only (suc (suc (suc (suc zero)))) name few e = cc
speed_only (suc (suc (suc (suc (suc n))))) name few e = absurd (omega (arith, few))

-- a used instrument is one of the four
pub record IsOfFour (i : ℕ) : Type 0 where
  pub first : 1 ≤ i
  pub last : i ≤ 4

used_is_of_four : (x i : ℕ) → IsUsedInstrument (generated_song x) i → IsOfFour i
used_is_of_four x i (inl is) = record { first = omega (arith, is); last = omega (arith, is) }
used_is_of_four x i (inr named) =
    let d = used_is_drawn x named.row named.used in
    let most = d.instrument in
    let is = named.names in
    record { first = above i named.some; last = omega (arith, most, is) }
  where
    above : (i : ℕ) → i ≢ 0 → 1 ≤ i
    above zero some = absurd (some refl)
    above (suc i) some = omega arith

by_four : (P : ℕ → Type 0) → P 1 → P 2 → P 3 → P 4 → (i : ℕ) → IsOfFour i → P i
by_four P one two three four zero few = (let low = few.first in absurd (omega (arith, low)))
by_four P one two three four (suc zero) few = one
by_four P one two three four (suc (suc zero)) few = two
by_four P one two three four (suc (suc (suc zero))) few = three
by_four P one two three four (suc (suc (suc (suc zero)))) few = four
by_four P one two three four (suc (suc (suc (suc (suc n))))) few = (let high = few.last in absurd (omega (arith, high)))

-- ---- the tables

abbrev pub rows_in : TableName → List TableRow
rows_in Wave = wave_rows
rows_in Pulse = pulse_rows
rows_in Filter = filter_rows
rows_in Speed = speed_rows

table_is : (x : ℕ) (name : TableName) → table_of (generated_song x) name ≡ rows_in name
unfolding generated_song
table_is x Wave = refl
table_is x Pulse = refl
table_is x Filter = refl
table_is x Speed = refl

abbrev pub jumps : TableName → ℕ → Bool
jumps name p = is_jump name (numbered (rows_in name) p zero_table_row)

row_jumps : (x : ℕ) (name : TableName) (p : ℕ) → is_jump name (table_row (generated_song x) name p) ≡ jumps name p
unfolding table_row
row_jumps x name p = ap (λ (rows : List TableRow). is_jump name (numbered rows p zero_table_row)) (table_is x name)

-- what a pointer names: nothing, or a row of the table that is no jump
pub data IsSoundPointer (name : TableName) (p : ℕ) : Type 0 where
  none : p ≡ 0 → IsSoundPointer name p
  some : 1 ≤ p → p ≤ length (rows_in name) → jumps name p ≡ false → IsSoundPointer name p

pointers_of_four : (x i : ℕ) (name : TableName) → IsOfFour i →
    IsSoundPointer name (instrument_pointer name (instrument_at (generated_song x) i))
unfolding generated_song instruments_from instrument_at
pointers_of_four x i Wave few =
    by_four (λ n. IsSoundPointer Wave (instrument_at (generated_song x) n).wave)
    (some (omega arith) (omega arith) refl) (some (omega arith) (omega arith) refl)
    (some (omega arith) (omega arith) refl) (some (omega arith) (omega arith) refl) i few
pointers_of_four x i Pulse few =
    by_four (λ n. IsSoundPointer Pulse (instrument_at (generated_song x) n).pulse)
    (some (omega arith) (omega arith) refl) (some (omega arith) (omega arith) refl)
    (some (omega arith) (omega arith) refl) (some (omega arith) (omega arith) refl) i few
pointers_of_four x i Filter few =
    by_four (λ n. IsSoundPointer Filter (instrument_at (generated_song x) n).filter)
    (some (omega arith) (omega arith) refl) (none refl) (none refl) (none refl) i few
pointers_of_four x i Speed few =
    by_four (λ n. IsSoundPointer Speed (instrument_at (generated_song x) n).vibrato)
    (none refl) (some (omega arith) (omega arith) refl) (some (omega arith) (omega arith) refl)
    (some (omega arith) (omega arith) refl) i few

-- a row that a song comes to stands in its table; of the speed table it may be any
abbrev pub Stays : TableName → ℕ → Type 0
Stays Speed p = Unit {0}
Stays name p = (1 ≤ p) × (p ≤ length (rows_in name))

stays_if : (name : TableName) (p : ℕ) → 1 ≤ p → p ≤ length (rows_in name) → Stays name p
stays_if Wave p low high = (low, high)
stays_if Pulse p low high = (low, high)
stays_if Filter p low high = (low, high)
stays_if Speed p low high = tt

-- no row of the wave table points into another table; each row leads to one of its own; and each jump leads to no jump
abbrev pub leads_inside : TableName → Option ℕ → Bool
leads_inside name None = true
leads_inside name (Some q) = nat_le 1 q && nat_le q (length (rows_in name))

abbrev pub has_table : Option TableName → Bool
has_table None = false
has_table (Some name) = true

abbrev pub points_nowhere : ℕ → Bool
points_nowhere r = not (has_table (wave_row_table (numbered wave_rows r zero_table_row).left))

abbrev pub goes_inside : TableName → ℕ → Bool
goes_inside name p = leads_inside name (led_to name (rows_in name) p)

abbrev pub lands_well : TableName → ℕ → Bool
lands_well name p =
    if jumps name p then not (jumps name (numbered (rows_in name) p zero_table_row).right) else true

abbrev pub each_row : TableName → (ℕ → Bool) → Bool
each_row name test = list_all test (range_with_len 1 (length (rows_in name)))

wave_points_nowhere : each_row Wave points_nowhere ≡ true
wave_points_nowhere = refl

rows_go_inside : (name : TableName) → each_row name (goes_inside name) ≡ true
rows_go_inside Wave = refl
rows_go_inside Pulse = refl
rows_go_inside Filter = refl
rows_go_inside Speed = refl

jumps_land_well : (name : TableName) → each_row name (lands_well name) ≡ true
jumps_land_well Wave = refl
jumps_land_well Pulse = refl
jumps_land_well Filter = refl
jumps_land_well Speed = refl

at_row : (name : TableName) (test : ℕ → Bool) (p : ℕ) → each_row name test ≡ true → 1 ≤ p → p ≤ length (rows_in name) →
    test p ≡ true
at_row name test p all low high = all_at test 1 (length (rows_in name)) p all low (omega (arith, high))

-- ---- what is reached

no_wave_pointer : (x r : ℕ) (name : TableName) → Stays Wave r →
    wave_row_table (table_row (generated_song x) Wave r).left ≡ Some name → ⊥
unfolding table_row generated_song
no_wave_pointer x r name there e =
    let test = at_row Wave points_nowhere r wave_points_nowhere there.0 there.1 in
    let found : not (has_table (Some name)) ≡ true = subst (λ t. not (has_table t) ≡ true) e test in
    cc

pointer_stays : (name : TableName) (p : ℕ) → p ≢ 0 → IsSoundPointer name p → Stays name p
pointer_stays name p is (none e) = absurd (is e)
pointer_stays name p is (some low high plain) = stays_if name p low high

played_is_sound : (x : ℕ) (name : TableName) (p : ℕ) → IsPlayedPointer (generated_song x) name p →
    (name ≡ Speed) ⊎ IsSoundPointer name p
played_is_sound x name p (of_instrument i used is nonzero) =
    inr (subst (IsSoundPointer name) is (pointers_of_four x i name (used_is_of_four x i used)))
played_is_sound x name p (of_row row used table is nonzero) =
    inl (speed_only row.command name (used_is_drawn x row used).command table)

played_nonzero : (song : Song) (name : TableName) (p : ℕ) → IsPlayedPointer song name p → p ≢ 0
played_nonzero song name p (of_instrument i used is nonzero) = nonzero
played_nonzero song name p (of_row row used table is nonzero) = nonzero

speed_stays : (name : TableName) (p : ℕ) → name ≡ Speed → Stays name p
speed_stays name p e = subst (λ n. Stays n p) (sym e) tt

led_stays : (x : ℕ) (name : TableName) (p q : ℕ) → 1 ≤ p → p ≤ length (rows_in name) →
    led_to name (table_of (generated_song x) name) p ≡ Some q → Stays name q
led_stays x name p q low high e =
    let test = at_row name (goes_inside name) p (rows_go_inside name) low high in
    let here : led_to name (rows_in name) p ≡ Some q =
    subst (λ (rows : List TableRow). led_to name rows p ≡ Some q) (table_is x name) e in
    let inside : nat_le 1 q && nat_le q (length (rows_in name)) ≡ true =
    subst (λ t. leads_inside name t ≡ true) here test in
    let parts = and_parts (nat_le 1 q) (nat_le q (length (rows_in name))) inside in
    stays_if name q (leb-true 1 q parts.0) (leb-true q (length (rows_in name)) parts.1)

next_stays : (x : ℕ) (name : TableName) (p q : ℕ) → Stays name p →
    led_to name (table_of (generated_song x) name) p ≡ Some q → Stays name q
next_stays x Speed p q there e = tt
next_stays x Wave p q there e = led_stays x Wave p q there.0 there.1 e
next_stays x Pulse p q there e = led_stays x Pulse p q there.0 there.1 e
next_stays x Filter p q there e = led_stays x Filter p q there.0 there.1 e

stays : (x : ℕ) (name : TableName) (p : ℕ) → IsReached (generated_song x) name p → Stays name p
stays x name p (played pointer) = elim (played_is_sound x name p pointer) [
  | inl speed ↦ speed_stays name p speed
  | inr sound ↦ pointer_stays name p (played_nonzero (generated_song x) name p pointer) sound
]
stays x name p (pointed r reached pointer) =
    absurd (no_wave_pointer x r name (stays x Wave r reached) pointer.table)
stays x name q (led p reached e) = next_stays x name p q (stays x name p reached) e

past : (x : ℕ) (name : TableName) (row : ℕ) → row ≤ length (rows_in name) →
    length (table_of (generated_song x) name) < row → ⊥
past x name row high above =
    let e = ap length (table_is x name) in omega (arith, high, above, e)

within : (x : ℕ) (name : TableName) (row : ℕ) → name ≢ Speed → Stays name row →
    length (table_of (generated_song x) name) < row → ⊥
within x Speed row programs there above = programs refl
within x Wave row programs there above = past x Wave row there.1 above
within x Pulse row programs there above = past x Pulse row there.1 above
within x Filter row programs there above = past x Filter row there.1 above

-- ---- jumps

no_jump_of_speed : (p : ℕ) → jumps Speed p ≡ false
no_jump_of_speed p = refl

sound_is_no_jump : (name : TableName) (p : ℕ) → p ≢ 0 → IsSoundPointer name p → jumps name p ≡ false
sound_is_no_jump name p is (none e) = absurd (is e)
sound_is_no_jump name p is (some low high plain) = plain

pointer_is_no_jump : (x : ℕ) (name : TableName) (p : ℕ) → IsPointer (generated_song x) name p → jumps name p ≡ false
pointer_is_no_jump x name p (of_played pointer) = elim (played_is_sound x name p pointer) [
  | inl speed ↦ subst (λ n. jumps n p ≡ false) (sym speed) refl
  | inr sound ↦ sound_is_no_jump name p (played_nonzero (generated_song x) name p pointer) sound
]
pointer_is_no_jump x name p (of_wave_row r reached pointer) =
    absurd (no_wave_pointer x r name (stays x Wave r reached) pointer.table)

from_not : (b : Bool) → not b ≡ true → b ≡ false
from_not true e = cc
from_not false e = refl

lands : (name : TableName) (p : ℕ) → 1 ≤ p → p ≤ length (rows_in name) → jumps name p ≡ true →
    jumps name (numbered (rows_in name) p zero_table_row).right ≡ false
lands name p low high jump =
    let test = at_row name (lands_well name) p (jumps_land_well name) low high in
    let found : not (jumps name (numbered (rows_in name) p zero_table_row).right) ≡ true =
    subst (λ (b : Bool). (if b then not (jumps name (numbered (rows_in name) p zero_table_row).right) else true) ≡ true)
    jump test in
    from_not _ found

target_by : (x : ℕ) (name : TableName) (row : ℕ) (target : IsJumpTarget (generated_song x) name row) →
    (1 ≤ target.p) × (target.p ≤ length (rows_in name)) → jumps name row ≡ false
unfolding table_row
target_by x name row target there =
    let jump : jumps name target.p ≡ true = sym (row_jumps x name target.p) ∙ target.jump in
    let right : (numbered (rows_in name) target.p zero_table_row).right ≡ row =
    subst (λ (rows : List TableRow). (numbered rows target.p zero_table_row).right ≡ row) (table_is x name) target.target
    in
    subst (λ (q : ℕ). jumps name q ≡ false) right (lands name target.p there.0 there.1 jump)

target_is_no_jump : (x : ℕ) (name : TableName) (row : ℕ) → IsJumpTarget (generated_song x) name row →
    jumps name row ≡ false
target_is_no_jump x Speed row target = refl
target_is_no_jump x Wave row target = target_by x Wave row target (stays x Wave target.p target.reached)
target_is_no_jump x Pulse row target = target_by x Pulse row target (stays x Pulse target.p target.reached)
target_is_no_jump x Filter row target = target_by x Filter row target (stays x Filter target.p target.reached)

none_at_jump : (x : ℕ) (name : TableName) (row : ℕ) → ¬ PointsAtJump (generated_song x) name row
none_at_jump x name row h =
    let plain : jumps name row ≡ false = elim h.named [
      | inl pointer ↦ pointer_is_no_jump x name row pointer
      | inr target ↦ target_is_no_jump x name row target
    ] in
    let jump = h.jump in
    let is = row_jumps x name row in
    cc

pub generated_songs_are_playable : GeneratedSongsArePlayable
generated_songs_are_playable x NoSubtune h = some_subtune x h
generated_songs_are_playable x (MissingPattern s c place number) h = none_missing x s c place number h
generated_songs_are_playable x (BadRestart s c) h = endless x s c h
generated_songs_are_playable x (TableOverflow name row) h =
    within x name row h.programs (stays x name row h.reached) h.above
generated_songs_are_playable x (PointerToJump name row) h = none_at_jump x name row h
