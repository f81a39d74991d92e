-- The parts of a song are made, with nothing in them.
use Rattle.std.proofs.Common.{◌≡◌, ℕ, zero, suc, ◌+◌, ◌<◌, ◌≤◌, false, eqb, List, ◌∷◌}
use Rattle.std.proofs.Common.{length, replicate, set, ◌-◌, ltb, Ok, refl, sym, ap, ◌∙◌, subst, arith}
use Rattle.std.proofs.lemmas.Bool.{eqb-true, ne_eqb}
use Rattle.std.proofs.lemmas.List.{length-replicate}
use Rattle.song_model.specs.declared.rows.Row.{Row}
use Rattle.song_model.specs.declared.orders.Subtune.{Subtune}
use Rattle.song_model.specs.declared.instruments.Instrument.{Instrument}
use Rattle.song_model.specs.declared.tables.TableName.{TableName}
use Rattle.song_model.specs.declared.tables.TableName.TheVariants.{Wave, Pulse, Filter, Speed}
use Rattle.song_model.specs.declared.songs.Song.{Song}
use Rattle.song_model.specs.LookUp.{instrument_at, void_subtune, zero_instrument, zero_table_row}
use Rattle.song_model.specs.Silence.{empty_song}
use Rattle.song_model.specs.Limits.{KeepsLimits}
use Rattle.edit_ops.specs.declared.edits.Edit.TheVariants.{InsertTable, SetInstrument, AddSubtune, SetPatternCount}
use Rattle.edit_ops.specs.declared.shifts.Shift.TheVariants.{Up}
use Rattle.edit_ops.specs.Instruments.{with_instrument, with_field}
use Rattle.edit_ops.specs.Pointers.{shifted, moved_instrument, moved_table_row, moved_song}
use Rattle.edit_ops.specs.Tables.{table_named, rows_of, with_row_inserted}
use Rattle.edit_ops.specs.Others.{rest_pattern}
use Rattle.edit_ops.specs.Edits.{edited}
use Rattle.song_script.specs.Parts.{subtunes_made, instruments_made, table_made, patterns_made, parts_made}
use Rattle.song_script.proofs.AfterLaws.{Makes, both_make, unless_makes, again_makes}
use Rattle.song_script.proofs.ListLaws.{one_more, map-replicate, resized_none}
use Rattle.song_script.proofs.KindLaws.{subtune_added, field_set, table_inserted, patterns_counted}

-- a song of so many parts with nothing in them
abbrev pub blank : ℕ → ℕ → ℕ → ℕ → ℕ → ℕ → ℕ → Song
blank subtunes instruments wave pulse filter speed patterns = record empty_song {
  subtunes = replicate subtunes void_subtune;
  instruments = replicate instruments zero_instrument;
  wave = replicate wave zero_table_row;
  pulse = replicate pulse zero_table_row;
  filter = replicate filter zero_table_row;
  speed = replicate speed zero_table_row;
  patterns = replicate patterns rest_pattern;
}

-- ---- subtunes

subtune_more : (k : ℕ) → k < 32 → edited (blank k 0 0 0 0 0 0) AddSubtune ≡ Ok (blank (suc k) 0 0 0 0 0 0)
subtune_more k few =
    subtune_added (blank k 0 0 0 0 0 0) (omega (arith, length-replicate k void_subtune, few))
    ∙ ap (λ (subtunes : List Subtune). Ok (record empty_song { subtunes = subtunes })) (one_more k void_subtune)

subtunes_make : (n : ℕ) → n ≤ 32 → Makes (subtunes_made n) empty_song (blank n 0 0 0 0 0 0)
subtunes_make n few =
    let none : n + 0 ≡ n = omega arith in
    subst (λ k. Makes (subtunes_made n) empty_song (blank k 0 0 0 0 0 0)) none
    (again_makes (λ k. blank k 0 0 0 0 0 0) AddSubtune 32 subtune_more n 0 (omega (arith, few)))

-- ---- instruments

set_again : {X : Type 0} (k i : ℕ) (x : X) → set (replicate k x) i x ≡ replicate k x
set_again zero i x = refl
set_again (suc k) zero x = refl
set_again {X} (suc k) (suc i) x = ap (λ (xs : List X). x ∷ xs) (set_again k i x)

none_stored : (s n : ℕ) → instrument_at (blank s 0 0 0 0 0 0) n ≡ zero_instrument
unfolding instrument_at
none_stored s zero = refl
none_stored s (suc n) = let some : eqb (suc n) 0 ≡ false = ne_eqb (suc n) 0 (λ e. absurd (omega (arith, e))) in rw
    some refl

stored : (s n : ℕ) →
    with_instrument (blank s 0 0 0 0 0 0) n (with_field 0 0 (instrument_at (blank s 0 0 0 0 0 0) n))
    ≡ blank s n 0 0 0 0 0
stored s n =
    let all : n - 0 ≡ n = omega arith in
    rw (none_stored s n, all)
    (ap (λ (instruments : List Instrument). record (blank s 0 0 0 0 0 0) { instruments = instruments })
    (set_again n (n - 1) zero_instrument))

instruments_make : (s n : ℕ) → n ≤ 63 →
    Makes (instruments_made n) (blank s 0 0 0 0 0 0) (blank s n 0 0 0 0 0)
instruments_make s n few =
    unless_makes (eqb n 0) (SetInstrument n 0 0) (blank s 0 0 0 0 0 0) (blank s n 0 0 0 0 0)
    (λ none. ap (λ k. blank s k 0 0 0 0 0) (sym (eqb-true n 0 none)))
    (λ some. field_set (blank s 0 0 0 0 0 0) n 0 0 (least n some) few (omega arith) ∙ ap Ok (stored s n))
  where
    least : (n : ℕ) → eqb n 0 ≡ false → 1 ≤ n
    least zero e = absurd (cc (e))
    least (suc n) e = omega arith

-- ---- tables

instrument_stays : (name : TableName) → moved_instrument name (shifted (Up 1)) zero_instrument ≡ zero_instrument
instrument_stays Wave = refl
instrument_stays name = refl

row_stays : (name holder : TableName) →
    moved_table_row name holder (shifted (Up 1)) zero_table_row ≡ zero_table_row
row_stays Wave Wave = refl
row_stays Wave holder = refl
row_stays Pulse Wave = refl
row_stays Pulse holder = refl
row_stays Filter Wave = refl
row_stays Filter holder = refl
row_stays Speed Wave = refl
row_stays Speed holder = refl

none_moves : (name : TableName) (s i w p f v : ℕ) →
    moved_song name (shifted (Up 1)) (blank s i w p f v 0) ≡ blank s i w p f v 0
unfolding moved_song
none_moves name s i w p f v =
    let is = map-replicate (moved_instrument name (shifted (Up 1))) i zero_instrument zero_instrument
    (instrument_stays name) in
    let ws = map-replicate (moved_table_row name Wave (shifted (Up 1))) w zero_table_row zero_table_row
    (row_stays name Wave) in
    let ps = map-replicate (moved_table_row name Pulse (shifted (Up 1))) p zero_table_row zero_table_row
    (row_stays name Pulse) in
    let fs = map-replicate (moved_table_row name Filter (shifted (Up 1))) f zero_table_row zero_table_row
    (row_stays name Filter) in
    let vs = map-replicate (moved_table_row name Speed (shifted (Up 1))) v zero_table_row zero_table_row
    (row_stays name Speed) in
    rw (is, ws, ps, fs, vs) refl

wave_more : (s i k : ℕ) → with_row_inserted (blank s i k 0 0 0 0) Wave 1 zero_table_row ≡ blank s i (suc k) 0 0 0 0
unfolding with_row_inserted
wave_more s i k = rw (none_moves Wave s i k 0 0 0) refl

pulse_more : (s i w k : ℕ) →
    with_row_inserted (blank s i w k 0 0 0) Pulse 1 zero_table_row ≡ blank s i w (suc k) 0 0 0
unfolding with_row_inserted
pulse_more s i w k = rw (none_moves Pulse s i w k 0 0) refl

filter_more : (s i w p k : ℕ) →
    with_row_inserted (blank s i w p k 0 0) Filter 1 zero_table_row ≡ blank s i w p (suc k) 0 0
unfolding with_row_inserted
filter_more s i w p k = rw (none_moves Filter s i w p k 0) refl

speed_more : (s i w p f k : ℕ) →
    with_row_inserted (blank s i w p f k 0) Speed 1 zero_table_row ≡ blank s i w p f (suc k) 0
unfolding with_row_inserted
speed_more s i w p f k = rw (none_moves Speed s i w p f k) refl

-- a song whose table has so many zero rows
table_makes : (table : ℕ) (T : ℕ → Song) → ltb 3 table ≡ false → ((k : ℕ) → rows_of (T k) table ≡ k) →
    ((k : ℕ) → with_row_inserted (T k) (table_named table) 1 zero_table_row ≡ T (suc k)) →
    (n : ℕ) → n ≤ 255 → Makes (table_made table n) (T 0) (T n)
table_makes table T known has more n few =
    let none : n + 0 ≡ n = omega arith in
    let step : (k : ℕ) → k < 255 → edited (T k) (InsertTable table 1 zero_table_row) ≡ Ok (T (suc k)) =
    λ k lt. table_inserted (T k) table zero_table_row known (omega (arith, has k, lt)) ∙ ap Ok (more k) in
    subst (λ k. Makes (table_made table n) (T 0) (T k)) none
    (again_makes T (InsertTable table 1 zero_table_row) 255 step n 0 (omega (arith, few)))

-- ---- patterns

patterns_make : (s i w p f v n : ℕ) → n ≤ 208 →
    Makes (patterns_made n) (blank s i w p f v 0) (blank s i w p f v n)
patterns_make s i w p f v n few =
    unless_makes (eqb n 0) (SetPatternCount n) (blank s i w p f v 0) (blank s i w p f v n)
    (λ none. ap (λ k. blank s i w p f v k) (sym (eqb-true n 0 none)))
    (λ some. patterns_counted (blank s i w p f v 0) n few
    ∙ ap (λ (all : List (List Row)). Ok (record (blank s i w p f v 0) { patterns = all })) (resized_none n
    rest_pattern))

-- ---- all of them

-- a song of as many parts as this one, with nothing in them
abbrev pub blank_of : Song → Song
blank_of song =
    blank (length song.subtunes) (length song.instruments) (length song.wave) (length song.pulse) (length song.filter)
    (length song.speed) (length song.patterns)

pub parts_make : (song : Song) → KeepsLimits song → Makes (parts_made song) empty_song (blank_of song)
unfolding parts_made
parts_make song keeps =
    let s = length song.subtunes in
    let i = length song.instruments in
    let w = length song.wave in
    let p = length song.pulse in
    let f = length song.filter in
    let v = length song.speed in
    both_make
    (both_make
    (both_make
    (both_make
    (both_make
    (both_make (subtunes_make s keeps.subtunes.count)
    (instruments_make s i keeps.instruments.count))
    (table_makes 0 (λ k. blank s i k 0 0 0 0) refl (λ k. length-replicate k zero_table_row) (wave_more s i) w
    keeps.wave.count))
    (table_makes 1 (λ k. blank s i w k 0 0 0) refl (λ k. length-replicate k zero_table_row) (pulse_more s i w)
    p keeps.pulse.count))
    (table_makes 2 (λ k. blank s i w p k 0 0) refl (λ k. length-replicate k zero_table_row) (filter_more s i w p)
    f keeps.filter.count))
    (table_makes 3 (λ k. blank s i w p f k 0) refl (λ k. length-replicate k zero_table_row) (speed_more s i w p f)
    v keeps.speed.count))
    (patterns_make s i w p f v (length song.patterns) keeps.patterns.count)
