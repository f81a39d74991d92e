-- The patterns of generated songs may be packed, and their data and a player fit in 48 KB.
use Rattle.std.proofs.Common.{◌≡◌, ℕ, ◌+◌, ◌*◌, ◌≤◌, Bool, List, [], length, map, filter, All, refl, arith}
use Rattle.std.specs.List.{range_with_len, sum_by, count_by}
use Rattle.std.specs.Int.{bit_at}
use Rattle.std.proofs.lemmas.List.{length-map}
use Rattle.std.proofs.lemmas.List.FromFn.{length-range_with_len}
use Rattle.std.proofs.lemmas.List.Elements.{All-map}
use Rattle.std.proofs.lemmas.List.Sums.{sum_by-le, count_by-le-length, length-filter}
use Rattle.base.proofs.Laws.{All-get_or_any}
use Rattle.song_model.specs.declared.rows.Row.{Row}
use Rattle.song_model.specs.declared.tables.TableName.TheVariants.{Speed}
use Rattle.song_model.specs.declared.songs.Song.{Song}
use Rattle.song_model.specs.declared.instruments.TheConstants.{MOST_INSTRUMENTS}
use Rattle.song_model.specs.declared.tables.TheConstants.{MOST_TABLE_ROWS}
use Rattle.song_model.specs.declared.patterns.TheConstants.{MOST_PATTERNS}
use Rattle.song_model.specs.LookUp.{pattern_at, playable_subtunes, speed_row}
use Rattle.play_model.specs.State.{no_options}
use Rattle.packing_rules.specs.UsedSets.{UsedSets}
use Rattle.packing_rules.specs.Segments.{ProgramTable, numbers}
use Rattle.packed_form.specs.Sizes.{list_size}
use Rattle.packing_rules.specs.Renumbering.{same_row, renumbered_row, pattern_text, pattern_texts}
use Rattle.packing_rules.specs.Renumbering.{speed_rows as packed_speeds, wave_programs, pulse_programs, filter_programs}
use Rattle.packed_form.specs.CodeBounds.{kept_parts, code_bound}
use Rattle.packing_rules.specs.SongSizes.{orders_size, programs_size, data_size}
use Rattle.packing_rules.proofs.Laws.{first_seen_length}
use Rattle.pattern_pack.proofs.Laws.{text_is_short}
use Rattle.song_gen.specs.GeneratedSong.{behind_rows, behind_instruments, pattern_from, patterns_from, subtunes_from}
use Rattle.song_gen.specs.GeneratedSong.{order_from, generated_song}
use Rattle.song_gen.specs.GeneratedLaws.{GeneratedPatternsAreShort, GeneratedSongsAreSmall}
use Rattle.song_gen.proofs.Limits.{pattern_length}

-- ---- patterns

HasFewRows : List Row → Type 0
HasFewRows rows = length rows ≤ 32

no_rows : HasFewRows []
unfolding HasFewRows
no_rows = omega arith

pattern_is_small : (y : ℕ) → HasFewRows (pattern_from y)
unfolding HasFewRows
pattern_is_small y = (let e = pattern_length y in omega (arith, e))

patterns_are_small : (x : ℕ) → All HasFewRows (generated_song x).patterns
unfolding generated_song patterns_from
patterns_are_small x =
    All-map HasFewRows (λ p. pattern_from (behind_rows (behind_instruments x) (32 * p))) (range_with_len 0 100)
    (λ i d inside. pattern_is_small (behind_rows (behind_instruments x) (32 * _)))

few_rows : (x p : ℕ) → length (pattern_at (generated_song x) p) ≤ 32
unfolding pattern_at HasFewRows
few_rows x p = All-get_or_any HasFewRows (generated_song x).patterns p [] no_rows (patterns_are_small x)

short_text : (x : ℕ) (used : UsedSets) (p : ℕ) → length (pattern_text (generated_song x) used p) ≤ 129
unfolding pattern_text
short_text x used p =
    let rows = pattern_at (generated_song x) p in
    let short = text_is_short (map (renumbered_row (generated_song x) used) rows) in
    let count = length-map rows (renumbered_row (generated_song x) used) in
    let few = few_rows x p in
    omega (arith, short, count, few)

small_text : (x : ℕ) (used : UsedSets) (p : ℕ) → list_size (pattern_text (generated_song x) used p) ≤ 131
small_text x used p = (let short = short_text x used p in omega (arith, short))

pub generated_patterns_are_short : GeneratedPatternsAreShort
generated_patterns_are_short x used p = (let short = short_text x used p in omega (arith, short))

-- ---- the data

orders_have : (x : ℕ) → sum_by orders_size (playable_subtunes (generated_song x)) ≡ 1272
unfolding generated_song subtunes_from order_from
orders_have x = refl

count_within : (test : ℕ → Bool) (n : ℕ) → count_by test (numbers n) ≤ n
count_within test n =
    let few = count_by-le-length test (numbers n) in let e = length-range_with_len 1 n in omega (arith, few, e)

speeds_within : (song : Song) (test : ℕ → Bool) → length (packed_speeds song test) ≤ 255
unfolding packed_speeds
speeds_within song test =
    let rows = map (speed_row song) (filter test (numbers MOST_TABLE_ROWS)) in
    let few = first_seen_length same_row rows in
    let same = length-map (filter test (numbers MOST_TABLE_ROWS)) (speed_row song) in
    let kept = length-filter test (numbers MOST_TABLE_ROWS) in
    let most = count_within test MOST_TABLE_ROWS in
    omega (arith, few, same, kept, most)

texts_within : (x : ℕ) (used : UsedSets) → sum_by list_size (pattern_texts (generated_song x) used) ≤ 27248
unfolding pattern_texts
texts_within x used =
    let song = generated_song x in
    let named = filter used.patterns (range_with_len 0 MOST_PATTERNS) in
    let each = All-map (λ (text : List ℕ). list_size text ≤ 131) (pattern_text song used) named
    (λ i d inside. small_text x used _) in
    let sum = sum_by-le list_size 131 (map (pattern_text song used) named) each in
    let same = length-map named (pattern_text song used) in
    let kept = length-filter used.patterns (range_with_len 0 MOST_PATTERNS) in
    let few = count_by-le-length used.patterns (range_with_len 0 MOST_PATTERNS) in
    let all = length-range_with_len 0 MOST_PATTERNS in
    omega (arith, sum, same, kept, few, all)

programs_within : (x : ℕ) (used : UsedSets) (test : ProgramTable → ℕ → Bool) →
    programs_size test (generated_song x) used ≤ 36
unfolding generated_song
programs_within x used test =
    let song = generated_song x in
    let waves = count_within (test (wave_programs song used)) 9 in
    let pulses = count_within (test (pulse_programs song used)) 4 in
    let filters = count_within (test (filter_programs song used)) 5 in
    omega (arith, waves, pulses, filters)

parts_add : (orders instruments speeds texts programs : ℕ) → orders ≡ 1272 → instruments ≤ 63 → speeds ≤ 255 →
    texts ≤ 27248 → programs ≤ 36 → orders + 9 * instruments + 2 * speeds + texts + programs ≤ 29633
parts_add orders instruments speeds texts programs o i s t p = omega (arith, o, i, s, t, p)

data_within : (x : ℕ) (used : UsedSets) → data_size (generated_song x) used ≤ 29633
unfolding data_size
data_within x used =
    parts_add _ _ _ _ _ (orders_have x) (count_within used.instruments MOST_INSTRUMENTS)
    (speeds_within (generated_song x) (used.pointers Speed)) (texts_within x used)
    (programs_within x used (λ table. table.reached))

-- ---- the player

bits_within : (features : ℕ) → kept_parts features no_options ≤ 24
bits_within features =
    let each = sum_by-le (bit_at features) 1 (range_with_len 0 24) (λ i d inside. bit_small features _) in
    omega (arith, each)
  where
    bit_small : (n k : ℕ) → bit_at n k ≤ 1
    bit_small n k = omega arith

sizes_add : (a b c : ℕ) → a ≤ 29633 → b ≡ 3072 + 320 * c → c ≤ 24 → a + b ≤ 0xC000
sizes_add a b c x y z = omega (arith, x, y, z)

pub generated_songs_are_small : GeneratedSongsAreSmall
generated_songs_are_small x used features are are_features =
    sizes_add (data_size (generated_song x) used) (code_bound features no_options) (kept_parts features no_options)
    (data_within x used) refl (bits_within features)
