-- How long the pieces are that a song's patterns are cut into: a greedy choice, by the bytes of orderlists and patterns.
use Rattle.std.specs.Prelude.{ℕ, ◌+◌, ◌&&◌, Bool, nat_le, nat_lt, if◌then◌else◌, List, [], ◌∷◌, length, map, replicate}
use Rattle.std.specs.Prelude.{set, sum_by}
use Rattle.std.specs.List.{flat_map, fold, list_all}
use Rattle.song_model.specs.declared.rows.Row.{Row}
use Rattle.song_model.specs.declared.orders.Order.{Order}
use Rattle.song_model.specs.declared.songs.Song.{Song}
use Rattle.song_model.specs.declared.orders.TheConstants.{MOST_ENTRIES}
use Rattle.song_model.specs.declared.patterns.TheConstants.{MOST_PATTERNS}
use Rattle.packed_form.specs.PackedText.{packed_text}
use Rattle.packed_form.specs.Sizes.{list_size}
use Rattle.pattern_cut.specs.declared.lengths.PieceLength.{PieceLength}
use Rattle.pattern_cut.specs.declared.lengths.PieceLength.TheVariants.{Whole, Rows64, Rows32, Rows16, Rows8}
use Rattle.pattern_cut.specs.Pieces.{orders_of, named}
use Rattle.pattern_cut.specs.CutSongs.{Ways, cut_with}

-- ---- weights

abbrev pub all_orders : Song → List Order
all_orders song = flat_map orders_of song.subtunes

-- a song may have 208 patterns, and an orderlist 254 entries
abbrev pub fits : Song → Bool
fits song =
    nat_le (length song.patterns) MOST_PATTERNS
    && list_all (λ order. nat_le (length order.entries) MOST_ENTRIES) (all_orders song)

-- a pattern weighs what its rows pack to, before they get new numbers, with two bytes for its address
abbrev pub pattern_weight : List Row → ℕ
pattern_weight rows = list_size (packed_text rows)

-- more than any song weighs that fits
abbrev pub too_heavy : ℕ
too_heavy = 0x100000

-- the bytes of orderlists and patterns
unfoldable pub weight : Song → ℕ
weight song =
    if fits song then sum_by (λ order. length order.entries) (all_orders song) + sum_by pattern_weight song.patterns
    else too_heavy

-- ---- the choice

-- the lighter one, and the first where both weigh the same
abbrev pub lighter : {X : Type 0} → (X → ℕ) → X → X → X
lighter weighs one other = if nat_lt (weighs other) (weighs one) then other else one

-- the lightest of some, the first of those
abbrev pub lightest : {X : Type 0} → (X → ℕ) → X → List X → X
lightest weighs first others = fold (lighter weighs) first others

abbrev pub cut_weight : Song → Ways → ℕ
cut_weight song ways = weight (cut_with song ways)

-- shorter and shorter pieces
abbrev pub short_lengths : List PieceLength
short_lengths = Rows64 ∷ Rows32 ∷ Rows16 ∷ Rows8 ∷ []

-- the length for pattern n with which the song is lightest, the others as they are; whole where none makes it lighter
unfoldable pub settled : Song → Ways → ℕ → Ways
settled song ways n =
    lightest (cut_weight song) (set ways n Whole) (map (λ length. set ways n length) short_lengths)

-- from all patterns in pieces of one length on, one pattern after the other
unfoldable pub settled_from : Song → PieceLength → Ways
settled_from song length = fold (settled song) (replicate MOST_PATTERNS length) (named song)

-- the lightest of what comes of the five lengths
unfoldable pub chosen_ways : Song → Ways
chosen_ways song = lightest (cut_weight song) (settled_from song Whole) (map (settled_from song) short_lengths)

-- the song with its patterns cut
unfoldable pub cut_song : Song → Song
cut_song song = cut_with song (chosen_ways song)
