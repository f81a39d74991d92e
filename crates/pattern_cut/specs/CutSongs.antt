-- A song with its patterns in pieces.
use Rattle.std.specs.Prelude.{ℕ, Bool, if◌then◌else◌, List, [], ◌∷◌, map, get_or}
use Rattle.std.specs.List.{flat_map, position_or_len}
use Rattle.std.specs.Str.{bytes_eq}
use Rattle.song_model.specs.declared.rows.Row.{Row}
use Rattle.song_model.specs.declared.orders.Subtune.{Subtune}
use Rattle.song_model.specs.declared.songs.Song.{Song}
use Rattle.song_model.specs.LookUp.{pattern_at, playable_subtunes}
use Rattle.song_model.specs.Canonical.{row_text}
use Rattle.packing_rules.specs.Renumbering.{first_seen}
use Rattle.pattern_cut.specs.declared.lengths.PieceLength.{PieceLength}
use Rattle.pattern_cut.specs.declared.lengths.PieceLength.TheVariants.{Whole}
use Rattle.pattern_cut.specs.Pieces.{rows_of, slices, named, is_repeated}
use Rattle.pattern_cut.specs.Cuts.{cut_order}

-- how long the pieces of each pattern are, by its number
abbrev pub Ways : Type 0
Ways = List PieceLength

-- the pieces of pattern n; one that is repeated stays whole
unfoldable pub pieces_of : Song → Ways → ℕ → List (List Row)
pieces_of song ways n =
    if is_repeated song n then pattern_at song n ∷ [] else slices (rows_of (get_or ways n Whole)) (pattern_at song n)

-- two have the same rows
abbrev pub same_rows : List Row → List Row → Bool
same_rows one other = bytes_eq (flat_map row_text one) (flat_map row_text other)

-- the pieces of all patterns that the song plays, each once
unfoldable pub all_pieces : Song → Ways → List (List Row)
all_pieces song ways = first_seen same_rows (flat_map (pieces_of song ways) (named song))

-- where the pieces of pattern n stand among them
unfoldable pub piece_numbers : Song → Ways → ℕ → List ℕ
piece_numbers song ways n =
    map (λ rows. position_or_len (same_rows rows) (all_pieces song ways)) (pieces_of song ways n)

abbrev pub cut_subtune : (ℕ → List ℕ) → Subtune → Subtune
cut_subtune pieces subtune = record {
  one = cut_order pieces subtune.one;
  two = cut_order pieces subtune.two;
  three = cut_order pieces subtune.three;
}

-- the song whose patterns are these pieces; the subtunes that can be played name them
unfoldable pub cut_with : Song → Ways → Song
cut_with song ways = record song {
  subtunes = map (cut_subtune (piece_numbers song ways)) (playable_subtunes song);
  patterns = all_pieces song ways;
}
