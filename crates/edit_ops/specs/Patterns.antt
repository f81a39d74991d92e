-- Edits of patterns. Patterns, and the rows of a pattern, are counted from 0.
use Rattle.std.specs.Prelude.{ℕ, ◌+◌, ◌-◌, Bool, not, ◌&&◌, ◌||◌, ◌==◌, nat_le, nat_lt, List}
use Rattle.std.specs.Prelude.{length, slice_set, if◌then◌else◌}
use Rattle.std.specs.List.{list_any}
use Rattle.song_model.specs.declared.rows.Row.{Row}
use Rattle.song_model.specs.declared.songs.Song.{Song}
use Rattle.song_model.specs.LookUp.{pattern_at}

-- ---- places

abbrev pub lacks_pattern : Song → ℕ → Bool
lacks_pattern song pattern = nat_le (length song.patterns) pattern

-- no row stands at this place
abbrev pub lacks_row : Song → ℕ → ℕ → Bool
lacks_row song pattern place =
    lacks_pattern song pattern || nat_le (length (pattern_at song pattern)) place

-- no row can be put before this place; at the pattern's length it comes last
abbrev pub lacks_row_gap : Song → ℕ → ℕ → Bool
lacks_row_gap song pattern place =
    lacks_pattern song pattern || nat_lt (length (pattern_at song pattern)) place

-- ---- limits

abbrev pub has_rows : Song → ℕ → ℕ → Bool
has_rows song pattern n = length (pattern_at song pattern) == n

-- a pattern has 1 to 128 rows
abbrev pub is_no_length : ℕ → Bool
is_no_length n = n == 0 || nat_lt 128 n

-- ---- values

-- a note, rest, keyoff or keyon, an instrument and a command in their ranges; the end row isn't one
abbrev pub is_row : Row → Bool
is_row row =
    nat_le 0x60 row.note && nat_le row.note 0xBF && nat_le row.instrument 0x3F && nat_le row.command 0x0F

-- C-0 to G#7; rest, keyoff and keyon are none
abbrev pub is_note : ℕ → Bool
is_note note = nat_le 0x60 note && nat_le note 0xBC

-- a note with so many half tones added; a byte from $80 on stands for itself less 256. What would be below 0 is 0.
abbrev pub raised_by : ℕ → ℕ → ℕ
raised_by byte note = if nat_lt byte 0x80 then note + byte else note + byte - 256

-- the note would be none any more
abbrev pub leaves_range : ℕ → Row → Bool
leaves_range byte row = is_note row.note && not (is_note (raised_by byte row.note))

abbrev pub some_leaves_range : Song → ℕ → ℕ → Bool
some_leaves_range song pattern byte = list_any (leaves_range byte) (pattern_at song pattern)

-- ---- what is done

abbrev pub transposed : ℕ → Row → Row
transposed byte row =
    if is_note row.note then record row { note = raised_by byte row.note } else row

-- the song with these rows in place of the pattern's
abbrev pub with_pattern : Song → ℕ → List Row → Song
with_pattern song pattern rows = record song { patterns = slice_set song.patterns pattern rows }
