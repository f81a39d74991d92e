-- How many bytes a song takes in a packed file, kind by kind, by this project's own packed form. Patterns are counted
-- with two bytes each for their addresses, and so are orderlists, unless they are those of one subtune alone; the speed
-- table with the lists of slides and periods that a song with calculated speeds has, the frequencies with the gap in
-- front of them, the player with the zeros in front of the speed table's sides, and of the instruments the bytes that
-- are read, with those that stand for all.
use Rattle.std.specs.Prelude.{ℕ, ◌+◌, ◌-◌, ◌*◌, length, sum_by, count_by}
use Rattle.std.specs.Str.{bytes_eq}
use Rattle.song_model.specs.declared.instruments.TheConstants.{MOST_INSTRUMENTS}
use Rattle.song_model.specs.declared.tables.TableName.TheVariants.{Speed}
use Rattle.song_model.specs.declared.songs.Song.{Song}
use Rattle.song_model.specs.LookUp.{playable_subtunes}
use Rattle.play_model.specs.declared.options.Options.{Options}
use Rattle.asked_numbers.specs.declared.range.NumberRange.{NumberRange}
use Rattle.packed_form.specs.Sizes.{list_size}
use Rattle.packing_rules.specs.Segments.{numbers, keeps}
use Rattle.packing_rules.specs.UsedSets.{UsedSets}
use Rattle.packing_rules.specs.Renumbering.{first_seen, speed_rows, filter_programs, pulse_programs, wave_programs, pattern_texts}
use Rattle.packing_rules.specs.SongSizes.{orders_size, rows_size, packed_size}
use Rattle.image_parts.specs.CodeParts.{code_length}
use Rattle.image_parts.specs.Lengths.{slide_bytes, unread_bytes, unlisted_bytes, shared_bytes, frequency_bytes}
use Rattle.song_costs.specs.declared.costs.Costs.{Costs}

-- two bytes for each row of the speed table, and the slides
abbrev pub speed_bytes : ℕ → ℕ → ℕ
speed_bytes asked rows = 2 * rows + slide_bytes asked rows

-- how many instruments are used: each has nine bytes, of which six stand in an image only where one of them needs such
-- a byte, or two differ in it, or the first holds more before its notes than another; a gateoff timer and a first
-- waveform that are the same for all stand there once, and so do the numbers from which on they hold the gate and the
-- envelope
abbrev pub instrument_count : UsedSets → ℕ
instrument_count used = count_by used.instruments (numbers MOST_INSTRUMENTS)

-- how many subtunes can be played: each has three orderlists, with six bytes for their addresses, which stand in an
-- image only where there are several
abbrev pub subtune_count : Song → ℕ
subtune_count song = length (playable_subtunes song)

-- what is read of the packed song
abbrev pub read_data : Song → UsedSets → ℕ → ℕ
read_data song used asked =
    packed_size song used + shared_bytes asked
    - (unread_bytes asked (instrument_count used) + unlisted_bytes asked (subtune_count song))

-- Patterns with the same text are counted once, and so are programs that are equal. The song asks for this range of
-- frequencies.
abbrev pub costs_of : Song → UsedSets → ℕ → NumberRange → Options → Costs
costs_of song used asked range options = record {
  player = code_length asked options;
  orders = sum_by orders_size (playable_subtunes song) - unlisted_bytes asked (subtune_count song);
  patterns = sum_by list_size (first_seen bytes_eq (pattern_texts song used));
  instruments = 9 * instrument_count used + shared_bytes asked - unread_bytes asked (instrument_count used);
  wave = rows_size keeps (wave_programs song used);
  pulse = rows_size keeps (pulse_programs song used);
  filter = rows_size keeps (filter_programs song used);
  speed = speed_bytes asked (length (speed_rows song (used.pointers Speed)));
  frequencies = frequency_bytes range (read_data song used asked);
}

-- those of the song's data
abbrev pub data_bytes : Costs → ℕ
data_bytes costs =
    costs.orders + costs.patterns + costs.instruments + costs.wave + costs.pulse + costs.filter + costs.speed
    + costs.frequencies

-- and all
abbrev pub all_bytes : Costs → ℕ
all_bytes costs = costs.player + data_bytes costs
