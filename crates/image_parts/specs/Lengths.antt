-- How many bytes an image takes. This is the project's own player.
use Rattle.std.specs.Prelude.{ℕ, ◌+◌, ◌-◌, ◌*◌, if◌then◌else◌, not, ◌&&◌, ◌||◌, List, length}
use Rattle.play_model.specs.declared.options.Options.{Options}
use Rattle.asked_numbers.specs.declared.range.NumberRange.{NumberRange}
use Rattle.packed_form.specs.declared.packed_songs.PackedSong.{PackedSong}
use Rattle.packed_form.specs.Sizes.{packed_song_size}
use Rattle.player_memory.specs.declared.conditions.TheConstants.{NOTE_DEPENDENT, NOTE_PULSE, NOTE_FILTER}
use Rattle.player_memory.specs.declared.conditions.TheConstants.{NOTE_VIBRATO, VIBRATO_DELAY, LEGATO, NO_HARD_RESTART}
use Rattle.player_memory.specs.declared.conditions.TheConstants.{OWN_TIMER, OWN_WAVE, SUBTUNES, FIRST_HOLDS}
use Rattle.player_memory.specs.Gaps.{gap_in}
use Rattle.kept_lines.specs.Asked.{is_in, asked_by}
use Rattle.image_parts.specs.CodeParts.{zero_bytes, length_of, code_parts}

-- where a song has calculated speeds its slides and periods stand in three lists, each with a byte for each row of the
-- speed table and for row 0
abbrev pub slide_bytes : ℕ → ℕ → ℕ
slide_bytes asked rows = if is_in asked NOTE_DEPENDENT then 3 * (rows + 1) else 0

-- Of so many instruments these bytes aren't read, and stand nowhere: of each of them the pulse program, the filter
-- program, the vibrato and its delay, where no instrument that the song uses has one; the gateoff timer, where no two
-- differ in it, and the first holds no more before its notes than another; and the first waveform, where no two differ
-- in that.
abbrev pub unread_of : ℕ → ℕ → ℕ → ℕ
unread_of asked condition instruments = if is_in asked condition then 0 else instruments

abbrev pub unread_timers : ℕ → ℕ → ℕ
unread_timers asked instruments =
    if is_in asked OWN_TIMER || is_in asked FIRST_HOLDS then 0 else instruments

abbrev pub unread_bytes : ℕ → ℕ → ℕ
unread_bytes asked instruments =
    unread_of asked NOTE_PULSE instruments + unread_of asked NOTE_FILTER instruments
    + unread_of asked NOTE_VIBRATO instruments + unread_of asked VIBRATO_DELAY instruments
    + unread_timers asked instruments + unread_of asked OWN_WAVE instruments

-- and these stand alone for all of them: a gateoff timer and a first waveform, each where no two differ in theirs; and,
-- where the first holds no more than another, the number from which on they hold the gate where one does, and that from
-- which on they hold the envelope where one holds this alone
abbrev pub number_bytes : ℕ → ℕ → ℕ
number_bytes asked condition = if is_in asked condition && not (is_in asked FIRST_HOLDS) then 1 else 0

abbrev pub shared_bytes : ℕ → ℕ
shared_bytes asked =
    (if is_in asked OWN_TIMER then 0 else 1) + (if is_in asked OWN_WAVE then 0 else 1)
    + number_bytes asked LEGATO + number_bytes asked NO_HARD_RESTART

-- the addresses of the orderlists stand nowhere where there is one subtune alone: its voices begin with them
abbrev pub unlisted_bytes : ℕ → ℕ → ℕ
unlisted_bytes asked subtunes = if is_in asked SUBTUNES then 0 else 6 * subtunes

-- what is read of a packed song of so many instruments, subtunes and bytes, with what stands alone for all instruments
abbrev pub read_bytes : ℕ → ℕ → ℕ → ℕ → ℕ
read_bytes asked instruments subtunes size =
    size + shared_bytes asked - (unread_bytes asked instruments + unlisted_bytes asked subtunes)

-- The frequencies of a range of numbers have two bytes each. In front of them stand the two zeros, so many bytes that
-- are read of the packed song, and the zeros that fill the gap.
abbrev pub frequency_bytes : NumberRange → ℕ → ℕ
frequency_bytes range read = gap_in range (zero_bytes + read) + 2 * range.count

-- the bytes that are read, those of the slides, those of the frequencies with their gap, and those of the code with the
-- two zeros
abbrev pub sum_of_image : (read slides : ℕ) → NumberRange → ℕ → ℕ
sum_of_image read slides range code = read + slides + frequency_bytes range read + code

-- what is read of a packed song
abbrev pub read_of : PackedSong → ℕ
read_of packed =
    read_bytes (asked_by packed) (length packed.instruments) (length packed.subtunes) (packed_song_size packed)

-- so many has the image of a packed song whose code's bytes have these parts
abbrev pub bytes_of_image : PackedSong → List ℕ → ℕ
bytes_of_image packed code =
    sum_of_image (read_of packed) (slide_bytes (asked_by packed) (length packed.speed)) packed.numbers (length_of code)

-- those of the image of a packed song, for options
abbrev pub image_length : PackedSong → Options → ℕ
image_length packed o = bytes_of_image packed (code_parts (asked_by packed) o)
