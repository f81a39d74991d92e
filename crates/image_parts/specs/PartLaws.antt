-- What holds of the parts of an image. This is the project's own player.
use Rattle.std.specs.Prelude.{◌≡◌, ◌≢◌, ℕ, ◌+◌, ◌≤◌, ◌||◌, Bool, false, if◌then◌else◌, length, sum_by}
use Rattle.std.specs.List.{range_with_len}
use Rattle.play_model.specs.declared.options.Options.{Options}
use Rattle.asked_numbers.specs.declared.range.NumberRange.{NumberRange}
use Rattle.packed_form.specs.declared.packed_songs.PackedSong.{PackedSong}
use Rattle.packed_form.specs.Sizes.{packed_song_size}
use Rattle.packed_form.specs.CodeBounds.{code_bound}
use Rattle.scope_lines.specs.Readings.{holds_in}
use Rattle.player_memory.specs.declared.conditions.TheConstants.{PULSE_TABLE, SET_VOLUME, EFFECTS, OWN_TIMER, OWN_WAVE}
use Rattle.player_memory.specs.declared.conditions.TheConstants.{FUNK_TEMPO, VOICE_TWO, VOICE_THREE}
use Rattle.kept_lines.specs.Starts.{start_of}
use Rattle.kept_lines.specs.KeptLines.{keeps, kept_set}
use Rattle.variable_places.specs.Places.{variable_count}
use Rattle.player_code.specs.CodeLaws.{code_takes}
use Rattle.image_parts.specs.CodeParts.{always, code_parts, part_length, code_length}
use Rattle.image_parts.specs.Lengths.{slide_bytes, shared_bytes, frequency_bytes, image_length}

-- there are as many as the code has bytes
abbrev pub CodeTakesItsParts : Type 0
CodeTakesItsParts =
    (asked : ℕ) (o : Options) →
    length (code_parts asked o)
    ≡ code_takes (holds_in (kept_set asked o)) (start_of o) (variable_count (holds_in (kept_set asked o)))

-- the code is the part that each image has and the 61 others
abbrev pub PartsAddUp : Type 0
PartsAddUp =
    (asked : ℕ) (o : Options) →
    code_length asked o ≡ part_length asked o always + sum_by (part_length asked o) (range_with_len 0 61)

-- a part whose condition doesn't hold has no bytes
abbrev pub UnkeptPartsHaveNone : Type 0
UnkeptPartsHaveNone =
    (asked : ℕ) (o : Options) (part : ℕ) → part ≢ always → keeps asked o part ≡ false →
    part_length asked o part ≡ 0

-- no part is longer than this
pub record AreShort (asked : ℕ) (o : Options) : Type 0 where
  pub parts : (part : ℕ) → part ≢ always → part_length asked o part ≤ 320
  pub rest : part_length asked o always ≤ 3072

abbrev pub PartsAreShort : Type 0
PartsAreShort = (asked : ℕ) (o : Options) → AreShort asked o

-- what stands in the place of lines that aren't kept: two bytes where no pulse program runs, two where no command sets
-- the volume, three where no effect runs, six where no two instruments differ in their gateoff timers, three where none
-- do in their first waveforms, and six where the first channel alone has something to play and the voices take no turns
-- between two tempos
abbrev pub in_place : (ℕ → Bool) → ℕ
in_place holds =
    (if holds PULSE_TABLE then 0 else 2) + (if holds SET_VOLUME then 0 else 2) + (if holds EFFECTS then 0 else 3)
    + (if holds OWN_TIMER then 0 else 6) + (if holds OWN_WAVE then 0 else 3)
    + (if holds FUNK_TEMPO || holds VOICE_TWO || holds VOICE_THREE then 0 else 6)

-- the part that each image has is these, the variables, and 376 bytes with the zeros
abbrev pub RestIsExact : Type 0
RestIsExact =
    (asked : ℕ) (o : Options) →
    part_length asked o always
    ≡ 376 + variable_count (holds_in (kept_set asked o)) + in_place (holds_in (kept_set asked o))

-- So it has no fewer than where the volume is set, instruments differ in their gateoff timers and in their first
-- waveforms, a second channel has something to play, and nothing else is asked for; and no more than where all is but
-- these, a third channel and turns between two tempos.
pub record RestIsWithin (asked : ℕ) (o : Options) : Type 0 where
  pub from : 443 ≤ part_length asked o always
  pub to : part_length asked o always ≤ 502

abbrev pub RestIsBounded : Type 0
RestIsBounded = (asked : ℕ) (o : Options) → RestIsWithin asked o

-- the code with the zeros takes at most what it does where all parts are kept but that for a first instrument that
-- holds more before its notes than another: in its place stand two bytes more
abbrev pub CodeIsShort : Type 0
CodeIsShort = (asked : ℕ) (o : Options) → code_length asked o ≤ 1669

-- an image is within the bound of a packed song and its player: the code with what stands alone for all instruments,
-- with the slides, of 255 rows at most, and with the frequencies, up to that of number 128 at most, is within the
-- player's, whichever features that is for
abbrev pub CodeIsBounded : Type 0
CodeIsBounded =
    (asked features rows size : ℕ) (range : NumberRange) (o : Options) → rows ≤ 255 → range.first + range.count ≤ 129 →
    shared_bytes asked + slide_bytes asked rows + frequency_bytes range size + code_length asked o
    ≤ code_bound features o

abbrev pub ImagesAreBounded : Type 0
ImagesAreBounded =
    (packed : PackedSong) (o : Options) → length packed.speed ≤ 255 →
    image_length packed o ≤ packed_song_size packed + code_bound packed.features.0 o
