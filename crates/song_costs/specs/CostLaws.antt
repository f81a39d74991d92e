-- What a reader may rely on in the costs of a song.
use Rattle.std.specs.Prelude.{◌≡◌, ℕ, ◌+◌, List, length, filter, sum_by}
use Rattle.std.specs.List.{range_with_len}
use Rattle.song_model.specs.declared.tables.TableName.TheVariants.{Speed}
use Rattle.song_model.specs.declared.songs.Song.{Song}
use Rattle.play_model.specs.declared.options.Options.{Options}
use Rattle.asked_numbers.specs.declared.range.NumberRange.{NumberRange}
use Rattle.packing_rules.specs.UsedSets.{UsedSets}
use Rattle.packing_rules.specs.Renumbering.{speed_rows}
use Rattle.kept_lines.specs.KeptLines.{keeps}
use Rattle.image_parts.specs.CodeParts.{always, part_length, code_length}
use Rattle.image_parts.specs.Lengths.{slide_bytes, frequency_bytes}
use Rattle.song_costs.specs.Kinds.{read_data, costs_of, data_bytes, all_bytes}
use Rattle.song_costs.specs.declared.kept.TheConstants.{PARTS}
use Rattle.song_costs.specs.declared.kept.PartCost.{PartCost}
use Rattle.song_costs.specs.Kept.{AreKeptParts}

-- what is read of the packed data of a song, its slides, and its frequencies with the gap in front of them
abbrev pub song_size : Song → UsedSets → ℕ → NumberRange → ℕ
song_size song used asked range =
    read_data song used asked + slide_bytes asked (length (speed_rows song (used.pointers Speed)))
    + frequency_bytes range (read_data song used asked)

-- the eight kinds of data add up to these, and with the player to the length of an image
abbrev pub CostsAddUp : Type 0
CostsAddUp = (song : Song) (used : UsedSets) (asked : ℕ) (range : NumberRange) (options : Options) →
    (data_bytes (costs_of song used asked range options) ≡ song_size song used asked range)
    × (all_bytes (costs_of song used asked range options) ≡ song_size song used asked range + code_length asked options)

-- the player is the part that each image has and the others that are kept
abbrev pub PartsAddUp : Type 0
PartsAddUp = (asked : ℕ) (options : Options) →
    code_length asked options
    ≡ part_length asked options always
    + sum_by (part_length asked options) (filter (keeps asked options) (range_with_len 0 PARTS))

-- so it is the part that each image has and those that are told
abbrev pub KeptPartsAddUp : Type 0
KeptPartsAddUp = (song : Song) (asked : ℕ) (options : Options) (costs : List PartCost) →
    AreKeptParts song asked options costs →
    code_length asked options ≡ part_length asked options always + sum_by (λ cost. cost.bytes) costs

-- which are told, and how, is the song's
abbrev pub KeptPartsAreOne : Type 0
KeptPartsAreOne = (song : Song) (asked : ℕ) (options : Options) (one other : List PartCost) →
    AreKeptParts song asked options one → AreKeptParts song asked options other → one ≡ other
