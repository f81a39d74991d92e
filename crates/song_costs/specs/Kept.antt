-- The parts of the player that are kept for what a song asks for and its options, each with its bytes and the reason
-- for it. A part is a condition: 0 to 23 are the features of a song, 24 to 27 the options, 28 to 33 what several features
-- have in common, 34 to 55 the song's facts, and 56 to 60 what several facts or features have in common. This is the
-- project's own player.
use Rattle.std.specs.Prelude.{◌≡◌, ◌≢◌, ℕ, Bool, true, not, ◌&&◌, ◌==◌, ◌⊎◌, List, map, filter, All}
use Rattle.std.specs.List.{range_with_len}
use Rattle.song_model.specs.declared.songs.Song.{Song}
use Rattle.play_model.specs.declared.options.Options.{Options}
use Rattle.player_memory.specs.declared.conditions.TheConstants.{SKIP_EFFECTS, SKIP_PULSE, TIMED, SKIP_FIRST}
use Rattle.kept_lines.specs.KeptLines.{keeps}
use Rattle.image_parts.specs.CodeParts.{part_length}
use Rattle.song_costs.specs.declared.kept.TheConstants.{PARTS}
use Rattle.song_costs.specs.declared.kept.Cause.{Cause}
use Rattle.song_costs.specs.declared.kept.Cause.TheVariants.{InSong, SkipOption, SpeedOption}
use Rattle.song_costs.specs.declared.kept.PartCost.{PartCost}
use Rattle.song_places.specs.PartPlaces.{IsPartPlace}

-- ---- why

-- a part is kept for this: one of features or facts for a place of the song, the others for their options
abbrev pub IsCause : Song → ℕ → Cause → Type 0
IsCause song part (InSong place) = IsPartPlace song part place
IsCause song part SkipOption = (part ≡ SKIP_EFFECTS) ⊎ (part ≡ SKIP_PULSE) ⊎ (part ≡ SKIP_FIRST)
IsCause song part SpeedOption = part ≡ TIMED

-- ---- what is told

-- a part is told where it is kept and has bytes
abbrev pub is_told : ℕ → Options → ℕ → Bool
is_told asked options part = keeps asked options part && not (part_length asked options part == 0)

-- what is told of such a part: its bytes and its cause
pub record IsPartCost (song : Song) (asked : ℕ) (options : Options) (cost : PartCost) : Type 0 where
  pub kept : keeps asked options cost.part ≡ true
  pub bytes : cost.bytes ≡ part_length asked options cost.part
  pub some : cost.bytes ≢ 0
  pub cause : IsCause song cost.part cost.cause

-- what is told of the parts below n, in their order
pub record AreKeptBelow (song : Song) (asked : ℕ) (options : Options) (n : ℕ) (costs : List PartCost) : Type 0 where
  pub parts : map (λ cost. cost.part) costs ≡ filter (is_told asked options) (range_with_len 0 n)
  pub each : All (IsPartCost song asked options) costs

-- of all parts
abbrev pub AreKeptParts : Song → ℕ → Options → List PartCost → Type 0
AreKeptParts song asked options costs = AreKeptBelow song asked options PARTS costs
