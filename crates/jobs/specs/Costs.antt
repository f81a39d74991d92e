-- The lines that tell what a song costs when it is packed, and why.
use Rattle.std.specs.Prelude.{◌≡◌, ℕ, List, [], ◌∷◌, ◌++◌, map, get_or, codes, decimal}
use Rattle.song_model.specs.declared.songs.Song.{Song}
use Rattle.play_model.specs.declared.options.Options.{Options}
use Rattle.asked_numbers.specs.declared.range.NumberRange.{NumberRange}
use Rattle.asked_numbers.specs.Range.{IsNumberRange}
use Rattle.packing_rules.specs.UsedSets.{UsedSets, AreUsedSets}
use Rattle.cut_pack.specs.Chosen.{IsPackedFor}
use Rattle.kept_lines.specs.Asked.{Asks}
use Rattle.song_costs.specs.declared.costs.Costs.{Costs}
use Rattle.song_places.specs.declared.places.Place.{Place}
use Rattle.song_places.specs.declared.places.Place.TheVariants.{InOrder, InPattern, InInstrument, InWaveTable}
use Rattle.song_costs.specs.declared.kept.TheConstants.{PART_NAMES}
use Rattle.song_costs.specs.declared.kept.Cause.{Cause}
use Rattle.song_costs.specs.declared.kept.Cause.TheVariants.{InSong, SkipOption, SpeedOption}
use Rattle.song_costs.specs.declared.kept.PartCost.{PartCost}
use Rattle.song_costs.specs.Kinds.{costs_of, all_bytes}
use Rattle.song_costs.specs.Kept.{AreKeptParts}
use Rattle.command_line.specs.Lines.{line, byte_digits}

-- ---- bytes by kind

abbrev pub kind_line : List ℕ → ℕ → List ℕ
kind_line name bytes = line (name ∷ codes " " ∷ decimal bytes ∷ codes " bytes" ∷ [])

-- and their sum, the length of the image
abbrev pub kind_lines : Costs → List (List ℕ)
kind_lines costs = kind_line (codes "player") costs.player ∷ kind_line (codes "orderlists") costs.orders
    ∷ kind_line (codes "patterns") costs.patterns ∷ kind_line (codes "instruments") costs.instruments
    ∷ kind_line (codes "wave table") costs.wave ∷ kind_line (codes "pulse table") costs.pulse
    ∷ kind_line (codes "filter table") costs.filter ∷ kind_line (codes "speed table") costs.speed
    ∷ kind_line (codes "frequencies") costs.frequencies ∷ kind_line (codes "image") (all_bytes costs) ∷ []

-- ---- parts of the player

-- subtunes and channels in decimal, and as the editor counts it the rest in hexadecimal
abbrev pub place_words : Place → List (List ℕ)
place_words (InOrder subtune channel place) =
    codes "subtune " ∷ decimal subtune ∷ codes " channel " ∷ decimal channel ∷ codes " place "
    ∷ byte_digits place ∷ []
place_words (InPattern pattern row) = codes "pattern " ∷ byte_digits pattern ∷ codes " row " ∷ byte_digits row ∷ []
place_words (InInstrument instrument) = codes "instrument " ∷ byte_digits instrument ∷ []
place_words (InWaveTable row) = codes "wave row " ∷ byte_digits row ∷ []

-- the place that needs a part, or the word that asks for it
abbrev pub cause_words : Cause → List (List ℕ)
cause_words (InSong place) = place_words place
cause_words SkipOption = codes "SKIP" ∷ []
cause_words SpeedOption = codes "SPEED" ∷ []

abbrev pub part_name : ℕ → List ℕ
part_name part = get_or (map (λ name. name.now) PART_NAMES) part []

-- of a part, with its cause in these words
abbrev pub cost_line : ℕ → ℕ → List (List ℕ) → List ℕ
cost_line part bytes words = line (part_name part ∷ codes " " ∷ decimal bytes ∷ codes " bytes, " ∷ words)

abbrev pub part_line : PartCost → List ℕ
part_line cost = cost_line cost.part cost.bytes (cause_words cost.cause)

-- ---- the whole

-- of a song, played with these options: the bytes of each kind are those of the song that is packed for it, and the places
-- that want the player's parts are those of the song itself
pub record TellCosts (song : Song) (options : Options) (lines : List (List ℕ)) : Type 0 where
  pub chosen : Song
  pub is_for : IsPackedFor options song chosen
  pub used : UsedSets
  pub are_used : AreUsedSets chosen used
  pub asked : ℕ
  pub asks : Asks chosen asked
  pub numbers : NumberRange
  pub are_numbers : IsNumberRange chosen numbers
  pub parts : List PartCost
  pub are_parts : AreKeptParts song asked options parts
  pub lines_are : lines ≡ kind_lines (costs_of chosen used asked numbers options) ++ map part_line parts
