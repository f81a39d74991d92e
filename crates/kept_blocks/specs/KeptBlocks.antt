-- When a layout keeps what the player's blocks ask for, and that one with the set of a song and of options does. This is
-- the project's own player.
use Rattle.std.specs.Prelude.{◌≡◌, ℕ, true, nat_lt, IsBitSet}
use Rattle.song_model.specs.declared.features.Feature.{Feature}
use Rattle.song_model.specs.Feature.{bit_of}
use Rattle.song_facts.specs.declared.facts.Facts.{Facts}
use Rattle.play_model.specs.declared.options.Options.{Options}
use Rattle.scopes.specs.Desk.{Layout}
use Rattle.scope_lines.specs.Readings.{holds_in}
use Rattle.player_memory.specs.declared.conditions.TheConstants.{TIMED}
use Rattle.player_memory.specs.FactLines.{KeepsMarked, KeepsMarkedAlone, KeepsShared}
use Rattle.slide_code.specs.SlideBlock.{KeepsCommon}
use Rattle.voice_code.specs.VoiceBlock.{KeepsOptions}
use Rattle.kept_lines.specs.Asked.{asked}
use Rattle.kept_lines.specs.KeptLines.{kept_set}

-- a layout keeps the lines of each feature of a song, which stand under the feature's bit
abbrev pub KeepsFeatures : Layout → ℕ → Type 0
KeepsFeatures layout features =
    (feature : Feature) → IsBitSet features (bit_of feature) → layout.holds (bit_of feature) ≡ true

-- and those of its facts, and of no others; those of the options that are on, and of no others; those of what features
-- or facts have in common; and those that set the timer where there are several play calls in a picture
pub record KeepsLines (layout : Layout) (features : ℕ) (facts : Facts) (options : Options) : Type 0 where
  pub features_are : KeepsFeatures layout features
  pub facts_are : KeepsMarked layout facts
  pub facts_alone : KeepsMarkedAlone layout facts
  pub options_are : KeepsOptions layout options
  pub common : KeepsCommon layout
  pub shared : KeepsShared layout
  pub timer : layout.holds TIMED ≡ nat_lt 1 options.speed

-- so does a layout in which the conditions of the set hold
abbrev pub SetsKeepTheirLines : Type 0
SetsKeepTheirLines =
    (layout : Layout) (features : ℕ) (facts : Facts) (options : Options) →
    ((condition : ℕ) → layout.holds condition ≡ holds_in (kept_set (asked features facts) options) condition) →
    KeepsLines layout features facts options
