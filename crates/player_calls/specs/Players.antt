-- A player in an image: what is asked of its listing, and of what stands in it. This is the project's own player.
use Rattle.std.specs.Prelude.{◌≡◌, ℕ, ◌+◌, ◌<◌, ◌≤◌, ◌⊎◌, Bool, true, List, length, nat_lt, IsBitSet}
use Rattle.song_model.specs.declared.features.Feature.{Feature}
use Rattle.song_model.specs.declared.songs.Song.{Song}
use Rattle.song_model.specs.Feature.{bit_of}
use Rattle.play_model.specs.declared.options.Options.{Options}
use Rattle.play_model.specs.Speeds.{IsSpeed}
use Rattle.packed_form.specs.declared.packed_songs.PackedSong.{PackedSong}
use Rattle.packed_form.specs.StandsFor.{StandsFor}
use Rattle.asm6502.specs.Assembly.{assembled_bytes}
use Rattle.asm6502.specs.Stretches.{HasBytes}
use Rattle.player_memory.specs.declared.conditions.TheConstants.{NOTE_DEPENDENT, TIMED}
use Rattle.player_memory.specs.declared.labels.TheConstants.{VARIABLES, FIRST_CLEARED, SLIDES_LOW, SLIDES_HIGH}
use Rattle.player_memory.specs.FactLines.{KeepsMarked, KeepsMarkedAlone, KeepsShared}
use Rattle.player_memory.specs.Playing.{place_in}
use Rattle.player_memory.specs.SongLists.{SongList, IsSongList, HasNumber, HasSongLists, list_label, slide_rows}
use Rattle.player_memory.specs.Holds.{IsPlayerLayout, order_label}
use Rattle.player_memory.specs.Starting.{Begins}
use Rattle.variable_places.specs.Places.{has_byte}
use Rattle.slide_code.specs.SlideBlock.{KeepsCommon}
use Rattle.voice_code.specs.VoiceBlock.{KeepsOptions}
use Rattle.init_code.specs.InitBlock.{MaySetTimer}
use Rattle.kept_lines.specs.Starts.{start_of}
use Rattle.frame_scenes.specs.FrameScenes.{KeepsPatternLimits}
use Rattle.player_code.specs.Plans.{Plan, IsPlan, plan_lines, plan_size, code_size, plan_layout}
use Rattle.player_calls.specs.WideLayouts.{wide_layout, with_zeros}

-- ---- places

-- a place of the variables, and one of the lists behind the code
pub record IsVariable (plan : Plan) (place : ℕ) : Type 0 where
  pub from : plan.origin + 6 ≤ place
  pub to : place < plan.origin + (6 + length plan.variables)

pub record IsOfLists (plan : Plan) (place : ℕ) : Type 0 where
  pub from : plan.origin + code_size plan ≤ place
  pub to : place < plan.origin + plan_size plan

-- where the blocks may write: the variables, the lists, the registers, and the timer where it is set
pub data MayBeWritten (plan : Plan) (place : ℕ) : Type 0 where
  AtVariable : IsVariable plan place → MayBeWritten plan place
  InLists : IsOfLists plan place → MayBeWritten plan place
  AtRegister : 0xD400 ≤ place → place ≤ 0xD418 → MayBeWritten plan place
  AtTimer : plan.holds TIMED ≡ true → (place ≡ 0xDC04) ⊎ (place ≡ 0xDC05) → MayBeWritten plan place

-- the slides of a row are among the lists
pub record HasSlideInside (plan : Plan) (which : Bool) (row : ℕ) : Type 0 where
  pub low : IsOfLists plan ((wide_layout plan which).address SLIDES_LOW + row)
  pub high : IsOfLists plan ((wide_layout plan which).address SLIDES_HIGH + row)

-- ---- the image

-- a memory has the listing's bytes
abbrev pub HasImage : Plan → (ℕ → ℕ) → Type 0
HasImage plan at = HasBytes at plan.origin 0 (plan_size plan) (assembled_bytes 0 plan.origin (plan_lines plan))

-- ---- a player

-- The bytes are the plan's listing, which stands from $0800 up to $D000. The packed song stands for a song, and has at
-- most 85 subtunes. The lines are kept of its features and facts and of no other facts, of what they have in common,
-- and of the options. The variables that aren't cleared have the first bytes, and the others stand behind them. The
-- blocks may read the variables and the lists, and write where they must. The song's lists are among the lists of the
-- listing. In each memory with its bytes they stand, and the variables begin as the first subtune does, those without
-- a byte in the image by their spare zeros.
pub record IsPlayer (plan : Plan) (packed : PackedSong) (song : Song) (o : Options) (bytes : List ℕ) : Type 0 where
  pub is : IsPlan plan
  pub are : bytes ≡ assembled_bytes 0 plan.origin (plan_lines plan)
  pub size : length bytes ≡ plan_size plan
  pub begins : 0x0800 ≤ plan.origin
  pub ends : plan.origin + plan_size plan ≤ 0xD000
  pub stands : StandsFor packed song
  pub short : KeepsPatternLimits packed
  pub subtunes : length packed.subtunes ≤ 85
  pub speed : IsSpeed o.speed
  pub start : plan.start ≡ start_of o
  pub features : (feature : Feature) → IsBitSet packed.features.0 (bit_of feature) → plan.holds (bit_of feature) ≡ true
  pub facts : KeepsMarked (plan_layout plan) packed.facts
  pub alone : KeepsMarkedAlone (plan_layout plan) packed.facts
  pub shared : (which : Bool) → KeepsShared (wide_layout plan which)
  pub common : (which : Bool) → KeepsCommon (wide_layout plan which)
  pub options : (which : Bool) → KeepsOptions (wide_layout plan which) o
  pub timed : plan.holds TIMED ≡ nat_lt 1 o.speed
  pub laid : (which : Bool) → IsPlayerLayout (wide_layout plan which) packed
  pub first : (label : ℕ) → label ≤ FIRST_CLEARED → plan.places label ≡ label
  pub behind : (label : ℕ) → FIRST_CLEARED ≤ label → label < VARIABLES → has_byte plan.holds label ≡ true →
      FIRST_CLEARED ≤ plan.places label
  pub timer : (which : Bool) → MaySetTimer (wide_layout plan which)
  pub reads_variables : (place : ℕ) → IsVariable plan place → plan.may_read place ≡ true
  pub reads_lists : (place : ℕ) → IsOfLists plan place → plan.may_read place ≡ true
  pub reads : (place : ℕ) → plan.may_read place ≡ true → IsVariable plan place ⊎ IsOfLists plan place
  pub writes_variables : (place : ℕ) → IsVariable plan place → plan.may_write place ≡ true
  pub writes : (place : ℕ) → plan.may_write place ≡ true → MayBeWritten plan place
  pub inside : (which : Bool) (list : SongList) (number : ℕ) → IsSongList (wide_layout plan which) packed list →
      HasNumber packed list number → IsOfLists plan (place_in (wide_layout plan which) (list_label list) number)
  pub slides : (which : Bool) → plan.holds NOTE_DEPENDENT ≡ true → (row : ℕ) → row < slide_rows packed →
      HasSlideInside plan which row
  pub lists : (which : Bool) (at : ℕ → ℕ) → HasImage plan at → HasSongLists (wide_layout plan which) packed at
  pub variables : (which : Bool) (at : ℕ → ℕ) → HasImage plan at →
      Begins (wide_layout plan which) (start_of o).tempo (start_of o).funk
      (λ voice. (wide_layout plan which).address (order_label 0 voice)) (with_zeros which at)
