-- What the bytes of the player's memory say of a voice that is playing, and what a block of its code leaves.
use Rattle.std.specs.Prelude.{◌≡◌, ◌≢◌, ℕ, ◌+◌, ◌*◌, ◌%◌, ◌<◌, ◌≤◌, true, false}
use Rattle.std.specs.Prelude.{List, [], ◌∷◌, slice_index}
use Rattle.cpu6502.specs.declared.memory.TheConstants.{MEMORY_SIZE}
use Rattle.song_model.specs.declared.tables.TableRow.{TableRow}
use Rattle.play_model.specs.State.{Voice, Playing, Common}
use Rattle.play_model.specs.TickStep.{tempo_of}
use Rattle.scopes.specs.Desk.{Desk, Layout}
use Rattle.scopes.specs.Meaning.{Ran, Done}
use Rattle.player_memory.specs.declared.conditions.TheConstants.{NOTE_DEPENDENT}
use Rattle.player_memory.specs.declared.labels.TheConstants.{TEMPO, LENT, KEPT_COMMAND, KEPT_PARAM}
use Rattle.player_memory.specs.declared.labels.TheConstants.{SLIDES_LOW, SLIDES_HIGH}
use Rattle.player_memory.specs.declared.variables.TheConstants.{SONG_BYTES}
use Rattle.player_memory.specs.Labels.{is_own}
use Rattle.player_memory.specs.Rooms.{IsElsewhere}
use Rattle.player_memory.specs.Variables.{VoiceBytesStand, CommonBytesStand}

-- ---- bytes

-- a voice's bytes by their labels, and those that no voice owns
abbrev pub own_at : Layout → (ℕ → ℕ) → ℕ → ℕ → ℕ
own_at layout at voice label = at (layout.address (label + 7 * voice))

abbrev pub shared_at : Layout → (ℕ → ℕ) → ℕ → ℕ
shared_at layout at label = at (layout.address label)

-- the place of a list's byte by its number
abbrev pub place_in : Layout → ℕ → ℕ → ℕ
place_in layout label number = (layout.address label + number) % MEMORY_SIZE

-- a list has a byte there, which the code may read and leaves
pub record IsListed (layout : Layout) (rows : ℕ) (at : ℕ → ℕ) (label number byte : ℕ) : Type 0 where
  pub elsewhere : IsElsewhere layout rows (place_in layout label number)
  pub reads : layout.may_read (place_in layout label number) ≡ true
  pub is : at (place_in layout label number) ≡ byte

-- a byte stands alone under a label, which the code may read and leaves
pub record IsAlone (layout : Layout) (rows : ℕ) (at : ℕ → ℕ) (label byte : ℕ) : Type 0 where
  pub elsewhere : IsElsewhere layout rows (layout.address label)
  pub reads : layout.may_read (layout.address label) ≡ true
  pub is : at (layout.address label) ≡ byte

-- a row of a table stands in two lists, one of left sides and one of right sides, each under the label of the byte
-- before its first row
pub record IsRow (layout : Layout) (rows : ℕ) (at : ℕ → ℕ) (lefts rights number : ℕ) (row : TableRow) : Type 0 where
  pub left : IsListed layout rows at lefts number row.left
  pub right : IsListed layout rows at rights number row.right
  pub left_byte : row.left < 256
  pub right_byte : row.right < 256

-- the first rows of a table do, so many of them that a byte has each one's number
pub record IsTable (layout : Layout) (rows : ℕ) (at : ℕ → ℕ) (lefts rights count : ℕ) (row : ℕ → TableRow) : Type 0
  where
    pub few : count < 256
    pub each : (number : ℕ) → 1 ≤ number → number ≤ count → IsRow layout rows at lefts rights number (row number)

-- ---- a voice

-- the bytes hold a voice's state and that which the voices share, each under its row's condition; and each voice's tempo
pub record IsPlaying (layout : Layout) (voice : ℕ) (s : Playing) (at : ℕ → ℕ) : Type 0 where
  pub own : VoiceBytesStand layout.holds s.voice (tempo_of (voice + 1) s.common) (own_at layout at voice)
  pub common : CommonBytesStand layout.holds s.common (shared_at layout at)
  pub tempos : (its : ℕ) → its < 3 → own_at layout at its TEMPO ≡ tempo_of (its + 1) s.common

-- with this voice
abbrev pub with_voice : Voice → Playing → Playing
with_voice v s = record s { voice = v }

-- the desk at a block of a voice: the decimal flag is clear, and X is 7 times the voice's number
pub record IsAtVoice (voice : ℕ) (desk : Desk) : Type 0 where
  pub x : desk.cpu.x ≡ 7 * voice
  pub decimal : desk.cpu.d ≡ false

-- ---- blocks

-- each of these bytes of a voice is as before
abbrev pub AreSame : List ℕ → (ℕ → ℕ) → (ℕ → ℕ) → Type 0
AreSame [] one two = Unit {0}
AreSame (label ∷ labels) one two = (one label ≡ two label) × AreSame labels one two

-- where a run has come to, as a block's end
abbrev pub there : Ran → Ran
there run = record run { outcome = Done }

-- these bytes of the slides are as before
pub record SlidesStay (layout : Layout) (row : ℕ) (one two : ℕ → ℕ) : Type 0 where
  pub low : one (layout.address SLIDES_LOW + row) ≡ two (layout.address SLIDES_LOW + row)
  pub high : one (layout.address SLIDES_HIGH + row) ≡ two (layout.address SLIDES_HIGH + row)

-- all of the slides are, where the code for calculated speeds is kept
abbrev pub AllSlidesStay : Layout → ℕ → (ℕ → ℕ) → (ℕ → ℕ) → Type 0
AllSlidesStay layout rows one two =
    layout.holds NOTE_DEPENDENT ≡ true → (row : ℕ) → row < rows → SlidesStay layout row one two

-- the other voices, but for their tempos, the registers, and what is elsewhere are as before
pub record OthersStay (layout : Layout) (rows voice : ℕ) (before after : ℕ → ℕ) : Type 0 where
  pub others : (its label : ℕ) → its < 3 → its ≢ voice → is_own label ≡ true → label ≢ TEMPO →
      own_at layout after its label ≡ own_at layout before its label
  pub registers : (register : ℕ) → register ≤ 24 → after (0xD400 + register) ≡ before (0xD400 + register)
  pub elsewhere : (place : ℕ) → IsElsewhere layout rows place → after place ≡ before place

-- A block has come to its end with a voice in this state. It has left where the voice is in its song, whether a command
-- is lent, the voice's own one meanwhile, the other voices, the registers, and what is elsewhere.
pub record PlaysButSlides (layout : Layout) (rows voice : ℕ) (before : Desk) (run : Ran) (s : Playing) : Type 0 where
  pub ends : run.outcome ≡ Done
  pub at_voice : IsAtVoice voice run.desk
  pub plays : IsPlaying layout voice s run.desk.at
  pub song : AreSame SONG_BYTES (own_at layout run.desk.at voice) (own_at layout before.at voice)
  pub lent : shared_at layout run.desk.at LENT ≡ shared_at layout before.at LENT
  pub kept : shared_at layout before.at LENT ≢ 0 →
      AreSame (KEPT_COMMAND ∷ KEPT_PARAM ∷ []) (shared_at layout run.desk.at) (shared_at layout before.at)
  pub stays : OthersStay layout rows voice before.at run.desk.at

-- and it has left the slides
pub record Plays (layout : Layout) (rows voice : ℕ) (before : Desk) (run : Ran) (s : Playing) : Type 0 where
  pub but_slides : PlaysButSlides layout rows voice before run s
  pub slides : AllSlidesStay layout rows run.desk.at before.at

-- A block that no voice owns has come to its end with what the voices share in this state, and with these four bytes in
-- the registers from 21 on. It has left each voice's bytes, what is lent, the other registers, the slides, and what is
-- elsewhere.
pub record PlaysShared (layout : Layout) (rows : ℕ) (before : Desk) (run : Ran) (c : Common) (bytes : List ℕ)
    : Type 0 where
  pub ends : run.outcome ≡ Done
  pub decimal : run.desk.cpu.d ≡ false
  pub common : CommonBytesStand layout.holds c (shared_at layout run.desk.at)
  pub last : (number : ℕ) → number < 4 → run.desk.at (0xD400 + (21 + number)) ≡ slice_index bytes number
  pub lent : AreSame (LENT ∷ KEPT_COMMAND ∷ KEPT_PARAM ∷ []) (shared_at layout run.desk.at) (shared_at layout before.at)
  pub voices : (voice label : ℕ) → voice < 3 → is_own label ≡ true →
      own_at layout run.desk.at voice label ≡ own_at layout before.at voice label
  pub registers : (register : ℕ) → register < 21 → run.desk.at (0xD400 + register) ≡ before.at (0xD400 + register)
  pub slides : AllSlidesStay layout rows run.desk.at before.at
  pub elsewhere : (place : ℕ) → IsElsewhere layout rows place → run.desk.at place ≡ before.at place
