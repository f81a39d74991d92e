-- The code that fetches a row, and what it does. This is the project's own player.
use Rattle.std.specs.Prelude.{◌≡◌, ℕ, ◌<◌, ◌≤◌, ◌⊎◌, ◌↔◌, ◌&&◌, ◌||◌, Bool, true, false, List}
use Rattle.std.specs.Prelude.{length, All}
use Rattle.cpu6502.specs.declared.memory.TheConstants.{MEMORY_SIZE}
use Rattle.song_model.specs.declared.rows.Row.{Row}
use Rattle.song_model.specs.declared.orders.Order.{Order}
use Rattle.song_model.specs.declared.orders.TheConstants.{MOST_ENTRIES}
use Rattle.song_model.specs.LookUp.{pattern_row}
use Rattle.song_model.specs.Endless.{IsEndless}
use Rattle.song_model.specs.Walk.{played}
use Rattle.play_model.specs.LookUps.{LookUps}
use Rattle.play_model.specs.State.{Voice, Playing}
use Rattle.play_model.specs.FetchRow.{row_taken}
use Rattle.play_model.specs.Frame.{is_at_fetch, is_between_patterns, row_fetched}
use Rattle.song_facts.specs.declared.hold.Hold.{Hold}
use Rattle.song_facts.specs.declared.hold.Hold.TheVariants.{Envelope, Gate}
use Rattle.song_facts.specs.Hold.{hold_of, how_much}
use Rattle.song_facts.specs.Facts.{IsGateNote, IsTone, IsLegato, KeepsEnvelope}
use Rattle.packed_form.specs.WalkLaws.{WalkEnds}
use Rattle.scopes.specs.Desk.{Desk, Layout}
use Rattle.scopes.specs.Trees.{Tree, NoneTree, ThenTree, ScopeTree}
use Rattle.scopes.specs.Meaning.{Outcome, Done, Left, Ran, each_one, ran, turns_in}
use Rattle.player_memory.specs.declared.conditions.TheConstants.{TRANSPOSES, REPEATS, SKIP_PULSE, SKIP_FIRST}
use Rattle.player_memory.specs.declared.conditions.TheConstants.{GATE_NOTE, ROW_TONE, LEGATO, NO_HARD_RESTART}
use Rattle.player_memory.specs.declared.conditions.TheConstants.{FIRST_HOLDS, OWN_TIMER}
use Rattle.player_memory.specs.declared.labels.TheConstants.{LENT, GATE_TIMERS, ONE_TIMER}
use Rattle.player_memory.specs.declared.labels.TheConstants.{GATE_FROM, ENVELOPE_FROM}
use Rattle.player_memory.specs.FactLines.{KeepsShared}
use Rattle.player_memory.specs.Rooms.{IsRoom, MayUse}
use Rattle.player_memory.specs.Playing.{own_at, shared_at, IsListed, IsAlone, IsPlaying, IsAtVoice, OthersStay}
use Rattle.player_memory.specs.Playing.{AllSlidesStay}
use Rattle.player_memory.specs.Fetching.{IsOrderlist, IsPattern, IsInSong}
use Rattle.player_text.specs.declared.joints.TheConstants.{SOUNDS, PULSED}
use Rattle.player_text.specs.Steps.{fetch_tree as step_tree}
use Rattle.scopes.specs.declared.line.TheConstants.{OPEN}

-- the block, whose end is where the pulse step goes on
abbrev pub fetch_tree : Tree
fetch_tree = ThenTree (ScopeTree PULSED step_tree) NoneTree

-- ---- what is read

-- a byte of an orderlist is the number of a pattern, or a transpose or a repeat for which the code is kept
pub record IsKept (layout : Layout) (byte : ℕ) : Type 0 where
  pub below : byte < 0xFF
  pub transpose : layout.holds TRANSPOSES ≡ false → byte < 0xE0
  pub repeat : layout.holds REPEATS ≡ false → (byte < 0xD0) ⊎ (0xE0 ≤ byte)

-- An orderlist that goes on for ever stands in memory, with no more entries than it may have. A walk from any of its
-- places comes to a pattern's number within the turns of an open loop.
pub record HasOrderlist (layout : Layout) (rows : ℕ) (at : ℕ → ℕ) (label : ℕ) (order : Order) : Type 0 where
  pub address : layout.address label < MEMORY_SIZE
  pub stands : IsOrderlist layout rows at label order
  pub endless : IsEndless order
  pub few : length order.entries ≤ MOST_ENTRIES
  pub each : All (IsKept layout) order.entries
  pub walks : WalkEnds (turns_in layout.open_turns OPEN) order

-- the row that comes next
abbrev pub next_row : LookUps → Order → Voice → Row
next_row look order v = pattern_row (look.rows (played order v.plays).pattern) v.row

-- the instrument that a voice has behind it
abbrev pub next_instrument : LookUps → Order → Voice → ℕ
next_instrument look order v = (row_taken (next_row look order v) v).instrument

-- the lines are kept that the row asks for: for keyoff and keyon, for a slide to its note, and for an instrument that
-- leaves the gate or the envelope as it is
pub record KeepsNext (layout : Layout) (look : LookUps) (order : Order) (v : Voice) : Type 0 where
  pub gate : IsGateNote (next_row look order v) → layout.holds GATE_NOTE ≡ true
  pub tone : IsTone (next_row look order v) → layout.holds ROW_TONE ≡ true
  pub legato : IsLegato (look.instrument (next_instrument look order v)) → layout.holds LEGATO ≡ true
  pub soft : KeepsEnvelope (look.instrument (next_instrument look order v)) → layout.holds NO_HARD_RESTART ≡ true
  pub shared : KeepsShared layout

-- a number stands alone from which on instruments hold so much before a note, or more; it tells whether this one does
pub record TellsHold (layout : Layout) (rows : ℕ) (at : ℕ → ℕ) (label : ℕ) (look : LookUps) (hold : Hold)
    (instrument : ℕ) : Type 0 where
  pub from : ℕ
  pub stands : IsAlone layout rows at label from
  pub tells : (from ≤ instrument) ↔ (how_much hold ≤ how_much (hold_of (look.instrument instrument)))

-- Each pattern that the orderlist plays stands there, too. What that instrument holds is found: by its gateoff timer
-- where the lines are kept for a first one that holds more than another, else by the numbers from which on instruments
-- hold the gate, and the envelope. Where the lines for timers of their own aren't kept, one timer stands alone for all
-- instruments: the voice's. What the code reads of the voice are bytes; and the lines are kept that the next row asks
-- for.
pub record HasRows (layout : Layout) (rows : ℕ) (at : ℕ → ℕ) (look : LookUps) (packed : ℕ → List ℕ) (order : Order)
    (v : Voice) : Type 0 where
  pub pattern : (n : ℕ) →
      IsPattern layout rows at look (played order n).pattern (packed (played order n).pattern)
  pub timer : layout.holds FIRST_HOLDS ≡ true →
      IsListed layout rows at GATE_TIMERS (next_instrument look order v)
      (look.instrument (next_instrument look order v)).gate_timer
  pub gates : layout.holds FIRST_HOLDS ≡ false → layout.holds LEGATO ≡ true →
      TellsHold layout rows at GATE_FROM look Gate (next_instrument look order v)
  pub envelopes : layout.holds FIRST_HOLDS ≡ false → layout.holds NO_HARD_RESTART ≡ true →
      TellsHold layout rows at ENVELOPE_FROM look Envelope (next_instrument look order v)
  pub one_timer : layout.holds OWN_TIMER ≡ false → IsAlone layout rows at ONE_TIMER v.gate_timer
  pub timer_byte : (look.instrument (next_instrument look order v)).gate_timer < 256
  pub tick : v.tick < 256
  pub gate_timer : v.gate_timer < 256
  pub command : v.new_command < 256
  pub keeps : KeepsNext layout look order v

-- ---- what it does

-- whether an option that is kept leaves the pulse step out
abbrev pub left_out : Layout → Voice → Bool
left_out layout v =
    layout.holds SKIP_PULSE && is_at_fetch v || layout.holds SKIP_FIRST && is_between_patterns v

-- the way that the block takes: past the pulse step where it is left out, else to its own end
abbrev pub way_of : Bool → Outcome
way_of true = Left SOUNDS
way_of false = Done

-- It takes that way, with a voice in this state that is in its song. It has left the orderlist's address, that no
-- command is lent, the other voices, the registers, the slides and what is elsewhere.
pub record Fetches (layout : Layout) (rows voice label : ℕ) (look : LookUps) (packed : ℕ → List ℕ) (order : Order)
    (before : Desk) (run : Ran) (way : Outcome) (s : Playing) : Type 0 where
  pub takes : run.outcome ≡ way
  pub at_voice : IsAtVoice voice run.desk
  pub plays : IsPlaying layout voice s run.desk.at
  pub song : IsInSong layout label look packed order s.voice (own_at layout run.desk.at voice)
  pub lent : shared_at layout run.desk.at LENT ≡ 0
  pub stays : OthersStay layout rows voice before.at run.desk.at
  pub slides : AllSlidesStay layout rows run.desk.at before.at

-- In any memory that holds a voice that is playing and is in its song, while no command is lent, the code fetches its
-- row in the frame where that is due.
abbrev pub FetchBlockFetches : Type 0
FetchBlockFetches =
    (layout : Layout) (rows voice label : ℕ) (look : LookUps) (packed : ℕ → List ℕ) (order : Order) (s : Playing)
    (desk : Desk) → IsRoom layout rows → MayUse layout rows → voice < 3 → IsAtVoice voice desk →
    IsPlaying layout voice s desk.at → shared_at layout desk.at LENT ≡ 0 →
    IsInSong layout label look packed order s.voice (own_at layout desk.at voice) →
    HasOrderlist layout rows desk.at label order → HasRows layout rows desk.at look packed order s.voice →
    Fetches layout rows voice label look packed order desk (ran each_one layout fetch_tree desk)
    (way_of (left_out layout s.voice)) (row_fetched look order s)
