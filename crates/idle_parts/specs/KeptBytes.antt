-- The bytes that are kept under a condition alone: where each line that loads or stores one may be left out, and that
-- no line reads one but under its condition. A law on lines that load such a byte is about layouts that keep it. This
-- is the project's own player.
use Rattle.std.specs.Prelude.{◌≡◌, ◌≢◌, ℕ, ◌%◌, ◌/◌, ◌<◌, ◌==◌, ◌+◌, ◌&&◌, ◌||◌, if◌then◌else◌}
use Rattle.std.specs.Prelude.{Bool, true, false, List, [], ◌∷◌}
use Rattle.cpu6502.specs.declared.mnemonic.Mnemonic.TheVariants.{Lda}
use Rattle.play_model.specs.LookUps.{LookUps}
use Rattle.play_model.specs.State.{Playing, Common}
use Rattle.song_facts.specs.declared.hold.Hold.TheVariants.{Envelope, Gate}
use Rattle.song_facts.specs.Facts.{IsLegato}
use Rattle.scopes.specs.declared.line.Line.TheVariants.{With}
use Rattle.scopes.specs.declared.line.Operand.{Operand}
use Rattle.scopes.specs.declared.line.Operand.TheVariants.{Number, Var, Own, Entry, Pointed}
use Rattle.scopes.specs.Desk.{Desk, Layout, operand_place}
use Rattle.scopes.specs.Steps.{is_store}
use Rattle.scopes.specs.Trees.{Tree, WithTree, ThenTree, ScopeTree, LoopTree, WhenTree, ChooseTree, tree_of}
use Rattle.scopes.specs.Meaning.{Outcome, Ran, Done, Left, each_one, ran}
use Rattle.play_model.specs.declared.options.Options.{Options}
use Rattle.kept_lines.specs.KeptLines.{keeps}
use Rattle.player_memory.specs.declared.conditions.TheConstants.{FILTER_USED, SET_VOLUME, PULSE_TABLE, ROW_COMMAND}
use Rattle.player_memory.specs.declared.conditions.TheConstants.{WAVE_DELAY, NOTE_DEPENDENT, SWINGS, INSTRUMENT_VIBRATO}
use Rattle.player_memory.specs.declared.conditions.TheConstants.{FUNK_TEMPO, ROW_TONE, ROW_ONCE, WAVE_COMMAND}
use Rattle.player_memory.specs.declared.conditions.TheConstants.{FILTER_TABLE, EFFECTS, SKIP_FIRST, OWN_TIMER, OWN_WAVE}
use Rattle.player_memory.specs.declared.conditions.TheConstants.{SUBTUNES, FIRST_HOLDS, LEGATO, NO_HARD_RESTART}
use Rattle.player_memory.specs.declared.labels.TheConstants.{NEW_COMMAND, NEW_PARAM, COMMAND, PARAM, VIB_TIME}
use Rattle.player_memory.specs.declared.labels.TheConstants.{VIB_DELAY}
use Rattle.player_memory.specs.declared.labels.TheConstants.{LAST_NOTE, WAVE_TIME, VOLUME, FUNK_ONE, FUNK_TWO, VIBRATOS}
use Rattle.player_memory.specs.declared.labels.TheConstants.{TICK, KEPT_PARAM, GATE_TIMER, GATE_TIMERS, FIRST_WAVES}
use Rattle.player_memory.specs.declared.labels.TheConstants.{ONE_TIMER}
use Rattle.player_memory.specs.declared.labels.TheConstants.{ONE_WAVE, ORDERS_LOW, ORDERS_HIGH, ORDER_LOW, ORDER_HIGH}
use Rattle.player_memory.specs.declared.labels.TheConstants.{GATE_FROM, ENVELOPE_FROM}
use Rattle.player_memory.specs.declared.variables.Kept.{Kept as Row}
use Rattle.player_memory.specs.declared.variables.Kept.TheVariants.{Always, Where, Else}
use Rattle.player_memory.specs.declared.variables.VoiceByte.{VoiceByte}
use Rattle.player_memory.specs.declared.variables.CommonByte.{CommonByte}
use Rattle.player_memory.specs.declared.variables.TheConstants.{VOICE_BYTES, COMMON_BYTES}
use Rattle.player_memory.specs.Rooms.{IsRoom, MayUse}
use Rattle.player_memory.specs.Variables.{CommonBytesStand}
use Rattle.player_memory.specs.Playing.{shared_at, IsListed, IsAlone}
use Rattle.player_text.specs.declared.tick.TheConstants.{GATE_TIMER_SET, NOTE_BEGUN, COMMAND_BEGUN, BARE}
use Rattle.player_text.specs.declared.commands.TheConstants.{WAVE_POINTER_SET}
use Rattle.player_text.specs.declared.joints.TheConstants.{EFFECTED}
use Rattle.player_text.specs.declared.effect.TheConstants.{EFFECT_BEGUN}
use Rattle.player_text.specs.declared.pitch.TheConstants.{PITCH}
use Rattle.player_text.specs.declared.fetch.TheConstants.{ROW_AWAITED, ROW_REACHED, FIRST_REACHED, ENTRY_BEGUN}
use Rattle.player_text.specs.declared.fetch.TheConstants.{ENTRY_READ, GATE_CLOSED}
use Rattle.player_text.specs.declared.filter.TheConstants.{FILTER_REGISTERS}
use Rattle.player_text.specs.declared.register.TheConstants.{REGISTERS}
use Rattle.player_text.specs.declared.init.TheConstants.{VARIABLES_CLEARED, FUNK_STARTED, VOICE_STARTED, TEMPO_STARTED}
use Rattle.player_text.specs.declared.texts.Start.{Start}
use Rattle.player_text.specs.Texts.{voice_tree, filter_tree, init_tree}
use Rattle.fetch_code.specs.FetchBlock.{TellsHold}
use Rattle.idle_parts.specs.Idle.{A, Y, Carry, Kept, AreKept, Idles, HoldsVoice, part}

-- ---- loads

-- the two sides of a choice both come to their own end, leave each byte, X, the decimal flag and these registers, and
-- have the same in A behind them
pub record Alike (layout : Layout) (one other : Tree) (desk : Desk) (kept : List Kept) : Type 0 where
  pub here : Idles layout one desk kept
  pub there : Idles layout other desk kept
  pub a_is : (ran each_one layout one desk).desk.cpu.a ≡ (ran each_one layout other desk).desk.cpu.a

-- and both show by the zero flag whether that byte in A is 0
pub record ShowAlike (layout : Layout) (one other : Tree) (desk : Desk) (kept : List Kept) : Type 0 where
  pub alike : Alike layout one other desk kept
  pub zero_is : (ran each_one layout one desk).desk.cpu.z ≡ (ran each_one layout other desk).desk.cpu.z

-- a run has left each byte, X and the decimal flag
pub record StaysBeside (run : Ran) (before : Desk) : Type 0 where
  pub stays : (place : ℕ) → run.desk.at place ≡ before.at place
  pub x : run.desk.cpu.x ≡ before.cpu.x
  pub decimal : run.desk.cpu.d ≡ before.cpu.d

-- both sides of a choice compare A with the same byte: they come to their own end, leave each byte, X, the decimal
-- flag, A and Y, and have the same zero flag and carry behind them
pub record CompareAlike (layout : Layout) (one other : Tree) (desk : Desk) : Type 0 where
  pub here : Idles layout one desk (A ∷ Y ∷ [])
  pub there : Idles layout other desk (A ∷ Y ∷ [])
  pub zero_is : (ran each_one layout one desk).desk.cpu.z ≡ (ran each_one layout other desk).desk.cpu.z
  pub carry_is : (ran each_one layout one desk).desk.cpu.c ≡ (ran each_one layout other desk).desk.cpu.c

-- Both sides of a choice find out alike what an instrument holds before a note: they take the same way, and leave each
-- byte, X and the decimal flag; and at their own end the carry is the same, where lines are kept that ask for it.
pub record TellAlike (layout : Layout) (one other : Tree) (desk : Desk) : Type 0 where
  pub way_is : (ran each_one layout one desk).outcome ≡ (ran each_one layout other desk).outcome
  pub here : StaysBeside (ran each_one layout one desk) desk
  pub there : StaysBeside (ran each_one layout other desk) desk
  pub carry_is : layout.holds NO_HARD_RESTART ≡ true → (ran each_one layout one desk).outcome ≡ Done →
      (ran each_one layout one desk).desk.cpu.c ≡ (ran each_one layout other desk).desk.cpu.c

-- What an instrument holds is found twice: by its gateoff timer, which stands in its list, and by its number, as in a
-- song whose instruments stand in the order of what they hold; where no lines are kept for the gate it doesn't hold it.
pub record IsToldTwice (layout : Layout) (rows : ℕ) (at : ℕ → ℕ) (look : LookUps) (instrument : ℕ) : Type 0 where
  pub timer : IsListed layout rows at GATE_TIMERS instrument (look.instrument instrument).gate_timer
  pub byte : (look.instrument instrument).gate_timer < 256
  pub gate : layout.holds LEGATO ≡ true → TellsHold layout rows at GATE_FROM look Gate instrument
  pub no_gate : layout.holds LEGATO ≡ false → ¬ IsLegato (look.instrument instrument)
  pub envelope : layout.holds NO_HARD_RESTART ≡ true → TellsHold layout rows at ENVELOPE_FROM look Envelope instrument

-- where the filter is set: A is 0 in front of each load, and what it loads is 0; and the volume is 15
pub record FilterLoadsIdle (layout : Layout) (c : Common) (desk : Desk) : Type 0 where
  pub cutoff : layout.holds FILTER_USED ≡ true → c.cutoff ≡ 0 → desk.cpu.a ≡ 0 →
      Idles layout (part FILTER_USED 0 FILTER_REGISTERS.now) desk (A ∷ Y ∷ Carry ∷ [])
  pub control : layout.holds FILTER_USED ≡ true → c.filter_control ≡ 0 → desk.cpu.a ≡ 0 →
      Idles layout (part FILTER_USED 1 FILTER_REGISTERS.now) desk (A ∷ Y ∷ Carry ∷ [])
  pub kind : layout.holds FILTER_USED ≡ true → c.filter_type ≡ 0 → desk.cpu.a ≡ 0 →
      Idles layout (part FILTER_USED 2 FILTER_REGISTERS.now) desk (A ∷ Y ∷ Carry ∷ [])
  pub volume : layout.holds SET_VOLUME ≡ true → c.volume ≡ 15 →
      Alike layout (part SET_VOLUME 0 FILTER_REGISTERS.now) (part SET_VOLUME 1 FILTER_REGISTERS.now) desk
      (Y ∷ Carry ∷ [])

abbrev pub FilterLoads : Type 0
FilterLoads =
    (layout : Layout) (rows : ℕ) (c : Common) (desk : Desk) → IsRoom layout rows → MayUse layout rows →
    CommonBytesStand layout.holds c (shared_at layout desk.at) → FilterLoadsIdle layout c desk

-- lines come to this end with 0 in A, and have left each byte and the other registers
pub record Clears (layout : Layout) (body : Tree) (desk : Desk) (outcome : Outcome) : Type 0 where
  pub ends : (ran each_one layout body desk).outcome ≡ outcome
  pub a_is : (ran each_one layout body desk).desk.cpu.a ≡ 0
  pub y_is : (ran each_one layout body desk).desk.cpu.y ≡ desk.cpu.y
  pub stays : (place : ℕ) → (ran each_one layout body desk).desk.at place ≡ desk.at place
  pub x : (ran each_one layout body desk).desk.cpu.x ≡ desk.cpu.x
  pub carry : (ran each_one layout body desk).desk.cpu.c ≡ desk.cpu.c
  pub decimal : (ran each_one layout body desk).desk.cpu.d ≡ desk.cpu.d

-- lines leave a scope, and have left each byte, X and the decimal flag
pub record LeavesAll (layout : Layout) (body : Tree) (desk : Desk) (name : ℕ) : Type 0 where
  pub goes : (ran each_one layout body desk).outcome ≡ Left name
  pub stays : (place : ℕ) → (ran each_one layout body desk).desk.at place ≡ desk.at place
  pub x : (ran each_one layout body desk).desk.cpu.x ≡ desk.cpu.x
  pub decimal : (ran each_one layout body desk).desk.cpu.d ≡ desk.cpu.d

-- The width is 0: both sides load its low byte alike, and its high one is idle where A is 0. A row without a
-- command: one side leaves, and the other comes to its own end, which is there too, with 0 in A where a command may
-- run; where none may, it is idle, and what loads the 0 changes A alone. No command runs, and no vibrato of an
-- instrument, as it has no parameter: both sides leave for the same. One first waveform stands for all instruments,
-- and is that of the one in Y: both sides load it. So does one gateoff timer, the voice's, with which A is compared
-- three times. What an instrument holds before a note is told by its gateoff timer on one side, and by its number on
-- the other.
pub record VoiceLoadsIdle (layout : Layout) (rows : ℕ) (s : Playing) (desk : Desk) : Type 0 where
  pub width_low : layout.holds PULSE_TABLE ≡ true → s.voice.pulse % 256 ≡ 0 →
      Alike layout (part PULSE_TABLE 0 REGISTERS.now) (part PULSE_TABLE 1 REGISTERS.now) desk (Y ∷ Carry ∷ [])
  pub width_high : layout.holds PULSE_TABLE ≡ true → s.voice.pulse / 256 ≡ 0 → desk.cpu.a ≡ 0 →
      Idles layout (part PULSE_TABLE 2 REGISTERS.now) desk (A ∷ Y ∷ Carry ∷ [])
  pub bare : layout.holds ROW_COMMAND ≡ true → s.voice.new_command ≡ 0 →
      Clears layout (part ROW_COMMAND 0 COMMAND_BEGUN.now) desk (Left BARE)
  pub bare_ends : layout.holds EFFECTS ≡ true → Clears layout (part ROW_COMMAND 1 COMMAND_BEGUN.now) desk Done
  pub bare_idles : layout.holds EFFECTS ≡ false →
      Idles layout (part ROW_COMMAND 1 COMMAND_BEGUN.now) desk (A ∷ Y ∷ Carry ∷ [])
  pub bare_load : Idles layout (part EFFECTS 0 COMMAND_BEGUN.now) desk (Y ∷ Carry ∷ [])
  pub none_runs : layout.holds EFFECTS ≡ true → s.voice.command ≡ 0 →
      (layout.holds INSTRUMENT_VIBRATO ≡ true → s.voice.param ≡ 0) →
      LeavesAll layout (part EFFECTS 0 EFFECT_BEGUN.now) desk EFFECTED
  pub none_ends : LeavesAll layout (part EFFECTS 1 EFFECT_BEGUN.now) desk EFFECTED
  pub first_wave : (wave : ℕ) → IsListed layout rows desk.at FIRST_WAVES desk.cpu.y wave →
      IsAlone layout rows desk.at ONE_WAVE wave →
      ShowAlike layout (part OWN_WAVE 0 NOTE_BEGUN.now) (part OWN_WAVE 1 NOTE_BEGUN.now) desk (Y ∷ Carry ∷ [])
  pub awaited : layout.holds OWN_TIMER ≡ true → IsAlone layout rows desk.at ONE_TIMER s.voice.gate_timer →
      CompareAlike layout (part OWN_TIMER 0 ROW_AWAITED.now) (part OWN_TIMER 1 ROW_AWAITED.now) desk
  pub reached : layout.holds OWN_TIMER ≡ true → IsAlone layout rows desk.at ONE_TIMER s.voice.gate_timer →
      CompareAlike layout (part OWN_TIMER 0 ROW_REACHED.now) (part OWN_TIMER 1 ROW_REACHED.now) desk
  pub first_reached : layout.holds OWN_TIMER ≡ true → IsAlone layout rows desk.at ONE_TIMER s.voice.gate_timer →
      CompareAlike layout (part OWN_TIMER 0 FIRST_REACHED.now) (part OWN_TIMER 1 FIRST_REACHED.now) desk
  pub first_holds : (look : LookUps) → IsToldTwice layout rows desk.at look s.voice.instrument →
      TellAlike layout (part FIRST_HOLDS 0 GATE_CLOSED.now) (part FIRST_HOLDS 1 GATE_CLOSED.now) desk

abbrev pub VoiceLoads : Type 0
VoiceLoads =
    (layout : Layout) (rows voice : ℕ) (s : Playing) (desk : Desk) → HoldsVoice layout rows voice s desk →
    VoiceLoadsIdle layout rows s desk

-- ---- stores

-- whether a place is none of those of these operands
abbrev pub IsAway : Layout → List Operand → Desk → ℕ → Type 0
IsAway layout [] desk place = Unit {0}
IsAway layout (one ∷ others) desk place = (place ≢ operand_place layout one desk) × IsAway layout others desk place

-- each of those may be read and written
abbrev pub MayReach : Layout → List Operand → Desk → Type 0
MayReach layout [] desk = Unit {0}
MayReach layout (one ∷ others) desk =
    ((layout.may_read (operand_place layout one desk) ≡ true)
    × (layout.may_write (operand_place layout one desk) ≡ true))
    × MayReach layout others desk

-- the lines come to their own end, and leave each byte but those that they store, X, the decimal flag, and these
-- registers
pub record IdlesBut (layout : Layout) (stored : List Operand) (body : Tree) (desk : Desk) (kept : List Kept)
    : Type 0 where
  pub ends : (ran each_one layout body desk).outcome ≡ Done
  pub stays : (place : ℕ) → IsAway layout stored desk place →
      (ran each_one layout body desk).desk.at place ≡ desk.at place
  pub x : (ran each_one layout body desk).desk.cpu.x ≡ desk.cpu.x
  pub decimal : (ran each_one layout body desk).desk.cpu.d ≡ desk.cpu.d
  pub kept_are : AreKept kept desk.cpu (ran each_one layout body desk).desk.cpu

-- they do on any desk where those may be reached
abbrev pub Stores : List Operand → Tree → List Kept → Type 0
Stores stored body kept =
    (layout : Layout) (desk : Desk) → MayReach layout stored desk → IdlesBut layout stored body desk kept

-- and where another one may be read
abbrev pub StoresBy : Operand → List Operand → Tree → List Kept → Type 0
StoresBy other stored body kept =
    (layout : Layout) (desk : Desk) → MayReach layout stored desk →
    layout.may_read (operand_place layout other desk) ≡ true → IdlesBut layout stored body desk kept

-- behind both sides of a choice each byte is the same, but for those that the first side stores besides
abbrev pub LeaveSame : Layout → List Operand → Tree → Tree → Desk → Type 0
LeaveSame layout stored one other desk =
    (place : ℕ) → IsAway layout stored desk place →
    (ran each_one layout one desk).desk.at place ≡ (ran each_one layout other desk).desk.at place

-- what a note stores where it begins
abbrev pub NOTE_STORES : List Operand
NOTE_STORES = Own WAVE_TIME ∷ Own COMMAND ∷ Own PARAM ∷ []

-- a gateoff timer is set; a note begins, and a command 8 begins a wave program; a number sets the frequency; an entry is
-- read; a row's command is taken; and a subtune begins
pub record StoresIdle : Type 0 where
  pub timer : StoresBy (Entry GATE_TIMERS) (Own GATE_TIMER ∷ []) (part OWN_TIMER 0 GATE_TIMER_SET.now)
      (Y ∷ Carry ∷ [])
  pub note_time : Stores (Own WAVE_TIME ∷ []) (part WAVE_DELAY 0 NOTE_BEGUN.now) (A ∷ Y ∷ Carry ∷ [])
  pub other_time : Stores (Own WAVE_TIME ∷ []) (part WAVE_DELAY 1 NOTE_BEGUN.now) (Y ∷ Carry ∷ [])
  pub note_command : StoresBy (Entry VIBRATOS) NOTE_STORES (part EFFECTS 0 NOTE_BEGUN.now) (Y ∷ Carry ∷ [])
  pub note_other : Stores (Own WAVE_TIME ∷ []) (part EFFECTS 1 NOTE_BEGUN.now) (Y ∷ Carry ∷ [])
  pub note_sides : (layout : Layout) (desk : Desk) → MayReach layout NOTE_STORES desk →
      layout.may_read (operand_place layout (Entry VIBRATOS) desk) ≡ true →
      LeaveSame layout (Own COMMAND ∷ Own PARAM ∷ []) (part EFFECTS 0 NOTE_BEGUN.now)
      (part EFFECTS 1 NOTE_BEGUN.now) desk
  pub set_time : Stores (Own WAVE_TIME ∷ []) (part WAVE_DELAY 0 WAVE_POINTER_SET.now) (Y ∷ Carry ∷ [])
  pub last_note : Stores (Own LAST_NOTE ∷ []) (part NOTE_DEPENDENT 0 PITCH.now) (A ∷ Y ∷ Carry ∷ [])
  pub swing : Stores (Own VIB_TIME ∷ []) (part SWINGS 0 PITCH.now) (Y ∷ Carry ∷ [])
  pub first_row : StoresBy (Own TICK) (Var KEPT_PARAM ∷ []) (part SKIP_FIRST 0 ENTRY_BEGUN.now) (Y ∷ [])
  pub no_command : Stores (Own NEW_COMMAND ∷ []) (part ROW_COMMAND 0 ENTRY_BEGUN.now) (Y ∷ [])
  pub command : Stores (Own NEW_COMMAND ∷ []) (part ROW_COMMAND 0 ENTRY_READ.now) (Y ∷ Carry ∷ [])
  pub param : StoresBy Pointed (Own NEW_PARAM ∷ []) (part ROW_COMMAND 1 ENTRY_READ.now) (Y ∷ Carry ∷ [])
  pub slide : Stores (Own VIB_TIME ∷ []) (part SWINGS 0 COMMAND_BEGUN.now) (Y ∷ [])
  pub row_command : StoresBy (Entry VIBRATOS) (Own COMMAND ∷ []) (part EFFECTS 1 COMMAND_BEGUN.now) (Y ∷ Carry ∷ [])
  pub row_param : Stores (Own PARAM ∷ []) (part EFFECTS 2 COMMAND_BEGUN.now) (A ∷ Y ∷ Carry ∷ [])
  pub volume : Stores (Var VOLUME ∷ []) (part SET_VOLUME 0 VARIABLES_CLEARED.now) (Y ∷ Carry ∷ [])
  pub funk_one : (number : ℕ) →
      Stores (Var FUNK_ONE ∷ []) (tree_of (With Lda (Number number) ∷ FUNK_STARTED.now)) (Y ∷ Carry ∷ [])
  pub delay : Stores (Own VIB_DELAY ∷ []) (part INSTRUMENT_VIBRATO 0 VOICE_STARTED.now) (A ∷ Y ∷ Carry ∷ [])
  pub funk_two : Stores (Var FUNK_TWO ∷ []) (part FUNK_TEMPO 0 TEMPO_STARTED.now) (A ∷ Y ∷ Carry ∷ [])

-- ---- orderlists

-- where the voice at X has the address already that the lists have at Y, the lines that take it from there leave each
-- byte; they change A and Y
abbrev pub OrdersIdle : Type 0
OrdersIdle =
    (layout : Layout) (rows low high : ℕ) (desk : Desk) →
    IsListed layout rows desk.at ORDERS_LOW desk.cpu.y low → IsListed layout rows desk.at ORDERS_HIGH desk.cpu.y high →
    MayReach layout (Own ORDER_LOW ∷ Own ORDER_HIGH ∷ []) desk →
    desk.at (operand_place layout (Own ORDER_LOW) desk) ≡ low →
    desk.at (operand_place layout (Own ORDER_HIGH) desk) ≡ high →
    Idles layout (part SUBTUNES 0 VOICE_STARTED.now) desk (Carry ∷ [])

-- ---- where they are read

-- pairs of conditions of which the first keeps the second
abbrev pub Pairs : Type 0
Pairs = List (ℕ × ℕ)

abbrev pub KEEPING : Pairs
KEEPING =
    (ROW_TONE, ROW_COMMAND) ∷ (ROW_ONCE, ROW_COMMAND) ∷ (WAVE_COMMAND, EFFECTS) ∷ (FILTER_TABLE, FILTER_USED) ∷ []

-- for what a song asks for and options the second condition of each holds where the first one does
abbrev pub AreKeptWith : Pairs → ℕ → Options → Type 0
AreKeptWith [] asked o = Unit {0}
AreKeptWith (pair ∷ pairs) asked o =
    (keeps asked o pair.0 ≡ true → keeps asked o pair.1 ≡ true) × AreKeptWith pairs asked o

abbrev pub PairsAreKept : Type 0
PairsAreKept = (asked : ℕ) (o : Options) → AreKeptWith KEEPING asked o

-- whether one of these conditions is this one, or keeps it
abbrev pub is_pair : Pairs → ℕ → ℕ → Bool
is_pair [] one other = false
is_pair (pair ∷ pairs) one other = (pair.0 == one && pair.1 == other) || is_pair pairs one other

abbrev pub is_held : Pairs → List ℕ → ℕ → Bool
is_held pairs [] condition = false
is_held pairs (one ∷ others) condition =
    one == condition || is_pair pairs one condition || is_held pairs others condition

-- where a row stands
abbrev pub row_held : Pairs → List ℕ → Row → Bool
row_held pairs held Always = true
row_held pairs held (Where condition) = is_held pairs held condition
row_held pairs held (Else condition number) = is_held pairs held condition

-- each row with a label stands, that of any of the three voices
abbrev pub own_held : Pairs → List ℕ → List (ℕ × VoiceByte × Row) → ℕ → Bool
own_held pairs held [] label = true
own_held pairs held (row ∷ rows) label =
    (if row.0 == label || row.0 + 7 == label || row.0 + 14 == label then row_held pairs held row.2 else true)
    && own_held pairs held rows label

abbrev pub shared_held : Pairs → List ℕ → List (ℕ × CommonByte × Row) → ℕ → Bool
shared_held pairs held [] label = true
shared_held pairs held (row ∷ rows) label =
    (if row.0 == label then row_held pairs held row.2 else true) && shared_held pairs held rows label

abbrev pub label_held : Pairs → List ℕ → ℕ → Bool
label_held pairs held label = own_held pairs held VOICE_BYTES label && shared_held pairs held COMMON_BYTES label

-- an operand with a label, by the desk's X or Y or neither
abbrev pub operand_held : Pairs → List ℕ → Operand → Bool
operand_held pairs held (Var label) = label_held pairs held label
operand_held pairs held (Own label) = label_held pairs held label
operand_held pairs held (Entry label) = label_held pairs held label
operand_held pairs held operand = true

-- Whether each line that reads a byte which isn't kept always stands under the byte's condition, or under one that
-- keeps it. A store reads none; what counts a byte up or down, and what compares, does.
abbrev pub reads_under : Pairs → List ℕ → Tree → Bool
reads_under pairs held (WithTree mnemonic operand) = is_store mnemonic || operand_held pairs held operand
reads_under pairs held (ThenTree first rest) = reads_under pairs held first && reads_under pairs held rest
reads_under pairs held (ScopeTree name body) = reads_under pairs held body
reads_under pairs held (LoopTree count body) = reads_under pairs held body
reads_under pairs held (WhenTree condition body) = reads_under pairs (condition ∷ held) body
reads_under pairs held (ChooseTree condition this other) =
    reads_under pairs (condition ∷ held) this && reads_under pairs held other
reads_under pairs held tree = true

-- the player's lines do
pub record ReadWhereKept : Type 0 where
  pub voice : reads_under KEEPING [] voice_tree ≡ true
  pub filter : reads_under KEEPING [] filter_tree ≡ true
  pub init : (start : Start) (variables : ℕ) → reads_under KEEPING [] (init_tree start variables) ≡ true
