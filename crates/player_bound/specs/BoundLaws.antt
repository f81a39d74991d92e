-- What admitted numbers say of a packed song's images. This is the project's own player.
use Rattle.std.specs.Prelude.{◌≡◌, ℕ, ◌+◌, ◌≤◌, ◌++◌, List, Ok, Result, Some, None}
use Rattle.song_model.specs.declared.songs.Song.{Song}
use Rattle.play_model.specs.declared.options.Options.{Options}
use Rattle.play_model.specs.declared.options.System.{System}
use Rattle.packed_form.specs.declared.packed_songs.PackedSong.{PackedSong}
use Rattle.packed_form.specs.StandsFor.{StandsFor}
use Rattle.cpu6502.specs.declared.machine.Machine.{Machine}
use Rattle.cpu6502.specs.Code.{IsMachine}
use Rattle.cpu6502.specs.Call.{Called, call_cycles}
use Rattle.faithful.specs.Faithful.{AgreesOn}
use Rattle.faithful.specs.Histories.{ImageCall, Init, Play, entry_of, IsMade, LeadTo}
use Rattle.cycle_bound.specs.declared.checks.CertFault.{CertFault}
use Rattle.cycle_bound.specs.Rules.{bound_by}
use Rattle.cycle_bound.specs.EntranceRules.{around_cycles}
use Rattle.asm6502.specs.declared.lines.Line.{Line}
use Rattle.scopes.specs.declared.line.TheConstants.{OPEN}
use Rattle.scopes.specs.Meaning.{turns_in}
use Rattle.player_code.specs.Plans.{Plan}
use Rattle.player_calls.specs.CallLaws.{entrance_of}
use Rattle.player_image.specs.Images.{IsImageOf, plan_of}
use Rattle.player_image.specs.ImageLaws.{Stands}
use Rattle.player_memory.specs.WorkedLists.{worked_song}
use Rattle.player_bound.specs.declared.bounds.CallBounds.{CallBounds}
use Rattle.player_bound.specs.Programs.{Blocks, program_blocks, AdmitsInit, AdmitsPlay, least_init, least_play}
use Rattle.player_bound.specs.Programs.{init_nodes, play_nodes}
use Rattle.player_bound.specs.Answers.{AreBounds, AreChecked}

-- of the entrance that a call leads to
abbrev pub AdmitsOf : Blocks → ImageCall → List ℕ → Type 0
AdmitsOf b (Init k) numbers = AdmitsInit b numbers
AdmitsOf b Play numbers = AdmitsPlay b numbers

-- this holds of the clock cycles of each call of these bytes, after any calls and from any machine that agrees with the last
-- one on the bytes
abbrev pub CallsTake : List ℕ → ℕ → Song → (ImageCall → ℕ → Type 0) → Type 0
CallsTake bytes origin song Holds =
    (earlier : List ImageCall) (call : ImageCall) (before machine : Machine) (number steps : ℕ) (after : Machine) →
    LeadTo bytes origin song earlier before → IsMachine machine → AgreesOn bytes origin before machine →
    IsMade song call number → Called machine (entry_of origin call) number steps after →
    Holds call (call_cycles machine (entry_of origin call) number steps)

-- they are no more than the first of any numbers that are admitted for the call's entrance, and 11 for what stands around
-- its blocks
abbrev pub KeepsBounds : List ℕ → ℕ → Song → Blocks → Type 0
KeepsBounds bytes origin song b =
    CallsTake bytes origin song
    (λ call cycles. (numbers : List ℕ) → AdmitsOf b call numbers → cycles ≤ bound_by numbers + around_cycles)

-- so it is with each image of a packed song, and each song that this stands for
abbrev pub ImagesKeepBounds : Type 0
ImagesKeepBounds =
    (packed : PackedSong) (song : Song) (o : Options) (origin pointer : ℕ) (bytes : List ℕ)
    (image : IsImageOf packed o origin pointer bytes) → Stands packed o origin pointer bytes image →
    StandsFor packed song → KeepsBounds bytes origin song (program_blocks packed o)

-- what bounds say of a call
abbrev pub bound_of : CallBounds → ImageCall → ℕ
bound_of bounds (Init k) = bounds.init
bound_of bounds Play = bounds.play

-- so no call of an image takes more clock cycles than what is answered to numbers that are checked, and 11
abbrev pub KeepsWithin : List ℕ → ℕ → Song → CallBounds → Type 0
KeepsWithin bytes origin song bounds =
    CallsTake bytes origin song (λ call cycles. cycles ≤ bound_of bounds call + around_cycles)

abbrev pub CheckedBoundsAreKept : Type 0
CheckedBoundsAreKept =
    (packed : PackedSong) (song : Song) (o : Options) (origin pointer : ℕ) (bytes : List ℕ)
    (image : IsImageOf packed o origin pointer bytes) → Stands packed o origin pointer bytes image →
    StandsFor packed song → (numbers : List ℕ) (bounds : CallBounds) →
    AreChecked (program_blocks packed o) numbers (Ok bounds) → KeepsWithin bytes origin song bounds

-- the least numbers, those of init in front, are answered by their first ones, and no bounds that are answered to others
-- are less
pub record AreLeastOf (b : Blocks) : Type 0 where
  pub bounds : CallBounds
  pub init : bounds.init ≡ bound_by (least_init b)
  pub play : bounds.play ≡ bound_by (least_play b)
  pub told : AreChecked b (least_init b ++ least_play b) (Ok bounds)
  pub least : (numbers : List ℕ) (others : CallBounds) → AreChecked b numbers (Ok others) →
      (bounds.init ≤ others.init) × (bounds.play ≤ others.play)

abbrev pub LeastBoundsAreLeast : Type 0
LeastBoundsAreLeast = (b : Blocks) → AreLeastOf b

-- bounds that are admitted for one system are for the other: the timer's numbers alone differ, which are loaded
abbrev pub SystemsAreBoundAlike : Type 0
SystemsAreBoundAlike =
    (packed : PackedSong) (o : Options) (system : System) (numbers : List ℕ) (bounds : CallBounds) →
    AreBounds (program_blocks packed o) numbers bounds →
    AreBounds (program_blocks packed (record o { system = system })) numbers bounds

-- numbers have one answer
abbrev pub OneAnswer : Type 0
OneAnswer =
    (b : Blocks) (numbers : List ℕ) (one other : Result CallBounds CertFault) → AreChecked b numbers one →
    AreChecked b numbers other → one ≡ other

-- ---- the program

-- the blocks are those of the two entrances of which an image's code is made: with the same lines, of which the same are
-- kept, and the same turns of open loops
pub record AreLowered (b : Blocks) (plan : Plan) : Type 0 where
  pub first : (entrance_of plan Play).first ≡ b.first
  pub voice : (entrance_of plan Play).voice ≡ Some b.voice
  pub init : (k : ℕ) → (entrance_of plan (Init k)).first ≡ b.init
  pub init_voice : (k : ℕ) → (entrance_of plan (Init k)).voice ≡ None
  pub play_holds : (entrance_of plan Play).holds ≡ b.setting.holds
  pub init_holds : (k : ℕ) → (entrance_of plan (Init k)).holds ≡ b.setting.holds
  pub turns : turns_in plan.open_turns OPEN ≡ turns_in b.setting.open_turns OPEN

abbrev pub ProgramsAreLowered : Type 0
ProgramsAreLowered =
    (packed : PackedSong) (o : Options) (origin pointer : ℕ) (variables : List ℕ) (lists : List Line) →
    AreLowered (program_blocks packed o) (plan_of packed o origin pointer variables lists)

-- each has as many numbers
pub record ProgramsHaveNodes : Type 0 where
  pub init : (packed : PackedSong) (o : Options) → init_nodes (program_blocks packed o) ≡ 53
  pub play : (packed : PackedSong) (o : Options) → play_nodes (program_blocks packed o) ≡ 854

-- a song in which two bytes are passed at most on the way to a pattern has three turns in an open loop
abbrev pub TurnsAreItsWalks : Type 0
TurnsAreItsWalks = (o : Options) → (program_blocks worked_song o).setting.open_turns ≡ 3
