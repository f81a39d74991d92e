-- What follows from the definitions: a run has one outcome, each status comes exactly where its
-- cause is, which songs are packed, and a packed file that is run prints its song.
use Rattle.std.specs.Prelude.{◌≡◌, ◌≢◌, ℕ, ◌+◌, ◌-◌, ◌<◌, ◌≤◌, ◌↔◌, ◌++◌, Bool, true}
use Rattle.std.specs.Prelude.{List, Option, Some, None, Ok, length}
use Rattle.std.specs.Option.{option_and_then}
use Rattle.base.specs.Bytes.{AreBytes, IsWord}
use Rattle.goat_io.specs.Files.{Files, file_of}
use Rattle.song_model.specs.declared.songs.Song.{Song}
use Rattle.song_model.specs.Limits.{KeepsLimits}
use Rattle.song_model.specs.LookUp.{playable_subtunes}
use Rattle.song_model.specs.Canonical.{canonical}
use Rattle.song_model.specs.Silence.{empty_song}
use Rattle.song_join.specs.Joined.{joined}
use Rattle.play_model.specs.Speeds.{IsSpeed}
use Rattle.play_model.specs.Frame.{trace_with}
use Rattle.play_model.specs.declared.options.Options.{Options}
use Rattle.play_model.specs.declared.options.System.{System}
use Rattle.play_model.specs.Playable.{IsPlayable}
use Rattle.play_model.specs.Features.{AreFeatures}
use Rattle.packing_rules.specs.UsedSets.{UsedSets, AreUsedSets}
use Rattle.packed_form.specs.CodeBounds.{code_bound}
use Rattle.packing_rules.specs.SongSizes.{data_size}
use Rattle.song_pack.specs.Answers.{AreShort}
use Rattle.cpu6502.specs.declared.machine.Machine.{Machine}
use Rattle.sid_run.specs.State.{loaded}
use Rattle.psid.specs.declared.header.Psid.{Psid}
use Rattle.psid.specs.Reading.{psid_read}
use Rattle.command_line.specs.declared.chip.Chip.{Chip}
use Rattle.command_line.specs.Words.{Job, Pack, Selftest, Disasm, Asm, Show, Edit, Bound, BoundCheck, Chart}
use Rattle.jobs.specs.Calls.{HasSubtune, FirstCalls}
use Rattle.jobs.specs.Stages.{Stage, CanBePlayed, HasRoomForImage, HoldsSong, HoldsPsid, status_of, Ends, IsMet, Passes}
use Rattle.jobs.specs.Stages.{AllPass, input_limit}
use Rattle.command_line.specs.Forms.{WordsOf, IsNoForm}
use Rattle.jobs.specs.Jobs.{stages, Done}
use Rattle.jobs.specs.Outcome.{Outcome, files_after}
use Rattle.jobs.specs.Due.{IsDue}
use Rattle.jobs.specs.Stands.{ComesTo}
use Rattle.jobs.specs.Traces.{first_traces}
use Rattle.packed_form.specs.ImagePlaces.{IsAddress}
use Rattle.song_costs.specs.Kinds.{costs_of, all_bytes}
use Rattle.jobs.specs.Costs.{TellCosts}
use Rattle.cycle_bound.specs.Rules.{bound_by}
use Rattle.player_bound.specs.declared.bounds.CallBounds.{CallBounds}
use Rattle.player_bound.specs.Programs.{Blocks, least_init, least_play}
use Rattle.player_bound.specs.BoundLaws.{KeepsWithin}
use Rattle.bound_text.specs.Texts.{numbers_text}
use Rattle.jobs.specs.SongPrograms.{HasProgram}
use Rattle.jobs.specs.Certificates.{IsAdmittedText}
use Rattle.jobs.specs.Packed.{IsLengthOf, IsImageLength, IsWrittenFile}
use Rattle.jobs.specs.Answers.{IsPackedPsid, AssemblesListing, AsksToMake, HoldsJoined}

-- an outcome's status is due, and one status alone is due
abbrev pub OutcomesAreDue : Type 0
OutcomesAreDue = (words : List (List ℕ)) (files : Files) (status : ℕ) (lines : List (List ℕ))
    (write : Option (List ℕ × List ℕ)) → Outcome words files status lines write →
    (output : Option (List ℕ)) × IsDue words files status output

abbrev pub OneStatusIsDue : Type 0
OneStatusIsDue = (words : List (List ℕ)) (files : Files) (status other : ℕ) (output other_output : Option (List ℕ)) →
    IsDue words files status output → IsDue words files other other_output → (status ≡ other) × (output ≡ other_output)

-- outcomes that write nothing have one text, but for `selftest`, which counts the steps of a player that may be chosen
abbrev pub OneTextIsPrinted : Type 0
OneTextIsPrinted = (words : List (List ℕ)) (files : Files) (status other : ℕ) (lines others : List (List ℕ)) →
    ((number : ℕ) → ¬ WordsOf words (Selftest number)) →
    Outcome words files status lines None → Outcome words files other others None → lines ≡ others

-- a song has one program, and what `bound` prints and writes is one
abbrev pub SongsHaveOneProgram : Type 0
SongsHaveOneProgram =
    (song : Song) (options : Options) (b c : Blocks) → HasProgram song options b → HasProgram song options c → b ≡ c

abbrev pub BoundsHaveOneOutcome : Type 0
BoundsHaveOneOutcome =
    (files : Files) (input output : List ℕ) (options : Options) (lines others : List (List ℕ))
    (write other : Option (List ℕ × List ℕ)) → Done (Bound input output options) files lines write →
    Done (Bound input output options) files others other → (lines ≡ others) × (write ≡ other)

-- and so is what `chart` prints and writes of a file
abbrev pub ChartsHaveOneOutcome : Type 0
ChartsHaveOneOutcome =
    (files : Files) (input output : List ℕ) (subtune calls : ℕ) (lines others : List (List ℕ))
    (write other : Option (List ℕ × List ℕ)) → Done (Chart input output subtune calls) files lines write →
    Done (Chart input output subtune calls) files others other → (lines ≡ others) × (write ≡ other)

-- ---- each status and its cause

-- a status is due, with no file written
abbrev pub IsRefused : List (List ℕ) → Files → ℕ → Type 0
IsRefused words files status = IsDue words files status None

-- when each status is due: 0 where the words name a job whose stages all pass, 1 where they name none, and each other
-- one where they name a job that comes to a stage of this status, which ends the run
pub record StatusesHaveCauses : Type 0 where
  pub done : (words : List (List ℕ)) (files : Files) →
      ((output : Option (List ℕ)) × IsDue words files 0 output) ↔
      ((job : Job) × WordsOf words job × AllPass files (stages job))
  pub usage : (words : List (List ℕ)) (files : Files) → IsRefused words files 1 ↔ IsNoForm words
  pub others : (words : List (List ℕ)) (files : Files) (status : ℕ) → status ≢ 0 → status ≢ 1 →
      IsRefused words files status ↔
      ((stage : Stage) × (lines : List (List ℕ)) × (status ≡ status_of stage) × ComesTo words files stage ×
      Ends files stage lines)

-- a stage passes where what it asks for is there
abbrev pub StagesPass : Type 0
StagesPass = (files : Files) (stage : Stage) → IsMet files stage → Passes files stage

-- of a song that a file spells, the stage passes exactly where the song can be played
abbrev pub PlayableSongsPass : Type 0
PlayableSongsPass = (files : Files) (name : List ℕ) (song : Song) → HoldsSong files name song →
    Passes files (CanBePlayed name) ↔ IsPlayable song

-- ---- which songs are packed

-- the image of a song is at most as long as the song's data and the bound of a player's code
abbrev pub ImagesAreBounded : Type 0
ImagesAreBounded =
    (song : Song) (options : Options) (used : UsedSets) (features count : ℕ) → IsImageLength song options count →
    AreUsedSets song used → AreFeatures song features → count ≤ data_size song used + code_bound features options

-- and no longer than that of the song packed as it is
abbrev pub NoImageIsLonger : Type 0
NoImageIsLonger =
    (song : Song) (options : Options) (own count : ℕ) → KeepsLimits song → IsPlayable song →
    IsLengthOf song options own → IsImageLength song options count → count ≤ own

-- the image of a song is refused only where the song's data and the bound of a player's code pass $D000 too
abbrev pub OnlyLargeImagesAreRefused : Type 0
OnlyLargeImagesAreRefused =
    (files : Files) (name : List ℕ) (address : ℕ) (options : Options) (lines : List (List ℕ)) (song : Song)
    (used : UsedSets) (features : ℕ) → Ends files (HasRoomForImage name address options) lines →
    HoldsSong files name song → AreUsedSets song used → AreFeatures song features →
    0xD000 < address + data_size song used + code_bound features options

-- a file with a song that can be played, with patterns that are short, and small enough for its image at the address
pub record HoldsSmallSong (files : Files) (name : List ℕ) (address : ℕ) (options : Options) : Type 0 where
  pub song : Song
  pub used : UsedSets
  pub features : ℕ
  pub holds : HoldsSong files name song
  pub fits : length holds.bytes ≤ input_limit
  pub playable : IsPlayable song
  pub are_used : AreUsedSets song used
  pub are_features : AreFeatures song features
  pub short : AreShort song used
  pub room : address + data_size song used + code_bound features options ≤ 0xD000

-- it is packed: all stages pass
abbrev pub SmallSongsArePacked : Type 0
SmallSongsArePacked =
    (files : Files) (input output : List ℕ) (psid : Bool) (address zero_page : ℕ) (options : Options) (chip : Chip) →
    HoldsSmallSong files input address options →
    AllPass files (stages (Pack input output psid address zero_page options chip))

-- what is told of a song's costs adds up to the length of the image in each file that `pack` writes of it
abbrev pub CostsAreTheImages : Type 0
CostsAreTheImages =
    (song : Song) (options : Options) (lines : List (List ℕ)) (psid : Bool) (address zero_page : ℕ) (chip : Chip)
    (file : List ℕ) → (told : TellCosts song options lines) →
    (written : IsWrittenFile psid address zero_page song options chip file) →
    length written.packed.image ≡ all_bytes (costs_of told.chosen told.used told.asked told.numbers options)

-- ---- packed files

-- a PSID file that `pack` writes for an allowed address is a packed PSID file of its song
abbrev pub WrittenFilesArePacked : Type 0
WrittenFilesArePacked =
    (song : Song) (options : Options) (address zero_page : ℕ) (chip : Chip) (file : List ℕ) → KeepsLimits song →
    IsAddress address → IsWrittenFile true address zero_page song options chip file → IsPackedPsid song options file

-- a packed PSID file is read, has the subtune, and its calls return with the registers of the subtune's trace, for any
-- number of frames
abbrev pub PackedFilesPlay : Type 0
PackedFilesPlay =
    (song : Song) (options : Options) (file : List ℕ) (subtune frames : ℕ) → IsPackedPsid song options file →
    1 ≤ subtune →
    subtune ≤ length (playable_subtunes song) →
    (psid : Psid) × (psid_read file ≡ Ok psid) × HasSubtune psid subtune × (after : Machine) ×
    FirstCalls (loaded psid) (subtune - 1) (frames + 1) (first_traces options song (subtune - 1) (frames + 1)) after

-- ---- listings and scripts

-- what `disasm` wrote of a PSID file is a listing that `asm` is asked for, and so gives its image back at its address;
-- the file's bytes are bytes
abbrev pub ListingsGoBack : Type 0
ListingsGoBack =
    (words : List (List ℕ)) (files : Files) (input listing output : List ℕ) (lines : List (List ℕ))
    (write : Option (List ℕ × List ℕ)) (psid : Psid) → HoldsPsid files input psid → IsWord psid.load →
    AreBytes psid.image → Done (Disasm input listing) files lines write → WordsOf words (Asm listing output) →
    AssemblesListing words (files_after files write) psid.load psid.image output

-- what `show` wrote of a song is a script that `edit` is asked to do on the empty song, in a file beside it; so it gives the
-- song again, in the spelling that `copy` gives
abbrev pub ScriptsMakeSongsAgain : Type 0
ScriptsMakeSongsAgain =
    (words : List (List ℕ)) (files : Files) (input script empty output : List ℕ) (lines : List (List ℕ))
    (write : Option (List ℕ × List ℕ)) (song : Song) → HoldsSong files input song →
    AllPass files (stages (Show input script)) → Done (Show input script) files lines write →
    (holds : HoldsSong (files_after files write) empty empty_song) → length holds.bytes ≤ input_limit →
    WordsOf words (Edit empty script output) → AsksToMake words (files_after files write) song output

-- ---- bounds

-- what `bound` wrote of a song beside its file is admitted by `bound-check`, which tells the same of it
abbrev pub WrittenBoundsAreAdmitted : Type 0
WrittenBoundsAreAdmitted =
    (files : Files) (input output : List ℕ) (options : Options) (lines : List (List ℕ))
    (write : Option (List ℕ × List ℕ)) → input ≢ output → AllPass files (stages (Bound input output options)) →
    Done (Bound input output options) files lines write →
    AllPass (files_after files write) (stages (BoundCheck input output options))
    × Done (BoundCheck input output options) (files_after files write) lines None

-- no call of a file that `pack` writes of a song, for either system, takes more clock cycles than are told of numbers that
-- are admitted for the song's program, after any calls and whatever the rest of memory holds
abbrev pub ToldBoundsAreKept : Type 0
ToldBoundsAreKept =
    (song : Song) (options : Options) (b : Blocks) (text : List ℕ) (bounds : CallBounds) (system : System) (psid : Bool)
    (address zero_page : ℕ) (chip : Chip) (file : List ℕ) → HasProgram song options b → IsAdmittedText b text bounds →
    (written : IsWrittenFile psid address zero_page song (record options { system = system }) chip file) →
    KeepsWithin written.packed.image address song bounds

-- and the least numbers are such
abbrev pub LeastTextsAreAdmitted : Type 0
LeastTextsAreAdmitted =
    (song : Song) (options : Options) (b : Blocks) → HasProgram song options b → (bounds : CallBounds)
    × (bounds.init ≡ bound_by (least_init b)) × (bounds.play ≡ bound_by (least_play b))
    × IsAdmittedText b (numbers_text (least_init b ++ least_play b)) bounds

-- ---- joined songs

-- what a file of two songs holds: the joined song, which plays what each of them plays
pub record HoldsBoth (first second : Song) (output : List ℕ) (now : Option Files) : Type 0 where
  pub file : option_and_then (λ files. file_of files output) now ≡ Some (canonical (joined first second))
  pub first_song : (o : Options) (k i : ℕ) → IsSpeed o.speed → k < length (playable_subtunes first) →
      trace_with o (joined first second) k i ≡ trace_with o first k i
  pub second_song : (o : Options) (k i : ℕ) → IsSpeed o.speed → k < length (playable_subtunes second) →
      trace_with o (joined first second) (length (playable_subtunes first) + k) i ≡ trace_with o second k i

-- so it is of a file that was joined
abbrev pub JoinedFilesHoldBoth : Type 0
JoinedFilesHoldBoth =
    (files : Files) (first second : Song) (output : List ℕ) (now : Option Files) →
    HoldsJoined files first second output now → HoldsBoth first second output now
