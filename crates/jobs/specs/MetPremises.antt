-- What the clauses on statuses, packing and running ask for: each status but those of failing devices and of running out
-- of memory is ordinary; a small song that a file spells is asked for no more; a packed file is never too long to be run, and
-- no call of it stops what measures it.
use Rattle.std.specs.Prelude.{◌≡◌, ◌≢◌, ◌↔◌, ℕ, ◌+◌, ◌-◌, ◌<◌, ◌≤◌, Bool, List, [], ◌∷◌, ◌++◌, Option, Some, length}
use Rattle.goat_io.specs.Files.{Files, file_of}
use Rattle.song_model.specs.declared.songs.Song.{Song}
use Rattle.song_model.specs.LookUp.{playable_subtunes}
use Rattle.play_model.specs.declared.options.Options.{Options}
use Rattle.play_model.specs.Playable.{IsPlayable}
use Rattle.play_model.specs.Features.{AreFeatures}
use Rattle.packing_rules.specs.UsedSets.{UsedSets, AreUsedSets}
use Rattle.packed_form.specs.CodeBounds.{code_bound}
use Rattle.packing_rules.specs.SongSizes.{data_size}
use Rattle.song_pack.specs.Answers.{AreShort}
use Rattle.base.specs.Bytes.{AreBytes, IsWord}
use Rattle.cpu6502.specs.declared.memory.TheConstants.{MEMORY_SIZE}
use Rattle.cpu6502.specs.declared.machine.Machine.{Machine}
use Rattle.cpu6502.specs.Call.{Called, call_cycles}
use Rattle.cpu6502.specs.Code.{IsMachine}
use Rattle.psid.specs.declared.header.Psid.{Psid}
use Rattle.sid_run.specs.State.{loaded}
use Rattle.song_length.specs.declared.measuring.Repeat.{Repeat}
use Rattle.song_length.specs.declared.measuring.Measured.{Measured}
use Rattle.song_length.specs.Plays.{Lead}
use Rattle.song_length.specs.Told.{IsMeasured}
use Rattle.song_length.specs.Laws.{GoesOnAsTold}
use Rattle.faithful.specs.Faithful.{AgreesOn}
use Rattle.faithful.specs.Histories.{LeadTo}
use Rattle.song_join.specs.Refusals.{CanBeJoined}
use Rattle.asm_text.specs.Printing.{listing_of}
use Rattle.song_model.specs.Limits.{KeepsLimits}
use Rattle.song_model.specs.Silence.{empty_song}
use Rattle.song_script.specs.Shown.{script_of}
use Rattle.command_line.specs.declared.chip.Chip.{Chip}
use Rattle.command_line.specs.declared.topics.Topic.{Topic}
use Rattle.command_line.specs.Words.{Pack, Run, Asm, Join, Edit, Selftest, Help, Version, Show, Parts, Bound}
use Rattle.command_line.specs.Words.{Measure, Chart}
use Rattle.command_line.specs.Forms.{WordsOf}
use Rattle.jobs.specs.Stages.{HoldsSong, HoldsPsid, AllPass, input_limit, script_limit}
use Rattle.jobs.specs.Jobs.{stages}
use Rattle.jobs.specs.Answers.{IsOrdinary, IsPrinted, IsBeforeWriting, IsPackedPsid, RunsPacked, AssemblesListing}
use Rattle.jobs.specs.Answers.{AsksToMake, AsksToJoin, AsksToMeasure, GoOnAsTold, TellsForEver, RunsRepeating}
use Rattle.jobs.specs.Everywhere.{song_calls, PlaysAnywhere, TakesAsTold}

-- 0 and each other status but 4, 9, 10 and 14 is ordinary, all lines are printed with each but 10 and 14, and nothing is
-- written with each but 0, 9, 10 and 14
pub record StatusesAreOrdinary : Type 0 where
  pub done : IsOrdinary 0
  pub done_printed : IsPrinted 0
  pub ordinary : (status : ℕ) → status ≢ 4 → status ≢ 9 → status ≢ 10 → status ≢ 14 → IsOrdinary status
  pub printed : (status : ℕ) → status ≢ 10 → status ≢ 14 → IsPrinted status
  pub before_writing : (status : ℕ) → status ≢ 0 → status ≢ 9 → status ≢ 10 → status ≢ 14 →
      IsBeforeWriting status
  pub read_fault : ¬ IsOrdinary 4
  pub write_fault : ¬ IsOrdinary 9
  pub unprinted : ¬ IsOrdinary 10
  pub no_memory : ¬ IsOrdinary 14
  pub sink_fault : ¬ IsPrinted 10
  pub want : ¬ IsPrinted 14
  pub written : ¬ IsBeforeWriting 0

-- a song is packed where each of these holds of it and of its file
abbrev pub FittingSongsArePacked : Type 0
FittingSongsArePacked =
    (files : Files) (input output : List ℕ) (psid : Bool) (address zero_page : ℕ) (options : Options) (chip : Chip)
    (song : Song) (used : UsedSets) (features : ℕ) → (holds : HoldsSong files input song) →
    length holds.bytes ≤ input_limit →
    IsPlayable song → AreUsedSets song used → AreFeatures song features → AreShort song used →
    address + data_size song used + code_bound features options ≤ 0xD000 →
    AllPass files (stages (Pack input output psid address zero_page options chip))

-- and numbers that bound its calls are written where these hold of it
abbrev pub PlayableSongsAreBounded : Type 0
PlayableSongsAreBounded =
    (files : Files) (input output : List ℕ) (options : Options) (song : Song) (used : UsedSets) →
    (holds : HoldsSong files input song) → length holds.bytes ≤ input_limit → IsPlayable song → AreUsedSets song used →
    AreShort song used → AllPass files (stages (Bound input output options))

-- the listing of an image under the name that the words have is one that they have assembled, and the longest is read:
-- that of an image that fills the memory
abbrev pub ListingsAreAssembled : Type 0
ListingsAreAssembled =
    (words : List (List ℕ)) (files : Files) (input output : List ℕ) (origin : ℕ) (image : List ℕ) →
    WordsOf words (Asm input output) → file_of files input ≡ Some (listing_of origin image) → IsWord origin →
    AreBytes image → origin + length image ≤ MEMORY_SIZE → AssemblesListing words files origin image output
    × AllPass files (stages (Asm input output))

-- a file that spells the empty song and one that is a song's script, under the names that the words have, are asked for
-- the song, and it is made
abbrev pub ScriptsAreDone : Type 0
ScriptsAreDone =
    (words : List (List ℕ)) (files : Files) (input script output : List ℕ) (song : Song) →
    WordsOf words (Edit input script output) → (holds : HoldsSong files input empty_song) →
    length holds.bytes ≤ input_limit → KeepsLimits song → file_of files script ≡ Some (script_of song) →
    length (script_of song) ≤ script_limit → AsksToMake words files song output
    × AllPass files (stages (Edit input script output))

-- the jobs that read no file, and two beside them that do
pub record SomeJobsHaveNoStage : Type 0 where
  pub selftest : (number : ℕ) → stages (Selftest number) ≡ []
  pub help : (topic : Topic) → stages (Help topic) ≡ []
  pub version : stages Version ≡ []
  pub show : (input output : List ℕ) → stages (Show input output) ≢ []
  pub parts : (input : List ℕ) (options : Options) → stages (Parts input options) ≢ []

-- two files that spell songs, under the names that the words have, are asked to be joined; where they aren't too long and
-- the songs can be played and joined, they are
abbrev pub JoinableSongsAreJoined : Type 0
JoinableSongsAreJoined =
    (words : List (List ℕ)) (files : Files) (input other output : List ℕ) (first second : Song) →
    WordsOf words (Join input other output) → (holds : HoldsSong files input first) →
    (other_holds : HoldsSong files other second) → AsksToJoin words files first second output
    × (length holds.bytes ≤ input_limit → length other_holds.bytes ≤ input_limit → IsPlayable first →
    IsPlayable second → CanBeJoined first second → AllPass files (stages (Join input other output)))

-- a packed PSID file under the name that the words have is one that they run: no such file is too long
abbrev pub PackedFilesAreRun : Type 0
PackedFilesAreRun =
    (words : List (List ℕ)) (files : Files) (song : Song) (options : Options) (input file : List ℕ)
    (subtune frames : ℕ) → WordsOf words (Run input subtune frames) → file_of files input ≡ Some file →
    IsPackedPsid song options file → 1 ≤ subtune → subtune ≤ length (playable_subtunes song) →
    RunsPacked words files song options subtune frames

-- it is measured, and each subtune that it has is drawn: all stages pass
abbrev pub PackedFilesAreMeasured : Type 0
PackedFilesAreMeasured =
    (files : Files) (song : Song) (options : Options) (input output file : List ℕ) (subtune calls : ℕ) →
    file_of files input ≡ Some file → IsPackedPsid song options file → 1 ≤ subtune →
    subtune ≤ length (playable_subtunes song) →
    AllPass files (stages (Measure input calls)) × AllPass files (stages (Chart input output subtune calls))

-- What the clauses on measured files ask for, and no more: words and a file, for what is printed; words, a file and what is
-- measured of it, for a run that never stops; and for a play of an image, any machine that agrees with one of the image's own
-- on its bytes.
pub record ToldForEverIsAsked : Type 0 where
  pub measuring : (words : List (List ℕ)) (files : Files) (input : List ℕ) (calls : ℕ) (psid : Psid) →
      WordsOf words (Measure input calls) → HoldsPsid files input psid → AsksToMeasure words files psid calls
  pub running : (words : List (List ℕ)) (files : Files) (input : List ℕ) (subtune frames calls : ℕ) (psid : Psid)
      (measured : Measured) (repeat : Repeat) → WordsOf words (Run input subtune frames) → HoldsPsid files input psid →
      IsMeasured psid (subtune - 1) calls measured → measured.repeat ≡ Some repeat → RunsRepeating words files
  pub anywhere : (image : List ℕ) (address : ℕ) (song : Song) (k n number steps : ℕ) (before machine after : Machine) →
      LeadTo image address song (song_calls k n) before → IsMachine machine → AgreesOn image address before machine →
      number < 256 → Called machine (address + 3) number steps after →
      PlaysAnywhere image address song k n machine number steps after

-- What they say: each subtune that repeats, wherever it stands among the others, goes on as it is told; its state comes again;
-- and no play of the image takes more clock cycles than the one that is told as the dearest.
pub record ToldForEverSays : Type 0 where
  pub each : (psid : Psid) (subtune : ℕ) (earlier later : List Measured) (measured : Measured) (repeat : Repeat) →
      GoOnAsTold psid subtune (earlier ++ measured ∷ later) → measured.repeat ≡ Some repeat →
      GoesOnAsTold psid (subtune + length earlier) measured repeat
  pub printed : (psid : Psid) (calls : ℕ) (before after : Option (List ℕ)) →
      (tells : TellsForEver psid calls before after) → GoOnAsTold psid 0 tells.told
  pub states : (psid : Psid) (song n : ℕ) (measured : Measured) (repeat : Repeat) (machine : Machine) →
      (goes : GoesOnAsTold psid song measured repeat) → repeat.from ≤ n →
      Lead (loaded psid).play n goes.first machine ↔ Lead (loaded psid).play (n + repeat.length) goes.first machine
  pub anywhere : (image : List ℕ) (address : ℕ) (song : Song) (k n number steps : ℕ) (psid : Psid) (measured : Measured)
      (repeat : Repeat) (machine after : Machine) → TakesAsTold image address song k psid measured →
      measured.repeat ≡ Some repeat → PlaysAnywhere image address song k n machine number steps after →
      call_cycles machine (address + 3) number steps ≤ measured.dearest.cycles
