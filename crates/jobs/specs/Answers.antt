-- What the answers say, in the top call's clauses.
use Rattle.std.specs.Prelude.{◌≡◌, ◌≢◌, ℕ, ◌+◌, ◌-◌, ◌≤◌, List, [], ◌∷◌, Option, Some, length, true}
use Rattle.std.specs.List.{concat}
use Rattle.goat_io.specs.Count.{Rose}
use Rattle.goat_io.specs.Files.{Files, file_of}
use Rattle.goat_io.specs.Written.{told_with_piece}
use Rattle.song_model.specs.declared.songs.Song.{Song}
use Rattle.song_model.specs.Limits.{KeepsLimits}
use Rattle.song_model.specs.LookUp.{playable_subtunes}
use Rattle.song_model.specs.Canonical.{canonical}
use Rattle.play_model.specs.declared.options.Options.{Options}
use Rattle.song_join.specs.Joined.{joined}
use Rattle.song_join.specs.JoinLaws.{IsWholeJoin}
use Rattle.packed_form.specs.ImagePlaces.{IsAddress}
use Rattle.base.specs.Bytes.{AreBytes, IsWord}
use Rattle.cpu6502.specs.declared.memory.TheConstants.{MEMORY_SIZE}
use Rattle.asm_text.specs.Printing.{listing_of}
use Rattle.song_model.specs.Silence.{empty_song}
use Rattle.song_script.specs.Shown.{script_of}
use Rattle.command_line.specs.declared.chip.Chip.{Chip}
use Rattle.psid.specs.declared.header.Psid.{Psid}
use Rattle.song_length.specs.declared.measuring.Repeat.{Repeat}
use Rattle.song_length.specs.declared.measuring.Measured.{Measured}
use Rattle.song_length.specs.Told.{IsMeasured}
use Rattle.song_length.specs.Laws.{GoesOnAsTold}
use Rattle.command_line.specs.Words.{Job, Run, Asm, Join, Edit, Measure}
use Rattle.jobs.specs.Lengths.{AreMeasured, measured_lines}
use Rattle.jobs.specs.Stages.{AllPass, HoldsSong, HoldsPsid, input_limit, script_limit}
use Rattle.command_line.specs.Forms.{WordsOf}
use Rattle.jobs.specs.Jobs.{stages, Done}
use Rattle.jobs.specs.Outcome.{Outcome, files_after}
use Rattle.jobs.specs.Packed.{IsPackedFile}
use Rattle.jobs.specs.Due.{IsOneOf}

-- a status that no failing device and no running out of memory gives
pub record IsOrdinary (status : ℕ) : Type 0 where
  pub no_read_fault : status ≢ 4
  pub no_write_fault : status ≢ 9
  pub no_sink_fault : status ≢ 10
  pub no_want : status ≢ 14

-- all lines were printed: no put failed, and memory was found
pub record IsPrinted (status : ℕ) : Type 0 where
  pub no_sink_fault : status ≢ 10
  pub no_want : status ≢ 14

-- a status with which no file is written
pub record IsBeforeWriting (status : ℕ) : Type 0 where
  pub not_done : status ≢ 0
  pub no_write_fault : status ≢ 9
  pub no_sink_fault : status ≢ 10
  pub no_want : status ≢ 14

-- the job that the words name was done, each of its stages passes, and the files are as it leaves them
pub record HoldsDone (words : List (List ℕ)) (files : Files) (files_now : Option Files) : Type 0 where
  pub job : Job
  pub form : WordsOf words job
  pub pass : AllPass files (stages job)
  pub lines : List (List ℕ)
  pub write : Option (List ℕ × List ℕ)
  pub done : Done job files lines write
  pub files_are : files_now ≡ Some (files_after files write)

-- the outcome came about: its lines were appended, and the files are as it says
pub record ComesAbout (words : List (List ℕ)) (files : Files) (status : ℕ) (printed printed_now : Option (List ℕ))
    (files_now : Option Files) : Type 0 where
  pub lines : List (List ℕ)
  pub write : Option (List ℕ × List ℕ)
  pub outcome : Outcome words files status lines write
  pub appended : printed_now ≡ told_with_piece printed (concat lines)
  pub files_are : files_now ≡ Some (files_after files write)

-- the status comes only where its cause holds, and where that holds it comes, or one of those in its place
pub record ComesWhere (Cause : Type 0) (answer status : ℕ) (instead : List ℕ) : Type 0 where
  pub only : answer ≡ status → Cause
  pub always : Cause → IsOneOf (status ∷ instead) answer

-- a sink's count rose where the status tells of a failed put, and with no other
pub record SinkCounted (status before after : ℕ) : Type 0 where
  pub rose : status ≡ 10 → Rose before after
  pub stays : status ≢ 10 → after ≡ before

-- the song keeps the limits of the format, and the file is a packed PSID file of the song, played with these options,
-- for some allowed address, some zero page and one of the SIDs
pub record IsPackedPsid (song : Song) (options : Options) (file : List ℕ) : Type 0 where
  pub keeps : KeepsLimits song
  pub address : ℕ
  pub zero_page : ℕ
  pub place : IsAddress address
  pub chip : Chip
  pub packed : IsPackedFile true address zero_page song options chip file

-- the words ask for a listing to be assembled that is the listing of an image at an origin
pub record AssemblesListing (words : List (List ℕ)) (files : Files) (origin : ℕ) (image output : List ℕ) : Type 0 where
  pub input : List ℕ
  pub form : WordsOf words (Asm input output)
  pub found : file_of files input ≡ Some (listing_of origin image)
  pub place : IsWord origin
  pub bytes : AreBytes image
  pub fits : origin + length image ≤ MEMORY_SIZE

-- the words ask for the script of a song to be done on the empty song
pub record AsksToMake (words : List (List ℕ)) (files : Files) (song : Song) (output : List ℕ) : Type 0 where
  pub input : List ℕ
  pub script : List ℕ
  pub form : WordsOf words (Edit input script output)
  pub empty : HoldsSong files input empty_song
  pub short : length empty.bytes ≤ input_limit
  pub limits : KeepsLimits song
  pub found : file_of files script ≡ Some (script_of song)
  pub fits : length (script_of song) ≤ script_limit

-- the words ask for the songs in two files to be joined
pub record AsksToJoin (words : List (List ℕ)) (files : Files) (first second : Song) (output : List ℕ) : Type 0 where
  pub input : List ℕ
  pub other : List ℕ
  pub form : WordsOf words (Join input other output)
  pub holds : HoldsSong files input first
  pub other_holds : HoldsSong files other second

-- the joined song was written, which can be played and plays what both songs play
pub record HoldsJoined (files : Files) (first second : Song) (output : List ℕ) (files_now : Option Files) : Type 0 where
  pub files_are : files_now ≡ Some (files_after files (Some (output, canonical (joined first second))))
  pub whole : IsWholeJoin (joined first second) first second

-- the words ask for the subtunes of a PSID file to be measured
pub record AsksToMeasure (words : List (List ℕ)) (files : Files) (psid : Psid) (calls : ℕ) : Type 0 where
  pub input : List ℕ
  pub form : WordsOf words (Measure input calls)
  pub holds : HoldsPsid files input psid

-- what is told of each of some subtunes, the first of which has this number, counted from 0, holds for ever where it repeats
abbrev pub GoOnAsTold : Psid → ℕ → List Measured → Type 0
GoOnAsTold psid subtune [] = Unit {0}
GoOnAsTold psid subtune (told ∷ rest) =
    ((repeat : Repeat) → told.repeat ≡ Some repeat → GoesOnAsTold psid subtune told repeat)
    × GoOnAsTold psid (subtune + 1) rest

-- a line was printed for each subtune of a PSID file, and what it tells holds for ever
pub record TellsForEver (psid : Psid) (calls : ℕ) (printed printed_now : Option (List ℕ)) : Type 0 where
  pub told : List Measured
  pub are : AreMeasured psid calls psid.header.songs told
  pub printed_is : printed_now ≡ told_with_piece printed (concat (measured_lines calls told))
  pub go_on : GoOnAsTold psid 0 told

-- the words ask for a run of a subtune of a PSID file, counted from 1, of which is told that it repeats
pub record RunsRepeating (words : List (List ℕ)) (files : Files) : Type 0 where
  pub input : List ℕ
  pub subtune : ℕ
  pub frames : ℕ
  pub form : WordsOf words (Run input subtune frames)
  pub psid : Psid
  pub holds : HoldsPsid files input psid
  pub calls : ℕ
  pub measured : Measured
  pub is : IsMeasured psid (subtune - 1) calls measured
  pub repeat : Repeat
  pub repeats : measured.repeat ≡ Some repeat

-- the words ask for a run of a packed PSID file of the song: of its subtune, counted from 1, with this number of frames
pub record RunsPacked (words : List (List ℕ)) (files : Files) (song : Song) (options : Options)
    (subtune frames : ℕ) : Type 0 where
  pub input : List ℕ
  pub form : WordsOf words (Run input subtune frames)
  pub file : List ℕ
  pub found : file_of files input ≡ Some file
  pub fits : length file ≤ input_limit
  pub is_packed : IsPackedPsid song options file
  pub first : 1 ≤ subtune
  pub last : subtune ≤ length (playable_subtunes song)
