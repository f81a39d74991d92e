-- What belongs to each job: the stages of its run, and what it does where all pass. It is a relation, since the player's
-- bytes may be chosen.
use Rattle.std.specs.Prelude.{◌≡◌, ℕ, ◌+◌, ◌-◌, ◌<◌, ◌≤◌, List, [], ◌∷◌, ◌++◌, Option, Some, None, length}
use Rattle.goat_io.specs.Files.{Files}
use Rattle.song_model.specs.declared.songs.Song.{Song}
use Rattle.song_model.specs.Canonical.{canonical}
use Rattle.song_model.specs.LookUp.{playable_subtunes}
use Rattle.song_gen.specs.GeneratedSong.{generated_song}
use Rattle.usage.specs.declared.parts.UsedParts.{UsedParts}
use Rattle.usage.specs.Parts.{AreUsedParts}
use Rattle.psid.specs.declared.header.Psid.{Psid}
use Rattle.cpu6502.specs.declared.machine.Machine.{Machine}
use Rattle.song_join.specs.Joined.{joined}
use Rattle.song_join.specs.Refusals.{CanBeJoined}
use Rattle.asm_text.specs.Printing.{listing_of}
use Rattle.sid_run.specs.State.{loaded}
use Rattle.command_line.specs.Words as asked
use Rattle.command_line.specs.Words.{Job}
use Rattle.jobs.specs.Stages.{Stage, IsThere, Fits, SpellsSong, CanBePlayed, HasShortPatterns, HasShortScript}
use Rattle.jobs.specs.Stages.{HasRoomForImage, HasPlayableSubtune, CanBeEdited, IsPsid, OffersSubtune, CallsReturn}
use Rattle.jobs.specs.Stages.{SubtunesReturn, SubtuneReturns}
use Rattle.jobs.specs.Stages.{CanBeAssembled, GoTogether, IsAdmitted, HoldsBytes, HoldsSong, HoldsPsid, HoldsListing}
use Rattle.jobs.specs.Stages.{IsEditedIn, input_limit, script_limit, listing_limit, certificate_limit}
use Rattle.jobs.specs.SongPrograms.{HasProgram}
use Rattle.jobs.specs.Certificates.{IsAdmittedText}
use Rattle.cycle_bound.specs.Rules.{bound_by}
use Rattle.player_bound.specs.declared.bounds.CallBounds.{CallBounds}
use Rattle.player_bound.specs.Programs.{Blocks, least_init, least_play}
use Rattle.bound_text.specs.Texts.{numbers_text}
use Rattle.jobs.specs.Packed.{IsWrittenFile, raw_file}
use Rattle.jobs.specs.Calls.{FirstCalls}
use Rattle.command_line.specs.RegisterText.{register_lines}
use Rattle.jobs.specs.Traces.{first_traces}
use Rattle.jobs.specs.Lines.{wrote_line, check_line, selftest_line, bound_line}
use Rattle.jobs.specs.Costs.{TellCosts}
use Rattle.jobs.specs.Lengths.{TellLengths, IsChart}
use Rattle.jobs.specs.Selftest.{register_sum, TakesSteps}
use Rattle.song_script.specs.Shown.{script_of}
use Rattle.command_line.specs.Topics.{help_lines, version_lines}

-- what a job does that passes all its stages: it prints these lines and writes nothing; or it writes such a file under
-- the name, and prints how many bytes it has; or it writes such a file, and prints these lines
pub data Deed : Type 1 where
  PrintsLines : (Files → List (List ℕ) → Type 0) → Deed
  WritesFile : (output : List ℕ) → (Files → List ℕ → Type 0) → Deed
  WritesAndPrints : (output : List ℕ) → (Files → List ℕ → List (List ℕ) → Type 0) → Deed

-- this number of calls, init and then play, return, and there is a line for each
pub record Shows (psid : Psid) (subtune calls : ℕ) (lines : List (List ℕ)) : Type 0 where
  pub registers : List (List ℕ)
  pub after : Machine
  pub returned : FirstCalls (loaded psid) (subtune - 1) calls registers after
  pub lines_are : lines ≡ register_lines registers

-- the stages of a job's run, in the order of its refusals; and what it does
pub record About : Type 1 where
  pub stages : List Stage
  pub does : Deed

abbrev pub about : Job → About
-- of a song a packed file is written, played with these options and made for this SID
about (asked.Pack input output psid address zero_page options chip) = record {
  stages = IsThere input ∷ Fits input input_limit ∷ SpellsSong input ∷ CanBePlayed input ∷ HasShortPatterns input ∷
      HasRoomForImage input address options ∷ [];
  does = WritesFile output (λ files file. (song : Song) × HoldsSong files input song ×
      IsWrittenFile psid address zero_page song options chip file);
}
-- of a song the canonical spelling is written
about (asked.Copy input output) = record {
  stages = IsThere input ∷ Fits input input_limit ∷ SpellsSong input ∷ [];
  does = WritesFile output (λ files file. (song : Song) × HoldsSong files input song × (file ≡ canonical song));
}
-- of a song that a script has edited the canonical spelling is written
about (asked.Edit input script output) = record {
  stages = IsThere input ∷ Fits input input_limit ∷ SpellsSong input ∷ IsThere script ∷ Fits script script_limit ∷
      CanBeEdited input script ∷ [];
  does = WritesFile output (λ files file. (song : Song) × (after : Song) × IsEditedIn files input script song after ×
      (file ≡ canonical after));
}
-- of a song it is told what it uses
about (asked.Check input) = record {
  stages = IsThere input ∷ Fits input input_limit ∷ SpellsSong input ∷ CanBePlayed input ∷ [];
  does = PrintsLines (λ files lines. (song : Song) × (parts : UsedParts) × HoldsSong files input song ×
      AreUsedParts song parts × (lines ≡ check_line (length (playable_subtunes song)) parts ∷ []));
}
-- of a song the calls are shown: its start, and then as many frames, played with these options
about (asked.Trace input subtune frames options) = record {
  stages = IsThere input ∷ Fits input input_limit ∷ SpellsSong input ∷ CanBePlayed input ∷
      HasPlayableSubtune input subtune ∷ [];
  does = PrintsLines (λ files lines. (song : Song) × HoldsSong files input song ×
      (lines ≡ register_lines (first_traces options song (subtune - 1) (frames + 1))));
}
-- of a PSID file the calls are shown: init, and play as often as there are frames
about (asked.Run input subtune frames) = record {
  stages = IsThere input ∷ Fits input input_limit ∷ IsPsid input ∷ OffersSubtune input subtune ∷
      CallsReturn input subtune frames ∷ [];
  does = PrintsLines (λ files lines. (psid : Psid) × HoldsPsid files input psid ×
      Shows psid subtune (frames + 1) lines);
}
-- the song of a number is made, traced and packed, and its file is run; no file is read or written
about (asked.Selftest number) = record {
  stages = [];
  does = PrintsLines (λ files lines. (steps : ℕ) × TakesSteps (generated_song number) steps ×
      (lines ≡ selftest_line number (length (playable_subtunes (generated_song number)))
      (register_sum (generated_song number)) steps ∷ []));
}
-- of a PSID file a listing of its image is written
about (asked.Disasm input output) = record {
  stages = IsThere input ∷ Fits input input_limit ∷ IsPsid input ∷ [];
  does = WritesFile output (λ files file. (psid : Psid) × HoldsPsid files input psid ×
      (file ≡ listing_of psid.load psid.image));
}
-- of a listing the bytes are written, behind their address
about (asked.Asm input output) = record {
  stages = IsThere input ∷ Fits input listing_limit ∷ CanBeAssembled input ∷ [];
  does = WritesFile output (λ files file. (origin : ℕ) × (image : List ℕ) × HoldsListing files input origin image ×
      (file ≡ raw_file origin image));
}
-- of two songs one is written
about (asked.Join input second output) = record {
  stages = IsThere input ∷ Fits input input_limit ∷ SpellsSong input ∷ CanBePlayed input ∷ IsThere second ∷
      Fits second input_limit ∷ SpellsSong second ∷ CanBePlayed second ∷ GoTogether input second ∷ [];
  does = WritesFile output (λ files file. (song : Song) × (other : Song) × HoldsSong files input song ×
      HoldsSong files second other × CanBeJoined song other × (file ≡ canonical (joined song other)));
}
-- of the forms it is told, or of the version; no file is read or written
about (asked.Help topic) = record { stages = []; does = PrintsLines (λ files lines. lines ≡ help_lines topic) }
about asked.Version = record { stages = []; does = PrintsLines (λ files lines. lines ≡ version_lines) }
-- of a song a script that makes it is written
about (asked.Show input output) = record {
  stages = IsThere input ∷ Fits input input_limit ∷ SpellsSong input ∷ HasShortScript input ∷ [];
  does = WritesFile output (λ files file. (song : Song) × HoldsSong files input song × (file ≡ script_of song));
}
-- of a song it is told what it costs when it is packed, played with these options
about (asked.Parts input options) = record {
  stages = IsThere input ∷ Fits input input_limit ∷ SpellsSong input ∷ CanBePlayed input ∷ HasShortPatterns input ∷ [];
  does = PrintsLines (λ files lines. (song : Song) × HoldsSong files input song × TellCosts song options lines);
}
-- of a song the least numbers are written that bound the clock cycles of its packed song's calls, those of init in front,
-- and the first ones are told
about (asked.Bound input output options) = record {
  stages = IsThere input ∷ Fits input input_limit ∷ SpellsSong input ∷ CanBePlayed input ∷ HasShortPatterns input ∷ [];
  does = WritesAndPrints output (λ files file lines. (song : Song) × (b : Blocks) × HoldsSong files input song ×
      HasProgram song options b × (file ≡ numbers_text (least_init b ++ least_play b)) ×
      (lines ≡ bound_line (bound_by (least_init b)) (bound_by (least_play b)) ∷ []));
}
-- of such numbers the first ones are told, where all are admitted
about (asked.BoundCheck input certificate options) = record {
  stages = IsThere input ∷ Fits input input_limit ∷ SpellsSong input ∷ CanBePlayed input ∷ IsThere certificate ∷
      Fits certificate certificate_limit ∷ HasShortPatterns input ∷ IsAdmitted input certificate options ∷ [];
  does = PrintsLines (λ files lines. (song : Song) × (b : Blocks) × (text : List ℕ) × (bounds : CallBounds) ×
      HoldsSong files input song × HasProgram song options b × HoldsBytes files certificate text ×
      IsAdmittedText b text bounds × (lines ≡ bound_line bounds.init bounds.play ∷ []));
}
-- of each subtune of a PSID file it is told how long it is, and what its dearest call costs
about (asked.Measure input calls) = record {
  stages = IsThere input ∷ Fits input input_limit ∷ IsPsid input ∷ SubtunesReturn input calls ∷ [];
  does = PrintsLines (λ files lines. (psid : Psid) × HoldsPsid files input psid ×
      TellLengths psid calls psid.header.songs lines);
}
-- of a subtune of a PSID file, counted from 1, a picture is written of what each of its first plays costs
about (asked.Chart input output subtune calls) = record {
  stages = IsThere input ∷ Fits input input_limit ∷ IsPsid input ∷ OffersSubtune input subtune ∷
      SubtuneReturns input subtune calls ∷ [];
  does = WritesFile output (λ files file. (psid : Psid) × HoldsPsid files input psid × IsChart psid subtune calls file);
}

abbrev pub stages : Job → List Stage
stages job = (about job).stages

-- the name of the file that is written, if one is
abbrev pub output_under : Deed → Option (List ℕ)
output_under (PrintsLines text) = None
output_under (WritesFile output holds) = Some output
output_under (WritesAndPrints output holds) = Some output

abbrev pub output_of : Job → Option (List ℕ)
output_of job = output_under (about job).does

-- the bytes are written under the name, and their number is printed
pub record Writes (output file : List ℕ) (lines : List (List ℕ)) (write : Option (List ℕ × List ℕ)) : Type 0 where
  pub lines_are : lines ≡ wrote_line (length file) ∷ []
  pub write_is : write ≡ Some (output, file)

-- it is done with these lines, and this name and these bytes written
abbrev pub DoneBy : Deed → Files → List (List ℕ) → Option (List ℕ × List ℕ) → Type 0
DoneBy (PrintsLines text) files lines write = text files lines × (write ≡ None)
DoneBy (WritesFile output holds) files lines write = (file : List ℕ) × holds files file × Writes output file lines write
DoneBy (WritesAndPrints output holds) files lines write =
    (file : List ℕ) × holds files file lines × (write ≡ Some (output, file))

abbrev pub Done : Job → Files → List (List ℕ) → Option (List ℕ × List ℕ) → Type 0
Done job files lines write = DoneBy (about job).does files lines write

-- lines that a stage prints before it is known whether it ends the run: those of the first calls, which have returned, or
-- of the first subtunes
abbrev pub Prints : Files → Stage → List (List ℕ) → Type 0
Prints files (CallsReturn name subtune frames) lines =
    (psid : Psid) × HoldsPsid files name psid × (calls : ℕ) × (calls ≤ frames + 1) × Shows psid subtune calls lines
Prints files (SubtunesReturn name calls) lines =
    (psid : Psid) × HoldsPsid files name psid × (subtunes : ℕ) × (subtunes ≤ psid.header.songs)
    × TellLengths psid calls subtunes lines
Prints files _ lines = ⊥

-- lines of a stage behind which the run may be out of memory before the next one is known: those of the first subtunes, but
-- not of all
abbrev pub Awaits : Files → Stage → List (List ℕ) → Type 0
Awaits files (SubtunesReturn name calls) lines =
    (psid : Psid) × HoldsPsid files name psid × (subtunes : ℕ) × (subtunes < psid.header.songs)
    × TellLengths psid calls subtunes lines
Awaits files _ lines = ⊥
