-- What a run goes through, one stage after the other, and what ends it there. Each stage is a condition of the files
-- as they are before the run; the first one that doesn't pass ends the run, with the stage's status and lines. The
-- order of a job's stages is the order of its refusals.
use Rattle.std.specs.Prelude.{◌≡◌, ℕ, ◌+◌, ◌-◌, ◌<◌, ◌≤◌, List, [], ◌∷◌, ◌++◌}
use Rattle.std.specs.Prelude.{◌⊎◌, Some, None, Ok, Err, length}
use Rattle.goat_io.specs.Files.{Files, file_of, IsAbsent, IsAbove}
use Rattle.song_model.specs.declared.songs.Song.{Song}
use Rattle.song_model.specs.LookUp.{IsNumbered, playable_subtunes}
use Rattle.gts5.specs.declared.faults.SongFault.{SongFault}
use Rattle.gts5.specs.Spells.{Spells}
use Rattle.gts5.specs.Faults.{fault_of}
use Rattle.play_model.specs.declared.unplayable.Unplayable.{Unplayable}
use Rattle.play_model.specs.declared.options.Options.{Options}
use Rattle.play_model.specs.Playable.{IsPlayable, IsRefusedFor as IsUnplayableFor}
use Rattle.packing_rules.specs.UsedSets.{UsedSets, AreUsedSets}
use Rattle.song_pack.specs.Answers.{AreShort, IsTooLong}
use Rattle.song_join.specs.declared.faults.JoinFault.{JoinFault}
use Rattle.song_join.specs.Refusals.{CanBeJoined, IsRefusedFor}
use Rattle.edit_script.specs.Edited.{IsEditedBy, FailsAt}
use Rattle.song_script.specs.Shown.{script_of}
use Rattle.psid.specs.declared.header.Psid.{Psid}
use Rattle.psid.specs.declared.faults.PsidFault.{PsidFault}
use Rattle.psid.specs.Reading.{psid_read}
use Rattle.cpu6502.specs.declared.machine.Machine.{Machine}
use Rattle.cpu6502.specs.declared.stop.CallStop.{CallStop}
use Rattle.sid_run.specs.State.{loaded}
use Rattle.asm6502.specs.Assembly.{assembled_bytes}
use Rattle.asm_text.specs.declared.statements.Written.{Written}
use Rattle.asm_text.specs.declared.faults.TextFault.{TextFault}
use Rattle.asm_text.specs.Lines.{IsListing}
use Rattle.asm_text.specs.Laying.{listing_at}
use Rattle.asm_text.specs.Faults.{fault_in, IsFaultOf}
use Rattle.song_length.specs.declared.measuring.Measured.{Measured}
use Rattle.song_length.specs.Told.{IsMeasured, StopsAt}
use Rattle.jobs.specs.Calls.{HasSubtune, FirstCalls, StopsIn}
use Rattle.jobs.specs.Lengths.{AreMeasured, StopsMeasuring}
use Rattle.jobs.specs.Packed.{IsImageLength}
use Rattle.player_bound.specs.declared.bounds.CallBounds.{CallBounds}
use Rattle.player_bound.specs.Programs.{Blocks}
use Rattle.jobs.specs.SongPrograms.{HasProgram}
use Rattle.jobs.specs.Certificates.{IsAdmittedText, IsRefusedText}
use Rattle.command_line.specs.RegisterText.{register_lines}
use Rattle.jobs.specs.Lines.{missing_line, too_long_line, song_fault_line, unplayable_line, too_large_line}
use Rattle.jobs.specs.Lines.{image_too_large_line, script_too_large_line, script_line, psid_fault_line, no_subtune_line}
use Rattle.jobs.specs.Lines.{stop_line, listing_line, join_line}

-- the most bytes of a song or a PSID file
abbrev pub input_limit : ℕ
input_limit = 262144

-- the most bytes of a script
abbrev pub script_limit : ℕ
script_limit = 1048576

-- the most bytes of a listing that is assembled
abbrev pub listing_limit : ℕ
listing_limit = 1048576

-- the most bytes of the numbers of a bound
abbrev pub certificate_limit : ℕ
certificate_limit = 1048576

-- a condition of the files as they are before the run
pub data Stage : Type 0 where
  IsThere : (name : List ℕ) → Stage
  Fits : (name : List ℕ) (limit : ℕ) → Stage
  SpellsSong : (name : List ℕ) → Stage
  CanBePlayed : (name : List ℕ) → Stage
  HasShortPatterns : (name : List ℕ) → Stage
  HasShortScript : (name : List ℕ) → Stage
  HasRoomForImage : (name : List ℕ) (address : ℕ) (options : Options) → Stage
  HasPlayableSubtune : (name : List ℕ) (subtune : ℕ) → Stage
  CanBeEdited : (name script : List ℕ) → Stage
  IsPsid : (name : List ℕ) → Stage
  OffersSubtune : (name : List ℕ) (subtune : ℕ) → Stage
  CallsReturn : (name : List ℕ) (subtune frames : ℕ) → Stage
  SubtunesReturn : (name : List ℕ) (calls : ℕ) → Stage
  SubtuneReturns : (name : List ℕ) (subtune calls : ℕ) → Stage
  CanBeAssembled : (name : List ℕ) → Stage
  GoTogether : (name other : List ℕ) → Stage
  IsAdmitted : (name certificate : List ℕ) (options : Options) → Stage

-- the file with the name holds these bytes; spells the song; is this PSID file
abbrev pub HoldsBytes : Files → List ℕ → List ℕ → Type 0
HoldsBytes files name bytes = file_of files name ≡ Some bytes

pub record HoldsSong (files : Files) (name : List ℕ) (song : Song) : Type 0 where
  pub bytes : List ℕ
  pub found : HoldsBytes files name bytes
  pub spells : Spells bytes song

pub record HoldsPsid (files : Files) (name : List ℕ) (psid : Psid) : Type 0 where
  pub bytes : List ℕ
  pub found : HoldsBytes files name bytes
  pub reads : psid_read bytes ≡ Ok psid

-- the file with the name is a listing with which nothing is wrong, of this origin and these bytes
pub record HoldsListing (files : Files) (name : List ℕ) (origin : ℕ) (image : List ℕ) : Type 0 where
  pub text : List ℕ
  pub found : HoldsBytes files name text
  pub script : List Written
  pub listing : IsListing text origin script
  pub sound : fault_in origin script ≡ None
  pub image_is : image ≡ assembled_bytes 0 origin (listing_at origin script)

-- the file with the name spells the song, and the script in the other file makes another song of it
pub record IsEditedIn (files : Files) (name script : List ℕ) (song after : Song) : Type 0 where
  pub holds : HoldsSong files name song
  pub text : List ℕ
  pub found : HoldsBytes files script text
  pub edited : IsEditedBy text song after

-- the script in the file fails on the song at this line
pub record FailsIn (files : Files) (script : List ℕ) (song : Song) (number : ℕ) (words : List ℕ) : Type 0 where
  pub text : List ℕ
  pub found : HoldsBytes files script text
  pub fails : FailsAt text song number words

-- what a stage asks for, and how it ends a run: the status, the cause, and the lines that are printed. A stage asks
-- nothing of a file that isn't there, since the stage before it has ended the run then.
pub record Rule : Type 1 where
  pub asks : Files → Type 0
  pub status : ℕ
  pub ends : Files → List (List ℕ) → Type 0

abbrev pub rule_of : Stage → Rule
-- there is a file with the name
rule_of (IsThere name) = record {
  asks = λ files. (bytes : List ℕ) × HoldsBytes files name bytes;
  status = 2;
  ends = λ files lines. IsAbsent name files × (lines ≡ missing_line name ∷ []);
}
-- it has no more bytes than the limit
rule_of (Fits name limit) = record {
  asks = λ files. (bytes : List ℕ) × HoldsBytes files name bytes × (length bytes ≤ limit);
  status = 3;
  ends = λ files lines. IsAbove limit name files × (lines ≡ too_long_line name ∷ []);
}
-- it spells a song
rule_of (SpellsSong name) = record {
  asks = λ files. (song : Song) × HoldsSong files name song;
  status = 5;
  ends = λ files lines. (bytes : List ℕ) × (fault : SongFault) × HoldsBytes files name bytes ×
      (fault_of bytes ≡ Some fault) × (lines ≡ song_fault_line fault ∷ []);
}
-- the song can be played
rule_of (CanBePlayed name) = record {
  asks = λ files. (song : Song) × HoldsSong files name song × IsPlayable song;
  status = 6;
  ends = λ files lines. (song : Song) × (refusal : Unplayable) × HoldsSong files name song × IsUnplayableFor song refusal ×
      (lines ≡ unplayable_line refusal ∷ []);
}
-- the song has the playable subtune, counted from 1
rule_of (HasPlayableSubtune name subtune) = record {
  asks = λ files. (song : Song) × HoldsSong files name song × IsNumbered (playable_subtunes song) subtune;
  status = 11;
  ends = λ files lines. (song : Song) × HoldsSong files name song × (¬ IsNumbered (playable_subtunes song) subtune) ×
      (lines ≡ no_subtune_line subtune (length (playable_subtunes song)) ∷ []);
}
-- no text of a used pattern is too long; else the first one is told
rule_of (HasShortPatterns name) = record {
  asks = λ files. (song : Song) × (used : UsedSets) × HoldsSong files name song × AreUsedSets song used ×
      AreShort song used;
  status = 7;
  ends = λ files lines. (song : Song) × (used : UsedSets) × (pattern : ℕ) × (count : ℕ) × HoldsSong files name song ×
      AreUsedSets song used × IsTooLong song used pattern count × (lines ≡ too_large_line pattern count ∷ []);
}
-- a script that makes the song isn't longer than one that is read; else its length is told
rule_of (HasShortScript name) = record {
  asks = λ files. (song : Song) × HoldsSong files name song × (length (script_of song) ≤ script_limit);
  status = 7;
  ends = λ files lines. (song : Song) × HoldsSong files name song × (script_limit < length (script_of song)) ×
      (lines ≡ script_too_large_line (length (script_of song)) ∷ []);
}
-- the song's image, where it stands at the address, ends at or below $D000
rule_of (HasRoomForImage name address options) = record {
  asks = λ files. (song : Song) × (count : ℕ) × HoldsSong files name song × IsImageLength song options count ×
      (address + count ≤ 0xD000);
  status = 7;
  ends = λ files lines. (song : Song) × (count : ℕ) × HoldsSong files name song × IsImageLength song options count ×
      (0xD000 < address + count) × (lines ≡ image_too_large_line count ∷ []);
}
-- the script can be done on the song
rule_of (CanBeEdited name script) = record {
  asks = λ files. (song : Song) × (after : Song) × IsEditedIn files name script song after;
  status = 8;
  ends = λ files lines. (song : Song) × (number : ℕ) × (words : List ℕ) × HoldsSong files name song ×
      FailsIn files script song number words × (lines ≡ script_line number words ∷ []);
}
-- it is a PSID file
rule_of (IsPsid name) = record {
  asks = λ files. (psid : Psid) × HoldsPsid files name psid;
  status = 12;
  ends = λ files lines. (bytes : List ℕ) × (fault : PsidFault) × HoldsBytes files name bytes ×
      (psid_read bytes ≡ Err fault) × (lines ≡ psid_fault_line fault ∷ []);
}
-- the PSID file has the subtune, counted from 1
rule_of (OffersSubtune name subtune) = record {
  asks = λ files. (psid : Psid) × HoldsPsid files name psid × HasSubtune psid subtune;
  status = 11;
  ends = λ files lines. (psid : Psid) × HoldsPsid files name psid × (¬ HasSubtune psid subtune) ×
      (lines ≡ no_subtune_line subtune psid.header.songs ∷ []);
}
-- init of the subtune, and then play as often as there are frames, return
rule_of (CallsReturn name subtune frames) = record {
  asks = λ files. (psid : Psid) × HoldsPsid files name psid × (registers : List (List ℕ)) × (after : Machine) ×
      FirstCalls (loaded psid) (subtune - 1) (frames + 1) registers after;
  status = 13;
  ends = λ files lines. (psid : Psid) × HoldsPsid files name psid × (stop : StopsIn psid subtune frames) ×
      (lines ≡ register_lines stop.registers ++ stop_line stop.reason stop.call ∷ []);
}
-- each subtune is measured: init, and then each of its first plays, so many, returns
rule_of (SubtunesReturn name calls) = record {
  asks = λ files. (psid : Psid) × (told : List Measured) × HoldsPsid files name psid ×
      AreMeasured psid calls psid.header.songs told;
  status = 13;
  ends = λ files lines. (psid : Psid) × HoldsPsid files name psid × StopsMeasuring psid calls lines;
}
-- the subtune, counted from 1, is
rule_of (SubtuneReturns name subtune calls) = record {
  asks = λ files. (psid : Psid) × (told : Measured) × HoldsPsid files name psid ×
      IsMeasured psid (subtune - 1) calls told;
  status = 13;
  ends = λ files lines. (psid : Psid) × (call : ℕ) × (reason : CallStop) × HoldsPsid files name psid ×
      StopsAt psid (subtune - 1) calls call reason × (lines ≡ stop_line reason call ∷ []);
}
-- it is a listing that can be assembled
rule_of (CanBeAssembled name) = record {
  asks = λ files. (origin : ℕ) × (image : List ℕ) × HoldsListing files name origin image;
  status = 17;
  ends = λ files lines. (text : List ℕ) × (fault : TextFault) × HoldsBytes files name text × IsFaultOf text fault ×
      (lines ≡ listing_line fault ∷ []);
}
-- the songs in both files can be joined
rule_of (GoTogether name other) = record {
  asks = λ files. (first : Song) × (second : Song) × HoldsSong files name first × HoldsSong files other second ×
      CanBeJoined first second;
  status = 18;
  ends = λ files lines. (first : Song) × (second : Song) × (fault : JoinFault) × HoldsSong files name first ×
      HoldsSong files other second × IsRefusedFor first second fault × (lines ≡ join_line fault ∷ []);
}
-- the text in the other file is that of numbers that are admitted for the song's program
rule_of (IsAdmitted name certificate options) = record {
  asks = λ files. (song : Song) × (b : Blocks) × (text : List ℕ) × (bounds : CallBounds) × HoldsSong files name song ×
      HasProgram song options b × HoldsBytes files certificate text × IsAdmittedText b text bounds;
  status = 16;
  ends = λ files lines. (song : Song) × (b : Blocks) × (text : List ℕ) × (line : List ℕ) × HoldsSong files name song ×
      HasProgram song options b × HoldsBytes files certificate text × IsRefusedText b text line × (lines ≡ line ∷ []);
}

-- the status with which a stage ends a run
abbrev pub status_of : Stage → ℕ
status_of stage = (rule_of stage).status

-- the stage ends a run over these files, with these lines
abbrev pub Ends : Files → Stage → List (List ℕ) → Type 0
Ends files stage lines = (rule_of stage).ends files lines

-- what the stage asks for is there
abbrev pub IsMet : Files → Stage → Type 0
IsMet files stage = (rule_of stage).asks files

-- the stage doesn't end a run
abbrev pub Passes : Files → Stage → Type 0
Passes files stage = (lines : List (List ℕ)) → ¬ Ends files stage lines

abbrev pub AllPass : Files → List Stage → Type 0
AllPass files [] = Unit {0}
AllPass files (stage ∷ rest) = Passes files stage × AllPass files rest

-- the first of the stages that doesn't pass ends the run, with this status and these lines
abbrev pub FirstEnds : Files → List Stage → ℕ → List (List ℕ) → Type 0
FirstEnds files [] status lines = ⊥
FirstEnds files (stage ∷ rest) status lines = ((status ≡ status_of stage) × Ends files stage lines) ⊎
    (Passes files stage × FirstEnds files rest status lines)
