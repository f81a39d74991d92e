-- What the parts of the top call promise each other: how a stage, a job, and a run but for its last line end.
use Rattle.std.specs.Prelude.{◌≡◌, ◌≢◌, ℕ, ◌+◌, ◌≤◌, List, [], ◌∷◌, ◌++◌, Some, None, Ok, length, take}
use Rattle.std.specs.List.{concat}
use Rattle.goat_io.specs.Files.{Files, file_of, told_with_file, IsAbsent, IsAbove, IsWrittenInPart}
use Rattle.song_model.specs.declared.songs.Song.{Song}
use Rattle.gts5.specs.Spells.{Spells}
use Rattle.edit_script.specs.Edited.{FailsAt}
use Rattle.psid.specs.Reading.{psid_read}
use Rattle.psid.specs.declared.header.Psid.{Psid}
use Rattle.cpu6502.specs.declared.machine.Machine.{Machine}
use Rattle.cpu6502.specs.declared.stop.CallStop.{CallStop}
use Rattle.sid_run.specs.State.{RunnerState}
use Rattle.jobs.specs.Calls.{FirstCalls, MeetsStopAt}
use Rattle.command_line.specs.RegisterText.{register_lines}
use Rattle.jobs.specs.Lines.{missing_line, too_long_line, read_fault_line, write_fault_line, script_line, stop_line}
use Rattle.play_model.specs.declared.options.Options.{Options}
use Rattle.packed_form.specs.declared.packed_songs.PackedSong.{PackedSong}
use Rattle.cut_pack.specs.Chosen.{IsPackedFor}
use Rattle.cut_pack.specs.ChosenLaws.{Serves}
use Rattle.cut_pack.specs.Answers.{IsPackedOf}
use Rattle.player_bound.specs.Programs.{Blocks}
use Rattle.jobs.specs.Certificates.{IsRefusedText}
use Rattle.command_line.specs.Last.{Last, Says, SaysNothing, SinkFailed, Wants}
use Rattle.command_line.specs.Words.{Job}
use Rattle.jobs.specs.Stages.{Stage, SpellsSong, IsPsid, Ends, IsMet, status_of, input_limit}
use Rattle.jobs.specs.Jobs.{Prints, Awaits, Done}
use Rattle.command_line.specs.Forms.{WordsOf}
use Rattle.jobs.specs.Stands.{FolderState, SinkState, AreFiles, Counted, FolderStays, Appends, FailsAfter, Account}
use Rattle.jobs.specs.Stands.{IsAwaiting, Printing, TellsWant}

-- ---- a stage

-- the stage ends the run with this line, or the run is out of memory
pub data Refuses (files : Files) (stage : Stage) (last : Last) : Type 0 where
  ends : (line : List ℕ) → Ends files stage (line ∷ []) → last ≡ Says (status_of stage) line →
      Refuses files stage last
  wanting : last ≡ Wants → Refuses files stage last

-- a file was read: the folder's, if it tells its files, and else some file
pub record WasRead (name : List ℕ) (limit : ℕ) (before after : FolderState) (bytes : List ℕ) : Type 0 where
  pub files : Files
  pub are_files : AreFiles before.told files
  pub found : file_of files name ≡ Some bytes
  pub fits : length bytes ≤ limit
  pub stays : FolderStays before after

-- a file was not read
pub data ReadFails (name : List ℕ) (limit : ℕ) (before after : FolderState) (last : Last) : Type 0 where
  missing : (files : Files) → AreFiles before.told files → IsAbsent name files → last ≡ Says 2 (missing_line name) →
      after.told ≡ before.told → Counted 2 before.counts after.counts → ReadFails name limit before after last
  too_long : (files : Files) → AreFiles before.told files → IsAbove limit name files →
      last ≡ Says 3 (too_long_line name) → after.told ≡ before.told → Counted 3 before.counts after.counts →
      ReadFails name limit before after last
  failed : last ≡ Says 4 (read_fault_line name) → after.told ≡ before.told → Counted 4 before.counts after.counts →
      ReadFails name limit before after last
  wanting : last ≡ Wants → FolderStays before after → ReadFails name limit before after last

-- the song in a file was read
pub record SongWasRead (name : List ℕ) (before after : FolderState) (song : Song) : Type 0 where
  pub bytes : List ℕ
  pub was : WasRead name input_limit before after bytes
  pub spells : Spells bytes song

-- with these bytes
pub record SpellingWasRead (name : List ℕ) (before after : FolderState) (song : Song) (bytes : List ℕ) : Type 0 where
  pub read : SongWasRead name before after song
  pub bytes_are : bytes ≡ read.bytes

-- the PSID file in a file was read
pub record PsidWasRead (name : List ℕ) (before after : FolderState) (psid : Psid) : Type 0 where
  pub bytes : List ℕ
  pub was : WasRead name input_limit before after bytes
  pub reads : psid_read bytes ≡ Ok psid

-- what a file is to hold, by a stage, was not read: the file was not read, or its bytes are refused there
pub data HoldFails (stage : Stage) (name : List ℕ) (before after : FolderState) (last : Last) : Type 0 where
  unread : ReadFails name input_limit before after last → HoldFails stage name before after last
  unheld : (bytes : List ℕ) (was : WasRead name input_limit before after bytes) →
      Refuses was.files stage last → HoldFails stage name before after last

-- a song was not read
abbrev pub SongFails : List ℕ → FolderState → FolderState → Last → Type 0
SongFails name = HoldFails (SpellsSong name) name

-- a PSID file was not read
abbrev pub PsidFails : List ℕ → FolderState → FolderState → Last → Type 0
PsidFails name = HoldFails (IsPsid name) name

-- the song in a file was read, and the bytes of another file; a file that is both is read once
pub data BothWereRead (name other : List ℕ) (limit : ℕ) (before after : FolderState) (song : Song)
    (text : List ℕ) : Type 0 where
  once : SpellingWasRead name before after song text → other ≡ name →
      BothWereRead name other limit before after song text
  each : (between : FolderState) → SongWasRead name before between song → other ≢ name →
      WasRead other limit between after text → BothWereRead name other limit before after song text

-- they were not: the song fails, or it was read and the other file was not
pub data BothFail (name other : List ℕ) (limit : ℕ) (before after : FolderState) (last : Last) : Type 0 where
  first : SongFails name before after last → BothFail name other limit before after last
  second : {song : Song} (between : FolderState) → SongWasRead name before between song → other ≢ name →
      ReadFails other limit between after last → BothFail name other limit before after last

-- a script fails on a song at one of its lines, or the run is out of memory
pub data EditFails (text : List ℕ) (song : Song) (last : Last) : Type 0 where
  fails : (number : ℕ) (words : List ℕ) → FailsAt text song number words → last ≡ Says 8 (script_line number words) →
      EditFails text song last
  wanting : last ≡ Wants → EditFails text song last

-- a packed song stands for the song that is packed for this one, which plays the same and asks for the same, is the one
-- that is defined, and has the bytes of that song's packed data
pub record PacksSong (options : Options) (packed : PackedSong) (song : Song) : Type 0 where
  pub chosen : Song
  pub is_for : IsPackedFor options song chosen
  pub serves : Serves options song chosen
  pub is : IsPackedOf packed chosen

-- a text isn't that of numbers that are admitted for a program, or the run is out of memory
pub data CertificateFails (b : Blocks) (text : List ℕ) (last : Last) : Type 0 where
  refused : (line : List ℕ) → IsRefusedText b text line → last ≡ Says 16 line → CertificateFails b text last
  wanting : last ≡ Wants → CertificateFails b text last

-- a file was written, of which this line tells, or not
pub data WriteEnds (name bytes line : List ℕ) (before after : FolderState) (last : Last) : Type 0 where
  wrote : last ≡ Says 0 line → after.told ≡ told_with_file before.told name bytes →
      Counted 0 before.counts after.counts → WriteEnds name bytes line before after last
  failed : last ≡ Says 9 (write_fault_line name) → IsWrittenInPart before.told after.told name bytes →
      Counted 9 before.counts after.counts → WriteEnds name bytes line before after last
  wanting : last ≡ Wants → FolderStays before after → WriteEnds name bytes line before after last

-- ---- lines one after the other

-- the put of these bytes failed
pub record PutFails (bytes : List ℕ) (before after : SinkState) : Type 0 where
  pub kept : ℕ
  pub fails : FailsAfter (take kept bytes) before after

-- what became of lines that are printed one after the other
pub data LinesEnd (lines : List (List ℕ)) (last : Last) (before after : SinkState) : Type 0 where
  shown : last ≡ SaysNothing → Appends (concat lines) before after → LinesEnd lines last before after
  cut : (earlier later : List (List ℕ)) (line : List ℕ) (kept : ℕ) → lines ≡ earlier ++ line ∷ later →
      last ≡ SinkFailed → FailsAfter (concat earlier ++ take kept line) before after → LinesEnd lines last before after
  unsaid : (earlier later : List (List ℕ)) (line : List ℕ) → lines ≡ earlier ++ line ∷ later →
      last ≡ Wants → Appends (concat earlier) before after → LinesEnd lines last before after

-- ---- a stage that prints lines

-- what became of a job's last stage, which prints lines before it is known whether it ends the run: it is met, and the job
-- is done with them; or it ends the run, with one more; or a put failed; or the run was out of memory
pub data StageEnds (job : Job) (files : Files) (stage : Stage) (last : Last) (before after : SinkState) : Type 0 where
  met : (lines : List (List ℕ)) → IsMet files stage → Done job files lines None → last ≡ SaysNothing →
      Appends (concat lines) before after → StageEnds job files stage last before after
  ended : (earlier : List (List ℕ)) (line : List ℕ) → Ends files stage (earlier ++ line ∷ []) →
      last ≡ Says (status_of stage) line → Appends (concat earlier) before after →
      StageEnds job files stage last before after
  failed : (earlier : List (List ℕ)) (line : List ℕ) (kept : ℕ) → Prints files stage (earlier ++ line ∷ []) →
      last ≡ SinkFailed → FailsAfter (concat earlier ++ take kept line) before after →
      StageEnds job files stage last before after
  wanting : (earlier : List (List ℕ)) (line : List ℕ) → Prints files stage (earlier ++ line ∷ []) → last ≡ Wants →
      Appends (concat earlier) before after → StageEnds job files stage last before after
  wanting_next : (lines : List (List ℕ)) → Awaits files stage lines → last ≡ Wants → Appends (concat lines) before after →
      StageEnds job files stage last before after

-- ---- the calls of a PSID file

-- what became of init and of play, as often as there are frames, of a loaded file
pub data CallsEnd (file : RunnerState) (subtune frames : ℕ) (last : Last) (before after : SinkState) : Type 0 where
  played : (registers : List (List ℕ)) (machine : Machine) → FirstCalls file subtune (frames + 1) registers machine →
      last ≡ SaysNothing → Appends (concat (register_lines registers)) before after →
      CallsEnd file subtune frames last before after
  stopped : (call : ℕ) (registers : List (List ℕ)) (reason : CallStop) → call ≤ frames →
      MeetsStopAt file subtune call registers reason → last ≡ Says 13 (stop_line reason call) →
      Appends (concat (register_lines registers)) before after → CallsEnd file subtune frames last before after
  failed : (calls kept : ℕ) (earlier : List (List ℕ)) (line : List ℕ) (registers : List (List ℕ)) (machine : Machine) →
      calls ≤ frames + 1 → FirstCalls file subtune calls registers machine →
      register_lines registers ≡ earlier ++ line ∷ [] → last ≡ SinkFailed →
      FailsAfter (concat earlier ++ take kept line) before after → CallsEnd file subtune frames last before after
  wanting : (calls : ℕ) (earlier : List (List ℕ)) (line : List ℕ) (registers : List (List ℕ)) (machine : Machine) →
      calls ≤ frames + 1 → FirstCalls file subtune calls registers machine →
      register_lines registers ≡ earlier ++ line ∷ [] → last ≡ Wants → Appends (concat earlier) before after →
      CallsEnd file subtune frames last before after

-- the first calls of a loaded file return
pub record FirstCallsReturn (file : RunnerState) (subtune calls : ℕ) : Type 0 where
  pub registers : List (List ℕ)
  pub after : Machine
  pub first : FirstCalls file subtune calls registers after

-- ---- a run but for its last line

-- the earlier lines were printed, and the last one is still to be
pub record HasLast (words : List (List ℕ)) (files : Files) (status : ℕ) (line : List ℕ)
    (folder folder_after : FolderState) (sink sink_after : SinkState) : Type 0 where
  pub earlier : List (List ℕ)
  pub account : Account words files status (earlier ++ line ∷ []) folder.told folder_after.told
  pub counted : Counted status folder.counts folder_after.counts
  pub appends : Appends (concat earlier) sink sink_after

-- all lines were printed, and the job is done
pub record IsShown (words : List (List ℕ)) (files : Files) (folder folder_after : FolderState)
    (sink sink_after : SinkState) : Type 0 where
  pub lines : List (List ℕ)
  pub account : Account words files 0 lines folder.told folder_after.told
  pub counted : Counted 0 folder.counts folder_after.counts
  pub appends : Appends (concat lines) sink sink_after

-- the put of a line failed
pub record HasFailed (words : List (List ℕ)) (files : Files) (folder folder_after : FolderState)
    (sink sink_after : SinkState) : Type 0 where
  pub earlier : List (List ℕ)
  pub later : List (List ℕ)
  pub line : List ℕ
  pub kept : ℕ
  pub printing : Printing words files (earlier ++ line ∷ later) folder folder_after
  pub fails : FailsAfter (concat earlier ++ take kept line) sink sink_after

-- the run was out of memory: for a line, before the first one, or before the next one of a stage was known
pub data IsWanting (words : List (List ℕ)) (files : Files) (folder folder_after : FolderState)
    (sink sink_after : SinkState) : Type 0 where
  for_line : (earlier later : List (List ℕ)) (line : List ℕ) →
      Printing words files (earlier ++ line ∷ later) folder folder_after → Appends (concat earlier) sink sink_after →
      IsWanting words files folder folder_after sink sink_after
  first : FolderStays folder folder_after → Appends [] sink sink_after →
      IsWanting words files folder folder_after sink sink_after
  next : (lines : List (List ℕ)) → IsAwaiting words files lines → FolderStays folder folder_after →
      Appends (concat lines) sink sink_after → IsWanting words files folder folder_after sink sink_after

abbrev pub IsOver : List (List ℕ) → Files → Last → FolderState → FolderState → SinkState → SinkState → Type 0
IsOver words files (Says status line) folder folder_after sink sink_after =
    HasLast words files status line folder folder_after sink sink_after
IsOver words files SaysNothing folder folder_after sink sink_after =
    IsShown words files folder folder_after sink sink_after
IsOver words files SinkFailed folder folder_after sink sink_after =
    HasFailed words files folder folder_after sink sink_after
IsOver words files Wants folder folder_after sink sink_after = IsWanting words files folder folder_after sink sink_after

-- a run is over but for its last line; some of the folder's files stand for it
pub record RunEnds (words : List (List ℕ)) (last : Last) (folder folder_after : FolderState)
    (sink sink_after : SinkState) : Type 0 where
  pub files : Files
  pub are_files : AreFiles folder.told files
  pub is_over : IsOver words files last folder folder_after sink sink_after

-- so it is for all words that name the job
pub record JobEnds (job : Job) (last : Last) (folder folder_after : FolderState)
    (sink sink_after : SinkState) : Type 0 where
  pub ends : (words : List (List ℕ)) → WordsOf words job → RunEnds words last folder folder_after sink sink_after

-- ---- the last line

-- the line was printed, and the answer is its status; or its put failed; or the run was out of memory for it
pub data PrintsLine (status : ℕ) (line : List ℕ) (answer : ℕ) (before after : SinkState) : Type 0 where
  whole : answer ≡ status → Appends line before after → PrintsLine status line answer before after
  failed : (kept : ℕ) → answer ≡ 10 → FailsAfter (take kept line) before after →
      PrintsLine status line answer before after
  wanting : TellsWant [] answer before after → PrintsLine status line answer before after

-- nothing was printed, and this is the answer
pub record PrintsNothing (status answer : ℕ) (before after : SinkState) : Type 0 where
  pub answer_is : answer ≡ status
  pub same : after ≡ before

-- what became of the last line
abbrev pub PrintsLast : Last → ℕ → SinkState → SinkState → Type 0
PrintsLast (Says status line) answer before after = PrintsLine status line answer before after
PrintsLast SaysNothing answer before after = PrintsNothing 0 answer before after
PrintsLast SinkFailed answer before after = PrintsNothing 10 answer before after
PrintsLast Wants answer before after = TellsWant [] answer before after
