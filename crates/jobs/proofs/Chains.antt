-- How a run goes through the stages of its job: each one is met, or ends it; and how the commands end after the last.
use Rattle.std.proofs.Common.{◌≡◌, ℕ, ◌-◌, List, [], ◌∷◌, ◌++◌, Option, Some}
use Rattle.std.proofs.Common.{None, true, refl, sym, ap, ◌∙◌, subst}
use Rattle.std.proofs.lemmas.List.{append-nil, append_assoc}
use Rattle.goat_io.specs.Files.{Files, IsWrittenInPart}
use Rattle.song_model.specs.declared.songs.Song.{Song}
use Rattle.psid.specs.declared.header.Psid.{Psid}
use Rattle.sid_run.specs.State.{loaded}
use Rattle.command_line.specs.Words.{Job, Run}
use Rattle.cpu6502.specs.declared.machine.Machine.{Machine}
use Rattle.asm6502.specs.declared.assembled.Assembled.{Assembled}
use Rattle.asm6502.specs.Assembly.{assembled_bytes}
use Rattle.asm_text.specs.Lines.{IsListing}
use Rattle.asm_text.specs.Laying.{listing_at}
use Rattle.asm_text.specs.Faults.{fault_in, Reads}
use Rattle.jobs.specs.Calls.{FirstCalls, StopsIn}
use Rattle.command_line.specs.RegisterText.{register_lines}
use Rattle.jobs.specs.Lines.{stop_line}
use Rattle.command_line.specs.Last.{Last, Says}
use Rattle.jobs.specs.Stages.{Stage, IsThere, Fits, SpellsSong, IsPsid, CallsReturn, HoldsSong, HoldsPsid, HoldsListing}
use Rattle.jobs.specs.Stages.{status_of, IsMet, Passes, AllPass, FirstEnds, input_limit}
use Rattle.command_line.specs.Forms.{WordsOf}
use Rattle.jobs.specs.Jobs.{stages, Shows, Prints, Awaits, Done}
use Rattle.jobs.specs.Outcome as outcome
use Rattle.jobs.specs.Outcome.{told_after}
use Rattle.jobs.specs.Stands as stands
use Rattle.jobs.specs.Stands.{FolderState, SinkState, AreFiles, Account, Counted, FolderStays, ComesTo, IsPrinting}
use Rattle.jobs.specs.Stands.{IsAwaiting, Printing}
use Rattle.jobs.specs.Endings as ends
use Rattle.jobs.specs.Endings.{Refuses, WasRead, SongWasRead, PsidWasRead, HoldFails, WriteEnds, LinesEnd, StageEnds}
use Rattle.jobs.specs.Endings.{CallsEnd, IsOver}
use Rattle.jobs.specs.Endings.{JobEnds}
use Rattle.jobs.proofs.Told.{some_files, as_before, is_uncounted, uncounted, counted_on, stays_itself, stays_on}
use Rattle.jobs.proofs.Passes.{met_passes}
use Rattle.jobs.proofs.Ends.{first_ends, says_ends, has_last, wants_first, read_ends}

-- the run of a job has come to these stages, and met those before them; the folder is as before
pub record At (job : Job) (files : Files) (folder after : FolderState) (rest : List Stage) : Type 0 where
  pub are_files : AreFiles folder.told files
  pub stays : FolderStays folder after
  pub met : List Stage
  pub stages_are : stages job ≡ met ++ rest
  pub pass : AllPass files met

pub pass_more : (files : Files) (list : List Stage) (stage : Stage) → AllPass files list → Passes files stage →
    AllPass files (list ++ stage ∷ [])
pass_more files [] stage pass last = (last, tt)
pass_more files (first ∷ rest) stage pass last = (pass.0, pass_more files rest stage pass.1 last)

module _ {job : Job} {folder after : FolderState} where
  -- the file that a job begins with was read
  pub begun : {name bytes : List ℕ} {limit : ℕ} {rest : List Stage} →
      stages job ≡ IsThere name ∷ Fits name limit ∷ rest →
      (was : WasRead name limit folder after bytes) → At job was.files folder after rest
  begun {name} {bytes} {limit} are was = record {
    are_files = was.are_files;
    stays = was.stays;
    met = IsThere name ∷ Fits name limit ∷ [];
    stages_are = are;
    pass = (
      met_passes was.files (IsThere name) (bytes, was.found),
      (met_passes was.files (Fits name limit) (bytes, was.found, was.fits), tt),
    );
  }

  module _ {files : Files} where
    -- the next stage is met
    pub met_next : {stage : Stage} {rest : List Stage} → At job files folder after (stage ∷ rest) → IsMet files stage →
        At job files folder after rest
    met_next {stage} {rest} at met = record {
      are_files = at.are_files;
      stays = at.stays;
      met = at.met ++ stage ∷ [];
      stages_are = at.stages_are ∙ sym (append_assoc at.met (stage ∷ []) rest);
      pass = pass_more files at.met stage at.pass (met_passes files stage met);
    }

    -- or it refuses
    pub refused : {stage : Stage} {rest : List Stage} {last : Last} (sink : SinkState) →
        At job files folder after (stage ∷ rest) →
        is_uncounted (status_of stage) ≡ true → Refuses files stage last → JobEnds job last folder after sink sink
    refused {stage} {rest} sink at free (ends.ends line is says) =
        let counted = uncounted free at.stays.counts in
        rw says (says_ends sink files at.met rest stage at.are_files at.stages_are at.pass is at.stays.told counted)
    refused sink at free (ends.wanting wants) = rw wants (wants_first sink at.stays)

    -- how the run is over, for all words that name the job
    pub over_with : {rest : List Stage} {last : Last} {s t : SinkState} → At job files folder after rest →
        ((words : List (List ℕ)) → WordsOf words job → IsOver words files last folder after s t) →
        JobEnds job last folder after s t
    over_with at is =
        record { ends = λ words form. record { files = files; are_files = at.are_files; is_over = is words form } }

    -- all stages are met
    pub all_met : At job files folder after [] → AllPass files (stages job)
    all_met at = subst (AllPass files) (sym (at.stages_are ∙ append-nil at.met)) at.pass

module _ {job : Job} {folder between after : FolderState} {files : Files} (sink : SinkState)
    (at : At job files folder between []) where
  -- the job is done, with one line to print; a file was written, or none
  pub done_says : {line : List ℕ} (write : Option (List ℕ × List ℕ)) → Done job files (line ∷ []) write →
      after.told ≡ told_after between.told write → Counted 0 between.counts after.counts →
      JobEnds job (Says 0 line) folder after sink sink
  done_says write did told counted =
      let files_are = told ∙ ap (λ t. told_after t write) at.stays.told in
      has_last sink at.are_files
      (λ words form. stands.outcome write (outcome.done job form (all_met at) did refl) files_are)
      (counted_on at.stays.counts counted)

  -- its file was written, or not
  pub written : {output file line : List ℕ} {last : Last} → Done job files (line ∷ []) (Some (output, file)) →
      WriteEnds output file line between after last → JobEnds job last folder after sink sink
  written {output} {file} did (ends.wrote says told counted) =
      rw says (done_says (Some (output, file)) did told counted)
  written {output} {file} {line} did (ends.failed says part counted) =
      let part_of = subst (λ t. IsWrittenInPart t after.told output file) at.stays.told part in
      let lines = line ∷ [] in
      rw says (has_last sink at.are_files
      (λ words form.
      stands.write_fault lines output file (outcome.done job form (all_met at) did refl) refl refl part_of)
      (counted_on at.stays.counts counted))
  written did (ends.wanting wants more) = rw wants (wants_first sink (stays_on at.stays more))

module _ {job : Job} {folder after : FolderState} {files : Files} (at : At job files folder after [])
    {lines : List (List ℕ)} (did : Done job files lines None) where
  -- the job is done with these lines, and no file is written
  done_with : (words : List (List ℕ)) → WordsOf words job → Account words files 0 lines folder.told after.told
  done_with words form =
      stands.outcome None (outcome.done job form (all_met at) did refl) (at.stays.told ∙ as_before folder.told)

  printing_done : {others : List (List ℕ)} → lines ≡ others → (words : List (List ℕ)) → WordsOf words job →
      Printing words files others folder after
  printing_done are words form =
      subst (λ l. Printing words files l folder after) are (stands.of_account 0 (done_with words form) at.stays.counts)

  -- they are printed, or not
  pub lines_over : {last : Last} {s t : SinkState} → LinesEnd lines last s t → JobEnds job last folder after s t
  lines_over (ends.shown is shown) =
      rw is
      (over_with at
      (λ words form.
      record { lines = lines; account = done_with words form; counted = at.stays.counts; appends = shown }))
  lines_over (ends.cut earlier later line kept are is fails) =
      rw is (over_with at (λ words form. record {
        earlier = earlier;
        later = later;
        line = line;
        kept = kept;
        printing = printing_done are words form;
        fails = fails;
      }))
  lines_over (ends.unsaid earlier later line are is appends) =
      rw is (over_with at (λ words form. ends.for_line earlier later line (printing_done are words form) appends))

-- of a job without stages
pub fileless_over : {job : Job} {lines : List (List ℕ)} {last : Last} {s t : SinkState} → stages job ≡ [] →
    ((files : Files) → Done job files lines None) → (folder : FolderState) → LinesEnd lines last s t →
    JobEnds job last folder folder s t
fileless_over {job} bare did folder ended =
    let some = some_files folder.told in
    let at : At job some.files folder folder [] =
    record { are_files = some.are_files; stays = stays_itself folder; met = []; stages_are = bare; pass = tt } in
    lines_over at (did some.files) ended

-- ---- the files that a run has read

pub song_held : {name : List ℕ} {folder after : FolderState} {song : Song} →
    (read : SongWasRead name folder after song) → HoldsSong read.was.files name song
song_held read = record { bytes = read.bytes; found = read.was.found; spells = read.spells }

pub psid_held : {name : List ℕ} {folder after : FolderState} {psid : Psid} →
    (read : PsidWasRead name folder after psid) → HoldsPsid read.was.files name psid
psid_held read = record { bytes = read.bytes; found = read.was.found; reads = read.reads }

pub listing_held : {name text : List ℕ} {limit : ℕ} {folder after : FolderState} {assembled : Assembled} →
    (was : WasRead name limit folder after text) → Reads text assembled →
    HoldsListing was.files name assembled.origin assembled.bytes
listing_held {text = text} {assembled = assembled} was reads =
    let origin = sym reads.given.origin_is in
    record {
      text = text;
      found = was.found;
      script = reads.script;
      listing = subst (λ o. IsListing text o reads.script) origin reads.listing;
      sound = subst (λ o. fault_in o reads.script ≡ None) origin reads.sound;
      image_is =
          subst (λ o. assembled.bytes ≡ assembled_bytes 0 o (listing_at o reads.script)) origin reads.given.bytes_are;
    }

module _ {job : Job} {folder after : FolderState} {name : List ℕ} {rest : List Stage} where
  -- a job that begins with a song has read it
  pub song_begun : {song : Song} → stages job ≡ IsThere name ∷ Fits name input_limit ∷ SpellsSong name ∷ rest →
      (read : SongWasRead name folder after song) → At job read.was.files folder after rest
  song_begun {song} are read = met_next (begun are read.was) (song, song_held read)

  -- or with a PSID file
  pub psid_begun : {psid : Psid} → stages job ≡ IsThere name ∷ Fits name input_limit ∷ IsPsid name ∷ rest →
      (read : PsidWasRead name folder after psid) → At job read.was.files folder after rest
  psid_begun {psid} are read = met_next (begun are read.was) (psid, psid_held read)

  -- or has not
  pub hold_fails : {stage : Stage} {last : Last} (sink : SinkState) →
      stages job ≡ IsThere name ∷ Fits name input_limit ∷ stage ∷ rest → is_uncounted (status_of stage) ≡ true →
      HoldFails stage name folder after last → JobEnds job last folder after sink sink
  hold_fails sink are plain (ends.unread fails) = read_ends sink _ are fails
  hold_fails sink are plain (ends.unheld bytes was refuses) = refused sink (begun are was) plain refuses

-- ---- a last stage that prints lines

module _ {job : Job} {files : Files} {folder after : FolderState} {stage : Stage}
    (at : At job files folder after (stage ∷ [])) where
  comes_here : (words : List (List ℕ)) → WordsOf words job → ComesTo words files stage
  comes_here words form =
      record { job = job; form = form; earlier = at.met; later = []; stages_are = at.stages_are; pass = at.pass }

  is_printing : {lines : List (List ℕ)} → Prints files stage lines → (words : List (List ℕ)) → WordsOf words job →
      IsPrinting words files lines
  is_printing prints words form = record { stage = stage; comes = comes_here words form; prints = prints }

  is_awaiting : {lines : List (List ℕ)} → Awaits files stage lines → (words : List (List ℕ)) → WordsOf words job →
      IsAwaiting words files lines
  is_awaiting awaits words form = record { stage = stage; comes = comes_here words form; awaits = awaits }

  pub stage_over : {last : Last} {s t : SinkState} → is_uncounted (status_of stage) ≡ true →
      StageEnds job files stage last s t → JobEnds job last folder after s t
  stage_over free (ends.met lines met did is shown) =
      let pass = all_met (met_next at met) in
      rw is (over_with at (λ words form. record {
        lines = lines;
        account = stands.outcome None (outcome.done job form pass did refl) (at.stays.told ∙ as_before folder.told);
        counted = at.stays.counts;
        appends = shown;
      }))
  stage_over free (ends.ended earlier line is says shown) =
      let lines = earlier ++ line ∷ [] in
      let first = subst (λ list. FirstEnds files list (status_of stage) lines) (sym at.stages_are)
      (first_ends files at.met [] stage lines at.pass is) in
      rw says (over_with at (λ words form. record {
        earlier = earlier;
        account = stands.outcome None (outcome.ended job form first refl) (at.stays.told ∙ as_before folder.told);
        counted = uncounted free at.stays.counts;
        appends = shown;
      }))
  stage_over free (ends.failed earlier line kept prints is fails) =
      rw is (over_with at (λ words form. record {
        earlier = earlier;
        later = [];
        line = line;
        kept = kept;
        printing = stands.of_stage (is_printing prints words form) at.stays;
        fails = fails;
      }))
  stage_over free (ends.wanting earlier line prints is appends) =
      rw is
      (over_with at
      (λ words form. ends.for_line earlier [] line (stands.of_stage (is_printing prints words form) at.stays) appends))
  stage_over free (ends.wanting_next lines awaits is appends) =
      rw is (over_with at (λ words form. ends.next lines (is_awaiting awaits words form) at.stays appends))

-- ---- the calls of `run`

-- the first calls, which have returned
shows_first : {psid : Psid} {subtune calls : ℕ} (registers : List (List ℕ)) (machine : Machine) →
    FirstCalls (loaded psid) (subtune - 1) calls registers machine → {lines : List (List ℕ)} →
    lines ≡ register_lines registers → Shows psid subtune calls lines
shows_first registers machine first are =
    record { registers = registers; after = machine; returned = first; lines_are = are }

module _ {input : List ℕ} {subtune frames : ℕ} {files : Files} {psid : Psid} (holds : HoldsPsid files input psid) where
  calls_end : {last : Last} {s t : SinkState} → CallsEnd (loaded psid) (subtune - 1) frames last s t →
      StageEnds (Run input subtune frames) files (CallsReturn input subtune frames) last s t
  calls_end (ends.played registers machine first is shown) =
      ends.met (register_lines registers) (psid, holds, registers, machine, first)
      ((psid, holds, shows_first registers machine first refl), refl) is shown
  calls_end (ends.stopped call registers reason within meets is shown) =
      let stop : StopsIn psid subtune frames =
      record { call = call; within = within; registers = registers; reason = reason; meets = meets } in
      ends.ended (register_lines registers) (stop_line reason call) (psid, holds, stop, refl) is shown
  calls_end (ends.failed calls kept earlier line registers machine within first lines_are is fails) =
      ends.failed earlier line kept
      (psid, holds, calls, within, shows_first registers machine first (sym lines_are)) is fails
  calls_end (ends.wanting calls earlier line registers machine within first lines_are is appends) =
      ends.wanting earlier line
      (psid, holds, calls, within, shows_first registers machine first (sym lines_are)) is appends

  pub calls_over : {folder after : FolderState} →
      At (Run input subtune frames) files folder after (CallsReturn input subtune frames ∷ []) → {last : Last}
      {s t : SinkState} → CallsEnd (loaded psid) (subtune - 1) frames last s t →
      JobEnds (Run input subtune frames) last folder after s t
  calls_over at ended = stage_over at refl (calls_end ended)
