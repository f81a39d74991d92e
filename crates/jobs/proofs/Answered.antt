-- From what stands after a run to what its answer says.
use Rattle.std.proofs.Common.{◌≡◌, ◌≢◌, ℕ, ◌+◌, ◌-◌, ◌==◌, ◌||◌, ◌⊎◌, inl, inr}
use Rattle.std.proofs.Common.{List, [], ◌∷◌, Option, Some, None, IfSome, true, false, refl, sym, ap, ◌∙◌}
use Rattle.std.proofs.Common.{subst, arith}
use Rattle.std.specs.List.{concat}
use Rattle.goat_io.specs.Files.{Files}
use Rattle.goat_io.specs.Written.{told_with_piece}
use Rattle.song_model.specs.declared.songs.Song.{Song}
use Rattle.song_model.specs.Canonical.{canonical}
use Rattle.command_line.specs.Words.{Job, Run, Selftest}
use Rattle.command_line.specs.RegisterText.{register_text}
use Rattle.command_line.specs.Forms.{WordsOf, IsNoForm}
use Rattle.jobs.specs.Jobs.{about, stages}
use Rattle.jobs.specs.Outcome as outcome
use Rattle.jobs.specs.Outcome.{Outcome, files_after, told_after}
use Rattle.jobs.specs.Due as due
use Rattle.jobs.specs.Due.{IsDue, IsOneOf, instead}
use Rattle.jobs.specs.Stands as stands
use Rattle.jobs.specs.Stands.{FolderState, SinkState, AreFiles, Counted, Appends, Account, TellsWant, Stands, RunStands}
use Rattle.jobs.specs.Answers.{IsOrdinary, IsPrinted, IsBeforeWriting, HoldsDone, ComesAbout, ComesWhere, SinkCounted}
use Rattle.jobs.specs.Answers.{RunsPacked, AssemblesListing, AsksToMake, AsksToJoin, HoldsJoined, AsksToMeasure}
use Rattle.jobs.specs.Answers.{TellsForEver, RunsRepeating}
use Rattle.psid.specs.declared.header.Psid.{Psid}
use Rattle.jobs.specs.Packed.{raw_file}
use Rattle.jobs.specs.Traces.{first_traces}
use Rattle.play_model.specs.declared.options.Options.{Options}
use Rattle.command_line.proofs.Laws.{one_job}
use Rattle.jobs.proofs.Told.{as_before}
use Rattle.jobs.proofs.Due.{is_no_stage, ends_with_stage, done_under, outcome_due, one_due, one_text}
use Rattle.jobs.proofs.Joining.{songs_join}
use Rattle.jobs.proofs.MeasuredFiles.{tells_lengths, all_go_on, run_meets_no_stop}
use Rattle.jobs.proofs.Listed.{listing_is_due, writes_image}
use Rattle.jobs.proofs.PlayedFiles.{packed_file_plays, packed_file_is_due}
use Rattle.jobs.proofs.Fileless.{answered}
use Rattle.jobs.proofs.Shown.{script_is_due, writes_song}

run_is_no_selftest : {input : List ℕ} {subtune frames number : ℕ} → Run input subtune frames ≡ Selftest number → ⊥
run_is_no_selftest e = absurd (cc (e))

no_selftest : (ws : List (List ℕ)) {input : List ℕ} {subtune frames : ℕ} → WordsOf ws (Run input subtune frames) →
    (number : ℕ) → WordsOf ws (Selftest number) → ⊥
no_selftest ws {input} {subtune} {frames} form number other =
    run_is_no_selftest (one_job ws (Run input subtune frames) (Selftest number) form other)

-- ---- a run that is cut short

-- the answer tells of a failed put, or of running out of memory
abbrev IsCut : ℕ → Type 0
IsCut answer = (answer ≡ 10) ⊎ (answer ≡ 14)

-- and so it is no other number
cut_not : {answer : ℕ} (n : ℕ) → (n == 10 || n == 14) ≡ false → IsCut answer → answer ≢ n
cut_not n other (inl ten) is =
    let never : true ≡ false = ap (λ m. m == 10 || m == 14) (sym ten ∙ is) ∙ other in absurd (cc (never))
cut_not n other (inr fourteen) is =
    let never : true ≡ false = ap (λ m. m == 10 || m == 14) (sym fourteen ∙ is) ∙ other in absurd (cc (never))

not_cut : {answer : ℕ} → answer ≢ 10 → answer ≢ 14 → IsCut answer → ⊥
not_cut no_fault no_want (inl ten) = no_fault ten
not_cut no_fault no_want (inr fourteen) = no_want fourteen

wants : {bytes : List ℕ} {answer : ℕ} {s t : SinkState} → TellsWant bytes answer s t → IsCut answer
wants (stands.told is appends) = inr is
wants (stands.failed kept is fails) = inl is
wants (stands.untold is appends) = inr is

module _ {answer : ℕ} {s t : SinkState} where
  sink_stays : answer ≢ 10 → {bytes : List ℕ} → Appends bytes s t → SinkCounted answer s.faults t.faults
  sink_stays other appends = record { rose = λ ten. absurd (other ten); stays = λ it. appends.faults }

  sink_of_want : {bytes : List ℕ} → TellsWant bytes answer s t → SinkCounted answer s.faults t.faults
  sink_of_want (stands.told is appends) = sink_stays (λ ten. omega (arith, is, ten)) appends
  sink_of_want (stands.failed kept is fails) = record { rose = λ ten. fails.faults; stays = λ other. absurd (other is) }
  sink_of_want (stands.untold is appends) = sink_stays (λ ten. omega (arith, is, ten)) appends

-- ---- what a run came to

module _ {words : List (List ℕ)} {files : Files} where
  -- an outcome has the status of a stage, but for 0 and 1
  outcome_status : {status : ℕ} {lines : List (List ℕ)} {write : Option (List ℕ × List ℕ)} →
      Outcome words files status lines write →
      (n : ℕ) → is_no_stage n ≡ true → n ≢ 0 → n ≢ 1 → status ≢ n
  outcome_status (outcome.usage none is l w) n test zero one same = one (sym same ∙ is)
  outcome_status {status} {lines} (outcome.ended job form first w) n test zero one same =
      let no_stage : is_no_stage status ≡ true = ap is_no_stage same ∙ test in
      let never : true ≡ false = sym no_stage ∙ ends_with_stage files (stages job) status lines first in
      absurd (cc (never))
  outcome_status (outcome.done job form pass did is) n test zero one same = zero (sym same ∙ is)

  -- and a file is written with status 0 alone
  writes_if_done : {status : ℕ} {lines : List (List ℕ)} {write : Option (List ℕ × List ℕ)} →
      Outcome words files status lines write →
      status ≢ 0 → write ≡ None
  writes_if_done (outcome.usage none is l w) other = w
  writes_if_done (outcome.ended job form first w) other = w
  writes_if_done (outcome.done job form pass did is) other = absurd (other is)

  -- under the name of the job's output
  written_under : {text : List (List ℕ)} {name file : List ℕ} → Outcome words files 0 text (Some (name, file)) →
      IsDue words files 0 (Some name)
  written_under (outcome.usage none zero l w) = absurd (omega (arith, zero))
  written_under (outcome.ended job form first w) = absurd (cc (w))
  written_under {text} {name} {file} (outcome.done job form pass did zero) =
      due.done job form pass refl (sym (done_under (about job).does files text (Some (name, file)) did))

  -- of words of no form nothing is written
  writes_of_form : {name : List ℕ} → IsDue words files 0 (Some name) → IsNoForm words → ⊥
  writes_of_form (due.usage none zero o) other = absurd (omega (arith, zero))
  writes_of_form (due.ended job lines form first o) other = other job form
  writes_of_form (due.done job form pass zero o) other = other job form

  -- where nothing is due to be written, nothing is
  writes_nothing : {lines : List (List ℕ)} (write : Option (List ℕ × List ℕ)) → Outcome words files 0 lines write →
      IsDue words files 0 None → write ≡ None
  writes_nothing None o is = refl
  writes_nothing (Some (name, file)) o is =
      let never : Some name ≡ None = (one_due (written_under o) is).1 in absurd (cc (never))

  module _ {status : ℕ} {lines : List (List ℕ)} {before after : Option Files} where
    no_cut : Account words files status lines before after → IsCut status → ⊥
    no_cut (stands.outcome write o told) (inl ten) = outcome_status o 10 refl (λ e. omega arith) (λ e. omega arith) ten
    no_cut (stands.outcome write o told) (inr fourteen) =
        outcome_status o 14 refl (λ e. omega arith) (λ e. omega arith) fourteen
    no_cut (stands.read_fault name comes is l told) cut = cut_not 4 refl cut is
    no_cut (stands.write_fault text name file o is l part) cut = cut_not 9 refl cut is

    account_done : before ≡ Some files → status ≡ 0 → Account words files status lines before after →
        HoldsDone words files after
    account_done known zero (stands.outcome write (outcome.usage none is l w) told) = absurd (omega (arith, zero, is))
    account_done known zero (stands.outcome write (outcome.ended job form first w) told) =
        let never : true ≡ false = ap is_no_stage (sym zero) ∙ ends_with_stage files (stages job) status lines first in
        absurd (cc (never))
    account_done known zero (stands.outcome write (outcome.done job form pass did is) told) = record {
      job = job;
      form = form;
      pass = pass;
      lines = lines;
      write = write;
      done = did;
      files_are = told ∙ ap (λ t. told_after t write) known;
    }
    account_done known zero (stands.read_fault name comes is l told) = absurd (omega (arith, zero, is))
    account_done known zero (stands.write_fault text name file o is l part) = absurd (omega (arith, zero, is))

    comes_about : before ≡ Some files → {printed printed_now : Option (List ℕ)} →
        printed_now ≡ told_with_piece printed (concat lines) →
        IsOrdinary status → Account words files status lines before after →
        ComesAbout words files status printed printed_now after
    comes_about known told_is ordinary (stands.outcome write o told) = record {
      lines = lines;
      write = write;
      outcome = o;
      appended = told_is;
      files_are = told ∙ ap (λ f. told_after f write) known;
    }
    comes_about known told_is ordinary (stands.read_fault name comes is l told) = absurd (ordinary.no_read_fault is)
    comes_about known told_is ordinary (stands.write_fault text name file o is l part) =
        absurd (ordinary.no_write_fault is)

    stays_before : IsBeforeWriting status → Account words files status lines before after → after ≡ before
    stays_before early (stands.outcome write o told) =
        told ∙ ap (told_after before) (writes_if_done o early.not_done) ∙ sym (as_before before)
    stays_before early (stands.read_fault name comes is l told) = told
    stays_before early (stands.write_fault text name file o is l part) = absurd (early.no_write_fault is)

    account_due : {n : ℕ} (output : Option (List ℕ)) → IsDue words files n output →
        Account words files status lines before after →
        IsOneOf (n ∷ instead output) status
    account_due output is (stands.outcome write o told) = inl (one_due (outcome_due o).1 is).0
    account_due None is (stands.read_fault name comes four l told) = inr (inl four)
    account_due (Some output) is (stands.read_fault name comes four l told) = inr (inl four)
    account_due {n} output is (stands.write_fault text name file o nine l part) =
        subst (λ o. IsOneOf (n ∷ instead o) status) (sym (one_due is (written_under o)).1) (inr (inr (inl nine)))

    account_usage : Account words files status lines before after → ComesWhere (IsNoForm words) status 1 (10 ∷ 14 ∷ [])
    account_usage (stands.outcome write (outcome.usage none is l w) told) = record {
      only = λ one. none;
      always = λ p. inl is;
    }
    account_usage (stands.outcome write (outcome.ended job form first w) told) = record {
      only = λ one.
          let never : true ≡ false = ap is_no_stage (sym one) ∙ ends_with_stage files (stages job) status lines first in
          absurd (cc (never));
      always = λ none. absurd (none job form);
    }
    account_usage (stands.outcome write (outcome.done job form pass did is) told) =
        record { only = λ one. absurd (omega (arith, one, is)); always = λ none. absurd (none job form) }
    account_usage (stands.read_fault name comes is l told) =
        record { only = λ one. absurd (omega (arith, one, is)); always = λ none. absurd (none comes.job comes.form) }
    account_usage (stands.write_fault text name file o is l part) =
        record {
          only = λ one. absurd (omega (arith, one, is));
          always = λ none. absurd (writes_of_form (written_under o) none);
        }

-- a status other than those of devices and of memory is ordinary
is_ordinary : {answer : ℕ} (status : ℕ) → status ≢ 4 → status ≢ 9 → status ≢ 10 → status ≢ 14 → answer ≡ status →
    IsOrdinary answer
is_ordinary {answer} status read write sink want is = record {
  no_read_fault = λ same. read (sym is ∙ same);
  no_write_fault = λ same. write (sym is ∙ same);
  no_sink_fault = λ same. sink (sym is ∙ same);
  no_want = λ same. want (sym is ∙ same);
}

zero_is_ordinary : {answer : ℕ} → answer ≡ 0 → IsOrdinary answer
zero_is_ordinary = is_ordinary 0 (λ e. omega arith) (λ e. omega arith) (λ e. omega arith) (λ e. omega arith)

-- ---- what stands

-- all lines were printed
record Whole (words : List (List ℕ)) (files : Files) (answer : ℕ) (folder after : FolderState)
    (s t : SinkState) : Type 0 where
  lines : List (List ℕ)
  account : Account words files answer lines folder.told after.told
  counted : Counted answer folder.counts after.counts
  appends : Appends (concat lines) s t

-- what a run that is cut short answers
cut_due : {answer : ℕ} (n : ℕ) (output : Option (List ℕ)) → IsCut answer → IsOneOf (n ∷ instead output) answer
cut_due n None (inl ten) = inr (inr (inl ten))
cut_due n None (inr fourteen) = inr (inr (inr (inl fourteen)))
cut_due n (Some name) (inl ten) = inr (inr (inr (inl ten)))
cut_due n (Some name) (inr fourteen) = inr (inr (inr (inr (inl fourteen))))

cut_usage : {answer : ℕ} → IsCut answer → IsOneOf (1 ∷ 10 ∷ 14 ∷ []) answer
cut_usage (inl ten) = inr (inl ten)
cut_usage (inr fourteen) = inr (inr (inl fourteen))

module _ {words : List (List ℕ)} {files : Files} {answer : ℕ} {folder after : FolderState} {s t : SinkState} where
  whole_or_cut : Stands words files answer folder after s t → Whole words files answer folder after s t ⊎ IsCut answer
  whole_or_cut (stands.whole lines account counted appends) =
      inl (record { lines = lines; account = account; counted = counted; appends = appends })
  whole_or_cut (stands.cut_in_line earlier later line kept printing ten fails) = inr (inl ten)
  whole_or_cut (stands.wanting earlier later line printing tells) = inr (wants tells)
  whole_or_cut (stands.wanting_first stays tells) = inr (wants tells)
  whole_or_cut (stands.wanting_next lines printing stays tells) = inr (wants tells)

  holds_done : folder.told ≡ Some files → Stands words files answer folder after s t → answer ≡ 0 →
      HoldsDone words files after.told
  holds_done known is zero = elim (whole_or_cut is) [
    | inl whole ↦ account_done known zero whole.account
    | inr cut ↦ absurd (cut_not 0 refl cut zero)
  ]

  outcome_is : folder.told ≡ Some files → Stands words files answer folder after s t → IsOrdinary answer →
      ComesAbout words files answer s.told t.told after.told
  outcome_is known is ordinary = elim (whole_or_cut is) [
    | inl whole ↦ comes_about known whole.appends.told ordinary whole.account
    | inr cut ↦ absurd (not_cut ordinary.no_sink_fault ordinary.no_want cut)
  ]

  comes_due : Stands words files answer folder after s t → (n : ℕ) (output : Option (List ℕ)) →
      IsDue words files n output →
      IsOneOf (n ∷ instead output) answer
  comes_due is n output due = elim (whole_or_cut is) [
    | inl whole ↦ account_due output due whole.account
    | inr cut ↦ cut_due n output cut
  ]

  comes_usage : Stands words files answer folder after s t → ComesWhere (IsNoForm words) answer 1 (10 ∷ 14 ∷ [])
  comes_usage is = elim (whole_or_cut is) [
    | inl whole ↦ account_usage whole.account
    | inr cut ↦ record { only = λ one. absurd (cut_not 1 refl cut one); always = λ none. cut_usage cut }
  ]

  is_counted : Stands words files answer folder after s t → IsPrinted answer → Counted answer folder.counts after.counts
  is_counted is printed = elim (whole_or_cut is) [
    | inl whole ↦ whole.counted
    | inr cut ↦ absurd (not_cut printed.no_sink_fault printed.no_want cut)
  ]

  sink_is_counted : Stands words files answer folder after s t → SinkCounted answer s.faults t.faults
  sink_is_counted (stands.whole lines account counted appends) = sink_stays (λ ten. no_cut account (inl ten)) appends
  sink_is_counted (stands.cut_in_line earlier later line kept printing ten fails) =
      record { rose = λ is. fails.faults; stays = λ other. absurd (other ten) }
  sink_is_counted (stands.wanting earlier later line printing tells) = sink_of_want tells
  sink_is_counted (stands.wanting_first stays tells) = sink_of_want tells
  sink_is_counted (stands.wanting_next lines printing stays tells) = sink_of_want tells

  early_stays : Stands words files answer folder after s t → IsBeforeWriting answer → after.told ≡ folder.told
  early_stays is early = elim (whole_or_cut is) [
    | inl whole ↦ stays_before early whole.account
    | inr cut ↦ absurd (not_cut early.no_sink_fault early.no_want cut)
  ]

  -- the listing of an image is assembled to the image
  assembles_listing : folder.told ≡ Some files → Stands words files answer folder after s t →
      (origin : ℕ) (image output : List ℕ) → AssemblesListing words files origin image output →
      IsOneOf (0 ∷ 4 ∷ 9 ∷ 10 ∷ 14 ∷ []) answer ×
      (answer ≡ 0 → after.told ≡ Some (files_after files (Some (output, raw_file origin image))))
  assembles_listing known is origin image output asked = (
    comes_due is 0 (Some output) (listing_is_due words files origin image output asked),
    (λ zero.
        let came = outcome_is known is (zero_is_ordinary zero) in
        let mine = subst (λ n. Outcome words files n came.lines came.write) zero came.outcome in
        came.files_are ∙ ap (λ w. Some (files_after files w)) (writes_image words files origin image output asked mine)),
  )

  -- a song's script makes the song of the empty one
  makes_song : folder.told ≡ Some files → Stands words files answer folder after s t → (song : Song)
      (output : List ℕ) → AsksToMake words files song output → IsOneOf (0 ∷ 4 ∷ 9 ∷ 10 ∷ 14 ∷ []) answer ×
      (answer ≡ 0 → after.told ≡ Some (files_after files (Some (output, canonical song))))
  makes_song known is song output asked = (
    comes_due is 0 (Some output) (script_is_due words files song output asked),
    (λ zero.
        let came = outcome_is known is (zero_is_ordinary zero) in
        let mine = subst (λ n. Outcome words files n came.lines came.write) zero came.outcome in
        came.files_are ∙ ap (λ w. Some (files_after files w)) (writes_song words files song output asked mine)),
  )

  -- two songs are joined
  joins_songs : folder.told ≡ Some files → Stands words files answer folder after s t → (first second : Song)
      (output : List ℕ) → AsksToJoin words files first second output → answer ≡ 0 →
      HoldsJoined files first second output after.told
  joins_songs known is first second output asked zero =
      let came = outcome_is known is (zero_is_ordinary zero) in
      let mine = subst (λ n. Outcome words files n came.lines came.write) zero came.outcome in
      let joins = songs_join words files first second output asked mine in
      record {
        files_are = came.files_are ∙ ap (λ w. Some (files_after files w)) joins.write_is;
        whole = joins.whole;
      }

  -- a packed file is run to its end, and prints its song's trace
  run_of_packed : folder.told ≡ Some files → Stands words files answer folder after s t →
      (song : Song) (o : Options) (subtune frames : ℕ) →
      RunsPacked words files song o subtune frames → IsOneOf (0 ∷ 4 ∷ 10 ∷ 14 ∷ []) answer ×
      (answer ≡ 0 →
      t.told ≡ told_with_piece s.told (register_text (first_traces o song (subtune - 1) (frames + 1))))
  run_of_packed known is song o subtune frames runs = (
    comes_due is 0 None (packed_file_is_due words files song o subtune frames runs),
    (λ zero.
        let came = outcome_is known is (zero_is_ordinary zero) in
        let mine = subst (λ n. Outcome words files n came.lines came.write) zero came.outcome in
        let write = writes_nothing came.write mine (packed_file_is_due words files song o subtune frames runs) in
        let same =
        one_text (no_selftest words runs.form) (subst (Outcome words files 0 came.lines) write mine)
        (packed_file_plays words files song o subtune frames runs) in
        came.appended ∙ ap (λ lines. told_with_piece s.told (concat lines)) same),
  )

  -- what is told of subtunes holds for ever
  told_for_ever : folder.told ≡ Some files → Stands words files answer folder after s t → (psid : Psid) (calls : ℕ) →
      AsksToMeasure words files psid calls → answer ≡ 0 → TellsForEver psid calls s.told t.told
  told_for_ever known is psid calls asked zero =
      let came = outcome_is known is (zero_is_ordinary zero) in
      let mine = subst (λ n. Outcome words files n came.lines came.write) zero came.outcome in
      let tells = tells_lengths asked mine in
      record {
        told = tells.told;
        are = tells.are;
        printed_is = came.appended ∙ ap (λ lines. told_with_piece s.told (concat lines)) tells.lines_are;
        go_on = all_go_on psid calls psid.header.songs tells.told tells.are;
      }

  -- and a run of one that repeats doesn't stop
  run_goes_on : folder.told ≡ Some files → Stands words files answer folder after s t → RunsRepeating words files →
      answer ≢ 13
  run_goes_on known is runs thirteen =
      let ordinary = is_ordinary 13 (λ e. omega arith) (λ e. omega arith) (λ e. omega arith) (λ e. omega arith) thirteen in
      let came = outcome_is known is ordinary in
      run_meets_no_stop runs (subst (λ n. Outcome words files n came.lines came.write) thirteen came.outcome)

-- ---- the same of a folder that may tell its files or not

for_told : (told : Option Files) (files : Files) (P Q : Files → Type 0) → AreFiles told files → P files →
    ((known : Files) → told ≡ Some known → P known → Q known) → IfSome told Q
for_told None files P Q are holds f = tt
for_told (Some known) files P Q are holds f = f known refl (subst P are holds)

module _ {words : List (List ℕ)} {answer : ℕ} {folder after : FolderState} {s t : SinkState}
    (run : RunStands words answer folder after s t) where
  told_case : (Q : Files → Type 0) →
      ((files : Files) → folder.told ≡ Some files → Stands words files answer folder after s t → Q files) →
      IfSome folder.told Q
  told_case Q f =
      for_told folder.told run.files (λ files. Stands words files answer folder after s t) Q run.are_files run.stands f

  pub headline : IfSome folder.told (λ files. answer ≡ 0 → HoldsDone words files after.told)
  headline = told_case _ (λ files known is. holds_done known is)

  pub outcome_comes : IfSome folder.told
      (λ files. IsOrdinary answer → ComesAbout words files answer s.told t.told after.told)
  outcome_comes = told_case _ (λ files known is. outcome_is known is)

  pub due_comes : IfSome folder.told (λ files. (n : ℕ) (output : Option (List ℕ)) → IsDue words files n output →
      IsOneOf (n ∷ instead output) answer)
  due_comes = told_case _ (λ files known is. comes_due is)

  pub usage_comes : ComesWhere (IsNoForm words) answer 1 (10 ∷ 14 ∷ [])
  usage_comes = comes_usage run.stands

  pub counts : IsPrinted answer → Counted answer folder.counts after.counts
  counts = is_counted run.stands

  pub sink_counts : SinkCounted answer s.faults t.faults
  sink_counts = sink_is_counted run.stands

  pub files_stay : IsBeforeWriting answer → after.told ≡ folder.told
  files_stay = early_stays run.stands

  pub packed_plays : IfSome folder.told
      (λ files. (song : Song) (o : Options) (subtune frames : ℕ) → RunsPacked words files song o subtune frames →
      IsOneOf (0 ∷ 4 ∷ 10 ∷ 14 ∷ []) answer ×
      (answer ≡ 0 →
      t.told ≡ told_with_piece s.told (register_text (first_traces o song (subtune - 1) (frames + 1)))))
  packed_plays = told_case _ (λ files known is. run_of_packed known is)

  pub listing_goes_back : IfSome folder.told
      (λ files. (origin : ℕ) (image output : List ℕ) → AssemblesListing words files origin image output →
      IsOneOf (0 ∷ 4 ∷ 9 ∷ 10 ∷ 14 ∷ []) answer ×
      (answer ≡ 0 → after.told ≡ Some (files_after files (Some (output, raw_file origin image)))))
  listing_goes_back = told_case _ (λ files known is. assembles_listing known is)

  pub script_makes_song : IfSome folder.told
      (λ files. (song : Song) (output : List ℕ) → AsksToMake words files song output →
      IsOneOf (0 ∷ 4 ∷ 9 ∷ 10 ∷ 14 ∷ []) answer ×
      (answer ≡ 0 → after.told ≡ Some (files_after files (Some (output, canonical song)))))
  script_makes_song = told_case _ (λ files known is. makes_song known is)

  pub joined_plays : IfSome folder.told
      (λ files. (first second : Song) (output : List ℕ) → AsksToJoin words files first second output → answer ≡ 0 →
      HoldsJoined files first second output after.told)
  joined_plays = told_case _ (λ files known is. joins_songs known is)

  pub lengths_hold : IfSome folder.told
      (λ files. (psid : Psid) (calls : ℕ) → AsksToMeasure words files psid calls → answer ≡ 0 →
      TellsForEver psid calls s.told t.told)
  lengths_hold = told_case _ (λ files known is. told_for_ever known is)

  pub repeating_runs : IfSome folder.told (λ files. RunsRepeating words files → answer ≢ 13)
  repeating_runs = told_case _ (λ files known is. run_goes_on known is)

  pub fileless_comes : (job : Job) → WordsOf words job → stages job ≡ [] → IsOneOf (0 ∷ 10 ∷ 14 ∷ []) answer
  fileless_comes job form bare = answered form bare run.stands
