-- One status is due, and one text: each cause by itself.
use Rattle.std.proofs.Common.{◌≡◌, ◌≢◌, ℕ, ◌+◌, ◌-◌, ◌↔◌, ◌==◌, ◌||◌, Bool, true}
use Rattle.std.proofs.Common.{false, inl, inr, List, [], ◌∷◌, ◌++◌, Option, None, option_map, length, refl}
use Rattle.std.proofs.Common.{sym, ap, ◌∙◌, subst, arith}
use Rattle.std.proofs.lemmas.List.{append_assoc}
use Rattle.goat_io.specs.Files.{Files}
use Rattle.sid_run.specs.State.{loaded}
use Rattle.command_line.specs.Words as asked
use Rattle.command_line.specs.Words.{Job, Selftest}
use Rattle.song_model.specs.declared.songs.Song.{Song}
use Rattle.song_model.specs.LookUp.{playable_subtunes}
use Rattle.usage.specs.declared.parts.UsedParts.{UsedParts}
use Rattle.usage.specs.Parts.{AreUsedParts}
use Rattle.usage.proofs.Laws.{parts_are_the_songs_lem}
use Rattle.jobs.specs.Lines.{check_line, bound_line}
use Rattle.player_bound.specs.declared.bounds.CallBounds.{CallBounds}
use Rattle.jobs.specs.SongPrograms.{HasProgram}
use Rattle.jobs.specs.Certificates.{IsAdmittedText}
use Rattle.jobs.specs.Calls.{FirstCalls}
use Rattle.command_line.specs.RegisterText.{register_lines}
use Rattle.jobs.specs.Traces.{first_traces}
use Rattle.jobs.specs.Stages.{Stage, IsThere, status_of, Ends, AllPass, FirstEnds}
use Rattle.command_line.specs.Forms.{WordsOf, IsNoForm}
use Rattle.jobs.specs.Jobs.{Deed, PrintsLines, WritesFile, WritesAndPrints, DoneBy, output_under, about, output_of}
use Rattle.jobs.specs.Jobs.{stages, Done}
use Rattle.jobs.specs.Outcome as outcome
use Rattle.jobs.specs.Outcome.{Outcome}
use Rattle.jobs.specs.Due as due
use Rattle.jobs.specs.Due.{IsDue}
use Rattle.jobs.specs.Stands.{ComesTo}
use Rattle.command_line.proofs.Laws.{one_job}
use Rattle.jobs.specs.Costs.{TellCosts}
use Rattle.jobs.proofs.Costs.{one_cost_text}
use Rattle.jobs.specs.Lengths.{TellLengths}
use Rattle.jobs.proofs.Lengths.{one_text as one_length_text}
use Rattle.jobs.proofs.Calls.{one_list}
use Rattle.jobs.proofs.OneProgram.{one_program, one_bound}
use Rattle.jobs.proofs.Passes.{one_file, one_song_held, one_psid_held, stage_facts}
use Rattle.jobs.proofs.Ends.{first_ends}
use Rattle.jobs.proofs.Chains.{pass_more}

-- ---- the first stage that isn't met

-- the statuses that no stage has: of a job that was done, of words of no form, of devices and of memory
abbrev pub is_no_stage : ℕ → Bool
is_no_stage n = n == 0 || (n == 1 || (n == 4 || (n == 9 || (n == 10 || n == 14))))

stage_status : (stage : Stage) → is_no_stage (status_of stage) ≡ false
stage_status (IsThere name) = refl
stage_status _ = refl

pub ends_with_stage : (files : Files) (list : List Stage) (status : ℕ) (lines : List (List ℕ)) →
    FirstEnds files list status lines →
    is_no_stage status ≡ false
ends_with_stage files [] status lines never = absurd never
ends_with_stage files (stage ∷ rest) status lines (inl here) = rw here.0 (stage_status stage)
ends_with_stage files (stage ∷ rest) status lines (inr later) = ends_with_stage files rest status lines later.1

pub not_zero : (files : Files) (list : List Stage) (lines : List (List ℕ)) → FirstEnds files list 0 lines → ⊥
not_zero files list lines first =
    let never : true ≡ false = ends_with_stage files list 0 lines first in absurd (cc (never))

not_one : (files : Files) (list : List Stage) (lines : List (List ℕ)) → FirstEnds files list 1 lines → ⊥
not_one files list lines first =
    let never : true ≡ false = ends_with_stage files list 1 lines first in absurd (cc (never))

module _ (files : Files) where
  pass_or_end : (list : List Stage) (status : ℕ) (lines : List (List ℕ)) → AllPass files list →
      FirstEnds files list status lines → ⊥
  pass_or_end [] status lines pass ends = ends
  pass_or_end (stage ∷ rest) status lines pass (inl here) = pass.0 lines here.1
  pass_or_end (stage ∷ rest) status lines pass (inr later) = pass_or_end rest status lines pass.1 later.1

  -- a run is ended in one way
  one_end : (list : List Stage) (s t : ℕ) (lines others : List (List ℕ)) → FirstEnds files list s lines →
      FirstEnds files list t others → (s ≡ t) × (lines ≡ others)
  one_end [] s t lines others p q = absurd p
  one_end (stage ∷ rest) s t lines others (inl p) (inl q) =
      (p.0 ∙ sym q.0, (stage_facts files stage).once lines others p.1 q.1)
  one_end (stage ∷ rest) s t lines others (inl p) (inr q) = absurd (q.0 lines p.1)
  one_end (stage ∷ rest) s t lines others (inr p) (inl q) = absurd (p.0 others q.1)
  one_end (stage ∷ rest) s t lines others (inr p) (inr q) = one_end rest s t lines others p.1 q.1

-- ---- what a job writes is under its output's name, and a job that writes nothing prints one text

pub done_under : (deed : Deed) (files : Files) (lines : List (List ℕ)) (write : Option (List ℕ × List ℕ)) →
    DoneBy deed files lines write →
    output_under deed ≡ option_map (λ w. w.0) write
done_under (PrintsLines text) files lines write did = sym (ap (option_map (λ w. w.0)) did.1)
done_under (WritesFile output holds) files lines write did = sym (ap (option_map (λ w. w.0)) did.2.write_is)
done_under (WritesAndPrints output holds) files lines write did = sym (ap (option_map (λ w. w.0)) did.2)

abbrev HasOneText : Files → Deed → Type 0
HasOneText files (PrintsLines text) =
    (lines others : List (List ℕ)) → text files lines → text files others → lines ≡ others
HasOneText files (WritesFile output holds) = Unit {0}
HasOneText files (WritesAndPrints output holds) = Unit {0}

-- a song has one line of used parts
one_check_line : (song : Song) (a b : UsedParts) → AreUsedParts song a → AreUsedParts song b →
    {lines others : List (List ℕ)} →
    lines ≡ check_line (length (playable_subtunes song)) a ∷ [] →
    others ≡ check_line (length (playable_subtunes song)) b ∷ [] → lines ≡ others
one_check_line song a b p q one other =
    let same = parts_are_the_songs_lem song a b p q in
    rw (one, other)
    (rw (same.patterns, same.instruments, same.wave, same.pulse, same.filter, same.speed, same.features) refl)

has_one_text : (files : Files) (job : Job) → ((number : ℕ) → job ≢ Selftest number) → HasOneText files (about job).does
has_one_text files (asked.Selftest number) other = absurd (other number refl)
has_one_text files (asked.Check input) other = λ lines others p q.
    let same = one_song_held files input p.0 q.0 p.2 q.2 in
    one_check_line q.0 p.1 q.1 (subst (λ song. AreUsedParts song p.1) same p.3) q.3
    (p.4 ∙ ap (λ song. check_line (length (playable_subtunes song)) p.1 ∷ []) same) q.4
has_one_text files (asked.Trace input subtune frames options) other = λ lines others p q.
    p.2
    ∙ ap (λ song. register_lines (first_traces options song (subtune - 1) (frames + 1)))
    (one_song_held files input p.0 q.0 p.1 q.1)
    ∙ sym q.2
has_one_text files (asked.Run input subtune frames) other = λ lines others p q.
    let same = one_psid_held files input p.0 q.0 p.1 q.1 in
    let first =
    subst (λ x. FirstCalls (loaded x) (subtune - 1) (frames + 1) p.2.registers p.2.after) same p.2.returned in
    let calls =
    one_list (loaded q.0) (subtune - 1) (frames + 1) p.2.registers q.2.registers p.2.after q.2.after first
    q.2.returned in
    p.2.lines_are ∙ ap register_lines calls ∙ sym q.2.lines_are
has_one_text files (asked.Measure input calls) other = λ lines others p q.
    let same = one_psid_held files input p.0 q.0 p.1 q.1 in
    one_length_text q.0 calls q.0.header.songs lines others
    (subst (λ psid. TellLengths psid calls psid.header.songs lines) same p.2) q.2
has_one_text files (asked.Help topic) other = λ lines others p q. p ∙ sym q
has_one_text files asked.Version other = λ lines others p q. p ∙ sym q
has_one_text files (asked.Parts input options) other = λ lines others p q.
    let same = one_song_held files input p.0 q.0 p.1 q.1 in
    one_cost_text q.0 options lines others (subst (λ song. TellCosts song options lines) same p.2) q.2
has_one_text files (asked.BoundCheck input certificate options) other = λ lines others p q.
    let song = one_song_held files input p.0 q.0 p.4 q.4 in
    let program = one_program q.0 options p.1 q.1 (subst (λ s. HasProgram s options p.1) song p.5) q.5 in
    let text = one_file files certificate p.2 q.2 p.6 q.6 in
    let here = subst (λ b. IsAdmittedText b q.2 p.3) program (subst (λ t. IsAdmittedText p.1 t p.3) text p.7) in
    p.8 ∙ ap (λ (bounds : CallBounds). bound_line bounds.init bounds.play ∷ []) (one_bound q.1 q.2 p.3 q.3 here q.7)
    ∙ sym q.8
has_one_text files _ other = tt

done_once : (deed : Deed) (files : Files) (lines others : List (List ℕ)) → HasOneText files deed →
    DoneBy deed files lines None →
    DoneBy deed files others None → lines ≡ others
done_once (PrintsLines text) files lines others once p q = once lines others p.0 q.0
done_once (WritesFile output holds) files lines others once p q = let wrote = p.2.write_is in absurd (cc (wrote))
done_once (WritesAndPrints output holds) files lines others once p q = let wrote = p.2 in absurd (cc (wrote))

-- ---- what is due

-- what holds of one job that the words name holds of each
moved : {words : List (List ℕ)} {a b : Job} → WordsOf words a → WordsOf words b → (P : Job → Type 0) → P a → P b
moved {words} {a} {b} p q P = subst P (one_job words a b p q)

module _ (files : Files) {words : List (List ℕ)} {a b : Job} (p : WordsOf words a) (q : WordsOf words b) where
  both_end : (s t : ℕ) (lines others : List (List ℕ)) → FirstEnds files (stages a) s lines →
      FirstEnds files (stages b) t others →
      (s ≡ t) × (lines ≡ others)
  both_end s t lines others first second =
      one_end files (stages b) s t lines others (moved p q (λ job. FirstEnds files (stages job) s lines) first) second

  never_both : (s : ℕ) (lines : List (List ℕ)) → FirstEnds files (stages a) s lines → AllPass files (stages b) → ⊥
  never_both s lines first pass =
      pass_or_end files (stages a) s lines (moved q p (λ job. AllPass files (stages job)) pass) first

module _ {words : List (List ℕ)} {files : Files} where
  pub outcome_due : {status : ℕ} {lines : List (List ℕ)} {write : Option (List ℕ × List ℕ)} →
      Outcome words files status lines write →
      (output : Option (List ℕ)) × IsDue words files status output
  outcome_due (outcome.usage none s l w) = (None, due.usage none s refl)
  outcome_due {lines} (outcome.ended job form first w) = (None, due.ended job lines form first refl)
  outcome_due (outcome.done job form pass did s) = (output_of job, due.done job form pass s refl)

  pub one_due : {s t : ℕ} {a b : Option (List ℕ)} → IsDue words files s a → IsDue words files t b → (s ≡ t) × (a ≡ b)
  one_due (due.usage none p x) (due.usage none' q y) = (p ∙ sym q, x ∙ sym y)
  one_due (due.usage none p x) (due.ended job lines form first y) = absurd (none job form)
  one_due (due.usage none p x) (due.done job form pass q y) = absurd (none job form)
  one_due (due.ended job lines form first x) (due.usage none q y) = absurd (none job form)
  one_due {s} {t} (due.ended job lines form first x) (due.ended job' lines' form' first' y) =
      ((both_end files form form' s t lines lines' first first').0, x ∙ sym y)
  one_due {s} (due.ended job lines form first x) (due.done job' form' pass q y) =
      absurd (never_both files form form' s lines first pass)
  one_due (due.done job form pass p x) (due.usage none q y) = absurd (none job form)
  one_due {t} (due.done job form pass p x) (due.ended job' lines form' first y) =
      absurd (never_both files form' form t lines first pass)
  one_due (due.done job form pass p x) (due.done job' form' pass' q y) =
      (p ∙ sym q, x ∙ ap output_of (one_job words job job' form form') ∙ sym y)

  pub one_text : {s t : ℕ} {lines others : List (List ℕ)} →
      ((number : ℕ) → WordsOf words (Selftest number) → ⊥) → Outcome words files s lines None →
      Outcome words files t others None →
      lines ≡ others
  one_text other (outcome.usage none p l w) (outcome.usage none' q m v) = l ∙ sym m
  one_text other (outcome.usage none p l w) (outcome.ended job form first v) = absurd (none job form)
  one_text other (outcome.usage none p l w) (outcome.done job form pass did q) = absurd (none job form)
  one_text other (outcome.ended job form first w) (outcome.usage none q m v) = absurd (none job form)
  one_text {s} {t} {lines} {others} other (outcome.ended job form first w) (outcome.ended job' form' first' v) =
      (both_end files form form' s t lines others first first').1
  one_text {s} {lines} other (outcome.ended job form first w) (outcome.done job' form' pass did q) =
      absurd (never_both files form form' s lines first pass)
  one_text other (outcome.done job form pass did p) (outcome.usage none q m v) = absurd (none job form)
  one_text {t} {others} other (outcome.done job form pass did p) (outcome.ended job' form' first v) =
      absurd (never_both files form' form t others first pass)
  one_text {lines} {others} other (outcome.done job form pass did p) (outcome.done job' form' pass' did' q) =
      done_once (about job').does files lines others (has_one_text files job' (λ number is. other number (subst (WordsOf words) is form')))
      (moved form form' (λ j. Done j files lines None) did) did'

-- ---- each status has its cause

module _ (words : List (List ℕ)) (files : Files) where
  -- the stage at which a run ends
  record EndsAt (status : ℕ) : Type 0 where
    stage : Stage
    lines : List (List ℕ)
    comes : ComesTo words files stage
    is : Ends files stage lines
    status_is : status ≡ status_of stage

  found_stage : (job : Job) → WordsOf words job → (list passed : List Stage) → stages job ≡ passed ++ list →
      AllPass files passed →
      (status : ℕ) (lines : List (List ℕ)) → FirstEnds files list status lines → EndsAt status
  found_stage job form [] passed are pass status lines never = absurd never
  found_stage job form (stage ∷ rest) passed are pass status lines (inl here) = record {
    stage = stage;
    lines = lines;
    comes = record { job = job; form = form; earlier = passed; later = rest; stages_are = are; pass = pass };
    is = here.1;
    status_is = here.0;
  }
  found_stage job form (stage ∷ rest) passed are pass status lines (inr later) =
      let more = are ∙ sym (append_assoc passed (stage ∷ []) rest) in
      found_stage job form rest (passed ++ stage ∷ []) more (pass_more files passed stage pass later.0) status lines
      later.1

  ends_at : (status : ℕ) → IsDue words files status None → status ≢ 0 → status ≢ 1 → EndsAt status
  ends_at status (due.usage none is x) zero one = absurd (one is)
  ends_at status (due.ended job lines form first x) zero one =
      found_stage job form (stages job) [] refl tt status lines first
  ends_at status (due.done job form pass is x) zero one = absurd (zero is)

  -- and back
  refused_at : (stage : Stage) (lines : List (List ℕ)) → ComesTo words files stage → Ends files stage lines →
      IsDue words files (status_of stage) None
  refused_at stage lines comes is =
      let first = first_ends files comes.earlier comes.later stage lines comes.pass is in
      due.ended comes.job lines comes.form
      (subst (λ list. FirstEnds files list (status_of stage) lines) (sym comes.stages_are) first) refl

  pub other_row : (status : ℕ) → status ≢ 0 → status ≢ 1 → IsDue words files status None ↔
      ((stage : Stage) × (lines : List (List ℕ)) × (status ≡ status_of stage) × ComesTo words files stage ×
      Ends files stage lines)
  other_row status zero one = (
    (λ is. let e = ends_at status is zero one in (e.stage, e.lines, e.status_is, e.comes, e.is)),
    (λ p. rw p.2 (refused_at p.0 p.1 p.3 p.4)),
  )

  -- ---- status 0 and 1

  to_done : (output : Option (List ℕ)) → IsDue words files 0 output →
      (job : Job) × WordsOf words job × AllPass files (stages job)
  to_done output (due.usage none is x) = absurd (omega arith)
  to_done output (due.ended job lines form first x) = absurd (not_zero files (stages job) lines first)
  to_done output (due.done job form pass is x) = (job, form, pass)

  pub done_row : ((output : Option (List ℕ)) × IsDue words files 0 output) ↔
      ((job : Job) × WordsOf words job × AllPass files (stages job))
  done_row = ((λ p. to_done p.0 p.1), (λ p. (output_of p.0, due.done p.0 p.1 p.2 refl refl)))

  to_usage : IsDue words files 1 None → IsNoForm words
  to_usage (due.usage none is x) = none
  to_usage (due.ended job lines form first x) = absurd (not_one files (stages job) lines first)
  to_usage (due.done job form pass is x) = absurd (omega arith)

  pub usage_row : IsDue words files 1 None ↔ IsNoForm words
  usage_row = (to_usage, (λ none. due.usage none refl refl))
