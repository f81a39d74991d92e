-- The stages of `edit`: the song and the script were read, and the script makes another song of it, or fails.
use Rattle.std.proofs.Common.{◌≡◌, ◌≢◌, ◌⊎◌, ℕ, ◌≤◌, List, [], ◌∷◌, Err, inl, inr, refl}
use Rattle.std.proofs.Common.{subst, arith}
use Rattle.song_model.specs.declared.songs.Song.{Song}
use Rattle.edit_history.specs.History.{History, begun}
use Rattle.edit_script.specs.declared.commands.Command.{Command}
use Rattle.edit_script.specs.declared.faults.ScriptFault.{ScriptFault}
use Rattle.edit_script.specs.declared.faults.ScriptFault.TheVariants as fault
use Rattle.edit_script.specs.declared.faults.ScriptFault.TheVariants.{BadLine}
use Rattle.edit_script.specs.declared.kinds.RunFault.{RunFault}
use Rattle.edit_script.specs.declared.kinds.RunKind.{RunKind}
use Rattle.edit_script.specs.declared.kinds.RunKind.TheVariants.{NoSuchPlace, OutOfLimit, BadValue, NothingToUndo}
use Rattle.edit_script.specs.declared.kinds.RunKind.TheVariants.{NothingToRedo, NoMemory}
use Rattle.edit_script.specs.Scripts.{IsScript, IsFirstBadLine}
use Rattle.edit_script.specs.Runs.{fold_of}
use Rattle.edit_script.specs.Edited.{IsEditedBy, no_script, not_done, kind_words, bad_line_words}
use Rattle.edit_script.specs.Held.{stop_of}
use Rattle.command_line.specs.Words.{Edit}
use Rattle.command_line.specs.Last.{Last, Says, Wants}
use Rattle.jobs.specs.Lines.{script_line}
use Rattle.jobs.specs.Stages.{CanBeEdited, IsEditedIn, input_limit, script_limit}
use Rattle.jobs.specs.Stands.{FolderState, SinkState}
use Rattle.jobs.specs.Endings as ends
use Rattle.jobs.specs.Endings.{Refuses, BothWereRead, EditFails, JobEnds}
use Rattle.jobs.proofs.Laws.{At, met_next, refused}
use Rattle.jobs.proofs.Laws.{BothBegun, both_begun}

-- ---- how a script fails

-- a text with a bad line
pub bad_line_fails : {text : List ℕ} {song : Song} {last : Last} (number : ℕ) (bad : ScriptFault) →
    bad ≡ BadLine number → (bad ≡ fault.NoMemory) ⊎ ((n : ℕ) × (bad ≡ BadLine n) × IsFirstBadLine text n) →
    last ≡ Says 8 (script_line number bad_line_words) → EditFails text song last
bad_line_fails number bad is (inl never) says = absurd (cc (is, never))
bad_line_fails {text} number bad is (inr first) says =
    let here : first.0 ≡ number = let same = first.1 in cc (is, same) in
    ends.fails number bad_line_words (no_script (subst (IsFirstBadLine text) here first.2) refl) says

-- whether running out of memory is why a command wasn't done
wants_or_not : (kind : RunKind) → (kind ≡ NoMemory) ⊎ (kind ≢ NoMemory)
wants_or_not NoMemory = inl refl
wants_or_not NoSuchPlace = inr (λ never. absurd (cc (never)))
wants_or_not OutOfLimit = inr (λ never. absurd (cc (never)))
wants_or_not BadValue = inr (λ never. absurd (cc (never)))
wants_or_not NothingToUndo = inr (λ never. absurd (cc (never)))
wants_or_not NothingToRedo = inr (λ never. absurd (cc (never)))

-- a command that can't be done
pub run_fails : {text : List ℕ} {song : Song} {last : Last} (commands : List Command) (stopped : RunFault)
    (before : History) → IsScript text commands →
    (stopped.kind ≡ NoMemory) ⊎ (fold_of (begun song) commands ≡ Err (stop_of stopped before)) →
    (stopped.kind ≡ NoMemory → last ≡ Wants) →
    (stopped.kind ≢ NoMemory → last ≡ Says 8 (script_line stopped.line (kind_words stopped.kind))) →
    EditFails text song last
run_fails commands stopped before is (inl want) wants says = ends.wanting (wants want)
run_fails commands stopped before is (inr fold) wants says = elim (wants_or_not stopped.kind) [
  | inl want ↦ ends.wanting (wants want)
  | inr other ↦
      ends.fails stopped.line (kind_words stopped.kind)
      (not_done commands (stop_of stopped before) is fold refl refl) (says other)
]

-- ---- the stages

module _ {input script : List ℕ} (output : List ℕ) {text : List ℕ} {folder after : FolderState} {song : Song}
    (both : BothWereRead input script script_limit folder after song text) where
  -- the run has come to the script
  pub edit_begun :
      BothBegun (Edit input script output) folder after (CanBeEdited input script ∷ []) input script song text
  edit_begun =
      let within : input_limit ≤ script_limit = omega arith in
      both_begun (Edit input script output) input script script_limit [] (CanBeEdited input script ∷ []) refl
      (λ files held. tt) both within

  -- it fails
  pub edit_fails : {last : Last} (sink : SinkState) → EditFails text song last →
      JobEnds (Edit input script output) last folder after sink sink
  edit_fails {last} sink is = refused sink edit_begun.at refl (refuses is)
    where
      refuses : EditFails text song last → Refuses edit_begun.files (CanBeEdited input script) last
      refuses (ends.fails number words is says) =
          ends.ends (script_line number words)
          (song, number, words, edit_begun.held, record { text = text; found = edit_begun.found; fails = is }, refl)
          says
      refuses (ends.wanting wants) = ends.wanting wants

  module _ {other : Song} (edited : IsEditedBy text song other) where
    -- or makes another song
    pub edited_in : IsEditedIn edit_begun.files input script song other
    edited_in = record { holds = edit_begun.held; text = text; found = edit_begun.found; edited = edited }

    pub all_edited : At (Edit input script output) edit_begun.files folder after []
    all_edited = met_next edit_begun.at (song, other, edited_in)
