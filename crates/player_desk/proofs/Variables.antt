-- A voice plays in each memory that has the same variables.
use Rattle.std.proofs.Common.{◌≡◌, ℕ, ◌+◌, ◌*◌, ◌<◌, true, refl, ◌∙◌}
use Rattle.std.proofs.lemmas.Bool.{and_parts, ltb-true}
use Rattle.play_model.specs.State.{Playing}
use Rattle.play_model.specs.TickStep.{tempo_of}
use Rattle.scopes.specs.Desk.{Layout}
use Rattle.player_memory.specs.declared.labels.TheConstants.{VARIABLES, TEMPO}
use Rattle.player_memory.specs.Labels.{is_own, is_shared}
use Rattle.player_memory.specs.Playing.{own_at, shared_at, IsPlaying}
use Rattle.player_desk.proofs.Owners.{own_below}
use Rattle.player_desk.proofs.Views.{fields_of, fields_stand, shared_of, shared_stand}
use Rattle.player_desk.proofs.Memory.{fields_at, shared_here}

-- the variables are in one memory as in another
abbrev pub SameVariables : Layout → (ℕ → ℕ) → (ℕ → ℕ) → Type 0
SameVariables layout one two =
    (label : ℕ) → label < VARIABLES → two (layout.address label) ≡ one (layout.address label)

own_same : (layout : Layout) (one two : ℕ → ℕ) (voice label : ℕ) → SameVariables layout one two → voice < 3 →
    is_own label ≡ true → own_at layout two voice label ≡ own_at layout one voice label
own_same layout one two voice label same few is = same (label + 7 * voice) (own_below label voice is few)

pub shared_below : (label : ℕ) → is_shared label ≡ true → label < VARIABLES
shared_below label is = ltb-true label VARIABLES (and_parts _ _ is).0

pub playing_stays : (layout : Layout) (one two : ℕ → ℕ) (voice : ℕ) (s : Playing) → SameVariables layout one two →
    voice < 3 → IsPlaying layout voice s one → IsPlaying layout voice s two
playing_stays layout one two voice s same few plays = record {
  own = fields_stand layout.holds s.voice tempo (own_at layout two voice)
      (fields_at layout.holds s.voice tempo (own_at layout one voice) (own_at layout two voice)
      (λ label is. own_same layout one two voice label same few is)
      (fields_of layout.holds s.voice tempo (own_at layout one voice) plays.own));
  common = shared_stand layout.holds s.common (shared_at layout two)
      (shared_here layout.holds s.common (shared_at layout one) (shared_at layout two)
      (λ label is. same label (shared_below label is))
      (shared_of layout.holds s.common (shared_at layout one) plays.common));
  tempos = λ its below. own_same layout one two its TEMPO same below refl ∙ plays.tempos its below;
}
  where
    tempo : ℕ
    tempo = tempo_of (voice + 1) s.common
