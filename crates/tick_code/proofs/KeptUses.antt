-- Where the lines of each feature are kept that a voice's turn uses, those of its tick step are.
use Rattle.std.proofs.Common.{◌≡◌, ℕ, ◌%◌, ◌≤◌, Bool, true, false, nat_eq, nat_le, if◌then◌else◌}
use Rattle.std.proofs.Common.{Option, Some, None, inl, refl, arith}
use Rattle.std.proofs.lemmas.Bool.{eqb-true, leb-true}
use Rattle.play_model.specs.LookUps.{LookUps}
use Rattle.play_model.specs.Uses.{Turn, DoesRow, DoesOnce, AsksFunkTempo, by_length}
use Rattle.scopes.specs.Desk.{Layout}
use Rattle.player_memory.specs.declared.conditions.TheConstants.{SET_WAVE_POINTER, FUNK_TEMPO, SET_TEMPO, FUNK_TURNS}
use Rattle.player_memory.specs.declared.conditions.TheConstants.{FUNK_CHOICE}
use Rattle.player_memory.specs.FactLines.{KeepsShared}
use Rattle.player_memory.specs.Commands.{condition_of_both, condition_of_tempo, AreKept, KeepsTempo}
use Rattle.tick_code.specs.TickBlock.{IsRowDone, KeepsRow, KeepsInstrument, KeepsTick}

-- what a turn uses is kept, feature by feature
pub record KeepsUsed (layout : Layout) (turn : Turn) : Type 0 where
  pub once : (command d : ℕ) → DoesOnce turn command d → AreKept layout (condition_of_both command)
  pub wave_pointer : (d : ℕ) → DoesRow turn 8 d → layout.holds SET_WAVE_POINTER ≡ true
  pub funk : AsksFunkTempo turn → layout.holds FUNK_TEMPO ≡ true
  pub length : (d : ℕ) → DoesRow turn 0xF d → 3 ≤ d % 128 → layout.holds SET_TEMPO ≡ true

-- one of two is kept, as a test tells
kept_if : (layout : Layout) (test : Bool) (one two : Option ℕ) → (test ≡ true → AreKept layout one) →
    AreKept layout two → AreKept layout (if test then one else two)
kept_if layout true one two this other = this refl
kept_if layout false one two this other = other

pub tick_kept : (layout : Layout) (look : LookUps) (turn : Turn) → KeepsUsed layout turn →
    (IsRowDone turn.start → KeepsRow layout turn.start.voice.new_command) →
    (IsRowDone turn.start → KeepsTempo layout turn.start.voice.new_command turn.start.voice.new_param) →
    (IsRowDone turn.start →
    KeepsInstrument layout (look.instrument turn.start.voice.instrument) turn.start.voice.vib_delay) →
    KeepsShared layout → KeepsTick layout turn.channel look turn.start
tick_kept layout look turn uses row tempo instrument shared = record {
  row = row;
  tempo = tempo;
  instrument = instrument;
  shared = shared;
  command = λ now.
      kept_if layout (nat_eq c 8) (Some SET_WAVE_POINTER) _
      (λ z. uses.wave_pointer d (does now 8 (eqb-true c 8 z)))
      (kept_if layout (nat_eq c 0xE) (Some FUNK_CHOICE) _ (λ z. (tempo now).choice (eqb-true c 0xE z))
      (kept_if layout (nat_eq c 0xF) (condition_of_tempo d) (condition_of_both c)
      (λ z. tempo_kept now (eqb-true c 0xF z)) (uses.once c d (inl (does now c refl)))));
  length = λ past short. uses.funk (by_length _ (record { past = past; tempo_is = refl }) short);
}
  where
    c : ℕ
    c = turn.start.voice.new_command

    d : ℕ
    d = turn.start.voice.new_param

    does : IsRowDone turn.start → (command : ℕ) → c ≡ command → DoesRow turn command d
    does now command e = record { now = now; command_is = e; param_is = refl }

    tempo_kept : IsRowDone turn.start → c ≡ 0xF → AreKept layout (condition_of_tempo d)
    tempo_kept now e =
        kept_if layout (nat_le d 1) (Some FUNK_TURNS) _
        (λ z. (tempo now).turns e (let low = leb-true d 1 z in omega (arith, low)))
        (kept_if layout (nat_le 3 (d % 128)) (Some SET_TEMPO) None
        (λ z. uses.length d (does now 0xF e) (leb-true 3 (d % 128) z)) tt)
