-- Which effect runs, as the rule of the effect step says it.
use Rattle.std.proofs.Common.{◌≡◌, ◌≢◌, ℕ, ◌≤◌, ◌||◌, Bool, true, false, not, nat_eq, inl, inr, refl, sym}
use Rattle.std.proofs.Common.{subst, arith}
use Rattle.std.proofs.lemmas.Bool.{eqb-true, eqb-false, or_parts, not-false}
use Rattle.play_model.specs.LookUps.{LookUps}
use Rattle.play_model.specs.State.{Voice}
use Rattle.play_model.specs.EffectStep.{effect_step}
use Rattle.slide_code.specs.SlideBlock.{moved_by, IsOf}
use Rattle.slide_code.proofs.Laws.{commands_move}
use Rattle.wave_code.specs.EffectBlock.{running}

-- a command runs, of the voice or of its instrument's vibrato
pub record RunsAs (look : LookUps) (command : ℕ) (v : Voice) : Type 0 where
  pub least : 1 ≤ command
  pub most : command ≤ 4
  pub its : IsOf command v.command
  pub is : effect_step look v ≡ moved_by command look v

own_runs : (look : LookUps) (v : Voice) → v.command ≤ 4 → nat_eq v.command 0 ≡ false → RunsAs look v.command v
own_runs look v most e =
    let some = eqb-false v.command 0 e in
    let least : 1 ≤ v.command = omega (arith, some) in record {
      least = least;
      most = most;
      its = inl refl;
      is = (commands_move look).running v least most;
    }

vibrato_runs : (look : LookUps) (v : Voice) → nat_eq v.command 0 ≡ true →
    (nat_eq v.param 0 || not (nat_eq v.vib_delay 1)) ≡ false → RunsAs look 4 v
vibrato_runs look v none waits =
    let both = or_parts (nat_eq v.param 0) (not (nat_eq v.vib_delay 1)) waits in record {
      least = omega arith;
      most = omega arith;
      its = inr (eqb-true v.command 0 none, refl);
      is = (commands_move look).begins v (eqb-true v.command 0 none) (eqb-false v.param 0 both.0)
          (eqb-true v.vib_delay 1 (not-false (nat_eq v.vib_delay 1) both.1));
    }

pub runs_as : (look : LookUps) (v : Voice) → v.command ≤ 4 → running v ≢ 0 → RunsAs look (running v) v
runs_as look v most some = by_command (nat_eq v.command 0) refl
  where
    by_delay : (waits : Bool) → (nat_eq v.param 0 || not (nat_eq v.vib_delay 1)) ≡ waits →
        nat_eq v.command 0 ≡ true → RunsAs look (running v) v
    by_delay true e none = (let is : running v ≡ 0 = rw (none, e) refl in absurd (some is))
    by_delay false e none =
        (let is : running v ≡ 4 = rw (none, e) refl in
        subst (λ command. RunsAs look command v) (sym is) (vibrato_runs look v none e))

    by_command : (none : Bool) → nat_eq v.command 0 ≡ none → RunsAs look (running v) v
    by_command true e = by_delay (nat_eq v.param 0 || not (nat_eq v.vib_delay 1)) refl e
    by_command false e =
        (let is : running v ≡ v.command = rw e refl in
        subst (λ command. RunsAs look command v) (sym is) (own_runs look v most e))
