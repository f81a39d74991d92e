-- What a command does is what the playroutine's rules say of it; and the block's lines.
use Rattle.std.proofs.Common.{◌≡◌, ◌≢◌, ℕ, zero, suc, ◌≤◌, ◌||◌, Bool, true, false, nat_eq}
use Rattle.std.proofs.Common.{nat_le, refl, arith}
use Rattle.std.proofs.lemmas.Bool.{ne_eqb, lt-leb}
use Rattle.play_model.specs.LookUps.{LookUps}
use Rattle.play_model.specs.State.{Voice, Playing}
use Rattle.play_model.specs.Freq.{freq, slide}
use Rattle.play_model.specs.Wrap.{distance}
use Rattle.play_model.specs.Helpers.{porta_up, porta_down, tone, vibrato}
use Rattle.play_model.specs.WaveStep.{wave_command}
use Rattle.play_model.specs.EffectStep.{effect_step}
use Rattle.slide_code.specs.SlideBlock.{moved_by, CommandsMove, SlideBlockHasLines}

running_moves : (look : LookUps) (v : Voice) (command : ℕ) → v.command ≡ command → 1 ≤ command → command ≤ 4 →
    effect_step look v ≡ moved_by command look v
unfolding effect_step
running_moves look v zero is least most = absurd (omega (arith, least))
running_moves look v (suc zero) is least most = rw is refl
running_moves look v (suc (suc zero)) is least most = rw is refl
running_moves look v (suc (suc (suc zero))) is least most = rw is refl
running_moves look v (suc (suc (suc (suc zero)))) is least most = rw is refl
running_moves look v (suc (suc (suc (suc (suc more))))) is least most = absurd (omega (arith, most))

begins_to_move : (look : LookUps) (v : Voice) → v.command ≡ 0 → v.param ≢ 0 → v.vib_delay ≡ 1 →
    effect_step look v ≡ moved_by 4 look v
unfolding effect_step
begins_to_move look v none some last =
    let a : nat_eq v.param 0 ≡ false = ne_eqb v.param 0 some in
    let b : nat_eq v.vib_delay 0 ≡ false = ne_eqb v.vib_delay 0 (λ e. omega (arith, e, last)) in
    let c : nat_le 2 v.vib_delay ≡ false = lt-leb 2 v.vib_delay (omega (arith, last)) in
    rw (none, a, b, c) refl

lent_moves : (look : LookUps) (command param : ℕ) (s : Playing) → 1 ≤ command → command ≤ 4 →
    wave_command look command param s
    ≡ record s {
      voice = record (moved_by command look (record s.voice { command = command; param = param })) {
        command = s.voice.command;
        param = s.voice.param;
      };
    }
unfolding wave_command porta_up porta_down tone vibrato
lent_moves look zero param s least most = absurd (omega (arith, least))
lent_moves look (suc zero) param s least most = refl
lent_moves look (suc (suc zero)) param s least most = refl
lent_moves look (suc (suc (suc zero))) param s least most =
    by_test (nat_eq param 0 || nat_le (distance s.voice.freq (freq s.voice.note))
    (slide look param s.voice.last_note)) refl
  where
    by_test : (z : Bool) →
        (nat_eq param 0 || nat_le (distance s.voice.freq (freq s.voice.note)) (slide look param s.voice.last_note)) ≡
        z →
        wave_command look 3 param s
        ≡ record s {
          voice = record (moved_by 3 look (record s.voice { command = 3; param = param })) {
            command = s.voice.command;
            param = s.voice.param;
          };
        }
    by_test true e = rw e refl
    by_test false e = rw e refl
lent_moves look (suc (suc (suc (suc zero)))) param s least most = refl
lent_moves look (suc (suc (suc (suc (suc more))))) param s least most = absurd (omega (arith, most))

pub commands_move : (look : LookUps) → CommandsMove look
commands_move look = record {
  running = λ v least most. running_moves look v v.command refl least most;
  begins = begins_to_move look;
  lent = lent_moves look;
}

pub has_its_lines : SlideBlockHasLines
has_its_lines = record { has = refl; all = refl; least = refl }
