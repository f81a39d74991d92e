-- What a voice's programs and effects don't change: the command that runs, its parameter, the delay and the waiting note.
use Rattle.std.specs.Prelude.{◌||◌, ◌&&◌, ◌==◌, not, nat_le, nat_lt}
use Rattle.std.proofs.Common.{◌≡◌, ◌≢◌, ℕ, ◌-◌, ◌⊎◌, Bool, true, false, cond, refl, ap, ◌∙◌, arith}
use Rattle.std.proofs.lemmas.Bool.{eq-eqb}
use Rattle.song_model.specs.declared.tables.TableRow.{TableRow}
use Rattle.song_model.specs.declared.tables.TableName.TheVariants.{Wave, Pulse}
use Rattle.play_model.specs.LookUps.{LookUps}
use Rattle.play_model.specs.Freq.{freq}
use Rattle.play_model.specs.State.{Voice, Playing}
use Rattle.play_model.specs.Helpers.{porta_up, porta_down, at_target, towards, tone, vibrato, do_command}
use Rattle.play_model.specs.WaveStep.{Waved, wave_command, is_wave_command, left_done, program_moved, right_done}
use Rattle.play_model.specs.WaveStep.{wave_row, wave_step}
use Rattle.play_model.specs.EffectStep.{instrument_vibrato, effect_step}
use Rattle.play_model.specs.PulseStep.{pulse_row, pulse_step}

-- what runs and what waits
pub record Runs : Type 0 where
  pub command : ℕ
  pub param : ℕ
  pub delay : ℕ
  pub new_note : ℕ

abbrev pub runs_of : Voice → Runs
runs_of v = record { command = v.command; param = v.param; delay = v.vib_delay; new_note = v.new_note }

abbrev runs_in : Playing → Runs
runs_in s = runs_of s.voice

-- what both sides of a choice give
pub chosen : {X R : Type 0} (f : X → R) (r : R) (z : Bool) (x y : X) → f x ≡ r → f y ≡ r → f (cond z x y) ≡ r
chosen f r true x y first second = first
chosen f r false x y first second = second

-- ---- slides and commands

up_runs : (look : LookUps) (d : ℕ) (v : Voice) → runs_of (porta_up look d v) ≡ runs_of v
unfolding porta_up
up_runs look d v = refl

down_runs : (look : LookUps) (d : ℕ) (v : Voice) → runs_of (porta_down look d v) ≡ runs_of v
unfolding porta_down
down_runs look d v = refl

tone_runs : (look : LookUps) (d : ℕ) (v : Voice) → runs_of (tone look d v) ≡ runs_of v
unfolding tone
tone_runs look d v = chosen runs_of (runs_of v) _ (at_target (freq v.note) v) (towards (freq v.note) _ v) refl refl

vibrato_runs : (look : LookUps) (d : ℕ) (v : Voice) → runs_of (vibrato look d v) ≡ runs_of v
unfolding vibrato
vibrato_runs look d v = refl

pub do_command_runs : (c d : ℕ) (s : Playing) → runs_in (do_command c d s) ≡ runs_in s
unfolding do_command
do_command_runs c d s =
    chosen runs_in r (c == 5) _ _ refl
    (chosen runs_in r (c == 6) _ _ refl
    (chosen runs_in r (c == 7) _ _ refl
    (chosen runs_in r (c == 9) _ _ refl
    (chosen runs_in r (c == 0xA) _ _ refl
    (chosen runs_in r (c == 0xB) _ _ refl
    (chosen runs_in r (c == 0xC) _ _ refl
    (chosen runs_in r (c == 0xD) _ s refl refl)))))))
  where
    r : Runs
    r = runs_in s

-- ---- the wave step

wave_command_runs : (look : LookUps) (c d : ℕ) (s : Playing) → runs_in (wave_command look c d s) ≡ runs_in s
unfolding wave_command
wave_command_runs look c d s =
    chosen runs_in r ((c == 0) || (c == 8) || (c == 0xE)) s _ refl
    (chosen runs_in r (c == 1) _ _ (up_runs look d s.voice)
    (chosen runs_in r (c == 2) _ _ (down_runs look d s.voice)
    (chosen runs_in r (c == 3) _ _ (tone_runs look d s.voice)
    (chosen runs_in r (c == 4) _ (do_command c d s) (vibrato_runs look d s.voice) (do_command_runs c d s)))))
  where
    r : Runs
    r = runs_in s

left_runs : (look : LookUps) (row : TableRow) (s : Playing) → runs_in (left_done look row s) ≡ runs_in s
left_runs look row s =
    chosen runs_in (runs_in s) (nat_le 0x10 row.left && nat_le row.left 0xDF) _ _ refl
    (chosen runs_in (runs_in s) (nat_le 0xE0 row.left && nat_le row.left 0xEF) _ _ refl
    (chosen runs_in (runs_in s) (is_wave_command row) (wave_command look (row.left - 0xF0) row.right s) s
    (wave_command_runs look (row.left - 0xF0) row.right s) refl))

abbrev runs_waved : Waved → Runs
runs_waved w = runs_in w.playing

right_runs : (row : TableRow) (s : Playing) → runs_waved (right_done row s) ≡ runs_in s
right_runs row s =
    chosen runs_waved (runs_in s) (is_wave_command row) (record { playing = s; effect = false }) _ refl
    (chosen runs_waved (runs_in s) (row.right == 0x80) (record { playing = s; effect = true }) _ refl refl)

wave_row_runs : (look : LookUps) (row : TableRow) (s : Playing) → runs_waved (wave_row look row s) ≡ runs_in s
wave_row_runs look row s =
    chosen runs_waved (runs_in s) (nat_lt row.left 0x10 && not (s.voice.wave_time == row.left)) _
    (right_done row (program_moved look s.voice.wave_ptr (left_done look row s))) refl
    (right_runs row (program_moved look s.voice.wave_ptr (left_done look row s)) ∙ left_runs look row s)

pub wave_runs : (look : LookUps) (s : Playing) → runs_waved (wave_step look s) ≡ runs_in s
unfolding wave_step
wave_runs look s =
    chosen runs_waved (runs_in s) (s.voice.wave_ptr == 0) (record { playing = s; effect = true })
    (wave_row look (look.row Wave s.voice.wave_ptr) s) refl
    (wave_row_runs look (look.row Wave s.voice.wave_ptr) s)

-- ---- the pulse step

pulse_row_runs : (look : LookUps) (row : TableRow) (v : Voice) → runs_of (pulse_row look row v) ≡ runs_of v
pulse_row_runs look row v =
    chosen runs_of (runs_of v) ((v.pulse_time == 0) && nat_le 0x80 row.left) _ _ refl
    (chosen runs_of (runs_of v) ((v.pulse_time == 0) && (row.left == 0)) v _ refl refl)

pub pulse_runs : (look : LookUps) (v : Voice) → runs_of (pulse_step look v) ≡ runs_of v
unfolding pulse_step
pulse_runs look v =
    chosen runs_of (runs_of v) (v.pulse_ptr == 0) v (pulse_row look (look.row Pulse v.pulse_ptr) v) refl
    (pulse_row_runs look (look.row Pulse v.pulse_ptr) v)

-- ---- the effect step

-- a command runs, or an instrument's vibrato is on its way
abbrev pub IsRunning : Runs → Type 0
IsRunning r = (r.command ≢ 0) ⊎ (r.delay ≢ 0)

-- without either the effect step does nothing
pub effect_still : (look : LookUps) (v : Voice) → v.command ≡ 0 → v.vib_delay ≡ 0 → effect_step look v ≡ v
unfolding effect_step
effect_still look v command delay =
    let test = eq-eqb v.command 0 command in
    let none : ((v.param == 0) || (v.vib_delay == 0)) ≡ true = either (v.param == 0) (v.vib_delay == 0) (eq-eqb v.vib_delay 0 delay) in
    rw test (rw none refl)
  where
    either : (a b : Bool) → b ≡ true → (a || b) ≡ true
    either true b h = refl
    either false b h = h

-- it changes the delay alone, and that only where it is on its way
pub record EffectRuns (r after : Runs) : Type 0 where
  pub command : after.command ≡ r.command
  pub param : after.param ≡ r.param
  pub new_note : after.new_note ≡ r.new_note
  pub delay : r.delay ≡ 0 → after.delay ≡ 0

same_runs : (r after : Runs) → after ≡ r → EffectRuns r after
same_runs r after e = record {
  command = ap (λ (x : Runs). x.command) e;
  param = ap (λ (x : Runs). x.param) e;
  new_note = ap (λ (x : Runs). x.new_note) e;
  delay = λ none. ap (λ (x : Runs). x.delay) e ∙ none;
}

chosen_runs : (r : Runs) (z : Bool) (x y : Voice) → EffectRuns r (runs_of x) → EffectRuns r (runs_of y) →
    EffectRuns r (runs_of (cond z x y))
chosen_runs r true x y first second = first
chosen_runs r false x y first second = second

later_runs : (v : Voice) → EffectRuns (runs_of v) (runs_of (record v { vib_delay = v.vib_delay - 1 }))
later_runs v = record { command = refl; param = refl; new_note = refl; delay = λ none. omega arith }

pub effect_runs : (look : LookUps) (v : Voice) → EffectRuns (runs_of v) (runs_of (effect_step look v))
unfolding effect_step
effect_runs look v =
    chosen_runs r (v.command == 0) (instrument_vibrato look v) _
    (chosen_runs r ((v.param == 0) || (v.vib_delay == 0)) v _ (same_runs r r refl)
    (chosen_runs r (nat_le 2 v.vib_delay) _ (vibrato look v.param v) (later_runs v)
    (same_runs r _ (vibrato_runs look v.param v))))
    (chosen_runs r (v.command == 1) _ _ (same_runs r _ (up_runs look v.param v))
    (chosen_runs r (v.command == 2) _ _ (same_runs r _ (down_runs look v.param v))
    (chosen_runs r (v.command == 3) _ _ (same_runs r _ (tone_runs look v.param v))
    (chosen_runs r (v.command == 4) _ v (same_runs r _ (vibrato_runs look v.param v)) (same_runs r r refl)))))
  where
    r : Runs
    r = runs_of v
