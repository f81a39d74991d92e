-- The cases of a row's command.
use Rattle.std.proofs.Common.{◌≡◌, ◌≢◌, ℕ, ◌<◌, ◌≤◌, true, false, nat_eq}
use Rattle.std.proofs.Common.{nat_le}
use Rattle.std.proofs.Common.{refl, ◌∙◌, arith}
use Rattle.std.proofs.lemmas.Bool.{le-leb, lt-leb, ne_eqb}
use Rattle.song_model.specs.declared.instruments.Instrument.{Instrument}
use Rattle.play_model.specs.LookUps.{LookUps}
use Rattle.play_model.specs.State.{Playing}
use Rattle.play_model.specs.TickStep.{funk_tempo, tempo_set, row_command}
use Rattle.play_model.specs.Helpers.{do_command}
use Rattle.command_code.proofs.Laws.{do_over}

-- ---- those that run

pub row_vibrato : (channel : ℕ) (look : LookUps) (i : Instrument) (c param : ℕ) (u : Playing) → c ≡ 0 →
    record u { voice = record u.voice { command = 0; param = i.vibrato } } ≡ row_command channel look i c param u
unfolding row_command
row_vibrato channel look i c param u none = rw none refl

pub row_porta : (channel : ℕ) (look : LookUps) (i : Instrument) (c param : ℕ) (u : Playing) → c ≢ 0 → c < 3 →
    record u { voice = record u.voice { vib_time = 0; command = c; param = param } }
    ≡ row_command channel look i c param u
unfolding row_command
row_porta channel look i c param u some low =
    let a : nat_eq c 0 ≡ false = ne_eqb c 0 some in
    let b : nat_le c 2 ≡ true = le-leb c 2 (omega (arith, low)) in
    rw (a, b) refl

pub row_runs : (channel : ℕ) (look : LookUps) (i : Instrument) (c param : ℕ) (u : Playing) → 3 ≤ c → c < 5 →
    record u { voice = record u.voice { command = c; param = param } } ≡ row_command channel look i c param u
unfolding row_command
row_runs channel look i c param u from low =
    let a : nat_eq c 0 ≡ false = ne_eqb c 0 (λ e. absurd (omega (arith, from, e))) in
    let b : nat_le c 2 ≡ false = lt-leb c 2 (omega (arith, from)) in
    let d : nat_le c 4 ≡ true = le-leb c 4 (omega (arith, low)) in
    rw (a, b, d) refl

-- ---- those that are done once

-- those that the wave table has too, and numbers from 16 on, which are no commands
pub row_once : (channel : ℕ) (look : LookUps) (i : Instrument) (c p : ℕ) (u : Playing) → 5 ≤ c → c ≢ 8 →
    c ≢ 14 → c ≢ 15 → do_command c p u ≡ row_command channel look i c p u
unfolding row_command
row_once channel look i c p u from eight last tempo =
    let zero : nat_eq c 0 ≡ false = ne_eqb c 0 (λ e. absurd (omega (arith, from, e))) in
    let two : nat_le c 2 ≡ false = lt-leb c 2 (omega (arith, from)) in
    let four : nat_le c 4 ≡ false = lt-leb c 4 (omega (arith, from)) in
    let n8 : nat_eq c 8 ≡ false = ne_eqb c 8 eight in
    let n14 : nat_eq c 14 ≡ false = ne_eqb c 14 last in
    let n15 : nat_eq c 15 ≡ false = ne_eqb c 15 tempo in
    rw (zero, two, four, n8, n14, n15) refl

pub row_wave_pointer : (channel : ℕ) (look : LookUps) (i : Instrument) (c p : ℕ) (u : Playing) → c ≡ 8 →
    record u { voice = record u.voice { wave_ptr = p; wave_time = 0 } } ≡ row_command channel look i c p u
unfolding row_command
row_wave_pointer channel look i c p u e = rw e refl

pub row_funk : (channel : ℕ) (look : LookUps) (i : Instrument) (c p : ℕ) (u : Playing) → c ≡ 0xE →
    record u { common = funk_tempo look p u.common } ≡ row_command channel look i c p u
unfolding row_command
row_funk channel look i c p u e = rw e refl

pub row_tempo : (channel : ℕ) (look : LookUps) (i : Instrument) (c p : ℕ) (u : Playing) → c ≡ 0xF →
    record u { common = tempo_set channel p u.common } ≡ row_command channel look i c p u
unfolding row_command
row_tempo channel look i c p u e = rw e refl

pub row_same : (channel : ℕ) (look : LookUps) (i : Instrument) (c p : ℕ) (u : Playing) → 16 ≤ c →
    u ≡ row_command channel look i c p u
row_same channel look i c p u l =
    do_over c p u (omega (arith, l))
    ∙ row_once channel look i c p u (omega (arith, l)) (λ e. omega (arith, l, e)) (λ e. omega (arith, l, e))
    (λ e. omega (arith, l, e))
