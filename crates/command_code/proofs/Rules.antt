-- What the rule does for each command that a row and the wave table do alike, and for those that set tempos.
use Rattle.std.proofs.Common.{◌≡◌, ◌≢◌, ℕ, ◌-◌, ◌%◌, ◌<◌, ◌≤◌, true, false}
use Rattle.std.proofs.Common.{nat_eq, nat_le, nat_lt, inl, inr, refl, arith}
use Rattle.std.proofs.lemmas.Bool.{ne_eqb, le-leb, lt-leb, lt-ltb, le-ltb, cases_lt}
use Rattle.song_model.specs.declared.tables.TableName.TheVariants.{Speed}
use Rattle.play_model.specs.LookUps.{LookUps}
use Rattle.play_model.specs.State.{Common, Playing}
use Rattle.play_model.specs.TickStep.{with_tempo, with_all_tempos, funk_set, funk_tempo, tempo_set}
use Rattle.play_model.specs.Helpers.{do_command}

pub do_ad : (c p : ℕ) (u : Playing) → c ≡ 5 →
    record u { voice = record u.voice { ad = p } } ≡ do_command c p u
unfolding do_command
do_ad c p u e = rw e refl

pub do_sr : (c p : ℕ) (u : Playing) → c ≡ 6 →
    record u { voice = record u.voice { sr = p } } ≡ do_command c p u
unfolding do_command
do_sr c p u e = rw e refl

pub do_wave : (c p : ℕ) (u : Playing) → c ≡ 7 →
    record u { voice = record u.voice { wave = p } } ≡ do_command c p u
unfolding do_command
do_wave c p u e = rw e refl

pub do_pulse_pointer : (c p : ℕ) (u : Playing) → c ≡ 9 →
    record u { voice = record u.voice { pulse_ptr = p; pulse_time = 0 } } ≡ do_command c p u
unfolding do_command
do_pulse_pointer c p u e = rw e refl

pub do_filter_pointer : (c p : ℕ) (u : Playing) → c ≡ 0xA →
    record u { common = record u.common { filter_ptr = p; filter_time = 0 } } ≡ do_command c p u
unfolding do_command
do_filter_pointer c p u e = rw e refl

pub do_filter_off : (c p : ℕ) (u : Playing) → c ≡ 0xB → p ≡ 0 →
    record u { common = record u.common { filter_control = p; filter_ptr = p } } ≡ do_command c p u
unfolding do_command
do_filter_off c p u e none = rw (e, none) refl

pub do_filter_control : (c p : ℕ) (u : Playing) → c ≡ 0xB → p ≢ 0 →
    record u { common = record u.common { filter_control = p } } ≡ do_command c p u
unfolding do_command
do_filter_control c p u e some =
    let z : nat_eq p 0 ≡ false = ne_eqb p 0 some in
    rw (e, z) refl

pub do_cutoff : (c p : ℕ) (u : Playing) → c ≡ 0xC →
    record u { common = record u.common { cutoff = p } } ≡ do_command c p u
unfolding do_command
do_cutoff c p u e = rw e refl

pub do_volume : (c p : ℕ) (u : Playing) → c ≡ 0xD → p < 0x10 →
    record u { common = record u.common { volume = p } } ≡ do_command c p u
unfolding do_command
do_volume c p u e low =
    let z : nat_lt p 0x10 ≡ true = lt-ltb p 0x10 low in
    rw (e, z) refl

pub do_loud : (c p : ℕ) (u : Playing) → c ≡ 0xD → 0x10 ≤ p →
    u ≡ do_command c p u
unfolding do_command
do_loud c p u e high =
    let z : nat_lt p 0x10 ≡ false = le-ltb p 0x10 high in
    rw (e, z) refl

-- ---- the others

pub do_eight : (c p : ℕ) (u : Playing) → c ≡ 8 → u ≡ do_command c p u
unfolding do_command
do_eight c p u e = rw e refl

above : (c command : ℕ) → 14 ≤ c → command < 14 → nat_eq c command ≡ false
above c command large small = ne_eqb c command (λ e. absurd (omega (arith, large, small, e)))

pub do_over : (c p : ℕ) (u : Playing) → 14 ≤ c → u ≡ do_command c p u
unfolding do_command
do_over c p u l =
    let n5 = above c 5 l (omega arith) in
    let n6 = above c 6 l (omega arith) in
    let n7 = above c 7 l (omega arith) in
    let n9 = above c 9 l (omega arith) in
    let n10 = above c 0xA l (omega arith) in
    let n11 = above c 0xB l (omega arith) in
    let n12 = above c 0xC l (omega arith) in
    let n13 = above c 0xD l (omega arith) in
    rw (n5, n6, n7, n9, n10, n11, n12, n13) refl

-- ---- tempos

pub tempo_chosen : (channel p : ℕ) (c : Common) → p < 2 → with_all_tempos p c ≡ tempo_set channel p c
tempo_chosen channel p c low =
    let a : nat_le p 1 ≡ true = le-leb p 1 (omega (arith, low)) in
    rw a refl

pub tempo_all : (channel p : ℕ) (c : Common) → 3 ≤ p → p < 128 → with_all_tempos (p - 1) c ≡ tempo_set channel p c
tempo_all channel p c from low =
    let a : nat_le p 1 ≡ false = lt-leb p 1 (omega (arith, from)) in
    let b : nat_le 3 p ≡ true = le-leb 3 p from in
    let d : nat_le p 0x7F ≡ true = le-leb p 0x7F (omega (arith, low)) in
    rw (a, b, d) refl

pub tempo_own : (channel p : ℕ) (c : Common) → 0x83 ≤ p → with_tempo channel (p - 0x81) c ≡ tempo_set channel p c
tempo_own channel p c from =
    let a : nat_le p 1 ≡ false = lt-leb p 1 (omega (arith, from)) in
    let b : nat_le 3 p ≡ true = le-leb 3 p (omega (arith, from)) in
    let d : nat_le p 0x7F ≡ false = lt-leb p 0x7F (omega (arith, from)) in
    let e : nat_le 0x83 p ≡ true = le-leb 0x83 p from in
    rw (a, b, d, e) refl

-- a number that sets no tempo
pub tempo_none : (channel p : ℕ) (c : Common) → 2 ≤ p → p < 256 → p % 128 < 3 → c ≡ tempo_set channel p c
tempo_none channel p c from small low =
    let a : nat_le p 1 ≡ false = lt-leb p 1 (omega (arith, from)) in
    elim (cases_lt p 128) [
      | inl below ↦
          let b : nat_le 3 p ≡ false = (let l = below in lt-leb 3 p (omega (arith, l, low))) in
          let e : nat_le 0x83 p ≡ false = (let l = below in lt-leb 0x83 p (omega (arith, l))) in
          rw (a, b, e) refl
      | inr above ↦
          let b : nat_le 3 p ≡ true = (let l = above in le-leb 3 p (omega (arith, l))) in
          let d : nat_le p 0x7F ≡ false = (let l = above in lt-leb p 0x7F (omega (arith, l))) in
          let e : nat_le 0x83 p ≡ false = (let l = above in lt-leb 0x83 p (omega (arith, l, low, small))) in
          rw (a, b, d, e) refl
    ]

-- command $E with no row, and with one
pub funk_none : (look : LookUps) (p : ℕ) (c : Common) → p ≡ 0 → with_all_tempos 0 c ≡ funk_tempo look p c
funk_none look p c none = rw none refl

pub funk_some : (look : LookUps) (p : ℕ) (c : Common) → p ≢ 0 →
    with_all_tempos 0 (funk_set (look.row Speed p) c) ≡ funk_tempo look p c
funk_some look p c some =
    let z : nat_eq p 0 ≡ false = ne_eqb p 0 some in
    rw z refl
