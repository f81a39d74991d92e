-- What a command's rule says, case by case.
use Rattle.std.proofs.Common.{◌≡◌, ◌≢◌, ℕ, ◌+◌, ◌-◌, ◌*◌, ◌%◌, ◌<◌, ◌≤◌}
use Rattle.std.proofs.Common.{◌&&◌, Bool, true, false, nat_eq, nat_le}
use Rattle.std.proofs.Common.{nat_lt}
use Rattle.std.proofs.Common.{if◌then◌else◌, refl}
use Rattle.std.proofs.lemmas.Bool.{ne_eqb, eq-eqb, le-leb, lt-leb, lt-ltb, le-ltb}
use Rattle.song_model.specs.declared.tables.TableName.TheVariants.{Speed}
use Rattle.play_model.specs.LookUps.{LookUps}
use Rattle.play_model.specs.State.{Voice}
use Rattle.play_model.specs.Wrap.{freq_plus, freq_minus, distance, byte_plus, shifted_right}
use Rattle.play_model.specs.Freq.{freq, slide, half_tone}
use Rattle.play_model.specs.Helpers.{porta_up, porta_down, tone, vibrato, at_target, turned}
use Rattle.slide_code.specs.SlideBlock.{moved_by, arrives}
use Rattle.slide_code.proofs.SlideGrounds.{set_at}

-- the speed that a voice's parameter names
abbrev pub speed_of : LookUps → Voice → ℕ
speed_of look v = slide look v.param v.last_note

-- ---- slides

pub up_is : (command : ℕ) (look : LookUps) (v : Voice) → command ≡ 1 →
    moved_by command look v ≡ set_at v.vib_time (freq_plus v.freq (speed_of look v)) v
unfolding porta_up
up_is command look v is = rw is refl

pub down_is : (command : ℕ) (look : LookUps) (v : Voice) → command ≡ 2 →
    moved_by command look v ≡ set_at v.vib_time (freq_minus v.freq (speed_of look v)) v
unfolding porta_down
down_is command look v is = rw is refl

pub tie_is : (command : ℕ) (look : LookUps) (v : Voice) → command ≡ 3 → v.param ≡ 0 →
    moved_by command look v ≡ at_target (freq v.note) v
unfolding tone
tie_is command look v is none =
    let a : nat_eq v.param 0 ≡ true = eq-eqb v.param 0 none in
    rw (is, a) refl

pub found_is : (command : ℕ) (look : LookUps) (v : Voice) → command ≡ 3 → v.param ≢ 0 →
    distance v.freq (freq v.note) ≤ speed_of look v → moved_by command look v ≡ at_target (freq v.note) v
unfolding tone
found_is command look v is some near =
    let a : nat_eq v.param 0 ≡ false = ne_eqb v.param 0 some in
    let b : nat_le (distance v.freq (freq v.note)) (slide look v.param v.last_note) ≡ true = le-leb _ _ near in
    rw (is, a, b) refl

pub rises_is : (command : ℕ) (look : LookUps) (v : Voice) → command ≡ 3 → v.param ≢ 0 →
    speed_of look v < distance v.freq (freq v.note) → v.freq < freq v.note →
    moved_by command look v ≡ set_at v.vib_time (freq_plus v.freq (speed_of look v)) v
unfolding tone
rises_is command look v is some far below =
    let a : nat_eq v.param 0 ≡ false = ne_eqb v.param 0 some in
    let b : nat_le (distance v.freq (freq v.note)) (slide look v.param v.last_note) ≡ false = lt-leb _ _ far in
    let c : nat_lt v.freq (freq v.note) ≡ true = lt-ltb _ _ below in
    rw (is, a, b, c) refl

pub falls_is : (command : ℕ) (look : LookUps) (v : Voice) → command ≡ 3 → v.param ≢ 0 →
    speed_of look v < distance v.freq (freq v.note) → freq v.note ≤ v.freq →
    moved_by command look v ≡ set_at v.vib_time (freq_minus v.freq (speed_of look v)) v
unfolding tone
falls_is command look v is some far above =
    let a : nat_eq v.param 0 ≡ false = ne_eqb v.param 0 some in
    let b : nat_le (distance v.freq (freq v.note)) (slide look v.param v.last_note) ≡ false = lt-leb _ _ far in
    let c : nat_lt v.freq (freq v.note) ≡ false = le-ltb _ _ above in
    rw (is, a, b, c) refl

-- ---- whether the note is reached

pub tie_arrives : (command : ℕ) (look : LookUps) (v : Voice) → command ≡ 3 → v.param ≡ 0 →
    arrives command look v ≡ true
tie_arrives command look v is none =
    let a : nat_eq v.param 0 ≡ true = eq-eqb v.param 0 none in
    rw (is, a) refl

pub near_arrives : (command : ℕ) (look : LookUps) (v : Voice) → command ≡ 3 → v.param ≢ 0 →
    distance v.freq (freq v.note) ≤ speed_of look v → arrives command look v ≡ true
near_arrives command look v is some near =
    let a : nat_eq v.param 0 ≡ false = ne_eqb v.param 0 some in
    let b : nat_le (distance v.freq (freq v.note)) (slide look v.param v.last_note) ≡ true = le-leb _ _ near in
    rw (is, a, b) refl

pub far_passes : (command : ℕ) (look : LookUps) (v : Voice) → command ≡ 3 → v.param ≢ 0 →
    speed_of look v < distance v.freq (freq v.note) → arrives command look v ≡ false
far_passes command look v is some far =
    let a : nat_eq v.param 0 ≡ false = ne_eqb v.param 0 some in
    let b : nat_le (distance v.freq (freq v.note)) (slide look v.param v.last_note) ≡ false = lt-leb _ _ far in
    rw (is, a, b) refl

pub other_passes : (command : ℕ) (look : LookUps) (v : Voice) → command ≢ 3 → arrives command look v ≡ false
other_passes command look v other = (let a : nat_eq command 3 ≡ false = ne_eqb command 3 other in rw a refl)

-- ---- vibrato

abbrev pub period_of : LookUps → Voice → ℕ
period_of look v = (look.row Speed v.param).left % 128

-- the time behind it
abbrev pub time_of : LookUps → Voice → ℕ
time_of look v = byte_plus (turned (period_of look v) v.vib_time) 2

pub swings_up_is : (command : ℕ) (look : LookUps) (v : Voice) → command ≡ 4 → nat_eq (time_of look v % 2) 1 ≡ false →
    (look.row Speed v.param).left < 128 →
    moved_by command look v ≡ set_at (time_of look v) (freq_plus v.freq (look.row Speed v.param).right) v
unfolding vibrato
swings_up_is command look v is even low =
    let a : nat_lt (look.row Speed v.param).left 128 ≡ true = lt-ltb _ _ low in
    rw (is, even, a) refl

pub swings_down_is : (command : ℕ) (look : LookUps) (v : Voice) → command ≡ 4 → nat_eq (time_of look v % 2) 1 ≡ true →
    (look.row Speed v.param).left < 128 →
    moved_by command look v ≡ set_at (time_of look v) (freq_minus v.freq (look.row Speed v.param).right) v
unfolding vibrato
swings_down_is command look v is odd low =
    let a : nat_lt (look.row Speed v.param).left 128 ≡ true = lt-ltb _ _ low in
    rw (is, odd, a) refl

pub swings_up_by_slide_is : (command : ℕ) (look : LookUps) (v : Voice) → command ≡ 4 →
    nat_eq (time_of look v % 2) 1 ≡ false → 128 ≤ (look.row Speed v.param).left →
    moved_by command look v ≡ set_at (time_of look v) (freq_plus v.freq (speed_of look v)) v
unfolding vibrato
swings_up_by_slide_is command look v is even high =
    let a : nat_lt (look.row Speed v.param).left 128 ≡ false = le-ltb _ _ high in
    rw (is, even, a) refl

pub swings_down_by_slide_is : (command : ℕ) (look : LookUps) (v : Voice) → command ≡ 4 →
    nat_eq (time_of look v % 2) 1 ≡ true → 128 ≤ (look.row Speed v.param).left →
    moved_by command look v ≡ set_at (time_of look v) (freq_minus v.freq (speed_of look v)) v
unfolding vibrato
swings_down_by_slide_is command look v is odd high =
    let a : nat_lt (look.row Speed v.param).left 128 ≡ false = le-ltb _ _ high in
    rw (is, odd, a) refl

-- the time that is turned round past the period
pub turns_back : (period time : ℕ) → time < 128 → period < time → turned period time ≡ 255 - time
turns_back period time low past =
    let a : nat_lt time 128 ≡ true = lt-ltb time 128 low in
    let b : nat_lt period time ≡ true = lt-ltb period time past in
    rw (a, b) refl

pub stays_above : (period time : ℕ) → 128 ≤ time → turned period time ≡ time
stays_above period time high = (let a : nat_lt time 128 ≡ false = le-ltb time 128 high in rw a refl)

both_false : (a b : Bool) → b ≡ false → (a && b) ≡ false
both_false true b e = e
both_false false b e = refl

pub stays_before : (period time : ℕ) → time ≤ period → turned period time ≡ time
stays_before period time early =
    let b : (nat_lt time 128 && nat_lt period time) ≡ false = both_false _ _ (le-ltb period time early) in
    rw b refl

-- ---- speeds

pub plain_speed : (look : LookUps) (p last : ℕ) → (look.row Speed p).left < 128 →
    slide look p last ≡ 256 * (look.row Speed p).left + (look.row Speed p).right
unfolding slide
plain_speed look p last low =
    let a : nat_lt (look.row Speed p).left 128 ≡ true = lt-ltb _ _ low in
    rw a refl

pub calculated_speed : (look : LookUps) (p last : ℕ) → 128 ≤ (look.row Speed p).left →
    slide look p last
    ≡ (if nat_lt (look.row Speed p).right 16 then shifted_right (half_tone last) (look.row Speed p).right else 0)
unfolding slide
calculated_speed look p last high =
    let a : nat_lt (look.row Speed p).left 128 ≡ false = le-ltb _ _ high in
    rw a refl
