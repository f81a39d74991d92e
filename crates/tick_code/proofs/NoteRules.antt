-- The cases of the rules at a row: what they leave of the row that waits, and how a note starts.
use Rattle.std.proofs.Common.{◌≡◌, ◌≢◌, ℕ, ◌+◌, ◌-◌, ◌%◌, ◌<◌, ◌&&◌, Bool, true}
use Rattle.std.proofs.Common.{false, not, nat_eq, nat_le, bit_and, bit_xor}
use Rattle.std.proofs.Common.{if◌then◌else◌, refl, sym, ap, ◌∙◌, arith}
use Rattle.std.proofs.lemmas.Bool.{agree_below_at, ne_eqb, eq-eqb}
use Rattle.song_model.specs.declared.instruments.Instrument.{Instrument}
use Rattle.play_model.specs.LookUps.{LookUps}
use Rattle.play_model.specs.State.{Voice, Playing}
use Rattle.play_model.specs.TickStep.{note_taken, first_wave_set, sound_begun, note_started, row_command}
use Rattle.play_model.specs.Helpers.{do_command}
use Rattle.command_code.proofs.Laws.{low_seven}
use Rattle.tick_code.proofs.TickDesks.{cleared}

-- one of two
both_are : {X : Type 0} (P : X → Type 0) (b : Bool) (x y : X) → P x → P y → P (if b then x else y)
both_are P true x y one two = one
both_are P false x y one two = two

-- ---- the row that waits

pub record IsSameRow (v w : Voice) : Type 0 where
  pub new_note : w.new_note ≡ v.new_note
  pub new_command : w.new_command ≡ v.new_command
  pub new_param : w.new_param ≡ v.new_param

same_row : (v : Voice) → IsSameRow v v
same_row v = record { new_note = refl; new_command = refl; new_param = refl }

wave_row : (wave : ℕ) (v : Voice) → IsSameRow v (first_wave_set wave v)
wave_row wave v =
    both_are (IsSameRow v) (nat_le 0xFE wave) (record v { gate = wave })
    (if nat_eq wave 0 then v else record v { wave = wave; gate = 0xFF })
    (record { new_note = refl; new_command = refl; new_param = refl })
    (both_are (IsSameRow v) (nat_eq wave 0) v (record v { wave = wave; gate = 0xFF }) (same_row v)
    (record { new_note = refl; new_command = refl; new_param = refl }))

sound_row : (i : Instrument) (s : Playing) →
    IsSameRow s.voice (sound_begun i (record s { voice = note_taken i s.voice })).voice
sound_row i s =
    let row = wave_row i.first_wave (note_taken i s.voice) in
    record { new_note = row.new_note; new_command = row.new_command; new_param = row.new_param }

-- the start of a note leaves it
pub note_row : (i : Instrument) (s : Playing) → IsSameRow s.voice (note_started i s).voice
unfolding note_started
note_row i s =
    both_are (λ (x : Playing). IsSameRow s.voice x.voice) (nat_eq s.voice.new_note 0) s _ (same_row s.voice)
    (both_are (λ (x : Playing). IsSameRow s.voice x.voice) (nat_eq s.voice.new_command 3)
    (record s { voice = note_taken i s.voice }) (sound_begun i (record s { voice = note_taken i s.voice }))
    (record { new_note = refl; new_command = refl; new_param = refl }) (sound_row i s))

do_row : (c p : ℕ) (s : Playing) → IsSameRow s.voice (do_command c p s).voice
unfolding do_command
do_row c p s =
    let same : IsSameRow s.voice s.voice = same_row s.voice in
    let P : Playing → Type 0 = λ x. IsSameRow s.voice x.voice in
    both_are P (nat_eq c 5) _ _ (record { new_note = refl; new_command = refl; new_param = refl })
    (both_are P (nat_eq c 6) _ _ (record { new_note = refl; new_command = refl; new_param = refl })
    (both_are P (nat_eq c 7) _ _ (record { new_note = refl; new_command = refl; new_param = refl })
    (both_are P (nat_eq c 9) _ _ (record { new_note = refl; new_command = refl; new_param = refl })
    (both_are P (nat_eq c 0xA) _ _ same
    (both_are P (nat_eq c 0xB) _ _ same
    (both_are P (nat_eq c 0xC) _ _ same (both_are P (nat_eq c 0xD) _ s same same)))))))

-- so does the row's command
pub command_row : (channel : ℕ) (look : LookUps) (i : Instrument) (c p : ℕ) (s : Playing) →
    IsSameRow s.voice (row_command channel look i c p s).voice
unfolding row_command
command_row channel look i c p s =
    let same : IsSameRow s.voice s.voice = same_row s.voice in
    let P : Playing → Type 0 = λ x. IsSameRow s.voice x.voice in
    both_are P (nat_eq c 0) _ _ (record { new_note = refl; new_command = refl; new_param = refl })
    (both_are P (nat_le c 2) _ _ (record { new_note = refl; new_command = refl; new_param = refl })
    (both_are P (nat_le c 4) _ _ (record { new_note = refl; new_command = refl; new_param = refl })
    (both_are P (nat_eq c 8) _ _ (record { new_note = refl; new_command = refl; new_param = refl })
    (both_are P (nat_eq c 0xE) _ _ same (both_are P (nat_eq c 0xF) _ (do_command c p s) same (do_row c p s))))))

-- ---- whether a note starts

-- one waits that doesn't slide
abbrev pub starts : Playing → Bool
starts s = not (nat_eq s.voice.new_note 0) && not (nat_eq s.voice.new_command 3)

pub starts_same : (s u : Playing) → IsSameRow s.voice u.voice → starts u ≡ starts s
starts_same s u row =
    let note = row.new_note in
    let command = row.new_command in
    rw (note, command) refl

pub starts_none : (s : Playing) → s.voice.new_note ≡ 0 → starts s ≡ false
starts_none s none = rw none refl

pub starts_slide : (s : Playing) → s.voice.new_note ≢ 0 → s.voice.new_command ≡ 3 → starts s ≡ false
starts_slide s some slides =
    let z : nat_eq s.voice.new_note 0 ≡ false = ne_eqb s.voice.new_note 0 some in
    rw (z, slides) refl

pub starts_sound : (s : Playing) → s.voice.new_note ≢ 0 → s.voice.new_command ≢ 3 → starts s ≡ true
starts_sound s some sounds =
    let z : nat_eq s.voice.new_note 0 ≡ false = ne_eqb s.voice.new_note 0 some in
    let y : nat_eq s.voice.new_command 3 ≡ false = ne_eqb s.voice.new_command 3 sounds in
    rw (z, y) refl

-- ---- how it starts

pub none_started : (i : Instrument) (s : Playing) → s.voice.new_note ≡ 0 → s ≡ note_started i s
unfolding note_started
none_started i s none =
    let z : nat_eq s.voice.new_note 0 ≡ true = eq-eqb s.voice.new_note 0 none in
    rw z refl

pub slide_started : (i : Instrument) (s : Playing) → s.voice.new_note ≢ 0 → s.voice.new_command ≡ 3 →
    record s { voice = note_taken i s.voice } ≡ note_started i s
unfolding note_started
slide_started i s some slides =
    let z : nat_eq s.voice.new_note 0 ≡ false = ne_eqb s.voice.new_note 0 some in
    let y : nat_eq s.voice.new_command 3 ≡ true = eq-eqb s.voice.new_command 3 slides in
    rw (z, y) refl

pub sound_started : (i : Instrument) (s : Playing) → s.voice.new_note ≢ 0 → s.voice.new_command ≢ 3 →
    sound_begun i (record s { voice = note_taken i s.voice }) ≡ note_started i s
unfolding note_started
sound_started i s some sounds =
    let z : nat_eq s.voice.new_note 0 ≡ false = ne_eqb s.voice.new_note 0 some in
    let y : nat_eq s.voice.new_command 3 ≡ false = ne_eqb s.voice.new_command 3 sounds in
    rw (z, y) refl

-- the first frame's waveform
pub wave_same : (wave : ℕ) (v : Voice) → wave ≡ 0 → v ≡ first_wave_set wave v
wave_same wave v none = rw none refl

pub wave_mask : (wave : ℕ) (v : Voice) → nat_le 0xFE wave ≡ true → record v { gate = wave } ≡ first_wave_set wave v
wave_mask wave v mask = rw mask refl

pub wave_plain : (wave : ℕ) (v : Voice) → wave ≢ 0 → nat_le 0xFE wave ≡ false →
    record v { wave = wave; gate = 0xFF } ≡ first_wave_set wave v
wave_plain wave v some low =
    let z : nat_eq wave 0 ≡ false = ne_eqb wave 0 some in
    rw (low, z) refl

-- ---- the command of a note that slides

-- the note, and its vibrato's delay
abbrev pub noted : Instrument → Playing → Playing
noted i s = record s {
  voice = record s.voice { note = (s.voice.new_note + 256 - 0x60) % 256; vib_delay = i.vibrato_delay };
}

-- command 3 sets both bytes that a note that starts would clear
pub slide_same : (channel : ℕ) (look : LookUps) (i : Instrument) (c p : ℕ) (s : Playing) → c ≡ 3 →
    cleared (row_command channel look i c p (cleared (noted i s)))
    ≡ cleared (row_command channel look i c p (record s { voice = note_taken i s.voice }))
unfolding row_command
slide_same channel look i c p s e = rw e refl

-- ---- the note that waits is used up

pub cleared_same : (s : Playing) → s.voice.new_note ≡ 0 → cleared s ≡ s
cleared_same s none = by_voice s.voice none
  where
    by_voice : (v : Voice) → v.new_note ≡ 0 → cleared (record s { voice = v }) ≡ record s { voice = v }
    by_voice v e = ap (λ n. record s { voice = record v { new_note = n } }) (sym e)

-- ---- numbers

-- A is the command, with two bits turned round
pub is_slide : (n : ℕ) → n < 256 → nat_eq (bit_xor n 3) 0 ≡ nat_eq n 3
is_slide n l = agree_below_at (λ n. nat_eq (bit_xor n 3) 0) (λ n. nat_eq n 3) 256 n refl l

-- A is the note that waits, less $60, without bit 7
pub note_is : (n waits : ℕ) → n ≡ waits →
    bit_and ((n + (255 - 0x60) + 1) % 256) 0x7F ≡ (waits + 256 - 0x60) % 256 % 128
note_is n waits e =
    let less : (n + (255 - 0x60) + 1) % 256 ≡ (waits + 256 - 0x60) % 256 = rw e (omega arith) in
    low_seven ((n + (255 - 0x60) + 1) % 256) (omega arith) ∙ ap (λ byte. byte % 128) less
