-- The rules of a voice's step leave where the voice is in its song, and what its last row says.
use Rattle.std.proofs.Common.{◌≡◌, ℕ, ◌-◌, ◌&&◌, ◌||◌, Bool, true, false, not, nat_eq, nat_le}
use Rattle.std.proofs.Common.{nat_lt, if◌then◌else◌}
use Rattle.std.proofs.Common.{refl, ◌∙◌}
use Rattle.song_model.specs.declared.instruments.Instrument.{Instrument}
use Rattle.song_model.specs.declared.tables.TableRow.{TableRow}
use Rattle.song_model.specs.declared.tables.TableName.TheVariants.{Wave}
use Rattle.play_model.specs.declared.options.Options.{Options}
use Rattle.play_model.specs.LookUps.{LookUps}
use Rattle.play_model.specs.Freq.{freq, slide}
use Rattle.play_model.specs.Wrap.{distance, byte_minus}
use Rattle.play_model.specs.State.{Voice, Playing}
use Rattle.play_model.specs.TickStep.{Ticked, note_taken, first_wave_set, sound_begun, note_started}
use Rattle.play_model.specs.TickStep.{row_command, gate_timer_set, at_row, between_rows, tempo_of, tick_step}
use Rattle.play_model.specs.Helpers.{porta_up, porta_down, tone, vibrato, do_command}
use Rattle.play_model.specs.WaveStep.{Waved, wave_command, left_done, program_moved, right_done, wave_step}
use Rattle.play_model.specs.WaveStep.{is_wave_command}
use Rattle.play_model.specs.EffectStep.{instrument_vibrato, effect_step}
use Rattle.play_model.specs.Frame.{effect_done}

-- the play, its row, and the command of the row that was fetched last
pub record InSong : Type 0 where
  pub plays : ℕ
  pub row : ℕ
  pub new_command : ℕ
  pub new_param : ℕ

abbrev pub in_song : Voice → InSong
in_song v = record { plays = v.plays; row = v.row; new_command = v.new_command; new_param = v.new_param }

abbrev pub at_song : Playing → InSong
at_song s = in_song s.voice

-- one of two
if_same : {X Y : Type 0} (f : X → Y) (b : Bool) (x y : X) (z : Y) → f x ≡ z → f y ≡ z → f (if b then x else y) ≡ z
if_same f true x y z here there = here
if_same f false x y z here there = there

-- ---- commands

do_same : (c d : ℕ) (s : Playing) → at_song (do_command c d s) ≡ at_song s
unfolding do_command
do_same c d s =
    let z = at_song s in
    if_same at_song (nat_eq c 5) _ _ z refl
    (if_same at_song (nat_eq c 6) _ _ z refl
    (if_same at_song (nat_eq c 7) _ _ z refl
    (if_same at_song (nat_eq c 9) _ _ z refl
    (if_same at_song (nat_eq c 0xA) _ _ z refl
    (if_same at_song (nat_eq c 0xB) _ _ z refl
    (if_same at_song (nat_eq c 0xC) _ _ z refl (if_same at_song (nat_eq c 0xD) _ s z refl refl)))))))

tone_same : (look : LookUps) (d : ℕ) (v : Voice) → in_song (tone look d v) ≡ in_song v
unfolding tone
tone_same look d v =
    if_same in_song (nat_eq d 0 || nat_le (distance v.freq (freq v.note)) (slide look d v.last_note)) _ _ (in_song v)
    refl refl

vibrato_same : (look : LookUps) (d : ℕ) (v : Voice) → in_song (vibrato look d v) ≡ in_song v
unfolding vibrato
vibrato_same look d v = refl

up_same : (look : LookUps) (d : ℕ) (v : Voice) → in_song (porta_up look d v) ≡ in_song v
unfolding porta_up
up_same look d v = refl

down_same : (look : LookUps) (d : ℕ) (v : Voice) → in_song (porta_down look d v) ≡ in_song v
unfolding porta_down
down_same look d v = refl

wave_command_same : (look : LookUps) (c d : ℕ) (s : Playing) → at_song (wave_command look c d s) ≡ at_song s
unfolding wave_command
wave_command_same look c d s =
    let z = at_song s in
    if_same at_song (nat_eq c 0 || nat_eq c 8 || nat_eq c 0xE) s _ z refl
    (if_same at_song (nat_eq c 1) _ _ z (up_same look d s.voice)
    (if_same at_song (nat_eq c 2) _ _ z (down_same look d s.voice)
    (if_same at_song (nat_eq c 3) _ _ z (tone_same look d s.voice)
    (if_same at_song (nat_eq c 4) _ _ z (vibrato_same look d s.voice) (do_same c d s)))))

-- ---- the tick step

command_same : (channel : ℕ) (look : LookUps) (i : Instrument) (c d : ℕ) (s : Playing) →
    at_song (row_command channel look i c d s) ≡ at_song s
unfolding row_command
command_same channel look i c d s =
    let z = at_song s in
    if_same at_song (nat_eq c 0) _ _ z refl
    (if_same at_song (nat_le c 2) _ _ z refl
    (if_same at_song (nat_le c 4) _ _ z refl
    (if_same at_song (nat_eq c 8) _ _ z refl
    (if_same at_song (nat_eq c 0xE) _ _ z refl
    (if_same at_song (nat_eq c 0xF) _ (do_command c d s) z refl (do_same c d s))))))

first_wave_same : (wave : ℕ) (v : Voice) → in_song (first_wave_set wave v) ≡ in_song v
first_wave_same wave v =
    if_same in_song (nat_le 0xFE wave) _ _ (in_song v) refl (if_same in_song (nat_eq wave 0) v _ (in_song v) refl refl)

note_same : (i : Instrument) (s : Playing) → at_song (note_started i s) ≡ at_song s
unfolding note_started
note_same i s =
    let v = note_taken i s.voice in
    if_same at_song (nat_eq s.voice.new_note 0) s _ (at_song s) refl
    (if_same at_song (nat_eq s.voice.new_command 3) (record s { voice = v }) (sound_begun i (record s { voice = v }))
    (at_song s) refl (first_wave_same i.first_wave v))

at_row_same : (channel : ℕ) (look : LookUps) (i : Instrument) (s : Playing) →
    at_song (at_row channel look i s).playing ≡ at_song s
unfolding at_row
at_row_same channel look i s =
    let timed = gate_timer_set i s in
    command_same channel look i s.voice.new_command s.voice.new_param (note_started i timed) ∙ note_same i timed

between_same : (channel : ℕ) (s : Playing) → at_song (between_rows channel s) ≡ at_song s
unfolding between_rows
between_same channel s =
    if_same at_song (nat_le 0x80 s.voice.tick) _ s (at_song s)
    (if_same at_song (nat_le 2 (tempo_of channel s.common)) _ _ (at_song s) refl refl) refl

abbrev ticked_song : Ticked → InSong
ticked_song t = at_song t.playing

pub tick_same : (channel : ℕ) (look : LookUps) (s : Playing) → at_song (tick_step channel look s).playing ≡ at_song s
unfolding tick_step
tick_same channel look s =
    let counted = record s { voice = record s.voice { tick = byte_minus s.voice.tick 1 } } in
    if_same ticked_song (nat_eq counted.voice.tick 0) _ _ (at_song s)
    (at_row_same channel look (look.instrument s.voice.instrument) counted) (between_same channel counted)

-- ---- the wave step

left_same : (look : LookUps) (row : TableRow) (s : Playing) → at_song (left_done look row s) ≡ at_song s
left_same look row s =
    let z = at_song s in
    if_same at_song (nat_le 0x10 row.left && nat_le row.left 0xDF) _ _ z refl
    (if_same at_song (nat_le 0xE0 row.left && nat_le row.left 0xEF) _ _ z refl
    (if_same at_song (is_wave_command row) _ s z (wave_command_same look (row.left - 0xF0) row.right s) refl))

abbrev waved_song : Waved → InSong
waved_song w = at_song w.playing

right_same : (row : TableRow) (s : Playing) → waved_song (right_done row s) ≡ at_song s
right_same row s =
    if_same waved_song (is_wave_command row) _ _ (at_song s) refl
    (if_same waved_song (nat_eq row.right 0x80) _ _ (at_song s) refl refl)

pub wave_same : (look : LookUps) (s : Playing) → at_song (wave_step look s).playing ≡ at_song s
unfolding wave_step
wave_same look s =
    let row = look.row Wave s.voice.wave_ptr in
    if_same waved_song (nat_eq s.voice.wave_ptr 0) _ _ (at_song s) refl
    (if_same waved_song (nat_lt row.left 0x10 && not (nat_eq s.voice.wave_time row.left)) _ _ (at_song s) refl
    (right_same row (program_moved look s.voice.wave_ptr (left_done look row s)) ∙ left_same look row s))

-- ---- the effect step

waiting_same : (look : LookUps) (v : Voice) → in_song (instrument_vibrato look v) ≡ in_song v
waiting_same look v =
    if_same in_song (nat_eq v.param 0 || nat_eq v.vib_delay 0) v _ (in_song v) refl
    (if_same in_song (nat_le 2 v.vib_delay) _ _ (in_song v) refl (vibrato_same look v.param v))

effect_same : (look : LookUps) (v : Voice) → in_song (effect_step look v) ≡ in_song v
unfolding effect_step
effect_same look v =
    let z = in_song v in
    if_same in_song (nat_eq v.command 0) _ _ z (waiting_same look v)
    (if_same in_song (nat_eq v.command 1) _ _ z (up_same look v.param v)
    (if_same in_song (nat_eq v.command 2) _ _ z (down_same look v.param v)
    (if_same in_song (nat_eq v.command 3) _ _ z (tone_same look v.param v)
    (if_same in_song (nat_eq v.command 4) _ v z (vibrato_same look v.param v) refl))))

pub effected_same : (o : Options) (look : LookUps) (w : Waved) → at_song (effect_done o look w) ≡ at_song w.playing
effected_same o look w =
    if_same at_song (w.effect && not (o.skip_effects && nat_eq w.playing.voice.tick 0)) _ w.playing
    (at_song w.playing) (effect_same look w.playing.voice) refl
