-- The effect step and the wave step with other numbers for the rows of tables, over any two look-ups.
use Rattle.std.specs.Prelude.{nat_le, nat_lt, not, ◌==◌, ◌&&◌, ◌||◌}
use Rattle.std.proofs.Common.{◌≡◌, ◌≢◌, ℕ, ◌-◌, ◌≤◌, true, false, None, refl, ap, ◌∙◌}
use Rattle.std.proofs.Common.{lit≤, arith}
use Rattle.std.proofs.lemmas.Bool.{eqb-true, eqb-false, leb-true, and_parts}
use Rattle.std.proofs.lemmas.Bool.Decides.{nat_tests}
use Rattle.song_model.specs.declared.tables.TableRow.{TableRow}
use Rattle.song_model.specs.declared.tables.TableName.TheVariants.{Wave, Filter}
use Rattle.song_model.specs.Pointers.{command_table, wave_row_table}
use Rattle.play_model.specs.LookUps.{LookUps}
use Rattle.play_model.specs.State.{Voice, Playing}
use Rattle.play_model.specs.Helpers.{vibrato}
use Rattle.play_model.specs.WaveStep.{Waved, wave_command, is_wave_command, left_done, program_moved, right_done}
use Rattle.play_model.specs.WaveStep.{wave_row, wave_step}
use Rattle.play_model.specs.EffectStep.{instrument_vibrato, effect_step}
use Rattle.same_frames.specs.Maps.{Maps, moved_pointer}
use Rattle.same_frames.specs.Alike.{moved_common}
use Rattle.same_frames.proofs.Choices.{choice_moved, same_choice, both}
use Rattle.same_frames.proofs.Moved.{Held, put, put_playing, put_waved, VoiceMoved, PlayingMoved}
use Rattle.same_frames.proofs.Slides.{IsSpeedFor, up_moved, down_moved, tone_moved, vibrato_moved, command_moved}
use Rattle.same_frames.proofs.Programs.{GoesOnFor}

-- ---- the effect step

vibrato_begins : (maps : Maps) (h : Held) (look other : LookUps) (v : Voice) →
    IsSpeedFor look other v.param (h.running v.param) →
    instrument_vibrato other (put maps h v) ≡ put maps h (instrument_vibrato look v)
vibrato_begins maps h look other v s =
    choice_moved (put maps h) ((v.param == 0) || (v.vib_delay == 0))
    ((h.running v.param == 0) || (v.vib_delay == 0)) _ _ _ _ (rw s.none refl) (λ z. refl)
    (λ z. same_choice (put maps h) (nat_le 2 v.vib_delay) _ (vibrato look v.param v) _
    (vibrato other (h.running v.param) (put maps h v)) (λ z. refl)
    (λ z. vibrato_moved maps h look other v.param (h.running v.param) v s))

effects_moved : (maps : Maps) (h : Held) (look other : LookUps) (v : Voice) →
    IsSpeedFor look other v.param (h.running v.param) →
    VoiceMoved maps h (effect_step look v) (effect_step other (put maps h v))
unfolding effect_step
effects_moved maps h look other v s =
    both R (v.command == 0) _ _ _ _ (λ z. record { is = vibrato_begins maps h look other v s })
    (λ z. both R (v.command == 1) _ _ _ _ (λ z. record { is = up_moved maps h look other v.param e v s })
    (λ z. both R (v.command == 2) _ _ _ _ (λ z. record { is = down_moved maps h look other v.param e v s })
    (λ z. both R (v.command == 3) _ _ _ _ (λ z. record { is = tone_moved maps h look other v.param e v s })
    (λ z. both R (v.command == 4) _ _ _ _ (λ z. record { is = vibrato_moved maps h look other v.param e v s })
    (λ z. record { is = refl })))))
  where
    R : Voice → Voice → Type 0
    R = VoiceMoved maps h

    e : ℕ
    e = h.running v.param

pub effect_moved : (maps : Maps) (h : Held) (look other : LookUps) (v : Voice) →
    IsSpeedFor look other v.param (h.running v.param) →
    effect_step other (put maps h v) ≡ put maps h (effect_step look v)
effect_moved maps h look other v s = (effects_moved maps h look other v s).is

-- ---- the wave step

-- what a command's parameter stands for, and that a slide's speed is the same
pub record IsWaveParam (maps : Maps) (look other : LookUps) (c d e : ℕ) : Type 0 where
  pub is : ((c == 0) || (c == 8) || (c == 0xE)) ≡ false → e ≡ moved_pointer maps (command_table c) d
  pub speed : 1 ≤ c → c ≤ 4 → IsSpeedFor look other d e

wave_commands_moved : (maps : Maps) (h : Held) (look other : LookUps) (c d e : ℕ) (s : Playing) →
    maps.row Filter 0 ≡ 0 → IsWaveParam maps look other c d e →
    PlayingMoved maps h (wave_command look c d s) (wave_command other c e (put_playing maps h s))
unfolding wave_command
wave_commands_moved maps h look other c d e s nothing p =
    both R ((c == 0) || (c == 8) || (c == 0xE)) _ _ _ _ (λ z. record { is = refl })
    (λ other_one. both R (c == 1) _ _ _ _
    (λ z. voice _ _ (up_moved maps h look other d e s.voice (by_command 1 (eqb-true c 1 z) (lit≤ tt) (lit≤ tt))))
    (λ z. both R (c == 2) _ _ _ _
    (λ z. voice _ _ (down_moved maps h look other d e s.voice (by_command 2 (eqb-true c 2 z) (lit≤ tt) (lit≤ tt))))
    (λ z. both R (c == 3) _ _ _ _
    (λ z. voice _ _ (tone_moved maps h look other d e s.voice (by_command 3 (eqb-true c 3 z) (lit≤ tt) (lit≤ tt))))
    (λ z. both R (c == 4) _ _ _ _
    (λ z. voice _ _ (vibrato_moved maps h look other d e s.voice (by_command 4 (eqb-true c 4 z) (lit≤ tt) (lit≤ tt))))
    (λ z. record { is = command_moved maps h c d e s nothing (p.is other_one) })))))
  where
    R : Playing → Playing → Type 0
    R = PlayingMoved maps h

    voice : (v w : Voice) → w ≡ put maps h v →
        PlayingMoved maps h (record s { voice = v }) (record { voice = w; common = moved_common maps s.common })
    voice v w is = record {
      is = ap (λ (x : Voice). record { voice = x; common = moved_common maps s.common }) is;
    }

    by_command : (n : ℕ) → c ≡ n → 1 ≤ n → n ≤ 4 → IsSpeedFor look other d e
    by_command n is_n low high = p.speed (rw is_n low) (rw is_n high)

wave_command_moved : (maps : Maps) (h : Held) (look other : LookUps) (c d e : ℕ) (s : Playing) →
    maps.row Filter 0 ≡ 0 → IsWaveParam maps look other c d e →
    wave_command other c e (put_playing maps h s) ≡ put_playing maps h (wave_command look c d s)
wave_command_moved maps h look other c d e s nothing p =
    (wave_commands_moved maps h look other c d e s nothing p).is

-- a wave program is at row p
pub record IsWaveFor (maps : Maps) (look other : LookUps) (p : ℕ) : Type 0 where
  pub left : (other.row Wave (maps.row Wave p)).left ≡ (look.row Wave p).left
  pub right : (other.row Wave (maps.row Wave p)).right
      ≡ moved_pointer maps (wave_row_table (look.row Wave p).left) (look.row Wave p).right
  pub next : GoesOnFor maps look other Wave p
  -- the left sides $F1 to $F4 are slides and the vibrato
  pub speed : 0xF1 ≤ (look.row Wave p).left → (look.row Wave p).left ≤ 0xF4 →
      IsSpeedFor look other (look.row Wave p).right (other.row Wave (maps.row Wave p)).right

-- as a command a row points where its left side says
same_table : (left : ℕ) → 0xF0 ≤ left → left ≤ 0xFE →
    ((left - 0xF0 == 0) || (left - 0xF0 == 8) || (left - 0xF0 == 0xE)) ≡ false →
    wave_row_table left ≡ command_table (left - 0xF0)
same_table left low high other = grind (arith, nat_tests)

above : (left : ℕ) → 0xF0 ≤ left → 1 ≤ left - 0xF0 → 0xF1 ≤ left
above left low h = omega arith

below : (left : ℕ) → left - 0xF0 ≤ 4 → left ≤ 0xF4
below left h = omega arith

wave_param : (maps : Maps) (look other : LookUps) (p : ℕ) → IsWaveFor maps look other p →
    is_wave_command (look.row Wave p) ≡ true →
    IsWaveParam maps look other ((look.row Wave p).left - 0xF0) (look.row Wave p).right
    (other.row Wave (maps.row Wave p)).right
wave_param maps look other p s command =
    let left = (look.row Wave p).left in
    let low = leb-true 0xF0 left (and_parts _ _ command).0 in
    let high = leb-true left 0xFE (and_parts _ _ command).1 in
    record {
      is = λ z.
          s.right ∙ ap (λ table. moved_pointer maps table (look.row Wave p).right) (same_table left low high z);
      speed = λ least most. s.speed (above left low least) (below left most);
    }

left_moved : (maps : Maps) (h : Held) (look other : LookUps) (p : ℕ) (s : Playing) → maps.row Filter 0 ≡ 0 →
    IsWaveFor maps look other p →
    left_done other (other.row Wave (maps.row Wave p)) (put_playing maps h s)
    ≡ put_playing maps h (left_done look (look.row Wave p) s)
left_moved maps h look other p s nothing w =
    rw w.left
    (same_choice f (nat_le 0x10 row.left && nat_le row.left 0xDF) _ _ _ _ (λ z. refl)
    (λ z. same_choice f (nat_le 0xE0 row.left && nat_le row.left 0xEF) _ _ _ _ (λ z. refl)
    (λ z. same_choice f (is_wave_command row) (wave_command look (row.left - 0xF0) row.right s) s
    (wave_command other (row.left - 0xF0) (other.row Wave (maps.row Wave p)).right (put_playing maps h s))
    (put_playing maps h s)
    (λ z. wave_command_moved maps h look other (row.left - 0xF0) row.right
    (other.row Wave (maps.row Wave p)).right s nothing (wave_param maps look other p w z))
    (λ z. refl))))
  where
    f : Playing → Playing
    f = put_playing maps h

    row : TableRow
    row = look.row Wave p

-- a row that is no command points nowhere
no_pointer : (maps : Maps) (left right : ℕ) → (nat_le 0xF0 left && nat_le left 0xFE) ≡ false →
    moved_pointer maps (wave_row_table left) right ≡ right
no_pointer maps left right h = rw (no_table left h) refl
  where
    no_table : (left : ℕ) → (nat_le 0xF0 left && nat_le left 0xFE) ≡ false → wave_row_table left ≡ None
    no_table left h = grind (arith, nat_tests)

right_moved : (maps : Maps) (h : Held) (look other : LookUps) (p : ℕ) (s : Playing) → IsWaveFor maps look other p →
    right_done (other.row Wave (maps.row Wave p)) (put_playing maps h s)
    ≡ put_waved maps h (right_done (look.row Wave p) s)
right_moved maps h look other p s w =
    rw w.left
    (same_choice f (is_wave_command row) _ _ _ _ (λ z. refl)
    (λ z. rw (w.right ∙ no_pointer maps row.left row.right z)
    (same_choice f (row.right == 0x80) (record { playing = s; effect = true }) _
    (record { playing = put_playing maps h s; effect = true }) _ (λ z. refl) (λ z. refl))))
  where
    f : Waved → Waved
    f = put_waved maps h

    row : TableRow
    row = look.row Wave p

wave_row_moved : (maps : Maps) (h : Held) (look other : LookUps) (s : Playing) → maps.row Filter 0 ≡ 0 →
    IsWaveFor maps look other s.voice.wave_ptr →
    wave_row other (other.row Wave (maps.row Wave s.voice.wave_ptr)) (put_playing maps h s)
    ≡ put_waved maps h (wave_row look (look.row Wave s.voice.wave_ptr) s)
wave_row_moved maps h look other s nothing w =
    choice_moved (put_waved maps h) (nat_lt row.left 0x10 && not (s.voice.wave_time == row.left))
    (nat_lt beyond.left 0x10 && not (s.voice.wave_time == beyond.left)) _ (right_done row going) _
    (right_done beyond (program_moved other (maps.row Wave p) (left_done other beyond (put_playing maps h s))))
    (rw w.left refl) (λ z. refl)
    (λ z. ap (λ (x : Playing). right_done beyond (program_moved other (maps.row Wave p) x))
    (left_moved maps h look other p s nothing w)
    ∙ rw w.next (right_moved maps h look other p going w))
  where
    p : ℕ
    p = s.voice.wave_ptr

    row : TableRow
    row = look.row Wave p

    beyond : TableRow
    beyond = other.row Wave (maps.row Wave p)

    going : Playing
    going = program_moved look p (left_done look row s)

pub wave_moved : (maps : Maps) (h : Held) (look other : LookUps) (s : Playing) → maps.row Filter 0 ≡ 0 →
    (maps.row Wave s.voice.wave_ptr == 0) ≡ (s.voice.wave_ptr == 0) →
    (s.voice.wave_ptr ≢ 0 → IsWaveFor maps look other s.voice.wave_ptr) →
    wave_step other (put_playing maps h s) ≡ put_waved maps h (wave_step look s)
unfolding wave_step
wave_moved maps h look other s nothing none some =
    choice_moved (put_waved maps h) (s.voice.wave_ptr == 0) (maps.row Wave s.voice.wave_ptr == 0) _ _ _ _ none
    (λ z. refl) (λ z. wave_row_moved maps h look other s nothing (some (eqb-false s.voice.wave_ptr 0 z)))
