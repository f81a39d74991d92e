-- What the code of the wave step stands on, and where its ways lead.
use Rattle.std.proofs.Common.{◌≡◌, ◌≢◌, ℕ, ◌+◌, ◌<◌, ◌≤◌, true, false, nat_eq}
use Rattle.song_model.specs.declared.tables.TableName.TheVariants.{Wave}
use Rattle.play_model.specs.LookUps.{LookUps}
use Rattle.play_model.specs.State.{Playing}
use Rattle.play_model.specs.WaveStep.{wave_step, is_wave_command}
use Rattle.player_memory.specs.declared.labels.TheConstants.{WAVE_LEFTS, NEXT_WAVE_LEFTS, WAVE_RIGHTS, NEXT_WAVE_RIGHTS}
use Rattle.player_text.specs.declared.joints.TheConstants.{PITCHED, COMMANDED}
use Rattle.player_desk.proofs.Laws.{VoiceDesk, Reader, Ways, Lent, Done, Reads, place_at}
use Rattle.player_desk.proofs.VoiceDesks.{Either}
use Rattle.wave_code.specs.WaveBlock.{begun, its_row, HasNote, HasCommand}
use Rattle.player_memory.specs.Forms.{stored_left, stored_right}
use Rattle.play_model.specs.WaveStep.{right_done}
use Rattle.wave_code.proofs.WaveRows.{held, moved}

-- ---- what the code stands on

-- a row of the wave table, and the row behind it
pub record RowAt (r : Reader) (look : LookUps) (p : ℕ) : Type 0 where
  pub left : Reads r (place_at r WAVE_LEFTS p) (stored_left (look.row Wave p).left)
  pub right : Reads r (place_at r WAVE_RIGHTS p) (stored_right (look.row Wave p))
  pub left_byte : stored_left (look.row Wave p).left < 256
  pub right_byte : (look.row Wave p).right < 256

pub record NextAt (r : Reader) (look : LookUps) (p : ℕ) : Type 0 where
  pub left : Reads r (place_at r NEXT_WAVE_LEFTS p) (stored_left (look.row Wave (p + 1)).left)
  pub right : Reads r (place_at r NEXT_WAVE_RIGHTS p) (stored_right (look.row Wave (p + 1)))
  pub left_byte : stored_left (look.row Wave (p + 1)).left < 256

-- where the voice has a program its row is found and the one behind it, and it is no jump; of a delay no more time has
-- passed than it has, and of another row none
pub record WaveGround (r : Reader) (look : LookUps) (p time : ℕ) : Type 0 where
  pub row : p ≢ 0 → RowAt r look p
  pub next : p ≢ 0 → NextAt r look p
  pub no_jump : p ≢ 0 → (look.row Wave p).left ≢ 0xFF
  pub delay : p ≢ 0 → (look.row Wave p).left < 0x10 → time ≤ (look.row Wave p).left
  pub fresh : p ≢ 0 → 0x10 ≤ (look.row Wave p).left → time ≡ 0

-- ---- where its ways lead

-- the effect may run
pub record AtEnd (r : Reader) (look : LookUps) (s : Playing) (handed : Lent) (d m : VoiceDesk) : Type 0 where
  pub runs : (wave_step look s).effect ≡ true
  pub done : Done r.layout.holds r.voice (wave_step look s).playing handed d m

-- a note is to be set
pub record AtPitch (r : Reader) (look : LookUps) (s : Playing) (handed : Lent) (d m : VoiceDesk) : Type 0 where
  pub rests : (wave_step look s).effect ≡ false
  pub none : is_wave_command (its_row look s.voice) ≡ false
  pub note : HasNote look s m.a
  pub done : Done r.layout.holds r.voice (begun look s) handed d m

-- a command is to be done
pub record AtCommand (r : Reader) (look : LookUps) (s : Playing) (handed : Lent) (d m : VoiceDesk) : Type 0 where
  pub rests : (wave_step look s).effect ≡ false
  pub is : is_wave_command (its_row look s.voice) ≡ true
  pub command : HasCommand look s m.a m.y
  pub done : Done r.layout.holds r.voice (begun look s) handed d m

abbrev pub wave_ways : Reader → LookUps → Playing → Lent → VoiceDesk → Ways
wave_ways r look s handed d = record {
  Done = AtEnd r look s handed d;
  Left = λ name m.
      Either (nat_eq name PITCHED) (AtPitch r look s handed d m)
      (Either (nat_eq name COMMANDED) (AtCommand r look s handed d m) ⊥);
  Again = λ m. ⊥;
}

-- ---- what holds on the way

-- the row's left side is done, but for a command
pub record AtNext (r : Reader) (look : LookUps) (s : Playing) (handed : Lent) (d m : VoiceDesk) : Type 0 where
  pub wave : ℕ
  pub done : Done r.layout.holds r.voice (held wave s) handed d m
  pub y : m.y ≡ s.voice.wave_ptr
  pub is : begun look s ≡ moved look wave s
  pub row : (its_row look s.voice).left < 0xF0 → wave_step look s ≡ right_done (its_row look s.voice) (begun look s)

-- and the program has gone on
pub record AtMoved (r : Reader) (look : LookUps) (s : Playing) (handed : Lent) (d m : VoiceDesk) : Type 0 where
  pub done : Done r.layout.holds r.voice (begun look s) handed d m
  pub y : m.y ≡ s.voice.wave_ptr
  pub carry : m.c ≡ false
  pub row : (its_row look s.voice).left < 0xF0 → wave_step look s ≡ right_done (its_row look s.voice) (begun look s)
