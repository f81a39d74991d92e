-- A voice with other numbers. What it holds from one fetch to the next may be anything: no rule between changes it.
use Rattle.std.proofs.Common.{◌≡◌, ℕ, Option, Some, None, refl, subst}
use Rattle.song_model.specs.declared.tables.TableName.{TableName}
use Rattle.song_model.specs.declared.tables.TableName.TheVariants.{Wave, Pulse, Speed}
use Rattle.play_model.specs.State.{Voice, Playing}
use Rattle.play_model.specs.TickStep.{Ticked}
use Rattle.play_model.specs.WaveStep.{Waved}
use Rattle.same_frames.specs.Maps.{Maps, same_numbers, moved_pointer}
use Rattle.same_frames.specs.Alike.{moved_voice, moved_common}

-- what a fetch leaves
pub record Held : Type 0 where
  pub plays : ℕ
  pub row : ℕ
  pub instrument : ℕ
  pub new_command : ℕ
  pub new_param : ℕ
  -- what stands for the parameter that runs
  pub running : ℕ → ℕ

abbrev pub held_of : Voice → Held
held_of v = record {
  plays = v.plays;
  row = v.row;
  instrument = v.instrument;
  new_command = v.new_command;
  new_param = v.new_param;
  running = λ param. param;
}

-- a voice that holds this, with its pointers moved
abbrev pub put : Maps → Held → Voice → Voice
put maps h v = record v {
  plays = h.plays;
  row = h.row;
  instrument = h.instrument;
  new_command = h.new_command;
  new_param = h.new_param;
  param = h.running v.param;
  wave_ptr = maps.row Wave v.wave_ptr;
  pulse_ptr = maps.row Pulse v.pulse_ptr;
}

abbrev pub put_playing : Maps → Held → Playing → Playing
put_playing maps h s = record { voice = put maps h s.voice; common = moved_common maps s.common }

abbrev pub put_waved : Maps → Held → Waved → Waved
put_waved maps h w = record { playing = put_playing maps h w.playing; effect = w.effect }

abbrev pub put_ticked : Maps → Held → Ticked → Ticked
put_ticked maps h t = record { playing = put_playing maps h t.playing; started = t.started }

-- the other voice holds this, with the pointers moved
pub record VoiceMoved (maps : Maps) (h : Held) (v other : Voice) : Type 0 where
  pub is : other ≡ put maps h v

pub record PlayingMoved (maps : Maps) (h : Held) (s other : Playing) : Type 0 where
  pub is : other ≡ put_playing maps h s

-- ---- no new numbers

pub same_pointer : (table : Option TableName) (p : ℕ) → moved_pointer same_numbers table p ≡ p
same_pointer (Some name) p = refl
same_pointer None p = refl

-- ---- the same held, under new numbers

abbrev pub moved_held : Maps → ℕ → Held → Held
moved_held maps param h =
    record h { instrument = maps.instrument h.instrument; new_param = param; running = maps.row Speed }

-- a voice that holds what this one holds
pub moved_again : (maps : Maps) (param : ℕ) (v w : Voice) → held_of v ≡ held_of w →
    put maps (moved_held maps param (held_of w)) v ≡ moved_voice maps param v
moved_again maps param v w e =
    subst (λ (h : Held). put maps (moved_held maps param h) v ≡ moved_voice maps param v) e refl
