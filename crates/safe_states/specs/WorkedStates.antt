-- What a voice of a playable song keeps, at the edges of its ranges.
use Rattle.std.specs.Prelude.{ℕ, [], ◌∷◌}
use Rattle.song_model.specs.declared.orders.Order.{Order}
use Rattle.play_model.specs.State.{Voice, start_voice}
use Rattle.play_model.specs.Safe.{IsSafeNote, IsSafeNewNote, HasWaited, IsSafeWait, IsSafeVoice}
use Rattle.play_model.specs.WorkedSongs.{order, one_note, waiting_wave}

-- notes that sound: the lowest is 16 half tones below 0, the highest 106
pub record NotesAreWorked : Type 0 where
  pub low : IsSafeNote 240
  pub below_none : IsSafeNote 255
  pub none : IsSafeNote 0
  pub high : IsSafeNote 106
  pub too_low : ¬ IsSafeNote 239
  pub too_high : ¬ IsSafeNote 107
  pub no_byte : ¬ IsSafeNote 256

-- notes that wait
pub record NewNotesAreWorked : Type 0 where
  pub none : IsSafeNewNote 0
  pub low : IsSafeNewNote 0x50
  pub high : IsSafeNewNote 0xCA
  pub too_low : ¬ IsSafeNewNote 0x4F
  pub too_high : ¬ IsSafeNewNote 0xCB

-- a delay of 15 frames is over behind them; a waveform has no delay
pub record WaitsAreWorked : Type 0 where
  pub begun : HasWaited 0x0F 0
  pub through : HasWaited 0x0F 15
  pub too_long : ¬ HasWaited 0x0F 16
  pub at_once : HasWaited 0x10 0
  pub no_delay : ¬ HasWaited 0x10 1

-- row 1 of the wave program sets a waveform, row 2 waits 15 frames; one that has stopped waits for nothing
pub record ProgramWaitsAreWorked : Type 0 where
  pub stopped : (time : ℕ) → IsSafeWait waiting_wave 0 time
  pub at_once : IsSafeWait waiting_wave 1 0
  pub no_delay : ¬ IsSafeWait waiting_wave 1 1
  pub through : IsSafeWait waiting_wave 2 15
  pub too_long : ¬ IsSafeWait waiting_wave 2 16

-- the orderlist of voice 1, whose pattern has two rows, and the voice at the second of them, with its note in the first
-- row of each program
abbrev pub its_order : Order
its_order = order (0 ∷ [])

abbrev pub sounding : Voice
sounding = record start_voice { row = 1; note = 48; wave_ptr = 1; pulse_ptr = 1 }

-- It is safe. It isn't with another instrument, a command or a vibrato's delay, which the song has none of, nor with a
-- note out of its range, a program on a jump, which the second row of each is, a frame more than a row of it has, or
-- behind the pattern's last row.
pub record VoicesAreWorked : Type 0 where
  pub safe : IsSafeVoice one_note its_order sounding
  pub instrument : ¬ IsSafeVoice one_note its_order (record sounding { instrument = 2 })
  pub note : ¬ IsSafeVoice one_note its_order (record sounding { note = 107 })
  pub new_note : ¬ IsSafeVoice one_note its_order (record sounding { new_note = 1 })
  pub wave : ¬ IsSafeVoice one_note its_order (record sounding { wave_ptr = 2 })
  pub wave_time : ¬ IsSafeVoice one_note its_order (record sounding { wave_time = 1 })
  pub pulse : ¬ IsSafeVoice one_note its_order (record sounding { pulse_ptr = 2 })
  pub pulse_time : ¬ IsSafeVoice one_note its_order (record sounding { pulse_time = 1 })
  pub waiting : ¬ IsSafeVoice one_note its_order (record sounding { new_command = 5 })
  pub running : ¬ IsSafeVoice one_note its_order (record sounding { command = 4 })
  pub delay : ¬ IsSafeVoice one_note its_order (record sounding { vib_delay = 1 })
  pub row : ¬ IsSafeVoice one_note its_order (record sounding { row = 2 })

pub record StatesAreWorked : Type 0 where
  pub notes : NotesAreWorked
  pub new_notes : NewNotesAreWorked
  pub waits : WaitsAreWorked
  pub program_waits : ProgramWaitsAreWorked
  pub voices : VoicesAreWorked
