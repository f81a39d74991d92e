-- What a voice of a small song keeps and looks up, worked out by hand, and what it may not, each for one thing alone.
use Rattle.std.specs.Prelude.{ℕ, [], ◌∷◌}
use Rattle.song_model.specs.declared.songs.Song.{Song}
use Rattle.play_model.specs.State.{Voice, FrameState, no_options, start_voice, start_state}
use Rattle.play_model.specs.WorkedSongs.{plucked, one_note, with_gate_timer}
use Rattle.kept_notes.specs.Voices.{KeepsNotes, KeepAllNotes}
use Rattle.kept_notes.specs.NoteLaws.{LooksUpAsked}
use Rattle.asked_numbers.specs.WorkedNumbers.{with_wave, with_speed}

-- a voice in its only note, half tone 48, which waits to start anew
abbrev pub sounding : Voice
sounding = record start_voice { note = 48; new_note = 0x90; last_note = 48; wave_ptr = 1 }

-- A voice keeps the song's notes at its start and in its note. It doesn't with another note, with note 0 under a wave
-- program or a slide, with another note that waits, or with another last number.
pub record KeptNotesAreWorked : Type 0 where
  pub start : KeepsNotes one_note start_voice
  pub sounding : KeepsNotes one_note sounding
  pub note : ¬ KeepsNotes one_note (record start_voice { note = 49 })
  pub program : ¬ KeepsNotes one_note (record start_voice { wave_ptr = 1 })
  pub slide : ¬ KeepsNotes one_note (record start_voice { command = 3 })
  pub new_note : ¬ KeepsNotes one_note (record start_voice { new_note = 0x91 })
  pub last : ¬ KeepsNotes one_note (record start_voice { last_note = 49 })

-- a voice without a note, at this tick and with this gateoff timer
abbrev pub timed : ℕ → ℕ → Voice
timed tick timer = record start_voice { tick = tick; gate_timer = timer }

-- the song of one note with a second instrument, of timer 3, which no row names
abbrev pub with_second : Song
with_second = record one_note { instruments = plucked ∷ record plucked { gate_timer = 3 } ∷ [] }

-- The only instrument of the song of one note has the timer 2. A voice that keeps the song's notes has this timer, or 0 a
-- frame before a row, as it begins. It hasn't another one there, nor at a row or behind it, nor 0 then. Of an instrument's
-- timer it has the six low bits alone, and that of an instrument that the song doesn't use it hasn't.
pub record KeptTimersAreWorked : Type 0 where
  pub its : KeepsNotes one_note (timed 2 2)
  pub begins : KeepsNotes one_note (timed 1 0)
  pub before_row : ¬ KeepsNotes one_note (timed 1 3)
  pub at_row : ¬ KeepsNotes one_note (timed 0 3)
  pub behind_row : ¬ KeepsNotes one_note (timed 2 3)
  pub zero : ¬ KeepsNotes one_note (timed 2 0)
  pub low_bits : KeepsNotes (with_gate_timer 0x42 one_note) (timed 2 2)
  pub all_bits : ¬ KeepsNotes (with_gate_timer 0x42 one_note) (timed 2 0x42)
  pub not_used : ¬ KeepsNotes with_second (timed 2 3)

-- another note in one voice alone
abbrev pub other : Voice
other = record start_voice { note = 49 }

abbrev pub at_start : FrameState
at_start = start_state no_options

pub record KeptStatesAreWorked : Type 0 where
  pub start : KeepAllNotes one_note at_start
  pub one : ¬ KeepAllNotes one_note (record at_start { one = other })
  pub two : ¬ KeepAllNotes one_note (record at_start { two = other })
  pub three : ¬ KeepAllNotes one_note (record at_start { three = other })

-- What the voice looks up in its note is asked for. With another note the number that its wave program sets isn't, nor
-- that which the program or the running command slides to. A note may have another frequency than its number. Where
-- speeds are taken from half tones, one from 47 to 48 isn't asked for, nor one from 49 to 50.
pub record LookUpsAreWorked : Type 0 where
  pub its : LooksUpAsked one_note sounding
  pub row : ¬ LooksUpAsked one_note (record start_voice { note = 49; wave_ptr = 1 })
  pub wave_slide : ¬ LooksUpAsked (with_wave 0xF3 0x0C 0) (record start_voice { note = 49; wave_ptr = 1 })
  pub slide : ¬ LooksUpAsked one_note (record start_voice { note = 49; command = 3 })
  pub target : ¬ LooksUpAsked one_note (record start_voice { note = 160 })
  pub half_tone_from : ¬ LooksUpAsked (with_speed 0x80) (record start_voice { last_note = 47 })
  pub half_tone_to : ¬ LooksUpAsked (with_speed 0x80) (record start_voice { last_note = 49 })

pub record VoicesAreWorked : Type 0 where
  pub kept : KeptNotesAreWorked
  pub timers : KeptTimersAreWorked
  pub states : KeptStatesAreWorked
  pub look_ups : LookUpsAreWorked
