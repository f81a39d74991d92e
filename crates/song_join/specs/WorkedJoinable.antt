-- Small songs that can be joined, and others that can't, each for one reason, worked out by hand.
use Rattle.std.specs.Prelude.{ℕ, List, [], ◌∷◌, replicate}
use Rattle.song_model.specs.declared.rows.Row.{Row}
use Rattle.song_model.specs.declared.songs.Song.{Song}
use Rattle.song_model.specs.LookUp.{zero_instrument}
use Rattle.song_model.specs.Silence.{silence}
use Rattle.play_model.specs.WorkedSongs.{row, rests}
use Rattle.song_join.specs.declared.faults.JoinPart.TheVariants.{Instruments}
use Rattle.song_join.specs.declared.faults.JoinFault.TheVariants.{OverLimit, LooseInstrument, LooseSpeed, GateTimer}
use Rattle.song_join.specs.declared.faults.JoinFault.TheVariants.{NoteBeforeInstrument, NoMemory}
use Rattle.song_join.specs.Refusals.{CanBeJoined, IsRefusedFor}

-- the silent song with other rows, and with an instrument that has this vibrato and this gateoff timer
abbrev pub still : List Row → ℕ → ℕ → Song
still rows vibrato timer = record silence {
  instruments = (record zero_instrument { vibrato = vibrato; gate_timer = timer }) ∷ [];
  patterns = rows ∷ [];
}

abbrev pub still_song : Song
still_song = still (rests 1) 0 0

-- its instrument has a vibrato whose row isn't stored
abbrev pub vibrating_song : Song
vibrating_song = still (rests 1) 1 0

-- a note without an instrument, in front of one with instrument 1
abbrev pub noted_rows : List Row
noted_rows = row 0x90 0 0 0 ∷ row 0x90 1 0 0 ∷ []

-- it plays a note before a row names its instrument
abbrev pub unnamed_song : Song
unnamed_song = still noted_rows 0 0

-- two of these have 80 instruments
abbrev pub crowded_song : Song
crowded_song = record still_song { instruments = replicate 40 zero_instrument }

-- Still songs can be joined, and their timers' high bits may differ; in the first song notes may come before
-- instruments. And for each reason, alone, two songs that can't.
pub record JoinableSongs : Type 0 where
  pub can : CanBeJoined still_song still_song
  pub high : CanBeJoined (still (rests 1) 0 0x42) (still (rests 1) 0 2)
  pub notes_first : CanBeJoined unnamed_song still_song
  pub within : ¬ CanBeJoined crowded_song crowded_song
  pub instruments : ¬ CanBeJoined silence still_song
  pub speeds : ¬ CanBeJoined vibrating_song still_song
  pub timers : ¬ CanBeJoined (still (rests 1) 0 1) still_song
  pub named : ¬ CanBeJoined still_song unnamed_song

-- What each is refused for. A place counts only where it is the first one, and a reason only where no earlier one stands.
pub record SongsAreRefused : Type 0 where
  pub over : IsRefusedFor crowded_song crowded_song (OverLimit Instruments 80)
  pub first : IsRefusedFor silence silence (LooseInstrument 1 1)
  pub second : IsRefusedFor still_song silence (LooseInstrument 2 1)
  pub speed : IsRefusedFor vibrating_song still_song (LooseSpeed 1 1)
  pub timer : IsRefusedFor (still (rests 1) 0 1) still_song (GateTimer 1 0)
  pub unnamed : IsRefusedFor still_song unnamed_song (NoteBeforeInstrument 1 1)
  pub other_song : ¬ IsRefusedFor silence silence (LooseInstrument 2 1)
  pub other_channel : ¬ IsRefusedFor still_song unnamed_song (NoteBeforeInstrument 1 2)
  pub earlier_speed : ¬ IsRefusedFor (still (rests 1) 1 1) still_song (GateTimer 1 0)
  pub earlier_timer : ¬ IsRefusedFor (still (rests 1) 0 1) unnamed_song (NoteBeforeInstrument 1 1)
  pub memory : ¬ IsRefusedFor silence silence NoMemory
