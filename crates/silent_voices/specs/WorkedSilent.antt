-- Mute voices, silent channels and their turns in small songs, worked out by hand; and others beside them, each of
-- which isn't for one thing alone.
use Rattle.std.specs.Prelude.{ℕ, [], ◌∷◌}
use Rattle.song_model.specs.declared.songs.Song.{Song}
use Rattle.song_model.specs.LookUp.{order_of}
use Rattle.song_model.specs.Silence.{silence}
use Rattle.play_model.specs.LookUps.{look_ups_of}
use Rattle.play_model.specs.State.{Voice, FrameState, Playing, no_options, start_voice, start_state, voice_of}
use Rattle.play_model.specs.Frame.{subtune_at, state_after}
use Rattle.play_model.specs.Uses.{turn_of}
use Rattle.play_model.specs.WorkedSongs.{order, row, one_note, with_rows}
use Rattle.silent_voices.specs.Mute.{IsMute, IsSilentChannel, StaysSilent}

-- ---- voices

-- a mute voice that is elsewhere in its orderlist and its row, had a note, and has all else that isn't heard
abbrev pub elsewhere : Voice
elsewhere = record start_voice {
  plays = 3;
  row = 2;
  tick = 5;
  gate_timer = 4;
  instrument = 2;
  note = 48;
  new_param = 1;
  param = 1;
  vib_time = 1;
  gate = 0xFF;
  last_note = 48;
  wave_time = 1;
  pulse_time = 1;
}

-- A voice is mute at its start, and elsewhere. It isn't where a note or a command waits, where a command or a program
-- runs or a vibrato is to come, nor with anything that its registers are made of.
pub record MuteVoicesAreWorked : Type 0 where
  pub start : IsMute start_voice
  pub elsewhere : IsMute elsewhere
  pub new_note : ¬ IsMute (record start_voice { new_note = 0x90 })
  pub new_command : ¬ IsMute (record start_voice { new_command = 8 })
  pub command : ¬ IsMute (record start_voice { command = 1 })
  pub vib_delay : ¬ IsMute (record start_voice { vib_delay = 1 })
  pub wave_ptr : ¬ IsMute (record start_voice { wave_ptr = 1 })
  pub pulse_ptr : ¬ IsMute (record start_voice { pulse_ptr = 1 })
  pub freq : ¬ IsMute (record start_voice { freq = 0x1168 })
  pub pulse : ¬ IsMute (record start_voice { pulse = 0x0800 })
  pub wave : ¬ IsMute (record start_voice { wave = 0x41 })
  pub ad : ¬ IsMute (record start_voice { ad = 0x0F })
  pub sr : ¬ IsMute (record start_voice { sr = 0xA0 })

-- ---- channels

-- the song of one note with a first pattern of one row
abbrev pub with_row : ℕ → ℕ → ℕ → ℕ → Song
with_row note instrument command param = with_rows (row note instrument command param ∷ []) one_note

-- In the song of one note the first channel plays the note, and the others rest. In the silent song, which can be
-- played, each rests. A keyoff, an instrument and the parameter of no command are nothing to play. A note alone is,
-- and a command alone.
pub record SilentChannelsAreWorked : Type 0 where
  pub first : ¬ IsSilentChannel one_note 1
  pub second : IsSilentChannel one_note 2
  pub third : IsSilentChannel one_note 3
  pub silence : IsSilentChannel silence 1
  pub keyoff : IsSilentChannel (with_row 0xBE 1 0 5) 1
  pub note : ¬ IsSilentChannel (with_row 0x60 0 0 0) 1
  pub command : ¬ IsSilentChannel (with_row 0xBD 0 4 0) 1

-- ---- frames

-- the song of one note, whose second orderlist ends behind its only entry, so that it can't be played
abbrev pub stopping_song : Song
stopping_song = record one_note {
  subtunes = record { one = order (0 ∷ []); two = record { entries = 1 ∷ []; restart = 1 }; three = order (1 ∷ []) }
      ∷ [];
}

-- The first voice fetches its note in the fifth frame, and is mute before. The second is mute after that, too. Where
-- the subtune isn't there, or the orderlist doesn't go on, the second channel has nothing to play either, but comes to
-- play pattern 0.
pub record MuteStatesAreWorked : Type 0 where
  pub before : IsMute (voice_of 1 (state_after one_note 0 4))
  pub first : ¬ IsMute (voice_of 1 (state_after one_note 0 5))
  pub second : IsMute (voice_of 2 (state_after one_note 0 5))
  pub later : IsMute (voice_of 2 (state_after one_note 0 20))
  pub no_subtune : ¬ IsMute (voice_of 2 (state_after one_note 1 5))
  pub stopping : IsSilentChannel stopping_song 2
  pub stops : ¬ IsMute (voice_of 2 (state_after stopping_song 0 11))

-- ---- turns

-- in the frame of the song of one note that follows this state, the turn of this voice
abbrev pub turn_in : FrameState → ℕ → Playing
turn_in x channel = (turn_of channel no_options (look_ups_of one_note) (subtune_at one_note 0) x).start

-- leaves it silent
abbrev pub StaysSilentIn : FrameState → ℕ → Type 0
StaysSilentIn x channel =
    StaysSilent no_options (look_ups_of one_note) (order_of channel (subtune_at one_note 0)) channel (turn_in x channel)

-- the start, one frame later, where each voice loads its row's length: the first by one tempo, the second by another
abbrev pub loading : ℕ → ℕ → FrameState
loading one two =
    let x = state_after one_note 0 1 in record x { common = record x.common { tempo_one = one; tempo_two = two } }

-- The second voice stays silent at the start, where it fetches a rest, and where it loads a tempo of 2 or more,
-- whatever that of another voice is. With 0 or 1 its tempo is exchanged. The first voice, though mute, doesn't where it
-- fetches its note, which shuts the envelope; nor where the note starts.
pub record SilentTurnsAreWorked : Type 0 where
  pub start : StaysSilentIn (start_state no_options) 2
  pub fetches : StaysSilentIn (state_after one_note 0 4) 2
  pub loads : StaysSilentIn (loading 5 2) 2
  pub other : StaysSilentIn (loading 0 5) 2
  pub zero_tempo : ¬ StaysSilentIn (loading 5 0) 2
  pub one_tempo : ¬ StaysSilentIn (loading 5 1) 2
  pub fetches_note : ¬ StaysSilentIn (state_after one_note 0 4) 1
  pub starts_note : ¬ StaysSilentIn (state_after one_note 0 6) 1

pub record SilenceIsWorked : Type 0 where
  pub voices : MuteVoicesAreWorked
  pub channels : SilentChannelsAreWorked
  pub states : MuteStatesAreWorked
  pub turns : SilentTurnsAreWorked
