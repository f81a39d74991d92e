-- Facts that are worked by hand, with what each refuses.
use Rattle.std.specs.Prelude.{◌≡◌, ℕ, true, List, [], ◌∷◌}
use Rattle.song_model.specs.declared.orders.Subtune.{Subtune}
use Rattle.song_model.specs.declared.songs.Song.{Song}
use Rattle.song_model.specs.Silence.{empty_song}
use Rattle.song_model.specs.declared.instruments.Instrument.{Instrument}
use Rattle.play_model.specs.WorkedSongs.{subtune, row, sides, plucked, one_note, with_rows, with_instrument}
use Rattle.song_facts.specs.declared.facts.Fact.TheVariants.{RowTone, RowSlide, RowOnce, FirstMask, Legato, NoHardRestart}
use Rattle.song_facts.specs.declared.facts.Fact.TheVariants.{WaveDelay, GateNote, NoteVibrato}
use Rattle.song_facts.specs.declared.facts.Fact.TheVariants.{VibratoDelay, NotePulse, NoteFilter}
use Rattle.song_facts.specs.declared.facts.Fact.TheVariants.{VoiceTempo, CommonTempo, FunkTurns, FunkChoice}
use Rattle.song_facts.specs.declared.facts.Fact.TheVariants.{OwnTimer, OwnWave, Subtunes, VoiceTwo, VoiceThree, FirstHolds}
use Rattle.song_facts.specs.declared.hold.Hold.TheVariants.{Nothing, Envelope, Gate}
use Rattle.song_facts.specs.Hold.{held_by, HoldsMore}
use Rattle.song_facts.specs.Facts.{IsTone, IsSlide, IsOnce, IsGateNote, IsMask, IsLegato, KeepsEnvelope, IsDelay}
use Rattle.song_facts.specs.Facts.{HasVibrato, HasVibratoDelay, HasPulse, HasFilter, DifferInTimer, DifferInWave}
use Rattle.song_facts.specs.Facts.{IsVoiceTempo, IsCommonTempo, IsFunkTurns, IsFunkChoice, IsHeard}
use Rattle.song_facts.specs.Facts.{HasFact, AreFacts, AddsNoFact, no_facts}

-- each kind of row at its edges
pub record RowsAreTold : Type 0 where
  pub tone : IsTone (row 0x90 1 3 0)
  pub no_tone : ¬ IsTone (row 0x90 1 4 0)
  pub slide : IsSlide (row 0x90 1 1 0)
  pub last_slide : IsSlide (row 0x90 1 4 0)
  pub no_command : ¬ IsSlide (row 0x90 1 0 5)
  pub no_slide : ¬ IsSlide (row 0x90 1 5 0)
  pub once : IsOnce (row 0x90 1 5 0)
  pub not_once : ¬ IsOnce (row 0x90 1 4 0)
  pub key_off : IsGateNote (row 0xBE 0 0 0)
  pub key_on : IsGateNote (row 0xBF 0 0 0)
  pub rest : ¬ IsGateNote (row 0xBD 0 0 0)
  pub first_note : IsHeard (row 0x60 0 0 0)
  pub last_note : IsHeard (row 0xBC 0 0 0)
  pub command : IsHeard (row 0xBD 0 1 0)
  pub heard_no_rest : ¬ IsHeard (row 0xBD 1 0 5)
  pub heard_no_key : ¬ IsHeard (row 0xBE 1 0 0)
  pub voice_tempo : IsVoiceTempo (row 0x90 1 0xF 0x80)
  pub no_voice_tempo : ¬ IsVoiceTempo (row 0x90 1 0xF 0x7F)
  pub other_voice_tempo : ¬ IsVoiceTempo (row 0x90 1 0xE 0x80)
  pub common_tempo : IsCommonTempo (row 0x90 1 0xF 3)
  pub last_common_tempo : IsCommonTempo (row 0x90 1 0xF 0x7F)
  pub no_common_tempo : ¬ IsCommonTempo (row 0x90 1 0xF 2)
  pub beyond_common_tempo : ¬ IsCommonTempo (row 0x90 1 0xF 0x80)
  pub other_common_tempo : ¬ IsCommonTempo (row 0x90 1 0xE 3)
  pub turns : IsFunkTurns (row 0x90 1 0xF 1)
  pub no_turns : ¬ IsFunkTurns (row 0x90 1 0xF 2)
  pub other_turns : ¬ IsFunkTurns (row 0x90 1 0xE 1)
  pub choice : IsFunkChoice (row 0x90 1 0xE 1)
  pub no_choice : ¬ IsFunkChoice (row 0x90 1 0xF 1)
  pub delay : IsDelay (sides 0x0F 0)
  pub no_delay : ¬ IsDelay (sides 0x10 0)

-- and of instrument
pub record InstrumentsAreTold : Type 0 where
  pub nothing : IsMask (record plucked { first_wave = 0 })
  pub mask : IsMask (record plucked { first_wave = 0xFE })
  pub waveform : ¬ IsMask (record plucked { first_wave = 0xFD })
  pub legato : IsLegato (record plucked { gate_timer = 0x42 })
  pub both : IsLegato (record plucked { gate_timer = 0xC2 })
  pub no_legato : ¬ IsLegato (record plucked { gate_timer = 0xBF })
  pub soft : KeepsEnvelope (record plucked { gate_timer = 0x82 })
  pub not_soft : ¬ KeepsEnvelope (record plucked { gate_timer = 0xC2 })
  pub hard : ¬ KeepsEnvelope (record plucked { gate_timer = 0x3F })
  pub vibrato : HasVibrato (record plucked { vibrato = 1 })
  pub no_vibrato : ¬ HasVibrato (record plucked { vibrato = 0; vibrato_delay = 1 })
  pub delayed : HasVibratoDelay (record plucked { vibrato_delay = 1 })
  pub not_delayed : ¬ HasVibratoDelay (record plucked { vibrato = 1; vibrato_delay = 0 })
  pub pulse : HasPulse (record plucked { pulse = 1; filter = 0 })
  pub no_pulse : ¬ HasPulse (record plucked { pulse = 0; filter = 1 })
  pub filter : HasFilter (record plucked { pulse = 0; filter = 1 })
  pub no_filter : ¬ HasFilter (record plucked { pulse = 1; filter = 0 })
  pub timers : DifferInTimer (record plucked { gate_timer = 2 }) (record plucked { gate_timer = 3 })
  pub same_timer : ¬ DifferInTimer (record plucked { gate_timer = 0x02 }) (record plucked { gate_timer = 0xC2 })
  pub waves : DifferInWave (record plucked { first_wave = 9 }) (record plucked { first_wave = 8 })
  pub same_wave : ¬ DifferInWave (record plucked { gate_timer = 2 }) (record plucked { gate_timer = 3 })

-- what gateoff timers hold, and which of two instruments holds more
pub record HoldsAreTold : Type 0 where
  pub nothing : held_by 0x3F ≡ Nothing
  pub envelope : held_by 0x80 ≡ Envelope
  pub gate : held_by 0x40 ≡ Gate
  pub both : held_by 0xC2 ≡ Gate
  pub gate_most : HoldsMore (record plucked { gate_timer = 0x40 }) (record plucked { gate_timer = 0xBF })
  pub envelope_more : HoldsMore (record plucked { gate_timer = 0x80 }) (record plucked { gate_timer = 0x3F })
  pub no_less : ¬ HoldsMore (record plucked { gate_timer = 0xBF }) (record plucked { gate_timer = 0x40 })
  pub as_much : ¬ HoldsMore (record plucked { gate_timer = 0xC2 }) (record plucked { gate_timer = 0x42 })

-- the song whose first pattern is a row with this note and command
abbrev pub song_of : ℕ → ℕ → Song
song_of note command = with_rows (row note 1 command 0 ∷ []) one_note

-- and with command $F and this parameter
abbrev pub tempo_of : ℕ → Song
tempo_of param = with_rows (row 0x90 1 0xF param ∷ []) one_note

-- the song of one note with another first row of its wave table
abbrev pub wave_of : ℕ → Song
wave_of left = record one_note { wave = sides left 0 ∷ sides 0xFF 0 ∷ [] }

-- a song of one note by instrument 2, with these two instruments
abbrev pub two_of : Instrument → Instrument → Song
two_of one other = record (with_rows (row 0x90 2 0 0 ∷ []) one_note) { instruments = one ∷ other ∷ [] }

-- where they have these gateoff timers
abbrev pub holding : ℕ → ℕ → Song
holding one other = two_of (record plucked { gate_timer = one }) (record plucked { gate_timer = other })

-- the song of one note with its subtune and these behind it
abbrev pub subtunes_of : List Subtune → Song
subtunes_of others = record one_note { subtunes = subtune (0 ∷ []) (1 ∷ []) (1 ∷ []) ∷ others }

-- the song of one note, in pattern 0, and of a rest, in pattern 1, with these orderlists of its channels
abbrev pub channels_of : List ℕ → List ℕ → List ℕ → Song
channels_of one two three = record one_note { subtunes = subtune one two three ∷ [] }

-- A song has a fact where something that it uses is such. A pattern that no orderlist names, an instrument that no row
-- names and a row of the wave table that no program comes to give it none. Nor does a subtune that can't be played, for
-- one of its orderlists is empty. A channel has something to play where its own orderlists name the note.
pub record SongsAreTold : Type 0 where
  pub tone : HasFact (song_of 0x90 3) RowTone
  pub slide : HasFact (song_of 0x90 4) RowSlide
  pub once : HasFact (song_of 0x90 0xF) RowOnce
  pub gate : HasFact one_note GateNote
  pub mask : HasFact (with_instrument (record plucked { first_wave = 0xFF }) one_note) FirstMask
  pub legato : HasFact (with_instrument (record plucked { gate_timer = 0x42 }) one_note) Legato
  pub soft : HasFact (with_instrument (record plucked { gate_timer = 0x82 }) one_note) NoHardRestart
  pub delay : HasFact (wave_of 0x0F) WaveDelay
  pub vibrato : HasFact (with_instrument (record plucked { vibrato = 1 }) one_note) NoteVibrato
  pub late : HasFact (with_instrument (record plucked { vibrato_delay = 1 }) one_note) VibratoDelay
  pub pulse : HasFact (with_instrument (record plucked { pulse = 1 }) one_note) NotePulse
  pub filter : HasFact (with_instrument (record plucked { filter = 1 }) one_note) NoteFilter
  pub voice_tempo : HasFact (tempo_of 0x86) VoiceTempo
  pub common_tempo : HasFact (tempo_of 6) CommonTempo
  pub turns : HasFact (tempo_of 0) FunkTurns
  pub choice : HasFact (song_of 0x90 0xE) FunkChoice
  pub timers : HasFact (two_of plucked (record plucked { gate_timer = 3 })) OwnTimer
  pub waves : HasFact (two_of plucked (record plucked { first_wave = 0x41 })) OwnWave
  pub subtunes : HasFact (subtunes_of (subtune (1 ∷ []) (0 ∷ []) (1 ∷ []) ∷ [])) Subtunes
  pub two : HasFact (channels_of (1 ∷ []) (1 ∷ 0 ∷ []) (1 ∷ [])) VoiceTwo
  pub three : HasFact (channels_of (1 ∷ []) (1 ∷ []) (0 ∷ [])) VoiceThree
  pub first_holds : HasFact (holding 0x42 0x82) FirstHolds
  pub not_played : ¬ HasFact (record empty_song { patterns = (row 0xBE 0 3 0 ∷ []) ∷ [] }) GateNote
  pub not_named : ¬ HasFact (record empty_song { instruments = plucked ∷ record plucked { first_wave = 0 } ∷ [] }) FirstMask
  pub not_reached : ¬ HasFact (record empty_song { wave = sides 0x0F 0 ∷ [] }) WaveDelay
  pub timer_not_named : ¬ HasFact (record empty_song { instruments = plucked ∷ record plucked { gate_timer = 3 } ∷ [] }) OwnTimer
  pub wave_not_named : ¬ HasFact (record empty_song { instruments = plucked ∷ record plucked { first_wave = 0 } ∷ [] }) OwnWave
  pub one_subtune : ¬ HasFact (subtunes_of []) Subtunes
  pub one_playable : ¬ HasFact (subtunes_of (subtune (1 ∷ []) (0 ∷ []) [] ∷ [])) Subtunes
  pub not_two : ¬ HasFact (channels_of (0 ∷ []) (1 ∷ []) (0 ∷ [])) VoiceTwo
  pub not_three : ¬ HasFact (channels_of (0 ∷ []) (0 ∷ []) (1 ∷ [])) VoiceThree
  pub holds_less : ¬ HasFact (holding 0x82 0x42) FirstHolds
  pub holds_not_named :
      ¬ HasFact (record empty_song { instruments = record plucked { gate_timer = 0x42 } ∷ plucked ∷ [] }) FirstHolds
  pub two_not_playable : ¬ HasFact (subtunes_of (subtune (1 ∷ []) (0 ∷ []) [] ∷ [])) VoiceTwo

-- A song that uses nothing begins with an instrument that isn't stored, whose first waveform is 0: that one fact is its
-- own, and it has neither none, nor another, nor one more. A song adds a fact to another where that hasn't it.
pub record SetsAreTold : Type 0 where
  pub empty : AreFacts empty_song (record no_facts { first_mask = true })
  pub none : ¬ AreFacts empty_song no_facts
  pub another : ¬ AreFacts empty_song (record no_facts { legato = true })
  pub more : ¬ AreFacts empty_song (record no_facts { first_mask = true; gate_note = true })
  pub itself : AddsNoFact empty_song empty_song
  pub adds : ¬ AddsNoFact empty_song one_note
