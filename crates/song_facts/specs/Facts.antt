-- Facts of a song: what of all that it uses has a kind that a player may do without where there is none, in what two
-- of its instruments differ, whether it has several subtunes, which of its channels have something to play, and
-- whether its first instrument holds more before a note than another. This is this project's profile of the
-- GoatTracker 2 readme's rows, instruments, wave table, subtunes and channels.
use Rattle.std.specs.Prelude.{◌≡◌, ◌≢◌, ℕ, ◌%◌, ◌<◌, ◌≤◌, ◌⊎◌, ◌↔◌, Bool, true, false, bit_and, length}
use Rattle.std.specs.Prelude.{Contains}
use Rattle.song_model.specs.declared.rows.Row.{Row}
use Rattle.song_model.specs.declared.instruments.Instrument.{Instrument}
use Rattle.song_model.specs.declared.orders.Subtune.{Subtune}
use Rattle.song_model.specs.declared.tables.TableRow.{TableRow}
use Rattle.song_model.specs.declared.tables.TableName.TheVariants.{Wave}
use Rattle.song_model.specs.declared.songs.Song.{Song}
use Rattle.song_model.specs.LookUp.{table_row, pattern_at, order_of, instrument_at, playable_subtunes}
use Rattle.song_model.specs.Endless.{IsPatternByte}
use Rattle.play_model.specs.Used.{IsUsedRow, IsUsedInstrument}
use Rattle.play_model.specs.Reached.{IsReached}
use Rattle.song_facts.specs.declared.facts.Fact.{Fact}
use Rattle.song_facts.specs.declared.facts.Facts.{Facts}
use Rattle.song_facts.specs.declared.facts.Fact.TheVariants.{RowTone, RowSlide, RowOnce, FirstMask, Legato, NoHardRestart}
use Rattle.song_facts.specs.declared.facts.Fact.TheVariants.{WaveDelay, GateNote, NoteVibrato}
use Rattle.song_facts.specs.declared.facts.Fact.TheVariants.{VibratoDelay, NotePulse, NoteFilter}
use Rattle.song_facts.specs.declared.facts.Fact.TheVariants.{VoiceTempo, CommonTempo, FunkTurns, FunkChoice}
use Rattle.song_facts.specs.declared.facts.Fact.TheVariants.{OwnTimer, OwnWave, Subtunes, VoiceTwo, VoiceThree, FirstHolds}
use Rattle.song_facts.specs.Hold.{HoldsMore}

-- the number of a fact
abbrev pub number_of : Fact → ℕ
number_of RowTone = 0
number_of RowSlide = 1
number_of RowOnce = 2
number_of FirstMask = 3
number_of Legato = 4
number_of NoHardRestart = 5
number_of WaveDelay = 6
number_of GateNote = 7
number_of NoteVibrato = 8
number_of VibratoDelay = 9
number_of NotePulse = 10
number_of NoteFilter = 11
number_of VoiceTempo = 12
number_of CommonTempo = 13
number_of FunkTurns = 14
number_of FunkChoice = 15
number_of OwnTimer = 16
number_of OwnWave = 17
number_of Subtunes = 18
number_of VoiceTwo = 19
number_of VoiceThree = 20
number_of FirstHolds = 21

-- ---- rows of patterns

-- command 3 slides to the row's note
abbrev pub IsTone : Row → Type 0
IsTone row = row.command ≡ 3

-- commands 1 to 4 run from their row on
abbrev pub IsSlide : Row → Type 0
IsSlide row = (1 ≤ row.command) × (row.command ≤ 4)

-- those from 5 on are done once
abbrev pub IsOnce : Row → Type 0
IsOnce row = 5 ≤ row.command

-- command $F sets the tempo of its own voice from $80 on, and with 3 to $7F that of all voices; with 0 and 1 these take
-- turns between two tempos
abbrev pub IsVoiceTempo : Row → Type 0
IsVoiceTempo row = (row.command ≡ 0xF) × (0x80 ≤ row.param)

abbrev pub IsCommonTempo : Row → Type 0
IsCommonTempo row = (row.command ≡ 0xF) × ((3 ≤ row.param) × (row.param < 0x80))

abbrev pub IsFunkTurns : Row → Type 0
IsFunkTurns row = (row.command ≡ 0xF) × (row.param < 2)

-- command $E has all voices take turns between two tempos, which a row of the speed table gives
abbrev pub IsFunkChoice : Row → Type 0
IsFunkChoice row = row.command ≡ 0xE

-- $BE is keyoff, $BF keyon
abbrev pub IsGateNote : Row → Type 0
IsGateNote row = (row.note ≡ 0xBE) ⊎ (row.note ≡ 0xBF)

-- a note is $60 to $BC; a row with one, or with a command, is one that its voice has to play
abbrev pub IsHeard : Row → Type 0
IsHeard row = ((0x60 ≤ row.note) × (row.note ≤ 0xBC)) ⊎ (row.command ≢ 0)

-- ---- instruments

-- the first frame's waveform: $FE and $FF are masks, and 0 changes nothing
abbrev pub IsMask : Instrument → Type 0
IsMask i = (i.first_wave ≡ 0) ⊎ (0xFE ≤ i.first_wave)

-- bit $40 of the gateoff timer keeps the gate before a note
abbrev pub IsLegato : Instrument → Type 0
IsLegato i = bit_and i.gate_timer 0x40 ≢ 0

-- where the gate goes off, bit $80 keeps the envelope
abbrev pub KeepsEnvelope : Instrument → Type 0
KeepsEnvelope i = (bit_and i.gate_timer 0x40 ≡ 0) × (bit_and i.gate_timer 0x80 ≢ 0)

-- the vibrato that its notes begin, and the delay of it
abbrev pub HasVibrato : Instrument → Type 0
HasVibrato i = i.vibrato ≢ 0

abbrev pub HasVibratoDelay : Instrument → Type 0
HasVibratoDelay i = i.vibrato_delay ≢ 0

-- the programs that its notes begin
abbrev pub HasPulse : Instrument → Type 0
HasPulse i = i.pulse ≢ 0

abbrev pub HasFilter : Instrument → Type 0
HasFilter i = i.filter ≢ 0

-- ---- two instruments

-- the low six bits of a gateoff timer are the frames from a row's fetch to its tick 0
abbrev pub timer_of : Instrument → ℕ
timer_of i = i.gate_timer % 64

-- two differ in it
abbrev pub DifferInTimer : Instrument → Instrument → Type 0
DifferInTimer one other = timer_of one ≢ timer_of other

-- or in the first frame's waveform
abbrev pub DifferInWave : Instrument → Instrument → Type 0
DifferInWave one other = one.first_wave ≢ other.first_wave

-- ---- rows of the wave table

-- a left side below $10 is a delay
abbrev pub IsDelay : TableRow → Type 0
IsDelay row = row.left < 0x10

-- ---- what gives a song a fact

-- a row of a pattern
abbrev pub IsOfRow : Fact → Row → Type 0
IsOfRow RowTone = IsTone
IsOfRow RowSlide = IsSlide
IsOfRow RowOnce = IsOnce
IsOfRow FirstMask = λ row. ⊥
IsOfRow Legato = λ row. ⊥
IsOfRow NoHardRestart = λ row. ⊥
IsOfRow WaveDelay = λ row. ⊥
IsOfRow GateNote = IsGateNote
IsOfRow NoteVibrato = λ row. ⊥
IsOfRow VibratoDelay = λ row. ⊥
IsOfRow NotePulse = λ row. ⊥
IsOfRow NoteFilter = λ row. ⊥
IsOfRow VoiceTempo = IsVoiceTempo
IsOfRow CommonTempo = IsCommonTempo
IsOfRow FunkTurns = IsFunkTurns
IsOfRow FunkChoice = IsFunkChoice
IsOfRow OwnTimer = λ row. ⊥
IsOfRow OwnWave = λ row. ⊥
IsOfRow Subtunes = λ row. ⊥
IsOfRow VoiceTwo = λ row. ⊥
IsOfRow VoiceThree = λ row. ⊥
IsOfRow FirstHolds = λ row. ⊥

-- an instrument
abbrev pub IsOfInstrument : Fact → Instrument → Type 0
IsOfInstrument RowTone = λ i. ⊥
IsOfInstrument RowSlide = λ i. ⊥
IsOfInstrument RowOnce = λ i. ⊥
IsOfInstrument FirstMask = IsMask
IsOfInstrument Legato = IsLegato
IsOfInstrument NoHardRestart = KeepsEnvelope
IsOfInstrument WaveDelay = λ i. ⊥
IsOfInstrument GateNote = λ i. ⊥
IsOfInstrument NoteVibrato = HasVibrato
IsOfInstrument VibratoDelay = HasVibratoDelay
IsOfInstrument NotePulse = HasPulse
IsOfInstrument NoteFilter = HasFilter
IsOfInstrument VoiceTempo = λ i. ⊥
IsOfInstrument CommonTempo = λ i. ⊥
IsOfInstrument FunkTurns = λ i. ⊥
IsOfInstrument FunkChoice = λ i. ⊥
IsOfInstrument OwnTimer = λ i. ⊥
IsOfInstrument OwnWave = λ i. ⊥
IsOfInstrument Subtunes = λ i. ⊥
IsOfInstrument VoiceTwo = λ i. ⊥
IsOfInstrument VoiceThree = λ i. ⊥
IsOfInstrument FirstHolds = λ i. ⊥

-- two instruments
abbrev pub IsOfPair : Fact → Instrument → Instrument → Type 0
IsOfPair RowTone = λ one other. ⊥
IsOfPair RowSlide = λ one other. ⊥
IsOfPair RowOnce = λ one other. ⊥
IsOfPair FirstMask = λ one other. ⊥
IsOfPair Legato = λ one other. ⊥
IsOfPair NoHardRestart = λ one other. ⊥
IsOfPair WaveDelay = λ one other. ⊥
IsOfPair GateNote = λ one other. ⊥
IsOfPair NoteVibrato = λ one other. ⊥
IsOfPair VibratoDelay = λ one other. ⊥
IsOfPair NotePulse = λ one other. ⊥
IsOfPair NoteFilter = λ one other. ⊥
IsOfPair VoiceTempo = λ one other. ⊥
IsOfPair CommonTempo = λ one other. ⊥
IsOfPair FunkTurns = λ one other. ⊥
IsOfPair FunkChoice = λ one other. ⊥
IsOfPair OwnTimer = DifferInTimer
IsOfPair OwnWave = DifferInWave
IsOfPair Subtunes = λ one other. ⊥
IsOfPair VoiceTwo = λ one other. ⊥
IsOfPair VoiceThree = λ one other. ⊥
IsOfPair FirstHolds = λ one other. ⊥

-- a row of the wave table
abbrev pub IsOfWaveRow : Fact → TableRow → Type 0
IsOfWaveRow RowTone = λ row. ⊥
IsOfWaveRow RowSlide = λ row. ⊥
IsOfWaveRow RowOnce = λ row. ⊥
IsOfWaveRow FirstMask = λ row. ⊥
IsOfWaveRow Legato = λ row. ⊥
IsOfWaveRow NoHardRestart = λ row. ⊥
IsOfWaveRow WaveDelay = IsDelay
IsOfWaveRow GateNote = λ row. ⊥
IsOfWaveRow NoteVibrato = λ row. ⊥
IsOfWaveRow VibratoDelay = λ row. ⊥
IsOfWaveRow NotePulse = λ row. ⊥
IsOfWaveRow NoteFilter = λ row. ⊥
IsOfWaveRow VoiceTempo = λ row. ⊥
IsOfWaveRow CommonTempo = λ row. ⊥
IsOfWaveRow FunkTurns = λ row. ⊥
IsOfWaveRow FunkChoice = λ row. ⊥
IsOfWaveRow OwnTimer = λ row. ⊥
IsOfWaveRow OwnWave = λ row. ⊥
IsOfWaveRow Subtunes = λ row. ⊥
IsOfWaveRow VoiceTwo = λ row. ⊥
IsOfWaveRow VoiceThree = λ row. ⊥
IsOfWaveRow FirstHolds = λ row. ⊥

-- ---- songs

-- a row of a used pattern is such
pub record HasSuchRow (song : Song) (IsSuch : Row → Type 0) : Type 0 where
  pub row : Row
  pub used : IsUsedRow song row
  pub is_such : IsSuch row

-- a row of a pattern that an orderlist of this channel names is such, in a subtune that can be played
pub record HasChannelRow (song : Song) (channel : ℕ) (IsSuch : Row → Type 0) : Type 0 where
  pub subtune : Subtune
  pub playable : Contains (playable_subtunes song) subtune
  pub pattern : ℕ
  pub entry : Contains (order_of channel subtune).entries pattern
  pub is_pattern : IsPatternByte pattern
  pub row : Row
  pub has : Contains (pattern_at song pattern) row
  pub is_such : IsSuch row

-- a used instrument is such; each voice begins with instrument 1, stored or not
pub record HasSuchInstrument (song : Song) (IsSuch : Instrument → Type 0) : Type 0 where
  pub instrument : ℕ
  pub used : IsUsedInstrument song instrument
  pub is_such : IsSuch (instrument_at song instrument)

-- two used instruments differ in such a way
pub record HasSuchPair (song : Song) (Differ : Instrument → Instrument → Type 0) : Type 0 where
  pub one : ℕ
  pub other : ℕ
  pub one_used : IsUsedInstrument song one
  pub other_used : IsUsedInstrument song other
  pub differ : Differ (instrument_at song one) (instrument_at song other)

-- a row of the wave table that programs come to is such
pub record HasSuchWaveRow (song : Song) (IsSuch : TableRow → Type 0) : Type 0 where
  pub p : ℕ
  pub reached : IsReached song Wave p
  pub is_such : IsSuch (table_row song Wave p)

-- two subtunes, or more, can be played: none of their orderlists is empty
abbrev pub HasSubtunes : Song → Type 0
HasSubtunes song = 1 < length (playable_subtunes song)

-- the song has the fact exactly where this holds
abbrev pub HasFact : Song → Fact → Type 0
HasFact song RowTone = HasSuchRow song IsTone
HasFact song RowSlide = HasSuchRow song IsSlide
HasFact song RowOnce = HasSuchRow song IsOnce
HasFact song FirstMask = HasSuchInstrument song IsMask
HasFact song Legato = HasSuchInstrument song IsLegato
HasFact song NoHardRestart = HasSuchInstrument song KeepsEnvelope
HasFact song WaveDelay = HasSuchWaveRow song IsDelay
HasFact song GateNote = HasSuchRow song IsGateNote
HasFact song NoteVibrato = HasSuchInstrument song HasVibrato
HasFact song VibratoDelay = HasSuchInstrument song HasVibratoDelay
HasFact song NotePulse = HasSuchInstrument song HasPulse
HasFact song NoteFilter = HasSuchInstrument song HasFilter
HasFact song VoiceTempo = HasSuchRow song IsVoiceTempo
HasFact song CommonTempo = HasSuchRow song IsCommonTempo
HasFact song FunkTurns = HasSuchRow song IsFunkTurns
HasFact song FunkChoice = HasSuchRow song IsFunkChoice
HasFact song OwnTimer = HasSuchPair song DifferInTimer
HasFact song OwnWave = HasSuchPair song DifferInWave
HasFact song Subtunes = HasSubtunes song
HasFact song VoiceTwo = HasChannelRow song 2 IsHeard
HasFact song VoiceThree = HasChannelRow song 3 IsHeard
HasFact song FirstHolds = HasSuchInstrument song (λ i. HoldsMore (instrument_at song 1) i)

-- whether a fact is among these
abbrev pub is_among : Facts → Fact → Bool
is_among facts RowTone = facts.row_tone
is_among facts RowSlide = facts.row_slide
is_among facts RowOnce = facts.row_once
is_among facts FirstMask = facts.first_mask
is_among facts Legato = facts.legato
is_among facts NoHardRestart = facts.no_hard_restart
is_among facts WaveDelay = facts.wave_delay
is_among facts GateNote = facts.gate_note
is_among facts NoteVibrato = facts.note_vibrato
is_among facts VibratoDelay = facts.vibrato_delay
is_among facts NotePulse = facts.note_pulse
is_among facts NoteFilter = facts.note_filter
is_among facts VoiceTempo = facts.voice_tempo
is_among facts CommonTempo = facts.common_tempo
is_among facts FunkTurns = facts.funk_turns
is_among facts FunkChoice = facts.funk_choice
is_among facts OwnTimer = facts.own_timer
is_among facts OwnWave = facts.own_wave
is_among facts Subtunes = facts.subtunes
is_among facts VoiceTwo = facts.voice_two
is_among facts VoiceThree = facts.voice_three
is_among facts FirstHolds = facts.first_holds

-- these are the song's facts: those that it has, and no others
pub record AreFacts (song : Song) (facts : Facts) : Type 0 where
  pub each : (fact : Fact) → (is_among facts fact ≡ true) ↔ HasFact song fact

-- the other song has no fact that the song hasn't
abbrev pub AddsNoFact : Song → Song → Type 0
AddsNoFact song other = (fact : Fact) → HasFact other fact → HasFact song fact

-- of a song that has none
abbrev pub no_facts : Facts
no_facts = record {
  row_tone = false;
  row_slide = false;
  row_once = false;
  first_mask = false;
  legato = false;
  no_hard_restart = false;
  wave_delay = false;
  gate_note = false;
  note_vibrato = false;
  vibrato_delay = false;
  note_pulse = false;
  note_filter = false;
  voice_tempo = false;
  common_tempo = false;
  funk_turns = false;
  funk_choice = false;
  own_timer = false;
  own_wave = false;
  subtunes = false;
  voice_two = false;
  voice_three = false;
  first_holds = false;
}

-- of one that has all
abbrev pub all_facts : Facts
all_facts = record {
  row_tone = true;
  row_slide = true;
  row_once = true;
  first_mask = true;
  legato = true;
  no_hard_restart = true;
  wave_delay = true;
  gate_note = true;
  note_vibrato = true;
  vibrato_delay = true;
  note_pulse = true;
  note_filter = true;
  voice_tempo = true;
  common_tempo = true;
  funk_turns = true;
  funk_choice = true;
  own_timer = true;
  own_wave = true;
  subtunes = true;
  voice_two = true;
  voice_three = true;
  first_holds = true;
}
