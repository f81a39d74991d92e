-- Costs of small songs, worked out by hand.
use Rattle.std.specs.Prelude.{◌≡◌, ◌≢◌, ℕ, ◌+◌, ◌^◌, Bool, true, List, [], ◌∷◌}
use Rattle.song_model.specs.declared.orders.Subtune.{Subtune}
use Rattle.song_model.specs.declared.tables.TableName.{TableName}
use Rattle.song_model.specs.declared.tables.TableName.TheVariants.{Wave, Pulse, Filter, Speed}
use Rattle.song_model.specs.declared.songs.Song.{Song}
use Rattle.song_model.specs.declared.features.Feature.TheVariants.{Transpose, PortaUp, Vibrato, InstrumentVibrato}
use Rattle.song_model.specs.declared.features.Feature.TheVariants.{NoteDependent, PulseTable, FilterTable, WaveTable}
use Rattle.song_model.specs.declared.features.Feature.TheVariants.{WaveCommand}
use Rattle.song_model.specs.Feature.{bit_of}
use Rattle.play_model.specs.declared.options.Options.{Options}
use Rattle.play_model.specs.State.{no_options}
use Rattle.play_model.specs.WorkedRuns.{left_out, first_left_out, all_left_out}
use Rattle.play_model.specs.WorkedSongs.{order, subtune, one_note, plucked, sides}
use Rattle.asked_numbers.specs.declared.range.NumberRange.{NumberRange}
use Rattle.packing_rules.specs.UsedSets.{UsedSets}
use Rattle.packing_rules.specs.WorkedSizes.{among, note_sets, two_rests}
use Rattle.song_facts.specs.declared.facts.Facts.{Facts}
use Rattle.song_facts.specs.Facts.{no_facts}
use Rattle.player_memory.specs.declared.conditions.TheConstants.{CLIMB, DROP, RISE, ROW_SLIDE, FIRST_MASK, LEGATO}
use Rattle.player_memory.specs.declared.conditions.TheConstants.{GATE_NOTE, NOTE_PULSE, NOTE_FILTER, OWN_TIMER}
use Rattle.player_memory.specs.declared.conditions.TheConstants.{OWN_WAVE, SUBTUNES, ROW_COMMAND}
use Rattle.player_memory.specs.declared.conditions.TheConstants.{SPECIAL_ROW, HELD_NOTE}
use Rattle.player_memory.specs.declared.conditions.TheConstants.{EFFECTS, FILTER_USED}
use Rattle.kept_lines.specs.Asked.{asked}
use Rattle.song_costs.specs.declared.costs.Costs.{Costs}
use Rattle.song_places.specs.declared.places.Place.TheVariants.{InOrder, InPattern, InInstrument, InWaveTable}
use Rattle.song_costs.specs.declared.kept.Cause.{Cause}
use Rattle.song_costs.specs.declared.kept.Cause.TheVariants.{InSong, SkipOption, SpeedOption}
use Rattle.song_costs.specs.declared.kept.PartCost.{PartCost}
use Rattle.song_costs.specs.Kinds.{costs_of, data_bytes, all_bytes}
use Rattle.song_costs.specs.Kept.{IsPartCost, AreKeptParts}
use Rattle.song_places.specs.WorkedPlaces.{crossing, several}

-- ---- kinds

-- a song of one note has a wave and a pulse program, which its instrument begins, and a keyoff
abbrev pub note_features : ℕ
note_features = 2 ^ bit_of PulseTable + 2 ^ bit_of WaveTable

abbrev pub note_facts : Facts
note_facts = record no_facts { gate_note = true; note_pulse = true }

-- the note sounds as number 48
abbrev pub note_range : NumberRange
note_range = record { first = 48; count = 1 }

abbrev pub note_costs : Costs
note_costs = costs_of one_note (note_sets (0 ∷ 1 ∷ [])) (asked note_features note_facts) note_range no_options

-- three orderlists of one entry, whose addresses stand in no list, the patterns 01 90 BE 00 and C0 00, one instrument,
-- of which neither a filter program nor a vibrato is read, and whose gateoff timer and first waveform stand for all,
-- two rows in each of two tables; 475 bytes of the player that each image has, 90 and 45 for a pulse and a wave
-- program, 12 for a keyoff, and 13 for an instrument that begins a pulse program; and the frequency of number 48, with
-- 35 bytes and a gap of thirteen in front of it
pub record NoteIsWorked : Type 0 where
  pub each : note_costs ≡ record {
    player = 635;
    orders = 9;
    patterns = 10;
    instruments = 6;
    wave = 4;
    pulse = 4;
    filter = 0;
    speed = 0;
    frequencies = 15;
  }
  pub bytes : data_bytes note_costs ≡ 48
  pub all : all_bytes note_costs ≡ 683
  -- without the zeros, and with the frequency of the song's number alone
  pub few : note_costs.player ≢ 633
  pub alone : note_costs.frequencies ≢ 2
  -- without the facts
  pub bare : (costs_of one_note (note_sets (0 ∷ 1 ∷ [])) note_features note_range no_options).player ≡ 610
  -- an equal pattern is stored once, and a note for each of three orderlists isn't
  pub once : (costs_of two_rests (note_sets (0 ∷ 1 ∷ 2 ∷ [])) (asked note_features note_facts) note_range no_options).patterns
      ≡ 10

-- the song of one note with its subtune and this one behind it
abbrev pub with_subtune : Subtune → Song
with_subtune other = record one_note { subtunes = subtune (0 ∷ []) (1 ∷ []) (1 ∷ []) ∷ other ∷ [] }

abbrev pub another : Subtune
another = subtune (1 ∷ 0 ∷ []) (1 ∷ []) (1 ∷ [])

abbrev pub orders_of : Song → Facts → ℕ
orders_of song facts =
    (costs_of song (note_sets (0 ∷ 1 ∷ [])) (asked note_features facts) note_range no_options).orders

-- an orderlist has its entries, its endmark and its restart position, and where there are several subtunes two bytes
-- for its address; the orderlists of a subtune that can't be played have none
pub record OrdersAreCounted : Type 0 where
  pub one : orders_of one_note note_facts ≡ 9
  pub two : orders_of (with_subtune another) (record note_facts { subtunes = true }) ≡ 31
  pub unplayable : orders_of (with_subtune (record another { three = order [] })) note_facts ≡ 9

-- where two instruments are used, these and no third one are counted: with three bytes each and two for both where no
-- instrument needs another, and with four each where one begins a pulse program; where the two differ in their gateoff
-- timers or their first waveforms with one more each and one less for both; where one holds the gate or the envelope
-- with one more for both; and where the first holds more the timer of each is read, and the one for both stands there,
-- too
abbrev pub two_used : Facts → Costs
two_used facts =
    costs_of one_note (record (note_sets (0 ∷ 1 ∷ [])) { instruments = among (1 ∷ 3 ∷ []) }) (asked note_features facts)
    note_range no_options

pub record InstrumentsAreCounted : Type 0 where
  pub few : (two_used no_facts).instruments ≡ 8
  pub pulse : (two_used note_facts).instruments ≡ 10
  pub timers : (two_used (record no_facts { own_timer = true })).instruments ≡ 9
  pub waves : (two_used (record no_facts { own_wave = true })).instruments ≡ 9
  pub both : (two_used (record no_facts { own_timer = true; own_wave = true })).instruments ≡ 10
  pub gate : (two_used (record no_facts { legato = true })).instruments ≡ 9
  pub envelope : (two_used (record no_facts { legato = true; no_hard_restart = true })).instruments ≡ 10
  pub first : (two_used (record no_facts { legato = true; first_holds = true })).instruments ≡ 10

-- a note of an instrument with two wave rows, three pulse rows, four filter rows and a vibrato
abbrev pub rich_note : Song
rich_note = record one_note {
  instruments = record plucked { filter = 1; vibrato = 1; vibrato_delay = 1 } ∷ [];
  pulse = sides 0x88 0 ∷ sides 0x20 0x10 ∷ sides 0xFF 2 ∷ [];
  filter = sides 0x90 0xF1 ∷ sides 0 0x20 ∷ sides 0x40 1 ∷ sides 0xFF 0 ∷ [];
  speed = sides 4 0x30 ∷ [];
}

-- a row of the speed table is come to where a pointer names it
abbrev pub rich_rows : TableName → ℕ → Bool
rich_rows Wave = among (1 ∷ 2 ∷ [])
rich_rows Pulse = among (1 ∷ 2 ∷ 3 ∷ [])
rich_rows Filter = among (1 ∷ 2 ∷ 3 ∷ 4 ∷ [])
rich_rows Speed = among (1 ∷ [])

abbrev pub rich_sets : UsedSets
rich_sets = record (note_sets (0 ∷ 1 ∷ [])) { reached = rich_rows; pointers = λ name. among (1 ∷ []) }

-- it has these features beside those of a note
abbrev pub rich_features : ℕ
rich_features = note_features + 2 ^ bit_of FilterTable + 2 ^ bit_of InstrumentVibrato

-- and each field of its instrument is read
abbrev pub rich_facts : Facts
rich_facts = record note_facts { note_filter = true; note_vibrato = true; vibrato_delay = true }

abbrev pub rich_costs : Costs
rich_costs = costs_of rich_note rich_sets (asked rich_features rich_facts) note_range no_options

-- the same where the vibrato's speed is calculated from the note
abbrev pub calculated_costs : Costs
calculated_costs =
    costs_of (record rich_note { speed = sides 0x84 2 ∷ [] }) rich_sets
    (asked (rich_features + 2 ^ bit_of NoteDependent) rich_facts) (record { first = 0; count = 50 }) no_options

-- two bytes for each row, in the kind of its own table, and for the one frequency, since 50 bytes stand in front of it;
-- and where speeds are calculated three more for the row of the speed table and for row 0, among those of the table and
-- not in the player, and two for each frequency up to that of number 49
pub record TablesAreCounted : Type 0 where
  pub instruments : rich_costs.instruments ≡ 9
  pub wave : rich_costs.wave ≡ 4
  pub pulse : rich_costs.pulse ≡ 6
  pub filter : rich_costs.filter ≡ 8
  pub speed : rich_costs.speed ≡ 2
  pub frequency : rich_costs.frequencies ≡ 2
  pub bytes : data_bytes rich_costs ≡ 50
  pub calculated : calculated_costs.speed ≡ 8
  pub frequencies : calculated_costs.frequencies ≡ 100
  pub with_slides : data_bytes calculated_costs ≡ 154

-- ---- parts

abbrev pub part_cost : ℕ → ℕ → Cause → PartCost
part_cost part bytes cause = record { part = part; bytes = bytes; cause = cause }

-- the song has transposes, portamentos, and commands in its wave table, and a filter program; and rows with a command
-- that runs, an instrument whose first waveform is 0 and one that begins the filter program, which has another gateoff
-- timer and another first waveform, a keyoff and a keyon; and each channel has something to play
abbrev pub crossing_features : ℕ
crossing_features =
    2 ^ bit_of Transpose + 2 ^ bit_of PortaUp + 2 ^ bit_of FilterTable + 2 ^ bit_of WaveTable + 2 ^ bit_of WaveCommand

abbrev pub crossing_facts : Facts
crossing_facts = record no_facts {
  row_slide = true;
  first_mask = true;
  gate_note = true;
  note_filter = true;
  own_timer = true;
  own_wave = true;
  voice_two = true;
  voice_three = true;
}

abbrev pub crossing_asked : ℕ
crossing_asked = asked crossing_features crossing_facts

-- of this song with such options
abbrev pub IsToldOf : Options → PartCost → Type 0
IsToldOf options = IsPartCost crossing crossing_asked options

-- a part is told with its first place, and so is one that several features have in common; a later one, one of an
-- instrument that isn't used, one of another kind and another number of bytes are not
pub record PartsAreWorked : Type 0 where
  pub transposes : IsToldOf no_options (part_cost 0 16 (InSong (InOrder 2 2 1)))
  pub later : ¬ IsToldOf no_options (part_cost 0 16 (InSong (InOrder 2 3 0)))
  pub longer : ¬ IsToldOf no_options (part_cost 0 17 (InSong (InOrder 2 2 1)))
  pub filters : IsToldOf no_options (part_cost 15 76 (InSong (InInstrument 3)))
  pub unused : ¬ IsToldOf no_options (part_cost 15 76 (InSong (InInstrument 2)))
  pub other_kind : ¬ IsToldOf no_options (part_cost 15 76 (InSong (InPattern 1 1)))
  pub climb : IsToldOf no_options (part_cost CLIMB 10 (InSong (InPattern 1 1)))
  pub later_climb : ¬ IsToldOf no_options (part_cost CLIMB 10 (InSong (InPattern 2 0)))
  pub no_drop : (bytes : ℕ) (cause : Cause) → ¬ IsToldOf no_options (part_cost DROP bytes cause)

-- and so is one of a fact, and one that facts and features have in common; what two instruments differ in is told with
-- the one that differs from instrument 1
pub record FactPartsAreWorked : Type 0 where
  pub slides : IsToldOf no_options (part_cost ROW_SLIDE 9 (InSong (InPattern 1 1)))
  pub later_slide : ¬ IsToldOf no_options (part_cost ROW_SLIDE 9 (InSong (InPattern 1 2)))
  pub masks : IsToldOf no_options (part_cost FIRST_MASK 6 (InSong (InInstrument 1)))
  pub later_mask : ¬ IsToldOf no_options (part_cost FIRST_MASK 6 (InSong (InInstrument 3)))
  pub gate_notes : IsToldOf no_options (part_cost GATE_NOTE 12 (InSong (InPattern 2 1)))
  pub unused : ¬ IsToldOf no_options (part_cost GATE_NOTE 12 (InSong (InPattern 0 1)))
  pub filters : IsToldOf no_options (part_cost NOTE_FILTER 13 (InSong (InInstrument 3)))
  pub unused_filter : ¬ IsToldOf no_options (part_cost NOTE_FILTER 13 (InSong (InInstrument 2)))
  pub no_pulse : (bytes : ℕ) (cause : Cause) → ¬ IsToldOf no_options (part_cost NOTE_PULSE bytes cause)
  pub timers : IsToldOf no_options (part_cost OWN_TIMER 14 (InSong (InInstrument 3)))
  pub first_timer : ¬ IsToldOf no_options (part_cost OWN_TIMER 14 (InSong (InInstrument 1)))
  pub unused_timer : ¬ IsToldOf no_options (part_cost OWN_TIMER 14 (InSong (InInstrument 2)))
  pub timers_skipped : IsToldOf (first_left_out 1) (part_cost OWN_TIMER 17 (InSong (InInstrument 3)))
  pub waves : IsToldOf no_options (part_cost OWN_WAVE 3 (InSong (InInstrument 3)))
  pub first_wave : ¬ IsToldOf no_options (part_cost OWN_WAVE 3 (InSong (InInstrument 1)))
  pub unused_wave : ¬ IsToldOf no_options (part_cost OWN_WAVE 3 (InSong (InInstrument 2)))
  pub commands : IsToldOf no_options (part_cost ROW_COMMAND 24 (InSong (InPattern 1 1)))
  pub special : IsToldOf no_options (part_cost SPECIAL_ROW 4 (InSong (InWaveTable 2)))
  pub effects : IsToldOf no_options (part_cost EFFECTS 28 (InSong (InPattern 1 1)))
  pub later_effect : ¬ IsToldOf no_options (part_cost EFFECTS 28 (InSong (InWaveTable 2)))
  pub filter_used : IsToldOf no_options (part_cost FILTER_USED 9 (InSong (InInstrument 3)))
  pub no_special : ¬ IsToldOf no_options (part_cost SPECIAL_ROW 4 (InSong (InWaveTable 3)))
  pub no_legato : (bytes : ℕ) (cause : Cause) → ¬ IsToldOf no_options (part_cost LEGATO bytes cause)
  pub no_held : (bytes : ℕ) (cause : Cause) → ¬ IsToldOf no_options (part_cost HELD_NOTE bytes cause)

-- of another song the second subtune and the fourth can be played; rows have a command that runs, the first waveform is
-- 0, and the wave table has a command
abbrev pub several_asked : ℕ
several_asked =
    asked (2 ^ bit_of PortaUp + 2 ^ bit_of WaveTable + 2 ^ bit_of WaveCommand)
    (record no_facts { row_slide = true; first_mask = true; subtunes = true })

-- what several subtunes cost is told with the first byte of the second one that can be played, and not where one alone
-- can be
pub record SubtunePartIsWorked : Type 0 where
  pub second : IsPartCost several several_asked no_options (part_cost SUBTUNES 20 (InSong (InOrder 4 1 0)))
  pub later : ¬ IsPartCost several several_asked no_options (part_cost SUBTUNES 20 (InSong (InOrder 4 2 0)))
  pub first : ¬ IsPartCost several several_asked no_options (part_cost SUBTUNES 20 (InSong (InOrder 2 1 0)))
  pub one_alone : (bytes : ℕ) (cause : Cause) → ¬ IsToldOf no_options (part_cost SUBTUNES bytes cause)

-- what is told of the song, in this order and no other
pub record ListIsWorked : Type 0 where
  pub all : AreKeptParts crossing crossing_asked no_options
      (part_cost 0 16 (InSong (InOrder 2 2 1)) ∷ part_cost 2 4 (InSong (InPattern 1 1))
      ∷ part_cost 15 76 (InSong (InInstrument 3)) ∷ part_cost 22 45 (InSong (InInstrument 1))
      ∷ part_cost 23 80 (InSong (InWaveTable 2)) ∷ part_cost CLIMB 10 (InSong (InPattern 1 1))
      ∷ part_cost RISE 17 (InSong (InPattern 1 1)) ∷ part_cost ROW_SLIDE 9 (InSong (InPattern 1 1))
      ∷ part_cost FIRST_MASK 6 (InSong (InInstrument 1)) ∷ part_cost GATE_NOTE 12 (InSong (InPattern 2 1))
      ∷ part_cost NOTE_FILTER 13 (InSong (InInstrument 3)) ∷ part_cost OWN_TIMER 14 (InSong (InInstrument 3))
      ∷ part_cost OWN_WAVE 3 (InSong (InInstrument 3))
      ∷ part_cost ROW_COMMAND 24 (InSong (InPattern 1 1)) ∷ part_cost SPECIAL_ROW 4 (InSong (InWaveTable 2))
      ∷ part_cost EFFECTS 28 (InSong (InPattern 1 1)) ∷ part_cost FILTER_USED 9 (InSong (InInstrument 3)) ∷ [])
  pub other_order : (rest : List PartCost) → ¬ AreKeptParts crossing crossing_asked no_options
      (part_cost 15 76 (InSong (InInstrument 3)) ∷ rest)

-- a part without bytes isn't told, as that of a vibrato, which has all its lines in common with others; nor is one that
-- isn't kept, whatever the cause; and an option's is told only where it is on
pub record OptionsAreWorked : Type 0 where
  pub no_bytes : (song : Song) (bytes : ℕ) (cause : Cause) →
      ¬ IsPartCost song (2 ^ bit_of Vibrato) no_options (part_cost 6 bytes cause)
  pub not_kept : (bytes : ℕ) (cause : Cause) → ¬ IsToldOf no_options (part_cost 13 bytes cause)
  pub skip : IsToldOf (all_left_out 4) (part_cost 24 8 SkipOption)
  pub first : IsToldOf (first_left_out 1) (part_cost 27 37 SkipOption)
  pub timer : IsToldOf (all_left_out 4) (part_cost 26 10 SpeedOption)
  pub not_first : ¬ IsToldOf (left_out true true 4) (part_cost 27 37 SkipOption)
  pub not_skip : ¬ IsToldOf no_options (part_cost 24 8 SkipOption)
  pub other_cause : ¬ IsToldOf (all_left_out 4) (part_cost 24 8 SpeedOption)
