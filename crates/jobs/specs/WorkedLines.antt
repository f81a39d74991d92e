-- Lines, statuses, limits and headers that are worked by hand.
use Rattle.std.specs.Prelude.{◌≡◌, ℕ, ◌+◌, ◌-◌, ◌<◌, List, [], ◌∷◌, ◌++◌, Option, Some, None, Bool, true}
use Rattle.std.specs.Prelude.{false, codes, length, map, replicate, take, drop}
use Rattle.std.specs.List.{range_with_len}
use Rattle.song_model.specs.declared.songs.Song.{Song}
use Rattle.song_model.specs.declared.tables.TableName.TheVariants.{Wave, Pulse, Filter}
use Rattle.song_model.specs.Silence.{silence}
use Rattle.play_model.specs.declared.options.Options.{Options}
use Rattle.play_model.specs.declared.options.System.TheVariants.{Ntsc}
use Rattle.play_model.specs.State.{no_options}
use Rattle.play_model.specs.WorkedSongs.{subtune as orders}
use Rattle.play_model.specs.declared.unplayable.Unplayable.TheVariants.{NoSubtune, MissingPattern, BadRestart}
use Rattle.play_model.specs.declared.unplayable.Unplayable.TheVariants.{TableOverflow, PointerToJump}
use Rattle.gts5.specs.declared.faults.SongFault.TheVariants as song
use Rattle.psid.specs.declared.faults.PsidFault.TheVariants as psid
use Rattle.song_join.specs.declared.faults.JoinPart.TheVariants as parts
use Rattle.song_join.specs.declared.faults.JoinPart.TheVariants.{Subtunes, Instruments, Patterns}
use Rattle.song_join.specs.declared.faults.JoinFault.TheVariants.{OverLimit, LooseInstrument, LooseSpeed, GateTimer}
use Rattle.song_join.specs.declared.faults.JoinFault.TheVariants.{NoteBeforeInstrument}
use Rattle.asm_text.specs.declared.faults.TextKind.TheVariants as text
use Rattle.cpu6502.specs.declared.stop.Stop.TheVariants.{Illegal, Break, Decimal}
use Rattle.cpu6502.specs.declared.stop.CallStop.TheVariants.{Stopped, Budget}
use Rattle.command_line.specs.declared.chip.Chip.{Chip}
use Rattle.command_line.specs.declared.chip.Chip.TheVariants.{Mos6581, Mos8580}
use Rattle.command_line.specs.Lines.{usage_line, no_memory_line}
use Rattle.command_line.specs.Words.{frame_limit, subtune_limit, song_number_limit, measure_limit, chart_limit}
use Rattle.usage.specs.declared.parts.UsedParts.{UsedParts}
use Rattle.song_length.specs.declared.measuring.Repeat.{Repeat}
use Rattle.song_length.specs.declared.measuring.Measured.{Measured}
use Rattle.faithful.specs.WorkedPlaces.{twice}
use Rattle.jobs.specs.Lines.{missing_line, too_long_line, read_fault_line, write_fault_line, wrote_line}
use Rattle.jobs.specs.Lines.{song_fault_line}
use Rattle.jobs.specs.Lines.{psid_fault_line, no_subtune_line, stop_line, unplayable_line, too_large_line}
use Rattle.jobs.specs.Lines.{image_too_large_line, script_too_large_line, check_line, script_line, listing_line}
use Rattle.jobs.specs.Lengths.{measured_lines}
use Rattle.jobs.specs.Lines.{measured_line, join_line, selftest_line, call_allowance, bound_line, certificate_line}
use Rattle.jobs.specs.Lines.{fault_words}
use Rattle.cycle_bound.specs.EntranceRules.{around_cycles}
use Rattle.cycle_bound.specs.declared.checks.CertKind.TheVariants.{BadShape, TooSmall}
use Rattle.song_costs.specs.declared.costs.Costs.{Costs}
use Rattle.song_places.specs.declared.places.Place.TheVariants.{InOrder, InPattern, InInstrument, InWaveTable}
use Rattle.song_costs.specs.declared.kept.Cause.{Cause}
use Rattle.song_costs.specs.declared.kept.Cause.TheVariants.{InSong, SkipOption, SpeedOption}
use Rattle.song_costs.specs.declared.kept.PartCost.{PartCost}
use Rattle.jobs.specs.Costs.{kind_lines, part_line, part_name}
use Rattle.jobs.specs.Packed.{raw_file, song_header, psid_file, IsPackedFile}
use Rattle.jobs.specs.Selftest.{selftest_calls}
use Rattle.jobs.specs.Stages.{IsThere, Fits, SpellsSong, CanBePlayed, HasShortPatterns, HasShortScript, HasRoomForImage}
use Rattle.jobs.specs.Stages.{HasPlayableSubtune}
use Rattle.jobs.specs.Stages.{CanBeEdited, IsPsid, OffersSubtune, CallsReturn, CanBeAssembled, GoTogether, status_of}
use Rattle.jobs.specs.Stages.{SubtunesReturn, SubtuneReturns}
use Rattle.jobs.specs.Stages.{IsAdmitted, input_limit, script_limit, listing_limit, certificate_limit}
use Rattle.song_facts.specs.Facts.{no_facts}

-- the first n numbers are marked, of so many
abbrev pub first_marked : ℕ → ℕ → List Bool
first_marked n all = replicate n true ++ replicate (all - n) false

-- what a song uses, with another number of each part
abbrev pub used_parts : UsedParts
used_parts = record {
  patterns = first_marked 3 208;
  instruments = first_marked 4 64;
  wave = first_marked 15 256;
  pulse = first_marked 6 256;
  filter = first_marked 7 256;
  speed = first_marked 8 256;
  wave_pointers = first_marked 1 256;
  pulse_pointers = first_marked 2 256;
  filter_pointers = first_marked 5 256;
  features = record { 0 = 0x40200A };
  facts = no_facts;
}

-- what is told of a subtune
abbrev pub told_of : ℕ → ℕ → ℕ → Option Repeat → Measured
told_of init cycles call repeat =
    record { init = init; dearest = record { cycles = cycles; call = call }; repeat = repeat }

-- one line of each kind
pub record LinesAreWorked : Type 0 where
  pub usage : usage_line
      ≡ codes "usage: goat check|trace|pack|run|edit|copy|selftest|disasm|asm|join|help|version|show|parts"
      ++ codes "|bound|bound-check|measure|chart\n"
  pub missing : missing_line (codes "a.sng") ≡ codes "missing: a.sng\n"
  pub too_long : too_long_line (codes "a.sng") ≡ codes "too long: a.sng\n"
  pub read_fault : read_fault_line (codes "a.sng") ≡ codes "read fault: a.sng\n"
  pub write_fault : write_fault_line (codes "b.sid") ≡ codes "write fault: b.sid\n"
  pub checked : check_line 2 used_parts
      ≡ codes "subtunes 2 patterns 3 instruments 4 wave 15 pulse 6 filter 7 speed 8 features 40200a\n"
  pub wrote : wrote_line 1283 ≡ codes "wrote 1283 bytes\n"
  pub script : script_line 12 (codes "no such place") ≡ codes "script line 12: no such place\n"
  pub no_subtune : no_subtune_line 3 2 ≡ codes "no such subtune: 3 of 2\n"
  pub no_memory : no_memory_line ≡ codes "no memory\n"
  pub bound : bound_line 1508 4035 ≡ codes "init 1532 play 4059\n"
  pub great_bound : bound_line 18446744073709551615 0 ≡ codes "init 18446744073709551639 play 24\n"
  pub bad_number : certificate_line 3 (codes "bad number") ≡ codes "certificate line 3: bad number\n"
  pub bad_shape : certificate_line 1 (fault_words BadShape) ≡ codes "certificate line 1: bad shape\n"
  pub too_small : certificate_line 907 (fault_words TooSmall) ≡ codes "certificate line 907: too small\n"
  pub measured : measured_line 1000000 1 (told_of 1657 1587 1253 (Some (record { from = 1165; length = 12672 })))
      ≡ codes "subtune 1: init 1657, play at most 1587 in call 1253, repeats from 1165 after 12672\n"
  pub unmeasured : measured_line 300 12 (told_of 1657 1587 253 None)
      ≡ codes "subtune 12: init 1657, play at most 1587 in call 253, not repeated in 300 calls\n"
  pub measured_all : measured_lines 9 (told_of 3 2 1 None ∷ told_of 6 5 4 None ∷ [])
      ≡ codes "subtune 1: init 3, play at most 2 in call 1, not repeated in 9 calls\n"
      ∷ codes "subtune 2: init 6, play at most 5 in call 4, not repeated in 9 calls\n" ∷ []
  pub selftest : selftest_line 0 8 0x00431937 817435
      ≡ codes "selftest 0: 8 subtunes, 300 frames, sum 00431937, 817435 steps\n"

-- another number of bytes of each kind
abbrev pub some_costs : Costs
some_costs = record {
  player = 1381;
  orders = 48;
  patterns = 327;
  instruments = 63;
  wave = 42;
  pulse = 12;
  filter = 6;
  speed = 8;
  frequencies = 104;
}

-- a part, so many bytes, and what they are for
abbrev pub costly : ℕ → ℕ → Cause → PartCost
costly part bytes cause = record { part = part; bytes = bytes; cause = cause }

-- the lines of the kinds, one of a part for each cause, and what each part is called
pub record CostLinesAreWorked : Type 0 where
  pub kinds : kind_lines some_costs
      ≡ codes "player 1381 bytes\n" ∷ codes "orderlists 48 bytes\n" ∷ codes "patterns 327 bytes\n"
      ∷ codes "instruments 63 bytes\n" ∷ codes "wave table 42 bytes\n" ∷ codes "pulse table 12 bytes\n"
      ∷ codes "filter table 6 bytes\n" ∷ codes "speed table 8 bytes\n" ∷ codes "frequencies 104 bytes\n"
      ∷ codes "image 1991 bytes\n" ∷ []
  pub in_order : part_line (costly 0 16 (InSong (InOrder 12 3 0x1F)))
      ≡ codes "transpose 16 bytes, subtune 12 channel 3 place 1F\n"
  pub in_pattern : part_line (costly 4 58 (InSong (InPattern 0x1A 3)))
      ≡ codes "tone portamento 58 bytes, pattern 1A row 03\n"
  pub in_instrument : part_line (costly 7 20 (InSong (InInstrument 16)))
      ≡ codes "instrument vibrato 20 bytes, instrument 10\n"
  pub in_wave_table : part_line (costly 23 80 (InSong (InWaveTable 12)))
      ≡ codes "wave commands 80 bytes, wave row 0C\n"
  pub in_common : part_line (costly 28 29 (InSong (InInstrument 16)))
      ≡ codes "vibrato swing 29 bytes, instrument 10\n"
  pub by_skip : part_line (costly 25 6 SkipOption) ≡ codes "skip pulse 6 bytes, SKIP\n"
  pub by_first : part_line (costly 27 36 SkipOption) ≡ codes "skip between patterns 36 bytes, SKIP\n"
  pub by_speed : part_line (costly 26 10 SpeedOption) ≡ codes "play by timer 10 bytes, SPEED\n"
  pub names : map part_name (range_with_len 0 61)
      ≡ codes "transpose"
      ∷ codes "repeat"
      ∷ codes "portamento up"
      ∷ codes "portamento down"
      ∷ codes "tone portamento"
      ∷ codes "tie note"
      ∷ codes "vibrato"
      ∷ codes "instrument vibrato"
      ∷ codes "note-dependent speed"
      ∷ codes "set attack/decay"
      ∷ codes "set sustain/release"
      ∷ codes "set waveform"
      ∷ codes "set wave pointer"
      ∷ codes "pulse table"
      ∷ codes "set pulse pointer"
      ∷ codes "filter table"
      ∷ codes "set filter pointer"
      ∷ codes "filter control"
      ∷ codes "filter cutoff"
      ∷ codes "master volume"
      ∷ codes "funk tempo"
      ∷ codes "set tempo"
      ∷ codes "wave table"
      ∷ codes "wave commands"
      ∷ codes "skip effects"
      ∷ codes "skip pulse"
      ∷ codes "play by timer"
      ∷ codes "skip between patterns"
      ∷ codes "vibrato swing"
      ∷ codes "slide high byte up"
      ∷ codes "slide high byte down"
      ∷ codes "slide low byte up"
      ∷ codes "slide low byte down"
      ∷ codes "note reached"
      ∷ codes "tone portamento in rows"
      ∷ codes "running row commands"
      ∷ codes "one-off row commands"
      ∷ codes "gate mask as first wave"
      ∷ codes "legato instruments"
      ∷ codes "no hard restart"
      ∷ codes "wave table delay"
      ∷ codes "keyoff/keyon"
      ∷ codes "vibrato of instruments"
      ∷ codes "vibrato delay"
      ∷ codes "pulse of instruments"
      ∷ codes "filter of instruments"
      ∷ codes "tempo of one voice"
      ∷ codes "tempo of all voices"
      ∷ codes "funk tempo turns"
      ∷ codes "funk tempo choice"
      ∷ codes "different gate timers"
      ∷ codes "different first waves"
      ∷ codes "several subtunes"
      ∷ codes "second voice"
      ∷ codes "third voice"
      ∷ codes "first holds more"
      ∷ codes "row commands"
      ∷ codes "special wave rows"
      ∷ codes "held gate or envelope"
      ∷ codes "running effects"
      ∷ codes "filter registers" ∷ []

-- one for each way in which a file is no song, or no PSID file
pub record FaultsAreWorked : Type 0 where
  pub not_gts5 : song_fault_line song.NotGts5 ≡ codes "not a song: bad magic\n"
  pub cut : song_fault_line (song.Truncated 100) ≡ codes "not a song: truncated at 100\n"
  pub over : song_fault_line (song.OutOfLimit 100) ≡ codes "not a song: over limit at 100\n"
  pub order : song_fault_line (song.BadOrder 104) ≡ codes "not a song: bad order at 104\n"
  pub row : song_fault_line (song.BadRow 300) ≡ codes "not a song: bad row at 300\n"
  pub not_psid : psid_fault_line psid.NotPsid ≡ codes "not a PSID: bad magic\n"
  pub psid_cut : psid_fault_line psid.Truncated ≡ codes "not a PSID: truncated\n"
  pub unsupported : psid_fault_line psid.Unsupported ≡ codes "not a PSID: unsupported\n"
  pub bad_field : psid_fault_line psid.BadField ≡ codes "not a PSID: bad field\n"

-- one for each way in which a listing can't be assembled
pub record ListingFaultsAreWorked : Type 0 where
  pub bad : listing_line (record { line = 1; kind = text.BadLine }) ≡ codes "asm line 1: bad line\n"
  pub double : listing_line (record { line = 12; kind = text.DoubleLabel }) ≡ codes "asm line 12: double label\n"
  pub unknown : listing_line (record { line = 12; kind = text.UnknownLabel }) ≡ codes "asm line 12: unknown label\n"
  pub past : listing_line (record { line = 300; kind = text.PastEnd }) ≡ codes "asm line 300: past end\n"
  pub far : listing_line (record { line = 2; kind = text.BranchTooFar }) ≡ codes "asm line 2: branch too far\n"

-- one for each way in which two songs can't be joined
pub record JoinFaultsAreWorked : Type 0 where
  pub subtunes : join_line (OverLimit Subtunes 33) ≡ codes "cannot join: 33 subtunes\n"
  pub instruments : join_line (OverLimit Instruments 64) ≡ codes "cannot join: 64 instruments\n"
  pub wave : join_line (OverLimit parts.Wave 256) ≡ codes "cannot join: 256 wave rows\n"
  pub pulse : join_line (OverLimit parts.Pulse 257) ≡ codes "cannot join: 257 pulse rows\n"
  pub filter : join_line (OverLimit parts.Filter 258) ≡ codes "cannot join: 258 filter rows\n"
  pub speed : join_line (OverLimit parts.Speed 510) ≡ codes "cannot join: 510 speed rows\n"
  pub patterns : join_line (OverLimit Patterns 209) ≡ codes "cannot join: 209 patterns\n"
  pub instrument : join_line (LooseInstrument 2 1) ≡ codes "cannot join: loose instrument 1 in song 2\n"
  pub row : join_line (LooseSpeed 1 9) ≡ codes "cannot join: loose speed row 9 in song 1\n"
  pub timers : join_line (GateTimer 2 3) ≡ codes "cannot join: gate timers 2 and 3\n"
  pub note : join_line (NoteBeforeInstrument 2 3)
      ≡ codes "cannot join: note before instrument in subtune 2 channel 3\n"

-- one for each way in which a song can't be played or packed, or a call doesn't return
pub record RefusalsAreWorked : Type 0 where
  pub none : unplayable_line NoSubtune ≡ codes "unplayable: no subtune\n"
  pub pattern : unplayable_line (MissingPattern 1 2 3 4)
      ≡ codes "unplayable: missing pattern 4 in subtune 1 channel 2 place 3\n"
  pub restart : unplayable_line (BadRestart 1 3) ≡ codes "unplayable: bad restart in subtune 1 channel 3\n"
  pub row : unplayable_line (TableOverflow Wave 9) ≡ codes "unplayable: wave table ends before row 9\n"
  pub pulse_row : unplayable_line (TableOverflow Pulse 3) ≡ codes "unplayable: pulse table ends before row 3\n"
  pub jump : unplayable_line (PointerToJump Filter 2) ≡ codes "unplayable: filter pointer to jump row 2\n"
  pub text : too_large_line 7 260 ≡ codes "too large: pattern 7 packs to 260 bytes\n"
  pub shown : script_too_large_line 1048577 ≡ codes "too large: script of 1048577 bytes\n"
  pub image : image_too_large_line 50000 ≡ codes "too large: image of 50000 bytes\n"
  pub at_illegal : stop_line (Stopped (Illegal 0x1003)) 0 ≡ codes "machine stopped: illegal at $1003 in call 0\n"
  pub at_break : stop_line (Stopped (Break 0x0A0B)) 1 ≡ codes "machine stopped: break at $0A0B in call 1\n"
  pub at_decimal : stop_line (Stopped (Decimal 0x1003)) 2 ≡ codes "machine stopped: decimal at $1003 in call 2\n"
  pub budget : stop_line Budget 3 ≡ codes "machine stopped: no return in call 3\n"

-- the status with which each stage ends a run
pub record StatusesAreWorked : Type 0 where
  pub no_file : status_of (IsThere (codes "a.sng")) ≡ 2
  pub long_file : status_of (Fits (codes "a.sng") input_limit) ≡ 3
  pub no_song : status_of (SpellsSong (codes "a.sng")) ≡ 5
  pub unplayable : status_of (CanBePlayed (codes "a.sng")) ≡ 6
  pub no_playable_subtune : status_of (HasPlayableSubtune (codes "a.sng") 3) ≡ 11
  pub long_pattern : status_of (HasShortPatterns (codes "a.sng")) ≡ 7
  pub long_script : status_of (HasShortScript (codes "a.sng")) ≡ 7
  pub long_image : status_of (HasRoomForImage (codes "a.sng") 0x1000 no_options) ≡ 7
  pub no_edit : status_of (CanBeEdited (codes "a.sng") (codes "a.txt")) ≡ 8
  pub no_psid : status_of (IsPsid (codes "b.sid")) ≡ 12
  pub no_subtune : status_of (OffersSubtune (codes "b.sid") 3) ≡ 11
  pub no_return : status_of (CallsReturn (codes "b.sid") 1 300) ≡ 13
  pub not_measured : status_of (SubtunesReturn (codes "b.sid") 300) ≡ 13
  pub not_drawn : status_of (SubtuneReturns (codes "b.sid") 1 300) ≡ 13
  pub no_listing : status_of (CanBeAssembled (codes "b.asm")) ≡ 17
  pub not_joined : status_of (GoTogether (codes "a.sng") (codes "b.sng")) ≡ 18
  pub not_admitted : status_of (IsAdmitted (codes "a.sng") (codes "a.bound") no_options) ≡ 16

-- the limits in numbers
pub record LimitsAreWorked : Type 0 where
  pub input : input_limit ≡ 262144
  pub script : script_limit ≡ 1048576
  pub listing : listing_limit ≡ 1048576
  pub certificate : certificate_limit ≡ 1048576
  -- and what is allowed for a call beside its blocks, with what that takes
  pub allowed : call_allowance ≡ 24
  pub around : around_cycles ≡ 11
  pub frames : frame_limit ≡ 100000
  pub subtune : subtune_limit ≡ 255
  pub measured : measure_limit ≡ 1000000
  pub drawn : chart_limit ≡ 100000
  pub number : song_number_limit ≡ 18446744073709551615
  pub calls : selftest_calls ≡ 301

-- the silent song twice, and between the two a subtune that can't be played
abbrev pub two_of_three : Song
two_of_three = record silence {
  subtunes = orders (0 ∷ []) (0 ∷ []) (0 ∷ []) ∷ orders (0 ∷ []) [] (0 ∷ []) ∷ orders (0 ∷ []) (0
      ∷ []) (0 ∷ []) ∷ [];
}

-- of each song: its texts in their places, play three bytes after init, and by the timer where it is played twice; and
-- its playable subtunes are counted
pub record HeadersAreWorked : Type 0 where
  pub name : (s : Song) → (song_header s 0x1000 no_options Mos6581).name ≡ s.name
  pub author : (s : Song) → (song_header s 0x1000 no_options Mos6581).author ≡ s.author
  pub released : (s : Song) → (song_header s 0x1000 no_options Mos6581).released ≡ s.copyright
  pub init : (s : Song) → (song_header s 0x1000 no_options Mos6581).init ≡ 0x1000
  pub play : (s : Song) → (song_header s 0x1000 no_options Mos6581).play ≡ 0x1003
  pub songs : (song_header two_of_three 0x1000 no_options Mos6581).songs ≡ 2
  pub first : (s : Song) → (song_header s 0x1000 no_options Mos6581).start_song ≡ 1
  pub by_picture : (s : Song) → (song_header s 0x1000 no_options Mos6581).speed ≡ 0
  pub by_timer : (s : Song) → (song_header s 0x1000 twice Mos6581).speed ≡ 0xFFFFFFFF
  pub raw : raw_file 0x1000 (1 ∷ 2 ∷ []) ≡ 0x00 ∷ 0x10 ∷ 1 ∷ 2 ∷ []

-- the two bytes from $76 on of a PSID file of the silent song
abbrev pub flag_bytes : Options → Chip → List ℕ
flag_bytes options chip = take 2 (drop 0x76 (psid_file silence 0x1000 (0x60 ∷ []) options chip))

-- they say the system and the SID, each of the four pairs, whatever the other options are
pub record FlagsAreWorked : Type 0 where
  pub pal_6581 : flag_bytes no_options Mos6581 ≡ 0x00 ∷ 0x14 ∷ []
  pub pal_8580 : flag_bytes no_options Mos8580 ≡ 0x00 ∷ 0x24 ∷ []
  pub ntsc_6581 : flag_bytes (record no_options { system = Ntsc }) Mos6581 ≡ 0x00 ∷ 0x18 ∷ []
  pub ntsc_8580 : flag_bytes (record no_options { system = Ntsc }) Mos8580 ≡ 0x00 ∷ 0x28 ∷ []
  pub all_four : flag_bytes (record { skip_effects = true; skip_pulse = true; skip_first = true; speed = 4; system = Ntsc })
      Mos8580
      ≡ 0x00 ∷ 0x28 ∷ []

-- the raw file of an image that would pass $D000 is no packed file, whatever the image plays
abbrev pub LargeImagesAreNotPacked : Type 0
LargeImagesAreNotPacked =
    (address zero_page : ℕ) (song : Song) (options : Options) (chip : Chip) (image : List ℕ) →
    0xD000 < address + length image →
    ¬ IsPackedFile false address zero_page song options chip (raw_file address image)
