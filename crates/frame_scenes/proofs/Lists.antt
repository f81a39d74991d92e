-- The lists of a packed song, as the steps read them: instruments, the tables of programs and the frequencies of notes.
use Rattle.std.proofs.Common.{◌≡◌, ℕ, ◌+◌, ◌%◌, ◌<◌, ◌≤◌, Bool, true, false, length, nat_le}
use Rattle.std.proofs.Common.{if◌then◌else◌, refl, sym, ap, ◌∙◌, subst, arith}
use Rattle.std.proofs.lemmas.Bool.Decides.{nat_tests}
use Rattle.song_model.specs.declared.tables.TableName.TheVariants.{Wave, Pulse, Filter}
use Rattle.song_model.specs.declared.tables.TableRow.{TableRow}
use Rattle.song_model.specs.Limits.{KeepsLimits}
use Rattle.song_model.specs.LookUp.{IsNumbered}
use Rattle.play_model.specs.Ranges.{AreLookUps}
use Rattle.play_model.proofs.Laws.{song_look_ups}
use Rattle.asked_numbers.specs.Range.{IsInRange}
use Rattle.packed_form.specs.declared.packed_songs.PackedSong.{PackedSong}
use Rattle.packed_form.specs.Unpacked.{unpacked_song}
use Rattle.song_facts.specs.declared.facts.Fact.TheVariants.{NoteVibrato, VibratoDelay, NotePulse, NoteFilter}
use Rattle.song_facts.specs.declared.facts.Fact.TheVariants.{OwnWave}
use Rattle.cpu6502.specs.declared.memory.TheConstants.{MEMORY_SIZE}
use Rattle.scopes.specs.Desk.{Layout}
use Rattle.player_memory.specs.FactLines.{KeepsMarkedAlone}
use Rattle.player_memory.specs.Forms.{stored_left, stored_right}
use Rattle.player_memory.specs.SongLists.{SongList, FrequencyLows, FrequencyHighs, Lefts, Rights, Instruments}
use Rattle.player_memory.specs.SongLists.{first_number, list_length, list_byte, list_label, IsSongList, HasNumber}
use Rattle.player_memory.specs.SongLists.{slide_rows, HasSongLists}
use Rattle.player_memory.specs.Rooms.{IsElsewhere}
use Rattle.player_memory.specs.Playing.{place_in, IsAlone}
use Rattle.player_memory.specs.Holds.{IsPlayerLayout, look_of}
use Rattle.frame_scenes.proofs.FactsKept.{timers_read}
use Rattle.pulse_code.specs.PulseBlock.{HasPulseTable}
use Rattle.filter_code.specs.FilterBlock.{HasFilterTable}
use Rattle.tick_code.specs.TickBlock.{HasInstrument}
use Rattle.wave_code.specs.WaveBlock.{HasWaveTable}
use Rattle.slide_code.specs.SlideBlock.{HasHalfTones}

-- a number of a list whose first one is 1, or 0
pub from_one : (packed : PackedSong) (list : SongList) (number : ℕ) → first_number packed list ≡ 1 → 1 ≤ number →
    number ≤ list_length packed list → HasNumber packed list number
from_one packed list number first least most =
    record { from = omega (arith, first, least); to = omega (arith, first, most) }

pub from_none : (packed : PackedSong) (list : SongList) (number : ℕ) → first_number packed list ≡ 0 →
    number < list_length packed list → HasNumber packed list number
from_none packed list number first below = record { from = omega (arith, first); to = omega (arith, first, below) }

-- and one of the frequencies of the numbers that the song asks for
pub listed_number : (packed : PackedSong) (list : SongList) (n : ℕ) → first_number packed list ≡ packed.numbers.first →
    list_length packed list ≡ packed.numbers.count → IsInRange packed.numbers n → HasNumber packed list n
listed_number packed list n first count inside =
    let from = inside.from in
    let below = inside.below in
    record { from = omega (arith, first, from); to = omega (arith, first, count, below) }

-- what is looked up are bytes
pub looks : (packed : PackedSong) → KeepsLimits (unpacked_song packed) → AreLookUps (look_of packed)
looks packed limits = song_look_ups (unpacked_song packed) limits

-- ---- tables of programs

pub pulses_stand : (layout : Layout) (packed : PackedSong) (at : ℕ → ℕ) → IsPlayerLayout layout packed →
    HasSongLists layout packed at → KeepsLimits (unpacked_song packed) →
    HasPulseTable layout (slide_rows packed) at (look_of packed) (length packed.pulse)
pulses_stand layout packed at laid has limits = record {
  table = record {
    few = let most = limits.pulse.count in omega (arith, most);
    each = λ number least most.
        let bytes = (looks packed limits).row Pulse number in record {
          left = has.lists (Lefts Pulse) number tt (from_one packed (Lefts Pulse) number refl least most);
          right = has.lists (Rights Pulse) number tt (from_one packed (Rights Pulse) number refl least most);
          left_byte = bytes.left;
          right_byte = bytes.right;
        };
  };
  next = laid.next.pulse_lefts;
}

pub filters_stand : (layout : Layout) (packed : PackedSong) (at : ℕ → ℕ) → IsPlayerLayout layout packed →
    HasSongLists layout packed at → KeepsLimits (unpacked_song packed) →
    HasFilterTable layout (slide_rows packed) at (look_of packed) (length packed.filter)
filters_stand layout packed at laid has limits = record {
  table = record {
    few = let most = limits.filter.count in omega (arith, most);
    each = λ number least most.
        let bytes = (looks packed limits).row Filter number in record {
          left = has.lists (Lefts Filter) number tt (from_one packed (Lefts Filter) number refl least most);
          right = has.lists (Rights Filter) number tt (from_one packed (Rights Filter) number refl least most);
          left_byte = bytes.left;
          right_byte = bytes.right;
        };
  };
  next = laid.next.filter_lefts;
}

-- the form in which a row of the wave table is stored is in bytes too
left_small : (left : ℕ) → left < 256 → stored_left left < 256
left_small left small = grind (arith, nat_tests)

right_small : (row : TableRow) → row.right < 256 → stored_right row < 256
right_small row small = by_test (nat_le 0xF0 row.left)
  where
    by_test : (z : Bool) → (if z then row.right else (row.right + 0x80) % 256) < 256
    by_test true = small
    by_test false = omega arith

pub waves_stand : (layout : Layout) (packed : PackedSong) (at : ℕ → ℕ) → IsPlayerLayout layout packed →
    HasSongLists layout packed at → KeepsLimits (unpacked_song packed) →
    HasWaveTable layout (slide_rows packed) at (look_of packed) (length packed.wave)
waves_stand layout packed at laid has limits = record {
  table = record {
    few = let most = limits.wave.count in omega (arith, most);
    each = λ number least most.
        let bytes = (looks packed limits).row Wave number in record {
          left = has.lists (Lefts Wave) number tt (from_one packed (Lefts Wave) number refl least most);
          right = has.lists (Rights Wave) number tt (from_one packed (Rights Wave) number refl least most);
          left_byte = left_small _ bytes.left;
          right_byte = right_small ((look_of packed).row Wave number) bytes.right;
        };
  };
  bytes = λ number least most. ((looks packed limits).row Wave number).right;
  next_left = laid.next.wave_lefts;
  next_right = laid.next.wave_rights;
}

-- ---- notes and instruments

pub tones_stand : (layout : Layout) (packed : PackedSong) (at : ℕ → ℕ) → IsPlayerLayout layout packed →
    HasSongLists layout packed at → HasHalfTones layout (slide_rows packed) at packed.numbers
tones_stand layout packed at laid has = record {
  frequencies = record {
    low = λ n inside. has.lists FrequencyLows n tt (listed_number packed FrequencyLows n refl refl inside);
    high = λ n inside. has.lists FrequencyHighs n tt (listed_number packed FrequencyHighs n refl refl inside);
  };
  next_low = laid.next.frequency_lows;
  next_high = laid.next.frequency_highs;
}

-- a byte that stands for all instruments
pub stands_alone : (layout : Layout) (packed : PackedSong) (at : ℕ → ℕ) (list : SongList) (byte : ℕ) →
    HasSongLists layout packed at → IsSongList layout packed list → first_number packed list ≡ 0 →
    list_length packed list ≡ 1 → layout.address (list_label list) < MEMORY_SIZE →
    list_byte layout packed list 0 ≡ byte → IsAlone layout (slide_rows packed) at (list_label list) byte
stands_alone layout packed at list byte has is first one small same =
    let listed = has.lists list 0 is (from_none packed list 0 first (omega (arith, one))) in
    let there : place_in layout (list_label list) 0 ≡ layout.address (list_label list) = omega (arith, small) in
    record {
      elsewhere = subst (IsElsewhere layout (slide_rows packed)) there listed.elsewhere;
      reads = subst (λ place. layout.may_read place ≡ true) there listed.reads;
      is = ap at (sym there) ∙ (listed.is ∙ same);
    }

pub instrument_stands : (layout : Layout) (packed : PackedSong) (at : ℕ → ℕ) → HasSongLists layout packed at →
    KeepsMarkedAlone layout packed.facts → KeepsLimits (unpacked_song packed) → (number : ℕ) →
    IsNumbered packed.instruments number → HasInstrument layout (slide_rows packed) at (look_of packed) number
instrument_stands layout packed at has alone limits number is = record {
  ad = has.lists (Instruments 0) number refl (numbered 0);
  sr = has.lists (Instruments 1) number refl (numbered 1);
  wave = has.lists (Instruments 2) number refl (numbered 2);
  pulse = λ kept. has.lists (Instruments 3) number (alone NotePulse kept) (numbered 3);
  filter = λ kept. has.lists (Instruments 4) number (alone NoteFilter kept) (numbered 4);
  vibrato = λ kept. has.lists (Instruments 5) number (alone NoteVibrato kept) (numbered 5);
  delay = λ kept. has.lists (Instruments 6) number (alone VibratoDelay kept) (numbered 6);
  gate_timer = λ kept. has.lists (Instruments 7) number (timers_read layout packed alone kept) (numbered 7);
  first_wave = λ kept. has.lists (Instruments 8) number (alone OwnWave kept) (numbered 8);
  gate_timer_byte = ((looks packed limits).instrument number).gate_timer;
}
  where
    numbered : (field : ℕ) → HasNumber packed (Instruments field) number
    numbered field = from_one packed (Instruments field) number refl is.first is.last
