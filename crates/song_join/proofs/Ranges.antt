-- What is moved stays in its range, and the lists of the joined song keep their limits.
use Rattle.std.proofs.Common.{◌≡◌, ℕ, ◌+◌, ◌<◌, ◌≤◌, ◌&&◌, true, List, length, map, inl, inr}
use Rattle.std.proofs.Common.{arith, nat_le, nat_lt}
use Rattle.std.specs.Prelude.{Option, Some, None}
use Rattle.std.proofs.lemmas.Bool.{cases_Bool}
use Rattle.std.proofs.lemmas.Bool.Decides.{nat_tests}
use Rattle.std.proofs.lemmas.List.{length-map}
use Rattle.std.proofs.lemmas.List.Elements.{All-map}
use Rattle.song_model.specs.declared.rows.Row.{Row}
use Rattle.song_model.specs.declared.tables.TableName.{TableName}
use Rattle.song_model.specs.declared.tables.TableName.TheVariants.{Wave, Pulse, Filter, Speed}
use Rattle.song_model.specs.declared.songs.Song.{Song}
use Rattle.song_model.specs.Endless.{IsPatternByte}
use Rattle.song_model.specs.PatternLimits.{IsRow, IsPattern}
use Rattle.song_model.specs.OrderLimits.{IsEntry, AreEntries}
use Rattle.song_model.specs.LookUp.{table_of}
use Rattle.song_model.specs.Pointers.{command_table}
use Rattle.same_frames.specs.Maps.{moved_pointer}
use Rattle.same_frames.specs.OrderLaws.{moved_byte}
use Rattle.song_join.specs.declared.faults.JoinPart.TheVariants.{Instruments, Wave as WaveRows, Pulse as PulseRows}
use Rattle.song_join.specs.declared.faults.JoinPart.TheVariants.{Filter as FilterRows, Speed as SpeedRows, Patterns}
use Rattle.song_join.specs.Numbers.{raised, new_numbers}
use Rattle.song_join.specs.Joined.{moved_pattern_row}
use Rattle.song_join.specs.Limits.{AreWithin}
use Rattle.song_join.specs.Parts.{NamesStored}

-- ---- numbers

inside : (stored n : ℕ) → (nat_le 1 n && nat_le n stored) ≡ true → n ≤ stored
inside stored n h = grind (arith, nat_tests)

pub raised_small : (stored by n most : ℕ) → stored + by ≤ most → raised stored by n ≤ most
raised_small stored by n most few = elim (cases_Bool (nat_le 1 n && nat_le n stored)) [
  | inl there ↦ rw there (let low = inside stored n there in omega arith)
  | inr not_there ↦ rw not_there (omega arith)
]

pub rows_within : (first second : Song) (name : TableName) → AreWithin first second →
    length (table_of second name) + length (table_of first name) ≤ 255
rows_within first second Wave within = let few = within.part WaveRows in omega arith
rows_within first second Pulse within = let few = within.part PulseRows in omega arith
rows_within first second Filter within = let few = within.part FilterRows in omega arith
rows_within first second Speed within = let few = within.part SpeedRows in omega arith

pub instruments_within : (first second : Song) → AreWithin first second →
    length second.instruments + length first.instruments ≤ 63
instruments_within first second within = let few = within.part Instruments in omega arith

-- ---- rows of patterns

pub pointer_small : (first second : Song) (table : Option TableName) (p : ℕ) → AreWithin first second → p < 256 →
    moved_pointer (new_numbers first second) table p < 256
unfolding new_numbers
pointer_small first second (Some name) p within small =
    let low = raised_small (length (table_of second name)) (length (table_of first name)) p 255
    (rows_within first second name within) in
    omega arith
pointer_small first second None p within small = small

instrument_small : (first second : Song) (i : ℕ) → AreWithin first second →
    (new_numbers first second).instrument i ≤ 63
unfolding new_numbers
instrument_small first second i within =
    raised_small (length second.instruments) (length first.instruments) i 63 (instruments_within first second within)

moved_row_in_range : (first second : Song) → AreWithin first second → (row : Row) → IsRow row →
    IsRow (moved_pattern_row (new_numbers first second) row)
moved_row_in_range first second within row r = record {
  note_from = r.note_from;
  note_to = r.note_to;
  instrument = instrument_small first second row.instrument within;
  command = r.command;
  param = pointer_small first second (command_table row.command) row.param within r.param;
}

pub moved_is_pattern : (first second : Song) → AreWithin first second → (rows : List Row) → IsPattern rows →
    IsPattern (map (moved_pattern_row (new_numbers first second)) rows)
moved_is_pattern first second within rows p =
    let move = moved_pattern_row (new_numbers first second) in
    let n = length-map rows move in
    let least = p.count.least in
    let most = p.count.most in
    record {
      count = record { least = omega arith; most = omega arith };
      each = All-map IsRow move rows (λ k d there. moved_row_in_range first second within _ (p.each k d there));
    }

-- ---- orderlists

low_byte : (byte : ℕ) → nat_lt byte 0xD0 ≡ true → byte < 0xD0
low_byte byte h = grind (arith, nat_tests)

pub byte_small : (first second : Song) → AreWithin first second → (byte : ℕ) → IsEntry byte →
    (IsPatternByte byte → byte < length second.patterns) → IsEntry (moved_byte (new_numbers first second) byte)
unfolding new_numbers
byte_small first second within byte entry stored = elim (cases_Bool (nat_lt byte 0xD0)) [
  | inl low ↦ rw low (let few = within.part Patterns in let there = stored (low_byte byte low) in omega arith)
  | inr high ↦ rw high entry
]

pub moved_are_entries : (first second : Song) → AreWithin first second → (entries : List ℕ) → AreEntries entries →
    NamesStored (length second.patterns) entries →
    AreEntries (map (moved_byte (new_numbers first second)) entries)
moved_are_entries first second within entries are stored =
    let move = moved_byte (new_numbers first second) in
    let n = length-map entries move in
    let count = are.count in
    record {
      count = omega arith;
      each =
          All-map IsEntry move entries
          (λ k d there. byte_small first second within _ (are.each k d there) (stored k d there));
    }
