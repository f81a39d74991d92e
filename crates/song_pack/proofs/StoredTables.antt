-- The tables of a packed song agree with those of its song.
use Rattle.std.specs.Prelude.{◌==◌}
use Rattle.std.proofs.Common.{◌≡◌, ℕ, ◌+◌, ◌≤◌, Bool, true, false, List, length, Option, Some, None}
use Rattle.std.proofs.Common.{refl, sym, ◌∙◌, ap, subst, inl, inr, arith}
use Rattle.std.proofs.lemmas.Bool.{cases_Bool, eqb-true}
use Rattle.std.specs.List.{filter}
use Rattle.std.proofs.lemmas.List.{length-map}
use Rattle.std.proofs.lemmas.List.Sums.{length-filter}
use Rattle.song_model.specs.declared.tables.TableRow.{TableRow}
use Rattle.song_model.specs.declared.tables.TableName.{TableName}
use Rattle.song_model.specs.declared.tables.TableName.TheVariants.{Wave, Pulse, Filter, Speed}
use Rattle.song_model.specs.declared.songs.Song.{Song}
use Rattle.song_model.specs.Limits.{KeepsLimits}
use Rattle.song_model.specs.LookUp.{IsNumbered, table_of, table_row}
use Rattle.song_model.specs.Pointers.{wave_row_table}
use Rattle.play_model.specs.LookUps.{look_ups_of}
use Rattle.play_model.specs.Reached.{is_jump, is_last, IsReached}
use Rattle.play_model.specs.Playable.{HasPrograms, IsPlayable}
use Rattle.play_model.proofs.Laws.{closed_lem, whole_lem, no_wave_pointer}
use Rattle.same_frames.specs.Maps.{Maps, moved_pointer, foreign_table, moved_row}
use Rattle.same_frames.specs.Agreement.{RowsAgree, ProgramsAgree}
use Rattle.packed_form.specs.declared.packed_songs.PackedSong.{PackedSong}
use Rattle.packing_rules.specs.Segments.{ProgramTable, IsWhole, numbers, row_of, is_jump_row, is_end, keeps}
use Rattle.packing_rules.specs.ProgramMaps.{retargeted, row_at, KeepsPrograms}
use Rattle.packing_rules.specs.UsedSets.{UsedSets, AreUsedSets}
use Rattle.packing_rules.specs.Renumbering.{rank, pointer_number, foreign_number, program_number, program_rows}
use Rattle.packing_rules.specs.Renumbering.{wave_row, wave_programs, pulse_programs, filter_programs, table_number}
use Rattle.packing_rules.specs.Renumbering.{speed_number}
use Rattle.packing_rules.proofs.Laws.{numbered_map, playable_programs_are_whole}
use Rattle.packed_form.specs.Unpacked.{unpacked_song}
use Rattle.table_pack.proofs.Laws.{packed_tables_keep, rank_most}
use Rattle.song_pack.specs.Packed.{new_numbers, AreSpeeds, IsPacked}

-- ---- programs

-- the packed rows keep all programs of the table
keeps_all : (table : ProgramTable) (rows : List TableRow) → IsWhole table → rows ≡ program_rows table →
    KeepsPrograms table.pulse table.reached table.rows rows (program_number table)
keeps_all table rows whole are =
    subst (λ (all : List TableRow). KeepsPrograms table.pulse table.reached table.rows all (program_number table))
    (sym are) (packed_tables_keep table whole)

-- one for each row that stays
pub program_count : (table : ProgramTable) → length (program_rows table) ≡ rank (keeps table) (length table.rows)
unfolding program_rows
program_count table =
    length-map (filter (keeps table) (numbers (length table.rows)))
    (λ p. retargeted (program_number table) (row_of table p))
    ∙ length-filter (keeps table) (numbers (length table.rows))

-- ---- rows

-- rows of a packed table, and how they follow each other
pub record TableAgrees (maps : Maps) (song other : Song) (name : TableName) : Type 0 where
  pub rows : RowsAgree maps song (look_ups_of other) name
  pub stored : (p : ℕ) → IsReached song name p → IsNumbered (table_of other name) (maps.row name p)

-- what the rows of a program table say of the song's table
record IsTableFor (maps : Maps) (song : Song) (name : TableName) (table : ProgramTable) : Type 0 where
  reached : (p : ℕ) → IsReached song name p → table.reached p ≡ true
  number : (p : ℕ) → maps.row name p ≡ program_number table p
  row : (p : ℕ) → IsReached song name p →
      retargeted (program_number table) (row_at table.rows p) ≡ moved_row maps name (table_row song name p)
  goes : (p : ℕ) → IsReached song name p → is_jump name (table_row song name p) ≡ false →
      is_last name (table_row song name p) ≡ false → is_end table.pulse (row_at table.rows p) ≡ false

row_of_table : (song : Song) (name : TableName) (p : ℕ) → row_at (table_of song name) p ≡ table_row song name p
unfolding table_row
row_of_table song name p = refl

table_agrees : (maps : Maps) (song other : Song) (name : TableName) (table : ProgramTable) →
    KeepsPrograms table.pulse table.reached table.rows (table_of other name) (program_number table) →
    IsTableFor maps song name table → TableAgrees maps song other name
table_agrees maps song other name table keep is = record {
  rows = record {
    nothing = is.number 0 ∙ keep.nothing;
    some = λ p reached none.
        let first = (keep.stored p (is.reached p reached)).first in
        let e = is.number p in
        omega arith;
    row = λ p reached.
        sym (row_of_table other name (maps.row name p)) ∙ ap (row_at (table_of other name)) (is.number p)
        ∙ keep.row p (is.reached p reached) ∙ is.row p reached;
  };
  stored = λ p reached.
      subst (IsNumbered (table_of other name)) (sym (is.number p)) (keep.stored p (is.reached p reached));
}

programs_agree : (maps : Maps) (song other : Song) (name : TableName) (table : ProgramTable) →
    KeepsPrograms table.pulse table.reached table.rows (table_of other name) (program_number table) →
    IsTableFor maps song name table → length (table_of other name) ≤ 255 → ProgramsAgree maps song name
programs_agree maps song other name table keep is few = record {
  small = λ p reached.
      let last = (keep.stored p (is.reached p reached)).last in
      let e = is.number p in
      omega arith;
  next = λ p reached no_jump more.
      is.number (p + 1) ∙ keep.next p (is.reached p reached) (is.goes p reached no_jump more)
      ∙ ap (λ (n : ℕ). n + 1) (sym (is.number p));
}

-- ---- the filter, the pulse and the wave table

-- a jump goes to the new number of its target, and a row that points nowhere stays
plain_row : (to : ℕ → ℕ) (maps : Maps) (name : TableName) (row : TableRow) → ((p : ℕ) → maps.row name p ≡ to p) →
    is_jump_row row ≡ is_jump name row → foreign_table name row ≡ None → retargeted to row ≡ moved_row maps name row
plain_row to maps name row number same plain = elim (cases_Bool (is_jump_row row)) [
  | inl jump ↦ (
      let e : is_jump name row ≡ true = sym same ∙ jump in
      rw (jump, e) (ap (λ (n : ℕ). record row { right = n }) (sym (number row.right))))
  | inr goes ↦ (let e : is_jump name row ≡ false = sym same ∙ goes in rw (goes, e, plain) refl)
]

pub filter_number : (song : Song) (used : UsedSets) (p : ℕ) →
    table_number song used Filter p ≡ program_number (filter_programs song used) p
unfolding table_number
filter_number song used p = refl

pub pulse_number : (song : Song) (used : UsedSets) (p : ℕ) →
    table_number song used Pulse p ≡ program_number (pulse_programs song used) p
unfolding table_number
pulse_number song used p = refl

pub wave_number : (song : Song) (used : UsedSets) (p : ℕ) →
    table_number song used Wave p ≡ program_number (wave_programs song used) p
unfolding table_number
wave_number song used p = refl

pub speed_number_is : (song : Song) (used : UsedSets) (p : ℕ) →
    table_number song used Speed p ≡ speed_number song (used.pointers Speed) p
unfolding table_number
speed_number_is song used p = refl

filter_is : (song : Song) (used : UsedSets) → AreUsedSets song used →
    IsTableFor (new_numbers song used) song Filter (filter_programs song used)
filter_is song used are = record {
  reached = λ p is. (are.reached Filter p).1 is;
  number = filter_number song used;
  row = λ p is.
      ap (retargeted (program_number (filter_programs song used))) (row_of_table song Filter p)
      ∙ plain_row (program_number (filter_programs song used)) (new_numbers song used) Filter (table_row song Filter p)
      (filter_number song used) refl refl;
  goes = λ p is no_jump more.
      let e = ap (λ (row : TableRow). is_end false row) (row_of_table song Filter p) in
      e ∙ (rw no_jump refl);
}

pulse_is : (song : Song) (used : UsedSets) → AreUsedSets song used →
    IsTableFor (new_numbers song used) song Pulse (pulse_programs song used)
pulse_is song used are = record {
  reached = λ p is. (are.reached Pulse p).1 is;
  number = pulse_number song used;
  row = λ p is.
      ap (retargeted (program_number (pulse_programs song used))) (row_of_table song Pulse p)
      ∙ plain_row (program_number (pulse_programs song used)) (new_numbers song used) Pulse (table_row song Pulse p)
      (pulse_number song used) refl refl;
  goes = λ p is no_jump more.
      let e = ap (λ (row : TableRow). is_end true row) (row_of_table song Pulse p) in
      e ∙ (rw (no_jump, more) refl);
}

-- a pointer of the wave table has its new number
foreign_is : (song : Song) (used : UsedSets) (left right : ℕ) (t : Option TableName) → wave_row_table left ≡ t →
    pointer_number (foreign_number song used) t right ≡ moved_pointer (new_numbers song used) t right
unfolding table_number
foreign_is song used left right None is = refl
foreign_is song used left right (Some Wave) is = absurd (no_wave_pointer left is)
foreign_is song used left right (Some Pulse) is = refl
foreign_is song used left right (Some Filter) is = refl
foreign_is song used left right (Some Speed) is = refl

wave_row_is : (song : Song) (used : UsedSets) (row : TableRow) →
    retargeted (program_number (wave_programs song used)) (wave_row song used row)
    ≡ moved_row (new_numbers song used) Wave row
wave_row_is song used row = elim (cases_Bool (row.left == 0xFF)) [
  | inl jump ↦ (
      let none : wave_row_table row.left ≡ None = ap wave_row_table (eqb-true row.left 0xFF jump) in
      rw (jump, none) (ap (λ (n : ℕ). record row { right = n }) (sym (wave_number song used row.right))))
  | inr goes ↦ rw goes (ap (λ (n : ℕ). record row { right = n })
      (foreign_is song used row.left row.right (wave_row_table row.left) refl))
]

wave_is : (song : Song) (used : UsedSets) → IsPlayable song → AreUsedSets song used →
    IsTableFor (new_numbers song used) song Wave (wave_programs song used)
wave_is song used play are =
    let at = λ (p : ℕ) (is : IsReached song Wave p).
    numbered_map (wave_row song used) song.wave p ((whole_lem song play).row Wave p (λ e. cc) is)
    ∙ ap (wave_row song used) (row_of_table song Wave p) in
    record {
      reached = λ p is. (are.reached Wave p).1 is;
      number = wave_number song used;
      row = λ p is.
          ap (retargeted (program_number (wave_programs song used))) (at p is)
          ∙ wave_row_is song used (table_row song Wave p);
      goes = λ p is no_jump more.
          let e = ap (λ (row : TableRow). is_end false row) (at p is) in
          e ∙ (rw no_jump refl);
    }

-- ---- the speed table

no_pointer : (song : Song) (used : UsedSets) → AreUsedSets song used → (b : Bool) → used.pointers Speed 0 ≡ b → b ≡
    false
no_pointer song used are true e =
    absurd ((closed_lem song).some Speed 0 ((closed_lem song).pointer Speed 0 ((are.pointers Speed 0).0 e)) refl)
no_pointer song used are false e = refl

speed_agrees : (song : Song) (used : UsedSets) (other : Song) → AreUsedSets song used →
    AreSpeeds song (used.pointers Speed) other.speed → TableAgrees (new_numbers song used) song other Speed
unfolding speed_number
speed_agrees song used other are speeds =
    let none_used : used.pointers Speed 0 ≡ false = no_pointer song used are (used.pointers Speed 0) refl in
    let used_at = λ (p : ℕ) (is : IsReached song Speed p). (are.pointers Speed p).1 (((closed_lem song).speed p).0 is)
    in
    let there = λ (p : ℕ) (is : IsReached song Speed p).
    subst (IsNumbered other.speed) (sym (speed_number_is song used p)) (speeds.stored p (used_at p is)) in
    record {
      rows = record {
        nothing = speed_number_is song used 0 ∙ rw none_used refl;
        some = λ p is none. let first = (there p is).first in omega arith;
        row = λ p is.
            sym (row_of_table other Speed (table_number song used Speed p))
            ∙ ap (row_at other.speed) (speed_number_is song used p) ∙ speeds.row p (used_at p is);
      };
      stored = there;
    }

-- ---- all tables

pub packed_few : (table : ProgramTable) (rows : List TableRow) → rows ≡ program_rows table →
    length rows ≤ length table.rows
packed_few table rows are =
    let e = ap length are in
    let count = program_count table in
    let most = rank_most (keeps table) (length table.rows) in
    omega arith

pub tables_agree : (song : Song) (used : UsedSets) (packed : PackedSong) → IsPlayable song → AreUsedSets song used →
    IsPacked song used packed → (name : TableName) → TableAgrees (new_numbers song used) song (unpacked_song packed)
    name
tables_agree song used packed play are is Wave =
    table_agrees (new_numbers song used) song (unpacked_song packed) Wave (wave_programs song used)
    (keeps_all (wave_programs song used) packed.wave (playable_programs_are_whole song used play are).0 is.wave)
    (wave_is song used play are)
tables_agree song used packed play are is Pulse =
    table_agrees (new_numbers song used) song (unpacked_song packed) Pulse (pulse_programs song used)
    (keeps_all (pulse_programs song used) packed.pulse (playable_programs_are_whole song used play are).1 is.pulse)
    (pulse_is song used are)
tables_agree song used packed play are is Filter =
    table_agrees (new_numbers song used) song (unpacked_song packed) Filter (filter_programs song used)
    (keeps_all (filter_programs song used) packed.filter (playable_programs_are_whole song used play are).2 is.filter)
    (filter_is song used are)
tables_agree song used packed play are is Speed = speed_agrees song used (unpacked_song packed) are is.speed

pub all_programs_agree : (song : Song) (used : UsedSets) (packed : PackedSong) → KeepsLimits song → IsPlayable song →
    AreUsedSets song used → IsPacked song used packed → (name : TableName) → HasPrograms name →
    ProgramsAgree (new_numbers song used) song name
all_programs_agree song used packed limits play are is Wave programs =
    let few = packed_few (wave_programs song used) packed.wave is.wave in
    let count = length-map song.wave (wave_row song used) in
    let most = limits.wave.count in
    programs_agree (new_numbers song used) song (unpacked_song packed) Wave (wave_programs song used)
    (keeps_all (wave_programs song used) packed.wave (playable_programs_are_whole song used play are).0 is.wave)
    (wave_is song used play are) (omega arith)
all_programs_agree song used packed limits play are is Pulse programs =
    let few = packed_few (pulse_programs song used) packed.pulse is.pulse in
    let most = limits.pulse.count in
    programs_agree (new_numbers song used) song (unpacked_song packed) Pulse (pulse_programs song used)
    (keeps_all (pulse_programs song used) packed.pulse (playable_programs_are_whole song used play are).1 is.pulse)
    (pulse_is song used are) (omega arith)
all_programs_agree song used packed limits play are is Filter programs =
    let few = packed_few (filter_programs song used) packed.filter is.filter in
    let most = limits.filter.count in
    programs_agree (new_numbers song used) song (unpacked_song packed) Filter (filter_programs song used)
    (keeps_all (filter_programs song used) packed.filter (playable_programs_are_whole song used play are).2 is.filter)
    (filter_is song used are) (omega arith)
all_programs_agree song used packed limits play are is Speed programs = absurd (programs refl)
