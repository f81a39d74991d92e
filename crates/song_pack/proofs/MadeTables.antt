-- The tables that are made are those of the packed song, under the new numbers.
use Rattle.std.proofs.Common.{◌≡◌, ℕ, ◌<◌, Bool, true, false, List, map, length, slice_index, refl, sym}
use Rattle.std.proofs.Common.{◌∙◌, ap, subst, inl, inr}
use Rattle.std.proofs.lemmas.Bool.{cases_Bool}
use mathlib.Core.Path.{fun_ext}
use Rattle.song_model.specs.declared.tables.TableRow.{TableRow}
use Rattle.song_model.specs.declared.tables.TableName.{TableName}
use Rattle.song_model.specs.declared.tables.TableName.TheVariants.{Wave, Pulse, Filter, Speed}
use Rattle.song_model.specs.declared.songs.Song.{Song}
use Rattle.song_model.specs.LookUp.{IsNumbered}
use Rattle.play_model.specs.Reached.{IsReached, IsPointer}
use Rattle.play_model.proofs.Laws.{closed_lem}
use Rattle.usage.specs.declared.parts.UsedParts.{UsedParts}
use Rattle.usage.specs.Parts.{AreUsedParts}
use Rattle.packing_rules.specs.ProgramMaps.{row_at}
use Rattle.packing_rules.specs.UsedSets.{UsedSets, IsTestOf, AreUsedSets}
use Rattle.packing_rules.specs.Renumbering.{speed_number, foreign_number, wave_row, table_number}
use Rattle.table_pack.specs.Marks.{is_marked}
use Rattle.table_pack.specs.Speeds.{IsSpeedMerge}
use Rattle.song_pack.specs.declared.numbers.ForeignNumbers.{ForeignNumbers}
use Rattle.song_pack.specs.declared.numbers.RowNumbers.{RowNumbers}
use Rattle.song_pack.specs.Numbers.{reached_marks, pointer_marks, sets_of, foreign_of, row_of, foreign_row}
use Rattle.song_pack.specs.Programs.{AreMadeSpeeds}
use Rattle.song_pack.proofs.StoredTables.{filter_number, pulse_number, speed_number_is}
use Rattle.song_pack.proofs.PackedTables.{marked_within}

-- ---- used parts

reached_are : (song : Song) (parts : UsedParts) → AreUsedParts song parts → (name : TableName) →
    IsTestOf (IsReached song name) (is_marked (reached_marks parts name))
reached_are song parts are Wave = are.wave.each
reached_are song parts are Pulse = are.pulse.each
reached_are song parts are Filter = are.filter.each
reached_are song parts are Speed = λ n. (
  λ (is : is_marked parts.speed n ≡ true). ((closed_lem song).speed n).1 ((are.speed.each n).0 is),
  λ (is : IsReached song Speed n). (are.speed.each n).1 (((closed_lem song).speed n).0 is),
)

pointers_are : (song : Song) (parts : UsedParts) → AreUsedParts song parts → (name : TableName) →
    IsTestOf (IsPointer song name) (is_marked (pointer_marks parts name))
pointers_are song parts are Wave = are.wave_pointers.each
pointers_are song parts are Pulse = are.pulse_pointers.each
pointers_are song parts are Filter = are.filter_pointers.each
pointers_are song parts are Speed = are.speed.each

pub used_sets : (song : Song) (parts : UsedParts) → AreUsedParts song parts → AreUsedSets song (sets_of parts)
used_sets song parts are = record {
  patterns = are.patterns.each;
  instruments = are.instruments.each;
  reached = reached_are song parts are;
  pointers = pointers_are song parts are;
}

-- ---- the speed table

pub no_speed_0 : (song : Song) (parts : UsedParts) → AreUsedParts song parts → is_marked parts.speed 0 ≡ false
no_speed_0 song parts are = elim (cases_Bool (is_marked parts.speed 0)) [
  | inl marked ↦ absurd
      ((closed_lem song).some Speed 0 ((closed_lem song).pointer Speed 0 ((are.speed.each 0).0 marked)) refl)
  | inr none ↦ none
]

unused_number : (song : Song) (used : ℕ → Bool) (p : ℕ) → used p ≡ false → speed_number song used p ≡ 0
unfolding speed_number
unused_number song used p none = rw none refl

pub made_speeds : (song : Song) (marks : List Bool) (rows : List TableRow) (to : List ℕ) → length marks ≡ 256 →
    IsSpeedMerge song (is_marked marks) rows (slice_index to) → AreMadeSpeeds song (is_marked marks) rows to
made_speeds song marks rows to long is =
    let small : (p : ℕ) → is_marked marks p ≡ true → p < 256 =
    λ p marked. subst (λ (n : ℕ). p < n) long (marked_within marks p marked) in
    let number : (p : ℕ) → is_marked marks p ≡ true → slice_index to p ≡ speed_number song (is_marked marks) p =
    λ p marked. is.number p marked (small p marked) in
    record {
      rows_are = record {
        rows_are = is.rows_are;
        stored = λ p marked. subst (IsNumbered rows) (number p marked) (is.stored p marked (small p marked));
        row = λ p marked. ap (row_at rows) (sym (number p marked)) ∙ is.row p marked (small p marked);
      };
      number = λ p. elim (cases_Bool (is_marked marks p)) [
        | inl marked ↦ number p marked
        | inr none ↦ is.none p none ∙ sym (unused_number song (is_marked marks) p none)
      ];
    }

-- ---- the wave table

pub foreign_numbers : (song : Song) (used : UsedSets) (numbers : ForeignNumbers) →
    ((p : ℕ) → slice_index numbers.pulse p ≡ foreign_number song used Pulse p) →
    ((p : ℕ) → slice_index numbers.filter p ≡ foreign_number song used Filter p) →
    ((p : ℕ) → slice_index numbers.speed p ≡ foreign_number song used Speed p) → (name : TableName) (p : ℕ) →
    foreign_of numbers name p ≡ foreign_number song used name p
foreign_numbers song used numbers pulse filter speed Wave p = refl
foreign_numbers song used numbers pulse filter speed Pulse p = pulse p
foreign_numbers song used numbers pulse filter speed Filter p = filter p
foreign_numbers song used numbers pulse filter speed Speed p = speed p

pub wave_rows_are : (song : Song) (used : UsedSets) (numbers : ForeignNumbers) (rows : List TableRow) →
    ((name : TableName) (p : ℕ) → foreign_of numbers name p ≡ foreign_number song used name p) →
    rows ≡ map (foreign_row (foreign_of numbers)) song.wave → rows ≡ map (wave_row song used) song.wave
wave_rows_are song used numbers rows same are =
    are ∙ ap (λ (f : TableName → ℕ → ℕ). map (foreign_row f) song.wave)
    (fun_ext (λ (name : TableName). fun_ext (λ (p : ℕ). same name p)))

-- ---- all tables

pub row_numbers : (song : Song) (used : UsedSets) (numbers : RowNumbers) →
    ((p : ℕ) → slice_index numbers.wave p ≡ table_number song used Wave p) →
    ((name : TableName) (p : ℕ) → foreign_of numbers.others name p ≡ foreign_number song used name p) →
    (name : TableName) (p : ℕ) → row_of numbers name p ≡ table_number song used name p
row_numbers song used numbers wave others Wave p = wave p
row_numbers song used numbers wave others Pulse p = others Pulse p ∙ sym (pulse_number song used p)
row_numbers song used numbers wave others Filter p = others Filter p ∙ sym (filter_number song used p)
row_numbers song used numbers wave others Speed p = others Speed p ∙ sym (speed_number_is song used p)
