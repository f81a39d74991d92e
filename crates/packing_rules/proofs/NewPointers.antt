-- The wave table with new pointers into the other tables is read as the wave table is.
use Rattle.std.proofs.Common.{◌≡◌, ℕ, zero, suc, ◌-◌, Bool, true, false, ◌==◌, List, [], ◌∷◌, map}
use Rattle.std.proofs.Common.{get_or, refl, sym, ◌∙◌, ap, inl, inr}
use Rattle.std.proofs.lemmas.Bool.{cases_Bool, eqb-true, eqb-false}
use Rattle.song_model.specs.declared.tables.TableRow.{TableRow}
use Rattle.song_model.specs.declared.songs.Song.{Song}
use Rattle.song_model.specs.LookUp.{zero_table_row}
use Rattle.packing_rules.specs.Segments.{is_jump_row}
use Rattle.packing_rules.specs.ProgramMaps.{row_at, next_place, rows_read}
use Rattle.packing_rules.specs.UsedSets.{UsedSets}
use Rattle.packing_rules.specs.Renumbering.{wave_row}
use Rattle.packing_rules.specs.ProgramLaws.{NewPointersAreRead}
use Rattle.packing_rules.proofs.PlayablePrograms.{wave_jump}
use Rattle.packing_rules.proofs.ProgramMaps.{nothing_read, row_read}

map_at : (f : TableRow → TableRow) (rows : List TableRow) (i : ℕ) (d : TableRow) →
    get_or (map f rows) i (f d) ≡ f (get_or rows i d)
map_at f [] i d = refl
map_at f (row ∷ rows) zero d = refl
map_at f (row ∷ rows) (suc i) d = map_at f rows i d

-- a row that isn't stored is zero, and stays so
row_changes : (song : Song) (used : UsedSets) (p : ℕ) → (b : Bool) → (p == 0) ≡ b →
    row_at (map (wave_row song used) song.wave) p ≡ wave_row song used (row_at song.wave p)
row_changes song used p true e = rw e refl
row_changes song used p false e = rw e (map_at (wave_row song used) song.wave (p - 1) zero_table_row)

place_stays : (song : Song) (used : UsedSets) (p : ℕ) (row : TableRow) → (b : Bool) → is_jump_row row ≡ b →
    next_place false p (wave_row song used row) ≡ next_place false p row
place_stays song used p row true jump = rw jump (wave_jump song used row jump)
place_stays song used p row false none = rw none refl

pub new_pointers_are_read : NewPointersAreRead
new_pointers_are_read song used zero p = refl
new_pointers_are_read song used (suc n) p = elim (cases_Bool (p == 0)) [
  | inl none ↦
      (let zero_is = eqb-true p 0 none in
      nothing_read false (map (wave_row song used) song.wave) n p zero_is
      ∙ ap (map (wave_row song used)) (sym (nothing_read false song.wave n p zero_is)))
  | inr some ↦
      (let not_0 = eqb-false p 0 some in
      let row = row_at song.wave p in
      let changed = row_changes song used p false some in
      let read = λ (q : ℕ). rows_read false (map (wave_row song used) song.wave) n q in
      let place = ap (next_place false p) changed ∙ place_stays song used p row (is_jump_row row) refl in
      row_read false (map (wave_row song used) song.wave) n p not_0
      ∙ ap (λ (x : TableRow). x ∷ read (next_place false p (row_at (map (wave_row song used) song.wave) p))) changed
      ∙ ap (λ (q : ℕ). wave_row song used row ∷ read q) place
      ∙ ap (λ (rows : List TableRow). wave_row song used row ∷ rows)
      (new_pointers_are_read song used n (next_place false p row))
      ∙ ap (map (wave_row song used)) (sym (row_read false song.wave n p not_0)))
]
