-- The program tables of a playable song are whole.
use Rattle.std.proofs.Common.{◌≡◌, ◌≢◌, ℕ, ◌+◌, ◌≤◌, Bool, true, false, ◌&&◌, ◌==◌}
use Rattle.std.proofs.Common.{List, length, map, Some, refl, sym, ◌∙◌, ap, subst}
use Rattle.std.proofs.lemmas.Bool.{or_parts, eqb-true, ne_eqb}
use Rattle.std.proofs.lemmas.List.{length-map}
use Rattle.song_model.specs.declared.tables.TableRow.{TableRow}
use Rattle.song_model.specs.declared.tables.TableName.{TableName}
use Rattle.song_model.specs.declared.tables.TableName.TheVariants.{Wave, Pulse, Filter}
use Rattle.song_model.specs.declared.songs.Song.{Song}
use Rattle.song_model.specs.LookUp.{IsNumbered, table_of, table_row}
use Rattle.play_model.specs.Reached.{row_led_to}
use Rattle.play_model.specs.Playable.{HasPrograms, IsPlayable}
use Rattle.play_model.proofs.Laws.{closed_lem, whole_lem, led_by}
use Rattle.packing_rules.specs.Segments.{IsWhole, is_jump_row, is_end}
use Rattle.packing_rules.specs.ProgramMaps.{row_at}
use Rattle.packing_rules.specs.UsedSets.{UsedSets, AreUsedSets}
use Rattle.packing_rules.specs.Renumbering.{wave_row}
use Rattle.packing_rules.specs.ProgramLaws.{PlayableProgramsAreWhole}
use Rattle.packing_rules.proofs.StandIns.{numbered_map}

-- the rows say of programs what those of the song's table say
record SaysTheSame (song : Song) (name : TableName) (rows : List TableRow) (pulse : Bool) : Type 0 where
  count : length rows ≡ length (table_of song name)
  goes : (p : ℕ) → IsNumbered (table_of song name) p → is_end pulse (row_at rows p) ≡ false →
      row_led_to name (table_row song name p) p ≡ Some (p + 1)
  jumps : (p : ℕ) → IsNumbered (table_of song name) p → is_jump_row (row_at rows p) ≡ true → (row_at rows p).right ≢ 0 →
      row_led_to name (table_row song name p) p ≡ Some (row_at rows p).right

whole_table : (song : Song) (used : UsedSets) (name : TableName) (rows : List TableRow) (pulse : Bool) →
    HasPrograms name → IsPlayable song → AreUsedSets song used → SaysTheSame song name rows pulse →
    IsWhole (record { rows = rows; reached = used.reached name; entries = used.pointers name; pulse = pulse })
whole_table song used name rows pulse programs play are says =
    let whole = whole_lem song play in
    let closed = closed_lem song in
    let stored = λ (p : ℕ) (reached : used.reached name p ≡ true).
    whole.row name p programs ((are.reached name p).0 reached) in
    let led = λ (p q : ℕ) (reached : used.reached name p ≡ true)
    (e : row_led_to name (table_row song name p) p ≡ Some q).
    (are.reached name q).1
    (closed.led name p q ((are.reached name p).0 reached)
    (led_by song name p (stored p reached).first (stored p reached).last ∙ e)) in
    record {
      stored = λ p reached. record {
        first = (stored p reached).first;
        last = subst (λ (n : ℕ). p ≤ n) (sym says.count) (stored p reached).last;
      };
      entry = λ p pointed. (are.reached name p).1 (closed.pointer name p ((are.pointers name p).0 pointed));
      next = λ p reached goes. led p (p + 1) reached (says.goes p (stored p reached) goes);
      target = λ p reached jump some.
          led p (row_at rows p).right reached (says.jumps p (stored p reached) jump some);
    }

row_of_table : (song : Song) (name : TableName) (p : ℕ) → row_at (table_of song name) p ≡ table_row song name p
unfolding table_row
row_of_table song name p = refl

goes_plain : (row : TableRow) → is_end false row ≡ false → is_jump_row row ≡ false
goes_plain row h = (or_parts (is_jump_row row) (false && (row.left == 0)) h).0

filter_says : (song : Song) → SaysTheSame song Filter song.filter false
filter_says song = record {
  count = refl;
  goes = λ p _ h.
      let e : is_jump_row (table_row song Filter p) ≡ false =
      ap is_jump_row (sym (row_of_table song Filter p)) ∙ goes_plain (row_at song.filter p) h in
      rw e refl;
  jumps = λ p _ jump some.
      let same = row_of_table song Filter p in
      let e : is_jump_row (table_row song Filter p) ≡ true = ap is_jump_row (sym same) ∙ jump in
      let right : (row_at song.filter p).right ≡ (table_row song Filter p).right =
      ap (λ (r : TableRow). r.right) same in
      let none : ((table_row song Filter p).right == 0) ≡ false =
      ne_eqb (table_row song Filter p).right 0 (λ (z : (table_row song Filter p).right ≡ 0). some (right ∙ z)) in
      rw (e, none) (ap (λ (k : ℕ). Some k) (sym right));
}

pulse_says : (song : Song) → SaysTheSame song Pulse song.pulse true
pulse_says song = record {
  count = refl;
  goes = λ p _ h.
      let parts = or_parts (is_jump_row (row_at song.pulse p)) (true && ((row_at song.pulse p).left == 0)) h in
      let same = row_of_table song Pulse p in
      let e : is_jump_row (table_row song Pulse p) ≡ false = ap is_jump_row (sym same) ∙ parts.0 in
      let f : ((table_row song Pulse p).left == 0) ≡ false =
      ap (λ (r : TableRow). r.left == 0) (sym same) ∙ parts.1 in
      rw (e, f) refl;
  jumps = λ p _ jump some.
      let same = row_of_table song Pulse p in
      let e : is_jump_row (table_row song Pulse p) ≡ true = ap is_jump_row (sym same) ∙ jump in
      let right : (row_at song.pulse p).right ≡ (table_row song Pulse p).right = ap (λ (r : TableRow). r.right) same in
      let none : ((table_row song Pulse p).right == 0) ≡ false =
      ne_eqb (table_row song Pulse p).right 0 (λ (z : (table_row song Pulse p).right ≡ 0). some (right ∙ z)) in
      rw (e, none) (ap (λ (k : ℕ). Some k) (sym right));
}

-- a jump row of the wave table points into no other table
pub wave_jump : (song : Song) (used : UsedSets) (row : TableRow) → is_jump_row row ≡ true →
    (wave_row song used row).right ≡ row.right
wave_jump song used row jump = let e : row.left ≡ 0xFF = eqb-true row.left 0xFF jump in rw e refl

wave_says : (song : Song) (used : UsedSets) → SaysTheSame song Wave (map (wave_row song used) song.wave) false
wave_says song used =
    let same = λ (p : ℕ) (is : IsNumbered song.wave p).
    numbered_map (wave_row song used) song.wave p is ∙ ap (wave_row song used) (row_of_table song Wave p) in
    record {
      count = length-map song.wave (wave_row song used);
      goes = λ p is h.
          let e : is_jump_row (table_row song Wave p) ≡ false =
          ap is_jump_row (sym (same p is)) ∙ goes_plain (row_at (map (wave_row song used) song.wave) p) h in
          rw e refl;
      jumps = λ p is jump some.
          let e : is_jump_row (table_row song Wave p) ≡ true = ap is_jump_row (sym (same p is)) ∙ jump in
          let right : (row_at (map (wave_row song used) song.wave) p).right ≡ (table_row song Wave p).right =
          ap (λ (r : TableRow). r.right) (same p is) ∙ wave_jump song used (table_row song Wave p) e in
          let none : ((table_row song Wave p).right == 0) ≡ false =
          ne_eqb (table_row song Wave p).right 0 (λ (z : (table_row song Wave p).right ≡ 0). some (right ∙ z)) in
          rw (e, none) (ap (λ (k : ℕ). Some k) (sym right));
    }

apart_wave : HasPrograms Wave
apart_wave e = cc

apart_pulse : HasPrograms Pulse
apart_pulse e = cc

apart_filter : HasPrograms Filter
apart_filter e = cc

pub playable_programs_are_whole : PlayableProgramsAreWhole
playable_programs_are_whole song used play are = (
  whole_table song used Wave (map (wave_row song used) song.wave) false apart_wave play are (wave_says song used),
  whole_table song used Pulse song.pulse true apart_pulse play are (pulse_says song),
  whole_table song used Filter song.filter false apart_filter play are (filter_says song),
)
