-- The pointers into a table, marked instrument after instrument and command after command.
use Rattle.std.proofs.Common.{ℕ, ◌≤◌, ◌⊎◌, Bool, false, List, length, replicate, refl, inl, inr}
use Rattle.song_model.specs.declared.tables.TableName.{TableName}
use Rattle.song_model.specs.declared.songs.Song.{Song}
use Rattle.play_model.specs.Used.{IsUsedInstrument}
use Rattle.play_model.specs.Reached.{IsPlayedPointer, of_instrument, of_row}
use Rattle.usage.specs.Marks.{AreMarks}
use Rattle.usage.specs.Building.{Adds, SomeBelow}
use Rattle.usage.specs.Rows.{AreRowsOf}
use Rattle.usage.specs.Pointers.{PointsAt, IsInstrumentPointer, IsParameterAt, IsParameter, CommandPoints, IsCommandPointer}
use Rattle.usage.specs.declared.pointers.CommandPlace.{CommandPlace}
use Rattle.usage.specs.declared.pointers.CommandPlace.TheVariants.{Pattern}
use Rattle.usage.specs.declared.rows.RowMarks.{RowMarks}
use Rattle.usage.proofs.AddedMarks.{adds_same, adds_both, marks_from_none, marked_inside, command_inside}

pub all_instruments : (song : Song) (name : TableName) (used : List Bool) (i : ℕ) {old new : List Bool} →
    AreMarks (IsUsedInstrument song) used → length used ≤ i →
    Adds (SomeBelow (PointsAt song name) i) old new → Adds (IsInstrumentPointer song name) old new
all_instruments song name used i marks count a =
    adds_same (IsInstrumentPointer song name) (λ p s. record { instrument = s.k; points = s.stands })
    (λ p h. record {
      k = h.instrument;
      below = marked_inside used i h.instrument count
          ((marks.each h.instrument).1 h.points.used);
      stands = h.points;
    }) a

pub all_parameters : (parameters : List Bool) (i : ℕ) {old new : List Bool} → length parameters ≤ i →
    Adds (SomeBelow (IsParameterAt parameters) i) old new →
    Adds (IsParameter parameters) old new
all_parameters parameters i count a =
    adds_same (IsParameter parameters) (λ p s. s.stands.parameter)
    (λ p h. record {
      k = p;
      below = marked_inside parameters i p count h.marked;
      stands =
          record { is = refl; parameter = h };
    }) a

pub all_commands : (place : CommandPlace) (name : TableName) (commands : List (List Bool)) (i : ℕ) {old new : List Bool}
    → length commands ≤ i →
    Adds (SomeBelow (CommandPoints place name commands) i) old new → Adds (IsCommandPointer place name commands) old new
all_commands place name commands i count a =
    adds_same (IsCommandPointer place name commands) (λ p s. record { command = s.k; points = s.stands })
    (λ p h. record {
      k = h.command;
      below = command_inside commands i h.command p count h.points.parameter.marked;
      stands = h.points;
    }) a

-- ---- what is said of a song

played_from : (song : Song) (name : TableName) (rows : RowMarks) (p : ℕ) → AreRowsOf song rows →
    IsInstrumentPointer song name p ⊎ IsCommandPointer Pattern name rows.commands p → IsPlayedPointer song name p
played_from song name rows p marks (inl h) = of_instrument h.instrument h.points.used h.points.points h.points.some
played_from song name rows p marks (inr h) =
    let u = ((marks.commands.each h.command).each p).0 h.points.parameter.marked in
    of_row u.row u.used (rw u.has.0 h.points.points) u.has.1 h.points.parameter.some

played_to : (song : Song) (name : TableName) (rows : RowMarks) (p : ℕ) → AreRowsOf song rows →
    IsPlayedPointer song name p →
    IsInstrumentPointer song name p ⊎ IsCommandPointer Pattern name rows.commands p
played_to song name rows p marks (of_instrument i used points some) =
    inl (record { instrument = i; points = record { used = used; points = points; some = some } })
played_to song name rows p marks (of_row row used points is some) =
    inr (record {
      command = row.command;
      points = record {
        points = points;
        parameter = record {
          marked = ((marks.commands.each row.command).each p).1
              (record { row = row; used = used; has = (refl, is) });
          some = some;
        };
      };
    })

pub played_of : (song : Song) (name : TableName) (rows : RowMarks) {mid new : List Bool} → AreRowsOf song rows →
    Adds (IsInstrumentPointer song name) (replicate 256 false) mid →
    Adds (IsCommandPointer Pattern name rows.commands) mid new →
    AreMarks (IsPlayedPointer song name) new
played_of song name rows marks a b =
    marks_from_none 256 (adds_same (IsPlayedPointer song name) (λ p w. played_from song name rows p marks w)
    (λ p h. played_to song name rows p marks h) (adds_both a b))
