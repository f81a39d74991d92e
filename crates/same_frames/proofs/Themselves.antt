-- Without new numbers a song's own look-ups agree with it.
use Rattle.std.proofs.Common.{◌≡◌, ◌≢◌, ℕ, List, [], ◌∷◌, refl, sym, ap, inl, inr, arith}
use Rattle.song_model.specs.declared.rows.Row.{Row}
use Rattle.song_model.specs.declared.tables.TableRow.{TableRow}
use Rattle.song_model.specs.declared.tables.TableName.{TableName}
use Rattle.song_model.specs.declared.tables.TableName.TheVariants.{Speed}
use Rattle.song_model.specs.declared.songs.Song.{Song}
use Rattle.song_model.specs.LookUp.{zero_table_row, table_row, pattern_at}
use Rattle.song_model.specs.Pointers.{command_table}
use Rattle.play_model.specs.LookUps.{look_ups_of}
use Rattle.play_model.specs.Used.{IsUsedInstrument}
use Rattle.play_model.proofs.Laws.{closed_lem, reached_byte_lem}
use Rattle.same_frames.specs.Maps.{same_numbers, right_table, moved_row, named_after, AreRowsFor}
use Rattle.same_frames.specs.Agreement.{RowsAgree}
use Rattle.same_frames.specs.FrameLaws.{SongsAgreeWithThemselves}
use Rattle.same_frames.proofs.Moved.{same_pointer}

same_row : (name : TableName) (row : TableRow) → row ≡ moved_row same_numbers name row
same_row name row =
    ap (λ (right : ℕ). record row { right = right }) (sym (same_pointer (right_table name row) row.right))

rows_agree : (song : Song) (name : TableName) → RowsAgree same_numbers song (look_ups_of song) name
rows_agree song name = record {
  nothing = refl;
  some = (closed_lem song).some name;
  row = λ p is. same_row name (table_row song name p);
}

speed_0 : (song : Song) → table_row song Speed 0 ≡ zero_table_row
unfolding table_row
speed_0 song = refl

used_some : (song : Song) (i : ℕ) → IsUsedInstrument song i → i ≢ 0
used_some song i (inl first) none = omega arith
used_some song i (inr named) none = named.some none

same_rows : (last : ℕ) (rows : List Row) → AreRowsFor same_numbers last rows rows
same_rows last [] = tt
same_rows last (row ∷ rows) = (
  record {
    note = refl;
    instrument = refl;
    command = refl;
    param = λ some. sym (same_pointer (command_table row.command) row.param);
  },
  same_rows (named_after last row) rows,
)

pub themselves_lem : SongsAgreeWithThemselves
themselves_lem song limits playable = record {
  rows = rows_agree song;
  programs = λ name programs. record {
    small = λ p is. reached_byte_lem song name p limits playable programs is;
    next = λ p is no_jump more. refl;
  };
  no_speed = speed_0 song;
  instruments = record {
    nothing = refl;
    some = used_some song;
    stands_for = λ i used. record { moved = refl };
  };
  patterns = λ n used. record { each = same_rows 0 (pattern_at song n) };
}
