-- What of the tables a song that adds no row comes to, the song comes to.
use Rattle.std.proofs.Common.{ℕ, List, sym, ◌∙◌, ap}
use Rattle.song_model.specs.declared.tables.TableRow.{TableRow}
use Rattle.song_model.specs.declared.tables.TableName.{TableName}
use Rattle.song_model.specs.declared.tables.TableName.TheVariants.{Wave}
use Rattle.song_model.specs.declared.songs.Song.{Song}
use Rattle.song_model.specs.Pointers.{instrument_pointer, wave_row_table}
use Rattle.play_model.specs.Reached.{is_jump, led_to, IsPlayedPointer, of_instrument, of_row, IsWaveRowPointer}
use Rattle.play_model.specs.Reached.{IsReached, played, pointed, led, IsPointer, of_played, of_wave_row, IsStep}
use Rattle.play_model.specs.Playable.{IsJumpTarget}
use Rattle.same_uses.specs.SameUses.{AddsNoRow}
use Rattle.same_uses.proofs.Parts.{same_row, same_instrument, row_used, instrument_used}

module _ (song other : Song) (adds : AddsNoRow song other) where
  pointer_played : (name : TableName) (p : ℕ) → IsPlayedPointer other name p → IsPlayedPointer song name p
  pointer_played name p (of_instrument i used is some) =
      of_instrument i (instrument_used song other adds i used)
      (ap (instrument_pointer name) (sym (same_instrument song other adds i)) ∙ is) some
  pointer_played name p (of_row row used table is some) = of_row row (row_used song other adds row used) table is some

  wave_pointer : (r : ℕ) (name : TableName) (p : ℕ) → IsWaveRowPointer other r name p → IsWaveRowPointer song r name p
  wave_pointer r name p is =
      let same = sym (same_row song other adds Wave r) in
      record {
        table = ap (λ (row : TableRow). wave_row_table row.left) same ∙ is.table;
        right = ap (λ (row : TableRow). row.right) same ∙ is.right;
        some = is.some;
      }

  pub row_reached : (name : TableName) (p : ℕ) → IsReached other name p → IsReached song name p
  row_reached name p (played pointer) = played (pointer_played name p pointer)
  row_reached name p (pointed r reached pointer) =
      pointed r (row_reached Wave r reached) (wave_pointer r name p pointer)
  row_reached name p (led q reached goes) =
      led q (row_reached name q reached)
      (ap (λ (rows : List TableRow). led_to name rows q) (sym (adds.tables name)) ∙ goes)

  pub is_pointer : (name : TableName) (p : ℕ) → IsPointer other name p → IsPointer song name p
  is_pointer name p (of_played pointer) = of_played (pointer_played name p pointer)
  is_pointer name p (of_wave_row r reached pointer) =
      of_wave_row r (row_reached Wave r reached) (wave_pointer r name p pointer)

  pub is_target : (name : TableName) (p : ℕ) → IsJumpTarget other name p → IsJumpTarget song name p
  is_target name p target =
      let same = sym (same_row song other adds name target.p) in
      record {
        p = target.p;
        reached = row_reached name target.p target.reached;
        jump = ap (is_jump name) same ∙ target.jump;
        target = ap (λ (row : TableRow). row.right) same ∙ target.target;
        some = target.some;
      }

  pub is_step : (name : TableName) (p : ℕ) → IsStep other name p → IsStep song name p
  is_step name p step = record {
    reached = row_reached name p step.reached;
    no_jump = ap (is_jump name) (sym (same_row song other adds name p)) ∙ step.no_jump;
  }
