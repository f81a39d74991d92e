-- The code of the filter step in memory.
use Rattle.std.proofs.Common.{◌≡◌, ◌≢◌, ℕ, ◌+◌, ◌%◌, ◌<◌, ap, subst, arith}
use Rattle.song_model.specs.declared.tables.TableName.TheVariants.{Filter}
use Rattle.play_model.specs.LookUps.{LookUps}
use Rattle.play_model.specs.FilterStep.{filter_step}
use Rattle.play_model.specs.Frame.{filter_registers}
use Rattle.scopes.specs.Desk.{Desk, Layout}
use Rattle.player_memory.specs.declared.labels.TheConstants.{FILTER_LEFTS, NEXT_FILTER_LEFTS, FILTER_RIGHTS}
use Rattle.player_memory.specs.Playing.{place_in}
use Rattle.player_desk.proofs.Laws.{Reads, reader_of, voice_desk, finds, begins_shared, plays_shared}
use Rattle.filter_code.specs.FilterBlock.{filter_tree, HasFilterTable, FilterBlockSteps}
use Rattle.filter_code.proofs.Filters.{RowAt, NextAt, FilterGround, filter_leads}

-- no voice is asked for: the first one stands for it
row_at : (layout : Layout) (rows count : ℕ) (look : LookUps) (desk : Desk) (p : ℕ) →
    HasFilterTable layout rows desk.at look count → p ≢ 0 → p < count → RowAt (reader_of layout rows 0 desk) look p
row_at layout rows count look desk p has some few = record {
  left = finds layout rows 0 desk FILTER_LEFTS p _ ((has.table.each p (omega (arith, some)) (omega (arith, few))).left);
  right = finds layout rows 0 desk FILTER_RIGHTS p _
      ((has.table.each p (omega (arith, some)) (omega (arith, few))).right);
}

next_place : (layout : Layout) (p : ℕ) → layout.address NEXT_FILTER_LEFTS ≡ layout.address FILTER_LEFTS + 1 →
    place_in layout FILTER_LEFTS (p + 1) ≡ place_in layout NEXT_FILTER_LEFTS p
next_place layout p e = rw e (ap (λ n. n % 65536) (omega arith))

next_at : (layout : Layout) (rows count : ℕ) (look : LookUps) (desk : Desk) (p : ℕ) →
    HasFilterTable layout rows desk.at look count → p < count → NextAt (reader_of layout rows 0 desk) look p
next_at layout rows count look desk p has few = record {
  left = subst (λ place. Reads (reader_of layout rows 0 desk) place (look.row Filter (p + 1)).left)
      (next_place layout p has.next)
      (finds layout rows 0 desk FILTER_LEFTS (p + 1) _
      ((has.table.each (p + 1) (omega arith) (omega (arith, few))).left));
  right = finds layout rows 0 desk FILTER_RIGHTS (p + 1) _
      ((has.table.each (p + 1) (omega arith) (omega (arith, few))).right);
  left_byte = (has.table.each (p + 1) (omega arith) (omega (arith, few))).left_byte;
  below = (let most = has.table.few in omega (arith, most, few));
}

pub filter_block_steps : FilterBlockSteps
filter_block_steps layout rows count look c desk room uses has decimal stand on kept common =
    plays_shared layout rows filter_tree desk (filter_step look c) (filter_registers (filter_step look c)) room uses
    decimal
    (filter_leads (reader_of layout rows 0 desk) look c (voice_desk layout 0 desk) ground kept common
    (begins_shared layout desk c stand))
  where
    ground : FilterGround (reader_of layout rows 0 desk) look c.filter_ptr
    ground = record {
      row = λ some. row_at layout rows count look desk c.filter_ptr has some (on.next some);
      next = λ some. next_at layout rows count look desk c.filter_ptr has (on.next some);
      pair = λ some high zero. next_at layout rows count look desk (c.filter_ptr + 1) has (on.pair some high zero);
    }
