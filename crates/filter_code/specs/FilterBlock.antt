-- The code of the filter step with the registers 21 to 24, and what it does. This is the project's own player.
use Rattle.std.specs.Prelude.{◌≡◌, ◌≢◌, ℕ, ◌+◌, ◌<◌, ◌≤◌, ◌++◌, true, false}
use Rattle.song_model.specs.declared.tables.TableName.TheVariants.{Filter}
use Rattle.play_model.specs.LookUps.{LookUps}
use Rattle.play_model.specs.State.{Common}
use Rattle.play_model.specs.FilterStep.{filter_step}
use Rattle.play_model.specs.Frame.{filter_registers}
use Rattle.scopes.specs.Desk.{Desk, Layout}
use Rattle.scopes.specs.Trees.{Tree, tree_of}
use Rattle.scopes.specs.Meaning.{each_one, ran}
use Rattle.player_memory.specs.declared.conditions.TheConstants.{FILTER_TABLE}
use Rattle.player_memory.specs.declared.labels.TheConstants.{FILTER_LEFTS, NEXT_FILTER_LEFTS, FILTER_RIGHTS}
use Rattle.player_memory.specs.FactLines.{KeepsShared}
use Rattle.player_memory.specs.Rooms.{IsRoom, MayUse}
use Rattle.player_memory.specs.Variables.{CommonBytesStand}
use Rattle.player_memory.specs.Playing.{shared_at, IsTable, PlaysShared}
use Rattle.player_text.specs.declared.filter.TheConstants.{FILTER_STEP, FILTER_REGISTERS}

abbrev pub filter_tree : Tree
filter_tree = tree_of (FILTER_STEP.now ++ FILTER_REGISTERS.now)

-- The filter program is on a row of a table with so many rows, or has stopped. Behind the row is another, and behind a
-- row $00 that belongs to it one more.
pub record IsOnFilterRow (look : LookUps) (count : ℕ) (c : Common) : Type 0 where
  pub next : c.filter_ptr ≢ 0 → c.filter_ptr < count
  pub pair : c.filter_ptr ≢ 0 → 0x80 ≤ (look.row Filter c.filter_ptr).left →
      (look.row Filter (c.filter_ptr + 1)).left ≡ 0 → c.filter_ptr + 1 < count

-- the filter table stands in the lists, also under the label of the byte behind that before the first row
pub record HasFilterTable (layout : Layout) (rows : ℕ) (at : ℕ → ℕ) (look : LookUps) (count : ℕ) : Type 0 where
  pub table : IsTable layout rows at FILTER_LEFTS FILTER_RIGHTS count (look.row Filter)
  pub next : layout.address NEXT_FILTER_LEFTS ≡ layout.address FILTER_LEFTS + 1

-- In any memory that holds what the voices share, the code does the filter step, and writes the registers 21 to 24 of
-- the frame. Where the code of the filter table isn't kept, no program is on; and the lines that facts or features have
-- in common are kept with each of them.
abbrev pub FilterBlockSteps : Type 0
FilterBlockSteps =
    (layout : Layout) (rows count : ℕ) (look : LookUps) (c : Common) (desk : Desk) → IsRoom layout rows →
    MayUse layout rows → HasFilterTable layout rows desk.at look count → desk.cpu.d ≡ false →
    CommonBytesStand layout.holds c (shared_at layout desk.at) → IsOnFilterRow look count c →
    (c.filter_ptr ≢ 0 → layout.holds FILTER_TABLE ≡ true) → KeepsShared layout →
    PlaysShared layout rows desk (ran each_one layout filter_tree desk) (filter_step look c)
    (filter_registers (filter_step look c))
