-- What is so of the player's blocks: they have lines, rest on few registers, and name the player's labels alone; and
-- how long and how heavy they are. This is the project's own player.
use Rattle.std.specs.Prelude.{◌≡◌, ℕ, ◌<◌, ◌≤◌, ◌&&◌, ◌||◌, ◌==◌, Bool, true, false, List, length}
use Rattle.std.specs.Prelude.{nat_le, nat_lt}
use Rattle.scopes.specs.declared.line.Line.{Line}
use Rattle.scopes.specs.Trees.{tree_of}
use Rattle.scope_lines.specs.Sizes.{size}
use Rattle.scope_lines.specs.Weights.{weight}
use Rattle.scope_lines.specs.Reach.{nothing_around, has_lines}
use Rattle.scope_lines.specs.Readings.{is_block}
use Rattle.scope_lines.specs.Known.{nothing, the_a, the_x, shown, either, known}
use Rattle.scope_lines.specs.Homes.{uses_only}
use Rattle.player_memory.specs.declared.labels.TheConstants.{VARIABLES, FREQUENCY_LOWS, ONE_WAVE, SLIDES_LOW}
use Rattle.player_memory.specs.declared.labels.TheConstants.{SLIDES_HIGH, GATE_FROM, ENVELOPE_FROM}
use Rattle.player_memory.specs.declared.labels.TheConstants.{FILTER_LEFTS, NEXT_FILTER_LEFTS}
use Rattle.player_memory.specs.declared.labels.TheConstants.{FILTER_RIGHTS, ORDERS_LOW, ORDERS_HIGH}
use Rattle.player_memory.specs.Labels.{is_shared}
use Rattle.player_text.specs.declared.texts.Start.{Start}
use Rattle.player_text.specs.Texts.{filter_lines, filter_tree, voice_lines, voice_tree, init_lines, init_tree}

-- the numbers with which a subtune begins are bytes
pub record HasBytes (start : Start) : Type 0 where
  pub tempo : start.tempo < 256
  pub funk : start.funk < 256
  pub timer_low : start.timer_low < 256
  pub timer_high : start.timer_high < 256

-- ---- they are blocks, and have lines whichever conditions hold

pub record AreBlocks : Type 0 where
  pub filter : is_block filter_lines ≡ true
  pub voice : is_block voice_lines ≡ true
  pub init : (start : Start) (cleared : ℕ) → HasBytes start → cleared < 256 → is_block (init_lines start cleared) ≡ true

pub record HaveLines : Type 0 where
  pub filter : has_lines nothing_around filter_tree ≡ true
  pub voice : has_lines nothing_around voice_tree ≡ true
  pub init : (start : Start) (cleared : ℕ) → HasBytes start → cleared < 256 →
      has_lines nothing_around (init_tree start cleared) ≡ true

-- ---- on which registers they rest

-- the filter on none, a voice on X, the beginning of a subtune on A; and on no fewer
pub record RestOnFew : Type 0 where
  pub filter : (known filter_tree nothing).reads_known ≡ true
  pub voice : (known voice_tree the_x).reads_known ≡ true
  pub voice_by_load : (known voice_tree (either the_x shown)).reads_known ≡ true
  pub voice_without : (known voice_tree nothing).reads_known ≡ false
  pub init : (start : Start) (cleared : ℕ) → (known (init_tree start cleared) the_a).reads_known ≡ true
  pub init_without : (start : Start) (cleared : ℕ) → (known (init_tree start cleared) nothing).reads_known ≡ false

-- ---- which labels they name

abbrev pub is_variable : ℕ → Bool
is_variable label = nat_lt label VARIABLES

abbrev pub is_list : ℕ → Bool
is_list label =
    nat_le FREQUENCY_LOWS label && nat_le label ONE_WAVE || label == SLIDES_LOW || label == SLIDES_HIGH
    || label == GATE_FROM || label == ENVELOPE_FROM

abbrev pub is_filter_list : ℕ → Bool
is_filter_list label = label == FILTER_LEFTS || label == NEXT_FILTER_LEFTS || label == FILTER_RIGHTS

abbrev pub is_order_list : ℕ → Bool
is_order_list label = label == ORDERS_LOW || label == ORDERS_HIGH

-- the filter the variables of all voices and the sides of its table; a voice variables and lists, but not those; the
-- beginning of a subtune variables, and the lists of the orderlists' addresses
pub record NameFew : Type 0 where
  pub filter : uses_only (λ label. is_shared label || is_filter_list label) filter_tree ≡ true
  pub voice : uses_only (λ label. is_variable label || is_list label) voice_tree ≡ true
  pub init : (start : Start) (cleared : ℕ) →
      uses_only (λ label. is_variable label || is_order_list label) (init_tree start cleared) ≡ true

-- ---- how long and how heavy they are

-- a block has so many lines; so many bytes where no condition holds, so many where all do, and never more than the
-- greatest; and it runs at most so many instructions
pub record Measures (lines : List Line) (count bare full greatest heavy : ℕ) : Type 0 where
  pub counts : length lines ≡ count
  pub takes_bare : size (λ condition. false) (tree_of lines) ≡ bare
  pub takes_full : size (λ condition. true) (tree_of lines) ≡ full
  pub takes_most : (holds : ℕ → Bool) → size holds (tree_of lines) ≤ greatest
  pub weighs : weight (tree_of lines) ≡ heavy

-- Of a voice the walk alone has 4,340 instructions, in 255 turns, and the halves of a half tone 64, in 16. It takes most
-- where the first instrument holds no more than another.
pub record AreMeasured : Type 0 where
  pub filter : Measures filter_lines 66 16 102 102 40
  pub voice : Measures voice_lines 1023 312 1336 1338 4934
  pub init : (start : Start) (cleared : ℕ) → Measures (init_lines start cleared) 62 46 92 92 425
