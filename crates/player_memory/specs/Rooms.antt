-- The room that the player's code has in memory: the variables, the slides that it calculates, the pointer in page 0 and
-- the SID's registers. What stands elsewhere it leaves.
use Rattle.std.specs.Prelude.{◌≡◌, ◌≢◌, ℕ, ◌+◌, ◌*◌, ◌<◌, ◌≤◌, ◌⊎◌, true}
use Rattle.scopes.specs.Desk.{Layout}
use Rattle.player_memory.specs.declared.labels.TheConstants.{VARIABLES, FUNK_ONE, FUNK_TWO, SLIDES_LOW, SLIDES_HIGH}
use Rattle.player_memory.specs.declared.conditions.TheConstants.{NOTE_DEPENDENT}
use Rattle.player_memory.specs.Labels.{is_own}

-- each variable has a byte of its own, behind the stack and below $D000; the bytes of the second and the third voice are
-- 7 and 14 behind those of the first, and the second funk tempo is behind the first
pub record AreVariables (layout : Layout) : Type 0 where
  pub from : (label : ℕ) → label < VARIABLES → 0x0200 ≤ layout.address label
  pub to : (label : ℕ) → label < VARIABLES → layout.address label < 0xD000
  pub apart : (one two : ℕ) → one < VARIABLES → two < VARIABLES → layout.address one ≡ layout.address two → one ≡ two
  pub voices : (label voice : ℕ) → is_own label ≡ true → voice < 3 →
      layout.address (label + 7 * voice) ≡ layout.address label + 7 * voice
  pub funk : layout.address FUNK_TWO ≡ layout.address FUNK_ONE + 1

-- a list of so many bytes stands in memory, and its bytes are no variables
pub record IsList (layout : Layout) (label length : ℕ) : Type 0 where
  pub from : 0x0800 ≤ layout.address label
  pub to : layout.address label + length ≤ 0xD000
  pub outside : (variable : ℕ) → variable < VARIABLES →
      (layout.address variable < layout.address label) ⊎ (layout.address label + length ≤ layout.address variable)

-- the two lists of slides, with a byte for each row of the speed table, and row 0
pub record AreSlides (layout : Layout) (rows : ℕ) : Type 0 where
  pub low : IsList layout SLIDES_LOW rows
  pub high : IsList layout SLIDES_HIGH rows
  pub apart : (layout.address SLIDES_LOW + rows ≤ layout.address SLIDES_HIGH)
      ⊎ (layout.address SLIDES_HIGH + rows ≤ layout.address SLIDES_LOW)

-- the variables have their bytes; so have the slides, where speeds are calculated; and the pointer is in page 0, behind
-- the processor's port
pub record IsRoom (layout : Layout) (rows : ℕ) : Type 0 where
  pub variables : AreVariables layout
  pub slides : layout.holds NOTE_DEPENDENT ≡ true → AreSlides layout rows
  pub pointer_low : 2 ≤ layout.pointer
  pub pointer_high : layout.pointer ≤ 254

-- a place that is none of them
pub record IsElsewhere (layout : Layout) (rows place : ℕ) : Type 0 where
  pub variables : (label : ℕ) → label < VARIABLES → place ≢ layout.address label
  pub slides_low : layout.holds NOTE_DEPENDENT ≡ true →
      (place < layout.address SLIDES_LOW) ⊎ (layout.address SLIDES_LOW + rows ≤ place)
  pub slides_high : layout.holds NOTE_DEPENDENT ≡ true →
      (place < layout.address SLIDES_HIGH) ⊎ (layout.address SLIDES_HIGH + rows ≤ place)
  pub low : place ≢ layout.pointer
  pub high : place ≢ layout.pointer + 1
  pub registers : (place < 0xD400) ⊎ (0xD419 ≤ place)

-- a row of the slides may be read and written
pub record MayUseSlide (layout : Layout) (row : ℕ) : Type 0 where
  pub reads_low : layout.may_read (layout.address SLIDES_LOW + row) ≡ true
  pub reads_high : layout.may_read (layout.address SLIDES_HIGH + row) ≡ true
  pub writes_low : layout.may_write (layout.address SLIDES_LOW + row) ≡ true
  pub writes_high : layout.may_write (layout.address SLIDES_HIGH + row) ≡ true

-- the code may read and write the variables, and the slides where speeds are calculated, and may write the registers
pub record MayUse (layout : Layout) (rows : ℕ) : Type 0 where
  pub reads : (label : ℕ) → label < VARIABLES → layout.may_read (layout.address label) ≡ true
  pub writes : (label : ℕ) → label < VARIABLES → layout.may_write (layout.address label) ≡ true
  pub slides : layout.holds NOTE_DEPENDENT ≡ true → (row : ℕ) → row < rows → MayUseSlide layout row
  pub registers : (register : ℕ) → register ≤ 24 → layout.may_write (0xD400 + register) ≡ true
