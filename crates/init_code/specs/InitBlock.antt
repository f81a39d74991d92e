-- The code that begins a subtune, and what it does. This is the project's own player.
use Rattle.std.specs.Prelude.{◌≡◌, ℕ, ◌+◌, ◌-◌, ◌*◌, ◌/◌, ◌%◌, ◌<◌, ◌≤◌, ◌⊎◌}
use Rattle.std.specs.Prelude.{true, false, if◌then◌else◌}
use Rattle.scopes.specs.Desk.{Desk, Layout}
use Rattle.scopes.specs.Meaning.{Ran, Done, each_one, ran}
use Rattle.player_memory.specs.declared.conditions.TheConstants.{NOTE_DEPENDENT, TIMED, SUBTUNES}
use Rattle.player_memory.specs.declared.labels.TheConstants.{VARIABLES, FIRST_CLEARED, SLIDES_LOW, SLIDES_HIGH}
use Rattle.player_memory.specs.declared.labels.TheConstants.{ORDERS_LOW, ORDERS_HIGH, ORDER_LOW, ORDER_HIGH}
use Rattle.player_memory.specs.Rooms.{IsRoom, MayUse, IsElsewhere}
use Rattle.player_memory.specs.Playing.{place_in, own_at, IsListed, SlidesStay}
use Rattle.player_memory.specs.Fetching.{AreHalves}
use Rattle.player_memory.specs.Starting.{Begins}
use Rattle.player_text.specs.declared.texts.Start.{Start}
use Rattle.player_text.specs.Texts.{init_tree}

-- ---- what it stands on

-- a place that isn't one of so many from a base on
abbrev pub IsOutOf : ℕ → ℕ → ℕ → Type 0
IsOutOf base count place = (place < base) ⊎ (base + count ≤ place)

-- The code clears so many bytes from the first variable to be cleared on, and may write them; they end below $D000, and
-- none of them is a slide. The variables in front of that one are none of them; each other is one of them, or is 0
-- already.
pub record MayClear (layout : Layout) (rows count : ℕ) (at : ℕ → ℕ) : Type 0 where
  pub some : 1 ≤ count
  pub few : count ≤ VARIABLES - FIRST_CLEARED
  pub to : layout.address FIRST_CLEARED + count ≤ 0xD000
  pub writes : (number : ℕ) → number < count → layout.may_write (layout.address FIRST_CLEARED + number) ≡ true
  pub low : layout.holds NOTE_DEPENDENT ≡ true → (row : ℕ) → row < rows →
      IsOutOf (layout.address FIRST_CLEARED) count (layout.address SLIDES_LOW + row)
  pub high : layout.holds NOTE_DEPENDENT ≡ true → (row : ℕ) → row < rows →
      IsOutOf (layout.address FIRST_CLEARED) count (layout.address SLIDES_HIGH + row)
  pub front : (label : ℕ) → label < FIRST_CLEARED →
      IsOutOf (layout.address FIRST_CLEARED) count (layout.address label)
  pub each : (label : ℕ) → FIRST_CLEARED ≤ label → label < VARIABLES →
      ((layout.address FIRST_CLEARED ≤ layout.address label)
      × (layout.address label < layout.address FIRST_CLEARED + count))
      ⊎ (IsOutOf (layout.address FIRST_CLEARED) count (layout.address label) × (at (layout.address label) ≡ 0))

-- where the timer is set, its two bytes may be written
pub record MaySetTimer (layout : Layout) : Type 0 where
  pub low : layout.holds TIMED ≡ true → layout.may_write 0xDC04 ≡ true
  pub high : layout.holds TIMED ≡ true → layout.may_write 0xDC05 ≡ true

-- the code leaves a place: it is none of the room's, nor one that is cleared, nor, where the timer is set, one of its two
pub record IsUntouched (layout : Layout) (rows count place : ℕ) : Type 0 where
  pub elsewhere : IsElsewhere layout rows place
  pub cleared : IsOutOf (layout.address FIRST_CLEARED) count place
  pub timer : layout.holds TIMED ≡ true → (place < 0xDC04) ⊎ (0xDC06 ≤ place)

-- a list has a byte there, which the code may read, and leaves before it reads it
pub record IsOrderByte (layout : Layout) (rows count : ℕ) (at : ℕ → ℕ) (label number byte : ℕ) : Type 0 where
  pub listed : IsListed layout rows at label number byte
  pub untouched : IsUntouched layout rows count (place_in layout label number)

-- Where there are several subtunes two lists have the addresses of the orderlists, three for each subtune. Where there
-- is one alone its voices have their addresses already.
pub record HasOrders (layout : Layout) (rows count : ℕ) (at : ℕ → ℕ) (subtune : ℕ) (address : ℕ → ℕ) : Type 0 where
  pub low : layout.holds SUBTUNES ≡ true → (voice : ℕ) → voice < 3 →
      IsOrderByte layout rows count at ORDERS_LOW (3 * subtune + voice) (address voice % 256)
  pub high : layout.holds SUBTUNES ≡ true → (voice : ℕ) → voice < 3 →
      IsOrderByte layout rows count at ORDERS_HIGH (3 * subtune + voice) (address voice / 256)
  pub own : layout.holds SUBTUNES ≡ false → (voice : ℕ) → voice < 3 →
      AreHalves (own_at layout at voice ORDER_LOW) (own_at layout at voice ORDER_HIGH) (address voice)

-- The desk at the code: where there are several subtunes A is the subtune's number, and that of its third orderlist is a
-- byte; where there is one alone A may be anything. The decimal flag is clear.
pub record IsAtSubtune (layout : Layout) (subtune : ℕ) (desk : Desk) : Type 0 where
  pub a : layout.holds SUBTUNES ≡ true → desk.cpu.a ≡ subtune
  pub byte : layout.holds SUBTUNES ≡ true → 3 * subtune + 2 < 256
  pub decimal : desk.cpu.d ≡ false

-- ---- what it does

-- It has come to its end with all variables as the subtune begins, those that hold something, with these addresses of
-- its three orderlists, and with the registers 0. The timer has its two numbers where it is set, and what it had where
-- it isn't. The slides, and what the code leaves, are as before.
pub record Starts (layout : Layout) (rows count : ℕ) (start : Start) (address : ℕ → ℕ) (before : Desk) (run : Ran)
    : Type 0 where
  pub ends : run.outcome ≡ Done
  pub decimal : run.desk.cpu.d ≡ false
  pub begins : Begins layout start.tempo start.funk address run.desk.at
  pub registers : (register : ℕ) → register ≤ 24 → run.desk.at (0xD400 + register) ≡ 0
  pub timer_low : run.desk.at 0xDC04 ≡ (if layout.holds TIMED then start.timer_low else before.at 0xDC04)
  pub timer_high : run.desk.at 0xDC05 ≡ (if layout.holds TIMED then start.timer_high else before.at 0xDC05)
  pub slides : layout.holds NOTE_DEPENDENT ≡ true → (row : ℕ) → row < rows →
      SlidesStay layout row run.desk.at before.at
  pub others : (place : ℕ) → IsUntouched layout rows count place → run.desk.at place ≡ before.at place

-- In any memory with 0 in each variable that it would clear and doesn't, the code begins a subtune.
abbrev pub InitBlockStarts : Type 0
InitBlockStarts =
    (layout : Layout) (rows subtune count : ℕ) (start : Start) (address : ℕ → ℕ) (desk : Desk) →
    IsRoom layout rows → MayUse layout rows → MayClear layout rows count desk.at → MaySetTimer layout →
    HasOrders layout rows count desk.at subtune address → IsAtSubtune layout subtune desk →
    Starts layout rows count start address desk (ran each_one layout (init_tree start count) desk)
