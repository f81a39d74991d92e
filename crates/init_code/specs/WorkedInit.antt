-- The code that begins a subtune, run by hand: the first subtune and the second, with the timer and without it, and one
-- alone, where no condition holds; what the law on it asks, met there; and what it refuses.
use Rattle.std.specs.Prelude.{◌≡◌, ℕ, zero, suc, ◌+◌, ◌-◌, ◌*◌, ◌/◌, ◌<◌, ◌&&◌}
use Rattle.std.specs.Prelude.{◌||◌, ◌==◌, Bool, true, false, not, nat_eq}
use Rattle.std.specs.Prelude.{nat_le, nat_lt, if◌then◌else◌, List, [], ◌∷◌, ◌++◌, replicate}
use Rattle.code_runs.specs.Runs.{put}
use Rattle.scopes.specs.Desk.{Desk, Layout}
use Rattle.scopes.specs.Meaning.{Outcome, Ran, Done, Again, Stuck, each_one, ran}
use Rattle.player_memory.specs.declared.conditions.TheConstants.{TIMED, SUBTUNES}
use Rattle.player_memory.specs.declared.labels.TheConstants.{ORDERS_LOW, ORDERS_HIGH, TICK, VIB_DELAY, VOLUME}
use Rattle.player_memory.specs.declared.labels.TheConstants.{FIRST_CLEARED, SLIDES_LOW, SLIDES_HIGH, GATE, PATTERN_LOW}
use Rattle.player_memory.specs.declared.labels.TheConstants.{ORDER_LOW, ORDER_HIGH, INSTRUMENT}
use Rattle.player_memory.specs.Rooms.{IsRoom, MayUse}
use Rattle.player_memory.specs.WorkedMemory.{at_1000, everywhere, nowhere}
use Rattle.player_memory.specs.WorkedPlays.{its_desk}
use Rattle.player_text.specs.declared.texts.Start.{Start}
use Rattle.player_text.specs.Texts.{init_tree}
use Rattle.init_code.specs.InitBlock.{MayClear, MaySetTimer, IsUntouched, IsOrderByte, HasOrders, IsAtSubtune, Starts}

-- ---- the site

-- the variables are at $1006, and the lists of two subtunes' orderlists at $1180 and $1190
abbrev pub site : (ℕ → Bool) → Layout
site holds = record at_1000 {
  address = λ label. if nat_eq label ORDERS_LOW then 0x1180
      else if nat_eq label ORDERS_HIGH then 0x1190
      else at_1000.address label;
  holds = holds;
  may_write = λ place. at_1000.may_write place || nat_eq place 0xDC04 || nat_eq place 0xDC05;
}

-- all lines are kept but those that set the timer
abbrev pub untimed : ℕ → Bool
untimed condition = not (nat_eq condition TIMED)

-- those alone that take one of several subtunes; and all others, but those that set the timer
abbrev pub several : ℕ → Bool
several condition = nat_eq condition SUBTUNES

abbrev pub untimed_one : ℕ → Bool
untimed_one condition = untimed condition && not (several condition)

-- those of the first subtune are at $1300, $1311 and $1322, those of the second at $1433, $1444 and $1455
abbrev pub its_address : ℕ → ℕ → ℕ
its_address subtune voice = 0x1300 + 0x100 * subtune + 0x11 * (3 * subtune + voice)

-- all other places have $77
abbrev pub its_memory : ℕ → ℕ
its_memory place =
    if nat_le 0x1180 place && nat_lt place 0x1186 then 0x11 * (place - 0x1180)
    else if nat_le 0x1190 place && nat_lt place 0x1196 then 0x13 + (place - 0x1190) / 3
    else 0x77

-- where there is one subtune alone: the voices have the addresses of the second one's orderlists already
abbrev pub alone_memory : ℕ → ℕ
alone_memory =
    put (put (put (put (put (put its_memory 0x100A 0x33) 0x100B 0x14) 0x1011 0x44) 0x1012 0x14) 0x1018 0x55) 0x1019 0x14

abbrev pub called : ℕ → Bool → Desk
called subtune decimal = record {
  cpu = record (its_desk 99 decimal its_memory).cpu { a = subtune };
  at = its_memory;
}

abbrev pub numbers : Start
numbers = record { tempo = 5; funk = 8; timer_low = 0x25; timer_high = 0x40 }

abbrev pub began : (ℕ → Bool) → ℕ → Ran
began holds subtune = ran each_one (site holds) (init_tree numbers 92) (called subtune false)

-- with any number in A
abbrev pub called_alone : Desk
called_alone = record (called 99 false) { at = alone_memory }

abbrev pub alone_with : (ℕ → Bool) → Ran
alone_with holds = ran each_one (site holds) (init_tree numbers 92) called_alone

-- where no condition holds
abbrev pub began_alone : Ran
began_alone = alone_with nowhere

-- eighty variables are cleared, and the others that would be are 0 before
abbrev pub eighty_cleared : Ran
eighty_cleared = ran each_one (site untimed) (init_tree numbers 80) (record (called 0 false) {
  at = λ place. if nat_le 0x106B place && nat_lt place 0x1077 then 0 else its_memory place;
})

-- ---- what it leaves

abbrev pub bytes : (ℕ → ℕ) → ℕ → ℕ → List ℕ
bytes at place zero = []
bytes at place (suc more) = at place ∷ bytes at (place + 1) more

-- the seven bytes of a voice in each of the five groups, and what stands behind them; those of the pattern's place are
-- as before
abbrev pub song : ℕ → ℕ → List ℕ
song low high = 0xFE ∷ 5 ∷ 0x77 ∷ 0x77 ∷ low ∷ high ∷ 1 ∷ []

abbrev pub row : List ℕ
row = 0 ∷ 0 ∷ 1 ∷ 0 ∷ 0 ∷ 0 ∷ 0 ∷ []

abbrev pub sound : ℕ → List ℕ
sound delay = delay ∷ 0 ∷ 0 ∷ 0 ∷ 0 ∷ 0 ∷ 0 ∷ []

abbrev pub variables_of : List ℕ → List ℕ → List ℕ → List ℕ
variables_of sounds shared songs =
    songs ++ (row ++ (row ++ (row ++ (replicate 21 0 ++ (sounds ++ (sounds ++ (sounds ++ (replicate 21 0 ++ shared))))))))

-- where all lines are kept, and where none are: no delay is counted down, the volume isn't set, nor the funk tempos
abbrev pub all_variables : List ℕ → List ℕ
all_variables songs = variables_of (sound 255) (0 ∷ 0 ∷ 15 ∷ 0 ∷ 0 ∷ 0 ∷ 8 ∷ 5 ∷ []) songs

abbrev pub bare_variables : List ℕ → List ℕ
bare_variables songs = variables_of (sound 0) (replicate 8 0) songs

pub record IsBegun (run : Ran) (variables timer : List ℕ) (cost : ℕ) : Type 0 where
  pub ends : run.outcome ≡ Done
  pub variables_are : bytes run.desk.at 0x1006 113 ≡ variables
  pub registers : bytes run.desk.at 0xD400 25 ≡ replicate 25 0
  pub timer_is : bytes run.desk.at 0xDC03 4 ≡ 0x77 ∷ (timer ++ (0x77 ∷ []))
  pub slides : bytes run.desk.at 0x1100 8 ≡ replicate 8 0x77
  pub cost_is : run.cost ≡ cost

abbrev pub first_songs : List ℕ
first_songs = song 0x00 0x13 ++ (song 0x11 0x13 ++ song 0x22 0x13)

abbrev pub second_songs : List ℕ
second_songs = song 0x33 0x14 ++ (song 0x44 0x14 ++ song 0x55 0x14)

-- where the code may not do what it does
abbrev pub outcome_at : Layout → ℕ → Bool → Outcome
outcome_at layout subtune decimal = (ran each_one layout (init_tree numbers 92) (called subtune decimal)).outcome

pub record RunsAreWorked : Type 0 where
  pub first : IsBegun (began untimed 0) (all_variables first_songs) (0x77 ∷ 0x77 ∷ []) 421
  pub second : IsBegun (began untimed 1) (all_variables second_songs) (0x77 ∷ 0x77 ∷ []) 421
  pub first_timed : IsBegun (began everywhere 0) (all_variables first_songs) (0x25 ∷ 0x40 ∷ []) 425
  pub second_timed : IsBegun (began everywhere 1) (all_variables second_songs) (0x25 ∷ 0x40 ∷ []) 425
  pub first_bare : IsBegun (began several 0) (bare_variables first_songs) (0x77 ∷ 0x77 ∷ []) 411
  pub alone_full : IsBegun (alone_with untimed_one) (all_variables second_songs) (0x77 ∷ 0x77 ∷ []) 402
  pub alone : IsBegun began_alone (bare_variables second_songs) (0x77 ∷ 0x77 ∷ []) 392
  pub fewer : IsBegun eighty_cleared (all_variables first_songs) (0x77 ∷ 0x77 ∷ []) 385
  pub decimal : outcome_at (site untimed) 0 true ≡ Stuck
  pub decimal_alone : outcome_at (site nowhere) 0 true ≡ Stuck
  pub no_timer : outcome_at (record (site everywhere) { may_write = at_1000.may_write }) 0 false ≡ Stuck
  pub no_lists : outcome_at (record (site untimed) { may_read = λ place. nat_lt place 0x1180 }) 0 false ≡ Stuck

-- ---- what the law asks is met there

-- the lists of the low bytes stand at the timer
abbrev pub at_timer : (ℕ → Bool) → Layout
at_timer holds = record (site holds) {
  address = λ label. if nat_eq label ORDERS_LOW then 0xDC05 else (site holds).address label;
  open_turns = 255;
  may_read = λ place. true;
}

-- with a label elsewhere
abbrev pub moved_in : Layout → ℕ → ℕ → Layout
moved_in layout label place =
    record layout { address = λ other. if nat_eq other label then place else layout.address other }

abbrev pub timer_from : ℕ → Layout
timer_from place = record (site everywhere) { may_write = λ its. nat_eq its place }

pub record SiteIsWorked : Type 0 where
  pub room : (holds : ℕ → Bool) → IsRoom (site holds) 4
  pub uses : (holds : ℕ → Bool) → MayUse (site holds) 4
  pub clears : (holds : ℕ → Bool) → MayClear (site holds) 4 92 its_memory
  -- fewer bytes are enough where the others are 0; there is one at least, and at most 92
  pub fewer : MayClear (site untimed) 4 80 (λ place. 0)
  pub not_zero : ¬ MayClear (site untimed) 4 91 its_memory
  pub none : ¬ MayClear (site untimed) 4 0 (λ place. 0)
  pub many : ¬ MayClear (site untimed) 4 93 (λ place. 0)
  -- up to $D000 at most; where they may be written; beside the slides; and behind what isn't cleared
  pub high : ¬ MayClear (record (moved_in (site untimed) FIRST_CLEARED 0xCFA5) { may_write = λ place. true }) 4 92
      (λ place. 0)
  pub closed : ¬ MayClear (record (site untimed) { may_write = λ place. not (place == 0x1076) }) 4 92 its_memory
  pub low_slide : ¬ MayClear (moved_in (site everywhere) SLIDES_LOW 0x1073) 4 92 its_memory
  pub high_slide : ¬ MayClear (moved_in (site everywhere) SLIDES_HIGH 0x1018) 4 92 its_memory
  pub in_front : ¬ MayClear (moved_in (site everywhere) GATE 0x1076) 4 92 its_memory
  pub timer : (holds : ℕ → Bool) → MaySetTimer (site holds)
  pub orders : (holds : ℕ → Bool) (subtune : ℕ) → holds SUBTUNES ≡ true → subtune < 2 →
      HasOrders (site holds) 4 92 its_memory subtune (its_address subtune)
  pub at_subtune : IsAtSubtune (site everywhere) 1 (called 1 false)
  -- one subtune alone
  pub alone : HasOrders (site nowhere) 4 92 alone_memory 1 (its_address 1)
  pub not_given : ¬ HasOrders (site nowhere) 4 92 its_memory 1 (its_address 1)
  pub own_low : ¬ HasOrders (site nowhere) 4 92 (put alone_memory 0x1018 0x54) 1 (its_address 1)
  pub own_high : ¬ HasOrders (site nowhere) 4 92 (put alone_memory 0x100B 0x13) 1 (its_address 1)
  pub any_number : IsAtSubtune (site nowhere) 1 (called 99 false)
  -- one byte of the timer isn't enough; where it isn't set neither is needed
  pub low_alone : ¬ MaySetTimer (timer_from 0xDC04)
  pub high_alone : ¬ MaySetTimer (timer_from 0xDC05)
  pub no_timer : MaySetTimer (record at_1000 { holds = untimed })
  -- a subtune that isn't in the lists; another address; a byte that may not be read
  pub third : ¬ HasOrders (site untimed) 4 92 its_memory 2 (its_address 2)
  pub other_low : ¬ HasOrders (site untimed) 4 92 (put its_memory 0x1185 0x54) 1 (its_address 1)
  pub other_high : ¬ HasOrders (site untimed) 4 92 (put its_memory 0x1193 0x13) 1 (its_address 1)
  pub unread : ¬ HasOrders (record (site untimed) { may_read = λ place. nat_lt place 0x1190 }) 4 92 its_memory 0
      (its_address 0)
  -- a list at the timer, where that is set, and where it isn't
  pub on_timer : ¬ IsOrderByte (at_timer everywhere) 4 92 its_memory ORDERS_LOW 0 0x77
  pub on_no_timer : IsOrderByte (at_timer untimed) 4 92 its_memory ORDERS_LOW 0 0x77
  pub before_timer : IsUntouched (site everywhere) 4 92 0xDC03
  pub timer_low : ¬ IsUntouched (site everywhere) 4 92 0xDC04
  pub timer_high : ¬ IsUntouched (site everywhere) 4 92 0xDC05
  pub behind_timer : IsUntouched (site everywhere) 4 92 0xDC06
  pub variable : ¬ IsUntouched (site untimed) 4 92 0x1006
  pub before : IsUntouched (site everywhere) 4 92 0x1005
  pub behind : IsUntouched (site everywhere) 4 92 0x1077
  pub cleared : ¬ IsUntouched (site untimed) 4 120 0x107D
  -- the number's byte, and the decimal flag
  pub other_a : ¬ IsAtSubtune (site everywhere) 1 (called 0 false)
  pub last : IsAtSubtune (site everywhere) 84 (called 84 false)
  pub over : ¬ IsAtSubtune (site everywhere) 85 (called 85 false)
  pub decimal : ¬ IsAtSubtune (site everywhere) 1 (called 1 true)
  pub decimal_alone : ¬ IsAtSubtune (site nowhere) 1 (called 1 true)

-- ---- what it may not leave

abbrev pub StartsSo : (ℕ → Bool) → Ran → Type 0
StartsSo holds run = Starts (site holds) 4 92 numbers (its_address 1) (called 1 false) run

abbrev pub StartsAlone : Ran → Type 0
StartsAlone run = Starts (site nowhere) 4 92 numbers (its_address 1) called_alone run

-- with another byte at a place
abbrev pub leaving : Ran → ℕ → ℕ → Ran
leaving run place byte = record run { desk = record run.desk { at = put run.desk.at place byte } }

abbrev pub in_decimal : Ran → Ran
in_decimal run = record run { desk = record run.desk { cpu = record run.desk.cpu { d = true } } }

pub record StartsAreWorked : Type 0 where
  pub timed : StartsSo everywhere (began everywhere 1)
  pub not_timed : StartsSo untimed (began untimed 1)
  pub not_ended : ¬ StartsSo everywhere (record (began everywhere 1) { outcome = Again })
  pub decimal : ¬ StartsSo everywhere (in_decimal (began everywhere 1))
  pub own : ¬ StartsSo everywhere (leaving (began everywhere 1) (0x1006 + TICK + 14) 2)
  pub common : ¬ StartsSo everywhere (leaving (began everywhere 1) (0x1006 + VOLUME) 14)
  pub delay : ¬ StartsSo everywhere (leaving (began everywhere 1) (0x1006 + VIB_DELAY + 7) 9)
  -- of what isn't cleared, too, but for the pattern's place
  pub gate : ¬ StartsSo everywhere (leaving (began everywhere 1) (0x1006 + GATE) 0xFF)
  pub instrument : ¬ StartsSo everywhere (leaving (began everywhere 1) (0x1006 + INSTRUMENT + 7) 2)
  pub order : ¬ StartsSo everywhere (leaving (began everywhere 1) (0x1006 + ORDER_LOW + 14) 0x54)
  pub pattern : (began everywhere 1).desk.at (0x1006 + PATTERN_LOW) ≡ 0x77
  -- where no lines are kept such bytes may be any, but not the others
  pub alone : StartsAlone began_alone
  pub alone_any : StartsAlone (leaving (leaving began_alone (0x1006 + VOLUME) 14) (0x1006 + VIB_DELAY + 7) 9)
  pub alone_own : ¬ StartsAlone (leaving began_alone (0x1006 + TICK + 14) 2)
  pub alone_order : ¬ StartsAlone (leaving began_alone (0x1006 + ORDER_HIGH + 7) 0x13)
  pub other_subtune : ¬ StartsSo everywhere (began everywhere 0)
  pub other_tempo : ¬ Starts (site everywhere) 4 92 (record numbers { tempo = 6 }) (its_address 1) (called 1 false)
      (began everywhere 1)
  pub other_funk : ¬ Starts (site everywhere) 4 92 (record numbers { funk = 7 }) (its_address 1) (called 1 false)
      (began everywhere 1)
  pub first_register : ¬ StartsSo everywhere (leaving (began everywhere 1) 0xD400 1)
  pub last_register : ¬ StartsSo everywhere (leaving (began everywhere 1) 0xD418 15)
  -- the timer, where it is set, and where it isn't
  pub timer_low : ¬ StartsSo everywhere (leaving (began everywhere 1) 0xDC04 0x77)
  pub timer_high : ¬ StartsSo everywhere (leaving (began everywhere 1) 0xDC05 0x77)
  pub no_timer_low : ¬ StartsSo untimed (leaving (began untimed 1) 0xDC04 0x25)
  pub no_timer_high : ¬ StartsSo untimed (leaving (began untimed 1) 0xDC05 0x40)
  pub low_slide : ¬ StartsSo everywhere (leaving (began everywhere 1) 0x1103 0)
  pub high_slide : ¬ StartsSo everywhere (leaving (began everywhere 1) 0x1107 0)
  pub elsewhere : ¬ StartsSo everywhere (leaving (began everywhere 1) 0x1005 0)
