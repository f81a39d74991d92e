-- The code that fetches a row, run by hand: a walk, rests, a note, what an instrument holds before one, a play that is
-- repeated, and a row that isn't due.
use Rattle.std.specs.Prelude.{◌≡◌, ℕ, ◌+◌, ◌&&◌, ◌||◌, Bool, true, false, not}
use Rattle.std.specs.Prelude.{nat_eq, if◌then◌else◌, []}
use Rattle.std.specs.Prelude.{◌∷◌}
use Rattle.code_runs.specs.Runs.{put}
use Rattle.song_model.specs.declared.orders.Order.{Order}
use Rattle.scopes.specs.Desk.{Layout}
use Rattle.scopes.specs.Meaning.{Outcome, Done, Left, Ran, each_one, ran}
use Rattle.player_memory.specs.declared.conditions.TheConstants.{SKIP_PULSE, SKIP_FIRST, LEGATO, NO_HARD_RESTART}
use Rattle.player_memory.specs.declared.conditions.TheConstants.{OWN_TIMER, HELD_NOTE, FIRST_HOLDS}
use Rattle.player_memory.specs.declared.labels.TheConstants.{TICK, GATE_TIMER, NEW_NOTE, REST, OFFSET, PATTERN_LOW}
use Rattle.player_memory.specs.declared.labels.TheConstants.{PATTERN_HIGH, ORDER_LOW, ORDER_HIGH, ORDER_PLACE}
use Rattle.player_memory.specs.declared.labels.TheConstants.{TRANSPOSE, REPEAT, GATE_TIMERS, PATTERNS_LOW}
use Rattle.player_memory.specs.declared.labels.TheConstants.{PATTERNS_HIGH, ORDERS, PATTERNS, ONE_TIMER}
use Rattle.player_memory.specs.declared.labels.TheConstants.{GATE, AD, SR, GATE_FROM, ENVELOPE_FROM}
use Rattle.player_memory.specs.WorkedMemory.{at_1000}
use Rattle.player_memory.specs.WorkedPlays.{with_variable, its_memory, its_desk}
use Rattle.player_text.specs.declared.joints.TheConstants.{SOUNDS}
use Rattle.fetch_code.specs.FetchBlock.{fetch_tree}

-- ---- memory

-- an orderlist stands at $1130, pattern 0 at $1140, with the place before it at $1110 and $1118, and the gateoff timers
-- from $1120 on; all code is kept, but that of the two options only where it is asked for
abbrev pub laid : Bool → Layout
laid options = record at_1000 {
  address = λ label. if nat_eq label ORDERS then 0x1130
      else if nat_eq label PATTERNS then 0x1140
      else if nat_eq label PATTERNS_LOW then 0x1110
      else if nat_eq label PATTERNS_HIGH then 0x1118
      else if nat_eq label GATE_TIMERS then 0x1120
      else at_1000.address label;
  holds = λ condition. options || not (nat_eq condition SKIP_PULSE || nat_eq condition SKIP_FIRST);
}

-- the same without the code that keeps a timer for each voice, and without that which finds before a note what an
-- instrument holds: nothing reads the instruments' timers, and one of all instruments stands at $1128
abbrev pub one_timed : Layout
one_timed = record (laid false) {
  address = λ label. if nat_eq label ONE_TIMER then 0x1128 else (laid false).address label;
  holds = λ condition. (laid false).holds condition
      && not (nat_eq condition OWN_TIMER || nat_eq condition HELD_NOTE || nat_eq condition LEGATO
      || nat_eq condition NO_HARD_RESTART || nat_eq condition FIRST_HOLDS);
}

-- without the code for a first instrument that holds more than another: the number from which on instruments hold the
-- gate stands at $1129, and the one for the envelope at $112A
abbrev pub in_order : Layout
in_order = record (laid false) {
  address = λ label.
      if nat_eq label GATE_FROM then 0x1129
      else if nat_eq label ENVELOPE_FROM then 0x112A
      else (laid false).address label;
  holds = λ condition. (laid false).holds condition && not (nat_eq condition FIRST_HOLDS);
}

-- and without this
abbrev pub in_order_but : ℕ → Layout
in_order_but other =
    record in_order { holds = λ condition. in_order.holds condition && not (nat_eq condition other) }

-- two half tones up, pattern 0 is played twice, again and again
abbrev pub its_order : Order
its_order = record { entries = 0xF2 ∷ 0xD1 ∷ 0 ∷ []; restart = 0 }

-- the pattern has two rests and a note, in two entries; instrument 1 has a gateoff timer of 2
abbrev pub its_lists : ℕ → ℕ
its_lists =
    put (put (put (put (put (put (put (put (put (put (put its_memory 0x1130 0xF2) 0x1131 0xD1) 0x1132 0) 0x1133 0xFF)
    0x1134 0) 0x1140 0xC1) 0x1141 0x60) 0x1142 0) 0x1110 0x3F) 0x1118 0x11) 0x1121 2

-- a byte of the second voice
abbrev pub with_own : ℕ → ℕ → (ℕ → ℕ) → ℕ → ℕ
with_own label byte at = with_variable (label + 7) byte at

-- the second voice at this tick, whose row is due at tick 2: before the first walk
abbrev pub at_start : ℕ → ℕ → ℕ
at_start tick =
    with_own TICK tick (with_own GATE_TIMER 2 (with_own ORDER_LOW 0x30 (with_own ORDER_HIGH 0x11 its_lists)))

-- with the orderlist walked to the pattern: its first entry is next, and a play of it is left
abbrev pub at_first : ℕ → ℕ → ℕ
at_first tick =
    with_own OFFSET 1 (with_own PATTERN_LOW 0x3F (with_own PATTERN_HIGH 0x11 (with_own ORDER_PLACE 3
    (with_own TRANSPOSE 2 (with_own REPEAT 1 (at_start tick))))))

-- in the run of rests, with one left; at the note; and behind it
abbrev pub in_run : ℕ → ℕ → ℕ
in_run tick = with_own REST 1 (with_own OFFSET 2 (at_first tick))

abbrev pub at_note : ℕ → ℕ → ℕ
at_note tick = with_own OFFSET 2 (at_first tick)

abbrev pub at_end : ℕ → ℕ → ℕ
at_end tick = with_own OFFSET 0 (at_first tick)

-- with this timer for all instruments, and another one in the voice's own byte and among the instruments' timers
abbrev pub with_one_timer : ℕ → (ℕ → ℕ) → ℕ → ℕ
with_one_timer timer at = put (put (with_own GATE_TIMER 7 at) 0x1121 7) 0x1128 timer

-- the gate is on, and the envelope another than that of a hard restart
abbrev pub with_gate : (ℕ → ℕ) → ℕ → ℕ
with_gate at = with_own GATE 0xFF (with_own AD 0x29 (with_own SR 0x5A at))

-- at the note, with this gateoff timer of instrument 1, which the voice has, and with these two numbers
abbrev pub at_held : ℕ → ℕ → ℕ → ℕ → ℕ
at_held timer gate envelope =
    put (put (put (with_gate (at_note 2)) 0x1121 timer) 0x1129 gate) 0x112A envelope

-- ---- runs

abbrev pub fetched_in : Layout → (ℕ → ℕ) → Ran
fetched_in layout at = ran each_one layout fetch_tree (its_desk 7 false at)

abbrev pub fetched : Bool → (ℕ → ℕ) → Ran
fetched options at = fetched_in (laid options) at

-- the way that a run takes, bytes that it leaves, and in how many instructions
pub record Told : Type 0 where
  pub way : Outcome
  pub rest : ℕ
  pub offset : ℕ
  pub place : ℕ
  pub repeat : ℕ
  pub note : ℕ
  pub cost : ℕ

abbrev pub left_at : Ran → ℕ → ℕ
left_at run label = run.desk.at (0x1006 + (label + 7))

abbrev pub told : Ran → Told
told run = record {
  way = run.outcome;
  rest = left_at run REST;
  offset = left_at run OFFSET;
  place = left_at run ORDER_PLACE;
  repeat = left_at run REPEAT;
  note = left_at run NEW_NOTE;
  cost = run.cost;
}

abbrev pub IsFetched : Ran → Outcome → ℕ → ℕ → ℕ → ℕ → ℕ → ℕ → Type 0
IsFetched run way rest offset place repeat note cost =
    told run
    ≡ record {
      way = way;
      rest = rest;
      offset = offset;
      place = place;
      repeat = repeat;
      note = note;
      cost = cost;
    }

-- the gate and the envelope that a run before a note leaves, and in how many instructions
pub record Shut : Type 0 where
  pub gate : ℕ
  pub ad : ℕ
  pub sr : ℕ
  pub cost : ℕ

abbrev pub shut : Ran → Shut
shut run = record { gate = left_at run GATE; ad = left_at run AD; sr = left_at run SR; cost = run.cost }

abbrev pub IsShut : Ran → ℕ → ℕ → ℕ → ℕ → Type 0
IsShut run gate ad sr cost = shut run ≡ record { gate = gate; ad = ad; sr = sr; cost = cost }

abbrev pub IsShutIn : Layout → (ℕ → ℕ) → ℕ → ℕ → ℕ → ℕ → Type 0
IsShutIn layout at = IsShut (fetched_in layout at)

pub record FetchesAreWorked : Type 0 where
  -- a frame before the row is due, the orderlist is walked past a transpose and a repeat; a play that is left isn't
  -- walked to
  pub walks : IsFetched (fetched false (at_start 1)) Done 0 1 3 1 0 52
  pub repeats : IsFetched (fetched false (at_end 1)) Done 0 1 3 0 0 17
  -- the first of two rests, the second, and the note, two half tones up, with which the pattern is through
  pub rest : IsFetched (fetched false (at_first 2)) Done 1 2 3 1 0 34
  pub second : IsFetched (fetched false (in_run 2)) Done 0 2 3 1 0 7
  pub note : IsFetched (fetched false (at_note 2)) Done 0 0 3 1 0x62 42
  -- a walk and a row in one frame
  pub both : IsFetched (fetched false (at_start 2)) Done 1 2 3 1 0 79
  -- a row isn't due, or isn't any longer
  pub later : IsFetched (fetched false (at_first 3)) Done 0 1 3 1 0 5
  pub over : IsFetched (fetched false (at_note 1)) Done 0 2 3 1 0 7
  -- by one timer of all instruments the note is due, and is fetched without a look at its own; or it isn't due yet
  pub one_timer : IsFetched (fetched_in one_timed (with_one_timer 2 (at_note 2))) Done 0 0 3 1 0x62 37
  pub other_timer : IsFetched (fetched_in one_timed (with_one_timer 3 (at_note 2))) Done 0 2 3 1 0 7
  -- Before a note of an instrument that holds nothing the gate goes off, and the envelope is that of a hard restart;
  -- one that holds its envelope keeps that; and one that holds its gate keeps both. By its timer, whatever the numbers
  -- are:
  pub timer_none : IsShutIn (laid false) (at_held 0x3F 1 1) 0xFE 0x0F 0 42
  pub timer_envelope : IsShutIn (laid false) (at_held 0x82 2 2) 0xFE 0x29 0x5A 38
  pub timer_gate : IsShutIn (laid false) (at_held 0x42 2 2) 0xFF 0x29 0x5A 35
  -- or by its number, which is 1, whatever the timer is: below both, below that for the gate alone, and from that on
  pub number_none : IsShutIn in_order (at_held 0xC2 2 2) 0xFE 0x0F 0 42
  pub number_envelope : IsShutIn in_order (at_held 0x02 2 1) 0xFE 0x29 0x5A 38
  pub number_gate : IsShutIn in_order (at_held 0x02 1 1) 0xFF 0x29 0x5A 34
  pub number_zero : IsShutIn in_order (at_held 0x02 2 0) 0xFE 0x29 0x5A 38
  pub number_far : IsShutIn in_order (at_held 0xC2 64 64) 0xFE 0x0F 0 42
  -- a number that no code is kept for isn't looked at
  pub no_gate : IsShutIn (in_order_but LEGATO) (at_held 0xC2 1 2) 0xFE 0x0F 0 40
  pub no_envelope : IsShutIn (in_order_but NO_HARD_RESTART) (at_held 0xC2 2 1) 0xFE 0x0F 0 40
  -- the options leave out the pulse step where a row is fetched, and at tick 0 between two patterns
  pub skips : IsFetched (fetched true (at_first 2)) (Left SOUNDS) 1 2 3 1 0 40
  pub between : IsFetched (fetched true (at_first 0)) (Left SOUNDS) 0 1 3 1 0 15
  pub within : IsFetched (fetched true (in_run 0)) Done 1 2 3 1 0 9
