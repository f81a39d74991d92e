-- Variables as a subtune begins, worked by hand; such as don't begin so, for each kind of byte; and what
-- they hold then.
use Rattle.std.specs.Prelude.{ℕ, ◌+◌, ◌-◌, ◌*◌, ◌/◌, ◌%◌, ◌&&◌, nat_le, nat_lt, if◌then◌else◌}
use Rattle.play_model.specs.LookUps.{LookUps}
use Rattle.play_model.specs.State.{at_speed}
use Rattle.scopes.specs.Desk.{Layout}
use Rattle.player_memory.specs.declared.labels.TheConstants.{REST, OFFSET, ORDER_LOW, ORDER_HIGH, ORDER_PLACE}
use Rattle.player_memory.specs.declared.labels.TheConstants.{TRANSPOSE, REPEAT, TICK, INSTRUMENT, NEW_PARAM, VIB_DELAY}
use Rattle.player_memory.specs.declared.labels.TheConstants.{GATE, PULSE_HIGH, TEMPO, FILTER_POINTER, VOLUME, LENT}
use Rattle.player_memory.specs.declared.labels.TheConstants.{KEPT_COMMAND, KEPT_PARAM, FUNK_ONE, FUNK_TWO, ORDERS}
use Rattle.player_memory.specs.declared.labels.TheConstants.{PATTERN_LOW, PATTERN_HIGH}
use Rattle.player_memory.specs.WorkedMemory.{at_1000, nowhere}
use Rattle.player_memory.specs.WorkedPlays.{with_variable}
use Rattle.player_memory.specs.WorkedFetching.{its_order, its_packed}
use Rattle.player_memory.specs.Starting.{Begins, PlaysFromStart}

-- the three orderlists are at $1180, $1291 and $13A2
abbrev pub its_orders : ℕ → ℕ
its_orders voice = 0x1180 + 0x111 * voice

abbrev pub with_orders : Layout
with_orders = record at_1000 {
  address = λ label. if nat_le ORDERS label && nat_lt label (ORDERS + 3) then its_orders (label - ORDERS)
      else at_1000.address label;
}

-- a voice's bytes that don't begin with 0, and those of all voices, at one play call in a picture
abbrev pub with_voice_begun : ℕ → (ℕ → ℕ) → ℕ → ℕ
with_voice_begun voice at =
    with_variable (ORDER_LOW + 7 * voice) (its_orders voice % 256)
    (with_variable (ORDER_HIGH + 7 * voice) (its_orders voice / 256)
    (with_variable (TICK + 7 * voice) 1 (with_variable (INSTRUMENT + 7 * voice) 1
    (with_variable (VIB_DELAY + 7 * voice) 255 (with_variable (GATE + 7 * voice) 0xFE
    (with_variable (TEMPO + 7 * voice) 5 at))))))

abbrev pub begun : ℕ → ℕ
begun =
    with_voice_begun 0 (with_voice_begun 1 (with_voice_begun 2
    (with_variable VOLUME 15 (with_variable FUNK_ONE 8 (with_variable FUNK_TWO 5 (λ place. 0))))))

abbrev pub BeginsSo : (ℕ → ℕ) → Type 0
BeginsSo at = Begins with_orders 5 8 its_orders at

pub record BeginningsAreWorked : Type 0 where
  pub begins : BeginsSo begun
  -- where its lines aren't kept a byte may be any
  pub no_lines : Begins (record with_orders { holds = nowhere }) 5 8 its_orders (with_variable (VIB_DELAY + 14) 0 begun)
  pub always : ¬ Begins (record with_orders { holds = nowhere }) 5 8 its_orders (with_variable TICK 0 begun)
  -- a part of the state, of any voice, that begins with another number, with 0, or as none
  pub tick : ¬ BeginsSo (with_variable TICK 0 begun)
  pub instrument : ¬ BeginsSo (with_variable (INSTRUMENT + 7) 0 begun)
  pub gate : ¬ BeginsSo (with_variable (GATE + 14) 0xFF begun)
  pub delay : ¬ BeginsSo (with_variable (VIB_DELAY + 14) 0 begun)
  -- of these bytes a voice that is playing may have any
  pub high_bits : ¬ BeginsSo (with_variable (PULSE_HIGH + 7) 0x10 begun)
  pub param : ¬ BeginsSo (with_variable NEW_PARAM 1 begun)
  pub tempo : ¬ BeginsSo (with_variable (TEMPO + 14) 6 begun)
  -- where it is in its song
  pub low : ¬ BeginsSo (with_variable ORDER_LOW 0x81 begun)
  pub high : ¬ BeginsSo (with_variable (ORDER_HIGH + 14) 0x12 begun)
  pub rest : ¬ BeginsSo (with_variable REST 1 begun)
  pub offset : ¬ BeginsSo (with_variable (OFFSET + 7) 1 begun)
  pub place : ¬ BeginsSo (with_variable (ORDER_PLACE + 14) 1 begun)
  pub transpose : ¬ BeginsSo (with_variable TRANSPOSE 1 begun)
  pub repeat : ¬ BeginsSo (with_variable (REPEAT + 7) 1 begun)
  -- but the pattern's place may be any
  pub pattern_low : BeginsSo (with_variable (PATTERN_LOW + 7) 1 begun)
  pub pattern_high : BeginsSo (with_variable (PATTERN_HIGH + 14) 1 begun)
  -- what no voice owns
  pub filter : ¬ BeginsSo (with_variable FILTER_POINTER 1 begun)
  pub volume : ¬ BeginsSo (with_variable VOLUME 0 begun)
  pub funk_one : ¬ BeginsSo (with_variable FUNK_ONE 5 begun)
  pub funk_two : ¬ BeginsSo (with_variable FUNK_TWO 8 begun)
  pub lent : ¬ BeginsSo (with_variable LENT 1 begun)
  pub kept_command : ¬ BeginsSo (with_variable KEPT_COMMAND 1 begun)
  pub kept_param : ¬ BeginsSo (with_variable KEPT_PARAM 1 begun)

-- the second voice, with its own orderlist, at one play call in a picture
abbrev pub PlaysSo : LookUps → ℕ → ℕ → (ℕ → ℕ) → Type 0
PlaysSo look speed voice at =
    PlaysFromStart with_orders (at_speed speed) look its_packed its_order (ORDERS + voice) 1 at

pub record FirstPlaysAreWorked (look : LookUps) : Type 0 where
  pub plays : PlaysSo look 1 1 begun
  pub other_speed : ¬ PlaysSo look 2 1 begun
  pub other_order : ¬ PlaysSo look 1 2 begun
  pub in_rests : ¬ PlaysSo look 1 1 (with_variable (REST + 7) 1 begun)
