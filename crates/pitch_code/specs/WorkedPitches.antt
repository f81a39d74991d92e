-- Memories in which the second voice sets notes and gets back its own command, and what giving it back isn't.
use Rattle.std.specs.Prelude.{◌≡◌, ℕ, ◌+◌, ◌-◌, ◌*◌, ◌/◌, ◌%◌, true, false, nat_lt}
use Rattle.std.specs.Prelude.{if◌then◌else◌}
use Rattle.code_runs.specs.Runs.{put}
use Rattle.play_model.specs.Freq.{freq}
use Rattle.asked_numbers.specs.declared.range.NumberRange.{NumberRange}
use Rattle.scopes.specs.Desk.{Desk, Layout}
use Rattle.scopes.specs.Meaning.{Ran, Stuck, each_one, ran}
use Rattle.player_memory.specs.declared.labels.TheConstants.{LAST_NOTE, VIB_TIME, FREQ_LOW, FREQ_HIGH}
use Rattle.player_memory.specs.declared.labels.TheConstants.{COMMAND, PARAM, LENT, FREQUENCY_LOWS, VARIABLES}
use Rattle.player_memory.specs.Rooms.{IsRoom, MayUse}
use Rattle.player_memory.specs.Playing.{own_at, IsAtVoice}
use Rattle.player_memory.specs.Frequencies.{HasFrequencies}
use Rattle.pitch_code.specs.PitchBlock.{pitch_tree}
use Rattle.pitch_code.specs.GivenBackBlock.{given_back_tree, GivesBack, GivesNothing}

-- the variables stand from $1000 on, the low bytes of the frequencies from $2000, and the high ones from $2200
abbrev pub from_1000 : Layout
from_1000 = record {
  address = λ label. if nat_lt label VARIABLES then 0x1000 + label else 0x2000 + 0x100 * (label - FREQUENCY_LOWS);
  pointer = 0xFC;
  holds = λ condition. true;
  open_turns = 255;
  may_read = λ place. true;
  may_write = λ place. true;
}

-- the code of the second voice begins, with this byte in A
abbrev pub second_voice : ℕ → (ℕ → ℕ) → Desk
second_voice a at = record {
  cpu = record {
    a = a;
    x = 7;
    y = 0;
    sp = 0xFD;
    pc = 0;
    n = false;
    v = false;
    d = false;
    i = false;
    z = false;
    c = false;
  };
  at = at;
}

-- ---- notes

-- the numbers from A-4 to 127
abbrev pub its_range : NumberRange
its_range = record { first = 57; count = 71 }

-- before the lists each place has the low byte of its number, and behind each list of 71 bytes stands 1
abbrev pub with_lists : ℕ → ℕ
with_lists place =
    if nat_lt place 0x2039 then place % 256
    else if nat_lt place 0x2080 then freq (place - 0x2000) % 256
    else if nat_lt place 0x2239 then 1
    else if nat_lt place 0x2280 then freq (place - 0x2200) / 256
    else 1

abbrev pub sounded : ℕ → Ran
sounded note = ran each_one from_1000 pitch_tree (second_voice note with_lists)

-- a byte of the second voice behind it
abbrev pub byte_behind : Ran → ℕ → ℕ
byte_behind run label = own_at from_1000 run.desk.at 1 label

-- A-4, B-7, which is the last note, the one behind it, and the last number
pub record NotesAreWorked : Type 0 where
  pub lists : HasFrequencies from_1000 0 with_lists its_range
  -- there are no more of them in front or behind, nor with another byte in their place, of either list
  pub lower : ¬ HasFrequencies from_1000 0 with_lists (record { first = 56; count = 72 })
  pub higher : ¬ HasFrequencies from_1000 0 with_lists (record { first = 57; count = 72 })
  pub first_low : ¬ HasFrequencies from_1000 0 (put with_lists 0x2039 1) its_range
  pub last_low : ¬ HasFrequencies from_1000 0 (put with_lists 0x207F 1) its_range
  pub first_high : ¬ HasFrequencies from_1000 0 (put with_lists 0x2239 1) its_range
  pub last_high : ¬ HasFrequencies from_1000 0 (put with_lists 0x227F 1) its_range
  pub last_note : byte_behind (sounded 57) LAST_NOTE ≡ 57
  pub vib_time : byte_behind (sounded 57) VIB_TIME ≡ 0
  pub low : byte_behind (sounded 57) FREQ_LOW ≡ 0x46
  pub high : byte_behind (sounded 57) FREQ_HIGH ≡ 0x1D
  pub cost : (sounded 57).cost ≡ 8
  pub top_low : byte_behind (sounded 95) FREQ_LOW ≡ 0xFF
  pub top_high : byte_behind (sounded 95) FREQ_HIGH ≡ 0xFF
  pub none_low : byte_behind (sounded 96) FREQ_LOW ≡ 0
  pub none_high : byte_behind (sounded 96) FREQ_HIGH ≡ 0
  pub far_last_note : byte_behind (sounded 127) LAST_NOTE ≡ 127
  pub far_low : byte_behind (sounded 127) FREQ_LOW ≡ 0
  pub far_high : byte_behind (sounded 127) FREQ_HIGH ≡ 0

-- ---- commands

-- each place has the low byte of its number, but where it is told whether a command is lent
abbrev pub lending : ℕ → Desk
lending lent = second_voice 0 (put (λ place. place % 256) (0x1000 + LENT) lent)

abbrev pub given : ℕ → Ran
given lent = ran each_one from_1000 given_back_tree (lending lent)

-- all that the code asks for is there, and it gives back what is lent: the bytes at $106D and $106E
pub record ReturnsAreWorked : Type 0 where
  pub room : IsRoom from_1000 0
  pub uses : MayUse from_1000 0
  pub at_voice : IsAtVoice 1 (lending 1)
  pub back : GivesBack from_1000 1 (lending 1) (given 1)
  pub command : byte_behind (given 1) COMMAND ≡ 0x6D
  pub param : byte_behind (given 1) PARAM ≡ 0x6E
  pub cost : (given 1).cost ≡ 7
  pub none : GivesNothing 1 (lending 0) (given 0)
  pub none_cost : (given 0).cost ≡ 2

-- another byte behind it
abbrev pub with_byte : ℕ → ℕ → Ran → Ran
with_byte label byte run = record run { desk = record run.desk { at = put run.desk.at (0x1000 + label) byte } }

-- It isn't to be stuck, to lose X, to keep the lent command, its parameter, or that one is lent, or to change the first
-- voice's command. And who gives it back changes something.
pub record OthersAreDenied : Type 0 where
  pub stuck : ¬ GivesBack from_1000 1 (lending 1) (record (given 1) { outcome = Stuck })
  pub no_voice : ¬ GivesBack from_1000 0 (lending 1) (given 1)
  pub command : ¬ GivesBack from_1000 1 (lending 1) (with_byte (COMMAND + 7) 51 (given 1))
  pub param : ¬ GivesBack from_1000 1 (lending 1) (with_byte (PARAM + 7) 52 (given 1))
  pub lent : ¬ GivesBack from_1000 1 (lending 1) (with_byte LENT 1 (given 1))
  pub another : ¬ GivesBack from_1000 1 (lending 1) (with_byte COMMAND 0 (given 1))
  pub stuck_with_none : ¬ GivesNothing 1 (lending 0) (record (given 0) { outcome = Stuck })
  pub no_voice_with_none : ¬ GivesNothing 0 (lending 0) (given 0)
  pub something : ¬ GivesNothing 1 (lending 1) (given 1)
