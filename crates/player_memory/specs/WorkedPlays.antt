-- Memory that holds a voice that is playing, lists in it, and what a block may not have done, worked by hand.
use Rattle.std.specs.Prelude.{ℕ, ◌+◌, Bool, true, false, nat_eq, if◌then◌else◌}
use Rattle.code_runs.specs.Runs.{put}
use Rattle.song_model.specs.declared.tables.TableRow.{TableRow}
use Rattle.play_model.specs.State.{Playing, start_voice, start_common}
use Rattle.scopes.specs.Desk.{Desk, Layout}
use Rattle.scopes.specs.Meaning.{Outcome, Done, Again, ended}
use Rattle.player_memory.specs.declared.labels.TheConstants.{TICK, INSTRUMENT, GATE, VIB_DELAY, TEMPO, VOLUME}
use Rattle.player_memory.specs.declared.labels.TheConstants.{FUNK_ONE, FUNK_TWO}
use Rattle.player_memory.specs.declared.labels.TheConstants.{REST, REPEAT, LENT, KEPT_COMMAND, KEPT_PARAM, PULSE_LEFTS}
use Rattle.player_memory.specs.declared.labels.TheConstants.{PULSE_RIGHTS}
use Rattle.player_memory.specs.Playing.{IsListed, IsTable, Plays, PlaysButSlides}
use Rattle.player_memory.specs.WorkedMemory.{at_1000}

-- ---- a voice

-- the byte of a variable
abbrev pub with_variable : ℕ → ℕ → (ℕ → ℕ) → ℕ → ℕ
with_variable label byte at = put at (0x1006 + label) byte

-- the second voice as it begins, with what the voices share; all else is 0
abbrev pub beginning : Playing
beginning = record { voice = start_voice; common = start_common 1 }

abbrev pub its_memory : ℕ → ℕ
its_memory =
    with_variable (TICK + 7) 1 (with_variable (INSTRUMENT + 7) 1 (with_variable (GATE + 7) 0xFE
    (with_variable (VIB_DELAY + 7) 255 (with_variable TEMPO 5 (with_variable (TEMPO + 7) 5 (with_variable (TEMPO + 14) 5
    (with_variable VOLUME 15 (with_variable FUNK_ONE 8 (with_variable FUNK_TWO 5 (λ place. 0))))))))))

abbrev pub its_desk : ℕ → Bool → (ℕ → ℕ) → Desk
its_desk x decimal at = record {
  cpu = record {
    a = 0;
    x = x;
    y = 0;
    sp = 0xFD;
    pc = 0;
    n = false;
    v = false;
    d = decimal;
    i = false;
    z = false;
    c = false;
  };
  at = at;
}

-- a block of the second voice that has left this memory
abbrev pub PlaysIn : ℕ → Bool → Outcome → (ℕ → ℕ) → Type 0
PlaysIn x decimal outcome at =
    PlaysButSlides at_1000 4 1 (its_desk 7 false its_memory) (ended outcome (its_desk x decimal at) 0) beginning

abbrev pub PlaysWith : (ℕ → ℕ) → Type 0
PlaysWith at = PlaysIn 7 false Done at

-- the same, where a command is lent
abbrev pub lending : ℕ → ℕ
lending = with_variable LENT 1 its_memory

abbrev pub PlaysLent : (ℕ → ℕ) → Type 0
PlaysLent at =
    PlaysButSlides at_1000 4 1 (its_desk 7 false lending) (ended Done (its_desk 7 false at) 0) beginning

-- a block that has left the slides, too
abbrev pub PlaysFully : (ℕ → ℕ) → Type 0
PlaysFully at =
    Plays at_1000 4 1 (its_desk 7 false its_memory) (ended Done (its_desk 7 false at) 0) beginning

pub record PlaysAreWorked : Type 0 where
  pub fully : PlaysFully its_memory
  -- the last slides of each list, which another block may change
  pub low_slide : ¬ PlaysFully (put its_memory 0x1103 1)
  pub high_slide : ¬ PlaysFully (put its_memory 0x1107 1)
  pub not_fully : ¬ PlaysFully (with_variable VOLUME 14 its_memory)
  pub same : PlaysWith its_memory
  -- the slides and the pointer may be others
  pub pointer : PlaysWith (put its_memory 0xFC 1)
  pub slide : PlaysWith (put its_memory 0x1103 1)
  pub not_ended : ¬ PlaysIn 7 false Again its_memory
  pub other_x : ¬ PlaysIn 14 false Done its_memory
  pub decimal : ¬ PlaysIn 7 true Done its_memory
  pub own : ¬ PlaysWith (with_variable (TICK + 7) 2 its_memory)
  pub common : ¬ PlaysWith (with_variable VOLUME 14 its_memory)
  pub last_common : ¬ PlaysWith (with_variable FUNK_TWO 6 its_memory)
  pub tempo : ¬ PlaysWith (with_variable (TEMPO + 14) 6 its_memory)
  pub song : ¬ PlaysWith (with_variable (REST + 7) 1 its_memory)
  pub last_song : ¬ PlaysWith (with_variable (REPEAT + 7) 1 its_memory)
  pub lent : ¬ PlaysWith (with_variable LENT 1 its_memory)
  -- what the voice gets back, where a command is lent
  pub kept_command : ¬ PlaysLent (with_variable KEPT_COMMAND 1 lending)
  pub kept_param : ¬ PlaysLent (with_variable KEPT_PARAM 1 lending)
  pub first_voice : ¬ PlaysWith (with_variable TICK 1 its_memory)
  pub third_voice : ¬ PlaysWith (with_variable (TICK + 14) 1 its_memory)
  pub first_register : ¬ PlaysWith (put its_memory 0xD400 1)
  pub last_register : ¬ PlaysWith (put its_memory 0xD418 1)
  pub elsewhere : ¬ PlaysWith (put its_memory 0x2000 1)

-- ---- lists

-- two rows of a table, the left sides at $1120 and the right ones at $1130
abbrev pub with_lists : Layout
with_lists = record at_1000 {
  address = λ label. if nat_eq label PULSE_LEFTS then 0x111F else if nat_eq label PULSE_RIGHTS then 0x112F else
      at_1000.address label;
}

abbrev pub its_rows : ℕ → TableRow
its_rows number = if nat_eq number 1 then record { left = 0x88; right = 0x40 } else record { left = 0x7F; right = 2 }

abbrev pub its_lists : ℕ → ℕ
its_lists = put (put (put (put (λ place. 0) 0x1120 0x88) 0x1121 0x7F) 0x1130 0x40) 0x1131 2

abbrev pub IsTwoRows : ℕ → (ℕ → ℕ) → Type 0
IsTwoRows count at = IsTable with_lists 4 at PULSE_LEFTS PULSE_RIGHTS count its_rows

-- the lists of a table with 255 rows of zeros
abbrev pub far_lists : Layout
far_lists = record at_1000 {
  address = λ label. if nat_eq label PULSE_LEFTS then 0x2000 else if nat_eq label PULSE_RIGHTS then 0x2100 else
      at_1000.address label;
  open_turns = 255;
  may_read = λ place. true;
}

abbrev pub IsFull : ℕ → Type 0
IsFull count =
    IsTable far_lists 4 (λ place. 0) PULSE_LEFTS PULSE_RIGHTS count (λ number. record { left = 0; right = 0 })

pub record ListsAreWorked : Type 0 where
  pub table : IsTwoRows 2 its_lists
  -- a table has up to 255 rows
  pub full : IsFull 255
  pub too_many : ¬ IsFull 256
  pub third : ¬ IsTwoRows 3 its_lists
  pub first_left : ¬ IsTwoRows 2 (put its_lists 0x1120 0x87)
  pub last_right : ¬ IsTwoRows 2 (put its_lists 0x1131 3)
  -- a list's byte may be read, and is none of the variables
  pub unread : ¬ IsListed (record with_lists { may_read = λ place. false }) 4 its_lists PULSE_LEFTS 1 0x88
  pub variable : ¬ IsListed at_1000 4 its_memory (TICK + 7) 0 1
  -- a place over the end of memory is one at its beginning
  pub over : IsListed (record with_lists { address = λ label. 0xFFFF; may_read = λ place. true }) 4 its_lists 0 1 0
