-- Memory in which the second voice is playing and gets back its own command, worked by hand; and what the code for that
-- may not leave.
use Rattle.std.specs.Prelude.{ℕ, ◌+◌, true, false}
use Rattle.code_runs.specs.Runs.{put}
use Rattle.play_model.specs.State.{Playing}
use Rattle.scopes.specs.Desk.{Desk, Layout}
use Rattle.scopes.specs.Meaning.{Ran, Stuck, each_one, ran}
use Rattle.player_memory.specs.declared.labels.TheConstants.{TICK, COMMAND, PARAM, REST, VOLUME, LENT, KEPT_COMMAND}
use Rattle.player_memory.specs.declared.labels.TheConstants.{KEPT_PARAM}
use Rattle.player_memory.specs.Rooms.{IsRoom, MayUse}
use Rattle.player_memory.specs.Playing.{IsPlaying, IsAtVoice}
use Rattle.player_memory.specs.WorkedMemory.{at_1000}
use Rattle.player_memory.specs.WorkedPlays.{beginning, its_memory, its_desk, with_variable}
use Rattle.pitch_code.specs.GivenBackBlock.{given_back_tree, with_command, PlaysOwn, PlaysOwnAgain}

-- all code is kept
abbrev pub whole : Layout
whole = record at_1000 { holds = λ condition. true }

-- the voice as it begins, but with command 1 and parameter 9
abbrev pub lent_state : Playing
lent_state = with_command 1 9 beginning

-- they are lent to it (1) or its own (0), and command 3 with parameter 7 is kept
abbrev pub lent_desk : ℕ → Desk
lent_desk lent =
    its_desk 7 false
    (with_variable (COMMAND + 7) 1 (with_variable (PARAM + 7) 9 (with_variable LENT lent
    (with_variable KEPT_COMMAND 3 (with_variable KEPT_PARAM 7 its_memory)))))

abbrev pub back_run : ℕ → Ran
back_run lent = ran each_one whole given_back_tree (lent_desk lent)

-- what is asked of a run from there
abbrev pub PlaysAgain : ℕ → Ran → Type 0
PlaysAgain lent run = PlaysOwnAgain whole 4 1 (lent_desk lent) run lent_state

-- with another byte of a variable, or elsewhere
abbrev pub left_with : ℕ → ℕ → Ran → Ran
left_with place byte run = record run { desk = record run.desk { at = put run.desk.at place byte } }

abbrev pub PlaysWithByte : ℕ → ℕ → Type 0
PlaysWithByte place byte = PlaysAgain 1 (left_with place byte (back_run 1))

abbrev pub PlaysWith : ℕ → ℕ → Type 0
PlaysWith label byte = PlaysWithByte (0x1006 + label) byte

pub record VoicesAreWorked : Type 0 where
  pub room : IsRoom whole 4
  pub uses : MayUse whole 4
  pub at_voice : IsAtVoice 1 (lent_desk 1)
  pub playing : IsPlaying whole 1 lent_state (lent_desk 1).at
  pub none_playing : IsPlaying whole 1 lent_state (lent_desk 0).at
  -- where one is lent the voice has its own again; and where none is, it keeps the one that it has
  pub back : PlaysAgain 1 (back_run 1)
  pub own : PlaysOwn whole 4 1 (lent_desk 1) (back_run 1) (with_command 3 7 beginning)
  pub none : PlaysAgain 0 (back_run 0)
  pub kept : ¬ PlaysAgain 0 (left_with (0x1006 + (COMMAND + 7)) 3 (back_run 0))
  pub none_slide : ¬ PlaysAgain 0 (left_with 0x1107 1 (back_run 0))
  -- it isn't to be stuck, to lose X, or to leave the decimal flag on
  pub stuck : ¬ PlaysAgain 1 (record (back_run 1) { outcome = Stuck })
  pub other_x : ¬ PlaysAgain 1 (record (back_run 1) {
    desk = record (back_run 1).desk { cpu = record (back_run 1).desk.cpu { x = 14 } };
  })
  pub decimal : ¬ PlaysAgain 1 (record (back_run 1) {
    desk = record (back_run 1).desk { cpu = record (back_run 1).desk.cpu { d = true } };
  })
  -- nor to leave the lent command or its parameter, another byte of the voice or of all voices, or that one is lent
  pub command : ¬ PlaysWith (COMMAND + 7) 1
  pub param : ¬ PlaysWith (PARAM + 7) 9
  pub tick : ¬ PlaysWith (TICK + 7) 2
  pub common : ¬ PlaysWith VOLUME 14
  pub lent : ¬ PlaysWith LENT 1
  -- all else is left
  pub song : ¬ PlaysWith (REST + 7) 1
  pub other : ¬ PlaysWith TICK 1
  pub register : ¬ PlaysWithByte 0xD404 1
  pub elsewhere : ¬ PlaysWithByte 0x2000 1
  pub slide : ¬ PlaysWithByte 0x1107 1
