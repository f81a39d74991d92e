-- A voice that is playing gets back its own command, computed by the checker.
use Rattle.std.proofs.Common.{ℕ, ◌+◌, refl, ap}
use Rattle.std.proofs.Common.{arith}
use Rattle.std.proofs.lemmas.Bool.{true≢false}
use Rattle.player_memory.specs.declared.labels.TheConstants.{TICK, COMMAND, PARAM}
use Rattle.player_memory.specs.Rooms.{IsRoom, MayUse}
use Rattle.player_memory.specs.Playing.{IsPlaying, IsAtVoice, own_at}
use Rattle.player_memory.specs.WorkedPlays.{beginning}
use Rattle.player_memory.proofs.Laws.{IsLaid, room_in, uses_in, behind_slides, playing_in}
use Rattle.player_desk.proofs.Laws.{Fields, fields_of}
use Rattle.pitch_code.specs.GivenBackBlock.{with_command}
use Rattle.pitch_code.specs.WorkedVoices.{whole, lent_state, lent_desk, back_run, PlaysAgain, left_with}
use Rattle.pitch_code.specs.WorkedVoices.{PlaysWith, VoicesAreWorked}
use Rattle.pitch_code.proofs.Giving.{given_back_block_plays}
use Rattle.pitch_code.proofs.WorkedPitches.{is_stuck}

laid : IsLaid whole
laid = record { variables = refl; low = refl; high = refl; pointer = refl }

room : IsRoom whole 4
room = room_in whole laid

uses : MayUse whole 4
uses =
    uses_in whole laid
    (record { reads = refl; writes = refl; reads_slides = refl; writes_slides = refl; registers = refl })

at_voice : (lent : ℕ) → IsAtVoice 1 (lent_desk lent)
at_voice lent = record { x = refl; decimal = refl }

playing : (lent : ℕ) → IsPlaying whole 1 lent_state (lent_desk lent).at
playing lent = playing_in whole 1 lent_state (lent_desk lent).at refl refl refl

again : (lent : ℕ) → PlaysAgain lent (back_run lent)
again lent =
    given_back_block_plays whole 4 1 lent_state (lent_desk lent) room uses (omega arith) (at_voice lent) (playing lent)

-- the voice's bytes by their names, with this command
its_fields : (command param : ℕ) (at : ℕ → ℕ) → IsPlaying whole 1 (with_command command param beginning) at →
    Fields whole.holds (with_command command param beginning).voice 5 (own_at whole at 1)
its_fields command param at plays =
    fields_of whole.holds (with_command command param beginning).voice 5 (own_at whole at 1) plays.own

-- those that it has behind the block, where one is lent
its_own : (label byte : ℕ) → PlaysWith label byte →
    Fields whole.holds (with_command 3 7 beginning).voice 5
    (own_at whole (left_with (0x1006 + label) byte (back_run 1)).desk.at 1)
its_own label byte p = its_fields 3 7 (left_with (0x1006 + label) byte (back_run 1)).desk.at (p.lent refl refl).plays

pub voices_are_worked : VoicesAreWorked
voices_are_worked = record {
  room = room;
  uses = uses;
  at_voice = at_voice 1;
  playing = playing 1;
  none_playing = playing 0;
  back = again 1;
  own = (again 1).lent refl refl;
  none = again 0;
  kept = λ p.
      (let byte =
      (its_fields 1 9 (left_with (0x1006 + (COMMAND + 7)) 3 (back_run 0)).desk.at
      (p.none refl).but_slides.plays).command refl in omega (arith, byte));
  none_slide = λ p. (let byte = ((p.none refl).slides refl 3 (omega arith)).high in omega (arith, byte));
  stuck = λ p. true≢false (ap is_stuck (p.lent refl refl).ends);
  other_x = λ p. (let x = (p.lent refl refl).at_voice.x in omega (arith, x));
  decimal = λ p. true≢false (p.lent refl refl).at_voice.decimal;
  command = λ p. (let byte = (its_own (COMMAND + 7) 1 p).command refl in omega (arith, byte));
  param = λ p. (let byte = (its_own (PARAM + 7) 9 p).param refl in omega (arith, byte));
  tick = λ p. (let byte = (its_own (TICK + 7) 2 p).tick in omega (arith, byte));
  common = λ p. (let byte = (p.lent refl refl).plays.common.1.1.1.1.1.0.0 refl in omega (arith, byte));
  lent = λ p. (let byte = (p.lent refl refl).lent in omega (arith, byte));
  song = λ p. (let byte = (p.lent refl refl).song.0 in omega (arith, byte));
  other = λ p.
      (let byte =
      (p.lent refl refl).stays.others 0 TICK (omega arith) (λ e. omega (arith, e)) refl (λ e. omega (arith, e)) in
      omega (arith, byte));
  register = λ p. (let byte = (p.lent refl refl).stays.registers 4 (omega arith) in omega (arith, byte));
  elsewhere = λ p. (let byte = (p.lent refl refl).stays.elsewhere 0x2000
      (behind_slides whole laid 0x2000 (omega arith) (omega arith)) in omega (arith, byte));
  slide = λ p. (let byte = ((p.lent refl refl).slides refl 3 (omega arith)).high in omega (arith, byte));
}
