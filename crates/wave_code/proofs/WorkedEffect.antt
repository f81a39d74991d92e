-- The code that tells which effect runs, and that of a command of the wave table, run.
use Rattle.std.proofs.Common.{ℕ, ◌+◌, Bool, true, false, nat_eq, refl, sym, ap, inl, inr}
use Rattle.std.proofs.Common.{arith}
use Rattle.std.proofs.lemmas.Bool.{both_ways}
use Rattle.scopes.specs.Meaning.{Outcome, Left}
use Rattle.player_memory.specs.declared.conditions.TheConstants.{WAVE_COMMAND}
use Rattle.player_memory.specs.declared.labels.TheConstants.{TICK, COMMAND, PARAM, WAVE_RIGHTS}
use Rattle.player_memory.specs.FactLines.{KeepsShared}
use Rattle.player_memory.specs.Rooms.{IsRoom, MayUse}
use Rattle.player_memory.specs.Playing.{own_at, IsListed, IsPlaying}
use Rattle.player_memory.proofs.Laws.{IsLaid, room_in, uses_in, behind_slides, playing_in}
use Rattle.player_text.specs.declared.joints.TheConstants.{EFFECTED}
use Rattle.player_desk.proofs.Laws.{Fields, fields_of}
use Rattle.wave_code.specs.CommandBlock.{IsAtCommand, lent_out}
use Rattle.wave_code.specs.WorkedWave.{worked_layout}
use Rattle.wave_code.specs.WorkedEffect.{EffectsAreWorked, RunningIsWorked, CommandsAreWorked, at_row, all_rests}
use Rattle.wave_code.specs.WorkedEffect.{LendingIsWorked, with_other, commands_and}
use Rattle.wave_code.proofs.Commanding.{command_block_lends}

pub effects_are_worked : EffectsAreWorked
effects_are_worked = record {
  own = record { way_is = refl; a_is = refl; delay_is = refl; cost_is = refl };
  skipped = record { way_is = refl; a_is = refl; delay_is = refl; cost_is = refl };
  later = record { way_is = refl; a_is = refl; delay_is = refl; cost_is = refl };
  begins = record { way_is = refl; a_is = refl; delay_is = refl; cost_is = refl };
  waits = record { way_is = refl; a_is = refl; delay_is = refl; cost_is = refl };
  never = record { way_is = refl; a_is = refl; delay_is = refl; cost_is = refl };
  none = record { way_is = refl; a_is = refl; delay_is = refl; cost_is = refl };
  rests = record { way_is = refl; a_is = refl; delay_is = refl; cost_is = refl };
  not_kept = record { way_is = refl; a_is = refl; delay_is = refl; cost_is = refl };
}

pub running_is_worked : RunningIsWorked
running_is_worked = record {
  own = refl;
  vibrato = refl;
  waits = refl;
  never = refl;
  none = refl;
  out = refl;
  later = refl;
  without = refl;
  has = record { command = omega arith; delay = omega arith };
  command = λ has. (let l = has.command in omega (arith, l));
  delay = λ has. (let l = has.delay in omega (arith, l));
  keeps = record { instrument = λ goes none some long. refl; runs = λ goes some. refl; shared = λ on. refl };
  not_kept = λ keeps.
      both_ways true (sym (keeps.instrument refl refl (λ e. omega (arith, e)) (λ e. omega (arith, e)))) refl;
  effects_not_kept = λ keeps. both_ways true (sym (keeps.runs refl (λ e. omega (arith, e)))) refl;
  shared_not_kept = λ keeps. both_ways true (sym (keeps.shared refl)) refl;
}

-- what they have in common is kept with all code, and with that of commands of the wave table alone
all_shared : KeepsShared (worked_layout true)
all_shared = record {
  tone = λ on. refl;
  slide = λ on. refl;
  once = λ on. refl;
  delay = λ on. refl;
  command = λ on. refl;
  legato = λ on. refl;
  soft = λ on. refl;
  filter = λ on. refl;
  control = λ on. refl;
  cutoff = λ on. refl;
}

alone_shared : KeepsShared (commands_and WAVE_COMMAND)
alone_shared = record {
  tone = λ on. absurd (both_ways true (sym on) refl);
  slide = λ on. absurd (both_ways true (sym on) refl);
  once = λ on. absurd (both_ways true (sym on) refl);
  delay = λ on. refl;
  command = λ on. refl;
  legato = λ on. absurd (both_ways true (sym on) refl);
  soft = λ on. absurd (both_ways true (sym on) refl);
  filter = λ on. absurd (both_ways true (sym on) refl);
  control = λ on. absurd (both_ways true (sym on) refl);
  cutoff = λ on. absurd (both_ways true (sym on) refl);
}

pub commands_are_worked : CommandsAreWorked
commands_are_worked = record {
  sets =
      record { way_is = refl; command_is = refl; param_is = refl; ad_is = refl; lent_is = refl; cost_is = refl };
  lends =
      record { way_is = refl; command_is = refl; param_is = refl; ad_is = refl; lent_is = refl; cost_is = refl };
  kept_command = refl;
  kept_param = refl;
  working = refl;
  zero =
      record { way_is = refl; command_is = refl; param_is = refl; ad_is = refl; lent_is = refl; cost_is = refl };
  eight =
      record { way_is = refl; command_is = refl; param_is = refl; ad_is = refl; lent_is = refl; cost_is = refl };
  last =
      record { way_is = refl; command_is = refl; param_is = refl; ad_is = refl; lent_is = refl; cost_is = refl };
  lent_one = λ which.
      elim which [ inl none ↦ (let e = none in omega (arith, e)) | inr from ↦ (let l = from in omega (arith, l)) ];
  kept = record { commands = refl; lines = refl; shared = all_shared };
  kept_alone = record { commands = refl; lines = tt; shared = alone_shared };
  not_kept = λ keeps. both_ways true (sym keeps.commands) refl;
  lines_not_kept = λ keeps. both_ways true (sym keeps.lines) refl;
  shared_not_kept = λ keeps. both_ways true (sym (keeps.shared.control refl)) refl;
}

-- ---- a command that is lent

abbrev is_to : ℕ → Outcome → Bool
is_to name (Left other) = nat_eq other name
is_to name outcome = false

laid : IsLaid (worked_layout true)
laid = record { variables = refl; low = refl; high = refl; pointer = refl }

room : IsRoom (worked_layout true) 4
room = room_in (worked_layout true) laid

uses : MayUse (worked_layout true) 4
uses =
    uses_in (worked_layout true) laid
    (record { reads = refl; writes = refl; reads_slides = refl; writes_slides = refl; registers = refl })

playing : IsPlaying (worked_layout true) 2 all_rests (at_row 0xF1).at
playing = playing_in (worked_layout true) 2 all_rests (at_row 0xF1).at refl refl refl

param : IsListed (worked_layout true) 4 (at_row 0xF1).at WAVE_RIGHTS 4 0xA7
param = record {
  elsewhere = behind_slides (worked_layout true) laid 0x1133 (omega arith) (omega arith);
  reads = refl;
  is = refl;
}

at_command : IsAtCommand (worked_layout true) 4 (at_row 0xF1) 4 1 0xA7
at_command = record { a = refl; y = refl; few = omega arith; listed = param; byte = omega arith; lent = refl }

-- the rows of the lent voice by their names
its_fields : (at : ℕ → ℕ) → IsPlaying (worked_layout true) 2 (lent_out 1 0xA7 all_rests) at →
    Fields (worked_layout true).holds (lent_out 1 0xA7 all_rests).voice 0 (own_at (worked_layout true) at 2)
its_fields at plays =
    fields_of (worked_layout true).holds (lent_out 1 0xA7 all_rests).voice 0 (own_at (worked_layout true) at 2)
    plays.own

pub lending_is_worked : LendingIsWorked
lending_is_worked = record {
  room = room;
  uses = uses;
  at_voice = record { x = refl; decimal = refl };
  playing = playing;
  at_command = at_command;
  lends =
      command_block_lends (worked_layout true) 4 2 4 1 0xA7 all_rests (at_row 0xF1) room uses (omega arith)
      (record { x = refl; decimal = refl }) playing at_command (omega arith) (omega arith) refl refl;
  row = λ at. (let y = at.y in omega (arith, y));
  number = λ at. (let a = at.a in omega (arith, a));
  already = λ at. (let lent = at.lent in omega (arith, lent));
  effected = λ l. both_ways true (ap (is_to EFFECTED) l.way) refl;
  other_a = λ l. (let a = l.a in omega (arith, a));
  other_x = λ l. (let x = l.at_voice.x in omega (arith, x));
  own = λ l. (let byte = (its_fields (with_other (COMMAND + 14) 2).desk.at l.plays).command refl in
      omega (arith, byte));
  param = λ l. (let byte = (its_fields (with_other (PARAM + 14) 9).desk.at l.plays).param refl in
      omega (arith, byte));
  not_lent = λ l. (let byte = l.lent in omega (arith, byte));
  kept_command = λ l. (let byte = l.kept_command in omega (arith, byte));
  kept_param = λ l. (let byte = l.kept_param in omega (arith, byte));
  song = λ l. (let byte = l.song.0 in omega (arith, byte));
  other = λ l. (let byte = l.stays.others 0 TICK (omega arith) (λ e. omega (arith, e)) refl (λ e. omega (arith, e)) in
      omega (arith, byte));
  register = λ l. (let byte = l.stays.registers 4 (omega arith) in omega (arith, byte));
  elsewhere = λ l. (let byte = l.stays.elsewhere 0x2000
      (behind_slides (worked_layout true) laid 0x2000 (omega arith) (omega arith)) in omega (arith, byte));
  slide = λ l. (let byte = (l.slides refl 3 (omega arith)).high in omega (arith, byte));
}
