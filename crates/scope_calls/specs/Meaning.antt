-- What an entrance means on the desk: the registers, the flags and each byte of memory behind its return, the stack's
-- among them, and in how many instructions. This is the project's own form of player code; what its instructions do is
-- the MOS 6502 programming manual's.
use Rattle.std.specs.Prelude.{ℕ, ◌+◌, ◌*◌, ◌/◌, ◌%◌, false, Option, Some, None}
use Rattle.cpu6502.specs.Registers.{stack_place, with_x}
use Rattle.code_runs.specs.Runs.{put}
use Rattle.scopes.specs.Desk.{Desk, Layout}
use Rattle.scopes.specs.Trees.{Tree}
use Rattle.scopes.specs.Meaning.{Ran, Done, each_one, ended, paid, and_then, ran}
use Rattle.scope_calls.specs.Entrances.{Entrance, voices_place}

-- ---- single instructions

-- the decimal flag is cleared
abbrev pub cleared : Desk → Desk
cleared desk = record { cpu = record desk.cpu { d = false }; at = desk.at }

-- 7 times a voice's number is in X
abbrev pub at_voice : ℕ → Desk → Desk
at_voice voice desk = record { cpu = with_x desk.cpu (7 * voice); at = desk.at }

-- a call whose last byte stands at a place has pushed that place, the high byte first
abbrev pub called_from : ℕ → Desk → Desk
called_from last desk = record {
  cpu = record desk.cpu { sp = (desk.cpu.sp + 254) % 256 };
  at = put (put desk.at (stack_place desk.cpu.sp) (last / 256)) (stack_place (desk.cpu.sp + 255)) (last % 256);
}

-- a return has pulled two bytes
abbrev pub returned : Desk → Desk
returned desk = record { cpu = record desk.cpu { sp = (desk.cpu.sp + 2) % 256 }; at = desk.at }

-- ---- the parts of an entrance

-- a return, one instruction
abbrev pub back : Desk → Ran
back desk = ended Done (returned desk) 1

-- a voice that is called: two instructions, the block, and its return
abbrev pub voice_called : Layout → Tree → ℕ → ℕ → Desk → Ran
voice_called layout block last voice desk =
    paid 2 (and_then (ran each_one layout block (called_from last (at_voice voice desk))) back)

-- the third: one instruction, and the block
abbrev pub voice_last : Layout → Tree → Desk → Ran
voice_last layout block desk = paid 1 (ran each_one layout block (at_voice 2 desk))

-- the voices, where the code that calls them stands at a place: its two calls end 4 and 9 bytes behind it
abbrev pub voices_ran : Layout → Option Tree → ℕ → Desk → Ran
voices_ran layout None place desk = ended Done desk 0
voices_ran layout (Some block) place desk =
    and_then (voice_called layout block (place + 4) 0 desk)
    (λ one. and_then (voice_called layout block (place + 9) 1 one) (voice_last layout block))

-- ---- all of it

-- from the CLD, one instruction, to behind the RTS. Each part is done behind the end of the one before it alone
abbrev pub entrance_ran : Layout → Entrance → Desk → Ran
entrance_ran layout e desk =
    paid 1
    (and_then (ran each_one layout e.first (cleared desk))
    (λ done. and_then (voices_ran layout e.voice (layout.address e.label + voices_place e) done) back))
