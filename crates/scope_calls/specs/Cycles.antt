-- How many clock cycles a call of an entrance takes, from its first instruction to its return, by what stands in memory
-- and in the registers. Source: the MOS 6502 programming manual.
use Rattle.std.specs.Prelude.{ℕ, ◌+◌, Option, Some, None}
use Rattle.cpu6502.specs.declared.machine.Machine.{Machine}
use Rattle.cpu6502.specs.declared.mnemonic.Mnemonic.TheVariants.{Cld, Jmp, Jsr, Ldx, Rts}
use Rattle.cpu6502.specs.declared.mnemonic.Mode.TheVariants.{Absolute, Immediate, Implied}
use Rattle.cpu6502.specs.Manual.{cycles_of}
use Rattle.scopes.specs.Desk.{Desk, Layout}
use Rattle.scopes.specs.Trees.{Tree}
use Rattle.scopes.specs.Meaning.{each_one, ran}
use Rattle.scope_lines.specs.Lines.{block_around}
use Rattle.scope_lines.specs.Cycles.{cycles}
use Rattle.scope_calls.specs.Entrances.{Entrance, first_place, voices_place}
use Rattle.scope_calls.specs.Meaning.{cleared, at_voice, called_from, voice_called}
use Rattle.scope_calls.specs.Listed.{Listed, layout_at, entrance_desk}

-- a block, which begins so many bytes behind the entrance's label
abbrev pub block_cycles : Layout → Entrance → ℕ → Tree → Desk → ℕ
block_cycles layout e place block desk =
    cycles layout (block_around e.label e.pointer e.holds) place block desk

-- ---- voices

-- the voices' block stands behind the code that calls it
abbrev pub voice_cycles : Layout → Entrance → Tree → Desk → ℕ
voice_cycles layout e block desk = block_cycles layout e (voices_place e + 12) block desk

-- a voice that is called, with X: LDX, JSR, the block, and its return
abbrev pub called_cycles : Layout → Entrance → Tree → ℕ → ℕ → Desk → ℕ
called_cycles layout e block last voice desk =
    cycles_of Ldx Immediate + cycles_of Jsr Absolute
    + (voice_cycles layout e block (called_from last (at_voice voice desk)) + cycles_of Rts Implied)

-- the third: LDX, and the block
abbrev pub last_cycles : Layout → Entrance → Tree → Desk → ℕ
last_cycles layout e block desk = cycles_of Ldx Immediate + voice_cycles layout e block (at_voice 2 desk)

-- the second and the third; and all three, where the code that calls them stands at a place
abbrev pub two_cycles : Layout → Entrance → Tree → ℕ → Desk → ℕ
two_cycles layout e block place desk =
    called_cycles layout e block (place + 9) 1 desk
    + last_cycles layout e block (voice_called layout block (place + 9) 1 desk).desk

abbrev pub voices_cycles : Layout → Entrance → Option Tree → ℕ → Desk → ℕ
voices_cycles layout e None place desk = 0
voices_cycles layout e (Some block) place desk =
    called_cycles layout e block (place + 4) 0 desk
    + two_cycles layout e block place (voice_called layout block (place + 4) 0 desk).desk

-- ---- all of it

-- from the CLD to the RTS, where the blocks come to their ends
abbrev pub entrance_cycles : Layout → Entrance → Desk → ℕ
entrance_cycles layout e desk =
    cycles_of Cld Implied
    + (block_cycles layout e first_place e.first (cleared desk)
    + (voices_cycles layout e e.voice (layout.address e.label + voices_place e)
    (ran each_one layout e.first (cleared desk)).desk + cycles_of Rts Implied))

-- and with the jump in front of them
abbrev pub meant_cycles : Listed → Machine → ℕ → ℕ
meant_cycles e machine number =
    cycles_of Jmp Absolute + entrance_cycles (layout_at e) e.entrance (entrance_desk e machine number)
