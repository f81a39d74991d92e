-- The rules for the blocks that a machine calls at an entrance: a number for all of it, and those of its blocks' lines. This
-- is the project's own; what an instruction takes is the MOS 6502 programming manual's.
use Rattle.std.specs.Prelude.{ℕ, ◌+◌, ◌*◌, ◌≤◌, ◌++◌, Option, Some, None, List, [], ◌∷◌, take, drop}
use Rattle.cpu6502.specs.declared.machine.Machine.{Machine}
use Rattle.cpu6502.specs.declared.mnemonic.Mnemonic.TheVariants.{Cld, Jmp, Jsr, Ldx, Rts}
use Rattle.cpu6502.specs.declared.mnemonic.Mode.TheVariants.{Absolute, Immediate, Implied}
use Rattle.cpu6502.specs.Manual.{cycles_of}
use Rattle.scopes.specs.Trees.{Tree}
use Rattle.scope_calls.specs.Entrances.{Entrance}
use Rattle.scope_calls.specs.Listed.{Listed}
use Rattle.scope_calls.specs.Cycles.{meant_cycles}
use Rattle.scope_calls.specs.EntranceLaws.{Returns}
use Rattle.cpu6502.specs.Call.{call_cycles}
use Rattle.cycle_bound.specs.Rules.{nowhere, entry, behind_first, nodes, asked, Reaches, bound_by, Setting}

-- ---- the voices

-- three times the voices' block, and the code that calls it: three loads of X, two calls, and two returns
abbrev pub calling_most : ℕ
calling_most = 3 * cycles_of Ldx Immediate + 2 * cycles_of Jsr Absolute + 2 * cycles_of Rts Implied

abbrev pub voice_most : Option Tree → List ℕ → ℕ
voice_most None numbers = 0
voice_most (Some block) numbers = 3 * entry numbers 0 + calling_most

abbrev pub voice_asked : Setting → Option Tree → List ℕ → List ℕ
voice_asked setting None numbers = []
voice_asked setting (Some block) numbers = asked setting nowhere 0 block numbers

-- ---- all of it

-- the numbers of the first block's lines stand behind that of the call, and those of the voices' block behind them
abbrev pub first_numbers : Tree → List ℕ → List ℕ
first_numbers first numbers = take (nodes first) (behind_first numbers)

abbrev pub voice_numbers : Tree → List ℕ → List ℕ
voice_numbers first numbers = drop (nodes first) (behind_first numbers)

abbrev pub call_asked : Setting → Tree → Option Tree → List ℕ → List ℕ
call_asked setting first voice numbers =
    (entry (first_numbers first numbers) 0 + voice_most voice (voice_numbers first numbers))
    ∷ (asked setting nowhere 0 first (first_numbers first numbers)
    ++ voice_asked setting voice (voice_numbers first numbers))

-- the numbers of a block that is done once, and of one that is done for each voice, if there is one
abbrev pub AdmitsCall : Setting → Tree → Option Tree → List ℕ → Type 0
AdmitsCall setting first voice numbers = Reaches (call_asked setting first voice numbers) numbers

-- those of an entrance, where an open loop has so many turns
abbrev pub setting_at : ℕ → Entrance → Setting
setting_at open_turns e = record { holds = e.holds; open_turns = open_turns }

abbrev pub AdmitsEntrance : ℕ → Entrance → List ℕ → Type 0
AdmitsEntrance open_turns e numbers = AdmitsCall (setting_at open_turns e) e.first e.voice numbers

-- the cycles of a call's instructions beside those of its blocks and of what calls the voices
abbrev pub around_cycles : ℕ
around_cycles = cycles_of Jmp Absolute + cycles_of Cld Implied + cycles_of Rts Implied

-- what is counted of a call is at most the entrance's number and these, whatever is in memory and in the registers
abbrev pub EntrancesKeepBounds : Type 0
EntrancesKeepBounds =
    (e : Listed) (machine : Machine) (number : ℕ) (numbers : List ℕ) → AdmitsEntrance e.open_turns e.entrance numbers →
    meant_cycles e machine number ≤ bound_by numbers + around_cycles

-- and so are the clock cycles of a call that returns
abbrev pub CallsKeepBounds : Type 0
CallsKeepBounds =
    (e : Listed) (machine : Machine) (number : ℕ) (r : Returns e machine number) (numbers : List ℕ) →
    AdmitsEntrance e.open_turns e.entrance numbers →
    call_cycles machine e.entry number r.steps ≤ bound_by numbers + around_cycles
