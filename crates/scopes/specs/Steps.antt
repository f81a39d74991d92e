-- What an instruction does on the desk: what it does on the machine, with its operand where the label stands, and with
-- reads and writes where the layout allows them. Source: the MOS 6502 programming manual.
use Rattle.std.specs.Prelude.{ℕ, Bool, true, false, ◌&&◌, ◌||◌, nat_eq, List, [], ◌∷◌, Option, Some}
use Rattle.std.specs.Prelude.{None, Result, Ok, Err, if◌then◌else◌}
use Rattle.code_runs.specs.Runs.{put_all}
use Rattle.cpu6502.specs.declared.effect.Write.{Write}
use Rattle.cpu6502.specs.declared.effect.Effect.{Effect}
use Rattle.cpu6502.specs.declared.mnemonic.Mnemonic.{Mnemonic}
use Rattle.cpu6502.specs.declared.mnemonic.Mnemonic.TheVariants.{Sta, Stx, Sty}
use Rattle.cpu6502.specs.declared.stop.Stop.{Stop}
use Rattle.cpu6502.specs.Effects.{effect_of, or_effect}
use Rattle.cpu6502.specs.Shifts.{accumulator_effect}
use Rattle.scopes.specs.declared.line.Operand.{Operand}
use Rattle.scopes.specs.declared.line.Operand.TheVariants.{Number, Pointer}
use Rattle.scopes.specs.Desk.{Desk, Layout, half_place, operand_place, operand_read}

-- whether each of these writes is allowed
abbrev pub all_may : (ℕ → Bool) → List Write → Bool
all_may may_write [] = true
all_may may_write (write ∷ writes) = may_write write.place && all_may may_write writes

-- the desk behind an effect; none where the instruction has none, or writes where it may not
abbrev pub effected : (ℕ → Bool) → Desk → Option Effect → Option Desk
effected may_write desk None = None
effected may_write desk (Some effect) =
    if all_may may_write effect.writes then Some
    (record { cpu = effect.cpu; at = put_all desk.at effect.writes }) else None

abbrev pub unless_stopped : Result Effect Stop → Option Effect
unless_stopped (Ok effect) = Some effect
unless_stopped (Err stop) = None

-- a store doesn't read its operand's byte
abbrev pub is_store : Mnemonic → Bool
is_store Sta = true
is_store Stx = true
is_store Sty = true
is_store _ = false

-- where an operand may be read and written: a byte of the pointer is the block's own, and a number stands in the code
abbrev pub may_see : Layout → Operand → ℕ → Bool
may_see layout (Number number) place = true
may_see layout (Pointer half) place = true
may_see layout operand place = layout.may_read place

abbrev pub may_change : Layout → Operand → ℕ → Bool
may_change layout (Pointer half) place = nat_eq place (half_place layout.pointer half)
may_change layout operand place = layout.may_write place

-- an instruction with its operand; none where the processor stops, and where it reads or writes what it may not
abbrev pub done_with : Layout → Mnemonic → Operand → Desk → Option Desk
done_with layout mnemonic operand desk =
    if is_store mnemonic || may_see layout operand (operand_place layout operand desk) then effected
    (may_change layout operand) desk
    (unless_stopped
    (effect_of mnemonic 0 (operand_place layout operand desk) (operand_read operand desk) desk.cpu)) else None

-- one without: a shift of A, or what works on registers and flags
abbrev pub done : Layout → Mnemonic → Desk → Option Desk
done layout mnemonic desk =
    effected layout.may_write desk
    (or_effect (unless_stopped (accumulator_effect mnemonic 0 desk.cpu))
    (unless_stopped (effect_of mnemonic 0 0 desk.at desk.cpu)))
