-- How instructions are named in text: by the three capital letters of the MOS 6502 programming manual. The letters
-- stand once, as the constant `NAMES` of the code.
use Rattle.std.specs.Prelude.{ℕ, ◌&&◌, Bool, List, [], Option, Some, None, get_or, position, nat_eq, slice_index}
use Rattle.std.specs.Option.{option_map}
use Rattle.cpu6502.specs.declared.mnemonic.Mnemonic.{Mnemonic}
use Rattle.cpu6502.specs.declared.mnemonic.Mnemonic.TheVariants.{Nop}
use Rattle.cpu6502.specs.contracts.mnemonic.Mnemonic.{the_type as mnemonics}
use Rattle.asm_text.specs.declared.names.Name.{Name}
use Rattle.asm_text.specs.declared.names.TheConstants.{NAMES}
use denote.Enum.Bare.{sameb}

-- the name at a place of the table
abbrev pub name_at : ℕ → Name
name_at place = get_or NAMES place (record { mnemonic = Nop; letters = [] })

-- whether a name is that of an instruction, by the equality of instructions
abbrev pub is_name_of : Mnemonic → Name → Bool
is_name_of mnemonic name = sameb mnemonics name.mnemonic mnemonic

-- the letters of an instruction: those of the first name that is its
abbrev pub letters_in : Option ℕ → List ℕ
letters_in None = []
letters_in (Some place) = (name_at place).letters

abbrev pub letters_of : Mnemonic → List ℕ
letters_of mnemonic = letters_in (position (is_name_of mnemonic) NAMES)

-- whether a name has these letters
abbrev pub is_spelled : ℕ → ℕ → ℕ → Name → Bool
is_spelled first second third name =
    nat_eq (slice_index name.letters 0) first && nat_eq (slice_index name.letters 1) second
    && nat_eq (slice_index name.letters 2) third

-- the instruction that three letters name: that of the first name that has them
abbrev pub named : ℕ → ℕ → ℕ → Option Mnemonic
named first second third = option_map (λ place. (name_at place).mnemonic) (position (is_spelled first second third) NAMES)
