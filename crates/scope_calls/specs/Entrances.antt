-- Entrances: code behind a label that clears the decimal flag, does the lines of a block, perhaps those of another for
-- each of three voices, and returns. This is the project's own form of player code; its instructions are those of the
-- MOS 6502 programming manual.
use Rattle.std.specs.Prelude.{◌≡◌, ℕ, ◌+◌, ◌&&◌, Bool, true, List, [], ◌∷◌, ◌++◌, Option, Some, None}
use Rattle.cpu6502.specs.declared.mnemonic.Mnemonic.TheVariants.{Cld, Jsr, Ldx, Rts}
use Rattle.cpu6502.specs.declared.mnemonic.Mode.TheVariants.{Implied, Immediate, Absolute}
use Rattle.asm6502.specs.declared.lines.Operand.TheVariants.{Nothing, Number, Label}
use Rattle.asm6502.specs.declared.lines.Line.{Line}
use Rattle.asm6502.specs.Lines.{size_of}
use Rattle.scopes.specs.Trees.{Tree}
use Rattle.scope_lines.specs.Instructions.{code}
use Rattle.scope_lines.specs.Sizes.{size}
use Rattle.scope_lines.specs.Lines.{block_lines}
use Rattle.scope_lines.specs.Reach.{nothing_around, has_lines}

-- an entrance: the label in front of it, from which both blocks count their places; whether its calls come with a
-- number in A, on which the first block may rest; the block that is done once; the one that is done for each voice, if
-- there is one; the place of their pointer, and which of their conditions hold
pub record Entrance : Type 0 where
  pub label : ℕ
  pub numbered : Bool
  pub first : Tree
  pub voice : Option Tree
  pub pointer : ℕ
  pub holds : ℕ → Bool

-- ---- in front of the first block

-- CLD, whether the calls come with a number or not
abbrev pub lead_lines : List Line
lead_lines = code Cld Implied Nothing ∷ []

-- how many bytes behind the label the first block begins
abbrev pub first_place : ℕ
first_place = 1

-- ---- the voices

-- how many bytes behind the label the first block ends
abbrev pub voices_place : Entrance → ℕ
voices_place e = first_place + size e.holds e.first

-- the calls: X is 7 times the voice's number. The third voice goes on into the lines that the others call, which stand
-- 12 bytes further on
abbrev pub call_lines : ℕ → ℕ → List Line
call_lines label place =
    code Ldx Immediate (Number 0) ∷ code Jsr Absolute (Label label (place + 12)) ∷ code Ldx Immediate (Number 7)
    ∷ code Jsr Absolute (Label label (place + 12)) ∷ code Ldx Immediate (Number 14) ∷ []

abbrev pub voice_lines : Entrance → ℕ → Option Tree → List Line
voice_lines e place None = []
voice_lines e place (Some voice) =
    call_lines e.label place ++ block_lines e.label e.pointer e.holds (place + 12) voice

abbrev pub voice_size : (ℕ → Bool) → Option Tree → ℕ
voice_size holds None = 0
voice_size holds (Some voice) = 12 + size holds voice

-- ---- all of it

-- the lines from the CLD to the RTS, which stand behind the label
abbrev pub entrance_lines : Entrance → List Line
entrance_lines e =
    lead_lines ++ (block_lines e.label e.pointer e.holds first_place e.first
    ++ (voice_lines e (voices_place e) e.voice ++ code Rts Implied Nothing ∷ []))

abbrev pub entrance_size : Entrance → ℕ
entrance_size e = voices_place e + voice_size e.holds e.voice + 1

-- whether both blocks have lines
abbrev pub voice_has_lines : Option Tree → Bool
voice_has_lines None = true
voice_has_lines (Some voice) = has_lines nothing_around voice

abbrev pub have_lines : Entrance → Bool
have_lines e = has_lines nothing_around e.first && voice_has_lines e.voice

-- the lines take so many bytes
abbrev pub EntrancesTakeSize : Type 0
EntrancesTakeSize = (e : Entrance) → size_of (entrance_lines e) ≡ entrance_size e
