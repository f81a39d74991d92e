-- That `assemble` refuses no line of an entrance, in a whole listing that names the labels that it uses, at any origin
-- and with any set of parts. This is the project's own form of player code.
use Rattle.std.specs.Prelude.{◌≡◌, ℕ, ◌+◌, ◌≤◌, ◌&&◌, Bool, true, List, [], ◌∷◌, ◌++◌}
use Rattle.std.specs.Prelude.{Option, Some, None}
use Rattle.cpu6502.specs.declared.memory.TheConstants.{MEMORY_SIZE}
use Rattle.asm6502.specs.declared.lines.Line.{Line}
use Rattle.asm6502.specs.Lines.{kept, size_of}
use Rattle.asm6502.specs.Stretches.{AtHome, NamesNoLabelTwice, NamesOthers, Passes}
use Rattle.scopes.specs.Trees.{Tree}
use Rattle.scope_lines.specs.Homes.{uses_only}
use Rattle.scope_calls.specs.Entrances.{Entrance, entrance_lines, have_lines}

-- whether an entrance uses no label but these
abbrev pub voice_uses : (ℕ → Bool) → Option Tree → Bool
voice_uses others None = true
voice_uses others (Some voice) = uses_only others voice

abbrev pub entrance_uses : (ℕ → Bool) → Entrance → Bool
entrance_uses others e = others e.label && (uses_only others e.first && voice_uses others e.voice)

-- its lines are at home in any listing that names these labels: each has an opcode and an operand that suits it, uses
-- labels that are named, and branches to none
abbrev pub EntranceLinesAreAtHome : Type 0
EntranceLinesAreAtHome =
    (others : ℕ → Bool) (e : Entrance) → have_lines e ≡ true → entrance_uses others e ≡ true → e.pointer ≤ 254 →
    AtHome others [] (entrance_lines e) []

-- in a listing that has them one behind the other, always names the labels that they use, names no label twice, and
-- fits at its origin, no test of a line finds anything wrong with one of them
abbrev pub EntranceLinesAreNotRefused : Type 0
EntranceLinesAreNotRefused =
    (others : ℕ → Bool) (set origin : ℕ) (e : Entrance) (front back before : List Line) (line : Line)
    (after : List Line) →
    have_lines e ≡ true → entrance_uses others e ≡ true → e.pointer ≤ 254 →
    NamesNoLabelTwice (front ++ (entrance_lines e ++ back)) → NamesOthers others (front ++ (entrance_lines e ++ back)) →
    origin + size_of (kept set (front ++ (entrance_lines e ++ back))) ≤ MEMORY_SIZE →
    entrance_lines e ≡ before ++ line ∷ after →
    Passes set origin (front ++ (entrance_lines e ++ back)) (front ++ before) line
