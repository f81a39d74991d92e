-- No line of an entrance is refused.
use Rattle.std.proofs.Common.{◌≡◌, ℕ, ◌+◌, ◌≤◌, ◌&&◌, Bool, true, false, List, [], ◌++◌}
use Rattle.std.proofs.Common.{Option, Some, None, IsTrue, append-nil, inl, refl, sym, ◌∙◌, subst}
use Rattle.std.proofs.lemmas.Bool.{and_parts}
use Rattle.cpu6502.specs.declared.mnemonic.Mnemonic.{Mnemonic}
use Rattle.cpu6502.specs.declared.mnemonic.Mnemonic.TheVariants.{Cld, Jsr, Ldx, Rts}
use Rattle.cpu6502.specs.declared.mnemonic.Mode.TheVariants.{Implied, Immediate, Absolute}
use Rattle.asm6502.specs.declared.lines.Item.TheVariants.{Code}
use Rattle.asm6502.specs.declared.lines.Operand.TheVariants.{Nothing, Number, Label}
use Rattle.asm6502.specs.declared.lines.Line.{Line}
use Rattle.asm6502.specs.Lines.{label_used, is_sound, is_no_part}
use Rattle.asm6502.specs.Stretches.{branch_of, IsAtHome, AtHome}
use Rattle.asm6502.proofs.Laws.{homes_append, homes_grow, stretches_pass}
use Rattle.scopes.specs.Trees.{Tree}
use Rattle.scope_lines.specs.Instructions.{code}
use Rattle.scope_lines.specs.Lines.{block_lines}
use Rattle.scope_lines.specs.Homes.{uses_only}
use Rattle.scope_lines.specs.Reach.{nothing_around, has_lines}
use Rattle.scope_lines.proofs.Laws.{lowered_lines_are_at_home}
use Rattle.scope_calls.specs.Entrances.{Entrance, lead_lines, first_place, voices_place, call_lines, voice_lines}
use Rattle.scope_calls.specs.Entrances.{entrance_lines, voice_has_lines}
use Rattle.scope_calls.specs.Homes.{voice_uses, EntranceLinesAreAtHome, EntranceLinesAreNotRefused}
use Rattle.scope_calls.proofs.Sizing.{first_lines, last_lines}

-- lines that are at home alone are so between others, and two lists of them one after the other
homes_between : (others : ℕ → Bool) (before lines after : List Line) → AtHome others [] lines [] →
    AtHome others before lines after
homes_between others before lines after home =
    subst (λ front. AtHome others front lines after) (append-nil before)
    (homes_grow others before [] lines [] after home)

pub homes_join : (others : ℕ → Bool) (front back : List Line) → AtHome others [] front [] → AtHome others [] back [] →
    AtHome others [] (front ++ back) []
homes_join others front back one two =
    homes_append others [] front back [] (homes_between others [] front (back ++ []) one)
    (homes_between others front back [] two)

-- an instruction that branches to no label, and uses one of these or none
pub code_home : (others : ℕ → Bool) (before : List Line) (line : Line) (after : List Line) →
    is_no_part line.part ≡ false → is_sound line.item ≡ true →
    ((label : ℕ) → label_used line.item ≡ Some label → IsTrue (others label)) →
    branch_of line.item ≡ None → IsAtHome others before line after
code_home others before line after part sound used straight = record {
  part = part;
  sound = sound;
  named = λ label e. inl (used label e);
  reach = λ label offset e. (let no : None ≡ Some (label, offset) = sym straight ∙ e in absurd (cc));
}

-- ---- the parts

alone_home : (others : ℕ → Bool) (before : List Line) (mnemonic : Mnemonic) (after : List Line) →
    is_sound (Code mnemonic Implied Nothing) ≡ true → IsAtHome others before (code mnemonic Implied Nothing) after
alone_home others before mnemonic after sound =
    code_home others before (code mnemonic Implied Nothing) after refl sound (λ label e. absurd (cc)) refl

load_home : (others : ℕ → Bool) (before : List Line) (number : ℕ) (after : List Line) →
    is_sound (Code Ldx Immediate (Number number)) ≡ true →
    IsAtHome others before (code Ldx Immediate (Number number)) after
load_home others before number after sound =
    code_home others before (code Ldx Immediate (Number number)) after refl sound (λ label e. absurd (cc)) refl

label_home : (others : ℕ → Bool) (before : List Line) (mnemonic : Mnemonic) (label offset : ℕ) (after : List Line) →
    is_sound (Code mnemonic Absolute (Label label offset)) ≡ true → others label ≡ true →
    IsAtHome others before (code mnemonic Absolute (Label label offset)) after
label_home others before mnemonic label offset after sound uses =
    code_home others before (code mnemonic Absolute (Label label offset)) after refl sound
    (λ used e. (let same : label ≡ used = cc in subst (λ l. others l ≡ true) same uses)) refl

calls_home : (others : ℕ → Bool) (label place : ℕ) → others label ≡ true →
    AtHome others [] (call_lines label place) []
calls_home others label place uses = (
  load_home others _ 0 _ refl,
  (
    label_home others _ Jsr label (place + 12) _ refl uses,
    (
      load_home others _ 7 _ refl,
      (label_home others _ Jsr label (place + 12) _ refl uses, (load_home others _ 14 _ refl, tt)),
    ),
  ),
)

voices_home : (others : ℕ → Bool) (e : Entrance) (place : ℕ) (voice : Option Tree) → voice_has_lines voice ≡ true →
    others e.label ≡ true → voice_uses others voice ≡ true → e.pointer ≤ 254 →
    AtHome others [] (voice_lines e place voice) []
voices_home others e place None has named uses few = tt
voices_home others e place (Some voice) has named uses few =
    homes_join others (call_lines e.label place) (block_lines e.label e.pointer e.holds (place + 12) voice)
    (calls_home others e.label place named)
    (lowered_lines_are_at_home others e.label e.pointer e.holds (place + 12) voice has named uses few)

-- ---- all of it

pub entrance_lines_are_at_home : EntranceLinesAreAtHome
entrance_lines_are_at_home others e has uses few =
    let lines = and_parts (has_lines nothing_around e.first) (voice_has_lines e.voice) has in
    let named = and_parts (others e.label) (uses_only others e.first && voice_uses others e.voice) uses in
    let blocks = and_parts (uses_only others e.first) (voice_uses others e.voice) named.1 in
    let voices = voice_lines e (voices_place e) e.voice in
    homes_join others lead_lines (first_lines e ++ (voices ++ last_lines)) (alone_home others [] Cld _ refl, tt)
    (homes_join others (first_lines e) (voices ++ last_lines)
    (lowered_lines_are_at_home others e.label e.pointer e.holds first_place e.first lines.0 named.0 blocks.0 few)
    (homes_join others voices last_lines (voices_home others e (voices_place e) e.voice lines.1 named.0 blocks.1 few)
    (alone_home others [] Rts _ refl, tt)))

pub entrance_lines_are_not_refused : EntranceLinesAreNotRefused
entrance_lines_are_not_refused others set origin e front back before line after has uses few single around room is =
    stretches_pass others set origin front (entrance_lines e) back before line after
    (entrance_lines_are_at_home others e has uses few) single around room is
