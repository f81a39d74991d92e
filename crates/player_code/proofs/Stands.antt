-- The code of both entrances stands in any memory with the bytes of the listing.
use Rattle.std.proofs.Common.{◌≡◌, ℕ, ◌+◌, ◌%◌, ◌<◌, ◌≤◌, List, [], ◌∷◌, ◌++◌, None}
use Rattle.std.proofs.Common.{refl, sym, ap, ◌∙◌}
use Rattle.std.proofs.Common.{subst, arith}
use Rattle.std.specs.List.{slice_index}
use Rattle.cpu6502.specs.declared.memory.TheConstants.{MEMORY_SIZE}
use Rattle.cpu6502.specs.declared.mnemonic.Mnemonic.TheVariants.{Jmp}
use Rattle.cpu6502.specs.declared.mnemonic.Mode.TheVariants.{Absolute}
use Rattle.cpu6502.proofs.Laws.{opcodes_have_rows}
use Rattle.code_runs.specs.Code.{Stands}
use Rattle.asm6502.specs.declared.lines.Line.{Line}
use Rattle.asm6502.specs.Lines.{kept, size_of, address_in}
use Rattle.asm6502.specs.Faults.{fault_of}
use Rattle.asm6502.specs.Stretches.{HasBytes}
use Rattle.asm6502.specs.Assembly.{assembled_bytes}
use Rattle.asm6502.proofs.Laws.{stretches_stand}
use Rattle.scope_calls.specs.Entrances.{entrance_size}
use Rattle.scope_calls.specs.Listed.{listing_at, low_at}
use Rattle.player_code.specs.declared.labels.TheConstants.{INIT_CODE, PLAY_CODE}
use Rattle.player_code.specs.CodeLines.{jump_to}
use Rattle.player_code.specs.Plans.{Plan, IsPlan, plan_lines, plan_size, its_play, its_init}
use Rattle.player_code.specs.Plans.{play_listed, init_listed}
use Rattle.player_code.specs.CodeLaws.{AssembledCodeStands}
use Rattle.player_code.proofs.Whole.{kept_is, size_is, code_assembles, entrances_are_in_one_listing, labels_stand_in_place}

-- fewer of the places
pub fewer : (at : ℕ → ℕ) (origin all place size : ℕ) (bytes : List ℕ) → place + size ≤ all →
    HasBytes at origin 0 all bytes → HasBytes at origin place size bytes
fewer at origin all place size bytes within has = record {
  byte = λ k below.
      subst (λ p. at (origin + p) ≡ slice_index bytes p) (omega arith) (has.byte (place + k) (omega (arith, within, below)));
}

-- a jump stands, with the address of its label
jump_stands : (plan : Plan) (at : ℕ → ℕ) (front back : List Line) (label entry to : ℕ) →
    plan_lines plan ≡ front ++ (jump_to label ∷ back) → IsPlan plan → plan.origin + plan_size plan ≤ MEMORY_SIZE →
    HasBytes at plan.origin 0 (plan_size plan) (assembled_bytes 0 plan.origin (plan_lines plan)) →
    size_of (kept 0 front) + 3 ≤ plan_size plan → plan.origin + size_of (kept 0 front) ≡ entry →
    address_in (plan_lines plan) plan.origin label ≡ to → to < MEMORY_SIZE → Stands at entry Jmp Absolute to
jump_stands plan at front back label entry to split is fits has within begins leads below =
    let none = code_assembles plan is fits in
    let bytes = fewer at plan.origin (plan_size plan) (size_of (kept 0 front)) 3 _ within has in
    let stand = stretches_stand opcodes_have_rows 0 plan.origin front (jump_to label ∷ []) back at
    (subst (λ ls. fault_of 0 plan.origin ls ≡ None) split none)
    (subst (λ ls. HasBytes at plan.origin (size_of (kept 0 front)) 3 (assembled_bytes 0 plan.origin ls)) split bytes) in
    let target : (address_in (kept 0 (front ++ (jump_to label ∷ back))) plan.origin label + 0) % MEMORY_SIZE ≡ to =
    ap (λ ls. (address_in ls plan.origin label + 0) % MEMORY_SIZE) (ap (kept 0) (sym split) ∙ kept_is plan is)
    ∙ (ap (λ n. (n + 0) % MEMORY_SIZE) leads ∙ whole to below) in
    subst (λ p. Stands at p Jmp Absolute to) begins
    (subst (λ n. Stands at (plan.origin + size_of (kept 0 front)) Jmp Absolute n) target stand.0)
  where
    whole : (address : ℕ) → address < MEMORY_SIZE → (address + 0) % MEMORY_SIZE ≡ address
    whole address below = omega arith

-- the bytes of an entrance's lines
entrance_stands : (plan : Plan) (at : ℕ → ℕ) (listed front : List Line) (size : ℕ) → listed ≡ plan_lines plan →
    size_of (kept 0 front) + size ≤ plan_size plan →
    HasBytes at plan.origin 0 (plan_size plan) (assembled_bytes 0 plan.origin (plan_lines plan)) →
    HasBytes at plan.origin (size_of (kept 0 front)) size (assembled_bytes 0 plan.origin listed)
entrance_stands plan at listed front size same within has =
    subst (λ ls. HasBytes at plan.origin (size_of (kept 0 front)) size (assembled_bytes 0 plan.origin ls)) (sym same)
    (fewer at plan.origin (plan_size plan) (size_of (kept 0 front)) size _ within has)

pub assembled_code_stands : AssembledCodeStands
assembled_code_stands plan at is fits has =
    let one = entrances_are_in_one_listing plan is in
    let in_place = labels_stand_in_place plan is in
    let low = in_place.play_low in
    let begun = in_place.init_low in
    let end = in_place.init_high in
    let all = in_place.size in
    let size = size_is plan in record {
      play = record {
        jump = jump_stands plan at (jump_to INIT_CODE ∷ []) _ PLAY_CODE (plan.origin + 3) (low_at (play_listed plan))
            refl is fits has (omega (arith, all, size)) refl (in_place.play ∙ sym low) (omega (arith, low, all, size, fits));
        bytes = entrance_stands plan at (listing_at (play_listed plan)) (play_listed plan).front
            (entrance_size (its_play plan)) one.play (omega (arith, low, all, size)) has;
      };
      init = record {
        jump = jump_stands plan at [] _ INIT_CODE plan.origin (low_at (init_listed plan)) refl is fits has
            (omega (arith, all, size)) (omega arith) (in_place.init ∙ sym begun) (omega (arith, end, size, fits));
        bytes = entrance_stands plan at (listing_at (init_listed plan)) (init_listed plan).front
            (entrance_size (its_init plan)) one.init (omega (arith, begun, end, size)) has;
      };
    }
