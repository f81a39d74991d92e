-- The listing of an image assembles, its labels are in place, and its entrances are well entered.
use Rattle.std.proofs.Common.{◌≡◌, ℕ, ◌+◌, ◌<◌, ◌≤◌, ◌⊎◌, true, List, length, ◌++◌}
use Rattle.std.proofs.Common.{None, sym, ap, ◌∙◌, subst, arith, inl, inr, append_assoc}
use Rattle.cpu6502.specs.declared.memory.TheConstants.{MEMORY_SIZE}
use Rattle.asm6502.specs.declared.lines.Line.{Line}
use Rattle.asm6502.specs.Lines.{kept, size_of, address_in}
use Rattle.asm6502.specs.Faults.{fault_of}
use Rattle.asm6502.proofs.Laws.{size_of-append}
use Rattle.scopes.specs.Desk.{Layout}
use Rattle.scope_lines.specs.Lowered.{writes_at}
use Rattle.scope_calls.specs.Entrances.{entrance_lines, entrance_size}
use Rattle.scope_calls.specs.Listed.{end_at, listing_at, layout_at, low_at, high_at, IsWellEntered}
use Rattle.player_code.specs.declared.labels.TheConstants.{INIT_CODE, PLAY_CODE}
use Rattle.player_code.specs.CodeLines.{front_lines, middle_lines}
use Rattle.player_code.specs.CodeLines.{play_entrance, init_entrance, cleared_of}
use Rattle.player_code.specs.Plans.{Plan, IsPlan, plan_code, plan_lines, code_size, plan_size, plan_layout, its_play}
use Rattle.player_code.specs.Plans.{its_init, play_listed, init_listed}
use Rattle.player_code.specs.CodeLaws.{CodeAssembles, EntrancesAreInOneListing}
use Rattle.player_code.specs.CodeLaws.{LabelsStandInPlace, WritesApart, CodeIsWellEntered}
use Rattle.player_code.proofs.CodeNames.{plan_names}
use Rattle.player_code.proofs.Homes.{IsFit, lines_assemble}
use Rattle.player_code.proofs.Fits.{play_fits, init_fits}
use Rattle.player_code.proofs.Sizes.{front_size, front_kept, begun_kept, code_is_kept, all_kept, begun_size}
use Rattle.player_code.proofs.Sizes.{around_size}
use Rattle.player_code.proofs.Addresses.{variable_address, play_address, init_address, list_address, others_named}

-- ---- it assembles

pub kept_is : (plan : Plan) → IsPlan plan → kept 0 (plan_lines plan) ≡ plan_lines plan
kept_is plan is = all_kept plan.places plan.variables (its_play plan) (its_init plan) 0 plan.lists is.lists

pub code_kept : (plan : Plan) → (set : ℕ) → kept set (plan_code plan) ≡ plan_code plan
code_kept plan = code_is_kept plan.places plan.variables (its_play plan) (its_init plan)

init_fit : (plan : Plan) → IsPlan plan → IsFit (its_init plan)
init_fit plan is =
    let few = is.variables_high in
    init_fits plan.pointer plan.holds plan.start (cleared_of (length plan.variables)) is.start (omega (arith, few))
    is.pointer_high

pub code_assembles : CodeAssembles
code_assembles plan is fits =
    lines_assemble plan.places plan.variables (its_play plan) (its_init plan) plan.lists 0 plan.origin
    (play_fits plan.pointer plan.holds is.pointer_high) (init_fit plan is) is.lists.lines (plan_names plan is).once
    (others_named plan.places plan.variables (its_play plan) (its_init plan) plan.lists is.lists is.places)
    (subst (λ ls. plan.origin + size_of ls ≤ MEMORY_SIZE) (sym (kept_is plan is)) fits)

-- ---- one listing

play_listing : (plan : Plan) → listing_at (play_listed plan) ≡ plan_lines plan
play_listing plan =
    let front = front_lines plan.places plan.variables in
    let play = entrance_lines (its_play plan) in
    let init = entrance_lines (its_init plan) in
    sym (append_assoc front (play ++ (middle_lines ++ init)) plan.lists
    ∙ ap (λ ls. front ++ ls)
    (append_assoc play (middle_lines ++ init) plan.lists
    ∙ ap (λ ls. play ++ ls) (append_assoc middle_lines init plan.lists)))

init_listing : (plan : Plan) → listing_at (init_listed plan) ≡ plan_lines plan
init_listing plan =
    let front = front_lines plan.places plan.variables in
    let play = entrance_lines (its_play plan) in
    let init = entrance_lines (its_init plan) in
    (append_assoc front (play ++ middle_lines) (init ++ plan.lists)
    ∙ ap (λ ls. front ++ ls) (append_assoc play middle_lines (init ++ plan.lists)))
    ∙ play_listing plan

-- where the blocks are laid out, by the lines
abbrev laid : Plan → List Line → Layout
laid plan lines = record {
  address = address_in lines plan.origin;
  pointer = plan.pointer;
  holds = plan.holds;
  open_turns = plan.open_turns;
  may_read = plan.may_read;
  may_write = plan.may_write;
}

play_layout : (plan : Plan) → IsPlan plan → layout_at (play_listed plan) ≡ plan_layout plan
unfolding play_entrance
play_layout plan is = ap (λ ls. laid plan ls) (ap (kept 0) (play_listing plan) ∙ kept_is plan is)

init_layout : (plan : Plan) → IsPlan plan → layout_at (init_listed plan) ≡ plan_layout plan
unfolding init_entrance
init_layout plan is = ap (λ ls. laid plan ls) (ap (kept 0) (init_listing plan) ∙ kept_is plan is)

pub entrances_are_in_one_listing : EntrancesAreInOneListing
entrances_are_in_one_listing plan is = record {
  play = play_listing plan;
  init = init_listing plan;
  play_layout = play_layout plan is;
  init_layout = init_layout plan is;
}

-- ---- in place

play_low : (plan : Plan) → low_at (play_listed plan) ≡ plan.origin + (6 + length plan.variables)
play_low plan =
    ap (λ ls. plan.origin + size_of ls) (front_kept 0 plan.places plan.variables)
    ∙ ap (λ n. plan.origin + n) (front_size plan.places plan.variables)

init_low : (plan : Plan) →
    low_at (init_listed plan) ≡ plan.origin + (6 + length plan.variables + entrance_size (its_play plan))
init_low plan =
    ap (λ ls. plan.origin + size_of ls) (begun_kept plan.places plan.variables (its_play plan) (its_init plan) 0)
    ∙ ap (λ n. plan.origin + n) (begun_size plan.places plan.variables (its_play plan) (its_init plan))

sizes : (plan : Plan) →
    code_size plan ≡ 6 + length plan.variables + entrance_size (its_play plan) + entrance_size (its_init plan)
sizes plan = around_size plan.places plan.variables (its_play plan) (its_init plan)

high_of : (origin front play low : ℕ) → low ≡ origin + front → origin + (front + play) ≡ low + play
high_of origin front play low e = omega (arith, e)

end_of : (origin front play init low code : ℕ) → low ≡ origin + (front + play) → code ≡ front + play + init →
    low + init ≡ origin + code
end_of origin front play init low code e f = omega (arith, e, f)

pub labels_stand_in_place : LabelsStandInPlace
labels_stand_in_place plan is =
    let low = play_low plan in
    let begun = init_low plan in
    let all = sizes plan in
    let front = 6 + length plan.variables in
    let high = high_of plan.origin front (entrance_size (its_play plan)) (low_at (play_listed plan)) low in record {
      variables = λ label below.
          variable_address plan.places plan.variables (its_play plan) (its_init plan) plan.lists is.lists plan.origin
          label below (is.places label below);
      play = play_address plan.places plan.variables (its_play plan) (its_init plan) plan.lists is.lists plan.origin;
      play_low = low;
      init =
          init_address plan.places plan.variables (its_play plan) (its_init plan) plan.lists is.lists plan.origin
          ∙ high;
      init_low = begun ∙ high;
      init_high = end_of plan.origin front (entrance_size (its_play plan)) (entrance_size (its_init plan))
          (low_at (init_listed plan)) (code_size plan) begun all;
      size = all;
      lists = λ label place e.
          list_address plan.places plan.variables (its_play plan) (its_init plan) plan.lists is.lists plan.origin label
          place e;
    }

-- ---- well entered

pub size_is : (plan : Plan) → plan_size plan ≡ code_size plan + size_of plan.lists
size_is plan = size_of-append (plan_code plan) plan.lists

-- the end of the listing around an entrance
ends_with : (plan : Plan) (listed : List Line) → IsPlan plan → listed ≡ plan_lines plan →
    plan.origin + size_of (kept 0 listed) ≡ plan.origin + plan_size plan
ends_with plan listed is e = ap (λ ls. plan.origin + size_of ls) (ap (kept 0) e ∙ kept_is plan is)

pub listed_ends : (plan : Plan) → IsPlan plan → (end_at (play_listed plan) ≡ plan.origin + plan_size plan)
    × (end_at (init_listed plan) ≡ plan.origin + plan_size plan)
listed_ends plan is = (
  ends_with plan (listing_at (play_listed plan)) is (play_listing plan),
  ends_with plan (listing_at (init_listed plan)) is (init_listing plan),
)

assembles_with : (plan : Plan) (listed : List Line) → listed ≡ plan_lines plan →
    fault_of 0 plan.origin (plan_lines plan) ≡ None → fault_of 0 plan.origin listed ≡ None
assembles_with plan listed e none = ap (fault_of 0 plan.origin) e ∙ none

writes_of : (plan : Plan) (layout : Layout) (place : ℕ) → layout ≡ plan_layout plan →
    writes_at layout place ≡ true → writes_at (plan_layout plan) place ≡ true
writes_of plan layout place e w = subst (λ l. writes_at l place ≡ true) e w

outside : (origin code front low high place : ℕ) → (place < origin + front) ⊎ (origin + code ≤ place) →
    origin + front ≤ low → high ≤ origin + code → (place < low) ⊎ (high ≤ place)
outside origin code front low high place (inl under) one two = inl (omega (arith, under, one))
outside origin code front low high place (inr over) one two = inr (omega (arith, over, two))

play_entered : (plan : Plan) → IsPlan plan → 0x0800 ≤ plan.origin → plan.origin + plan_size plan ≤ 0xD000 →
    WritesApart plan → IsWellEntered (play_listed plan)
unfolding play_entrance
play_entered plan is begins ends apart =
    let in_place = labels_stand_in_place plan is in
    let fit = play_fits plan.pointer plan.holds is.pointer_high in
    let layout = play_layout plan is in
    let size = size_is plan in
    let all = in_place.size in
    let low = in_place.play_low in
    let end = ends_with plan (listing_at (play_listed plan)) is (play_listing plan) in
    record {
      lines = fit.lines;
      assembles = assembles_with plan (listing_at (play_listed plan)) (play_listing plan)
          (code_assembles plan is (omega (arith, ends)));
      begins = begins;
      ends = omega (arith, end, ends);
      named = ap (λ (l : Layout). l.address PLAY_CODE) layout ∙ (in_place.play ∙ sym low);
      jump_begins = omega arith;
      jump_ends = omega (arith, end, size, all);
      writes_below = λ place w. apart.below place (writes_of plan (layout_at (play_listed plan)) place layout w);
      writes_outside = λ place w.
          outside plan.origin (code_size plan) (6 + length plan.variables) (low_at (play_listed plan))
          (high_at (play_listed plan)) place
          (apart.outside place (writes_of plan (layout_at (play_listed plan)) place layout w))
          (omega (arith, low)) (omega (arith, low, all));
      writes_off_stack = λ place w.
          apart.off_stack place (writes_of plan (layout_at (play_listed plan)) place layout w);
      pointer_low = is.pointer_low;
      pointer_high = is.pointer_high;
    }

init_entered : (plan : Plan) → IsPlan plan → 0x0800 ≤ plan.origin → plan.origin + plan_size plan ≤ 0xD000 →
    WritesApart plan → IsWellEntered (init_listed plan)
unfolding init_entrance
init_entered plan is begins ends apart =
    let in_place = labels_stand_in_place plan is in
    let fit = init_fit plan is in
    let layout = init_layout plan is in
    let size = size_is plan in
    let all = in_place.size in
    let low = in_place.init_low in
    let high = in_place.init_high in
    let first = in_place.play_low in
    let end = ends_with plan (listing_at (init_listed plan)) is (init_listing plan) in
    record {
      lines = fit.lines;
      assembles = assembles_with plan (listing_at (init_listed plan)) (init_listing plan)
          (code_assembles plan is (omega (arith, ends)));
      begins = begins;
      ends = omega (arith, end, ends);
      named = ap (λ (l : Layout). l.address INIT_CODE) layout ∙ (in_place.init ∙ sym low);
      jump_begins = omega arith;
      jump_ends = omega (arith, end, size, all);
      writes_below = λ place w. apart.below place (writes_of plan (layout_at (init_listed plan)) place layout w);
      writes_outside = λ place w.
          outside plan.origin (code_size plan) (6 + length plan.variables) (low_at (init_listed plan))
          (high_at (init_listed plan)) place
          (apart.outside place (writes_of plan (layout_at (init_listed plan)) place layout w))
          (omega (arith, low, first)) (omega (arith, high));
      writes_off_stack = λ place w.
          apart.off_stack place (writes_of plan (layout_at (init_listed plan)) place layout w);
      pointer_low = is.pointer_low;
      pointer_high = is.pointer_high;
    }

pub code_is_well_entered : CodeIsWellEntered
code_is_well_entered plan is begins ends apart = record {
  play = play_entered plan is begins ends apart;
  init = init_entered plan is begins ends apart;
}
