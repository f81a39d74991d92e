-- Where the calls of a player may write, and that their code stands apart from it.
use Rattle.std.proofs.Common.{◌≡◌, ◌≢◌, ℕ, ◌+◌, ◌%◌, ◌<◌, ◌≤◌, ◌⊎◌, ◌||◌}
use Rattle.std.proofs.Common.{true, nat_eq}
use Rattle.std.proofs.Common.{List, length, inl, inr, sym, ◌∙◌, subst, arith}
use Rattle.std.proofs.lemmas.Bool.{or_cases, eqb-true, ltb-true}
use Rattle.song_model.specs.declared.songs.Song.{Song}
use Rattle.play_model.specs.declared.options.Options.{Options}
use Rattle.packed_form.specs.declared.packed_songs.PackedSong.{PackedSong}
use Rattle.cpu6502.specs.declared.memory.TheConstants.{MEMORY_SIZE}
use Rattle.faithful.specs.Confined.{IsOwnPlace}
use Rattle.scopes.specs.Desk.{Layout}
use Rattle.scope_lines.specs.Lowered.{writes_at}
use Rattle.scope_calls.specs.Listed.{IsCode, MayStore, AsBlock, AsCall}
use Rattle.scope_calls.specs.EntranceLaws.{IsApart}
use Rattle.player_memory.specs.declared.labels.TheConstants.{FIRST_CLEARED}
use Rattle.player_code.specs.CodeLines.{init_entrance}
use Rattle.player_code.specs.Plans.{Plan, plan_size, code_size, plan_layout, play_listed, init_listed}
use Rattle.player_code.specs.CodeLaws.{WritesApart, AreWellEntered}
use Rattle.player_code.proofs.Laws.{entrances_are_in_one_listing, labels_stand_in_place, code_is_well_entered, size_is}
use Rattle.player_calls.specs.Players.{MayBeWritten, AtVariable, InLists, AtRegister, AtTimer}
use Rattle.player_calls.specs.Players.{IsPlayer}

-- ---- where a block writes

-- the pointer, or where it may be written
data Written (plan : Plan) (place : ℕ) : Type 0 where
  ByBlock : MayBeWritten plan place → Written plan place
  Low : place ≡ plan.pointer → Written plan place
  High : place ≡ plan.pointer + 1 → Written plan place

written : {packed : PackedSong} {song : Song} {o : Options} {bytes : List ℕ} (plan : Plan) →
    IsPlayer plan packed song o bytes → (place : ℕ) → writes_at (plan_layout plan) place ≡ true → Written plan place
written plan p place w =
    elim (or_cases (plan.may_write place || nat_eq place plan.pointer) (nat_eq place (plan.pointer + 1)) w) [
      | inl here ↦
          elim (or_cases (plan.may_write place) (nat_eq place plan.pointer) here) [
            | inl may ↦ ByBlock (p.writes place may)
            | inr low ↦ Low (eqb-true place plan.pointer low)
          ]
      | inr high ↦ High (eqb-true place (plan.pointer + 1) high)
    ]

-- what is known of the numbers
record Numbers (plan : Plan) : Type 0 where
  begins : 0x0800 ≤ plan.origin
  ends : plan.origin + plan_size plan ≤ 0xD000
  pointer : plan.pointer ≤ 254
  code : 6 + length plan.variables ≤ code_size plan
  all : code_size plan ≤ plan_size plan

numbers : {packed : PackedSong} {song : Song} {o : Options} {bytes : List ℕ} (plan : Plan) →
    IsPlayer plan packed song o bytes → Numbers plan
numbers plan p =
    let size = (labels_stand_in_place plan p.is).size in
    let all = size_is plan in record {
      begins = p.begins;
      ends = p.ends;
      pointer = p.is.pointer_high;
      code = omega (arith, size);
      all = omega (arith, all);
    }

below_of : (plan : Plan) (place : ℕ) → Numbers plan → Written plan place → place < MEMORY_SIZE
below_of plan place n (ByBlock (AtVariable is)) =
    let to = is.to in let ends = n.ends in let code = n.code in let all = n.all in omega (arith, to, ends, code, all)
below_of plan place n (ByBlock (InLists is)) = (let to = is.to in let ends = n.ends in omega (arith, to, ends))
below_of plan place n (ByBlock (AtRegister from to)) = omega (arith, to)
below_of plan place n (ByBlock (AtTimer holds (inl is))) = omega (arith, is)
below_of plan place n (ByBlock (AtTimer holds (inr is))) = omega (arith, is)
below_of plan place n (Low is) = (let few = n.pointer in omega (arith, is, few))
below_of plan place n (High is) = (let few = n.pointer in omega (arith, is, few))

outside_of : (plan : Plan) (place : ℕ) → Numbers plan → Written plan place →
    (place < plan.origin + (6 + length plan.variables)) ⊎ (plan.origin + code_size plan ≤ place)
outside_of plan place n (ByBlock (AtVariable is)) = inl is.to
outside_of plan place n (ByBlock (InLists is)) = inr is.from
outside_of plan place n (ByBlock (AtRegister from to)) =
    (let ends = n.ends in let all = n.all in inr (omega (arith, from, ends, all)))
outside_of plan place n (ByBlock (AtTimer holds (inl is))) =
    (let ends = n.ends in let all = n.all in inr (omega (arith, is, ends, all)))
outside_of plan place n (ByBlock (AtTimer holds (inr is))) =
    (let ends = n.ends in let all = n.all in inr (omega (arith, is, ends, all)))
outside_of plan place n (Low is) =
    (let few = n.pointer in let begins = n.begins in inl (omega (arith, is, few, begins)))
outside_of plan place n (High is) =
    (let few = n.pointer in let begins = n.begins in inl (omega (arith, is, few, begins)))

off_stack_of : (plan : Plan) (place : ℕ) → Numbers plan → Written plan place → (place < 256) ⊎ (512 ≤ place)
off_stack_of plan place n (ByBlock (AtVariable is)) =
    (let from = is.from in let begins = n.begins in inr (omega (arith, from, begins)))
off_stack_of plan place n (ByBlock (InLists is)) =
    (let from = is.from in let begins = n.begins in inr (omega (arith, from, begins)))
off_stack_of plan place n (ByBlock (AtRegister from to)) = inr (omega (arith, from))
off_stack_of plan place n (ByBlock (AtTimer holds (inl is))) = inr (omega (arith, is))
off_stack_of plan place n (ByBlock (AtTimer holds (inr is))) = inr (omega (arith, is))
off_stack_of plan place n (Low is) = (let few = n.pointer in inl (omega (arith, is, few)))
off_stack_of plan place n (High is) = (let few = n.pointer in inl (omega (arith, is, few)))

-- nowhere in the two jumps either
behind_jumps : (plan : Plan) (place : ℕ) → Numbers plan → Written plan place → plan.origin ≤ place →
    plan.origin + 6 ≤ place
behind_jumps plan place n (ByBlock (AtVariable is)) from = is.from
behind_jumps plan place n (ByBlock (InLists is)) from =
    (let its = is.from in let code = n.code in omega (arith, its, code))
behind_jumps plan place n (ByBlock (AtRegister low high)) from =
    (let ends = n.ends in let all = n.all in let code = n.code in omega (arith, low, ends, all, code))
behind_jumps plan place n (ByBlock (AtTimer holds (inl is))) from =
    (let ends = n.ends in let all = n.all in let code = n.code in omega (arith, is, ends, all, code))
behind_jumps plan place n (ByBlock (AtTimer holds (inr is))) from =
    (let ends = n.ends in let all = n.all in let code = n.code in omega (arith, is, ends, all, code))
behind_jumps plan place n (Low is) from =
    (let few = n.pointer in let begins = n.begins in absurd (omega (arith, is, few, begins, from)))
behind_jumps plan place n (High is) from =
    (let few = n.pointer in let begins = n.begins in absurd (omega (arith, is, few, begins, from)))

-- ---- well entered

writes_apart : {packed : PackedSong} {song : Song} {o : Options} {bytes : List ℕ} (plan : Plan) →
    IsPlayer plan packed song o bytes → WritesApart plan
writes_apart plan p = record {
  below = λ place w. below_of plan place (numbers plan p) (written plan p place w);
  outside = λ place w. outside_of plan place (numbers plan p) (written plan p place w);
  off_stack = λ place w. off_stack_of plan place (numbers plan p) (written plan p place w);
}

pub well_entered : {packed : PackedSong} {song : Song} {o : Options} {bytes : List ℕ} (plan : Plan) →
    IsPlayer plan packed song o bytes → AreWellEntered plan
well_entered plan p = code_is_well_entered plan p.is p.begins p.ends (writes_apart plan p)

-- ---- own places

block_own : {packed : PackedSong} {song : Song} {o : Options} {bytes : List ℕ} (plan : Plan) →
    IsPlayer plan packed song o bytes → (sp place : ℕ) → Numbers plan → Written plan place →
    IsOwnPlace (length bytes) plan.origin plan.pointer o sp place
block_own {bytes = bytes} plan p sp place n (ByBlock (AtVariable is)) =
    let from = is.from in
    let to = is.to in
    let size = p.size in
    let code = n.code in
    let all = n.all in
    IsOwnPlace.in_image (omega (arith, from)) (omega (arith, to, size, code, all))
block_own {bytes = bytes} plan p sp place n (ByBlock (InLists is)) =
    let from = is.from in
    let to = is.to in
    let size = p.size in
    IsOwnPlace.in_image (omega (arith, from)) (omega (arith, to, size))
block_own plan p sp place n (ByBlock (AtRegister from to)) = IsOwnPlace.in_sid from to
block_own {o = o} plan p sp place n (ByBlock (AtTimer holds is)) =
    IsOwnPlace.in_timer (ltb-true 1 o.speed (sym p.timed ∙ holds)) is
block_own plan p sp place n (Low is) = IsOwnPlace.low_pointer is
block_own plan p sp place n (High is) = IsOwnPlace.high_pointer is

stack_own : {size address zero_page : ℕ} {o : Options} (sp place : ℕ) →
    (place ≡ 256 + (sp + 254) % 256) ⊎ (place ≡ 256 + (sp + 253) % 256) →
    IsOwnPlace size address zero_page o ((sp + 254) % 256) place
stack_own sp place (inl is) = IsOwnPlace.on_stack 0 (omega arith) (omega (arith, is))
stack_own sp place (inr is) = IsOwnPlace.on_stack 1 (omega arith) (omega (arith, is))

-- the first variable that is cleared is behind the jumps and those that aren't
pub first_at : {packed : PackedSong} {song : Song} {o : Options} {bytes : List ℕ} (plan : Plan) →
    IsPlayer plan packed song o bytes → (plan_layout plan).address FIRST_CLEARED ≡ plan.origin + 6 + FIRST_CLEARED
first_at plan p =
    let first = p.first FIRST_CLEARED (omega arith) in
    let at = (labels_stand_in_place plan p.is).variables FIRST_CLEARED (omega arith) in omega (arith, at, first)

pub play_stores : {packed : PackedSong} {song : Song} {o : Options} {bytes : List ℕ} (plan : Plan) →
    IsPlayer plan packed song o bytes → (sp place : ℕ) → MayStore (play_listed plan) sp place →
    IsOwnPlace (length bytes) plan.origin plan.pointer o ((sp + 254) % 256) place
play_stores plan p sp place (AsBlock may) =
    block_own plan p _ place (numbers plan p)
    (written plan p place
    (subst (λ (l : Layout). writes_at l place ≡ true) (entrances_are_in_one_listing plan p.is).play_layout may))
play_stores plan p sp place (AsCall block voice is) = stack_own sp place is

pub init_stores : {packed : PackedSong} {song : Song} {o : Options} {bytes : List ℕ} (plan : Plan) →
    IsPlayer plan packed song o bytes → (sp place : ℕ) → MayStore (init_listed plan) sp place →
    IsOwnPlace (length bytes) plan.origin plan.pointer o ((sp + 254) % 256) place
unfolding init_entrance
init_stores plan p sp place (AsBlock may) =
    block_own plan p _ place (numbers plan p)
    (written plan p place
    (subst (λ (l : Layout). writes_at l place ≡ true) (entrances_are_in_one_listing plan p.is).init_layout may))
init_stores plan p sp place (AsCall block voice is) = absurd (cc)

-- ---- code

-- a place of the two jumps, or of the code of an entrance
pub record IsCodePlace (plan : Plan) (place : ℕ) : Type 0 where
  pub is : ((plan.origin ≤ place) × (place < plan.origin + 6))
      ⊎ ((plan.origin + (6 + length plan.variables) ≤ place) × (place < plan.origin + code_size plan))

code_unwritten : (plan : Plan) (place : ℕ) → Numbers plan → IsCodePlace plan place → Written plan place → ⊥
code_unwritten plan place n code w =
    elim code.is [
      | inl jump ↦
          let behind = behind_jumps plan place n w jump.0 in
          omega (arith, behind, jump)
      | inr code ↦
          elim (outside_of plan place n w) [
            | inl under ↦ omega (arith, under, code)
            | inr over ↦ omega (arith, over, code)
          ]
    ]

pub unwritten : {packed : PackedSong} {song : Song} {o : Options} {bytes : List ℕ} (plan : Plan) →
    IsPlayer plan packed song o bytes → (place : ℕ) → IsCodePlace plan place →
    writes_at (plan_layout plan) place ≢ true
unwritten plan p place code w = code_unwritten plan place (numbers plan p) code (written plan p place w)

pub play_apart : {packed : PackedSong} {song : Song} {o : Options} {bytes : List ℕ} (plan : Plan) →
    IsPlayer plan packed song o bytes → (place : ℕ) → IsCodePlace plan place → IsApart (play_listed plan) place
play_apart plan p place code w =
    unwritten plan p place code
    (subst (λ (l : Layout). writes_at l place ≡ true) (entrances_are_in_one_listing plan p.is).play_layout w)

pub init_apart : {packed : PackedSong} {song : Song} {o : Options} {bytes : List ℕ} (plan : Plan) →
    IsPlayer plan packed song o bytes → (place : ℕ) → IsCodePlace plan place → IsApart (init_listed plan) place
init_apart plan p place code w =
    unwritten plan p place code
    (subst (λ (l : Layout). writes_at l place ≡ true) (entrances_are_in_one_listing plan p.is).init_layout w)

-- the places of each entrance's code are such
pub play_code : {packed : PackedSong} {song : Song} {o : Options} {bytes : List ℕ} (plan : Plan) →
    IsPlayer plan packed song o bytes → (place : ℕ) → IsCode (play_listed plan) place → IsCodePlace plan place
play_code plan p place is =
    let there = labels_stand_in_place plan p.is in
    let low = there.play_low in
    let size = there.size in
    record {
      is = elim is [
        | inl jump ↦ inl (omega (arith, jump), omega (arith, jump))
        | inr code ↦ inr (omega (arith, code, low), omega (arith, code, low, size))
      ];
    }

pub init_code : {packed : PackedSong} {song : Song} {o : Options} {bytes : List ℕ} (plan : Plan) →
    IsPlayer plan packed song o bytes → (place : ℕ) → IsCode (init_listed plan) place → IsCodePlace plan place
init_code plan p place is =
    let there = labels_stand_in_place plan p.is in
    let first = there.play_low in
    let low = there.init_low in
    let high = there.init_high in
    record {
      is = elim is [
        | inl jump ↦ inl (omega (arith, jump), omega (arith, jump))
        | inr code ↦ inr (omega (arith, code, low, first), omega (arith, code, high))
      ];
    }
