-- The parts of an entrance one behind the other: where each comes to its end, all of it does.
use Rattle.std.proofs.Common.{◌≡◌, ℕ, ◌+◌, ◌/◌, ◌%◌, ◌<◌, ◌≤◌, ◌⊎◌, Option, Some}
use Rattle.std.proofs.Common.{None, inl, inr}
use Rattle.std.proofs.Common.{refl, sym, ap, ◌∙◌, subst, arith}
use Rattle.cpu6502.specs.Registers.{stack_place}
use Rattle.code_runs.specs.Runs.{put}
use Rattle.code_runs.proofs.Laws.{put_other}
use Rattle.scopes.specs.Desk.{Desk, Layout}
use Rattle.scopes.specs.Trees.{Tree}
use Rattle.scopes.specs.Meaning.{Ran, Done, each_one, ran, ended, paid, behind, and_then}
use Rattle.scope_calls.specs.Entrances.{Entrance, voices_place}
use Rattle.scope_calls.specs.Meaning.{cleared, at_voice, called_from, returned, back, voice_called}
use Rattle.scope_calls.specs.Meaning.{voice_last, voices_ran, entrance_ran}
use Rattle.frame_code.proofs.Leaving.{StackAlone}

-- a run has come to its end at this desk
pub record ComesTo (run : Ran) (desk : Desk) : Type 0 where
  pub ends : run.outcome ≡ Done
  pub desk_is : run.desk ≡ desk

pub comes_here : (run : Ran) → run.outcome ≡ Done → ComesTo run run.desk
comes_here run ends = record { ends = ends; desk_is = refl }

comes_paid : (cost : ℕ) (run : Ran) (desk : Desk) → ComesTo run desk → ComesTo (paid cost run) desk
comes_paid cost run desk comes = record { ends = comes.ends; desk_is = comes.desk_is }

comes_then : (run : Ran) (next : Desk → Ran) (mid desk : Desk) → ComesTo run mid → ComesTo (next mid) desk →
    ComesTo (and_then run next) desk
comes_then run next mid desk first second =
    subst (λ (after : Ran). ComesTo after desk) (sym (ap (λ outcome. behind outcome run next) first.ends))
    (subst (λ there. ComesTo (paid run.cost (next there)) desk) (sym first.desk_is)
    (comes_paid run.cost (next mid) desk second))

-- ---- the parts

-- the desk in front of a voice that is called
abbrev pub in_front : ℕ → ℕ → Desk → Desk
in_front last voice desk = called_from last (at_voice voice desk)

called_comes : (layout : Layout) (block : Tree) (last voice : ℕ) (desk mid : Desk) →
    ComesTo (ran each_one layout block (in_front last voice desk)) mid →
    ComesTo (voice_called layout block last voice desk) (returned mid)
called_comes layout block last voice desk mid comes =
    let run = ran each_one layout block (in_front last voice desk) in
    comes_paid 2 (and_then run back) (returned mid)
    (comes_then run back mid (returned mid) comes (record { ends = refl; desk_is = refl }))

-- the filter, the first voice called from one place and the second from another, and the third
pub record PartsCome (layout : Layout) (first block : Tree) (one two : ℕ) (desk : Desk) (after : Desk) : Type 0 where
  pub filter : Desk
  pub voice_one : Desk
  pub voice_two : Desk
  pub filter_is : ComesTo (ran each_one layout first (cleared desk)) filter
  pub one_is : ComesTo (ran each_one layout block (in_front one 0 filter)) voice_one
  pub two_is : ComesTo (ran each_one layout block (in_front two 1 (returned voice_one))) voice_two
  pub three_is : ComesTo (ran each_one layout block (at_voice 2 (returned voice_two))) after

voices_come : (layout : Layout) (first block : Tree) (place : ℕ) (desk after : Desk) →
    (parts : PartsCome layout first block (place + 4) (place + 9) desk after) →
    ComesTo (voices_ran layout (Some block) place parts.filter) after
voices_come layout first block place desk after parts =
    comes_then (voice_called layout block (place + 4) 0 parts.filter)
    (λ one. and_then (voice_called layout block (place + 9) 1 one) (voice_last layout block)) (returned parts.voice_one)
    after (called_comes layout block (place + 4) 0 parts.filter parts.voice_one parts.one_is)
    (comes_then (voice_called layout block (place + 9) 1 (returned parts.voice_one)) (voice_last layout block)
    (returned parts.voice_two) after
    (called_comes layout block (place + 9) 1 (returned parts.voice_one) parts.voice_two parts.two_is)
    (comes_paid 1 (ran each_one layout block (at_voice 2 (returned parts.voice_two))) after parts.three_is))

-- ---- all of it

-- the same of an entrance, with all that decides what it does
abbrev whole : Layout → Tree → Option Tree → ℕ → Desk → Ran
whole layout first voice place desk =
    paid 1
    (and_then (ran each_one layout first (cleared desk)) (λ done. and_then (voices_ran layout voice place done) back))

whole_comes : (layout : Layout) (first block : Tree) (place : ℕ) (desk after : Desk) →
    PartsCome layout first block (place + 4) (place + 9) desk after →
    ComesTo (whole layout first (Some block) place desk) (returned after)
whole_comes layout first block place desk after parts =
    comes_paid 1 (and_then (ran each_one layout first (cleared desk)) next) (returned after)
    (comes_then (ran each_one layout first (cleared desk)) next parts.filter (returned after) parts.filter_is
    (comes_then (voices_ran layout (Some block) place parts.filter) back after (returned after)
    (voices_come layout first block place desk after parts) (record { ends = refl; desk_is = refl })))
  where
    next : Desk → Ran
    next done = and_then (voices_ran layout (Some block) place done) back

-- where the code that calls the voices stands in an entrance
abbrev pub call_place : Layout → Entrance → ℕ
call_place layout e = layout.address e.label + voices_place e

pub entrance_comes : (layout : Layout) (e : Entrance) (block : Tree) (desk after : Desk) → e.voice ≡ Some block →
    PartsCome layout e.first block (call_place layout e + 4) (call_place layout e + 9) desk after →
    ComesTo (entrance_ran layout e desk) (returned after)
entrance_comes layout e block desk after voice parts =
    subst (λ v. ComesTo (whole layout e.first v (call_place layout e) desk) (returned after)) (sym voice)
    (whole_comes layout e.first block (call_place layout e) desk after parts)

-- ---- the stack

-- a byte on the stack is put
put_off : (at : ℕ → ℕ) (sp byte : ℕ) → StackAlone at (put at (stack_place sp) byte)
put_off at sp byte place off = put_other at (stack_place sp) byte place (λ e. apart e off)
  where
    apart : place ≡ stack_place sp → (place < 256) ⊎ (512 ≤ place) → ⊥
    apart e (inl low) = omega (arith, e, low)
    apart e (inr high) = omega (arith, e, high)

pub calls_stack : (last voice : ℕ) (desk : Desk) → StackAlone desk.at (in_front last voice desk).at
calls_stack last voice desk place off =
    put_off (put desk.at (stack_place desk.cpu.sp) (last / 256)) (desk.cpu.sp + 255) (last % 256) place off
    ∙ put_off desk.at desk.cpu.sp (last / 256) place off

-- ---- without voices

-- where no voice is called, the entrance ends where its block does
pub beginning_comes : (layout : Layout) (e : Entrance) (desk after : Desk) → e.voice ≡ None →
    ComesTo (ran each_one layout e.first (cleared desk)) after → ComesTo (entrance_ran layout e desk) (returned after)
beginning_comes layout e desk after voice comes =
    subst (λ v. ComesTo (whole layout e.first v (call_place layout e) desk) (returned after)) (sym voice)
    (comes_paid 1 (and_then run next) (returned after)
    (comes_then run next after (returned after) comes
    (comes_then (ended Done after 0) back after (returned after) (record { ends = refl; desk_is = refl })
    (record { ends = refl; desk_is = refl }))))
  where
    run : Ran
    run = ran each_one layout e.first (cleared desk)

    next : Desk → Ran
    next done = and_then (voices_ran layout None (call_place layout e) done) back
