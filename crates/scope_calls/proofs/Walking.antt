-- The parts of an entrance, one after the other, from a place behind its label to another.
use Rattle.std.proofs.Common.{◌≡◌, ℕ, Bool, ◌+◌, ◌*◌, ◌/◌, ◌%◌, ◌<◌, ◌≤◌, true, refl}
use Rattle.std.proofs.Common.{sym, ap, ◌∙◌, subst, arith}
use Rattle.cpu6502.specs.declared.mnemonic.Mnemonic.TheVariants.{Jsr, Ldx, Rts}
use Rattle.cpu6502.specs.declared.mnemonic.Mode.TheVariants.{Implied, Immediate, Absolute}
use Rattle.cpu6502.specs.Registers.{stack_place}
use Rattle.cpu6502.specs.Manual.{cycles_of}
use Rattle.code_runs.specs.Code.{Stands}
use Rattle.code_runs.specs.Calls.{Pulls, In}
use Rattle.code_runs.proofs.Laws.{leads_on, leads_stay, Lasts, lasts_on, lasts_to, lasts_wider}
use Rattle.asm6502.specs.Standing.{LinesAt}
use Rattle.scopes.specs.Desk.{Desk}
use Rattle.scopes.specs.Trees.{Tree}
use Rattle.scopes.specs.Meaning.{Outcome, Done, Left, Again, Stuck, Ran, each_one, paid, behind, and_then, ran}
use Rattle.scope_lines.specs.Sizes.{size}
use Rattle.scope_lines.specs.Lines.{block_around, lines}
use Rattle.scope_lines.specs.Reach.{nothing_around, has_lines}
use Rattle.scope_lines.specs.Lowered.{writes_at, spot}
use Rattle.scope_lines.specs.Cycles.{cycles}
use Rattle.scope_lines.proofs.Laws.{Ground, HasCode as HasLines, nothing_near, IsAround, target, tree_comes}
use Rattle.scope_calls.specs.Meaning.{at_voice, called_from, returned, back, voice_called, voice_last}
use Rattle.scope_calls.proofs.Keeping.{ran_keeps}
use Rattle.scope_calls.proofs.Moving.{Inside, lines_stay, voice_lasts, call_lasts, return_lasts, called_pulls}

-- from one place behind the label to another in so many cycles, with the stack pointer back where it was
pub record Walks (g : Ground) (W : ℕ → Type 0) (from to : ℕ) (desk : Desk) (r : Ran) (cycles : ℕ) : Type 0 where
  pub lasts : Lasts W r.cost cycles (spot (g.start + from) desk) (spot (g.start + to) r.desk)
  pub sp : r.desk.cpu.sp ≡ desk.cpu.sp

-- behind an end alone
pub record Then (one : Ran) (next : Desk → Ran) : Type 0 where
  pub first : one.outcome ≡ Done
  pub rest : (next one.desk).outcome ≡ Done
  pub is : and_then one next ≡ paid one.cost (next one.desk)

pub then_done : (one : Ran) (next : Desk → Ran) → (and_then one next).outcome ≡ Done → Then one next
then_done one next done = by_outcome one.outcome refl done
  where
    by_outcome : (o : Outcome) → one.outcome ≡ o → (behind o one next).outcome ≡ Done → Then one next
    by_outcome Done is e = record { first = is; rest = e; is = ap (λ o. behind o one next) is }
    by_outcome (Left name) is e = (let no : Left name ≡ Done = sym is ∙ e in absurd (cc))
    by_outcome Again is e = (let no : Again ≡ Done = sym is ∙ e in absurd (cc))
    by_outcome Stuck is e = (let no : Stuck ≡ Done = sym is ∙ e in absurd (cc))

pub then_walks : {g : Ground} {W : ℕ → Type 0} {from between to c d : ℕ} {desk : Desk} (one : Ran) (next : Desk → Ran) →
    Inside g W → HasLines g desk.at → (and_then one next).outcome ≡ Done →
    (one.outcome ≡ Done → Walks g W from between desk one c) →
    (HasLines g one.desk.at → one.desk.cpu.sp ≡ desk.cpu.sp → (next one.desk).outcome ≡ Done →
    Walks g W between to one.desk (next one.desk) d) → Walks g W from to desk (and_then one next) (c + d)
then_walks {g = g} {W = W} {from = from} {to = to} {c = c} {d = d} {desk = desk} one next inside has done first rest =
    let parts = then_done one next done in
    let way = first parts.first in
    let on = rest (lines_stay inside has way.lasts.leads) way.sp parts.rest in
    subst (λ r. Walks g W from to desk r (c + d)) (sym parts.is)
    (record { lasts = lasts_on way.lasts on.lasts; sp = on.sp ∙ way.sp })

-- ---- blocks

-- a block's lines, with nothing around them, which come to their end
pub block_walks : {W : ℕ → Type 0} (g : Ground) (label pointer place : ℕ) (holds : ℕ → Bool) (tree : Tree)
    (desk : Desk) →
    Inside g W → g.layout.address label ≡ g.start → pointer ≡ g.layout.pointer → holds ≡ g.layout.holds →
    has_lines nothing_around tree ≡ true → g.low ≤ g.start + place →
    g.start + (place + size holds tree) ≤ g.high → HasLines g desk.at →
    LinesAt g.layout.address g.code (g.start + place) (lines (block_around label pointer holds) place tree) →
    (ran each_one g.layout tree desk).outcome ≡ Done →
    Walks g W place (place + size holds tree) desk (ran each_one g.layout tree desk)
    (cycles g.layout (block_around label pointer holds) place tree desk)
block_walks {W = W} g label pointer place holds tree desk inside labelled pointed held has_lines low high has s done =
    let r = ran each_one g.layout tree desk in
    let around = block_around label pointer holds in
    let end = place + size holds tree in
    let is : IsAround g around nothing_around place end = record {
      label = labelled;
      pointer = pointed;
      holds = held;
      near = nothing_near around place end;
      inside = λ name far e. absurd (cc);
    } in
    let way =
    tree_comes g around nothing_around tree place desk has_lines is low high has s
    (λ stuck. (let no : Done ≡ Stuck = sym done ∙ stuck in cc)) in
    record {
      lasts = lasts_to (ap (λ o. spot (g.start + target around end o) r.desk) done)
          (lasts_wider inside.blocks way.lasts);
      sp = ap (λ c. c.0) (ran_keeps each_one g.layout nothing_around tree desk has_lines);
    }

-- ---- voices

-- a block writes nowhere else
own_inside : (g : Ground) → Inside g (In (writes_at g.layout))
own_inside g = record { blocks = λ place may. may; apart = g.apart }

-- the voices' block and the return behind it, which stand so many bytes behind the label
pub record Voice (g : Ground) (label pointer place : ℕ) (holds : ℕ → Bool) (block : Tree) : Type 0 where
  pub labelled : g.layout.address label ≡ g.start
  pub pointed : pointer ≡ g.layout.pointer
  pub held : holds ≡ g.layout.holds
  pub has_lines : has_lines nothing_around block ≡ true
  pub low : g.low ≤ g.start + place
  pub high : g.start + (place + size holds block + 1) ≤ g.high
  pub stands : LinesAt g.layout.address g.code (g.start + place) (lines (block_around label pointer holds) place block)
  pub return : Stands g.code (g.start + (place + size holds block)) Rts Implied 0

-- the stack is none of the places where blocks write
pub record OffStack (g : Ground) : Type 0 where
  pub off : (sp : ℕ) → writes_at g.layout (stack_place sp) ≡ true → ⊥

voice_walks : {W : ℕ → Type 0} (g : Ground) (label pointer place : ℕ) (holds : ℕ → Bool) (block : Tree) (desk : Desk) →
    Voice g label pointer place holds block → Inside g W → HasLines g desk.at →
    (ran each_one g.layout block desk).outcome ≡ Done →
    Walks g W place (place + size holds block) desk (ran each_one g.layout block desk)
    (cycles g.layout (block_around label pointer holds) place block desk)
voice_walks g label pointer place holds block desk v inside has done =
    block_walks g label pointer place holds block desk inside v.labelled v.pointed v.held v.has_lines v.low
    (less g.start (place + size holds block) v.high) has v.stands done
  where
    less : (m n : ℕ) {high : ℕ} → m + (n + 1) ≤ high → m + n ≤ high
    less m n h = omega (arith, h)

-- the third voice
pub last_walks : {W : ℕ → Type 0} (g : Ground) (label pointer place here : ℕ) (holds : ℕ → Bool) (block : Tree)
    (desk : Desk) → Voice g label pointer place holds block → Inside g W → HasLines g desk.at → g.low ≤ g.start + here →
    here + 2 ≡ place → Stands g.code (g.start + here) Ldx Immediate 14 →
    (voice_last g.layout block desk).outcome ≡ Done →
    Walks g W here (place + size holds block) desk (voice_last g.layout block desk)
    (cycles_of Ldx Immediate + cycles g.layout (block_around label pointer holds) place block (at_voice 2 desk))
last_walks {W = W} g label pointer place here holds block desk v inside has low next s done =
    let high = v.high in
    let l1 : Lasts W 1 (cycles_of Ldx Immediate) (spot (g.start + here) desk) (spot (g.start + place) (at_voice 2 desk)) =
    voice_lasts g (g.start + here) (g.start + place) 2 desk has low (omega (arith, next, high)) (omega (arith, next)) s
    in
    let way =
    voice_walks {W = W} g label pointer place holds block (at_voice 2 desk) v inside
    (lines_stay inside has l1.leads) done in
    record { lasts = lasts_on l1 way.lasts; sp = way.sp }

-- the bytes that the return pulls are there behind the block
still_pulls : (g : Ground) (last from to c : ℕ) (desk : Desk) (r : Ran) → OffStack g →
    Walks g (In (writes_at g.layout)) from to (called_from last desk) r c →
    Pulls r.desk.at r.desk.cpu.sp (last % 256) (last / 256)
still_pulls g last from to c desk r off way =
    let sp = (desk.cpu.sp + 254) % 256 in
    let pulls = called_pulls last desk in
    let there : Pulls r.desk.at sp (last % 256) (last / 256) = record {
      low_is = leads_stay way.lasts.leads (stack_place (sp + 1)) (off.off (sp + 1)) ∙ pulls.low_is;
      high_is = leads_stay way.lasts.leads (stack_place (sp + 2)) (off.off (sp + 2)) ∙ pulls.high_is;
    } in
    subst (λ n. Pulls r.desk.at n (last % 256) (last / 256)) (sym way.sp) there

-- one that is called
pub call_walks : {W : ℕ → Type 0} (g : Ground) (label pointer place here last voice : ℕ) (holds : ℕ → Bool)
    (block : Tree)
    (desk : Desk) → Voice g label pointer place holds block → Inside g W → OffStack g → HasLines g desk.at →
    desk.cpu.sp < 256 → W (stack_place desk.cpu.sp) → W (stack_place (desk.cpu.sp + 255)) → g.low ≤ g.start + here →
    here + 5 ≤ place → g.start + here + 4 ≡ last → Stands g.code (g.start + here) Ldx Immediate (7 * voice) →
    Stands g.code (g.start + (here + 2)) Jsr Absolute ((g.layout.address label + place) % 65536) →
    (voice_called g.layout block last voice desk).outcome ≡ Done →
    Walks g W here (here + 5) desk (voice_called g.layout block last voice desk)
    (cycles_of Ldx Immediate + cycles_of Jsr Absolute
    + (cycles g.layout (block_around label pointer holds) place block (called_from last (at_voice voice desk))
    + cycles_of Rts Implied))
call_walks {W = W} g label pointer place here last voice holds block desk v inside off has few upper lower low next is
    load call
    done =
    let high = v.high in
    let ends = g.ends in
    let labelled = v.labelled in
    let one = at_voice voice desk in
    let two = called_from last one in
    let r = ran each_one g.layout block two in
    let parts = then_done r back done in
    let goal : (g.layout.address label + place) % 65536 ≡ g.start + place = omega (arith, labelled, high, ends) in
    let c = cycles g.layout (block_around label pointer holds) place block two in
    let l1 : Lasts W 1 (cycles_of Ldx Immediate) (spot (g.start + here) desk) (spot (g.start + (here + 2)) one) =
    voice_lasts g (g.start + here) (g.start + (here + 2)) voice desk has low (omega (arith, next, high)) (omega arith)
    load in
    let l2 : Lasts W 1 (cycles_of Jsr Absolute) (spot (g.start + (here + 2)) one) (spot (g.start + place) two) =
    call_lasts g (g.start + (here + 2)) last (g.start + place) one (lines_stay inside has l1.leads) (omega (arith, low))
    (omega (arith, next, high)) (omega (arith, is))
    (subst (λ q. Stands g.code (g.start + (here + 2)) Jsr Absolute q) goal call) upper lower in
    let has2 = lines_stay inside has (leads_on l1.leads l2.leads) in
    let way =
    voice_walks {W = In (writes_at g.layout)} g label pointer place holds block two v (own_inside g) has2 parts.first in
    let l3 : Lasts W r.cost c (spot (g.start + place) two) (spot (g.start + (place + size holds block)) r.desk) =
    lasts_wider inside.blocks way.lasts in
    let l4 : Lasts W 1 (cycles_of Rts Implied) (spot (g.start + (place + size holds block)) r.desk)
    (spot (g.start + (here + 5)) (returned r.desk)) =
    return_lasts g (g.start + (place + size holds block)) (last % 256) (last / 256) (g.start + (here + 5)) r.desk
    (lines_stay inside has2 l3.leads) (rising g.start place (size holds block) v.low)
    (rise g.start (place + size holds block) high) v.return
    (still_pulls g last place (place + size holds block) c one r off way)
    (back_is g.start here place (size holds block) next is high ends) in
    let all = lasts_on (lasts_on l1 l2) (lasts_on l3 l4) in
    subst (λ q. Walks g W here (here + 5) desk (paid 2 q)
    (cycles_of Ldx Immediate + cycles_of Jsr Absolute + (c + cycles_of Rts Implied))) (sym parts.is)
    (record { lasts = all; sp = ap (λ n. (n + 2) % 256) way.sp ∙ again desk.cpu.sp few })
  where
    rising : (start place more : ℕ) {low : ℕ} → low ≤ start + place → low ≤ start + (place + more)
    rising start place more h = omega (arith, h)

    rise : (start place : ℕ) {high : ℕ} → start + (place + 1) ≤ high → start + place + 1 ≤ high
    rise start place h = omega (arith, h)

    back_is : (start here place bytes : ℕ) {last high : ℕ} → here + 5 ≤ place → start + here + 4 ≡ last →
        start + (place + bytes + 1) ≤ high → high < 65536 →
        (last % 256 + 256 * (last / 256) + 1) % 65536 ≡ start + (here + 5)
    back_is start here place bytes next is h ends = omega (arith, next, is, h, ends)

    again : (sp : ℕ) → sp < 256 → ((sp + 254) % 256 + 2) % 256 ≡ sp
    again sp few = omega (arith, few)
