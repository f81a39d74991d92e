-- The voices of an entrance, and all of its lines, where they stand.
use Rattle.std.proofs.Common.{◌≡◌, ℕ, ◌+◌, ◌%◌, ◌<◌, ◌≤◌, true, Option, Some, None, refl, sym}
use Rattle.std.proofs.Common.{ap, ◌∙◌, subst, arith}
use Rattle.cpu6502.specs.declared.mnemonic.Mnemonic.TheVariants.{Cld, Jsr, Ldx, Rts}
use Rattle.cpu6502.specs.declared.mnemonic.Mode.TheVariants.{Implied, Immediate, Absolute}
use Rattle.cpu6502.specs.Registers.{stack_place}
use Rattle.cpu6502.specs.Manual.{cycles_of}
use Rattle.code_runs.specs.Code.{Stands}
use Rattle.code_runs.specs.Calls.{Pulls}
use Rattle.code_runs.proofs.Laws.{leads_on, leads_stay, Lasts, lasts_none, lasts_on, lasts_to}
use Rattle.asm6502.specs.Standing.{LinesAt}
use Rattle.asm6502.proofs.Laws.{fronts_stand, backs_stand}
use Rattle.scopes.specs.Desk.{Desk}
use Rattle.scopes.specs.Trees.{Tree}
use Rattle.scopes.specs.Meaning.{Done, Ran, each_one, paid, and_then, ran}
use Rattle.scope_lines.specs.Sizes.{size}
use Rattle.scope_lines.specs.Lines.{block_lines}
use Rattle.scope_lines.specs.Reach.{nothing_around, has_lines}
use Rattle.scope_lines.specs.Lowered.{spot}
use Rattle.scope_lines.proofs.Laws.{Ground, HasCode as HasLines}
use Rattle.scope_calls.specs.Entrances.{Entrance, first_place, voices_place, call_lines, voice_lines}
use Rattle.scope_calls.specs.Entrances.{voice_size, voice_has_lines}
use Rattle.scope_calls.specs.Meaning.{cleared, returned, back, voice_called, voice_last, voices_ran}
use Rattle.scope_calls.specs.Meaning.{entrance_ran}
use Rattle.scope_calls.specs.Cycles.{block_cycles, called_cycles, voices_cycles, entrance_cycles}
use Rattle.scope_calls.proofs.Sizing.{Parts}
use Rattle.scope_calls.proofs.Moving.{Inside, lines_stay, clear_lasts, return_lasts}
use Rattle.scope_calls.proofs.Walking.{Walks, then_done, then_walks, block_walks, Voice, OffStack, last_walks, call_walks}

-- an entrance's code on its ground, in a call whose stack pointer is there at its first line
pub record Call (e : Entrance) (g : Ground) (W : ℕ → Type 0) (sp : ℕ) : Type 0 where
  pub inside : Inside g W
  pub off : OffStack g
  pub labelled : g.layout.address e.label ≡ g.start
  pub pointed : e.pointer ≡ g.layout.pointer
  pub held : e.holds ≡ g.layout.holds
  pub has_first : has_lines nothing_around e.first ≡ true
  pub has_voice : voice_has_lines e.voice ≡ true
  pub low : g.low ≤ g.start
  pub high : g.start + (voices_place e + voice_size e.holds e.voice + 1) ≤ g.high
  pub parts : Parts e g.layout.address g.code g.start
  pub may_call : (block : Tree) → e.voice ≡ Some block → W (stack_place sp) × W (stack_place (sp + 255))
  pub few : sp < 256

-- ---- the voices

voices_walk : {W : ℕ → Type 0} (e : Entrance) (g : Ground) (sp : ℕ) (voice : Option Tree) (desk : Desk) →
    e.voice ≡ voice →
    Call e g W sp → voice_has_lines voice ≡ true →
    g.start + (voices_place e + voice_size e.holds voice + 1) ≤ g.high →
    LinesAt g.layout.address g.code (g.start + voices_place e) (voice_lines e (voices_place e) voice) →
    Stands g.code (g.start + (voices_place e + voice_size e.holds voice)) Rts Implied 0 → HasLines g desk.at →
    desk.cpu.sp ≡ sp → (voices_ran g.layout voice (g.start + voices_place e) desk).outcome ≡ Done →
    Walks g W (voices_place e) (voices_place e + voice_size e.holds voice) desk
    (voices_ran g.layout voice (g.start + voices_place e) desk)
    (voices_cycles g.layout e voice (g.start + voices_place e) desk)
voices_walk e g sp None desk is c lines high s r has at_sp done =
    let same : voices_place e ≡ voices_place e + 0 = omega arith in
    record { lasts = lasts_to (ap (λ n. spot (g.start + n) desk) same) (lasts_none _); sp = refl }
voices_walk {W = W} e g sp (Some block) desk is c lines high s r has at_sp done =
    let p = voices_place e in
    let bytes = size e.holds block in
    let own = block_lines e.label e.pointer e.holds (p + 12) block in
    let low = c.low in
    let calls = fronts_stand g.layout.address g.code (g.start + p) (call_lines e.label p) own s in
    let behind = backs_stand g.layout.address g.code (g.start + p) (call_lines e.label p) own s in
    let at_block : g.start + p + 12 ≡ g.start + (p + 12) = omega arith in
    let v : Voice g e.label e.pointer (p + 12) e.holds block = record {
      labelled = c.labelled;
      pointed = c.pointed;
      held = c.held;
      has_lines = lines;
      low = omega (arith, low);
      high = omega (arith, high);
      stands = subst (λ q. LinesAt g.layout.address g.code q own) at_block behind;
      return = subst (λ q. Stands g.code q Rts Implied 0) (last_is g.start p bytes) r;
    } in
    let jsr = (g.layout.address e.label + (p + 12)) % 65536 in
    let pushes = c.may_call block is in
    let w1 : W (stack_place desk.cpu.sp) = subst (λ n. W (stack_place n)) (sym at_sp) pushes.0 in
    let w2 : W (stack_place (desk.cpu.sp + 255)) = subst (λ n. W (stack_place (n + 255))) (sym at_sp) pushes.1 in
    let few : desk.cpu.sp < 256 = rw at_sp c.few in
    let at_2 : g.start + p + 2 ≡ g.start + (p + 2) = omega arith in
    let at_5 : g.start + p + 2 + 3 ≡ g.start + (p + 5) = omega arith in
    let at_7 : g.start + p + 2 + 3 + 2 ≡ g.start + (p + 5 + 2) = omega arith in
    let at_10 : g.start + p + 2 + 3 + 2 + 3 ≡ g.start + (p + 10) = omega arith in
    let again : p + 5 + 5 ≡ p + 10 = omega arith in
    let next : Desk → Ran = voice_last g.layout block in
    let second : Desk → Ran = λ one. and_then (voice_called g.layout block (g.start + p + 9) 1 one) next in
    let takes = voices_cycles g.layout e (Some block) (g.start + p) desk in
    let way : Walks g W p (p + 12 + bytes) desk (voices_ran g.layout (Some block) (g.start + p) desk) takes =
    then_walks {between = p + 5} (voice_called g.layout block (g.start + p + 4) 0 desk) second c.inside has done
    (λ first.
    call_walks g e.label e.pointer (p + 12) p (g.start + p + 4) 0 e.holds block desk v c.inside c.off has few w1 w2
    (omega (arith, low)) (omega arith) refl calls.0 (subst (λ q. Stands g.code q Jsr Absolute jsr) at_2 calls.1.0)
    first)
    (λ has1 sp1 done1.
    let one = (voice_called g.layout block (g.start + p + 4) 0 desk).desk in
    then_walks {between = p + 10} (voice_called g.layout block (g.start + p + 9) 1 one) next c.inside has1 done1
    (λ first.
    subst (λ q. Walks g W (p + 5) q one (voice_called g.layout block (g.start + p + 9) 1 one)
    (called_cycles g.layout e block (g.start + p + 9) 1 one)) again
    (call_walks g e.label e.pointer (p + 12) (p + 5) (g.start + p + 9) 1 e.holds block one v c.inside c.off has1
    (rw sp1 few) (subst (λ n. W (stack_place n)) (sym sp1) w1) (subst (λ n. W (stack_place (n + 255))) (sym sp1) w2)
    (omega (arith, low)) (omega arith) (omega arith) (subst (λ q. Stands g.code q Ldx Immediate 7) at_5 calls.1.1.0)
    (subst (λ q. Stands g.code q Jsr Absolute jsr) at_7 calls.1.1.1.0) first))
    (λ has2 sp2 done2.
    last_walks g e.label e.pointer (p + 12) (p + 10) e.holds block
    (voice_called g.layout block (g.start + p + 9) 1 one).desk v c.inside has2 (omega (arith, low)) (omega arith)
    (subst (λ q. Stands g.code q Ldx Immediate 14) at_10 calls.1.1.1.1.0) done2)) in
    subst (λ q. Walks g W p q desk (voices_ran g.layout (Some block) (g.start + p) desk) takes) (end_is p bytes) way
  where
    last_is : (start p bytes : ℕ) → start + (p + (12 + bytes)) ≡ start + (p + 12 + bytes)
    last_is start p bytes = omega arith

    end_is : (p bytes : ℕ) → p + 12 + bytes ≡ p + (12 + bytes)
    end_is p bytes = omega arith

-- ---- all of it

-- up to the return, and behind it
pub record Ends (g : Ground) (W : ℕ → Type 0) (desk : Desk) (r : Ran) (cycles : ℕ) : Type 0 where
  pub lasts : Lasts W r.cost cycles (spot g.start desk) (spot 0 r.desk)
  pub sp : r.desk.cpu.sp ≡ (desk.cpu.sp + 2) % 256

pub entrance_ends : {W : ℕ → Type 0} (e : Entrance) (g : Ground) (desk : Desk) → Call e g W desk.cpu.sp →
    HasLines g desk.at → Pulls desk.at desk.cpu.sp 255 255 → (W (stack_place (desk.cpu.sp + 1)) → ⊥) →
    (W (stack_place (desk.cpu.sp + 2)) → ⊥) → (entrance_ran g.layout e desk).outcome ≡ Done →
    g.layout.address e.label ≡ g.start →
    Ends g W desk (entrance_ran g.layout e desk) (entrance_cycles g.layout e desk)
entrance_ends {W = W} e g desk c has pulls low_kept high_kept done named =
    let low = c.low in
    let high = c.high in
    let start = cleared desk in
    let one = ran each_one g.layout e.first start in
    let place = g.layout.address e.label + voices_place e in
    let next : Desk → Ran = λ done. and_then (voices_ran g.layout e.voice place done) back in
    let parts = then_done one next done in
    let two = voices_ran g.layout e.voice place one.desk in
    let more = then_done two back parts.rest in
    let lead : Lasts W 1 (cycles_of Cld Implied) (spot g.start desk) (spot (g.start + first_place) start) =
    clear_lasts g g.start (g.start + first_place) desk has low (omega (arith, high)) refl c.parts.lead.0 in
    let has1 = lines_stay c.inside has lead.leads in
    let way1 : Walks g W first_place (voices_place e) start one
    (block_cycles g.layout e first_place e.first start) =
    block_walks g e.label e.pointer first_place e.holds e.first start c.inside c.labelled c.pointed c.held
    c.has_first (omega (arith, low)) (omega (arith, high)) has1 c.parts.first parts.first in
    let has2 = lines_stay c.inside has1 way1.lasts.leads in
    let at_sp : one.desk.cpu.sp ≡ desk.cpu.sp = way1.sp in
    let way2 : Walks g W (voices_place e) (voices_place e + voice_size e.holds e.voice) one.desk two
    (voices_cycles g.layout e e.voice place one.desk) =
    subst (λ q. Walks g W (voices_place e) (voices_place e + voice_size e.holds e.voice) one.desk
    (voices_ran g.layout e.voice (q + voices_place e) one.desk)
    (voices_cycles g.layout e e.voice (q + voices_place e) one.desk)) (sym named)
    (voices_walk e g desk.cpu.sp e.voice one.desk refl c c.has_voice high c.parts.voices c.parts.last has2 at_sp
    (subst (λ q. (voices_ran g.layout e.voice (q + voices_place e) one.desk).outcome ≡ Done) named more.first)) in
    let there = leads_on lead.leads (leads_on way1.lasts.leads way2.lasts.leads) in
    let last_sp : two.desk.cpu.sp ≡ desk.cpu.sp = way2.sp ∙ at_sp in
    let still : Pulls two.desk.at desk.cpu.sp 255 255 = record {
      low_is = leads_stay there (stack_place (desk.cpu.sp + 1)) low_kept ∙ pulls.low_is;
      high_is = leads_stay there (stack_place (desk.cpu.sp + 2)) high_kept ∙ pulls.high_is;
    } in
    let last : Lasts W 1 (cycles_of Rts Implied) (spot (g.start + (voices_place e + voice_size e.holds e.voice)) two.desk)
    (spot 0 (returned two.desk)) =
    return_lasts g (g.start + (voices_place e + voice_size e.holds e.voice)) 255 255 0 two.desk
    (lines_stay c.inside has there) (omega (arith, low)) (omega (arith, high)) c.parts.last
    (subst (λ n. Pulls two.desk.at n 255 255) (sym last_sp) still) refl in
    let all = lasts_on lead (lasts_on way1.lasts (lasts_on way2.lasts last)) in
    let is : entrance_ran g.layout e desk ≡ paid 1 (paid one.cost (paid two.cost (back two.desk))) =
    ap (λ r. paid 1 r) (parts.is ∙ ap (λ r. paid one.cost r) more.is) in
    subst (λ r. Ends g W desk r (entrance_cycles g.layout e desk)) (sym is)
    (record { lasts = all; sp = ap (λ n. (n + 2) % 256) last_sp })
