-- Calls of entrances depend on the bytes that their blocks may read alone.
use Rattle.std.proofs.Common.{◌≡◌, ◌≢◌, ℕ, ◌+◌, ◌/◌, ◌%◌, ◌<◌, ◌≤◌, ◌⊎◌, Bool}
use Rattle.std.proofs.Common.{true, false, Option, Some, None, inl, inr, refl, sym, ap, ◌∙◌, subst, arith}
use Rattle.std.specs.Prelude.{slice_index}
use Rattle.std.proofs.lemmas.Bool.{and_parts}
use Rattle.cpu6502.specs.declared.machine.Machine.{Machine}
use Rattle.cpu6502.specs.declared.mnemonic.Mnemonic.TheVariants.{Cld, Jmp, Jsr, Ldx}
use Rattle.cpu6502.specs.declared.mnemonic.Mode.TheVariants.{Absolute, Immediate, Implied}
use Rattle.cpu6502.specs.Registers.{stack_place}
use Rattle.cpu6502.specs.Manual.{cycles_of}
use Rattle.cpu6502.specs.Call.{entered}
use Rattle.code_runs.specs.Runs.{put}
use Rattle.code_runs.proofs.Laws.{put_other}
use Rattle.scopes.specs.Desk.{Desk, Layout}
use Rattle.scopes.specs.Trees.{Tree}
use Rattle.scopes.specs.Meaning.{Done, Stuck, Ran, each_one, paid, and_then, ran}
use Rattle.scope_lines.specs.Reach.{nothing_around, has_lines}
use Rattle.scope_lines.specs.Known.{Known, the_x, shown, either, known}
use Rattle.scope_lines.specs.Isolation.{Alike}
use Rattle.scope_lines.specs.Lines.{block_around}
use Rattle.scope_lines.proofs.Laws.{trees_are_isolated, cycles_are_isolated}
use Rattle.scope_calls.specs.Entrances.{Entrance, first_place, voices_place, voice_has_lines}
use Rattle.scope_calls.specs.Meaning.{cleared, at_voice, called_from, back, voice_called, voice_last}
use Rattle.scope_calls.specs.Meaning.{voices_ran, entrance_ran}
use Rattle.scope_calls.specs.Listed.{Listed, layout_at, entrance_desk}
use Rattle.scope_calls.specs.Cycles.{block_cycles, called_cycles, last_cycles, voices_cycles, entrance_cycles}
use Rattle.scope_calls.specs.EntranceLaws.{known_first, voice_is_known, EntrancesAreIsolated}
use Rattle.scope_calls.proofs.Walking.{then_done}
use Rattle.scope_calls.proofs.Staying.{entered_same}

-- two desks have the same bytes where the blocks may read
pub record SameBytes (layout : Layout) (one two : Desk) : Type 0 where
  pub at : (place : ℕ) → layout.may_read place ≡ true → one.at place ≡ two.at place

-- two runs come to such, in as many instructions, and these take as many cycles
pub record Twins (layout : Layout) (one two : Ran) (c d : ℕ) : Type 0 where
  pub cost : one.cost ≡ two.cost
  pub cycles : c ≡ d
  pub same : SameBytes layout one.desk two.desk

-- nothing on the stack is read
pub record ReadsOffStack (layout : Layout) : Type 0 where
  pub off : (place : ℕ) → layout.may_read place ≡ true → (place < 256) ⊎ (512 ≤ place)

-- one after the other
then_twins : {layout : Layout} {c d c' d' : ℕ} (one two : Ran) (next next' : Desk → Ran) →
    (and_then one next).outcome ≡ Done →
    (and_then two next').outcome ≡ Done → (one.outcome ≡ Done → two.outcome ≡ Done → Twins layout one two c d) →
    (SameBytes layout one.desk two.desk → (next one.desk).outcome ≡ Done → (next' two.desk).outcome ≡ Done →
    Twins layout (next one.desk) (next' two.desk) c' d') →
    Twins layout (and_then one next) (and_then two next') (c + c') (d + d')
then_twins {layout = layout} {c = c} {d = d} {c' = c'} {d' = d'} one two next next' done done' first rest =
    let a = then_done one next done in
    let b = then_done two next' done' in
    let here = first a.first b.first in
    let there = rest here.same a.rest b.rest in
    let costs = here.cost in
    let more = there.cost in
    let both : Twins layout (paid one.cost (next one.desk)) (paid two.cost (next' two.desk)) (c + c') (d + d') =
    record {
      cost = omega (arith, costs, more);
      cycles = ap (λ n. n + c') here.cycles ∙ ap (λ n. d + n) there.cycles;
      same = record { at = there.same.at };
    } in
    subst (λ r. Twins layout r (and_then two next') (c + c') (d + d')) (sym a.is)
    (subst (λ r. Twins layout (paid one.cost (next one.desk)) r (c + c') (d + d')) (sym b.is) both)

-- what was done before takes as many in both
paid_twins : {layout : Layout} (n m : ℕ) {one two : Ran} {c d : ℕ} → Twins layout one two c d →
    Twins layout (paid n one) (paid n two) (m + c) (m + d)
paid_twins n m t =
    let cost = t.cost in
    record { cost = omega (arith, cost); cycles = ap (λ k. m + k) t.cycles; same = record { at = t.same.at } }

-- ---- blocks

not_stuck : (r : Ran) → r.outcome ≡ Done → r.outcome ≢ Stuck
not_stuck r done stuck = (let no : Done ≡ Stuck = sym done ∙ stuck in cc)

block_twins : (layout : Layout) (e : Entrance) (place : ℕ) (tree : Tree) (before : Known) (one two : Desk) →
    has_lines nothing_around tree ≡ true →
    (known tree before).reads_known ≡ true → Alike layout before one two →
    (ran each_one layout tree one).outcome ≡ Done → (ran each_one layout tree two).outcome ≡ Done →
    Twins layout (ran each_one layout tree one) (ran each_one layout tree two) (block_cycles layout e place tree one)
    (block_cycles layout e place tree two)
block_twins layout e place tree before one two has reads alike done done' =
    let goes = not_stuck (ran each_one layout tree one) done in
    let goes' = not_stuck (ran each_one layout tree two) done' in
    let way = trees_are_isolated layout nothing_around tree before one two has reads alike goes goes' in
    record {
      cost = way.cost;
      cycles = cycles_are_isolated layout (block_around e.label e.pointer e.holds) place nothing_around tree before one two
          has reads alike goes goes';
      same = record { at = way.desk.bytes };
    }

-- ---- voices

voice_alike : {layout : Layout} {one two : Desk} → one.cpu.x ≡ two.cpu.x → one.cpu.z ≡ two.cpu.z →
    one.cpu.n ≡ two.cpu.n → SameBytes layout one two → Alike layout (either the_x shown) one two
voice_alike x z n same = record {
  registers = record {
    a = λ e. absurd (cc);
    x = λ e. x;
    y = λ e. absurd (cc);
    carry = λ e. absurd (cc);
    zero = λ e. z;
    minus = λ e. n;
  };
  low = λ e. absurd (cc);
  high = λ e. absurd (cc);
  bytes = same.at;
}

-- what a call pushes isn't read
off_differs : (place sp : ℕ) → (place < 256) ⊎ (512 ≤ place) → place ≢ stack_place sp
off_differs place sp (inl low) e = omega (arith, low, e)
off_differs place sp (inr high) e = omega (arith, high, e)

called_at : (last : ℕ) (desk : Desk) (place : ℕ) → (place < 256) ⊎ (512 ≤ place) →
    (called_from last desk).at place ≡ desk.at place
called_at last desk place off =
    let sp = desk.cpu.sp in
    put_other (put desk.at (stack_place sp) (last / 256)) (stack_place (sp + 255)) (last % 256) place
    (off_differs place (sp + 255) off)
    ∙ put_other desk.at (stack_place sp) (last / 256) place (off_differs place sp off)

called_twins : (layout : Layout) (e : Entrance) (block : Tree) (last voice : ℕ) (one two : Desk) →
    ReadsOffStack layout →
    has_lines nothing_around block ≡ true → (known block (either the_x shown)).reads_known ≡ true →
    SameBytes layout one two → (voice_called layout block last voice one).outcome ≡ Done →
    (voice_called layout block last voice two).outcome ≡ Done →
    Twins layout (voice_called layout block last voice one) (voice_called layout block last voice two)
    (called_cycles layout e block last voice one) (called_cycles layout e block last voice two)
called_twins layout e block last voice one two off has reads same done done' =
    let a = called_from last (at_voice voice one) in
    let b = called_from last (at_voice voice two) in
    let here : SameBytes layout a b = record {
      at = λ place may.
          called_at last (at_voice voice one) place (off.off place may)
          ∙ (same.at place may ∙ sym (called_at last (at_voice voice two) place (off.off place may)));
    } in
    paid_twins 2 (cycles_of Ldx Immediate + cycles_of Jsr Absolute)
    (then_twins (ran each_one layout block a) (ran each_one layout block b) back back done done'
    (λ first first'.
    block_twins layout e (voices_place e + 12) block (either the_x shown) a b has reads
    (voice_alike refl refl refl here) first first')
    (λ more rest rest'. record { cost = refl; cycles = refl; same = record { at = more.at } }))

last_twins : (layout : Layout) (e : Entrance) (block : Tree) (one two : Desk) → has_lines nothing_around block ≡ true →
    (known block (either the_x shown)).reads_known ≡ true → SameBytes layout one two →
    (voice_last layout block one).outcome ≡ Done → (voice_last layout block two).outcome ≡ Done →
    Twins layout (voice_last layout block one) (voice_last layout block two) (last_cycles layout e block one)
    (last_cycles layout e block two)
last_twins layout e block one two has reads same done done' =
    paid_twins 1 (cycles_of Ldx Immediate)
    (block_twins layout e (voices_place e + 12) block (either the_x shown) (at_voice 2 one) (at_voice 2 two) has reads
    (voice_alike refl refl refl (record { at = same.at })) done done')

voices_twins : (layout : Layout) (e : Entrance) (voice : Option Tree) (place : ℕ) (one two : Desk) → ReadsOffStack layout →
    voice_has_lines voice ≡ true → voice_is_known voice ≡ true → SameBytes layout one two →
    (voices_ran layout voice place one).outcome ≡ Done → (voices_ran layout voice place two).outcome ≡ Done →
    Twins layout (voices_ran layout voice place one) (voices_ran layout voice place two)
    (voices_cycles layout e voice place one) (voices_cycles layout e voice place two)
voices_twins layout e None place one two off has reads same done done' =
    record { cost = refl; cycles = refl; same = same }
voices_twins layout e (Some block) place one two off has reads same done done' =
    let second : Desk → Ran =
    λ desk. and_then (voice_called layout block (place + 9) 1 desk) (voice_last layout block) in
    let a = voice_called layout block (place + 4) 0 one in
    let b = voice_called layout block (place + 4) 0 two in
    then_twins a b second second done done'
    (λ first first'. called_twins layout e block (place + 4) 0 one two off has reads same first first')
    (λ more rest rest'.
    then_twins (voice_called layout block (place + 9) 1 a.desk) (voice_called layout block (place + 9) 1 b.desk)
    (voice_last layout block) (voice_last layout block) rest rest'
    (λ first first'. called_twins layout e block (place + 9) 1 a.desk b.desk off has reads more first first')
    (λ still last last'.
    last_twins layout e block (voice_called layout block (place + 9) 1 a.desk).desk
    (voice_called layout block (place + 9) 1 b.desk).desk has reads still last last'))

-- ---- all of it

cleared_alike : (layout : Layout) (numbered : Bool) (one two : Desk) → (numbered ≡ true → one.cpu.a ≡ two.cpu.a) →
    SameBytes layout one two → Alike layout (known_first numbered) (cleared one) (cleared two)
cleared_alike layout false one two number same = record {
  registers = record {
    a = λ e. absurd (cc);
    x = λ e. absurd (cc);
    y = λ e. absurd (cc);
    carry = λ e. absurd (cc);
    zero = λ e. absurd (cc);
    minus = λ e. absurd (cc);
  };
  low = λ e. absurd (cc);
  high = λ e. absurd (cc);
  bytes = same.at;
}
cleared_alike layout true one two number same = record {
  registers = record {
    a = λ e. number refl;
    x = λ e. absurd (cc);
    y = λ e. absurd (cc);
    carry = λ e. absurd (cc);
    zero = λ e. absurd (cc);
    minus = λ e. absurd (cc);
  };
  low = λ e. absurd (cc);
  high = λ e. absurd (cc);
  bytes = same.at;
}

entrance_twins : (layout : Layout) (e : Entrance) (one two : Desk) → ReadsOffStack layout →
    has_lines nothing_around e.first ≡ true → voice_has_lines e.voice ≡ true →
    (known e.first (known_first e.numbered)).reads_known ≡ true → voice_is_known e.voice ≡ true →
    (e.numbered ≡ true → one.cpu.a ≡ two.cpu.a) → SameBytes layout one two →
    (entrance_ran layout e one).outcome ≡ Done → (entrance_ran layout e two).outcome ≡ Done →
    Twins layout (entrance_ran layout e one) (entrance_ran layout e two) (entrance_cycles layout e one)
    (entrance_cycles layout e two)
entrance_twins layout e one two off has has_voice reads voice_reads number same done done' =
    let place = layout.address e.label + voices_place e in
    let a = cleared one in
    let b = cleared two in
    let next : Desk → Ran = λ desk. and_then (voices_ran layout e.voice place desk) back in
    let x = ran each_one layout e.first a in
    let y = ran each_one layout e.first b in
    paid_twins 1 (cycles_of Cld Implied)
    (then_twins x y next next done done'
    (λ first first'.
    block_twins layout e first_place e.first (known_first e.numbered) a b has reads
    (cleared_alike layout e.numbered one two number same) first first')
    (λ more rest rest'.
    then_twins (voices_ran layout e.voice place x.desk) (voices_ran layout e.voice place y.desk) back back rest rest'
    (λ first first'. voices_twins layout e e.voice place x.desk y.desk off has_voice voice_reads more first first')
    (λ still last last'. record { cost = refl; cycles = refl; same = record { at = still.at } })))

-- ---- calls

entered_at : (e : Listed) (machine : Machine) (number place : ℕ) → (place < 256) ⊎ (512 ≤ place) →
    slice_index (entered machine e.entry number).memory place ≡ slice_index machine.memory place
entered_at e machine number place off =
    entered_same machine e.entry number place (off_differs place machine.cpu.sp off)
    (off_differs place (machine.cpu.sp + 255) off)

pub entrances_are_isolated : EntrancesAreIsolated
entrances_are_isolated e one two number other well are_known agree same done done' a b =
    let lines = and_parts (has_lines nothing_around e.entrance.first) (voice_has_lines e.entrance.voice) well.lines in
    let reads =
    and_parts (known e.entrance.first (known_first e.entrance.numbered)).reads_known (voice_is_known e.entrance.voice)
    are_known in
    let start : SameBytes (layout_at e) (entrance_desk e one number) (entrance_desk e two other) = record {
      at = λ place may.
          entered_at e one number place (agree.off_stack place may)
          ∙ (agree.at place may ∙ sym (entered_at e two other place (agree.off_stack place may)));
    } in
    let twins =
    entrance_twins (layout_at e) e.entrance (entrance_desk e one number) (entrance_desk e two other)
    (record { off = agree.off_stack }) lines.0 lines.1 reads.0 reads.1 same start done done' in
    record {
      steps = a.steps_are ∙ (ap (λ n. n + 1) twins.cost ∙ sym b.steps_are);
      cycles = a.cycles_are ∙ (ap (λ n. cycles_of Jmp Absolute + n) twins.cycles ∙ sym b.cycles_are);
      bytes = λ place may.
          ap (λ s. s.at place) a.seen ∙ (twins.same.at place may ∙ ap (λ s. s.at place) (sym b.seen));
    }
