-- Where parts don't do nothing.
use Rattle.std.proofs.Common.{◌≡◌, ◌≢◌, ℕ, ◌+◌, ◌%◌, ◌≤◌, Bool, true, false, nat_eq, nat_le, eq-eqb, refl, sym, ap, subst}
use Rattle.std.proofs.Common.{◌∙◌, lit<, arith, [], ◌∷◌}
use Rattle.std.proofs.lemmas.Bool.{le-leb, true≢false}
use Rattle.play_model.specs.State.{Playing}
use Rattle.song_facts.specs.Hold.{held_by, how_much}
use Rattle.scopes.specs.Desk.{Desk, Layout}
use Rattle.scopes.specs.Meaning.{Outcome, Left}
use Rattle.player_memory.specs.declared.conditions.TheConstants.{SET_AD, GATE_NOTE, ROW_TONE}
use Rattle.player_memory.specs.declared.conditions.TheConstants.{HELD_NOTE, LEGATO, FIRST_HOLDS}
use Rattle.player_text.specs.declared.commands.TheConstants.{AD_SET}
use Rattle.player_text.specs.declared.fetch.TheConstants.{ENTRY_READ, GATE_CLOSED}
use Rattle.player_text.specs.declared.tick.TheConstants.{NOTE_TAKEN}
use Rattle.idle_parts.specs.Idle.{Carry, HoldsVoice, Idles, part}
use Rattle.idle_parts.specs.WorkedParts.{PartsAreWorked}
use Rattle.player_memory.specs.declared.labels.TheConstants.{AD, GATE, PULSE_POINTER, PULSE_TIME, NEW_COMMAND}
use Rattle.player_memory.specs.declared.labels.TheConstants.{VIB_DELAY, ORDER_LOW, ORDER_HIGH}
use Rattle.player_memory.specs.declared.labels.TheConstants.{TEMPO_THREE, WAVE_TIME, COMMAND, KEPT_PARAM}
use Rattle.player_memory.specs.declared.labels.TheConstants.{FILTER_POINTER, FILTER_TIME}
use Rattle.player_memory.specs.declared.labels.TheConstants.{NEW_NOTE, INSTRUMENT, GATE_TIMER, GATE_TIMERS}
use Rattle.player_memory.specs.Playing.{IsListed}
use Rattle.idle_parts.proofs.Reading.{own_sees, own_writes, own_is, own_bytes}

done_works : (layout : Layout) (desk : Desk) → desk.cpu.y ≡ 5 →
    desk.at ((layout.address AD + desk.cpu.x) % 65536) ≢ desk.cpu.a → (w : Bool) →
    layout.may_write ((layout.address AD + desk.cpu.x) % 65536) ≡ w → ¬ Idles layout (part SET_AD 0 AD_SET.now) desk []
done_works layout desk five other true writes i =
    let place : ℕ = (layout.address AD + desk.cpu.x) % 65536 in
    let same : nat_eq place place ≡ true = eq-eqb place place refl in
    let stays = i.stays place in
    other (sym (rw (five, writes, same) at stays))
done_works layout desk five other false writes i = let bad = rw (five, writes) at i.ends in absurd (cc)

gate_works : (layout : Layout) (desk : Desk) → desk.cpu.a ≡ 0xBE → (w : Bool) →
    layout.may_write ((layout.address GATE + desk.cpu.x) % 65536) ≡ w →
    ¬ Idles layout (part GATE_NOTE 0 ENTRY_READ.now) desk []
gate_works layout desk off true writes i = let bad = rw (off, writes) at i.ends in absurd (cc)
gate_works layout desk off false writes i = let bad = rw (off, writes) at i.ends in absurd (cc)

-- command 3, whatever may be read and written
tone_works : (layout : Layout) (desk : Desk) → desk.at ((layout.address NEW_COMMAND + desk.cpu.x) % 65536) ≡ 3 →
    (r w : Bool) → layout.may_read ((layout.address NEW_COMMAND + desk.cpu.x) % 65536) ≡ r →
    layout.may_write ((layout.address NEW_NOTE + desk.cpu.x) % 65536) ≡ w →
    ¬ Idles layout (part ROW_TONE 0 NOTE_TAKEN.now) desk []
tone_works layout desk three false w reads writes i = let bad = rw reads at i.ends in absurd (cc)
tone_works layout desk three true false reads writes i = let bad = rw (reads, three, writes) at i.ends in absurd (cc)
tone_works layout desk three true true reads writes i = let bad = rw (reads, three, writes) at i.ends in absurd (cc)

tone_works_next : (layout : Layout) (desk : Desk) → desk.at ((layout.address NEW_COMMAND + desk.cpu.x) % 65536) ≡ 3 →
    (r : Bool) → layout.may_read ((layout.address NEW_COMMAND + desk.cpu.x) % 65536) ≡ r →
    ¬ Idles layout (part ROW_TONE 0 GATE_CLOSED.now) desk []
tone_works_next layout desk three false reads i = let bad = rw reads at i.ends in absurd (cc)
tone_works_next layout desk three true reads i = let bad = rw (reads, three) at i.ends in absurd (cc)

-- bit $80 of the timer, whether the lines of bit $40 are kept
held_works : {layout : Layout} {rows voice : ℕ} {s : Playing} {desk : Desk} → HoldsVoice layout rows voice s desk →
    layout.holds FIRST_HOLDS ≡ true → desk.cpu.c ≡ false →
    IsListed layout rows desk.at GATE_TIMERS s.voice.instrument 0x80 → (k : Bool) →
    layout.holds LEGATO ≡ k → ¬ Idles layout (part HELD_NOTE 0 GATE_CLOSED.now) desk (Carry ∷ [])
held_works {s = s} h first off listed true kept i =
    let sees = own_sees h INSTRUMENT refl in
    let is = own_is h INSTRUMENT s.voice.instrument refl (own_bytes h).instrument in
    let sees_timer = listed.reads in
    let is_timer = listed.is in
    let c = rw (first, sees, is, sees_timer, is_timer, kept, off) at i.kept_are.0 in
    absurd (true≢false c)
held_works {s = s} h first off listed false kept i =
    let sees = own_sees h INSTRUMENT refl in
    let is = own_is h INSTRUMENT s.voice.instrument refl (own_bytes h).instrument in
    let sees_timer = listed.reads in
    let is_timer = listed.is in
    let c = rw (first, sees, is, sees_timer, is_timer, kept, off) at i.kept_are.0 in
    absurd (true≢false c)

-- the scope that is left, 0 where none is
abbrev name_of : Outcome → ℕ
name_of (Left name) = name
name_of outcome = 0

pub parts_are_worked : PartsAreWorked
parts_are_worked = record {
  done = λ layout desk five other. done_works layout desk five other _ refl;
  up = λ layout desk one i. let bad = rw one at i.ends in absurd (cc);
  register = λ layout rows voice s desk h none some i. (
      let sees = own_sees h PULSE_POINTER refl in
      let is = own_is h PULSE_POINTER 0 refl ((own_bytes h).pulse_pointer ∙ none) in
      let y = rw (sees, is) at i.kept_are.0 in
      some (sym y));
  carry = λ layout desk one off i. (
      let c = rw (one, off) at i.kept_are.0 in absurd (cc));
  bit = λ i. (let a = i.kept_are.0 in absurd (cc));
  for_one = λ i. (let stays = i.stays TEMPO_THREE in absurd (cc));
  voice_tempo = λ i. (let way = i.ends in absurd (cc));
  common_tempo = λ i. (let a = i.kept_are.0 in absurd (cc));
  turns = λ i. (let stays = i.stays TEMPO_THREE in absurd (cc));
  choice = λ i. (let stays = i.stays TEMPO_THREE in absurd (cc));
  x = λ layout desk one i. (
      let down = rw one at i.x in absurd (omega (arith, down)));
  stuck = λ layout desk found. let bad = found.ends in absurd (cc);
  between = λ layout rows voice s desk eight h. (
      let x = h.at_voice.x in absurd (omega (arith, x, eight)));
  told = refl;
  body = refl;
  no_body = refl;
  in_front = refl;
  mask = λ layout desk zero i. let bad = rw zero at i.ends in absurd (cc);
  gate = λ layout desk off i. gate_works layout desk off _ refl i;
  legato = λ layout desk minus i. let bad = rw minus at i.ends in absurd (cc);
  no_hard_restart = λ layout desk on i. let bad = rw on at i.ends in absurd (cc);
  gate_from = λ i. (let way = i.ends in absurd (cc));
  gate_behind = record {
    ends = refl;
    stays = λ place. refl;
    x = refl;
    decimal = refl;
    kept_are = (refl, (refl, (refl, tt)));
  };
  envelope_from = λ i. (let c = i.kept_are.0 in absurd (cc));
  envelope_behind = record {
    ends = refl;
    stays = λ place. refl;
    x = refl;
    decimal = refl;
    kept_are = (refl, (refl, (refl, tt)));
  };
  gate_clears = λ i. (let c = i.kept_are.0 in absurd (cc));
  not_below = λ rows is. (let from = is.stands.is in let below = is.below in omega (arith, from, below));
  not_twice = λ rows look told.
      (let timer = told.timer.is in
      let gate = told.gate refl in
      let from = gate.stands.is in
      let low = gate.tells.1 (subst (λ t. 2 ≤ how_much (held_by t)) timer (omega arith)) in
      omega (arith, from, low));
  ordered = record { ends = refl; stays = λ place. refl; x = refl; decimal = refl; kept_are = (refl, tt) };
  ordered_gate = λ i. (let way = i.ends in absurd (cc));
  ordered_envelope = λ i. (let c = i.kept_are.0 in absurd (cc));
  no_gate = record { ends = refl; stays = λ place. refl; x = refl; decimal = refl; kept_are = (refl, tt) };
  no_envelope = record { ends = refl; stays = λ place. refl; x = refl; decimal = refl; kept_are = (refl, tt) };
  told_gate = record {
    way_is = refl;
    here = record { stays = λ place. refl; x = refl; decimal = refl };
    there = record { stays = λ place. refl; x = refl; decimal = refl };
    carry_is = λ kept ends. absurd (cc);
  };
  not_gate = λ told. (let way = told.way_is in absurd (cc));
  told_envelope = record {
    way_is = refl;
    here = record { stays = λ place. refl; x = refl; decimal = refl };
    there = record { stays = λ place. refl; x = refl; decimal = refl };
    carry_is = λ kept ends. refl;
  };
  not_envelope = λ told. (let c = told.carry_is refl refl in absurd (cc));
  told_none = record {
    way_is = refl;
    here = record { stays = λ place. refl; x = refl; decimal = refl };
    there = record { stays = λ place. refl; x = refl; decimal = refl };
    carry_is = λ kept ends. refl;
  };
  none_holds = λ told. (let c = told.carry_is refl refl in absurd (cc));
  once = λ layout desk five i. let bad = rw five at i.ends in absurd (cc);
  none = λ layout desk i. let bad = i.ends in absurd (cc);
  tone = λ layout desk three. tone_works layout desk three _ _ refl refl;
  tone_next = λ layout desk three. tone_works_next layout desk three _ refl;
  special = λ layout desk kept row i. let bad = rw (row, kept) at i.ends in absurd (cc);
  held = λ layout rows voice s desk h first kept listed i. (
      let sees = own_sees h INSTRUMENT refl in
      let is = own_is h INSTRUMENT s.voice.instrument refl (own_bytes h).instrument in
      let sees_timer = listed.reads in
      let is_timer = listed.is in
      let bad = rw (first, sees, is, sees_timer, is_timer, kept) at i.ends in absurd (cc));
  held_carry = λ layout rows voice s desk h first off listed. held_works h first off listed _ refl;
  mask_alone = λ layout desk some high i. (
      let c : nat_le 0xFE desk.cpu.a ≡ true = le-leb 0xFE desk.cpu.a high in
      let bad = rw (some, c) at i.ends in absurd (cc));
  delay = λ layout rows voice s desk h kept none listed i. (
      let sees = listed.reads in
      let is = listed.is in
      let writes = own_writes h VIB_DELAY refl in
      let its = own_is h VIB_DELAY 255 refl ((own_bytes h).vib_delay kept ∙ ap (λ n. (n + 255) % 256) none) in
      let here : ℕ = (layout.address VIB_DELAY + desk.cpu.x) % 65536 in
      let same : nat_eq here here ≡ true = eq-eqb here here refl in
      let stays = i.stays here in
      let e = rw (sees, is, writes, same) at stays in
      absurd (omega (arith, e, its)));
  vibrato = λ layout rows desk listed zero i. (
      let sees = listed.reads in
      let is = listed.is in
      let a = rw (sees, is) at i.kept_are.0 in
      absurd (omega (arith, a, zero)));
  row_vibrato = λ layout rows desk listed zero i. (
      let sees = listed.reads in
      let is = listed.is in
      let a = rw (sees, is) at i.kept_are.0 in
      absurd (omega (arith, a, zero)));
  pulse = λ layout rows voice s desk h listed time i. (
      let sees = listed.reads in
      let is = listed.is in
      let pointer = own_writes h PULSE_POINTER refl in
      let writes = own_writes h PULSE_TIME refl in
      let its = own_is h PULSE_TIME 1 refl time in
      let here : ℕ = (layout.address PULSE_TIME + desk.cpu.x) % 65536 in
      let same : nat_eq here here ≡ true = eq-eqb here here refl in
      let stays = i.stays here in
      let e = rw (sees, is, pointer, writes, same) at stays in
      absurd (omega (arith, e, its)));
  filter = λ layout rows voice s desk h listed time i. (
      let sees = listed.reads in
      let is = listed.is in
      let pointer = h.may.writes FILTER_POINTER (lit< tt) in
      let writes = h.may.writes FILTER_TIME (lit< tt) in
      let here : ℕ = layout.address FILTER_TIME in
      let same : nat_eq here here ≡ true = eq-eqb here here refl in
      let stays = i.stays here in
      let e = rw (sees, is, pointer, writes, same) at stays in
      absurd (omega (arith, e, time)));
  cutoff = λ i. (let a = i.kept_are.0 in absurd (cc));
  width_high = λ i. (let a = i.kept_are.0 in absurd (cc));
  volume = λ alike. (let a = alike.a_is in absurd (cc));
  width_low = λ alike. (let a = alike.a_is in absurd (cc));
  first_wave = λ shows. (let a = shows.alike.a_is in absurd (cc));
  same_wave = record {
    alike = record {
      here = record { ends = refl; stays = λ place. refl; x = refl; decimal = refl; kept_are = (refl, (refl, tt)) };
      there = record { ends = refl; stays = λ place. refl; x = refl; decimal = refl; kept_are = (refl, (refl, tt)) };
      a_is = refl;
    };
    zero_is = refl;
  };
  timer = λ compares. (let zero = compares.zero_is in absurd (cc));
  later_timer = λ compares. (let carry = compares.carry_is in absurd (cc));
  same_timer = record {
    here = record { ends = refl; stays = λ place. refl; x = refl; decimal = refl; kept_are = (refl, (refl, tt)) };
    there = record { ends = refl; stays = λ place. refl; x = refl; decimal = refl; kept_are = (refl, (refl, tt)) };
    zero_is = refl;
    carry_is = refl;
  };
  bare = λ clears. (let way = clears.ends in absurd (cc));
  no_load = λ clears. (let a = clears.a_is in absurd (cc));
  with_load = λ i. (let a = i.kept_are.0 in absurd (cc));
  load = λ i. (let a = i.kept_are.0 in absurd (cc));
  order_low = λ i. (let stays = i.stays ORDER_LOW in absurd (cc));
  order_high = λ i. (let stays = i.stays ORDER_HIGH in absurd (cc));
  order_load = λ i. (let a = i.kept_are.0 in absurd (cc));
  runs = λ leaves. (let name : 134 ≡ 132 = ap name_of leaves.goes in absurd (omega (arith, name)));
  stored = λ i. (let stays = i.stays WAVE_TIME tt in absurd (cc));
  stored_timer = λ i. (let stays = i.stays GATE_TIMER tt in absurd (cc));
  stored_by = λ i. (let a = i.kept_are.0 in absurd (cc));
  time = λ i. (let stays = i.stays WAVE_TIME ((λ e. omega (arith, e)), ((λ e. omega (arith, e)), tt)) in absurd (cc));
  command = λ i. (let stays = i.stays COMMAND ((λ e. omega (arith, e)), ((λ e. omega (arith, e)), tt)) in absurd (cc));
  note_load = λ i. (let a = i.kept_are.0 in absurd (cc));
  other_time = λ i. (let stays = i.stays WAVE_TIME tt in absurd (cc));
  other_load = λ i. (let a = i.kept_are.0 in absurd (cc));
  sides = λ same. (let stays = same COMMAND ((λ e. omega (arith, e)), tt) in absurd (cc));
  first_row = λ i. (let stays = i.stays KEPT_PARAM tt in absurd (cc));
  first_load = λ i. (let a = i.kept_are.0 in absurd (cc));
  first_carry = λ i. (let c = i.kept_are.0 in absurd (cc));
  no_command = λ i. (let stays = i.stays NEW_COMMAND tt in absurd (cc));
  no_carry = λ i. (let c = i.kept_are.0 in absurd (cc));
  param = λ i. (let a = i.kept_are.0 in absurd (cc));
  read = refl;
  read_under = refl;
  read_else = refl;
  stores = refl;
  counts = refl;
  no_tone = refl;
  no_once = refl;
  no_lent = refl;
  no_filter = refl;
  one_ends = refl;
  none_ends = refl;
}
