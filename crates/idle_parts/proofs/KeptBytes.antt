-- Where the lines that load a byte which is kept under a condition may be left out, and that none reads one but under
-- its condition.
use Rattle.std.proofs.Common.{◌≡◌, ℕ, ◌*◌, ◌%◌, ◌<◌, ◌≤◌, ◌↔◌, Bool, true, false, not, ◌||◌, nat_eq, nat_le}
use Rattle.std.proofs.Common.{refl, sym, ap, ◌∙◌, lit<, inl, inr}
use Rattle.std.proofs.lemmas.Bool.{or_left, or_right, agree_below_at, le-leb, leb-true, true≢false}
use Rattle.std.proofs.lemmas.Bool.{cases_Bool}
use Rattle.std.proofs.lemmas.Bool.Decides.{eqb_tells}
use Rattle.std.specs.Int.Bits.{bit_and}
use Rattle.std.proofs.lemmas.Grind.{and_numeral}
use Rattle.play_model.specs.LookUps.{LookUps}
use Rattle.play_model.specs.State.{Playing}
use Rattle.song_facts.specs.Hold.{held_by, how_much}
use Rattle.scopes.specs.Desk.{Desk, Layout}
use Rattle.scopes.specs.Trees.{Tree}
use Rattle.scopes.specs.Meaning.{Outcome, Ran, Done, Left, each_one, ran}
use Rattle.player_memory.specs.declared.conditions.TheConstants.{EFFECTS, INSTRUMENT_VIBRATO, OWN_TIMER}
use Rattle.player_memory.specs.declared.conditions.TheConstants.{FIRST_HOLDS, LEGATO, NO_HARD_RESTART}
use Rattle.player_memory.specs.declared.labels.TheConstants.{NEW_COMMAND, COMMAND, PARAM, VOLUME, GATE_TIMER, ONE_TIMER}
use Rattle.player_memory.specs.declared.labels.TheConstants.{CUTOFF, FILTER_CONTROL, FILTER_TYPE, PULSE_LOW, PULSE_HIGH}
use Rattle.player_memory.specs.declared.labels.TheConstants.{INSTRUMENT, GATE_TIMERS, GATE_FROM, ENVELOPE_FROM}
use Rattle.player_memory.specs.Playing.{own_at, shared_at, IsListed, IsAlone}
use Rattle.player_text.specs.declared.joints.TheConstants.{EFFECTED}
use Rattle.player_text.specs.declared.effect.TheConstants.{EFFECT_BEGUN}
use Rattle.idle_parts.specs.Idle.{HoldsVoice, part}
use Rattle.idle_parts.specs.KeptBytes.{FilterLoads, VoiceLoads, LeavesAll, CompareAlike, IsToldTwice, TellAlike}
use Rattle.player_text.specs.declared.fetch.TheConstants.{ROW_AWAITED, GATE_CLOSED, HELD}
use Rattle.idle_parts.specs.KeptBytes.{ReadWhereKept, PairsAreKept}
use Rattle.idle_parts.proofs.Reading.{CommonBytes, own_sees, own_is, own_bytes, common_bytes}

-- ---- loads

pub filter_loads : FilterLoads
filter_loads layout rows c desk room may stand =
    let f : CommonBytes layout.holds c (shared_at layout desk.at) = common_bytes stand in
    record {
      cutoff = λ kept none zero. (
          let sees = may.reads CUTOFF (lit< tt) in
          let is : desk.at (layout.address CUTOFF) ≡ 0 = f.cutoff kept ∙ none in
          record {
            ends = rw sees refl;
            stays = λ place. rw sees refl;
            x = rw sees refl;
            decimal = rw sees refl;
            kept_are = rw (sees, is) (sym zero, (refl, (refl, tt)));
          });
      control = λ kept none zero. (
          let sees = may.reads FILTER_CONTROL (lit< tt) in
          let is : desk.at (layout.address FILTER_CONTROL) ≡ 0 = f.filter_control kept ∙ none in
          record {
            ends = rw sees refl;
            stays = λ place. rw sees refl;
            x = rw sees refl;
            decimal = rw sees refl;
            kept_are = rw (sees, is) (sym zero, (refl, (refl, tt)));
          });
      kind = λ kept none zero. (
          let sees = may.reads FILTER_TYPE (lit< tt) in
          let is : desk.at (layout.address FILTER_TYPE) ≡ 0 = f.filter_type kept ∙ none in
          record {
            ends = rw sees refl;
            stays = λ place. rw sees refl;
            x = rw sees refl;
            decimal = rw sees refl;
            kept_are = rw (sees, is) (sym zero, (refl, (refl, tt)));
          });
      volume = λ kept full. (
          let sees = may.reads VOLUME (lit< tt) in
          let is : desk.at (layout.address VOLUME) ≡ 15 = f.volume kept ∙ full in
          record {
            here = record {
              ends = rw sees refl;
              stays = λ place. rw sees refl;
              x = rw sees refl;
              decimal = rw sees refl;
              kept_are = rw sees (refl, (refl, tt));
            };
            there = record {
              ends = refl;
              stays = λ place. refl;
              x = refl;
              decimal = refl;
              kept_are = (refl, (refl, tt));
            };
            a_is = rw (sees, is) refl;
          });
    }

-- no command runs, whether an instrument's vibrato may
none_goes : {layout : Layout} {rows voice : ℕ} {s : Playing} {desk : Desk} → HoldsVoice layout rows voice s desk →
    layout.holds EFFECTS ≡ true → s.voice.command ≡ 0 → (layout.holds INSTRUMENT_VIBRATO ≡ true → s.voice.param ≡ 0) →
    (k : Bool) → layout.holds INSTRUMENT_VIBRATO ≡ k → LeavesAll layout (part EFFECTS 0 EFFECT_BEGUN.now) desk EFFECTED
none_goes h kept none bare true vibrato =
    let sees = own_sees h COMMAND refl in
    let is = own_is h COMMAND 0 refl ((own_bytes h).command kept ∙ none) in
    let sees_param = own_sees h PARAM refl in
    let is_param = own_is h PARAM 0 refl ((own_bytes h).param kept ∙ bare vibrato) in
    record {
      goes = rw (sees, is, vibrato, sees_param, is_param) refl;
      stays = λ place. rw (sees, is, vibrato, sees_param, is_param) refl;
      x = rw (sees, is, vibrato, sees_param, is_param) refl;
      decimal = rw (sees, is, vibrato, sees_param, is_param) refl;
    }
none_goes h kept none bare false vibrato =
    let sees = own_sees h COMMAND refl in
    let is = own_is h COMMAND 0 refl ((own_bytes h).command kept ∙ none) in
    record {
      goes = rw (sees, is, vibrato) refl;
      stays = λ place. rw (sees, is, vibrato) refl;
      x = rw (sees, is, vibrato) refl;
      decimal = rw (sees, is, vibrato) refl;
    }

-- the voice's timer, and the one that stands for all
compare_alike : {layout : Layout} {rows voice : ℕ} {s : Playing} {desk : Desk} → HoldsVoice layout rows voice s desk →
    layout.holds OWN_TIMER ≡ true → IsAlone layout rows desk.at ONE_TIMER s.voice.gate_timer →
    CompareAlike layout (part OWN_TIMER 0 ROW_AWAITED.now) (part OWN_TIMER 1 ROW_AWAITED.now) desk
compare_alike {s = s} h kept alone =
    let sees = own_sees h GATE_TIMER refl in
    let is = own_is h GATE_TIMER s.voice.gate_timer refl ((own_bytes h).gate_timer kept) in
    let sees_one = alone.reads in
    let is_one = alone.is in
    record {
      here = record {
        ends = rw sees refl;
        stays = λ place. rw sees refl;
        x = rw sees refl;
        decimal = rw sees refl;
        kept_are = rw sees (refl, (refl, tt));
      };
      there = record {
        ends = rw sees_one refl;
        stays = λ place. rw sees_one refl;
        x = rw sees_one refl;
        decimal = rw sees_one refl;
        kept_are = rw sees_one (refl, (refl, tt));
      };
      zero_is = rw (sees, sees_one, is, is_one) refl;
      carry_is = rw (sees, sees_one, is, is_one) refl;
    }

-- ---- what an instrument holds

-- two comparisons of numbers that tell the same
same_told : (a b c d : ℕ) → (a ≤ b) ↔ (c ≤ d) → nat_le a b ≡ nat_le c d
same_told a b c d tells = elim (cases_Bool (nat_le a b)) [
  | inl on ↦ on ∙ sym (le-leb c d (tells.0 (leb-true a b on)))
  | inr off ↦ elim (cases_Bool (nat_le c d)) [
    | inl other ↦ absurd (true≢false (sym (le-leb a b (tells.1 (leb-true c d other))) ∙ off))
    | inr none ↦ off ∙ sym none
  ]
]

-- a gateoff timer holds the gate by bit $40, and the envelope or more by bit $40 or bit $80
holds_gate : (t : ℕ) → t < 256 → nat_le 2 (how_much (held_by t)) ≡ nat_le 128 (2 * t % 256)
holds_gate t small =
    agree_below_at (λ n. nat_le 2 (how_much (held_by n))) (λ n. nat_le 128 (2 * n % 256)) 256 t refl small

holds_envelope : (t : ℕ) → t < 256 →
    nat_le 1 (how_much (held_by t)) ≡ (nat_le 128 (2 * t % 256) || nat_le 128 t)
holds_envelope t small =
    agree_below_at (λ n. nat_le 1 (how_much (held_by n))) (λ n. nat_le 128 (2 * n % 256) || nat_le 128 n) 256 t refl
    small

no_bit : (t : ℕ) → t < 256 → bit_and t 0x40 ≡ 0 → nat_le 128 (2 * t % 256) ≡ false
no_bit t small none =
    agree_below_at (λ n. nat_le 128 (2 * n % 256)) (λ n. not (nat_eq (bit_and n 0x40) 0)) 256 t refl small
    ∙ ap (λ n. not (nat_eq n 0)) none

-- where the lines for the gate aren't kept, the instrument doesn't hold it
no_held : {layout : Layout} {rows : ℕ} {at : ℕ → ℕ} {look : LookUps} {instrument : ℕ} →
    IsToldTwice layout rows at look instrument → layout.holds LEGATO ≡ false →
    bit_and (look.instrument instrument).gate_timer 0x40 ≡ 0
no_held {look = look} {instrument = i} told out = elim (eqb_tells (bit_and (look.instrument i).gate_timer 0x40) 0) [
  | inl same ↦ same.1
  | inr some ↦ absurd (told.no_gate out some.1)
]

-- so numbers from which on instruments hold so much tell the bits
gate_told : (t instrument from : ℕ) (b : Bool) → (from ≤ instrument) ↔ (2 ≤ how_much (held_by t)) → t < 256 →
    nat_le 128 (2 * t % 256) ≡ b → nat_le from instrument ≡ b
gate_told t instrument from b tells small bit =
    same_told from instrument 2 (how_much (held_by t)) tells ∙ holds_gate t small ∙ bit

envelope_told : (t instrument from : ℕ) → (from ≤ instrument) ↔ (1 ≤ how_much (held_by t)) → t < 256 →
    nat_le 128 (2 * t % 256) ≡ false → nat_le from instrument ≡ nat_le 128 t
envelope_told t instrument from tells small bit =
    same_told from instrument 1 (how_much (held_by t)) tells ∙ holds_envelope t small
    ∙ ap (λ (z : Bool). z || nat_le 128 t) bit

-- a run comes to this end with this carry, and has left each byte, X and the decimal flag
record Gives (run : Ran) (before : Desk) (outcome : Outcome) (carry : Bool) : Type 0 where
  way : run.outcome ≡ outcome
  stays : (place : ℕ) → run.desk.at place ≡ before.at place
  x : run.desk.cpu.x ≡ before.cpu.x
  decimal : run.desk.cpu.d ≡ before.cpu.d
  carry_is : run.desk.cpu.c ≡ carry

both_alike : {layout : Layout} {one other : Tree} {desk : Desk} (outcome : Outcome) (c d : Bool) →
    Gives (ran each_one layout one desk) desk outcome c → Gives (ran each_one layout other desk) desk outcome d →
    (layout.holds NO_HARD_RESTART ≡ true → outcome ≡ Done → c ≡ d) → TellAlike layout one other desk
both_alike outcome c d here there same = record {
  way_is = here.way ∙ sym there.way;
  here = record { stays = here.stays; x = here.x; decimal = here.decimal };
  there = record { stays = there.stays; x = there.x; decimal = there.decimal };
  carry_is = λ kept ends. here.carry_is ∙ same kept (sym here.way ∙ ends) ∙ sym there.carry_is;
}

abbrev by_timer : Layout → Desk → Ran
by_timer layout desk = ran each_one layout (part FIRST_HOLDS 0 GATE_CLOSED.now) desk

abbrev by_number : Layout → Desk → Ran
by_number layout desk = ran each_one layout (part FIRST_HOLDS 1 GATE_CLOSED.now) desk

-- bit $40 of the timer is on, or off, or nothing asks for it
timer_held : {layout : Layout} {rows voice : ℕ} {s : Playing} {desk : Desk} → HoldsVoice layout rows voice s desk →
    (timer : ℕ) → IsListed layout rows desk.at GATE_TIMERS s.voice.instrument timer → layout.holds LEGATO ≡ true →
    nat_le 128 (2 * timer % 256) ≡ true → Gives (by_timer layout desk) desk (Left HELD) (nat_le 128 timer)
timer_held {s = s} h timer listed legato bit =
    let sees = own_sees h INSTRUMENT refl in
    let is = own_is h INSTRUMENT s.voice.instrument refl (own_bytes h).instrument in
    let sees_timer = listed.reads in
    let is_timer = listed.is in
    record {
      way = rw (sees, is, sees_timer, is_timer, legato, bit) refl;
      stays = λ place. rw (sees, is, sees_timer, is_timer, legato, bit) refl;
      x = rw (sees, is, sees_timer, is_timer, legato, bit) refl;
      decimal = rw (sees, is, sees_timer, is_timer, legato, bit) refl;
      carry_is = rw (sees, is, sees_timer, is_timer, legato, bit) refl;
    }

timer_ends : {layout : Layout} {rows voice : ℕ} {s : Playing} {desk : Desk} → HoldsVoice layout rows voice s desk →
    (timer : ℕ) → IsListed layout rows desk.at GATE_TIMERS s.voice.instrument timer → layout.holds LEGATO ≡ true →
    nat_le 128 (2 * timer % 256) ≡ false → Gives (by_timer layout desk) desk Done (nat_le 128 timer)
timer_ends {s = s} h timer listed legato bit =
    let sees = own_sees h INSTRUMENT refl in
    let is = own_is h INSTRUMENT s.voice.instrument refl (own_bytes h).instrument in
    let sees_timer = listed.reads in
    let is_timer = listed.is in
    record {
      way = rw (sees, is, sees_timer, is_timer, legato, bit) refl;
      stays = λ place. rw (sees, is, sees_timer, is_timer, legato, bit) refl;
      x = rw (sees, is, sees_timer, is_timer, legato, bit) refl;
      decimal = rw (sees, is, sees_timer, is_timer, legato, bit) refl;
      carry_is = rw (sees, is, sees_timer, is_timer, legato, bit) refl;
    }

timer_plain : {layout : Layout} {rows voice : ℕ} {s : Playing} {desk : Desk} → HoldsVoice layout rows voice s desk →
    (timer : ℕ) → IsListed layout rows desk.at GATE_TIMERS s.voice.instrument timer → layout.holds LEGATO ≡ false →
    Gives (by_timer layout desk) desk Done (nat_le 128 timer)
timer_plain {s = s} h timer listed legato =
    let sees = own_sees h INSTRUMENT refl in
    let is = own_is h INSTRUMENT s.voice.instrument refl (own_bytes h).instrument in
    let sees_timer = listed.reads in
    let is_timer = listed.is in
    record {
      way = rw (sees, is, sees_timer, legato) refl;
      stays = λ place. rw (sees, is, sees_timer, legato) refl;
      x = rw (sees, is, sees_timer, legato) refl;
      decimal = rw (sees, is, sees_timer, legato) refl;
      carry_is = rw (sees, is, sees_timer, is_timer, legato) refl;
    }

-- the number is one that holds the gate, or is below those; and so for the envelope, where that is asked for
number_held : {layout : Layout} {rows voice : ℕ} {s : Playing} {desk : Desk} → HoldsVoice layout rows voice s desk →
    (from : ℕ) → IsAlone layout rows desk.at GATE_FROM from → layout.holds LEGATO ≡ true →
    nat_le from s.voice.instrument ≡ true → Gives (by_number layout desk) desk (Left HELD) true
number_held {s = s} h from gate legato told =
    let sees = own_sees h INSTRUMENT refl in
    let is = own_is h INSTRUMENT s.voice.instrument refl (own_bytes h).instrument in
    let sees_gate = gate.reads in
    let is_gate = gate.is in
    record {
      way = rw (sees, is, sees_gate, is_gate, legato, told) refl;
      stays = λ place. rw (sees, is, sees_gate, is_gate, legato, told) refl;
      x = rw (sees, is, sees_gate, is_gate, legato, told) refl;
      decimal = rw (sees, is, sees_gate, is_gate, legato, told) refl;
      carry_is = rw (sees, is, sees_gate, is_gate, legato, told) refl;
    }

number_both : {layout : Layout} {rows voice : ℕ} {s : Playing} {desk : Desk} → HoldsVoice layout rows voice s desk →
    (from : ℕ) → IsAlone layout rows desk.at GATE_FROM from → layout.holds LEGATO ≡ true →
    nat_le from s.voice.instrument ≡ false → (since : ℕ) →
    IsAlone layout rows desk.at ENVELOPE_FROM since → layout.holds NO_HARD_RESTART ≡ true →
    Gives (by_number layout desk) desk Done (nat_le since s.voice.instrument)
number_both {s = s} h from gate legato told since envelope soft =
    let sees = own_sees h INSTRUMENT refl in
    let is = own_is h INSTRUMENT s.voice.instrument refl (own_bytes h).instrument in
    let sees_gate = gate.reads in
    let is_gate = gate.is in
    let sees_envelope = envelope.reads in
    let is_envelope = envelope.is in
    record {
      way = rw (sees, is, sees_gate, is_gate, legato, told, soft, sees_envelope) refl;
      stays = λ place. rw (sees, is, sees_gate, is_gate, legato, told, soft, sees_envelope) refl;
      x = rw (sees, is, sees_gate, is_gate, legato, told, soft, sees_envelope) refl;
      decimal = rw (sees, is, sees_gate, is_gate, legato, told, soft, sees_envelope) refl;
      carry_is = rw (sees, is, sees_gate, is_gate, legato, told, soft, sees_envelope, is_envelope) refl;
    }

number_gate : {layout : Layout} {rows voice : ℕ} {s : Playing} {desk : Desk} → HoldsVoice layout rows voice s desk →
    (from : ℕ) → IsAlone layout rows desk.at GATE_FROM from → layout.holds LEGATO ≡ true →
    nat_le from s.voice.instrument ≡ false → layout.holds NO_HARD_RESTART ≡ false →
    Gives (by_number layout desk) desk Done false
number_gate {s = s} h from gate legato told soft =
    let sees = own_sees h INSTRUMENT refl in
    let is = own_is h INSTRUMENT s.voice.instrument refl (own_bytes h).instrument in
    let sees_gate = gate.reads in
    let is_gate = gate.is in
    record {
      way = rw (sees, is, sees_gate, is_gate, legato, told, soft) refl;
      stays = λ place. rw (sees, is, sees_gate, is_gate, legato, told, soft) refl;
      x = rw (sees, is, sees_gate, is_gate, legato, told, soft) refl;
      decimal = rw (sees, is, sees_gate, is_gate, legato, told, soft) refl;
      carry_is = rw (sees, is, sees_gate, is_gate, legato, told, soft) refl;
    }

number_envelope : {layout : Layout} {rows voice : ℕ} {s : Playing} {desk : Desk} → HoldsVoice layout rows voice s desk →
    layout.holds LEGATO ≡ false → (since : ℕ) →
    IsAlone layout rows desk.at ENVELOPE_FROM since → layout.holds NO_HARD_RESTART ≡ true →
    Gives (by_number layout desk) desk Done (nat_le since s.voice.instrument)
number_envelope {s = s} h legato since envelope soft =
    let sees = own_sees h INSTRUMENT refl in
    let is = own_is h INSTRUMENT s.voice.instrument refl (own_bytes h).instrument in
    let sees_envelope = envelope.reads in
    let is_envelope = envelope.is in
    record {
      way = rw (sees, legato, soft, sees_envelope) refl;
      stays = λ place. rw (sees, legato, soft, sees_envelope) refl;
      x = rw (sees, legato, soft, sees_envelope) refl;
      decimal = rw (sees, legato, soft, sees_envelope) refl;
      carry_is = rw (sees, is, legato, soft, sees_envelope, is_envelope) refl;
    }

number_none : {layout : Layout} {rows voice : ℕ} {s : Playing} {desk : Desk} → HoldsVoice layout rows voice s desk →
    layout.holds LEGATO ≡ false → layout.holds NO_HARD_RESTART ≡ false →
    Gives (by_number layout desk) desk Done desk.cpu.c
number_none {s = s} h legato soft =
    let sees = own_sees h INSTRUMENT refl in
    record {
      way = rw (sees, legato, soft) refl;
      stays = λ place. rw (sees, legato, soft) refl;
      x = rw (sees, legato, soft) refl;
      decimal = rw (sees, legato, soft) refl;
      carry_is = rw (sees, legato, soft) refl;
    }

-- a run that leaves a scope doesn't come to its end
not_left : (name : ℕ) → Left name ≡ Done → ⊥
not_left name e = absurd (cc)

-- the two sides, as far as the lines for the gate and for the envelope are kept, and whether bit $40 is on
tells_alike : {layout : Layout} {rows voice : ℕ} {s : Playing} {desk : Desk} → HoldsVoice layout rows voice s desk →
    (look : LookUps) → IsToldTwice layout rows desk.at look s.voice.instrument → (g : Bool) → layout.holds LEGATO ≡ g →
    (e : Bool) → layout.holds NO_HARD_RESTART ≡ e → (b : Bool) →
    nat_le 128 (2 * (look.instrument s.voice.instrument).gate_timer % 256) ≡ b →
    TellAlike layout (part FIRST_HOLDS 0 GATE_CLOSED.now) (part FIRST_HOLDS 1 GATE_CLOSED.now) desk
tells_alike {s = s} h look told true legato e soft true bit =
    let t : ℕ = (look.instrument s.voice.instrument).gate_timer in
    let gate = told.gate legato in
    both_alike (Left HELD) (nat_le 128 t) true (timer_held h t told.timer legato bit)
    (number_held h gate.from gate.stands legato
    (gate_told t s.voice.instrument gate.from true gate.tells told.byte bit))
    (λ kept ends. absurd (not_left HELD ends))
tells_alike {s = s} h look told true legato true soft false bit =
    let t : ℕ = (look.instrument s.voice.instrument).gate_timer in
    let gate = told.gate legato in
    let envelope = told.envelope soft in
    both_alike Done (nat_le 128 t) (nat_le envelope.from s.voice.instrument) (timer_ends h t told.timer legato bit)
    (number_both h gate.from gate.stands legato
    (gate_told t s.voice.instrument gate.from false gate.tells told.byte bit) envelope.from envelope.stands soft)
    (λ kept ends. sym (envelope_told t s.voice.instrument envelope.from envelope.tells told.byte bit))
tells_alike {s = s} h look told true legato false soft false bit =
    let t : ℕ = (look.instrument s.voice.instrument).gate_timer in
    let gate = told.gate legato in
    both_alike Done (nat_le 128 t) false (timer_ends h t told.timer legato bit)
    (number_gate h gate.from gate.stands legato
    (gate_told t s.voice.instrument gate.from false gate.tells told.byte bit) soft)
    (λ kept ends. absurd (true≢false (sym kept ∙ soft)))
tells_alike {s = s} h look told false legato e soft true bit =
    absurd
    (true≢false
    (sym bit ∙ no_bit (look.instrument s.voice.instrument).gate_timer told.byte (no_held told legato)))
tells_alike {s = s} h look told false legato true soft false bit =
    let t : ℕ = (look.instrument s.voice.instrument).gate_timer in
    let envelope = told.envelope soft in
    both_alike Done (nat_le 128 t) (nat_le envelope.from s.voice.instrument) (timer_plain h t told.timer legato)
    (number_envelope h legato envelope.from envelope.stands soft)
    (λ kept ends. sym (envelope_told t s.voice.instrument envelope.from envelope.tells told.byte bit))
tells_alike {s = s} {desk} h look told false legato false soft false bit =
    let t : ℕ = (look.instrument s.voice.instrument).gate_timer in
    both_alike Done (nat_le 128 t) desk.cpu.c (timer_plain h t told.timer legato) (number_none h legato soft)
    (λ kept ends. absurd (true≢false (sym kept ∙ soft)))

pub voice_loads : VoiceLoads
voice_loads layout rows voice s desk h = record {
  width_low = λ kept none. (
      let sees = own_sees h PULSE_LOW refl in
      let is = own_is h PULSE_LOW 0 refl ((own_bytes h).pulse_low kept ∙ none) in
      record {
        here = record {
          ends = rw sees refl;
          stays = λ place. rw sees refl;
          x = rw sees refl;
          decimal = rw sees refl;
          kept_are = rw sees (refl, (refl, tt));
        };
        there = record {
          ends = refl;
          stays = λ place. refl;
          x = refl;
          decimal = refl;
          kept_are = (refl, (refl, tt));
        };
        a_is = rw (sees, is) refl;
      });
  width_high = λ kept none zero. (
      let sees = own_sees h PULSE_HIGH refl in
      let byte : ℕ = own_at layout desk.at voice PULSE_HIGH in
      let is = own_is h PULSE_HIGH byte refl refl in
      let low : bit_and byte 15 ≡ 0 = and_numeral byte 14 refl ∙ (own_bytes h).pulse_high kept ∙ none in
      record {
        ends = rw sees refl;
        stays = λ place. rw sees refl;
        x = rw sees refl;
        decimal = rw sees refl;
        kept_are = rw (sees, is, low) (sym zero, (refl, (refl, tt)));
      });
  bare = λ kept none. (
      let sees = own_sees h NEW_COMMAND refl in
      let is = own_is h NEW_COMMAND 0 refl ((own_bytes h).new_command kept ∙ none) in
      record {
        ends = rw (sees, is) refl;
        a_is = rw (sees, is) refl;
        y_is = rw (sees, is) refl;
        stays = λ place. rw (sees, is) refl;
        x = rw (sees, is) refl;
        carry = rw (sees, is) refl;
        decimal = rw (sees, is) refl;
      });
  bare_ends = λ kept. record {
    ends = rw kept refl;
    a_is = rw kept refl;
    y_is = rw kept refl;
    stays = λ place. rw kept refl;
    x = rw kept refl;
    carry = rw kept refl;
    decimal = rw kept refl;
  };
  bare_idles = λ out. record {
    ends = rw out refl;
    stays = λ place. rw out refl;
    x = rw out refl;
    decimal = rw out refl;
    kept_are = rw out (refl, (refl, (refl, tt)));
  };
  bare_load = record { ends = refl; stays = λ place. refl; x = refl; decimal = refl; kept_are = (refl, (refl, tt)) };
  none_runs = λ kept none bare. none_goes h kept none bare _ refl;
  none_ends = record { goes = refl; stays = λ place. refl; x = refl; decimal = refl };
  first_wave = λ wave listed alone. (
      let sees = listed.reads in
      let is = listed.is in
      let sees_one = alone.reads in
      let is_one = alone.is in
      record {
        alike = record {
          here = record {
            ends = rw sees refl;
            stays = λ place. rw sees refl;
            x = rw sees refl;
            decimal = rw sees refl;
            kept_are = rw sees (refl, (refl, tt));
          };
          there = record {
            ends = rw sees_one refl;
            stays = λ place. rw sees_one refl;
            x = rw sees_one refl;
            decimal = rw sees_one refl;
            kept_are = rw sees_one (refl, (refl, tt));
          };
          a_is = rw (sees, sees_one, is, is_one) refl;
        };
        zero_is = rw (sees, sees_one, is, is_one) refl;
      });
  awaited = λ kept alone. compare_alike h kept alone;
  reached = λ kept alone. compare_alike h kept alone;
  first_reached = λ kept alone. compare_alike h kept alone;
  first_holds = λ look told. tells_alike h look told _ refl _ refl _ refl;
}

-- ---- where they are read

pub read_where_kept : ReadWhereKept
read_where_kept = record {
  voice = refl;
  filter = refl;
  init = λ start variables. refl;
}

pub pairs_are_kept : PairsAreKept
pairs_are_kept asked o = (
  λ on. or_left _ _ (or_left _ _ on),
  (λ on. or_right _ _ on, (λ on. or_left _ _ (or_right _ _ on), (λ on. or_left _ _ (or_left _ _ on), tt))),
)
