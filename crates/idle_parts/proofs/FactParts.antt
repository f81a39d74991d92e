-- Where the parts that a song's facts keep do nothing.
use Rattle.std.proofs.Common.{◌≡◌, ◌≢◌, ℕ, ◌+◌, ◌*◌, ◌%◌, ◌<◌, ◌≤◌, ◌⊎◌, [], ◌∷◌, Bool, true, false, nat_eq}
use Rattle.std.proofs.Common.{nat_le}
use Rattle.std.proofs.Common.{if◌then◌else◌}
use Rattle.std.proofs.Common.{bit_xor, refl, sym, ap, ◌∙◌, inl, inr, arith}
use Rattle.std.proofs.lemmas.Bool.{le-leb, lt-leb, le-ltb, ne_eqb, agree_below_at, true≢false}
use Rattle.std.proofs.lemmas.Bool.Decides.{eqb_tells}
use Rattle.play_model.specs.State.{Playing}
use Rattle.scopes.specs.Desk.{Desk, Layout}
use Rattle.scopes.specs.Trees.{Tree, NoneTree, ThenTree, WithTree, ScopeTree, LeaveTree, LeaveIfTree}
use Rattle.scopes.specs.Trees.{WhenTree, ChooseTree, NeverTree, tree_of}
use Rattle.scopes.specs.declared.line.Operand.TheVariants.{Own, Number}
use Rattle.scopes.specs.declared.line.Flag.TheVariants.{Zero, Carry as CarryFlag}
use Rattle.scopes.specs.declared.line.Test.TheVariants.{On}
use Rattle.cpu6502.specs.declared.mnemonic.Mnemonic.TheVariants.{Cmp, Lda, Sta}
use Rattle.scopes.specs.Meaning.{Done, Left, each_one, ran}
use Rattle.player_memory.specs.declared.conditions.TheConstants.{HELD_NOTE, LEGATO, NOTE_VIBRATO, VIBRATO_DELAY}
use Rattle.player_memory.specs.declared.conditions.TheConstants.{ROW_ONCE, ROW_COMMAND, ROW_SLIDE, EFFECTS, SWINGS}
use Rattle.player_memory.specs.declared.conditions.TheConstants.{INSTRUMENT_VIBRATO, FIRST_HOLDS, NO_HARD_RESTART}
use Rattle.player_memory.specs.declared.labels.TheConstants.{INSTRUMENT, NEW_COMMAND, WAVE_POINTER}
use Rattle.player_memory.specs.declared.labels.TheConstants.{GATE_TIMERS, VIBRATOS, DELAYS, COMMAND, PARAM}
use Rattle.player_memory.specs.declared.labels.TheConstants.{VIB_TIME, VIB_DELAY, NEW_PARAM, GATE_FROM, ENVELOPE_FROM}
use Rattle.player_memory.specs.Forms.{stored_left}
use Rattle.player_memory.specs.Playing.{IsListed}
use Rattle.player_text.specs.declared.fetch.TheConstants.{GATE_CLOSED}
use Rattle.player_text.specs.declared.tick.TheConstants.{NOTE_TAKEN, COMMAND_BEGUN, ONCE, BARE, SETTLED}
use Rattle.player_text.specs.declared.joints.TheConstants.{DONE}
use Rattle.idle_parts.specs.Idle.{A, Y, HoldsVoice, Idles, part}
use Rattle.idle_parts.specs.IdleParts.{IsBelow, IsBelowHolders, FactsIdle}
use Rattle.idle_parts.specs.Places.{RowsLeave, RowsEnd}
use Rattle.idle_parts.proofs.Reading.{own_sees, own_writes, own_is, own_bytes}

-- another command than 3
other_turned : (c : ℕ) → c < 256 → c ≢ 3 → nat_eq (bit_xor c 3) 0 ≡ false
other_turned c small other =
    agree_below_at (λ n. nat_eq (bit_xor n 3) 0) (λ n. nat_eq n 3) 256 c refl small ∙ ne_eqb c 3 other

other_compared : (c : ℕ) → c < 256 → c ≢ 3 → nat_eq ((c + 253) % 256) 0 ≡ false
other_compared c small other = ne_eqb ((c + 253) % 256) 0 (λ e. absurd (other (omega (arith, small, e))))

-- twice a timer below $40 is below $80
plain_timer : (t : ℕ) → t < 0x40 → nat_le 128 (2 * t % 256) ≡ false
plain_timer t low = lt-leb 128 (2 * t % 256) (omega (arith, low))

-- the lines that read the timer, where those of bit $40 are kept, and where they aren't
held_idles : {layout : Layout} {rows voice : ℕ} {s : Playing} {desk : Desk} → HoldsVoice layout rows voice s desk →
    layout.holds FIRST_HOLDS ≡ true → (timer : ℕ) →
    IsListed layout rows desk.at GATE_TIMERS s.voice.instrument timer → timer < 0x40 → (k : Bool) →
    layout.holds LEGATO ≡ k → Idles layout (part HELD_NOTE 0 GATE_CLOSED.now) desk []
held_idles {s = s} h first timer listed low true kept =
    let sees = own_sees h INSTRUMENT refl in
    let is = own_is h INSTRUMENT s.voice.instrument refl (own_bytes h).instrument in
    let sees_timer = listed.reads in
    let is_timer = listed.is in
    let n = plain_timer timer low in
    record {
      ends = rw (first, sees, is, sees_timer, is_timer, kept, n) refl;
      stays = λ place. rw (first, sees, is, sees_timer, is_timer, kept, n) refl;
      x = rw (first, sees, is, sees_timer, is_timer, kept, n) refl;
      decimal = rw (first, sees, is, sees_timer, is_timer, kept, n) refl;
      kept_are = tt;
    }
held_idles {s = s} h first timer listed low false kept =
    let sees = own_sees h INSTRUMENT refl in
    let is = own_is h INSTRUMENT s.voice.instrument refl (own_bytes h).instrument in
    let sees_timer = listed.reads in
    record {
      ends = rw (first, sees, is, sees_timer, kept) refl;
      stays = λ place. rw (first, sees, is, sees_timer, kept) refl;
      x = rw (first, sees, is, sees_timer, kept) refl;
      decimal = rw (first, sees, is, sees_timer, kept) refl;
      kept_are = tt;
    }

held_plain : {layout : Layout} {rows voice : ℕ} {s : Playing} {desk : Desk} → HoldsVoice layout rows voice s desk →
    layout.holds FIRST_HOLDS ≡ true → (timer : ℕ) →
    IsListed layout rows desk.at GATE_TIMERS s.voice.instrument timer → timer < 0x40 → (k : Bool) →
    layout.holds LEGATO ≡ k → (ran each_one layout (part HELD_NOTE 0 GATE_CLOSED.now) desk).desk.cpu.c ≡ false
held_plain {s = s} h first timer listed low true kept =
    let sees = own_sees h INSTRUMENT refl in
    let is = own_is h INSTRUMENT s.voice.instrument refl (own_bytes h).instrument in
    let sees_timer = listed.reads in
    let is_timer = listed.is in
    let n = plain_timer timer low in
    let c : nat_le 128 timer ≡ false = lt-leb 128 timer (omega (arith, low)) in
    rw (first, sees, is, sees_timer, is_timer, kept, n, c) refl
held_plain {s = s} h first timer listed low false kept =
    let sees = own_sees h INSTRUMENT refl in
    let is = own_is h INSTRUMENT s.voice.instrument refl (own_bytes h).instrument in
    let sees_timer = listed.reads in
    let is_timer = listed.is in
    let c : nat_le 128 timer ≡ false = lt-leb 128 timer (omega (arith, low)) in
    rw (first, sees, is, sees_timer, is_timer, kept, c) refl

-- those that compare its number, which is below both, as far as they are kept
ordered_idles : {layout : Layout} {rows voice : ℕ} {s : Playing} {desk : Desk} → HoldsVoice layout rows voice s desk →
    IsBelowHolders layout rows desk.at s.voice.instrument → (g : Bool) → layout.holds LEGATO ≡ g → (e : Bool) →
    layout.holds NO_HARD_RESTART ≡ e → Idles layout (part HELD_NOTE 0 GATE_CLOSED.now) desk []
ordered_idles {s = s} h o true legato true soft =
    let first = o.ordered in
    let sees = own_sees h INSTRUMENT refl in
    let is = own_is h INSTRUMENT s.voice.instrument refl (own_bytes h).instrument in
    let gate = o.gate legato in
    let sees_gate = gate.stands.reads in
    let is_gate = gate.stands.is in
    let c = lt-leb gate.from s.voice.instrument gate.below in
    let sees_envelope = (o.envelope soft).stands.reads in
    record {
      ends = rw (first, sees, is, legato, soft, sees_gate, is_gate, c, sees_envelope) refl;
      stays = λ place. rw (first, sees, is, legato, soft, sees_gate, is_gate, c, sees_envelope) refl;
      x = rw (first, sees, is, legato, soft, sees_gate, is_gate, c, sees_envelope) refl;
      decimal = rw (first, sees, is, legato, soft, sees_gate, is_gate, c, sees_envelope) refl;
      kept_are = tt;
    }
ordered_idles {s = s} h o true legato false soft =
    let first = o.ordered in
    let sees = own_sees h INSTRUMENT refl in
    let is = own_is h INSTRUMENT s.voice.instrument refl (own_bytes h).instrument in
    let gate = o.gate legato in
    let sees_gate = gate.stands.reads in
    let is_gate = gate.stands.is in
    let c = lt-leb gate.from s.voice.instrument gate.below in
    record {
      ends = rw (first, sees, is, legato, soft, sees_gate, is_gate, c) refl;
      stays = λ place. rw (first, sees, is, legato, soft, sees_gate, is_gate, c) refl;
      x = rw (first, sees, is, legato, soft, sees_gate, is_gate, c) refl;
      decimal = rw (first, sees, is, legato, soft, sees_gate, is_gate, c) refl;
      kept_are = tt;
    }
ordered_idles h o false legato true soft =
    let first = o.ordered in
    let sees = own_sees h INSTRUMENT refl in
    let sees_envelope = (o.envelope soft).stands.reads in
    record {
      ends = rw (first, sees, legato, soft, sees_envelope) refl;
      stays = λ place. rw (first, sees, legato, soft, sees_envelope) refl;
      x = rw (first, sees, legato, soft, sees_envelope) refl;
      decimal = rw (first, sees, legato, soft, sees_envelope) refl;
      kept_are = tt;
    }
ordered_idles h o false legato false soft =
    let first = o.ordered in
    let sees = own_sees h INSTRUMENT refl in
    record {
      ends = rw (first, sees, legato, soft) refl;
      stays = λ place. rw (first, sees, legato, soft) refl;
      x = rw (first, sees, legato, soft) refl;
      decimal = rw (first, sees, legato, soft) refl;
      kept_are = tt;
    }

ordered_plain : {layout : Layout} {rows voice : ℕ} {s : Playing} {desk : Desk} → HoldsVoice layout rows voice s desk →
    IsBelowHolders layout rows desk.at s.voice.instrument →
    (layout.holds LEGATO ≡ true) ⊎ (layout.holds NO_HARD_RESTART ≡ true) → (g : Bool) → layout.holds LEGATO ≡ g →
    (e : Bool) → layout.holds NO_HARD_RESTART ≡ e →
    (ran each_one layout (part HELD_NOTE 0 GATE_CLOSED.now) desk).desk.cpu.c ≡ false
ordered_plain {s = s} h o one true legato true soft =
    let first = o.ordered in
    let sees = own_sees h INSTRUMENT refl in
    let is = own_is h INSTRUMENT s.voice.instrument refl (own_bytes h).instrument in
    let gate = o.gate legato in
    let sees_gate = gate.stands.reads in
    let is_gate = gate.stands.is in
    let c = lt-leb gate.from s.voice.instrument gate.below in
    let envelope = o.envelope soft in
    let sees_envelope = envelope.stands.reads in
    let is_envelope = envelope.stands.is in
    let z = lt-leb envelope.from s.voice.instrument envelope.below in
    rw (first, sees, is, legato, soft, sees_gate, is_gate, c, sees_envelope, is_envelope, z) refl
ordered_plain {s = s} h o one true legato false soft =
    let first = o.ordered in
    let sees = own_sees h INSTRUMENT refl in
    let is = own_is h INSTRUMENT s.voice.instrument refl (own_bytes h).instrument in
    let gate = o.gate legato in
    let sees_gate = gate.stands.reads in
    let is_gate = gate.stands.is in
    let c = lt-leb gate.from s.voice.instrument gate.below in
    rw (first, sees, is, legato, soft, sees_gate, is_gate, c) refl
ordered_plain {s = s} h o one false legato true soft =
    let first = o.ordered in
    let sees = own_sees h INSTRUMENT refl in
    let is = own_is h INSTRUMENT s.voice.instrument refl (own_bytes h).instrument in
    let envelope = o.envelope soft in
    let sees_envelope = envelope.stands.reads in
    let is_envelope = envelope.stands.is in
    let z = lt-leb envelope.from s.voice.instrument envelope.below in
    rw (first, sees, is, legato, soft, sees_envelope, is_envelope, z) refl
ordered_plain h o (inl gate) false legato false soft = absurd (true≢false (sym gate ∙ legato))
ordered_plain h o (inr envelope) false legato false soft = absurd (true≢false (sym envelope ∙ soft))

-- a number that A is below, compared
gate_below : {layout : Layout} {rows : ℕ} {desk : Desk} → IsBelow layout rows desk.at GATE_FROM desk.cpu.a →
    Idles layout (part LEGATO 1 GATE_CLOSED.now) desk (A ∷ Y ∷ [])
gate_below {desk = desk} below =
    let sees = below.stands.reads in
    let is = below.stands.is in
    let c = lt-leb below.from desk.cpu.a below.below in
    record {
      ends = rw (sees, is, c) refl;
      stays = λ place. rw (sees, is, c) refl;
      x = rw (sees, is, c) refl;
      decimal = rw (sees, is, c) refl;
      kept_are = rw (sees, is, c) (refl, (refl, tt));
    }

gate_plain : {layout : Layout} {rows : ℕ} (desk : Desk) → IsBelow layout rows desk.at GATE_FROM desk.cpu.a →
    (ran each_one layout (part LEGATO 1 GATE_CLOSED.now) desk).desk.cpu.c ≡ false
gate_plain desk below =
    let sees = below.stands.reads in
    let is = below.stands.is in
    let c = lt-leb below.from desk.cpu.a below.below in
    rw (sees, is, c) refl

envelope_below : {layout : Layout} {rows : ℕ} {desk : Desk} → IsBelow layout rows desk.at ENVELOPE_FROM desk.cpu.a →
    Idles layout (part NO_HARD_RESTART 0 GATE_CLOSED.now) desk (A ∷ Y ∷ [])
envelope_below {desk = desk} below =
    let sees = below.stands.reads in
    record {
      ends = rw sees refl;
      stays = λ place. rw sees refl;
      x = rw sees refl;
      decimal = rw sees refl;
      kept_are = rw sees (refl, (refl, tt));
    }

envelope_plain : {layout : Layout} {rows : ℕ} (desk : Desk) → IsBelow layout rows desk.at ENVELOPE_FROM desk.cpu.a →
    (ran each_one layout (part NO_HARD_RESTART 0 GATE_CLOSED.now) desk).desk.cpu.c ≡ false
envelope_plain desk below =
    let sees = below.stands.reads in
    let is = below.stands.is in
    let c = lt-leb below.from desk.cpu.a below.below in
    rw (sees, is, c) refl

-- a byte is written where it stands
put_same : (at : ℕ → ℕ) (here byte place : ℕ) → at here ≡ byte →
    (if nat_eq place here then byte else at place) ≡ at place
put_same at here byte place is = elim (eqb_tells place here) [
  | inl same ↦ rw (same.0, same.1) (sym is)
  | inr other ↦ rw other.0 refl
]

-- a delay of none, where none is left
delay_idles : {layout : Layout} {rows voice : ℕ} {s : Playing} {desk : Desk} → HoldsVoice layout rows voice s desk →
    layout.holds INSTRUMENT_VIBRATO ≡ true → IsListed layout rows desk.at DELAYS desk.cpu.y 255 →
    s.voice.vib_delay ≡ 0 →
    Idles layout (part VIBRATO_DELAY 0 NOTE_TAKEN.now) desk (Y ∷ [])
delay_idles {layout} {s = s} {desk} h kept listed none =
    let sees = listed.reads in
    let is = listed.is in
    let writes = own_writes h VIB_DELAY refl in
    let its = own_is h VIB_DELAY 255 refl ((own_bytes h).vib_delay kept ∙ ap (λ n. (n + 255) % 256) none) in
    let here : ℕ = (layout.address VIB_DELAY + desk.cpu.x) % 65536 in
    record {
      ends = rw (sees, is, writes) refl;
      stays = λ place. rw (sees, is, writes) (put_same desk.at here 255 place its);
      x = rw (sees, is, writes) refl;
      decimal = rw (sees, is, writes) refl;
      kept_are = rw (sees, is, writes) (refl, tt);
    }

pub facts_idle : {layout : Layout} {rows voice : ℕ} {s : Playing} {desk : Desk} →
    HoldsVoice layout rows voice s desk → FactsIdle layout rows voice s desk
facts_idle {layout} {rows} {voice} {s} {desk} h = record {
  tone = λ row small other. (
      let sees = own_sees h NEW_COMMAND refl in
      let is = own_is h NEW_COMMAND s.voice.new_command refl ((own_bytes h).new_command row) in
      let z = other_turned s.voice.new_command small other in
      record {
        ends = rw (sees, is, z) refl;
        stays = λ place. rw (sees, is, z) refl;
        x = rw (sees, is, z) refl;
        decimal = rw (sees, is, z) refl;
        kept_are = rw (sees, is, z) (refl, tt);
      });
  tone_next = λ row small other. (
      let sees = own_sees h NEW_COMMAND refl in
      let is = own_is h NEW_COMMAND s.voice.new_command refl ((own_bytes h).new_command row) in
      let z = other_compared s.voice.new_command small other in
      record {
        ends = rw (sees, is, z) refl;
        stays = λ place. rw (sees, is, z) refl;
        x = rw (sees, is, z) refl;
        decimal = rw (sees, is, z) refl;
        kept_are = rw (sees, is, z) (refl, tt);
      });
  once = λ low. (
      let c : nat_le 5 desk.cpu.a ≡ false = lt-leb 5 desk.cpu.a low in
      record {
        ends = rw c refl;
        stays = λ place. rw c refl;
        x = rw c refl;
        decimal = rw c refl;
        kept_are = rw c (refl, (refl, tt));
      });
  mask = λ some low. (
      let c : nat_le 0xFE desk.cpu.a ≡ false = lt-leb 0xFE desk.cpu.a low in
      record {
        ends = rw (some, c) refl;
        stays = λ place. rw (some, c) refl;
        x = rw (some, c) refl;
        decimal = rw (some, c) refl;
        kept_are = rw (some, c) (refl, (refl, tt));
      });
  delay = delay_idles h;
  vibrato = λ listed zero. (
      let sees = listed.reads in
      let is = listed.is in
      record {
        ends = rw sees refl;
        stays = λ place. rw sees refl;
        x = rw sees refl;
        decimal = rw sees refl;
        kept_are = rw (sees, is) (sym zero, (refl, tt));
      });
  row_vibrato = λ listed zero. (
      let sees = listed.reads in
      let is = listed.is in
      record {
        ends = rw sees refl;
        stays = λ place. rw sees refl;
        x = rw sees refl;
        decimal = rw sees refl;
        kept_are = rw (sees, is) (sym zero, (refl, tt));
      });
  pulse = λ listed. (
      let sees = listed.reads in
      let is = listed.is in
      record {
        ends = rw (sees, is) refl;
        stays = λ place. rw (sees, is) refl;
        x = rw (sees, is) refl;
        decimal = rw (sees, is) refl;
        kept_are = rw (sees, is) (refl, tt);
      });
  filter = λ listed. (
      let sees = listed.reads in
      let is = listed.is in
      record {
        ends = rw (sees, is) refl;
        stays = λ place. rw (sees, is) refl;
        x = rw (sees, is) refl;
        decimal = rw (sees, is) refl;
        kept_are = rw (sees, is) (refl, tt);
      });
  held = λ first timer listed low. held_idles h first timer listed low (layout.holds LEGATO) refl;
  held_carry = λ first timer listed low. held_plain h first timer listed low (layout.holds LEGATO) refl;
  ordered = λ below. ordered_idles h below _ refl _ refl;
  ordered_carry = λ below one. ordered_plain h below one _ refl _ refl;
  gate_from = gate_below;
  gate_carry = gate_plain _;
  envelope_from = envelope_below;
  envelope_carry = envelope_plain _;
  legato = λ plus. record {
    ends = rw plus refl;
    stays = λ place. rw plus refl;
    x = rw plus refl;
    decimal = rw plus refl;
    kept_are = rw plus (refl, (refl, (refl, tt)));
  };
  no_hard_restart = λ off. record {
    ends = rw off refl;
    stays = λ place. rw off refl;
    x = rw off refl;
    decimal = rw off refl;
    kept_are = rw off (refl, (refl, (refl, tt)));
  };
  special = λ low. (
      let c : nat_le 0xE0 desk.cpu.a ≡ false = lt-leb 0xE0 desk.cpu.a low in
      record {
        ends = rw c refl;
        stays = λ place. rw c refl;
        x = rw c refl;
        decimal = rw c refl;
        kept_are = rw c (refl, (refl, tt));
      });
  gate = λ high on. (
      let c : nat_le 0xC0 desk.cpu.a ≡ true = le-leb 0xC0 desk.cpu.a high in
      record {
        ends = rw c refl;
        stays = λ place. rw c refl;
        x = rw c refl;
        decimal = rw c refl;
        kept_are = rw c (refl, (refl, (sym on, tt)));
      });
}

-- a command of the wave table is stored as it is
stored_command : (left : ℕ) → 0xF0 ≤ left → stored_left left ≡ left
stored_command left high =
    let many = le-ltb left 0x10 (omega (arith, high)) in
    let special : nat_le 0xE0 left ≡ true = le-leb 0xE0 left (omega (arith, high)) in
    let over : nat_le left 0xEF ≡ false = lt-leb left 0xEF high in
    rw (many, special, over) refl

pub rows_leave : {layout : Layout} {rows voice : ℕ} {s : Playing} {desk : Desk} →
    HoldsVoice layout rows voice s desk → RowsLeave layout rows voice s desk
rows_leave {layout} {rows} {voice} {s} {desk} h = record {
  bare = λ row none. (
      let sees = own_sees h NEW_COMMAND refl in
      let is = own_is h NEW_COMMAND 0 refl ((own_bytes h).new_command row ∙ none) in
      rw (sees, is) refl);
  none = λ row none. (
      let sees = own_sees h NEW_COMMAND refl in
      let is = own_is h NEW_COMMAND 0 refl ((own_bytes h).new_command row ∙ none) in
      rw (sees, is) refl);
  once = λ row kept high. (
      let sees = own_sees h NEW_COMMAND refl in
      let is = own_is h NEW_COMMAND s.voice.new_command refl ((own_bytes h).new_command row) in
      let z = ne_eqb s.voice.new_command 0 (λ e. absurd (omega (arith, high, e))) in
      let c : nat_le 5 s.voice.new_command ≡ true = le-leb 5 s.voice.new_command high in
      rw (sees, is, z, kept, c) refl);
  waveform = λ left some listed low. (
      let sees = own_sees h WAVE_POINTER refl in
      let is = own_is h WAVE_POINTER s.voice.wave_ptr refl (own_bytes h).wave_pointer in
      let z = ne_eqb s.voice.wave_ptr 0 some in
      let sees_left = listed.reads in
      let is_left = listed.is in
      let c : nat_le 0xE0 left ≡ false = lt-leb 0xE0 left low in
      rw (sees, is, z, sees_left, is_left, c) refl);
  command = λ kept left some listed high. (
      let sees = own_sees h WAVE_POINTER refl in
      let is = own_is h WAVE_POINTER s.voice.wave_ptr refl (own_bytes h).wave_pointer in
      let z = ne_eqb s.voice.wave_ptr 0 some in
      let sees_left = listed.reads in
      let is_left = listed.is ∙ stored_command left high in
      let special : nat_le 0xE0 left ≡ true = le-leb 0xE0 left (omega (arith, high)) in
      let c : nat_le 0xF0 left ≡ true = le-leb 0xF0 left high in
      rw (sees, is, z, sees_left, is_left, special, kept, c) refl);
}

-- the lines of COMMAND_BEGUN, by those in front of the parameter, which settle it in A
abbrev row_of : Tree → Tree
row_of first =
    ThenTree
    (ScopeTree ONCE
    (ThenTree first
    (ThenTree (WhenTree EFFECTS (ThenTree (WithTree Sta (Own PARAM)) NoneTree))
    (ThenTree (WhenTree ROW_ONCE (ThenTree (LeaveTree DONE) NoneTree)) NoneTree))))
    NoneTree

abbrev first_of : Tree → Tree
first_of (ThenTree (ScopeTree name (ThenTree first rest)) other) = first
first_of tree = NeverTree

abbrev settled : Tree
settled = first_of (tree_of COMMAND_BEGUN.now)

-- lines come to their own end, and leave X
record Settles (layout : Layout) (first : Tree) (desk : Desk) : Type 0 where
  ends : (ran each_one layout first desk).outcome ≡ Done
  x : (ran each_one layout first desk).desk.cpu.x ≡ desk.cpu.x

-- where they do, the block leaves behind them, whether the parameter is kept
row_ends : (layout : Layout) (first : Tree) (desk : Desk) → Settles layout first desk → layout.holds ROW_ONCE ≡ true →
    layout.may_write ((layout.address PARAM + desk.cpu.x) % 65536) ≡ true → (k : Bool) → layout.holds EFFECTS ≡ k →
    (ran each_one layout (row_of first) desk).outcome ≡ Left DONE
row_ends layout first desk s once writes true kept =
    let ends = s.ends in
    let x = s.x in
    rw (ends, kept, x, writes, once) refl
row_ends layout first desk s once writes false kept =
    let ends = s.ends in
    rw (ends, kept, once) refl

-- a row without a command, whether the lines that tell one are kept, and those that begin what it has instead, and
-- those that read a vibrato
bare_settles : {layout : Layout} {rows voice : ℕ} {s : Playing} {desk : Desk} → HoldsVoice layout rows voice s desk →
    s.voice.new_command ≡ 0 → layout.may_read ((layout.address VIBRATOS + desk.cpu.y) % 65536) ≡ true → (k : Bool) →
    layout.holds ROW_COMMAND ≡ k → (e : Bool) → layout.holds EFFECTS ≡ e → (v : Bool) → layout.holds NOTE_VIBRATO ≡ v →
    Settles layout settled desk
bare_settles h none vibrato true told true kept true reads =
    let sees = own_sees h NEW_COMMAND refl in
    let is = own_is h NEW_COMMAND 0 refl ((own_bytes h).new_command told ∙ none) in
    let command = own_writes h COMMAND refl in
    record {
      ends = rw (told, sees, is, kept, command, reads, vibrato) refl;
      x = rw (told, sees, is, kept, command, reads, vibrato) refl;
    }
bare_settles h none vibrato true told true kept false reads =
    let sees = own_sees h NEW_COMMAND refl in
    let is = own_is h NEW_COMMAND 0 refl ((own_bytes h).new_command told ∙ none) in
    let command = own_writes h COMMAND refl in
    record { ends = rw (told, sees, is, kept, command, reads) refl; x = rw (told, sees, is, kept, command, reads) refl }
bare_settles h none vibrato true told false kept v reads =
    let sees = own_sees h NEW_COMMAND refl in
    let is = own_is h NEW_COMMAND 0 refl ((own_bytes h).new_command told ∙ none) in
    record { ends = rw (told, sees, is, kept) refl; x = rw (told, sees, is, kept) refl }
bare_settles h none vibrato false told true kept true reads =
    let command = own_writes h COMMAND refl in
    record { ends = rw (told, kept, command, reads, vibrato) refl; x = rw (told, kept, command, reads, vibrato) refl }
bare_settles h none vibrato false told true kept false reads =
    let command = own_writes h COMMAND refl in
    record { ends = rw (told, kept, command, reads) refl; x = rw (told, kept, command, reads) refl }
bare_settles h none vibrato false told false kept v reads =
    record { ends = rw (told, kept) refl; x = rw (told, kept) refl }

-- the lines in front of the parameter, by those of a command that runs, and those behind them
abbrev settling : Tree → Tree → Tree
settling slide rest =
    ScopeTree SETTLED
    (ThenTree
    (ScopeTree BARE
    (ThenTree
    (ChooseTree ROW_COMMAND
    (ThenTree (WithTree Lda (Own NEW_COMMAND))
    (ThenTree (LeaveIfTree BARE (On Zero))
    (ThenTree
    (WhenTree ROW_ONCE
    (ThenTree (WithTree Cmp (Number 5)) (ThenTree (LeaveIfTree ONCE (On CarryFlag)) NoneTree)))
    (ThenTree (WhenTree ROW_SLIDE slide) NoneTree))))
    (ThenTree (WhenTree EFFECTS (ThenTree (WithTree Lda (Number 0)) NoneTree)) NoneTree))
    NoneTree))
    rest)

-- the desk where they are come to
abbrev row_told : Layout → Desk → Desk
row_told layout desk =
    (ran each_one layout
    (ThenTree (WithTree Lda (Own NEW_COMMAND)) (ThenTree (WithTree Cmp (Number 5)) NoneTree)) desk).desk

-- lines leave for the parameter, and leave X
record Slides (layout : Layout) (slide : Tree) (desk : Desk) : Type 0 where
  goes : (ran each_one layout slide desk).outcome ≡ Left SETTLED
  x : (ran each_one layout slide desk).desk.cpu.x ≡ desk.cpu.x

-- those of a command that runs do, whether a vibrato's time is kept, from 3 up or not
row_slides : (layout : Layout) (desk : Desk) →
    layout.may_write ((layout.address COMMAND + desk.cpu.x) % 65536) ≡ true →
    layout.may_write ((layout.address VIB_TIME + desk.cpu.x) % 65536) ≡ true →
    layout.may_read ((layout.address NEW_PARAM + desk.cpu.x) % 65536) ≡ true → (w : Bool) → layout.holds SWINGS ≡ w →
    (k : Bool) → nat_le 3 desk.cpu.a ≡ k → Slides layout (part ROW_SLIDE 0 COMMAND_BEGUN.now) desk
row_slides layout desk command time param false swings k three =
    record { goes = rw (command, swings, param) refl; x = rw (command, swings, param) refl }
row_slides layout desk command time param true swings true three =
    record { goes = rw (command, swings, three, param) refl; x = rw (command, swings, three, param) refl }
row_slides layout desk command time param true swings false three =
    record { goes = rw (command, swings, three, time, param) refl; x = rw (command, swings, three, time, param) refl }

-- what a command from 1 to 4 finds kept
record RunningKept (layout : Layout) (command : ℕ) : Type 0 where
  once : layout.holds ROW_ONCE ≡ true
  told : layout.holds ROW_COMMAND ≡ true
  slide : layout.holds ROW_SLIDE ≡ true
  some : nat_eq command 0 ≡ false
  low : nat_le 5 command ≡ false

running_settles : {rest : Tree} (layout : Layout) (slide : Tree) (desk : Desk) (command : ℕ) →
    layout.may_read ((layout.address NEW_COMMAND + desk.cpu.x) % 65536) ≡ true →
    desk.at ((layout.address NEW_COMMAND + desk.cpu.x) % 65536) ≡ command → RunningKept layout command →
    Slides layout slide (row_told layout desk) → Settles layout (settling slide rest) desk
running_settles layout slide desk command sees is c s =
    let some = c.some in
    let low = c.low in
    let goes = rw (row_told, sees, is, low) at s.goes in
    let x = rw (row_told, sees, is, low) at s.x in
    record {
      ends = rw (c.told, sees, is, some, c.once, low, c.slide, goes) refl;
      x = rw (c.told, sees, is, some, c.once, low, c.slide, goes) x;
    }

running_ends : {layout : Layout} {rows voice : ℕ} {s : Playing} {desk : Desk} → HoldsVoice layout rows voice s desk →
    RunningKept layout s.voice.new_command → Settles layout settled desk
running_ends {layout} {s = s} {desk} h c =
    let sees = own_sees h NEW_COMMAND refl in
    let is = own_is h NEW_COMMAND s.voice.new_command refl ((own_bytes h).new_command c.told) in
    let told = row_told layout desk in
    let command : layout.may_write ((layout.address COMMAND + told.cpu.x) % 65536) ≡ true =
    rw (row_told, sees) (own_writes h COMMAND refl) in
    let time : layout.may_write ((layout.address VIB_TIME + told.cpu.x) % 65536) ≡ true =
    rw (row_told, sees) (own_writes h VIB_TIME refl) in
    let param : layout.may_read ((layout.address NEW_PARAM + told.cpu.x) % 65536) ≡ true =
    rw (row_told, sees) (own_sees h NEW_PARAM refl) in
    running_settles layout (part ROW_SLIDE 0 COMMAND_BEGUN.now) desk s.voice.new_command sees is c
    (row_slides layout (row_told layout desk) command time param _ refl _ refl)

pub rows_end : {layout : Layout} {rows voice : ℕ} {s : Playing} {desk : Desk} →
    HoldsVoice layout rows voice s desk → RowsEnd layout rows voice s desk
rows_end {layout} {s = s} {desk} h = record {
  bare = λ once none vibrato listed.
      row_ends layout settled desk (bare_settles h none listed.reads _ refl _ refl _ refl) once
      (own_writes h PARAM refl) _ refl;
  running = λ once told slide some low. row_ends layout settled desk (running_ends h (record {
    once = once;
    told = told;
    slide = slide;
    some = ne_eqb s.voice.new_command 0 (λ e. absurd (omega (arith, some, e)));
    low = lt-leb 5 s.voice.new_command low;
  })) once (own_writes h PARAM refl) _ refl;
}
