-- The gate before a note: an instrument may leave it as it is, or the envelope.
use Rattle.std.proofs.Common.{◌≡◌, ◌≢◌, ℕ, ℤ, ◌+◌, ◌*◌, ◌%◌, ◌<◌, ◌≤◌, ◌↔◌, Bool, true, false, not, nat_eq, nat_le}
use Rattle.std.proofs.Common.{bit_and, if◌then◌else◌, List, refl, sym, ap, ◌∙◌, subst, arith}
use Rattle.std.proofs.lemmas.Bool.{both_ways, eq-eqb, ne_eqb, eqb-true, eqb-false, cond_both, agree_below_at, le-leb}
use Rattle.std.proofs.lemmas.Bool.{lt-leb}
use Rattle.std.proofs.lemmas.Bool.{true≢false, true_from_ne_false, false_from_ne_true}
use Rattle.song_facts.specs.declared.hold.Hold.{Hold}
use Rattle.song_facts.specs.declared.hold.Hold.TheVariants.{Nothing, Envelope, Gate}
use Rattle.song_facts.specs.Hold.{held_by, hold_of, how_much}
use Rattle.song_facts.specs.Facts.{IsLegato, KeepsEnvelope}
use Rattle.play_model.specs.LookUps.{LookUps}
use Rattle.play_model.specs.State.{Voice, Playing}
use Rattle.play_model.specs.TickStep.{tempo_of}
use Rattle.play_model.specs.FetchRow.{gate_keyed, gate_shut, is_note, note_waits, transposed}
use Rattle.packed_form.specs.declared.entries.Entry.{Entry}
use Rattle.scopes.specs.Trees.{Tree, WhenTree, ChooseTree, NeverTree}
use Rattle.player_memory.specs.declared.conditions.TheConstants.{ROW_TONE, LEGATO, NO_HARD_RESTART, HELD_NOTE}
use Rattle.player_memory.specs.declared.conditions.TheConstants.{FIRST_HOLDS}
use Rattle.player_memory.specs.declared.labels.TheConstants.{REST, OFFSET, INSTRUMENT, NEW_COMMAND, GATE_TIMERS}
use Rattle.player_memory.specs.declared.labels.TheConstants.{GATE_FROM, ENVELOPE_FROM}
use Rattle.player_memory.specs.FactLines.{KeepsShared}
use Rattle.player_desk.proofs.Laws.{VoiceDesk, Reader, Ways, Fields, Leads, Reads, place_at, listed, alone, loaded}
use Rattle.player_desk.proofs.Laws.{done_as, in_scope, body_of, compared_is, over_is}
use Rattle.player_text.specs.declared.fetch.TheConstants.{HELD}
use Rattle.entry_code.proofs.Takes.{take_tree, SamePlay, Taking, takes}
use Rattle.entry_code.proofs.LastBytes.{noted, first_of, behind}
use Rattle.entry_code.proofs.Readings.{compared}
use Rattle.entry_code.proofs.Ends.{AtNext, NextOffset}

-- ---- what is read

-- the number is found from which on instruments hold so much before a note, or more
pub record HoldersAt (r : Reader) (label : ℕ) (look : LookUps) (hold : Hold) (instrument : ℕ) : Type 0 where
  pub from : ℕ
  pub reads : Reads r (r.layout.address label) from
  pub tells : (from ≤ instrument) ↔ (how_much hold ≤ how_much (hold_of (look.instrument instrument)))

-- the gateoff timer of an instrument is found, or the numbers from which on instruments hold the gate and the envelope,
-- where the lines are kept that read them
pub record TimerAt (r : Reader) (look : LookUps) (instrument : ℕ) : Type 0 where
  pub reads : r.layout.holds FIRST_HOLDS ≡ true →
      Reads r (place_at r GATE_TIMERS instrument) (look.instrument instrument).gate_timer
  pub gates : r.layout.holds FIRST_HOLDS ≡ false → r.layout.holds LEGATO ≡ true →
      HoldersAt r GATE_FROM look Gate instrument
  pub envelopes : r.layout.holds FIRST_HOLDS ≡ false → r.layout.holds NO_HARD_RESTART ≡ true →
      HoldersAt r ENVELOPE_FROM look Envelope instrument
  pub byte : (look.instrument instrument).gate_timer < 256

-- the lines are kept that a voice with this command and this instrument asks for before a note
pub record KeepsGate (r : Reader) (look : LookUps) (v : Voice) : Type 0 where
  pub tone : v.new_command ≡ 3 → r.layout.holds ROW_TONE ≡ true
  pub legato : IsLegato (look.instrument v.instrument) → r.layout.holds LEGATO ≡ true
  pub soft : KeepsEnvelope (look.instrument v.instrument) → r.layout.holds NO_HARD_RESTART ≡ true
  pub shared : KeepsShared r.layout

-- ---- bits

-- bit $40 of a gateoff timer, and bit $80
bit_six : (t : ℕ) → t < 256 → nat_eq (bit_and t 0x40) 0 ≡ not (nat_le 128 (2 * t % 256))
bit_six t l =
    agree_below_at (λ n. nat_eq (bit_and n 0x40) 0) (λ n. not (nat_le 128 (2 * n % 256))) 256 t refl l

bit_seven : (t : ℕ) → t < 256 → nat_eq (bit_and t 0x80) 0 ≡ not (nat_le 128 t)
bit_seven t l = agree_below_at (λ n. nat_eq (bit_and n 0x80) 0) (λ n. not (nat_le 128 n)) 256 t refl l

-- what an instrument holds, by these bits
held_most : (t : ℕ) → nat_eq (bit_and t 0x40) 0 ≡ true → how_much (held_by t) ≤ 1
held_most t six = rw six (by_bit (nat_eq (bit_and t 0x80) 0))
  where
    by_bit : (z : Bool) → how_much (if z then Nothing else Envelope) ≤ 1
    by_bit true = omega arith
    by_bit false = omega arith

held_gate : (t : ℕ) → nat_eq (bit_and t 0x40) 0 ≡ false → how_much (held_by t) ≡ 2
held_gate t six = rw six refl

held_none : (t : ℕ) → nat_eq (bit_and t 0x40) 0 ≡ true → nat_eq (bit_and t 0x80) 0 ≡ true → how_much (held_by t) ≡ 0
held_none t six seven = rw (six, seven) refl

held_envelope : (t : ℕ) → nat_eq (bit_and t 0x40) 0 ≡ true → nat_eq (bit_and t 0x80) 0 ≡ false →
    how_much (held_by t) ≡ 1
held_envelope t six seven = rw (six, seven) refl

-- so a comparison with the number from which on instruments hold the gate tells bit $40
six_told : (t from number b a : ℕ) → (from ≤ number) ↔ (2 ≤ how_much (held_by t)) → b ≡ from → a ≡ number →
    nat_eq (bit_and t 0x40) 0 ≡ not (nat_le b a)
six_told t from number b a tells is at = by_bit (nat_eq (bit_and t 0x40) 0) refl
  where
    by_bit : (z : Bool) → nat_eq (bit_and t 0x40) 0 ≡ z → z ≡ not (nat_le b a)
    by_bit true six =
        let most = held_most t six in
        let less : a < b = grind (arith, is, at, most, tells) in
        let e = lt-leb b a less in
        rw e refl
    by_bit false six =
        let all = held_gate t six in
        let low = tells.1 (omega arith) in
        let e = le-leb b a (omega arith) in
        rw e refl

-- and one with that of the envelope bit $80, where bit $40 is off
seven_told : (t from number b a : ℕ) → (from ≤ number) ↔ (1 ≤ how_much (held_by t)) → b ≡ from → a ≡ number →
    nat_eq (bit_and t 0x40) 0 ≡ true → nat_eq (bit_and t 0x80) 0 ≡ not (nat_le b a)
seven_told t from number b a tells is at six = by_bit (nat_eq (bit_and t 0x80) 0) refl
  where
    by_bit : (z : Bool) → nat_eq (bit_and t 0x80) 0 ≡ z → z ≡ not (nat_le b a)
    by_bit true seven =
        let none = held_none t six seven in
        let less : a < b = grind (arith, is, at, none, tells) in
        let e = lt-leb b a less in
        rw e refl
    by_bit false seven =
        let one = held_envelope t six seven in
        let low = tells.1 (omega arith) in
        let e = le-leb b a (omega arith) in
        rw e refl

no_bit : (x : ℕ) → (x ≢ 0 → ⊥) → nat_eq x 0 ≡ true
no_bit x none = true_from_ne_false (nat_eq x 0) (λ e. none (eqb-false x 0 e))

-- where the lines for it aren't kept, the instrument doesn't leave the gate as it is, nor the envelope
no_legato : (r : Reader) (look : LookUps) (v : Voice) → KeepsGate r look v → r.layout.holds LEGATO ≡ false →
    nat_eq (bit_and (look.instrument v.instrument).gate_timer 0x40) 0 ≡ true
no_legato r look v keeps out =
    no_bit (bit_and (look.instrument v.instrument).gate_timer 0x40)
    (λ some. both_ways (r.layout.holds LEGATO) out (keeps.legato some))

no_soft : (r : Reader) (look : LookUps) (v : Voice) → KeepsGate r look v →
    nat_eq (bit_and (look.instrument v.instrument).gate_timer 0x40) 0 ≡ true → r.layout.holds NO_HARD_RESTART ≡ false →
    nat_eq (bit_and (look.instrument v.instrument).gate_timer 0x80) 0 ≡ true
no_soft r look v keeps six out =
    let goes : bit_and (look.instrument v.instrument).gate_timer 0x40 ≡ 0 = eqb-true _ 0 six in
    no_bit (bit_and (look.instrument v.instrument).gate_timer 0x80)
    (λ some. both_ways (r.layout.holds NO_HARD_RESTART) out (keeps.soft (goes, some)))

-- the timer is read where one of the two is kept
not_held : (r : Reader) (condition : ℕ) → (r.layout.holds condition ≡ true → r.layout.holds HELD_NOTE ≡ true) →
    r.layout.holds HELD_NOTE ≡ false → r.layout.holds condition ≡ false
not_held r condition held out =
    false_from_ne_true (r.layout.holds condition) (λ on. both_ways (r.layout.holds HELD_NOTE) out (held on))

-- ---- the rule

shut_kept : (t : ℕ) (w : Voice) → nat_eq w.new_command 3 ≡ true → gate_shut t w ≡ w
shut_kept t w tie = rw tie refl

shut_held : (t : ℕ) (w : Voice) → nat_eq w.new_command 3 ≡ false → nat_eq (bit_and t 0x40) 0 ≡ false →
    gate_shut t w ≡ w
shut_held t w tie six = rw (tie, six) refl

shut_whole : (t : ℕ) (w : Voice) → nat_eq w.new_command 3 ≡ false → nat_eq (bit_and t 0x40) 0 ≡ true →
    nat_eq (bit_and t 0x80) 0 ≡ true → gate_shut t w ≡ record w { gate = 0xFE; ad = 0x0F; sr = 0 }
shut_whole t w tie six seven = rw (tie, six, seven) refl

shut_gate : (t : ℕ) (w : Voice) → nat_eq w.new_command 3 ≡ false → nat_eq (bit_and t 0x40) 0 ≡ true →
    nat_eq (bit_and t 0x80) 0 ≡ false → gate_shut t w ≡ record w { gate = 0xFE }
shut_gate t w tie six seven = rw (tie, six, seven) refl

-- a mask changes nothing else
keyed_keeps : (f : Voice → ℕ) (note : ℕ) (v : Voice) → f (record v { gate = 0xFE }) ≡ f v →
    f (record v { gate = 0xFF }) ≡ f v → f (gate_keyed note v) ≡ f v
keyed_keeps f note v one two =
    cond_both (nat_eq note 0xBE) (record v { gate = 0xFE }) (if nat_eq note 0xBF then record v { gate = 0xFF } else v)
    (λ w. f w ≡ f v) (λ z. one)
    (λ z. cond_both (nat_eq note 0xBF) (record v { gate = 0xFF }) v (λ w. f w ≡ f v) (λ z. two) (λ z. refl))

-- ---- desks

-- this voice stands, and these entries are left
pub record AtRow (r : Reader) (s : Playing) (d : VoiceDesk) (place : ℕ) (bytes : List ℕ) (entries : List Entry)
    (u : Voice) (rest : ℕ) (m : VoiceDesk) : Type 0 where
  pub taking : Taking r s d place u rest m
  pub next : NextOffset bytes entries (m.own OFFSET)

-- the own bytes alone have changed, and not the offset
row_on : (r : Reader) (s : Playing) (d : VoiceDesk) (place : ℕ) (bytes : List ℕ) (entries : List Entry)
    (w u x : Voice) (rest : ℕ) (m n : VoiceDesk) → n.shared ≡ m.shared → n.sid ≡ m.sid → n.low ≡ m.low →
    n.high ≡ m.high → n.own OFFSET ≡ m.own OFFSET → x ≡ u →
    Fields r.layout.holds u (tempo_of (r.voice + 1) s.common) n.own → n.own REST ≡ rest → SamePlay n.own d.own →
    AtRow r s d place bytes entries w rest m → AtRow r s d place bytes entries x rest n
row_on r s d place bytes entries w u x rest m n shared sid low high offset is fields rest_is play at = record {
  taking = subst (λ v. Taking r s d place v rest n) (sym is)
      (takes r s d place w u rest rest m n shared sid low high fields rest_is play at.taking);
  next = subst (NextOffset bytes entries) (sym offset) at.next;
}

-- the row is done
abbrev pub AtHeld : Reader → LookUps → Playing → VoiceDesk → ℕ → List ℕ → List Entry → ℤ → Voice → ℕ → ℕ →
    VoiceDesk → Type 0
AtHeld r look s d place bytes entries transpose v note rest =
    AtRow r s d place bytes entries (note_waits look note transpose (gate_keyed note v)) rest

-- ---- the gate goes off

-- behind the instrument's bits
abbrev shut_tree : Tree
shut_tree = behind (behind (behind (body_of HELD take_tree)))

shut_leads : (r : Reader) (s : Playing) (d : VoiceDesk) (place : ℕ) (bytes : List ℕ) (entries : List Entry)
    (t : ℕ) (w x : Voice) (rest : ℕ) (ways : Ways) (m : VoiceDesk) → x ≡ gate_shut t w →
    nat_eq w.new_command 3 ≡ false → nat_eq (bit_and t 0x40) 0 ≡ true →
    (r.layout.holds NO_HARD_RESTART ≡ true → nat_eq (bit_and t 0x80) 0 ≡ not m.c) →
    (r.layout.holds NO_HARD_RESTART ≡ false → nat_eq (bit_and t 0x80) 0 ≡ true) →
    AtRow r s d place bytes entries w rest m →
    Leads r shut_tree (in_scope HELD (done_as (AtRow r s d place bytes entries x rest) ways)) m
shut_leads r s d place bytes entries t w x rest ways m is tie six soft whole at =
    let fields = at.taking.fields in (
      λ kept. (
        λ stays.
            row_on r s d place bytes entries w (record w { gate = 0xFE }) x rest m _ refl refl refl refl refl
            (is ∙ shut_gate t w tie six (soft kept ∙ ap not stays)) (assumption fields) at.taking.rest_is
            (assumption at.taking.play) at,
        λ restarts.
            row_on r s d place bytes entries w (record w { gate = 0xFE; ad = 0x0F; sr = 0 }) x rest m _ refl refl refl
            refl refl (is ∙ shut_whole t w tie six (soft kept ∙ ap not restarts)) (assumption fields)
            at.taking.rest_is (assumption at.taking.play) at,
      ),
      λ out.
          row_on r s d place bytes entries w (record w { gate = 0xFE; ad = 0x0F; sr = 0 }) x rest m _ refl refl refl
          refl refl (is ∙ shut_whole t w tie six (whole out)) (assumption fields) at.taking.rest_is
          (assumption at.taking.play) at,
    )

-- ---- the timer's bits

-- behind the command
abbrev timer_tree : Tree
timer_tree = behind (behind (body_of HELD take_tree))

-- the lines under a condition, and those in place of others
abbrev under : Tree → Tree
under (WhenTree condition body) = body
under tree = NeverTree

abbrev in_place : Tree → Tree
in_place (ChooseTree condition this other) = other
in_place tree = NeverTree

-- where the instruments are in order: behind the comparison for the gate, and behind what that decides
abbrev ordered_tree : Tree
ordered_tree = in_place (first_of (under (first_of timer_tree)))

abbrev gate_tree : Tree
gate_tree = behind (under (first_of (behind ordered_tree)))

abbrev envelope_tree : Tree
envelope_tree = behind (behind ordered_tree)

timer_leads : (r : Reader) (look : LookUps) (s : Playing) (d : VoiceDesk) (place : ℕ) (bytes : List ℕ)
    (entries : List Entry) (v w x : Voice) (rest : ℕ) (ways : Ways) (m : VoiceDesk) →
    TimerAt r look v.instrument → KeepsGate r look v →
    x ≡ gate_shut (look.instrument v.instrument).gate_timer w → w.instrument ≡ v.instrument →
    nat_eq w.new_command 3 ≡ false → AtRow r s d place bytes entries w rest m →
    Leads r timer_tree (in_scope HELD (done_as (AtRow r s d place bytes entries x rest) ways)) m
timer_leads r look s d place bytes entries v w x rest ways m timer keeps is instrument tie at = (
  λ kept. (
    λ first.
        listed GATE_TIMERS v.instrument t (timer.reads first) number
        (λ b e.
        let seven : nat_eq (bit_and t 0x80) 0 ≡ not (nat_le 128 b) =
        bit_seven t timer.byte ∙ ap (λ n. not (nat_le 128 n)) (sym e) in
        let shifted : nat_eq (bit_and t 0x40) 0 ≡ not (nat_le 128 (2 * b % 256)) =
        bit_six t timer.byte ∙ ap (λ n. not (nat_le 128 (2 * n % 256))) (sym e) in
        let read : VoiceDesk = record m { y = m.own INSTRUMENT; c = nat_le 128 b } in (
          λ kept_legato. (
            λ held. stays _ refl refl refl refl refl (shifted ∙ ap not held),
            λ goes_off. shuts read (shifted ∙ ap not goes_off) refl refl refl refl refl (λ soft. seven),
          ),
          λ out_legato. shuts read (no_legato r look v keeps out_legato) refl refl refl refl refl (λ soft. seven),
        )),
    λ ordered. (
      λ kept_legato.
          let holders = timer.gates ordered kept_legato in
          alone GATE_FROM holders.from holders.reads (by_gate ordered holders.from holders.tells),
      λ out_legato.
          by_envelope ordered (record m { a = m.own INSTRUMENT }) refl refl refl refl refl
          (no_legato r look v keeps out_legato) refl,
    ),
  ),
  λ out.
      shuts m (no_legato r look v keeps (not_held r LEGATO keeps.shared.legato out)) refl refl refl refl refl
      (λ soft. absurd (both_ways (r.layout.holds HELD_NOTE) out (keeps.shared.soft soft))),
)
  where
    t : ℕ
    t = (look.instrument v.instrument).gate_timer

    number : m.own INSTRUMENT ≡ v.instrument
    number = at.taking.fields.instrument ∙ instrument

    stays : (n : VoiceDesk) → n.own ≡ m.own → n.shared ≡ m.shared → n.sid ≡ m.sid → n.low ≡ m.low → n.high ≡ m.high →
        nat_eq (bit_and t 0x40) 0 ≡ false → AtRow r s d place bytes entries x rest n
    stays n own shared sid low high six =
        row_on r s d place bytes entries w w x rest m n shared sid low high (ap (λ f. f OFFSET) own)
        (is ∙ shut_held t w tie six) (rw own at.taking.fields) (rw own at.taking.rest_is) (rw own at.taking.play) at

    shuts : (n : VoiceDesk) → nat_eq (bit_and t 0x40) 0 ≡ true → n.own ≡ m.own → n.shared ≡ m.shared →
        n.sid ≡ m.sid → n.low ≡ m.low → n.high ≡ m.high →
        (r.layout.holds NO_HARD_RESTART ≡ true → nat_eq (bit_and t 0x80) 0 ≡ not n.c) →
        Leads r shut_tree (in_scope HELD (done_as (AtRow r s d place bytes entries x rest) ways)) n
    shuts n six own shared sid low high soft =
        shut_leads r s d place bytes entries t w x rest ways n is tie six soft (no_soft r look v keeps six)
        (row_on r s d place bytes entries w w w rest m n shared sid low high (ap (λ f. f OFFSET) own) refl
        (rw own at.taking.fields) (rw own at.taking.rest_is) (rw own at.taking.play) at)

    -- behind the comparison for the gate, A is the instrument's number
    by_envelope : r.layout.holds FIRST_HOLDS ≡ false → (n : VoiceDesk) → n.own ≡ m.own → n.shared ≡ m.shared →
        n.sid ≡ m.sid → n.low ≡ m.low → n.high ≡ m.high → nat_eq (bit_and t 0x40) 0 ≡ true →
        n.a ≡ m.own INSTRUMENT →
        Leads r envelope_tree
        (done_as (Leads r shut_tree (in_scope HELD (done_as (AtRow r s d place bytes entries x rest) ways)))
        (in_scope HELD (done_as (AtRow r s d place bytes entries x rest) ways))) n
    by_envelope ordered n own shared sid low high six acc = (
      λ kept.
          let holders = timer.envelopes ordered kept in
          alone ENVELOPE_FROM holders.from holders.reads (told holders.from holders.tells),
      λ out.
          shuts n six own shared sid low high
          (λ soft. absurd (both_ways (r.layout.holds NO_HARD_RESTART) out soft)),
    )
      where
        told : (from : ℕ) → (from ≤ v.instrument) ↔ (1 ≤ how_much (held_by t)) → (b : ℕ) → b ≡ from →
            Leads r shut_tree (in_scope HELD (done_as (AtRow r s d place bytes entries x rest) ways))
            (record n { c = nat_le b n.a })
        told from tells b e =
            shuts (record n { c = nat_le b n.a }) six own shared sid low high
            (λ soft. seven_told t from v.instrument b n.a tells e (acc ∙ number) six)

    -- the same with that number in A, and the comparison's carry
    by_gate : r.layout.holds FIRST_HOLDS ≡ false → (from : ℕ) →
        (from ≤ v.instrument) ↔ (2 ≤ how_much (held_by t)) → (b : ℕ) → b ≡ from →
        Leads r gate_tree
        (done_as
        (Leads r envelope_tree
        (done_as (Leads r shut_tree (in_scope HELD (done_as (AtRow r s d place bytes entries x rest) ways)))
        (in_scope HELD (done_as (AtRow r s d place bytes entries x rest) ways))))
        (in_scope HELD (done_as (AtRow r s d place bytes entries x rest) ways)))
        (compared b (loaded (m.own INSTRUMENT) m))
    by_gate ordered from tells b e =
        let told = six_told t from v.instrument b (m.own INSTRUMENT) tells e number in (
          λ held. stays _ refl refl refl refl refl (told ∙ ap not held),
          λ below.
              by_envelope ordered (compared b (loaded (m.own INSTRUMENT) m)) refl refl refl refl refl
              (told ∙ ap not below) refl,
        )

-- ---- the gate before a note

was_false : (b : Bool) → not b ≡ true → b ≡ false
was_false true e = absurd (true≢false (sym e))
was_false false e = refl

was_true : (b : Bool) → not b ≡ false → b ≡ true
was_true true e = refl
was_true false e = absurd (true≢false e)

pub held_leads : (r : Reader) (look : LookUps) (s : Playing) (d : VoiceDesk) (place : ℕ) (bytes : List ℕ)
    (entries : List Entry) (transpose : ℤ) (v : Voice) (note rest : ℕ) (ways : Ways) (m : VoiceDesk) →
    TimerAt r look v.instrument → KeepsGate r look v → v.new_command < 256 →
    AtNext r s d place bytes entries (noted note transpose (gate_keyed note v)) note rest m →
    Leads r (body_of HELD take_tree)
    (in_scope HELD (done_as (AtHeld r look s d place bytes entries transpose v note rest) ways)) m
held_leads r look s d place bytes entries transpose v note rest ways m timer keeps small at = (
  λ silent.
      let none : is_note note ≡ false = was_false (is_note note) (sym at.carry ∙ silent) in
      let stays : note_waits look note transpose (gate_keyed note v) ≡ noted note transpose (gate_keyed note v) =
      rw none refl in
      row_on r s d place bytes entries before before after rest m _ refl refl refl refl refl stays at.taking.fields
      at.taking.rest_is at.taking.play (record { taking = at.taking; next = at.next }),
  λ sounds.
      let some : is_note note ≡ true = was_true (is_note note) (sym at.carry ∙ sounds) in
      let waits : after ≡ gate_shut (look.instrument (gate_keyed note v).instrument).gate_timer w = rw some refl in
      let same : before ≡ w = rw some refl in
      let row : AtRow r s d place bytes entries w rest m =
      record { taking = subst (λ u. Taking r s d place u rest m) same at.taking; next = at.next } in
      let is : after ≡ gate_shut (look.instrument v.instrument).gate_timer w =
      waits ∙ ap (λ i. gate_shut (look.instrument i).gate_timer w) instrument in (
        λ kept.
            let told : m.own NEW_COMMAND ≡ w.new_command = row.taking.fields.new_command (keeps.shared.tone kept) in
            let command : m.own NEW_COMMAND ≡ v.new_command = told ∙ number in (
              λ three.
                  let tie : m.own NEW_COMMAND ≡ 3 =
                  compared_is (m.own NEW_COMMAND) 3 (omega (arith, command, small)) (omega arith) three in
                  row_on r s d place bytes entries w w after rest m _ refl refl refl refl refl
                  (is ∙ shut_kept (look.instrument v.instrument).gate_timer w
                  (eq-eqb w.new_command 3 (sym told ∙ tie))) row.taking.fields row.taking.rest_is row.taking.play row,
              λ other.
                  let isnt : m.own NEW_COMMAND ≢ 3 = over_is (m.own NEW_COMMAND) 3 (omega arith) other in
                  by_timer (record m { a = m.own NEW_COMMAND; c = nat_le 3 (m.own NEW_COMMAND) }) refl refl refl refl
                  refl is (λ e. isnt (told ∙ e)) row,
            ),
        λ out.
            by_timer m refl refl refl refl refl is
            (λ e. both_ways (r.layout.holds ROW_TONE) out (keeps.tone (sym number ∙ e))) row,
      ),
)
  where
    w : Voice
    w = record (gate_keyed note v) { new_note = transposed note transpose }

    before : Voice
    before = noted note transpose (gate_keyed note v)

    after : Voice
    after = note_waits look note transpose (gate_keyed note v)

    instrument : (gate_keyed note v).instrument ≡ v.instrument
    instrument = keyed_keeps (λ u. u.instrument) note v refl refl

    number : (gate_keyed note v).new_command ≡ v.new_command
    number = keyed_keeps (λ u. u.new_command) note v refl refl

    by_timer : (n : VoiceDesk) → n.own ≡ m.own → n.shared ≡ m.shared → n.sid ≡ m.sid → n.low ≡ m.low →
        n.high ≡ m.high → after ≡ gate_shut (look.instrument v.instrument).gate_timer w → w.new_command ≢ 3 →
        AtRow r s d place bytes entries w rest m →
        Leads r timer_tree (in_scope HELD (done_as (AtRow r s d place bytes entries after rest) ways)) n
    by_timer n own shared sid low high is apart row =
        timer_leads r look s d place bytes entries v w after rest ways n timer keeps is instrument
        (ne_eqb w.new_command 3 apart)
        (row_on r s d place bytes entries w w w rest m n shared sid low high (ap (λ f. f OFFSET) own) refl
        (rw own row.taking.fields) (rw own row.taking.rest_is) (rw own row.taking.play) row)
