-- An entry is over: the offset of the next one.
use Rattle.std.proofs.Common.{◌≡◌, ◌≢◌, ℕ, ◌+◌, ◌-◌, ◌*◌, ◌/◌, ◌%◌}
use Rattle.std.proofs.Common.{◌≤◌, not, nat_eq}
use Rattle.std.proofs.Common.{List, [], ◌∷◌, drop, All, inl, inr, refl, sym, ap, ◌∙◌, subst, arith}
use Rattle.std.proofs.lemmas.Bool.{eqb-true, eqb-false, cases_lt}
use Rattle.std.proofs.lemmas.List.Elements.{All-head, All-tail}
use Rattle.play_model.specs.State.{Voice, Playing}
use Rattle.play_model.specs.FetchRow.{is_note}
use Rattle.packed_form.specs.declared.entries.Entry.{Entry}
use Rattle.packed_form.specs.Entries.{IsEntry}
use Rattle.packed_form.specs.PackedSpells.{text_of}
use Rattle.player_memory.specs.declared.labels.TheConstants.{OFFSET}
use Rattle.player_desk.proofs.Laws.{VoiceDesk, Reader, Ways, Leads, done_as}
use Rattle.player_desk.proofs.Laws.{in_scope, body_of, indexed}
use Rattle.player_text.specs.declared.fetch.TheConstants.{END}
use Rattle.entry_code.proofs.Texts.{stands_there, text_begins, text_goes_on}
use Rattle.player_desk.proofs.Laws.{at_pointer}
use Rattle.entry_code.proofs.Takes.{take_tree, PatternAt, Taking, IsBefore, takes, next_byte}
use Rattle.entry_code.proofs.Begins.{two_bytes}

-- ---- the offset of the next entry

-- these entries are left from an offset on: 0 where none is
pub data NextOffset (bytes : List ℕ) (entries : List Entry) (offset : ℕ) : Type 0 where
  NoEntry : entries ≡ [] → offset ≡ 0 → NextOffset bytes entries offset
  SomeEntry : (entry : Entry) (others : List Entry) → entries ≡ entry ∷ others → 2 ≤ offset →
      drop (offset - 1) bytes ≡ text_of entries → NextOffset bytes entries offset

-- A is the offset; the carry says whether a note waits
pub record AtOffset (r : Reader) (s : Playing) (d : VoiceDesk) (place : ℕ) (bytes : List ℕ) (entries : List Entry)
    (v : Voice) (note rest : ℕ) (m : VoiceDesk) : Type 0 where
  pub taking : Taking r s d place v rest m
  pub carry : m.c ≡ not (is_note note)
  pub next : NextOffset bytes entries m.a

-- it stands
pub record AtNext (r : Reader) (s : Playing) (d : VoiceDesk) (place : ℕ) (bytes : List ℕ) (entries : List Entry)
    (v : Voice) (note rest : ℕ) (m : VoiceDesk) : Type 0 where
  pub taking : Taking r s d place v rest m
  pub carry : m.c ≡ not (is_note note)
  pub next : NextOffset bytes entries (m.own OFFSET)

pub end_leads : (r : Reader) (s : Playing) (d : VoiceDesk) (place : ℕ) (bytes : List ℕ) (entries : List Entry)
    (v : Voice) (note rest : ℕ) (ways : Ways) (m : VoiceDesk) → PatternAt r place bytes → All IsEntry entries →
    Taking r s d place v rest m → m.c ≡ not (is_note note) → IsBefore bytes (text_of entries) m.y →
    Leads r (body_of END take_tree) (in_scope END (done_as (AtOffset r s d place bytes entries v note rest) ways))
    (indexed ((m.y + 1) % 256) m)
end_leads r s d place bytes [] v note rest ways m ground each at carry before =
    let here = stands_there bytes (before.number + 1) 0 0 [] before.left_is in
    let number = before.number in
    let y = before.y_is in
    let inside = here.inside in
    let few = ground.few in
    elim (cases_lt (before.number + 2) 256) [
      | inl below ↦
          let l = below in
          let next : (m.y + 1) % 256 ≡ number + 2 = omega (arith, y, l) in
          let place_is : (place % 256 + 256 * (place / 256) + (m.y + 1) % 256) % 65536 ≡ (place + 1 + (number + 1)) %
          65536 =
          ap (λ n. n % 65536) (omega (arith, next)) in
          let reads = at_pointer r m.low m.high place ((m.y + 1) % 256) 0 at.pointer (rw place_is (record {
            found = (ground.each (number + 1) inside).found;
            is = (ground.each (number + 1) inside).is ∙ here.is;
          })) in (
            reads.found,
            (
              λ zero. ends _ refl refl refl refl refl refl reads.is,
              λ some. absurd (eqb-false (r.before ((m.low + 256 * m.high + (m.y + 1) % 256) % 65536)) 0 some reads.is),
            ),
          )
      | inr past ↦
          let h = past in
          let small = ground.small in
          let next : (m.y + 1) % 256 ≡ 0 = omega (arith, y, h, inside, few) in
          let low = at.pointer.low_is in
          let high = at.pointer.high_is in
          let place_is : (m.low + 256 * m.high + (m.y + 1) % 256) % 65536 ≡ place = omega
          (arith, low, high, next, small) in (
            subst r.IsFound (sym place_is) ground.before,
            (
              λ zero.
                  ends _ refl refl refl refl refl refl
                  (eqb-true (r.before ((m.low + 256 * m.high + (m.y + 1) % 256) % 65536)) 0 zero),
              λ some. ends _ refl refl refl refl refl refl next,
            ),
          )
    ]
  where
    ends : (n : VoiceDesk) → n.own ≡ m.own → n.shared ≡ m.shared → n.sid ≡ m.sid → n.low ≡ m.low →
        n.high ≡ m.high → n.c ≡ m.c → n.a ≡ 0 → AtOffset r s d place bytes [] v note rest n
    ends n own shared sid low high c a = record {
      taking = takes r s d place v v rest rest m n shared sid low high (rw own at.fields) (rw own at.rest_is)
          (rw own at.play) at;
      carry = c ∙ carry;
      next = NoEntry refl a;
    }
end_leads r s d place bytes (entry ∷ others) v note rest ways m ground each at carry before =
    let two = two_bytes entry others (nat_eq entry.instrument 0) refl
    (text_begins others (All-tail IsEntry entry others each)) in
    let next = next_byte r place bytes ground two.0 two.1 two.2 m.y
    (subst (λ xs. IsBefore bytes xs m.y) two.3 before) in
    let reads = at_pointer r m.low m.high place ((m.y + 1) % 256) two.0 at.pointer next.reads in
    let first = stands_there bytes (before.number + 1) two.0 0 (two.1 ∷ two.2) (before.left_is ∙ two.3) in
    let second = stands_there bytes (before.number + 1 + 1) two.1 0 two.2 first.rest_is in
    let inside = second.inside in
    let few = ground.few in
    let number = before.number in
    let before_is = before.y_is in
    let y : (m.y + 1) % 256 ≡ number + 2 = omega (arith, before_is, inside, few) in
    let isnt : two.0 ≢ 0 = text_goes_on entry others two.0 (two.1 ∷ two.2) (All-head IsEntry entry others each)
    (sym two.3) in (
      reads.found,
      (
        λ zero.
            absurd
            (isnt (sym reads.is ∙ eqb-true (r.before ((m.low + 256 * m.high + (m.y + 1) % 256) % 65536)) 0 zero)),
        λ some. record {
          taking = takes r s d place v v rest rest m _ refl refl refl refl at.fields at.rest_is at.play at;
          carry = carry;
          next = SomeEntry entry others refl (omega (arith, y))
              (ap (λ n. drop n bytes) (omega (arith, y)) ∙ before.left_is);
        },
      ),
    )
