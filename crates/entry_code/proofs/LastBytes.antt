-- The last byte of an entry is read: its note, mask or rests.
use Rattle.std.proofs.Common.{◌≡◌, ℕ, ℤ, pos, negsuc, unsigned_abs, ◌+◌, ◌-◌, ◌*◌}
use Rattle.std.proofs.Common.{◌/◌, ◌%◌, ◌<◌, ◌≤◌, ◌+ℤ◌, ◌⊎◌}
use Rattle.std.proofs.Common.{true, false, not, nat_eq, nat_le, bit_or, if◌then◌else◌, List}
use Rattle.std.proofs.Common.{inl, inr, refl, sym, ap, ◌∙◌, subst, arith}
use Rattle.std.proofs.lemmas.Bool.{leb-true, leb-false, not-true, not-false, le-leb, lt-leb, ne_eqb, cases_lt}
use Rattle.std.proofs.lemmas.Bool.{both_ways, true≢false}
use Rattle.std.proofs.lemmas.Int.{ints, int_rem_euclid_is}
use Rattle.cpu6502.specs.Registers.{one_if}
use Rattle.code_runs.specs.Runs.{put}
use Rattle.play_model.specs.State.{Voice, Playing}
use Rattle.play_model.specs.TickStep.{tempo_of}
use Rattle.play_model.specs.FetchRow.{gate_keyed, is_note, transposed}
use Rattle.scopes.specs.Trees.{Tree, ThenTree, NeverTree}
use Rattle.player_memory.specs.declared.conditions.TheConstants.{TRANSPOSES, GATE_NOTE}
use Rattle.player_memory.specs.declared.labels.TheConstants.{REST, TRANSPOSE, NEW_NOTE}
use Rattle.player_memory.specs.Fetching.{transpose_byte}
use Rattle.player_desk.proofs.Laws.{VoiceDesk, Reader, Fields, Ways, Leads, done_as, in_scope, rest_of}
use Rattle.player_desk.proofs.Laws.{compared_is, over_is}
use Rattle.player_text.specs.declared.fetch.TheConstants.{READ, NOTES, UNNAMED}
use Rattle.entry_code.proofs.Takes.{take_tree, Taking, SamePlay, IsBefore, IsByte, takes}

-- ---- the rule

-- a note waits
abbrev pub noted : ℕ → ℤ → Voice → Voice
noted note transpose v = if is_note note then record v { new_note = transposed note transpose } else v

pub sounds : (note : ℕ) → 0x60 ≤ note → note < 0xBD → is_note note ≡ true
sounds note from to =
    let a : nat_le 0x60 note ≡ true = le-leb 0x60 note from in
    let b : nat_le note 0xBC ≡ true = le-leb note 0xBC (omega (arith, to)) in
    rw (a, b) refl

pub keys : (note : ℕ) → 0xBD ≤ note → is_note note ≡ false
keys note from =
    let b : nat_le note 0xBC ≡ false = lt-leb note 0xBC (omega (arith, from)) in
    elim (cases_lt note 0x60) [
      | inl low ↦ (let l = low in absurd (omega (arith, l, from)))
      | inr high ↦
          let a : nat_le 0x60 note ≡ true = le-leb 0x60 note high in
          rw (a, b) refl
    ]

pub not_keyed : (note : ℕ) (v : Voice) → note < 0xBE → gate_keyed note v ≡ v
not_keyed note v low =
    let a : nat_eq note 0xBE ≡ false = ne_eqb note 0xBE (λ e. omega (arith, e, low)) in
    let b : nat_eq note 0xBF ≡ false = ne_eqb note 0xBF (λ e. omega (arith, e, low)) in
    rw (a, b) refl

-- a note with the transpose is the byte's sum with that of the transpose
pub transposed_sum : (note : ℕ) (transpose : ℤ) → transposed note transpose ≡ (note + transpose_byte transpose) % 256
transposed_sum note (pos t) = omega arith
transposed_sum note (negsuc t) =
    let sum : (pos note +ℤ negsuc t) +ℤ pos ((t / 256 + 1) * 256) ≡ pos (note + (255 - t % 256)) =
    omega (arith, ints) in
    ap unsigned_abs (int_rem_euclid_is (pos note +ℤ negsuc t) (pos 256) 256 (t / 256 + 1) (note + (255 - t % 256))
    (omega arith) refl sum)

-- keyoff and keyon are what is left between a rest and runs of rests
mask_is : (note : ℕ) → 0xBE ≤ note → note ≤ 0xBF → (note ≡ 0xBE) ⊎ (note ≡ 0xBF)
mask_is note from to =
    elim (cases_lt note 0xBF) [
      | inl below ↦ (let l = below in inl (omega (arith, l, from)))
      | inr past ↦ (let h = past in inr (omega (arith, h, to)))
    ]

-- the lines for keyoff and keyon are kept where the note is one of them
abbrev pub KeepsNote : Reader → ℕ → Type 0
KeepsNote r note = (note ≡ 0xBE) ⊎ (note ≡ 0xBF) → r.layout.holds GATE_NOTE ≡ true

-- ---- what holds on the way

-- the entry is read: Y is its last byte, and the carry says whether a note waits
pub record AtRead (r : Reader) (s : Playing) (d : VoiceDesk) (place : ℕ) (bytes left : List ℕ) (transpose : ℤ)
    (v : Voice) (note rest : ℕ) (m : VoiceDesk) : Type 0 where
  pub taking : Taking r s d place (noted note transpose (gate_keyed note v)) rest m
  pub before : IsBefore bytes left m.y
  pub carry : m.c ≡ not (is_note note)

-- A is a note
pub record AtNote (r : Reader) (s : Playing) (d : VoiceDesk) (place : ℕ) (bytes left : List ℕ) (v : Voice) (note : ℕ)
    (m : VoiceDesk) : Type 0 where
  pub taking : Taking r s d place v 0 m
  pub is : IsByte bytes note left m
  pub from : 0x60 ≤ note
  pub to : note < 0xBD
  pub carry : m.c ≡ false

-- A is the entry's last byte
pub record AtLast (r : Reader) (s : Playing) (d : VoiceDesk) (place : ℕ) (bytes left : List ℕ) (v : Voice) (last : ℕ)
    (m : VoiceDesk) : Type 0 where
  pub taking : Taking r s d place v 0 m
  pub is : IsByte bytes last left m

-- ---- notes

pub note_leads : (r : Reader) (s : Playing) (d : VoiceDesk) (place : ℕ) (bytes left : List ℕ) (transpose : ℤ)
    (v : Voice)
    (note : ℕ) (ways : Ways) (m : VoiceDesk) → d.own TRANSPOSE ≡ transpose_byte transpose →
    (r.layout.holds TRANSPOSES ≡ false → transpose_byte transpose ≡ 0) →
    AtNote r s d place bytes left v note m →
    Leads r (rest_of NOTES take_tree)
    (in_scope READ (done_as (AtRead r s d place bytes left transpose v note 0) ways)) m
note_leads r s d place bytes left transpose v note ways m t idle at = (
  λ kept.
      let own = at.taking.play.transpose in
      let acc = at.is.a in
      done ((m.a + m.own TRANSPOSE + one_if m.c) % 256) _ refl refl refl refl refl refl refl
      (sum_is m.a (m.own TRANSPOSE) (one_if m.c) note (transpose_byte transpose) acc (own ∙ t) (ap one_if at.carry)
      ∙ sym (transposed_sum note transpose)),
  λ out.
      let acc = at.is.a in
      let to = at.to in
      let none = idle out in
      done m.a _ refl refl refl refl refl refl at.carry
      (omega (arith, acc, to, none) ∙ sym (transposed_sum note transpose)),
)
  where
    sum_is : (a b c note t : ℕ) → a ≡ note → b ≡ t → c ≡ 0 → (a + b + c) % 256 ≡ (note + t) % 256
    sum_is a b c note t e f g = omega arith

    waits : noted note transpose (gate_keyed note v) ≡ record v { new_note = transposed note transpose }
    waits =
        let sound = sounds note at.from at.to in
        let to = at.to in
        ap (noted note transpose) (not_keyed note v (omega (arith, to))) ∙ rw sound refl

    done : (byte : ℕ) (n : VoiceDesk) → n.own ≡ put m.own NEW_NOTE byte → n.shared ≡ m.shared → n.sid ≡ m.sid →
        n.low ≡ m.low → n.high ≡ m.high → n.y ≡ m.y → n.c ≡ false → byte ≡ transposed note transpose →
        AtRead r s d place bytes left transpose v note 0 n
    done byte n own shared sid low high y c is =
        let fields : Fields r.layout.holds (record v { new_note = transposed note transpose })
        (tempo_of (r.voice + 1) s.common) (put m.own NEW_NOTE byte) = assumption (is, at.taking.fields) in
        let play : SamePlay (put m.own NEW_NOTE byte) d.own = assumption at.taking.play in
        let rest_is : put m.own NEW_NOTE byte REST ≡ 0 = at.taking.rest_is in record {
          taking =
              subst (λ w. Taking r s d place w 0 n) (sym waits)
              (takes r s d place v _ 0 0 m n shared sid low high (rw own fields) (rw own rest_is) (rw own play)
              at.taking);
          before = subst (IsBefore bytes left) (sym y) at.is.before;
          carry = c ∙ sym (ap not (sounds note at.from at.to));
        }

-- ---- the last byte: a note, a mask, or rests

-- the carry is on behind it where no note waits
pub last_note_leads : (r : Reader) (s : Playing) (d : VoiceDesk) (place : ℕ) (bytes left : List ℕ) (transpose : ℤ)
    (v : Voice) (note : ℕ) (ways : Ways) (m : VoiceDesk) → 0x60 ≤ note → note ≤ 0xBF → KeepsNote r note →
    AtLast r s d place bytes left v note m →
    Leads r (rest_of UNNAMED take_tree)
    (in_scope NOTES (done_as (AtNote r s d place bytes left v note)
    (in_scope READ (done_as (AtRead r s d place bytes left transpose v note 0) ways)))) m
last_note_leads r s d place bytes left transpose v note ways m from to gate at =
    let acc = at.is.a in (
      λ off.
          let low = leb-false 0xBD m.a (not-true _ off) in record {
            taking = takes r s d place v v 0 0 m _ refl refl refl refl at.taking.fields at.taking.rest_is at.taking.play
                at.taking;
            is = record { a = at.is.a; before = at.is.before };
            from = from;
            to = omega (arith, acc, low);
            carry = not-true _ off;
          },
      λ on.
          let above = leb-true 0xBD m.a (not-false _ on) in (
            λ zero.
                let is = compared_is m.a 0xBD (omega (arith, acc, to)) (omega arith) zero in
                done v _ refl refl refl refl refl refl (not-false _ on) (omega (arith, acc, above))
                (sym (not_keyed note v (omega (arith, acc, is)))) at.taking.fields at.taking.rest_is at.taking.play,
            λ other.
                let isnt = over_is m.a 0xBD (omega arith) other in
                let key = mask_is note (omega (arith, acc, above, isnt)) to in (
                  λ kept. (
                    λ rests. (let far = leb-true 0xC0 m.a rests in absurd (omega (arith, far, acc, to))),
                    λ mask. (
                      λ still.
                          elim key [
                            | inl keyoff ↦
                                let is = keyoff in
                                let masked : bit_or m.a 0xF0 ≡ 0xFE = ap (λ a. bit_or a 0xF0) (acc ∙ is) in
                                done (record v { gate = 0xFE }) _ refl refl refl refl refl refl refl
                                (omega (arith, acc, above)) (sym (ap (λ n. gate_keyed n v) is))
                                (assumption (masked, at.taking.fields)) at.taking.rest_is (assumption at.taking.play)
                            | inr keyon ↦
                                let is = keyon in
                                let masked : bit_or m.a 0xF0 ≡ 0xFF = ap (λ a. bit_or a 0xF0) (acc ∙ is) in
                                done (record v { gate = 0xFF }) _ refl refl refl refl refl refl refl
                                (omega (arith, acc, above)) (sym (ap (λ n. gate_keyed n v) is))
                                (assumption (masked, at.taking.fields)) at.taking.rest_is (assumption at.taking.play)
                          ],
                      λ lost. true≢false lost,
                    ),
                  ),
                  λ out. absurd (both_ways (r.layout.holds GATE_NOTE) out (gate key)),
                ),
          ),
    )
  where
    done : (w : Voice) (n : VoiceDesk) → n.shared ≡ m.shared → n.sid ≡ m.sid → n.low ≡ m.low → n.high ≡ m.high →
        n.y ≡ m.y → n.a ≡ n.a → n.c ≡ true → 0xBD ≤ note → w ≡ gate_keyed note v →
        Fields r.layout.holds w (tempo_of (r.voice + 1) s.common) n.own → n.own REST ≡ 0 → SamePlay n.own d.own →
        AtRead r s d place bytes left transpose v note 0 n
    done w n shared sid low high y a c key is fields rest_is play =
        let silent : noted note transpose (gate_keyed note v) ≡ w = (let k = keys note key in rw k (sym is)) in record {
          taking =
              subst (λ u. Taking r s d place u 0 n) (sym silent)
              (takes r s d place v w 0 0 m n shared sid low high fields rest_is play at.taking);
          before = subst (IsBefore bytes left) (sym y) at.is.before;
          carry = c ∙ sym (ap not (keys note key));
        }

-- the first line of some, and the lines behind it
abbrev pub first_of : Tree → Tree
first_of (ThenTree first rest) = first
first_of tree = NeverTree

abbrev pub behind : Tree → Tree
behind (ThenTree first rest) = rest
behind tree = NeverTree

-- A is a run of rests, and the carry is on
abbrev rests_tree : Tree
rests_tree = behind (behind (behind (behind (rest_of UNNAMED take_tree))))

rests_leads : (r : Reader) (s : Playing) (d : VoiceDesk) (place : ℕ) (bytes left : List ℕ) (transpose : ℤ)
    (v : Voice) (more : ℕ) (goes : VoiceDesk → Type 0) (ways : Ways) (m : VoiceDesk) → more ≤ 63 → m.c ≡ true →
    AtLast r s d place bytes left v (0xC0 + more) m →
    Leads r rests_tree
    (in_scope NOTES (done_as goes
    (in_scope READ (done_as (AtRead r s d place bytes left transpose v 0xBD more) ways)))) m
rests_leads r s d place bytes left transpose v more goes ways m few carry at =
    let acc = at.is.a in
    let one = ap one_if carry in (
      λ over.
          let left_is : (m.a + 63 + one_if m.c) % 256 ≡ more = omega (arith, acc, one, few) in record {
            taking = takes r s d place v v 0 more m _ refl refl refl refl (assumption at.taking.fields) left_is
                (assumption at.taking.play) at.taking;
            before = at.is.before;
            carry = over;
          },
      λ under.
          let below = leb-false 256 (m.a + 63 + one_if m.c) under in
          absurd (omega (arith, acc, one, below)),
    )

-- rests
pub last_rests_leads : (r : Reader) (s : Playing) (d : VoiceDesk) (place : ℕ) (bytes left : List ℕ) (transpose : ℤ)
    (v : Voice) (more : ℕ) (goes : VoiceDesk → Type 0) (ways : Ways) (m : VoiceDesk) → more ≤ 63 →
    AtLast r s d place bytes left v (0xC0 + more) m →
    Leads r (rest_of UNNAMED take_tree)
    (in_scope NOTES (done_as goes
    (in_scope READ (done_as (AtRead r s d place bytes left transpose v 0xBD more) ways)))) m
last_rests_leads r s d place bytes left transpose v more goes ways m few at =
    let acc = at.is.a in (
      λ off. (let low = leb-false 0xBD m.a (not-true _ off) in absurd (omega (arith, low, acc))),
      λ on. (
        λ zero.
            let is = compared_is m.a 0xBD (omega (arith, acc, few)) (omega arith) zero in
            absurd (omega (arith, acc, is)),
        λ other. (
          λ kept. (
            λ rests. run (record m { c = nat_le 0xC0 m.a }) refl refl refl refl refl refl refl rests,
            λ mask. (let low = leb-false 0xC0 m.a mask in absurd (omega (arith, low, acc))),
          ),
          λ out. run (record m { c = nat_le 0xBD m.a }) refl refl refl refl refl refl refl (not-false _ on),
        ),
      ),
    )
  where
    run : (n : VoiceDesk) → n.own ≡ m.own → n.shared ≡ m.shared → n.sid ≡ m.sid → n.low ≡ m.low →
        n.high ≡ m.high → n.y ≡ m.y → n.a ≡ m.a → n.c ≡ true →
        Leads r rests_tree
        (in_scope NOTES (done_as goes
        (in_scope READ (done_as (AtRead r s d place bytes left transpose v 0xBD more) ways)))) n
    run n own shared sid low high y a carry =
        rests_leads r s d place bytes left transpose v more goes ways n few carry (record {
          taking = takes r s d place v v 0 0 m n shared sid low high (rw own at.taking.fields)
              (rw own at.taking.rest_is) (rw own at.taking.play) at.taking;
          is = record { a = a ∙ at.is.a; before = rw y at.is.before };
        })
