-- Code that stores no entry of the slides leaves them.
use Rattle.std.proofs.Common.{◌≡◌, ℕ, zero, suc, Bool, true, false, not, ◌&&◌, ◌||◌, [], ◌∷◌}
use Rattle.std.proofs.Common.{List, Option, Some, None, nat_eq, nat_le, inl, inr, refl, sym, ◌∙◌}
use Rattle.std.proofs.lemmas.Bool.{and_parts, or_cases, true≢false}
use Rattle.cpu6502.specs.declared.effect.Write.{Write}
use Rattle.cpu6502.specs.declared.effect.Effect.{Effect}
use Rattle.cpu6502.specs.declared.mnemonic.Mnemonic.{Mnemonic}
use Rattle.cpu6502.specs.declared.mnemonic.Mnemonic.TheVariants.{Adc, And, Cmp, Cpy, Eor, Lda, Ldy, Ora, Sbc}
use Rattle.scopes.specs.declared.line.Operand.{Operand}
use Rattle.scopes.specs.declared.line.Operand.TheVariants.{Number, Var, Own, Entry, Pointed, Pointer, Register}
use Rattle.scopes.specs.declared.line.Operand.TheVariants.{OwnRegister, Timer}
use Rattle.scopes.specs.declared.line.Half.TheVariants.{Low, High}
use Rattle.scopes.specs.Steps.{is_store}
use Rattle.scopes.specs.Trees.{Tree, DoTree, WithTree, NoneTree, ThenTree, ScopeTree, LeaveTree, LeaveIfTree, LoopTree}
use Rattle.scopes.specs.Trees.{AgainTree, AgainIfTree, WhenTree, ChooseTree, NeverTree}
use Rattle.player_memory.specs.declared.labels.TheConstants.{SLIDES_LOW, SLIDES_HIGH}
use Rattle.player_memory.specs.Labels.{is_own, is_shared, is_tempo}
use Rattle.player_desk.proofs.VoiceDesks.{VoiceDesk, Reader, with_cpu, leaves_x, Fits, Either, SlideLeads}
use Rattle.player_desk.proofs.VoiceDesks.{VarLeads, PutLeads, WritesLead, EffectLeads, ByteLeads, OperandLeads}
use Rattle.player_desk.proofs.VoiceDesks.{WithLeads}
use Rattle.player_desk.proofs.VoiceDesks.{QuietLeads, alone_done, is_alone, Ways, done_as, in_scope, again_as}
use Rattle.player_desk.proofs.VoiceDesks.{TurnsLead, Leading}
use Rattle.player_desk.proofs.Following.{Follows, fits_on, seen_on, turns_on, leads_on}
use Rattle.scopes.specs.Meaning.{turns_in}

-- ---- which code does

-- an entry of the slides
abbrev pub is_slide : ℕ → Bool
is_slide label = nat_eq label SLIDES_LOW || nat_eq label SLIDES_HIGH

-- these read an entry, and write nothing
abbrev pub reads_alone : Mnemonic → Bool
reads_alone Adc = true
reads_alone And = true
reads_alone Cmp = true
reads_alone Cpy = true
reads_alone Eor = true
reads_alone Lda = true
reads_alone Ldy = true
reads_alone Ora = true
reads_alone Sbc = true
reads_alone _ = false

-- no entry of the slides
abbrev pub is_apart : Operand → Bool
is_apart (Entry label) = not (is_slide label)
is_apart operand = true

abbrev pub leaves_entry : Mnemonic → Operand → Bool
leaves_entry mnemonic (Entry label) = not (is_slide label) || reads_alone mnemonic
leaves_entry mnemonic operand = true

abbrev pub leaves_slides : Tree → Bool
leaves_slides (WithTree mnemonic operand) = leaves_entry mnemonic operand
leaves_slides (ThenTree first rest) = leaves_slides first && leaves_slides rest
leaves_slides (ScopeTree name body) = leaves_slides body
leaves_slides (LoopTree count body) = leaves_slides body
leaves_slides (WhenTree condition body) = leaves_slides body
leaves_slides (ChooseTree condition this other) = leaves_slides this && leaves_slides other
leaves_slides _ = true

-- ---- the same slides

pub record SameSlides (d m : VoiceDesk) : Type 0 where
  pub low : m.slide_low ≡ d.slide_low
  pub high : m.slide_high ≡ d.slide_high

abbrev pub with_slides : VoiceDesk → Ways → Ways
with_slides d ways = record {
  Done = λ m. SameSlides d m × ways.Done m;
  Left = λ name m. SameSlides d m × ways.Left name m;
  Again = λ m. SameSlides d m × ways.Again m;
}

-- ---- instructions

-- a desk whose slides are those
abbrev Keeping : VoiceDesk → (VoiceDesk → Type 0) → VoiceDesk → Type 0
Keeping d Q m = SameSlides d m × Q m

var_keeps : (all tempo : Bool) (voice label byte : ℕ) (Q : VoiceDesk → Type 0) (d m : VoiceDesk) → SameSlides d m →
    VarLeads all tempo voice label byte Q m → VarLeads all tempo voice label byte (Keeping d Q) m
var_keeps true tempo voice label byte Q d m same leads = (record { low = same.low; high = same.high }, leads)
var_keeps false true voice label byte Q d m same leads = (record { low = same.low; high = same.high }, leads)
var_keeps false false voice label byte Q d m same never = elim never [ ]

-- a fact by shape, with one more
fits_with : (b : Bool) (P Q : Type 0) → Q → Fits b P → Fits b (Q × P)
fits_with true P Q q p = (q, p)
fits_with false P Q q never = elim never [ ]

-- the label's two tests are no
record NoSlide (label : ℕ) : Type 0 where
  low : nat_eq label SLIDES_LOW ≡ false
  high : nat_eq label SLIDES_HIGH ≡ false

no_slide : (label : ℕ) → not (is_slide label) ≡ true → NoSlide label
no_slide label is = neither (nat_eq label SLIDES_LOW) (nat_eq label SLIDES_HIGH) is refl refl
  where
    neither : (low high : Bool) → not (low || high) ≡ true → nat_eq label SLIDES_LOW ≡ low →
        nat_eq label SLIDES_HIGH ≡ high → NoSlide label
    neither true high never e f = absurd (true≢false (sym never))
    neither false true never e f = absurd (true≢false (sym never))
    neither false false is e f = record { low = e; high = f }

entry_never : (low high : Bool) (r : Reader) (P R Q S : Type 0) (d : VoiceDesk) → low ≡ false → high ≡ false →
    Either low (SlideLeads r P d) (Fits high (SlideLeads r R d)) →
    Either low (SlideLeads r Q d) (Fits high (SlideLeads r S d))
entry_never true high r P R Q S d never other leads = absurd (true≢false never)
entry_never false true r P R Q S d one never leads = absurd (true≢false never)
entry_never false false r P R Q S d one two never = elim never [ ]

-- a byte is written, but none of the slides
put_keeps : (voiced : Bool) (r : Reader) (operand : Operand) (byte : ℕ) (Q : VoiceDesk → Type 0) (d m : VoiceDesk) →
    is_apart operand ≡ true → SameSlides d m →
    PutLeads voiced r operand byte Q m → PutLeads voiced r operand byte (Keeping d Q) m
put_keeps voiced r (Number number) byte Q d m apart same never = elim never [ ]
put_keeps voiced r (Var label) byte Q d m apart same leads =
    var_keeps (is_shared label) (is_tempo label) r.voice label byte Q d m same leads
put_keeps voiced r (Own label) byte Q d m apart same leads =
    fits_with (voiced && is_own label) _ _ (record { low = same.low; high = same.high }) leads
put_keeps voiced r (Entry label) byte Q d m apart same leads =
    let no = no_slide label apart in
    entry_never (nat_eq label SLIDES_LOW) (nat_eq label SLIDES_HIGH) r _ _ _ _ m no.low no.high leads
put_keeps voiced r Pointed byte Q d m apart same never = elim never [ ]
put_keeps voiced r (Pointer Low) byte Q d m apart same leads = (record { low = same.low; high = same.high }, leads)
put_keeps voiced r (Pointer High) byte Q d m apart same leads = (record { low = same.low; high = same.high }, leads)
put_keeps voiced r (Register register) byte Q d m apart same leads =
    fits_with (nat_le register 24) _ _ (record { low = same.low; high = same.high }) leads
put_keeps voiced r (OwnRegister register) byte Q d m apart same leads =
    fits_with (voiced && nat_le register 6) _ _ (record { low = same.low; high = same.high }) leads
put_keeps voiced r (Timer half) byte Q d m apart same never = elim never [ ]

writes_keep : (voiced : Bool) (r : Reader) (operand : Operand) (writes : List Write) (Q : VoiceDesk → Type 0)
    (d m : VoiceDesk) → is_apart operand ≡ true → SameSlides d m →
    WritesLead voiced r operand writes Q m → WritesLead voiced r operand writes (Keeping d Q) m
writes_keep voiced r operand [] Q d m apart same leads = (same, leads)
writes_keep voiced r operand (write ∷ []) Q d m apart same leads =
    put_keeps voiced r operand write.value Q d m apart same leads
writes_keep voiced r operand (write ∷ other ∷ more) Q d m apart same never = elim never [ ]

effect_keeps : (voiced : Bool) (r : Reader) (operand : Operand) (result : Option Effect) (Q : VoiceDesk → Type 0)
    (d : VoiceDesk) → is_apart operand ≡ true →
    EffectLeads voiced r operand result Q d → EffectLeads voiced r operand result (Keeping d Q) d
effect_keeps voiced r operand None Q d apart never = elim never [ ]
effect_keeps voiced r operand (Some done) Q d apart leads =
    writes_keep voiced r operand done.writes Q d (with_cpu done.cpu d) apart (record { low = refl; high = refl }) leads

operand_keeps : (store voiced : Bool) (r : Reader) (mnemonic : Mnemonic) (operand : Operand) (Q : VoiceDesk → Type 0)
    (d : VoiceDesk) → is_apart operand ≡ true →
    OperandLeads store voiced r mnemonic operand Q d → OperandLeads store voiced r mnemonic operand (Keeping d Q) d
operand_keeps true voiced r mnemonic operand Q d apart leads = effect_keeps voiced r operand _ Q d apart leads
operand_keeps false voiced r mnemonic operand Q d apart leads =
    seen_on voiced r operand (ByteLeads voiced r mnemonic operand Q d)
    (ByteLeads voiced r mnemonic operand (Keeping d Q) d) d
    (λ byte on. effect_keeps voiced r operand _ Q d apart on) leads

-- a slide is read
reads_keep : (voiced : Bool) (r : Reader) (mnemonic : Mnemonic) (label : ℕ) (Q : VoiceDesk → Type 0) (d : VoiceDesk) →
    reads_alone mnemonic ≡ true → WithLeads voiced r mnemonic (Entry label) Q d →
    WithLeads voiced r mnemonic (Entry label) (Keeping d Q) d
reads_keep voiced r Adc label Q d is leads =
    seen_on voiced r (Entry label) (ByteLeads voiced r Adc (Entry label) Q d)
    (ByteLeads voiced r Adc (Entry label) (Keeping d Q) d) d (λ byte on. (record { low = refl; high = refl }, on)) leads
reads_keep voiced r And label Q d is leads =
    seen_on voiced r (Entry label) (ByteLeads voiced r And (Entry label) Q d)
    (ByteLeads voiced r And (Entry label) (Keeping d Q) d) d (λ byte on. (record { low = refl; high = refl }, on)) leads
reads_keep voiced r Cmp label Q d is leads =
    seen_on voiced r (Entry label) (ByteLeads voiced r Cmp (Entry label) Q d)
    (ByteLeads voiced r Cmp (Entry label) (Keeping d Q) d) d (λ byte on. (record { low = refl; high = refl }, on)) leads
reads_keep voiced r Cpy label Q d is leads =
    seen_on voiced r (Entry label) (ByteLeads voiced r Cpy (Entry label) Q d)
    (ByteLeads voiced r Cpy (Entry label) (Keeping d Q) d) d (λ byte on. (record { low = refl; high = refl }, on)) leads
reads_keep voiced r Eor label Q d is leads =
    seen_on voiced r (Entry label) (ByteLeads voiced r Eor (Entry label) Q d)
    (ByteLeads voiced r Eor (Entry label) (Keeping d Q) d) d (λ byte on. (record { low = refl; high = refl }, on)) leads
reads_keep voiced r Lda label Q d is leads =
    seen_on voiced r (Entry label) (ByteLeads voiced r Lda (Entry label) Q d)
    (ByteLeads voiced r Lda (Entry label) (Keeping d Q) d) d (λ byte on. (record { low = refl; high = refl }, on)) leads
reads_keep voiced r Ldy label Q d is leads =
    seen_on voiced r (Entry label) (ByteLeads voiced r Ldy (Entry label) Q d)
    (ByteLeads voiced r Ldy (Entry label) (Keeping d Q) d) d (λ byte on. (record { low = refl; high = refl }, on)) leads
reads_keep voiced r Ora label Q d is leads =
    seen_on voiced r (Entry label) (ByteLeads voiced r Ora (Entry label) Q d)
    (ByteLeads voiced r Ora (Entry label) (Keeping d Q) d) d (λ byte on. (record { low = refl; high = refl }, on)) leads
reads_keep voiced r Sbc label Q d is leads =
    seen_on voiced r (Entry label) (ByteLeads voiced r Sbc (Entry label) Q d)
    (ByteLeads voiced r Sbc (Entry label) (Keeping d Q) d) d (λ byte on. (record { low = refl; high = refl }, on)) leads
reads_keep voiced r _ label Q d never leads = absurd (true≢false (sym never))

plain_keeps : (voiced : Bool) (r : Reader) (mnemonic : Mnemonic) (operand : Operand) (Q : VoiceDesk → Type 0)
    (d : VoiceDesk) → is_apart operand ≡ true → WithLeads voiced r mnemonic operand Q d →
    WithLeads voiced r mnemonic operand (Keeping d Q) d
plain_keeps voiced r mnemonic operand Q d apart leads =
    fits_on (leaves_x mnemonic) _ _ (operand_keeps (is_store mnemonic) voiced r mnemonic operand Q d apart) leads

with_keeps : (voiced : Bool) (r : Reader) (mnemonic : Mnemonic) (operand : Operand) (Q : VoiceDesk → Type 0)
    (d : VoiceDesk) → leaves_entry mnemonic operand ≡ true → WithLeads voiced r mnemonic operand Q d →
    WithLeads voiced r mnemonic operand (Keeping d Q) d
with_keeps voiced r mnemonic (Number number) Q d leaves leads = plain_keeps voiced r mnemonic (Number number) Q d refl
    leads
with_keeps voiced r mnemonic (Var label) Q d leaves leads = plain_keeps voiced r mnemonic (Var label) Q d refl leads
with_keeps voiced r mnemonic (Own label) Q d leaves leads = plain_keeps voiced r mnemonic (Own label) Q d refl leads
with_keeps voiced r mnemonic (Entry label) Q d leaves leads =
    elim (or_cases (not (is_slide label)) (reads_alone mnemonic) leaves) [
      | inl apart ↦ plain_keeps voiced r mnemonic (Entry label) Q d apart leads
      | inr reads ↦ reads_keep voiced r mnemonic label Q d reads leads
    ]
with_keeps voiced r mnemonic Pointed Q d leaves leads = plain_keeps voiced r mnemonic Pointed Q d refl leads
with_keeps voiced r mnemonic (Pointer half) Q d leaves leads =
    plain_keeps voiced r mnemonic (Pointer half) Q d refl leads
with_keeps voiced r mnemonic (Register register) Q d leaves leads =
    plain_keeps voiced r mnemonic (Register register) Q d refl leads
with_keeps voiced r mnemonic (OwnRegister register) Q d leaves leads =
    plain_keeps voiced r mnemonic (OwnRegister register) Q d refl leads
with_keeps voiced r mnemonic (Timer half) Q d leaves leads = plain_keeps voiced r mnemonic (Timer half) Q d refl leads

quiet_keeps : (result : Option Effect) (Q : VoiceDesk → Type 0) (d : VoiceDesk) → QuietLeads result Q d →
    QuietLeads result (Keeping d Q) d
quiet_keeps None Q d never = elim never [ ]
quiet_keeps (Some done) Q d leads = (record { low = refl; high = refl }, leads)

-- ---- trees

same_slides : (d : VoiceDesk) → SameSlides d d
same_slides d = record { low = refl; high = refl }

-- the slides of a desk on the way are the first one's
from_there : (d m : VoiceDesk) (ways : Ways) → SameSlides d m → Follows (with_slides m ways) (with_slides d ways)
from_there d m ways same = record {
  done = λ n q. (record { low = q.0.low ∙ same.low; high = q.0.high ∙ same.high }, q.1);
  left = λ name n q. (record { low = q.0.low ∙ same.low; high = q.0.high ∙ same.high }, q.1);
  again = λ n q. (record { low = q.0.low ∙ same.low; high = q.0.high ∙ same.high }, q.1);
}

either_with : (z : Bool) (P Q R : Type 0) → R → Either z P Q → Either z (R × P) (R × Q)
either_with true P Q R r p = (r, p)
either_with false P Q R r q = (r, q)

either_to : (z : Bool) (P Q R S : Type 0) → (P → R) → (Q → S) → Either z P Q → Either z R S
either_to true P Q R S one two p = one p
either_to false P Q R S one two q = two q

abbrev KeepsBody : (Ways → VoiceDesk → Type 0) → Type 1
KeepsBody Body = (ways : Ways) (d : VoiceDesk) → Body ways d → Body (with_slides d ways) d

turns_keep : (Body : Ways → VoiceDesk → Type 0) → KeepsBody Body →
    ((one two : Ways) (d : VoiceDesk) → Follows one two → Body one d → Body two d) → (count : ℕ) (ways : Ways)
    (d : VoiceDesk) → TurnsLead count Body ways d → TurnsLead count Body (with_slides d ways) d
turns_keep Body keeps on zero ways d never = elim never [ ]
turns_keep Body keeps on (suc more) ways d leads =
    on (with_slides d (again_as (TurnsLead more Body ways) ways))
    (again_as (TurnsLead more Body (with_slides d ways)) (with_slides d ways)) d
    (record {
      done = λ m q. q;
      left = λ name m q. q;
      again = λ m q.
          turns_on Body on more (with_slides m ways) (with_slides d ways) m (from_there d m ways q.0)
          (turns_keep Body keeps on more ways m q.1);
    }) (keeps (again_as (TurnsLead more Body ways) ways) d leads)

-- What leads to a desk by code that stores no slide leads to one with the same slides.
pub slides_stay : (voiced : Bool) (r : Reader) (tree : Tree) (ways : Ways) (d : VoiceDesk) →
    leaves_slides tree ≡ true → Leading voiced r tree ways d → Leading voiced r tree (with_slides d ways) d
slides_stay voiced r (DoTree mnemonic) ways d leaves leads =
    fits_on (is_alone mnemonic) _ _ (quiet_keeps (alone_done mnemonic d) ways.Done d) leads
slides_stay voiced r (WithTree mnemonic operand) ways d leaves leads =
    with_keeps voiced r mnemonic operand ways.Done d leaves leads
slides_stay voiced r NoneTree ways d leaves leads = (same_slides d, leads)
slides_stay voiced r (ThenTree first rest) ways d leaves leads =
    let both = and_parts (leaves_slides first) (leaves_slides rest) leaves in
    leads_on voiced r first (with_slides d (done_as (Leading voiced r rest ways) ways))
    (done_as (Leading voiced r rest (with_slides d ways)) (with_slides d ways)) d
    (record {
      done = λ m q.
          leads_on voiced r rest (with_slides m ways) (with_slides d ways) m (from_there d m ways q.0)
          (slides_stay voiced r rest ways m both.1 q.1);
      left = λ name m q. q;
      again = λ m q. q;
    }) (slides_stay voiced r first (done_as (Leading voiced r rest ways) ways) d both.0 leads)
slides_stay voiced r (ScopeTree name body) ways d leaves leads =
    leads_on voiced r body (with_slides d (in_scope name ways)) (in_scope name (with_slides d ways)) d
    (record {
      done = λ m q. q;
      left = λ other m q. either_with (nat_eq other name) (ways.Done m) (ways.Left other m) (SameSlides d m) q.0 q.1;
      again = λ m q. q;
    }) (slides_stay voiced r body (in_scope name ways) d leaves leads)
slides_stay voiced r (LeaveTree name) ways d leaves leads = (same_slides d, leads)
slides_stay voiced r (LeaveIfTree name test) ways d leaves leads =
    (λ met. (same_slides d, leads.0 met), λ unmet. (same_slides d, leads.1 unmet))
slides_stay voiced r (LoopTree count body) ways d leaves leads =
    turns_keep (Leading voiced r body) (λ w m q. slides_stay voiced r body w m leaves q)
    (λ one two m follows q. leads_on voiced r body one two m follows q) (turns_in r.layout.open_turns count) ways d leads
slides_stay voiced r AgainTree ways d leaves leads = (same_slides d, leads)
slides_stay voiced r (AgainIfTree test) ways d leaves leads =
    (λ met. (same_slides d, leads.0 met), λ unmet. (same_slides d, leads.1 unmet))
slides_stay voiced r (WhenTree condition body) ways d leaves leads = (
  λ yes. slides_stay voiced r body ways d leaves (leads.0 yes),
  λ no. (same_slides d, leads.1 no),
)
slides_stay voiced r (ChooseTree condition this other) ways d leaves leads =
    let both = and_parts (leaves_slides this) (leaves_slides other) leaves in (
      λ yes. slides_stay voiced r this ways d both.0 (leads.0 yes),
      λ no. slides_stay voiced r other ways d both.1 (leads.1 no),
    )
slides_stay voiced r NeverTree ways d leaves never = elim never [ ]
