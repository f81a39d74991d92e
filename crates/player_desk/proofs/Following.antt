-- What leads to a desk of which one thing holds leads to one of which all that follows from it holds.
use Rattle.std.proofs.Common.{ℕ, zero, suc, Bool, true, false, List, [], ◌∷◌, Option, Some, None, nat_eq}
use Rattle.std.proofs.Common.{nat_le, ◌&&◌}
use Rattle.cpu6502.specs.declared.effect.Write.{Write}
use Rattle.cpu6502.specs.declared.effect.Effect.{Effect}
use Rattle.cpu6502.specs.declared.mnemonic.Mnemonic.{Mnemonic}
use Rattle.scopes.specs.declared.line.Operand.{Operand}
use Rattle.scopes.specs.declared.line.Operand.TheVariants.{Number, Var, Own, Entry, Pointed, Pointer, Register}
use Rattle.scopes.specs.declared.line.Operand.TheVariants.{OwnRegister, Timer}
use Rattle.scopes.specs.declared.line.Half.TheVariants.{Low, High}
use Rattle.scopes.specs.Steps.{is_store}
use Rattle.scopes.specs.Trees.{Tree, DoTree, WithTree, NoneTree, ThenTree, ScopeTree, LeaveTree, LeaveIfTree, LoopTree}
use Rattle.scopes.specs.Trees.{AgainTree, AgainIfTree, WhenTree, ChooseTree, NeverTree}
use Rattle.player_memory.specs.declared.labels.TheConstants.{SLIDES_LOW, SLIDES_HIGH}
use Rattle.player_memory.specs.Labels.{is_own, is_shared, is_tempo}
use Rattle.player_desk.proofs.VoiceDesks.{VoiceDesk, Reader, leaves_x, Fits, Either, Listed, OfAll, LowSlide, HighSlide}
use Rattle.player_desk.proofs.VoiceDesks.{SeenLeads, SlideLeads}
use Rattle.player_desk.proofs.VoiceDesks.{VarLeads, PutLeads, WritesLead, EffectLeads, ByteLeads, OperandLeads}
use Rattle.player_desk.proofs.VoiceDesks.{QuietLeads, alone_done, is_alone, Ways, done_as, in_scope, again_as}
use Rattle.player_desk.proofs.VoiceDesks.{TurnsLead, Leading}
use Rattle.scopes.specs.Meaning.{turns_in}

-- what follows
pub record Follows (one two : Ways) : Type 0 where
  pub done : (d : VoiceDesk) → one.Done d → two.Done d
  pub left : (name : ℕ) (d : VoiceDesk) → one.Left name d → two.Left name d
  pub again : (d : VoiceDesk) → one.Again d → two.Again d

pub fits_on : (b : Bool) (P Q : Type 0) → (P → Q) → Fits b P → Fits b Q
fits_on true P Q follows p = follows p
fits_on false P Q follows never = elim never [ ]

either_on : (z : Bool) (P Q R S : Type 0) → (P → R) → (Q → S) → Either z P Q → Either z R S
either_on true P Q R S one two p = one p
either_on false P Q R S one two p = two p

pub seen_on : (voiced : Bool) (r : Reader) (operand : Operand) (P Q : ℕ → Type 0) (d : VoiceDesk) →
    ((n : ℕ) → P n → Q n) → SeenLeads voiced r operand P d → SeenLeads voiced r operand Q d
seen_on voiced r (Number number) P Q d follows p = follows number p
seen_on voiced r (Var label) P Q d follows p =
    either_on (is_shared label) _ _ _ _ (follows _) (λ found. (found.0, follows _ found.1)) p
seen_on voiced r (Own label) P Q d follows p = fits_on (voiced && is_own label) _ _ (follows _) p
seen_on voiced r (Entry label) P Q d follows (Listed found p) = Listed found (follows _ p)
seen_on voiced r (Entry label) P Q d follows (OfAll other all is p) = OfAll other all is (follows _ p)
seen_on voiced r (Entry label) P Q d follows (LowSlide row kept few is p) = LowSlide row kept few is (follows _ p)
seen_on voiced r (Entry label) P Q d follows (HighSlide row kept few is p) = HighSlide row kept few is (follows _ p)
seen_on voiced r Pointed P Q d follows p = (p.0, follows _ p.1)
seen_on voiced r (Pointer Low) P Q d follows p = follows _ p
seen_on voiced r (Pointer High) P Q d follows p = follows _ p
seen_on voiced r (Register register) P Q d follows never = elim never [ ]
seen_on voiced r (OwnRegister register) P Q d follows never = elim never [ ]
seen_on voiced r (Timer half) P Q d follows never = elim never [ ]

var_on : (all tempo : Bool) (voice label byte : ℕ) (P Q : VoiceDesk → Type 0) (d : VoiceDesk) →
    ((m : VoiceDesk) → P m → Q m) → VarLeads all tempo voice label byte P d → VarLeads all tempo voice label byte Q d
var_on true tempo voice label byte P Q d follows p = follows _ p
var_on false true voice label byte P Q d follows p = follows _ p
var_on false false voice label byte P Q d follows never = elim never [ ]

slide_on : (low high : Bool) (r : Reader) (P Q : VoiceDesk → Type 0) (d one two : VoiceDesk) →
    ((m : VoiceDesk) → P m → Q m) → Either low (SlideLeads r (P one) d) (Fits high (SlideLeads r (P two) d)) →
    Either low (SlideLeads r (Q one) d) (Fits high (SlideLeads r (Q two) d))
slide_on true high r P Q d one two follows p = (p.0, p.1, follows one p.2)
slide_on false true r P Q d one two follows p = (p.0, p.1, follows two p.2)
slide_on false false r P Q d one two follows never = elim never [ ]

put_on : (voiced : Bool) (r : Reader) (operand : Operand) (byte : ℕ) (P Q : VoiceDesk → Type 0) (d : VoiceDesk) →
    ((m : VoiceDesk) → P m → Q m) → PutLeads voiced r operand byte P d → PutLeads voiced r operand byte Q d
put_on voiced r (Number number) byte P Q d follows never = elim never [ ]
put_on voiced r (Var label) byte P Q d follows p =
    var_on (is_shared label) (is_tempo label) r.voice label byte P Q d follows p
put_on voiced r (Own label) byte P Q d follows p = fits_on (voiced && is_own label) _ _ (follows _) p
put_on voiced r (Entry label) byte P Q d follows p =
    slide_on (nat_eq label SLIDES_LOW) (nat_eq label SLIDES_HIGH) r P Q d _ _ follows p
put_on voiced r Pointed byte P Q d follows never = elim never [ ]
put_on voiced r (Pointer Low) byte P Q d follows p = follows _ p
put_on voiced r (Pointer High) byte P Q d follows p = follows _ p
put_on voiced r (Register register) byte P Q d follows p = fits_on (nat_le register 24) _ _ (follows _) p
put_on voiced r (OwnRegister register) byte P Q d follows p = fits_on (voiced && nat_le register 6) _ _ (follows _) p
put_on voiced r (Timer half) byte P Q d follows never = elim never [ ]

writes_on : (voiced : Bool) (r : Reader) (operand : Operand) (writes : List Write) (P Q : VoiceDesk → Type 0)
    (d : VoiceDesk) → ((m : VoiceDesk) → P m → Q m) → WritesLead voiced r operand writes P d →
    WritesLead voiced r operand writes Q d
writes_on voiced r operand [] P Q d follows p = follows d p
writes_on voiced r operand (write ∷ []) P Q d follows p = put_on voiced r operand write.value P Q d follows p
writes_on voiced r operand (write ∷ other ∷ more) P Q d follows never = elim never [ ]

effect_on : (voiced : Bool) (r : Reader) (operand : Operand) (result : Option Effect) (P Q : VoiceDesk → Type 0)
    (d : VoiceDesk) → ((m : VoiceDesk) → P m → Q m) → EffectLeads voiced r operand result P d →
    EffectLeads voiced r operand result Q d
effect_on voiced r operand None P Q d follows never = elim never [ ]
effect_on voiced r operand (Some done) P Q d follows p = writes_on voiced r operand done.writes P Q _ follows p

operand_on : (store voiced : Bool) (r : Reader) (mnemonic : Mnemonic) (operand : Operand) (P Q : VoiceDesk → Type 0)
    (d : VoiceDesk) → ((m : VoiceDesk) → P m → Q m) → OperandLeads store voiced r mnemonic operand P d →
    OperandLeads store voiced r mnemonic operand Q d
operand_on true voiced r mnemonic operand P Q d follows p = effect_on voiced r operand _ P Q d follows p
operand_on false voiced r mnemonic operand P Q d follows p =
    seen_on voiced r operand (ByteLeads voiced r mnemonic operand P d) (ByteLeads voiced r mnemonic operand Q d) d
    (λ byte on. effect_on voiced r operand _ P Q d follows on) p

quiet_on : (result : Option Effect) (P Q : VoiceDesk → Type 0) (d : VoiceDesk) → ((m : VoiceDesk) → P m → Q m) →
    QuietLeads result P d → QuietLeads result Q d
quiet_on None P Q d follows never = elim never [ ]
quiet_on (Some done) P Q d follows p = follows _ p

pub turns_on : (Body : Ways → VoiceDesk → Type 0) →
    ((one two : Ways) (d : VoiceDesk) → Follows one two → Body one d → Body two d) → (count : ℕ) (one two : Ways)
    (d : VoiceDesk) → Follows one two → TurnsLead count Body one d → TurnsLead count Body two d
turns_on Body body zero one two d follows never = elim never [ ]
turns_on Body body (suc more) one two d follows p =
    body (again_as (TurnsLead more Body one) one) (again_as (TurnsLead more Body two) two) d
    (record {
      done = follows.done;
      left = follows.left;
      again = λ m q. turns_on Body body more one two m follows q;
    }) p

pub leads_on : (voiced : Bool) (r : Reader) (tree : Tree) (one two : Ways) (d : VoiceDesk) → Follows one two →
    Leading voiced r tree one d → Leading voiced r tree two d
leads_on voiced r (DoTree mnemonic) one two d follows p =
    fits_on (is_alone mnemonic) _ _ (quiet_on (alone_done mnemonic d) one.Done two.Done d follows.done) p
leads_on voiced r (WithTree mnemonic operand) one two d follows p =
    fits_on (leaves_x mnemonic) _ _
    (operand_on (is_store mnemonic) voiced r mnemonic operand one.Done two.Done d follows.done) p
leads_on voiced r NoneTree one two d follows p = follows.done d p
leads_on voiced r (ThenTree first rest) one two d follows p =
    leads_on voiced r first (done_as (Leading voiced r rest one) one) (done_as (Leading voiced r rest two) two) d
    (record {
      done = λ m q. leads_on voiced r rest one two m follows q;
      left = follows.left;
      again = follows.again;
    }) p
leads_on voiced r (ScopeTree name body) one two d follows p =
    leads_on voiced r body (in_scope name one) (in_scope name two) d
    (record {
      done = follows.done;
      left = λ other m q.
          either_on (nat_eq other name) (one.Done m) (one.Left other m) (two.Done m) (two.Left other m)
          (follows.done m) (follows.left other m) q;
      again = follows.again;
    }) p
leads_on voiced r (LeaveTree name) one two d follows p = follows.left name d p
leads_on voiced r (LeaveIfTree name test) one two d follows p =
    (λ met. follows.left name d (p.0 met), λ unmet. follows.done d (p.1 unmet))
leads_on voiced r (LoopTree count body) one two d follows p =
    turns_on (Leading voiced r body) (λ a b m f q. leads_on voiced r body a b m f q)
    (turns_in r.layout.open_turns count) one two d follows p
leads_on voiced r AgainTree one two d follows p = follows.again d p
leads_on voiced r (AgainIfTree test) one two d follows p =
    (λ met. follows.again d (p.0 met), λ unmet. follows.done d (p.1 unmet))
leads_on voiced r (WhenTree condition body) one two d follows p =
    (λ yes. leads_on voiced r body one two d follows (p.0 yes), λ no. follows.done d (p.1 no))
leads_on voiced r (ChooseTree condition this other) one two d follows p = (
  λ yes. leads_on voiced r this one two d follows (p.0 yes),
  λ no. leads_on voiced r other one two d follows (p.1 no),
)
leads_on voiced r NeverTree one two d follows never = elim never [ ]
