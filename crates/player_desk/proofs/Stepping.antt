-- What an instruction does on the desk of a voice it does in memory.
use Rattle.std.proofs.Common.{◌≡◌, ℕ}
use Rattle.std.proofs.Common.{◌&&◌, ◌||◌, Bool, true, false}
use Rattle.std.proofs.Common.{Option, Some, None, refl, sym, ◌∙◌, subst}
use Rattle.std.proofs.Common.{if◌then◌else◌}
use Rattle.std.proofs.lemmas.Bool.{or_left, or_right}
use Rattle.cpu6502.specs.declared.cpu.Cpu.{Cpu}
use Rattle.cpu6502.specs.declared.effect.Effect.{Effect}
use Rattle.cpu6502.specs.declared.mnemonic.Mnemonic.{Mnemonic}
use Rattle.cpu6502.specs.Shifts.{accumulator_effect}
use Rattle.cpu6502.specs.Effects.{effect_of, or_effect}
use Rattle.code_runs.specs.Runs.{put}
use Rattle.scopes.specs.declared.line.Operand.{Operand}
use Rattle.scopes.specs.declared.line.Operand.TheVariants.{Number, Var, Own, Entry, Pointed, Pointer, Register}
use Rattle.scopes.specs.declared.line.Operand.TheVariants.{OwnRegister, Timer}
use Rattle.scopes.specs.Desk.{Desk, Layout, operand_place, operand_read}
use Rattle.scopes.specs.Steps.{unless_stopped, is_store, effected, may_see, may_change, done, done_with}
use Rattle.player_desk.proofs.VoiceDesks.{VoiceDesk, Reader, cpu_of, with_cpu, leaves_x}
use Rattle.player_desk.proofs.VoiceDesks.{EffectLeads, ByteLeads, OperandLeads, WithLeads}
use Rattle.player_desk.proofs.VoiceDesks.{QuietLeads, alone_done, is_alone, AloneLeads}
use Rattle.player_desk.proofs.Effects.{SameEffect, Quiet, Stores, SameQuiet, BothQuiet, same_effect}
use Rattle.player_desk.proofs.Effects.{same_alone}
use Rattle.player_desk.proofs.Showing.{Shows, Ground, cpu_shows, seen_cpu, fit, seen}
use Rattle.player_desk.proofs.Writing.{Put, written}

-- ---- instructions

-- what an instruction comes to: a desk that is shown
pub record Steps (voiced : Bool) (r : Reader) (result : Option Desk) (Q : VoiceDesk → Type 0) : Type 0 where
  pub behind : Desk
  pub is : result ≡ Some behind
  pub put_is : Put voiced r behind Q

-- a place depends on X, Y and the memory
pub same_place : (layout : Layout) (operand : Operand) (desk : Desk) (one : Cpu) →
    operand_place layout operand desk
    ≡ operand_place layout operand (record { cpu = record one { x = desk.cpu.x; y = desk.cpu.y }; at = desk.at })
same_place layout (Number number) desk one = refl
same_place layout (Var label) desk one = refl
same_place layout (Own label) desk one = refl
same_place layout (Entry label) desk one = refl
same_place layout Pointed desk one = refl
same_place layout (Pointer half) desk one = refl
same_place layout (Register register) desk one = refl
same_place layout (OwnRegister register) desk one = refl
same_place layout (Timer half) desk one = refl

pub if_may : (may : Bool) (desk : Desk) → may ≡ true → (if may && true then Some desk else None) ≡ Some desk
if_may true desk e = refl
if_may false desk e = absurd (cc)

pub effect_steps : {voiced : Bool} {r : Reader} {desk : Desk} {d : VoiceDesk} → Ground r → (operand : Operand)
    (one two : Option Effect) (Q : VoiceDesk → Type 0) → Shows voiced r desk d →
    SameEffect desk.cpu (operand_place r.layout operand desk) d.y one two → EffectLeads voiced r operand two Q d →
    Steps voiced r (effected (may_change r.layout operand) desk one) Q
effect_steps {d = d} ground operand one two Q shows (Quiet first second agree) leads = record {
  behind = record { cpu = first; at = _ };
  is = refl;
  put_is = record { after = with_cpu second d; shows = cpu_shows shows first second agree; follows = leads };
}
effect_steps {voiced = voiced} {r = r} {desk = desk} {d = d} ground operand one two Q shows
    (Stores first second byte agree same_y) leads =
    let w =
    written ground operand desk.cpu.x desk.cpu.y (operand_place r.layout operand desk) byte Q shows.x
    (shows.y ∙ sym same_y)
    (same_place r.layout operand desk first) (cpu_shows shows first second agree) leads in record {
      behind = record { cpu = first; at = put desk.at (operand_place r.layout operand desk) byte };
      is = if_may (may_change r.layout operand (operand_place r.layout operand desk)) _ w.may;
      put_is = w.put_is;
    }

-- with an operand
pub if_sees : (sees : Bool) (result : Option Desk) → sees ≡ true → (if sees then result else None) ≡ result
if_sees true result e = refl
if_sees false result e = absurd (cc)

pub byte_steps : {voiced : Bool} {r : Reader} {desk : Desk} {d : VoiceDesk} → Ground r → (mnemonic : Mnemonic)
    (operand : Operand) (byte : ℕ) (Q : VoiceDesk → Type 0) → leaves_x mnemonic ≡ true →
    (is_store mnemonic ≡ false → operand_read operand desk (operand_place r.layout operand desk) ≡ byte) →
    (is_store mnemonic || may_see r.layout operand (operand_place r.layout operand desk)) ≡ true →
    Shows voiced r desk d → ByteLeads voiced r mnemonic operand Q d byte →
    Steps voiced r (done_with r.layout mnemonic operand desk) Q
byte_steps {voiced = voiced} {r = r} {desk = desk} {d = d} ground mnemonic operand byte Q leaves same sees shows leads =
    let place = operand_place r.layout operand desk in
    let read = operand_read operand desk in
    let cpu = seen_cpu shows in
    let steps =
    effect_steps ground operand (unless_stopped (effect_of mnemonic 0 place read desk.cpu))
    (unless_stopped (effect_of mnemonic 0 0 (λ q. byte) (cpu_of d))) Q shows
    (subst (λ c. SameEffect desk.cpu place d.y (unless_stopped (effect_of mnemonic 0 place read c))
    (unless_stopped (effect_of mnemonic 0 0 (λ q. byte) (cpu_of d)))) (sym cpu)
    (same_effect mnemonic desk.cpu d place byte read leaves same)) leads in record {
      behind = steps.behind;
      is = if_sees (is_store mnemonic || may_see r.layout operand place) _ sees ∙ steps.is;
      put_is = steps.put_is;
    }

pub with_steps : {voiced : Bool} {r : Reader} {desk : Desk} {d : VoiceDesk} → Ground r → (mnemonic : Mnemonic)
    (operand : Operand) (Q : VoiceDesk → Type 0) → Shows voiced r desk d → WithLeads voiced r mnemonic operand Q d →
    Steps voiced r (done_with r.layout mnemonic operand desk) Q
with_steps {voiced = voiced} {r = r} {desk = desk} {d = d} ground mnemonic operand Q shows leads =
    let f = fit (leaves_x mnemonic) (OperandLeads (is_store mnemonic) voiced r mnemonic operand Q d) leads in
    by_store (is_store mnemonic) refl f.0 f.1
  where
    by_store : (z : Bool) → is_store mnemonic ≡ z → leaves_x mnemonic ≡ true →
        OperandLeads z voiced r mnemonic operand Q d → Steps voiced r (done_with r.layout mnemonic operand desk) Q
    by_store true store leaves leads =
        byte_steps ground mnemonic operand 0 Q leaves (λ no. (let never : true ≡ false = sym store ∙ no in cc))
        (or_left (is_store mnemonic) (may_see r.layout operand (operand_place r.layout operand desk)) store) shows leads
    by_store false store leaves leads =
        let s = seen ground operand (ByteLeads voiced r mnemonic operand Q d) shows leads in
        byte_steps ground mnemonic operand s.byte Q leaves (λ no. s.same)
        (or_right (is_store mnemonic) (may_see r.layout operand (operand_place r.layout operand desk)) s.may) shows
        s.follows

-- without
pub quiet_steps : {voiced : Bool} {r : Reader} {desk : Desk} {d : VoiceDesk} → (one two : Option Effect)
    (Q : VoiceDesk → Type 0) → Shows voiced r desk d → SameQuiet desk.cpu one two → QuietLeads two Q d →
    Steps voiced r (effected r.layout.may_write desk one) Q
quiet_steps {d = d} one two Q shows (BothQuiet first second agree) leads = record {
  behind = record { cpu = first; at = _ };
  is = refl;
  put_is = record { after = with_cpu second d; shows = cpu_shows shows first second agree; follows = leads };
}

pub alone_steps : {voiced : Bool} {r : Reader} {desk : Desk} {d : VoiceDesk} → (mnemonic : Mnemonic)
    (Q : VoiceDesk → Type 0) → Shows voiced r desk d → AloneLeads mnemonic Q d →
    Steps voiced r (done r.layout mnemonic desk) Q
alone_steps {r = r} {desk = desk} {d = d} mnemonic Q shows leads =
    let f = fit (is_alone mnemonic) (QuietLeads (alone_done mnemonic d) Q d) leads in
    quiet_steps (or_effect (unless_stopped (accumulator_effect mnemonic 0 desk.cpu))
    (unless_stopped (effect_of mnemonic 0 0 desk.at desk.cpu))) (alone_done mnemonic d) Q shows
    (subst (λ c. SameQuiet desk.cpu (or_effect (unless_stopped (accumulator_effect mnemonic 0 c))
    (unless_stopped (effect_of mnemonic 0 0 desk.at c))) (alone_done mnemonic d)) (sym (seen_cpu shows))
    (same_alone mnemonic desk.cpu d desk.at f.0)) f.1
