-- The desk as the code of a voice sees it: the voice's own bytes and those that no voice owns, each by its label, the
-- pointer, the slides by the rows of the speed table, the SID registers by their numbers, A, Y and the flags. What
-- lines do to it is computed where labels are numerals. The tempos of the other voices are among the shared bytes.
use Rattle.std.specs.Prelude.{◌≡◌, ℕ, zero, suc, ◌+◌, ◌*◌, ◌%◌, ◌<◌, ◌&&◌, Bool, true}
use Rattle.std.specs.Prelude.{false, not, if◌then◌else◌, List, [], ◌∷◌}
use Rattle.std.specs.Prelude.{Option, Some, None, nat_eq, nat_le}
use Rattle.cpu6502.specs.declared.cpu.Cpu.{Cpu}
use Rattle.cpu6502.specs.declared.effect.Write.{Write}
use Rattle.cpu6502.specs.declared.effect.Effect.{Effect}
use Rattle.cpu6502.specs.declared.mnemonic.Mnemonic.{Mnemonic}
use Rattle.cpu6502.specs.declared.mnemonic.Mnemonic.TheVariants.{Asl, Clc, Clv, Cpx, Dex, Dey, Inx, Iny, Ldx, Lsr}
use Rattle.cpu6502.specs.declared.mnemonic.Mnemonic.TheVariants.{Nop, Rol, Ror}
use Rattle.cpu6502.specs.declared.mnemonic.Mnemonic.TheVariants.{Sec, Stx, Tax, Tay, Txa, Tya}
use Rattle.cpu6502.specs.declared.memory.TheConstants.{MEMORY_SIZE}
use Rattle.cpu6502.specs.Shifts.{accumulator_effect}
use Rattle.cpu6502.specs.Effects.{effect_of, or_effect}
use Rattle.code_runs.specs.Runs.{put}
use Rattle.scopes.specs.declared.line.Operand.{Operand}
use Rattle.scopes.specs.declared.line.Operand.TheVariants.{Number, Var, Own, Entry, Pointed, Pointer, Register}
use Rattle.scopes.specs.declared.line.Operand.TheVariants.{OwnRegister, Timer}
use Rattle.scopes.specs.declared.line.Half.TheVariants.{Low, High}
use Rattle.scopes.specs.declared.line.Flag.{Flag}
use Rattle.scopes.specs.declared.line.Flag.TheVariants.{Zero, Minus, Carry}
use Rattle.scopes.specs.declared.line.Test.{Test}
use Rattle.scopes.specs.declared.line.Test.TheVariants.{On, Off}
use Rattle.scopes.specs.Desk.{Layout}
use Rattle.scopes.specs.Steps.{unless_stopped, is_store}
use Rattle.scopes.specs.Trees.{Tree, DoTree, WithTree, NoneTree, ThenTree, ScopeTree, LeaveTree, LeaveIfTree, LoopTree}
use Rattle.scopes.specs.Trees.{AgainTree, AgainIfTree, WhenTree, ChooseTree, NeverTree}
use Rattle.scopes.specs.Plain.{is_plain}
use Rattle.player_memory.specs.declared.conditions.TheConstants.{NOTE_DEPENDENT}
use Rattle.player_memory.specs.declared.labels.TheConstants.{TEMPO, SLIDES_LOW, SLIDES_HIGH}
use Rattle.player_memory.specs.Labels.{is_own, is_shared, is_tempo}
use Rattle.scopes.specs.Meaning.{turns_in}

pub record VoiceDesk : Type 0 where
  pub own : ℕ → ℕ
  pub shared : ℕ → ℕ
  pub low : ℕ
  pub high : ℕ
  pub slide_low : ℕ → ℕ
  pub slide_high : ℕ → ℕ
  pub sid : ℕ → ℕ
  pub a : ℕ
  pub y : ℕ
  pub c : Bool
  pub z : Bool
  pub n : Bool

-- what is read by Y: the layout, the voice, how many rows the speed table has with its row 0, and the memory before the
-- block, whose lists stand at some places
pub record Reader : Type 1 where
  pub layout : Layout
  pub voice : ℕ
  pub rows : ℕ
  pub before : ℕ → ℕ
  pub IsFound : ℕ → Type 0

-- ---- instructions

-- the registers, of which those that no block asks for are anything
abbrev pub cpu_of : VoiceDesk → Cpu
cpu_of d = record {
  a = d.a;
  x = 0;
  y = d.y;
  sp = 0;
  pc = 0;
  n = d.n;
  v = false;
  d = false;
  i = false;
  z = d.z;
  c = d.c;
}

abbrev pub with_cpu : Cpu → VoiceDesk → VoiceDesk
with_cpu cpu d = record d { a = cpu.a; y = cpu.y; c = cpu.c; z = cpu.z; n = cpu.n }

-- an instruction that the code of a voice may have: X stays 7 times the voice
abbrev pub leaves_x : Mnemonic → Bool
leaves_x Cpx = false
leaves_x Dex = false
leaves_x Inx = false
leaves_x Ldx = false
leaves_x Stx = false
leaves_x Tax = false
leaves_x Txa = false
leaves_x mnemonic = is_plain mnemonic

-- a fact, where a test by shape is met
abbrev pub Fits : Bool → Type 0 → Type 0
Fits true Q = Q
Fits false Q = ⊥

-- one of two facts
abbrev pub Either : Bool → Type 0 → Type 0 → Type 0
Either true P Q = P
Either false P Q = Q

-- ---- bytes

-- the place that the pointer and Y name together
abbrev pub pointed : VoiceDesk → ℕ
pointed d = (d.low + 256 * d.high + d.y) % MEMORY_SIZE

-- What is read by its label alone is a byte that no voice owns, or one of a list. An entry is one of a list, or a byte that no voice
-- owns, or a slide, where the code for calculated speeds is kept.
pub data EntryLeads (r : Reader) (place : ℕ) (Q : ℕ → Type 0) (d : VoiceDesk) : Type 0 where
  Listed : r.IsFound place → Q (r.before place) → EntryLeads r place Q d
  OfAll : (label : ℕ) → is_shared label ≡ true → place ≡ r.layout.address label → Q (d.shared label) →
      EntryLeads r place Q d
  LowSlide : (row : ℕ) → r.layout.holds NOTE_DEPENDENT ≡ true → row < r.rows →
      place ≡ r.layout.address SLIDES_LOW + row → Q (d.slide_low row) → EntryLeads r place Q d
  HighSlide : (row : ℕ) → r.layout.holds NOTE_DEPENDENT ≡ true → row < r.rows →
      place ≡ r.layout.address SLIDES_HIGH + row → Q (d.slide_high row) → EntryLeads r place Q d

abbrev pub SeenLeads : Bool → Reader → Operand → (ℕ → Type 0) → VoiceDesk → Type 0
SeenLeads voiced r (Number number) Q d = Q number
SeenLeads voiced r (Var label) Q d =
    Either (is_shared label) (Q (d.shared label))
    (r.IsFound (r.layout.address label) × Q (r.before (r.layout.address label)))
SeenLeads voiced r (Own label) Q d = Fits (voiced && is_own label) (Q (d.own label))
SeenLeads voiced r (Entry label) Q d = EntryLeads r ((r.layout.address label + d.y) % MEMORY_SIZE) Q d
SeenLeads voiced r Pointed Q d = r.IsFound (pointed d) × Q (r.before (pointed d))
SeenLeads voiced r (Pointer Low) Q d = Q d.low
SeenLeads voiced r (Pointer High) Q d = Q d.high
SeenLeads voiced r (Register register) Q d = ⊥
SeenLeads voiced r (OwnRegister register) Q d = ⊥
SeenLeads voiced r (Timer half) Q d = ⊥

-- a tempo, which is the voice's own byte or another's
abbrev pub with_tempo : ℕ → ℕ → ℕ → VoiceDesk → VoiceDesk
with_tempo voice label byte d = record d {
  own = if nat_eq label (TEMPO + 7 * voice) then put d.own TEMPO byte else d.own;
  shared = if nat_eq label (TEMPO + 7 * voice) then d.shared else put d.shared label byte;
}

-- a byte that no voice owns, or any voice's tempo
abbrev pub VarLeads : Bool → Bool → ℕ → ℕ → ℕ → (VoiceDesk → Type 0) → VoiceDesk → Type 0
VarLeads true tempo voice label byte Q d = Q (record d { shared = put d.shared label byte })
VarLeads false true voice label byte Q d = Q (with_tempo voice label byte d)
VarLeads false false voice label byte Q d = ⊥

-- a slide, where the code for calculated speeds is kept
abbrev pub SlideLeads : Reader → Type 0 → VoiceDesk → Type 0
SlideLeads r Q d = (r.layout.holds NOTE_DEPENDENT ≡ true) × (d.y < r.rows) × Q

-- a byte is written
abbrev pub PutLeads : Bool → Reader → Operand → ℕ → (VoiceDesk → Type 0) → VoiceDesk → Type 0
PutLeads voiced r (Number number) byte Q d = ⊥
PutLeads voiced r (Var label) byte Q d = VarLeads (is_shared label) (is_tempo label) r.voice label byte Q d
PutLeads voiced r (Own label) byte Q d = Fits (voiced && is_own label) (Q (record d { own = put d.own label byte }))
PutLeads voiced r (Entry label) byte Q d =
    Either (nat_eq label SLIDES_LOW) (SlideLeads r (Q (record d { slide_low = put d.slide_low d.y byte })) d)
    (Fits (nat_eq label SLIDES_HIGH) (SlideLeads r (Q (record d { slide_high = put d.slide_high d.y byte })) d))
PutLeads voiced r Pointed byte Q d = ⊥
PutLeads voiced r (Pointer Low) byte Q d = Q (record d { low = byte })
PutLeads voiced r (Pointer High) byte Q d = Q (record d { high = byte })
PutLeads voiced r (Register register) byte Q d = Fits (nat_le register 24)
    (Q (record d { sid = put d.sid register byte }))
PutLeads voiced r (OwnRegister register) byte Q d =
    Fits (voiced && nat_le register 6) (Q (record d { sid = put d.sid (register + 7 * r.voice) byte }))
PutLeads voiced r (Timer half) byte Q d = ⊥

-- ---- what an instruction does

abbrev pub WritesLead : Bool → Reader → Operand → List Write → (VoiceDesk → Type 0) → VoiceDesk → Type 0
WritesLead voiced r operand [] Q d = Q d
WritesLead voiced r operand (write ∷ []) Q d = PutLeads voiced r operand write.value Q d
WritesLead voiced r operand (write ∷ other ∷ more) Q d = ⊥

abbrev pub EffectLeads : Bool → Reader → Operand → Option Effect → (VoiceDesk → Type 0) → VoiceDesk → Type 0
EffectLeads voiced r operand None Q d = ⊥
EffectLeads voiced r operand (Some done) Q d = WritesLead voiced r operand done.writes Q (with_cpu done.cpu d)

-- on a byte
abbrev pub ByteLeads : Bool → Reader → Mnemonic → Operand → (VoiceDesk → Type 0) → VoiceDesk → ℕ → Type 0
ByteLeads voiced r mnemonic operand Q d byte =
    EffectLeads voiced r operand (unless_stopped (effect_of mnemonic 0 0 (λ place. byte) (cpu_of d))) Q d

abbrev pub OperandLeads : Bool → Bool → Reader → Mnemonic → Operand → (VoiceDesk → Type 0) → VoiceDesk → Type 0
OperandLeads true voiced r mnemonic operand Q d = ByteLeads voiced r mnemonic operand Q d 0
OperandLeads false voiced r mnemonic operand Q d = SeenLeads voiced r operand
    (ByteLeads voiced r mnemonic operand Q d) d

abbrev pub WithLeads : Bool → Reader → Mnemonic → Operand → (VoiceDesk → Type 0) → VoiceDesk → Type 0
WithLeads voiced r mnemonic operand Q d =
    Fits (leaves_x mnemonic) (OperandLeads (is_store mnemonic) voiced r mnemonic operand Q d)

-- without an operand: nothing is written
abbrev pub QuietLeads : Option Effect → (VoiceDesk → Type 0) → VoiceDesk → Type 0
QuietLeads None Q d = ⊥
QuietLeads (Some done) Q d = Q (with_cpu done.cpu d)

abbrev pub alone_done : Mnemonic → VoiceDesk → Option Effect
alone_done mnemonic d =
    or_effect (unless_stopped (accumulator_effect mnemonic 0 (cpu_of d)))
    (unless_stopped (effect_of mnemonic 0 0 (λ place. 0) (cpu_of d)))

-- those that work on A, Y and the flags alone
abbrev pub is_alone : Mnemonic → Bool
is_alone Asl = true
is_alone Clc = true
is_alone Clv = true
is_alone Dey = true
is_alone Iny = true
is_alone Lsr = true
is_alone Nop = true
is_alone Rol = true
is_alone Ror = true
is_alone Sec = true
is_alone Tay = true
is_alone Tya = true
is_alone _ = false

abbrev pub AloneLeads : Mnemonic → (VoiceDesk → Type 0) → VoiceDesk → Type 0
AloneLeads mnemonic Q d = Fits (is_alone mnemonic) (QuietLeads (alone_done mnemonic d) Q d)

-- A and Y with a byte, shown
abbrev pub loaded : ℕ → VoiceDesk → VoiceDesk
loaded byte d = record d { a = byte; z = nat_eq byte 0; n = nat_le 128 byte }

abbrev pub indexed : ℕ → VoiceDesk → VoiceDesk
indexed byte d = record d { y = byte; z = nat_eq byte 0; n = nat_le 128 byte }

-- ---- tests

abbrev pub flag_of : Flag → VoiceDesk → Bool
flag_of Zero d = d.z
flag_of Minus d = d.n
flag_of Carry d = d.c

abbrev pub is_met : Test → VoiceDesk → Bool
is_met (On flag) d = flag_of flag d
is_met (Off flag) d = not (flag_of flag d)

-- ---- trees

-- what must hold where lines end, where they leave a scope, and where they go on with the loop
pub record Ways : Type 1 where
  pub Done : VoiceDesk → Type 0
  pub Left : ℕ → VoiceDesk → Type 0
  pub Again : VoiceDesk → Type 0

abbrev pub done_as : (VoiceDesk → Type 0) → Ways → Ways
done_as Q ways = record ways { Done = Q }

abbrev pub in_scope : ℕ → Ways → Ways
in_scope name ways = record ways { Left = λ other d. Either (nat_eq other name) (ways.Done d) (ways.Left other d) }

abbrev pub again_as : (VoiceDesk → Type 0) → Ways → Ways
again_as Q ways = record ways { Again = Q }

abbrev pub TurnsLead : ℕ → (Ways → VoiceDesk → Type 0) → Ways → VoiceDesk → Type 0
TurnsLead zero Body ways d = ⊥
TurnsLead (suc more) Body ways d = Body (again_as (TurnsLead more Body ways) ways) d

-- From this desk a tree leads to where one of its ways holds, and reads by Y where it may.
abbrev pub Leading : Bool → Reader → Tree → Ways → VoiceDesk → Type 0
Leading voiced r (DoTree mnemonic) ways d = AloneLeads mnemonic ways.Done d
Leading voiced r (WithTree mnemonic operand) ways d = WithLeads voiced r mnemonic operand ways.Done d
Leading voiced r NoneTree ways d = ways.Done d
Leading voiced r (ThenTree first rest) ways d = Leading voiced r first (done_as (Leading voiced r rest ways) ways) d
Leading voiced r (ScopeTree name body) ways d = Leading voiced r body (in_scope name ways) d
Leading voiced r (LeaveTree name) ways d = ways.Left name d
Leading voiced r (LeaveIfTree name test) ways d =
    (is_met test d ≡ true → ways.Left name d) × (is_met test d ≡ false → ways.Done d)
Leading voiced r (LoopTree count body) ways d =
    TurnsLead (turns_in r.layout.open_turns count) (Leading voiced r body) ways d
Leading voiced r AgainTree ways d = ways.Again d
Leading voiced r (AgainIfTree test) ways d = (is_met test d ≡ true → ways.Again d) ×
    (is_met test d ≡ false → ways.Done d)
Leading voiced r (WhenTree condition body) ways d =
    (r.layout.holds condition ≡ true → Leading voiced r body ways d) × (r.layout.holds condition ≡ false → ways.Done d)
Leading voiced r (ChooseTree condition this other) ways d =
    (r.layout.holds condition ≡ true → Leading voiced r this ways d)
    × (r.layout.holds condition ≡ false → Leading voiced r other ways d)
Leading voiced r NeverTree ways d = ⊥

-- the code of a voice, with 7 times its number in X; and code that no voice owns
abbrev pub Leads : Reader → Tree → Ways → VoiceDesk → Type 0
Leads r tree ways d = Leading true r tree ways d

abbrev pub LeadsAlone : Reader → Tree → Ways → VoiceDesk → Type 0
LeadsAlone r tree ways d = Leading false r tree ways d
