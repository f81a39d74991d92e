-- Entrances that are worked by hand at $1000: one that sets the volume to the number of the call, and one whose three
-- voices each write X into a register of their own. Both are well entered, so what the law on entrances asks can be
-- met. Source: the MOS 6502 programming manual.
use Rattle.std.specs.Prelude.{◌≡◌, ◌≢◌, ℕ, ◌⊎◌, ◌≤◌, ◌&&◌, Bool, true, false, not, nat_eq, nat_le}
use Rattle.std.specs.Prelude.{List, [], ◌∷◌, Some, None, length, slice_index}
use Rattle.cpu6502.specs.declared.cpu.Cpu.{Cpu}
use Rattle.cpu6502.specs.declared.machine.Machine.{Machine}
use Rattle.cpu6502.specs.declared.memory.TheConstants.{MEMORY_SIZE}
use Rattle.cpu6502.specs.declared.mnemonic.Mnemonic.TheVariants.{Jmp, Jsr, Lda, Sta, Stx, Sty, Txa}
use Rattle.cpu6502.specs.declared.mnemonic.Mode.TheVariants.{Absolute}
use Rattle.cpu6502.specs.Code.{Holds}
use Rattle.asm6502.specs.declared.lines.Item.TheVariants.{Label as Named}
use Rattle.asm6502.specs.declared.lines.Operand.TheVariants.{Label}
use Rattle.asm6502.specs.Assembly.{assembled_bytes}
use Rattle.scopes.specs.declared.line.Line.TheVariants.{Do, End}
use Rattle.scopes.specs.declared.line.Operand.TheVariants.{Number, Var, Register, OwnRegister}
use Rattle.scopes.specs.Desk.{Desk, Layout}
use Rattle.scopes.specs.Trees.{DoTree, WithTree, NoneTree, ThenTree, LeaveTree, NeverTree}
use Rattle.scopes.specs.Meaning.{Left, Stuck}
use Rattle.scope_lines.specs.Instructions.{code}
use Rattle.scope_calls.specs.Entrances.{Entrance, have_lines}
use Rattle.scope_calls.specs.Meaning.{entrance_ran}
use Rattle.scope_calls.specs.Listed.{Listed, listing_at, HasCode, IsCode, IsWellEntered, MayStore}
use Rattle.scope_calls.specs.EntranceLaws.{Returns, IsApart, AreAlike, AgreeOnListing, entrance_weight, are_known}
use Rattle.scope_calls.specs.Homes.{entrance_uses}
use Rattle.scope_calls.specs.Written.{is_voice}

-- ---- what is worked

-- these bytes are at these places of a memory
abbrev pub AreAt : (ℕ → ℕ) → List (ℕ × ℕ) → Type 0
AreAt at [] = Unit {0}
AreAt at (one ∷ others) = (at one.0 ≡ one.1) × AreAt at others

-- a machine whose stack is empty
abbrev pub machine_of : Cpu → List ℕ → Machine
machine_of cpu memory = record { cpu = record cpu { sp = 0xFF }; memory = memory }

-- a call at the entrance takes so many steps, and leaves these bytes
pub record Leaves (e : Listed) (machine : Machine) (number steps : ℕ) (bytes : List (ℕ × ℕ)) : Type 0 where
  pub call : Returns e machine number
  pub steps_are : call.steps ≡ steps
  pub bytes_are : AreAt (slice_index call.after.memory) bytes

-- an entrance is well entered, its listing has these bytes, and its code stands where they do. Its blocks read what is
-- known alone. Called with any number it takes so many steps, the most that it may, and leaves what is said of the
-- number
pub record IsCalledSo (e : Listed) (bytes : List ℕ) (steps : ℕ) (left : ℕ → List (ℕ × ℕ)) : Type 0 where
  pub are : assembled_bytes e.set e.origin (listing_at e) ≡ bytes
  pub well : IsWellEntered e
  pub code : (memory : List ℕ) → Holds memory 0x1000 bytes → HasCode e (slice_index memory)
  pub known : are_known e.entrance ≡ true
  pub weighs : entrance_weight e.entrance ≡ steps
  pub calls : (cpu : Cpu) (memory : List ℕ) (number : ℕ) → length memory ≡ MEMORY_SIZE → Holds memory 0x1000 bytes →
      Leaves e (machine_of cpu memory) number steps (left number)

-- ---- the two

-- behind label 1, with the pointer at $FC and $FD
abbrev pub plain_entrance : Entrance
plain_entrance = record {
  label = 1;
  numbered = false;
  first = NeverTree;
  voice = None;
  pointer = 0xFC;
  holds = λ condition. false;
}

-- at $1000, with a jump to label 1 in front. It may write the SID's registers, and read the volume alone
abbrev pub listed : Entrance → Listed
listed entrance = record {
  front = code Jmp Absolute (Label 1 0) ∷ record { part = 255; item = Named 1 } ∷ [];
  entrance = entrance;
  back = [];
  set = 0;
  origin = 0x1000;
  entry = 0x1000;
  open_turns = 255;
  may_read = λ place. nat_eq place 0xD418;
  may_write = λ place. nat_le 0xD400 place && nat_le place 0xD418;
}

-- the number becomes the volume
abbrev pub volume_entrance : Listed
volume_entrance = listed (record plain_entrance { numbered = true; first = WithTree Sta (Register 24) })

-- JMP $1003, CLD, STA $D418, RTS
abbrev pub volume_code : List ℕ
volume_code = 0x4C ∷ 0x03 ∷ 0x10 ∷ 0xD8 ∷ 0x8D ∷ 0x18 ∷ 0xD4 ∷ 0x60 ∷ []

-- four steps
abbrev pub VolumeIsCalled : Type 0
VolumeIsCalled = IsCalledSo volume_entrance volume_code 4 (λ number. (0xD418, number) ∷ [])

-- the volume is 15, and each voice's control is X
abbrev pub voices_entrance : Listed
voices_entrance =
    listed
    (record plain_entrance {
      first = ThenTree (WithTree Lda (Number 15)) (WithTree Sta (Register 24));
      voice = Some (ThenTree (DoTree Txa) (WithTree Sta (OwnRegister 4)));
    })

-- JMP $1003, CLD, LDA #$0F, STA $D418, LDX #$00, JSR $1015, LDX #$07, JSR $1015, LDX #$0E, at $1015 TXA, STA $D404,X,
-- RTS
abbrev pub voices_code : List ℕ
voices_code =
    0x4C ∷ 0x03 ∷ 0x10 ∷ 0xD8 ∷ 0xA9 ∷ 0x0F ∷ 0x8D ∷ 0x18 ∷ 0xD4 ∷ 0xA2 ∷ 0x00 ∷ 0x20 ∷ 0x15
    ∷ 0x10 ∷ 0xA2 ∷ 0x07 ∷ 0x20
    ∷ 0x15 ∷ 0x10 ∷ 0xA2 ∷ 0x0E ∷ 0x8A ∷ 0x9D ∷ 0x04 ∷ 0xD4 ∷ 0x60 ∷ []

-- 18 steps; below the call's own return address, at $01FF and $01FE, stands that of the second voice, the place of its
-- JSR's last byte, $1012
abbrev pub VoicesAreCalled : Type 0
VoicesAreCalled =
    IsCalledSo voices_entrance voices_code 18
    (λ number. (0xD418, 15) ∷ (0xD404, 0) ∷ (0xD40B, 7) ∷ (0xD412, 14) ∷ (0x01FD, 0x10) ∷ (0x01FC, 0x12) ∷ [])

-- two calls with different numbers aren't alike: each has left its own as the volume
abbrev pub NumbersMatter : Type 0
NumbersMatter =
    (one two : Machine) (number other : ℕ) → number ≢ other → (a : Returns volume_entrance one number)
    (b : Returns volume_entrance two other) → AreAlike volume_entrance one two number other a b → ⊥

-- ---- what is none, or comes to no return

-- a block with a call has no lines, nor has one that leaves a scope that isn't around it
abbrev pub NoCallInBlocks : Type 0
NoCallInBlocks = have_lines (record plain_entrance { voice = Some (WithTree Jsr (Var 3)) }) ≡ false

abbrev pub NothingIsAround : Type 0
NothingIsAround = have_lines (record plain_entrance { first = LeaveTree 0; voice = Some NeverTree }) ≡ false

-- A isn't known in front of the first block where calls come with no number, nor X where they do, nor Y in front of a
-- voice's
abbrev pub AIsNotKnown : Type 0
AIsNotKnown = are_known (record volume_entrance.entrance { numbered = false }) ≡ false

abbrev pub XIsNotKnown : Type 0
XIsNotKnown = are_known (record volume_entrance.entrance { first = WithTree Stx (Register 24) }) ≡ false

abbrev pub YIsNotKnown : Type 0
YIsNotKnown = are_known (record plain_entrance { voice = Some (WithTree Sty (Register 24)) }) ≡ false

-- an entrance uses the label that it counts from, 1, and those of its blocks, here 2 and 3, and no other
abbrev pub labels_within : (ℕ → Bool) → Bool
labels_within others =
    entrance_uses others
    (record plain_entrance { first = WithTree Lda (Var 2); voice = Some (WithTree Lda (Var 3)) })

pub record LabelsAreUsed : Type 0 where
  pub no_other : labels_within (λ label. nat_le 1 label && nat_le label 3) ≡ true
  pub label : labels_within (λ label. not (nat_eq label 1)) ≡ false
  pub first : labels_within (λ label. not (nat_eq label 2)) ≡ false
  pub voice : labels_within (λ label. not (nat_eq label 3)) ≡ false

-- a block that doesn't come to its end goes on to nothing: not the first one, and none of a voice's
abbrev pub FirstMustEnd : Type 0
FirstMustEnd =
    (layout : Layout) (desk : Desk) →
    (entrance_ran layout (record plain_entrance { first = LeaveTree 0 }) desk).outcome ≡ Left 0

abbrev pub VoicesMustEnd : Type 0
VoicesMustEnd =
    (layout : Layout) (desk : Desk) →
    (entrance_ran layout (record plain_entrance { first = NoneTree; voice = Some NeverTree }) desk).outcome ≡ Stuck

-- where a call may write: a SID register or a byte of the pointer; and, where it has voices, of a call with the stack
-- pointer $FF the two bytes of the stack, alone
pub data IsBlocks (place : ℕ) : Type 0 where
  AtSid : 0xD400 ≤ place → place ≤ 0xD418 → IsBlocks place
  AtPointer : 0xFC ≤ place → place ≤ 0xFD → IsBlocks place

abbrev pub VolumeStoresThere : Type 0
VolumeStoresThere = (sp place : ℕ) → MayStore volume_entrance sp place → IsBlocks place

abbrev pub VoicesStoreThere : Type 0
VoicesStoreThere =
    (place : ℕ) → MayStore voices_entrance 0xFF place → IsBlocks place ⊎ ((place ≡ 0x01FD) ⊎ (place ≡ 0x01FC))

-- the code is apart from what a call writes, and the volume isn't
abbrev pub VolumeIsApart : Type 0
VolumeIsApart = (place : ℕ) → IsCode volume_entrance place → IsApart volume_entrance place

abbrev pub RegisterIsNotApart : Type 0
RegisterIsNotApart = IsApart volume_entrance 0xD418 → ⊥

-- which lines may be done for each voice: a block's, or none
pub record VoicesAreBlocks : Type 0 where
  pub none : is_voice None ≡ true
  pub block : is_voice (Some (Do Txa ∷ [])) ≡ true
  pub end_too_many : is_voice (Some (End ∷ [])) ≡ false

-- two machines that have the same byte at each place but one
abbrev pub IsOtherAt : ℕ → Machine → Machine → Type 0
IsOtherAt other one two =
    (place : ℕ) → place ≢ other → slice_index one.memory place ≡ slice_index two.memory place

-- another byte behind the listing is no matter, and one in it is: it ends at $1008
pub record ListingsAgree : Type 0 where
  pub behind : (one two : Machine) → IsOtherAt 0x1008 one two → AgreeOnListing volume_entrance one two
  pub inside : (one two : Machine) → slice_index one.memory 0x1007 ≢ slice_index two.memory 0x1007 →
      AgreeOnListing volume_entrance one two → ⊥
