-- Calls of small images: their routines stand where the image does, so a call does what its routine does.
use Rattle.std.proofs.Common.{◌≡◌, ℕ, suc, ◌+◌, ◌*◌, ◌<◌, ◌≤◌, Bool, true, ◌&&◌, List, []}
use Rattle.std.proofs.Common.{◌∷◌, ◌++◌, length, slice_index, lit<, lit≤, refl, ap, ◌∙◌, subst, arith}
use Rattle.cpu6502.specs.declared.machine.Machine.{Machine}
use Rattle.cpu6502.specs.declared.mnemonic.Mnemonic.TheVariants.{Jmp}
use Rattle.cpu6502.specs.Code.{IsMachine, Holds}
use Rattle.code_runs.specs.Runs.{cycles_from}
use Rattle.code_runs.specs.Calls.{IsBelow, CallsTo}
use Rattle.code_runs.proofs.Laws.{stands_absolute, entry_kept}
use Rattle.faithful.specs.Histories.{ImageCall, Init, Play, entry_of}
use Rattle.faithful.specs.Routines.{Op, LoadA, LoadX, FetchA, StoreA, StoreX, SkipNop, Wait, routine, image_with, image_of}
use Rattle.faithful.proofs.LoadedCalls.{and_true, are_bytes}
use Rattle.faithful.proofs.Routines.{EachStore, IsSafe, BytesStand, begun, ended, call_steps, HasRoutine, routine_is_called}
use Rattle.faithful.proofs.PlainRoutines.{are_plain, ops_cycles, routine_takes}

-- ---- where routines stand

pub bytes_from : (at : ℕ → ℕ) (pc : ℕ) (bytes : List ℕ) → pc + length bytes ≤ 0x2000 →
    ((k : ℕ) → k < length bytes → at (pc + k) ≡ slice_index bytes k) → BytesStand at pc bytes
bytes_from at pc [] room held = tt
bytes_from at pc (byte ∷ bytes) room held = (
  ap at (here pc) ∙ held 0 (omega arith),
  (omega (arith, room)),
  bytes_from at (pc + 1) bytes (omega (arith, room)) (λ k few. ap at (next pc k) ∙ held (suc k) (omega (arith, few))),
)
  where
    here : (pc : ℕ) → pc ≡ pc + 0
    here pc = omega arith

    next : (pc k : ℕ) → pc + 1 + k ≡ pc + suc k
    next pc k = omega arith

front : (at : ℕ → ℕ) (pc : ℕ) (one two : List ℕ) → BytesStand at pc (one ++ two) → BytesStand at pc one
front at pc [] two has = tt
front at pc (byte ∷ one) two has = (has.0, has.1, front at (pc + 1) one two has.2)

behind : (at : ℕ → ℕ) (pc : ℕ) (one two : List ℕ) → BytesStand at pc (one ++ two) →
    BytesStand at (pc + length one) two
behind at pc [] two has = subst (λ p. BytesStand at p two) (here pc) has
  where
    here : (pc : ℕ) → pc ≡ pc + 0
    here pc = omega arith
behind at pc (byte ∷ one) two has =
    subst (λ p. BytesStand at p two) (next pc (length one)) (behind at (pc + 1) one two has.2)
  where
    next : (pc n : ℕ) → pc + 1 + n ≡ pc + suc n
    next pc n = omega arith

-- the jump of init reaches, the image lies below $2000, and its bytes are bytes
pub record Fits (init play : List Op) : Type 0 where
  pub room : 0x1000 + length (image_of init play) ≤ 0x2000
  pub bytes : are_bytes (image_of init play) ≡ true

-- the routine of a call, and where it stands
abbrev pub ops_of : List Op → List Op → ImageCall → List Op
ops_of init play (Init k) = init
ops_of init play Play = play

abbrev pub target_of : List Op → ImageCall → ℕ
target_of init (Init k) = 0x1006
target_of init Play = 0x1006 + length (routine init)

play_target : (n : ℕ) → 6 + n + 256 * 0x10 ≡ 0x1006 + n
play_target n = omega arith

-- the jump to play, and the routines
abbrev pub play_part : List Op → List Op → List ℕ
play_part init play = 0x4C ∷ (6 + length (routine init)) ∷ 0x10 ∷ (routine init ++ routine play)

pub init_routine : (opcode : ℕ) (init play : List Op) (at : ℕ → ℕ) → BytesStand at 0x1000 (image_with opcode init play) →
    HasRoutine at 0x1000 0x1006 init
init_routine opcode init play at has = record {
  away = lit< tt;
  jump = stands_absolute at 0x1000 0x4C 0x1001 0x1002 0x06 0x10 0x1006 Jmp has.0 refl refl refl has.2.0 has.2.2.0 refl;
  from = lit≤ tt;
  bytes = front at 0x1006 (routine init) (routine play) has.2.2.2.2.2.2;
}

pub play_routine : (init play : List Op) (at : ℕ → ℕ) → BytesStand at 0x1003 (play_part init play) →
    HasRoutine at 0x1003 (0x1006 + length (routine init)) play
play_routine init play at has = record {
  away = lit< tt;
  jump = stands_absolute at 0x1003 0x4C 0x1004 0x1005 (6 + length (routine init)) 0x10 (0x1006 + length (routine init)) Jmp
      has.0 refl refl refl has.2.0 has.2.2.0 (play_target (length (routine init)));
  from = omega arith;
  bytes = behind at 0x1006 (routine init) (routine play) has.2.2.2;
}

has_routine : (init play : List Op) (at : ℕ → ℕ) (call : ImageCall) → BytesStand at 0x1000 (image_of init play) →
    HasRoutine at (entry_of 0x1000 call) (target_of init call) (ops_of init play call)
has_routine init play at (Init k) has = init_routine 0x4C init play at has
has_routine init play at Play has = play_routine init play at has.2.2.2

image_stands : (init play : List Op) (machine : Machine) (entry number : ℕ) → Fits init play → IsMachine machine →
    Holds machine.memory 0x1000 (image_of init play) →
    BytesStand (begun machine entry number).at 0x1000 (image_of init play)
image_stands init play machine entry number fits is held =
    bytes_from (begun machine entry number).at 0x1000 (image_of init play) fits.room
    (λ k few. entry_kept machine (0x1000 + k) is.size (omega arith) ∙ held.byte k few)

-- ---- tests of the places at which a routine stores

abbrev pub stores_pass : (ℕ → Bool) → List Op → Bool
stores_pass test [] = true
stores_pass test (LoadA byte ∷ ops) = stores_pass test ops
stores_pass test (LoadX byte ∷ ops) = stores_pass test ops
stores_pass test (FetchA place ∷ ops) = stores_pass test ops
stores_pass test (StoreA place ∷ ops) = test place && stores_pass test ops
stores_pass test (StoreX place ∷ ops) = test place && stores_pass test ops
stores_pass test (SkipNop ∷ ops) = stores_pass test ops
stores_pass test (Wait turns ∷ ops) = stores_pass test ops

pub each_store : (P : ℕ → Type 0) (test : ℕ → Bool) → ((place : ℕ) → test place ≡ true → P place) → (ops : List Op) →
    stores_pass test ops ≡ true → EachStore P ops
each_store P test is [] pass = tt
each_store P test is (LoadA byte ∷ ops) pass = each_store P test is ops pass
each_store P test is (LoadX byte ∷ ops) pass = each_store P test is ops pass
each_store P test is (FetchA place ∷ ops) pass = each_store P test is ops pass
each_store P test is (StoreA place ∷ ops) pass =
    (is place (and_true pass).0, each_store P test is ops (and_true pass).1)
each_store P test is (StoreX place ∷ ops) pass =
    (is place (and_true pass).0, each_store P test is ops (and_true pass).1)
each_store P test is (SkipNop ∷ ops) pass = each_store P test is ops pass
each_store P test is (Wait turns ∷ ops) pass = each_store P test is ops pass

-- ---- calls

pub small_call : (W : ℕ → Type 0) → IsBelow W → (init play : List Op) → Fits init play → (machine : Machine)
    (call : ImageCall) (number : ℕ) → IsMachine machine → Holds machine.memory 0x1000 (image_of init play) →
    EachStore (IsSafe W machine.cpu.sp) (ops_of init play call) →
    CallsTo W machine (entry_of 0x1000 call) number
    (call_steps machine (entry_of 0x1000 call) number (ops_of init play call))
    (ended machine (entry_of 0x1000 call) number (ops_of init play call))
small_call W below init play fits machine call number is held each =
    routine_is_called W below machine (entry_of 0x1000 call) number (target_of init call) (ops_of init play call) is.size
    is.sp
    (has_routine init play (begun machine (entry_of 0x1000 call) number).at call
    (image_stands init play machine (entry_of 0x1000 call) number fits is held)) each

-- its cycles, where the routine loads and stores alone
pub small_takes : (W : ℕ → Type 0) (init play : List Op) → Fits init play → (machine : Machine)
    (call : ImageCall) (number : ℕ) → IsMachine machine → Holds machine.memory 0x1000 (image_of init play) →
    EachStore (IsSafe W machine.cpu.sp) (ops_of init play call) → are_plain (ops_of init play call) ≡ true →
    cycles_from (call_steps machine (entry_of 0x1000 call) number (ops_of init play call))
    (begun machine (entry_of 0x1000 call) number)
    ≡ 3 + (ops_cycles (ops_of init play call) + 6)
small_takes W init play fits machine call number is held each plain =
    routine_takes W machine (entry_of 0x1000 call) number (target_of init call) (ops_of init play call) is.size is.sp
    (has_routine init play (begun machine (entry_of 0x1000 call) number).at call
    (image_stands init play machine (entry_of 0x1000 call) number fits is held)) each plain
