-- Images that are loaded into zeros; and that a call ends in one machine.
use Rattle.std.specs.Prelude.{◌&&◌, nat_lt}
use Rattle.std.proofs.Common.{◌≡◌, ℕ, ◌+◌, ◌<◌, ◌≤◌, Bool, true, false, List, [], ◌∷◌}
use Rattle.std.proofs.Common.{length, All, Result, Ok, Err, refl, arith}
use Rattle.std.proofs.lemmas.Bool.Decides.{nat_tests}
use Rattle.std.proofs.lemmas.List.Elements.{All-nil, All-cons}
use Rattle.cpu6502.specs.declared.machine.Machine.{Machine}
use Rattle.cpu6502.specs.declared.stop.Stop.{Stop}
use Rattle.cpu6502.specs.Call.{run, entered, Called}
use Rattle.cpu6502.specs.Code.{IsMachine, Holds}
use Rattle.cpu6502.proofs.Laws.{called_once}
use Rattle.psid.specs.declared.header.Psid.{Psid}
use Rattle.sid_run.proofs.Laws.{image_stands, loaded_is_machine}
use Rattle.faithful.specs.WorkedMachines.{machine_with}

-- ---- the machine

pub and_true : {a b : Bool} → (a && b) ≡ true → (a ≡ true) × (b ≡ true)
and_true {a = true} h = (refl, h)
and_true {a = false} h = absurd (cc)

abbrev pub are_bytes : List ℕ → Bool
are_bytes [] = true
are_bytes (byte ∷ bytes) = nat_lt byte 256 && are_bytes bytes

bytes_lem : (bytes : List ℕ) → are_bytes bytes ≡ true → All (λ byte. byte < 256) bytes
bytes_lem [] h = All-nil (λ b. b < 256)
bytes_lem (byte ∷ bytes) h =
    let both = and_true h in
    All-cons (λ b. b < 256) byte bytes (below byte both.0) (bytes_lem bytes both.1)
  where
    below : (byte : ℕ) → nat_lt byte 256 ≡ true → byte < 256
    below byte h = grind (arith, nat_tests)

abbrev file : List ℕ → Psid
file image = record {
  header = record {
    init = 0;
    play = 0;
    songs = 1;
    start_song = 1;
    speed = 0;
    name = [];
    author = [];
    released = [];
    flags = 0;
  };
  load = 0x1000;
  image = image;
}

pub is_machine : (image : List ℕ) → 0x1000 + length image ≤ 65536 → are_bytes image ≡ true →
    IsMachine (machine_with image)
is_machine image room bytes = loaded_is_machine (file image) room (bytes_lem image bytes)

pub holds : (image : List ℕ) → 0x1000 + length image ≤ 65536 → Holds (machine_with image).memory 0x1000 image
holds image room = image_stands (file image) room

-- ---- calls

abbrev pub is_done : Result Machine Stop → Bool
is_done (Ok machine) = true
is_done (Err stop) = false

-- the machine after a run, and this one after a stop
abbrev pub after_of : Machine → Result Machine Stop → Machine
after_of start (Ok machine) = machine
after_of start (Err stop) = start

pub done_is : (start : Machine) (r : Result Machine Stop) → is_done r ≡ true → r ≡ Ok (after_of start r)
done_is start (Ok machine) h = refl
done_is start (Err stop) h = absurd (cc)

-- a call ends in one machine
pub one_end : (machine : Machine) (entry number n k : ℕ) (one two : Machine) → Called machine entry number n one →
    Called machine entry number k two → one ≡ two
one_end machine entry number n k one two c d =
    let same = called_once machine entry number n k one two c d in
    let r : run k (entered machine entry number) ≡ Ok one = rw same at c.runs in
    let r' = d.runs in
    cc
