-- An image in memory that holds 0, put in byte by byte; and what stands where in it.
use Rattle.std.proofs.Common.{◌≡◌, ℕ, suc, ◌+◌, ◌-◌, ◌≤◌, ◌<◌, List, [], ◌∷◌, ◌++◌}
use Rattle.std.proofs.Common.{length, take, replicate, get_or, slice_set, sym, ap, ◌∙◌, arith, append_assoc}
use Rattle.std.proofs.Common.{length-append, inl, inr}
use Rattle.std.proofs.lemmas.List.{set_at, take_more, take_all, length-replicate, length-take-le, get_or-append-add}
use Rattle.std.proofs.lemmas.List.{get_or-append_right, get_or_append_left, get_or-replicate}
use Rattle.std.proofs.lemmas.List.Elements.{All-append, All-replicate}
use Rattle.base.proofs.Laws.{get_or-replicate_any}
use Rattle.cpu6502.specs.declared.memory.TheConstants.{MEMORY_SIZE}
use Rattle.sid_run.specs.State.{loaded_memory}
use Rattle.sid_run.specs.Laws.{ImageStands, ElsewhereIsZero, LoadedIsMachine}

-- memory with the first i bytes of an image
abbrev pub partly_loaded : ℕ → List ℕ → ℕ → List ℕ
partly_loaded load image i = (replicate load 0 ++ take i image) ++ replicate (MEMORY_SIZE - (load + i)) 0

-- one byte more
pub partly_loaded-more : (load : ℕ) (image : List ℕ) (i : ℕ) → i < length image → load + length image ≤ MEMORY_SIZE
    → slice_set (partly_loaded load image i) (load + i) (get_or image i 0) ≡ partly_loaded load image (i + 1)
partly_loaded-more load image i h f =
    let left : MEMORY_SIZE - (load + i) ≡ suc (MEMORY_SIZE - (load + (i + 1))) = omega arith in
    let taken : length (take i image) ≡ i = length-take-le i image (omega arith) in
    let zeros : length (replicate {A = ℕ} load 0) ≡ load = length-replicate load 0 in
    let front : length (replicate load 0 ++ take i image) ≡ load + i =
    omega (arith, length-append (replicate load 0) (take i image)) in
    let more : take (i + 1) image ≡ take i image ++ get_or image i 0 ∷ [] = take_more image i 0 h in
    ap (λ (n : ℕ). slice_set ((replicate load 0 ++ take i image) ++ replicate n 0) (load + i) (get_or image i 0)) left
    ∙ set_at (replicate load 0 ++ take i image) 0 (replicate (MEMORY_SIZE - (load + (i + 1))) 0) (get_or image i 0)
    (load + i) front
    ∙ rw more (simp append_assoc)

-- all of its bytes
pub partly_loaded-all : (load : ℕ) (image : List ℕ) → partly_loaded load image (length image) ≡ loaded_memory load image
unfolding loaded_memory
partly_loaded-all load image = let all = take_all (length image) image (omega arith) in rw all

pub image_stands : ImageStands
unfolding loaded_memory
image_stands psid f = record {
  byte =
      λ k lt.
      let zeros : length (replicate {A = ℕ} psid.load 0) ≡ psid.load = length-replicate psid.load 0 in
      let front : psid.load + k < length (replicate psid.load 0 ++ psid.image) =
      omega (arith, length-append (replicate psid.load 0) psid.image) in
      get_or_append_left (replicate psid.load 0 ++ psid.image)
      (replicate (MEMORY_SIZE - (psid.load + length psid.image)) 0) 0 (psid.load + k) front
      ∙ ap (λ (n : ℕ). get_or (replicate psid.load 0 ++ psid.image) (n + k) 0) (sym zeros)
      ∙ get_or-append-add (replicate psid.load 0) psid.image k 0;
}

pub elsewhere_is_zero : ElsewhereIsZero
unfolding loaded_memory
elsewhere_is_zero psid place (inl before) =
    let zeros : length (replicate {A = ℕ} psid.load 0) ≡ psid.load = length-replicate psid.load 0 in
    let front : place < length (replicate psid.load 0 ++ psid.image) =
    omega (arith, length-append (replicate psid.load 0) psid.image) in
    get_or_append_left (replicate psid.load 0 ++ psid.image)
    (replicate (MEMORY_SIZE - (psid.load + length psid.image)) 0) 0 place front
    ∙ get_or_append_left (replicate psid.load 0) psid.image 0 place (omega arith)
    ∙ get_or-replicate psid.load place 0 0 before
elsewhere_is_zero psid place (inr after) =
    let zeros : length (replicate {A = ℕ} psid.load 0) ≡ psid.load = length-replicate psid.load 0 in
    let front : length (replicate psid.load 0 ++ psid.image) ≡ psid.load + length psid.image =
    omega (arith, length-append (replicate psid.load 0) psid.image) in
    get_or-append_right (replicate psid.load 0 ++ psid.image)
    (replicate (MEMORY_SIZE - (psid.load + length psid.image)) 0) (psid.load + length psid.image) place 0 front after
    ∙ get_or-replicate_any (MEMORY_SIZE - (psid.load + length psid.image)) (place - (psid.load + length psid.image)) 0

pub loaded_is_machine : LoadedIsMachine
unfolding loaded_memory
loaded_is_machine psid f bytes = record {
  size = simp (length-append, length-replicate) (omega arith);
  bytes =
      All-append (λ (byte : ℕ). byte < 256) (replicate psid.load 0 ++ psid.image)
      (replicate (MEMORY_SIZE - (psid.load + length psid.image)) 0)
      (All-append (λ (byte : ℕ). byte < 256) (replicate psid.load 0) psid.image
      (All-replicate (λ (byte : ℕ). byte < 256) psid.load 0 (omega arith)) bytes)
      (All-replicate (λ (byte : ℕ). byte < 256) (MEMORY_SIZE - (psid.load + length psid.image)) 0 (omega arith));
  a = omega arith;
  x = omega arith;
  y = omega arith;
  sp = omega arith;
  pc = omega arith;
}
