-- Machines that the words of an image's calls hold of, and machines beside them.
use Rattle.std.proofs.Common.{◌≡◌, ◌≢◌, ℕ, ◌+◌, ◌<◌, false, List, slice_index, slice_set, lit<}
use Rattle.std.proofs.Common.{inr, refl, sym, ap, subst, arith}
use Rattle.std.proofs.lemmas.List.{get_or-set_other}
use Rattle.play_model.specs.declared.options.Options.{Options}
use Rattle.play_model.specs.State.{no_options}
use Rattle.sid_run.specs.State.{loaded_memory, sid_registers}
use Rattle.faithful.specs.Confined.{IsOwnPlace, memory_at_entry}
use Rattle.faithful.specs.WorkedPlaces.{IsOwn, twice}
use Rattle.faithful.specs.Isolation.{Duration}
use Rattle.faithful.specs.WorkedMachines.{machine_with, with_byte, caller, MayChange, sixteen, Agrees, EndsAlike}
use Rattle.faithful.specs.WorkedMachines.{TimersAreTold, ChangesAreTold, PairsAreTold}
use Rattle.faithful.proofs.WorkedPlaces.{is_own, not_own}

pub timers_are_told : TimersAreTold
unfolding loaded_memory
timers_are_told = record {
  right = record { low = refl; high = refl };
  wrong_low = λ h. (let e : 0x64 ≡ 0x63 = h.low in omega arith);
  wrong_high = λ h. (let e : 0x27 ≡ 0x26 = h.high in omega arith);
  set = λ fast. record { low = refl; high = refl };
  low_not_set = λ h. (let e : 0x64 ≡ 0x63 = (h (lit< tt)).low in omega arith);
  high_not_set = λ h. (let e : 0x27 ≡ 0x26 = (h (lit< tt)).high in omega arith);
  ntsc_set = λ fast. record { low = refl; high = refl };
  ntsc_low_not_set = λ h. (let e : 0x63 ≡ 0x62 = (h (lit< tt)).low in omega arith);
  ntsc_high_not_set = λ h. (let e : 0x26 ≡ 0x21 = (h (lit< tt)).high in omega arith);
  free = λ fast. absurd (omega arith);
  low_changed = λ h. (let e : 0x64 ≡ 0x63 = h.low in omega arith);
  high_changed = λ h. (let e : 0x27 ≡ 0x26 = h.high in omega arith);
  low_not_kept = λ h. (let e : 0x64 ≡ 0x63 = (h (lit< tt)).low in omega arith);
  high_not_kept = λ h. (let e : 0x27 ≡ 0x26 = (h (lit< tt)).high in omega arith);
  not_minded = λ fast. absurd (omega arith);
}

-- an own place may change
may_change : (options : Options) (place : ℕ) → IsOwn options 0xFB place → MayChange options place
may_change options place own = record {
  same = λ q within not_own.
      get_or-set_other (memory_at_entry caller) place q 1 0 (λ e. not_own (subst (λ p. IsOwn options 0xFB p) (sym e) own));
}

-- and another may not, where it held another byte
may_not : (options : Options) (place : ℕ) → place < 65536 → is_own 16 options 0xFB place ≡ false →
    slice_index (slice_set (memory_at_entry caller) place 1) place ≢ slice_index (memory_at_entry caller) place →
    ¬ MayChange options place
may_not options place within fails other h = other (h.same place within (not_own 16 options 0xFB place fails))

pub changes_are_told : ChangesAreTold
unfolding loaded_memory
changes_are_told = record {
  image = may_change no_options 0x100F (IsOwnPlace.in_image (omega arith) (omega arith));
  behind = may_not no_options 0x1010 (lit< tt) refl (λ e. (let no : 1 ≡ 0 = e in omega arith));
  screen = may_not no_options 0x0400 (lit< tt) refl (λ e. (let no : 1 ≡ 0 = e in omega arith));
  port = may_not no_options 0x0001 (lit< tt) refl (λ e. (let no : 1 ≡ 0 = e in omega arith));
  pointer = may_change no_options 0x00FD (IsOwnPlace.high_pointer refl);
  above_stack = may_not no_options 0x01FE (lit< tt) refl (λ e. (let no : 1 ≡ 0 = e in omega arith));
  pushed = may_not no_options 0x01FC (lit< tt) refl (λ e. (let no : 1 ≡ 0xFF = e in omega arith));
  first = may_change no_options 0x01FB (IsOwnPlace.on_stack 0 (omega arith) refl);
  eighth = may_change no_options 0x01F4 (IsOwnPlace.on_stack 7 (omega arith) refl);
  ninth = may_not no_options 0x01F3 (lit< tt) refl (λ e. (let no : 1 ≡ 0 = e in omega arith));
  register = may_change no_options 0xD418 (IsOwnPlace.in_sid (omega arith) (omega arith));
  behind_registers = may_not no_options 0xD419 (lit< tt) refl (λ e. (let no : 1 ≡ 0 = e in omega arith));
  timer = may_change twice 0xDC05 (IsOwnPlace.in_timer (omega arith) (inr refl));
  no_timer = may_not no_options 0xDC05 (lit< tt) refl (λ e. (let no : 1 ≡ 0 = e in omega arith));
}

-- machines that differ beside the bytes agree on them
agrees_beside : (place : ℕ) → ((k : ℕ) → k < 16 → 0x1000 + k ≢ place) → Agrees place
agrees_beside place beside = record {
  same = λ k lt. get_or-set_other (machine_with sixteen).memory place (0x1000 + k) 1 0 (beside k lt);
}

-- register n is the same in both
same_register : (place n : ℕ) → EndsAlike place →
    slice_index (sid_registers (machine_with sixteen)) n
    ≡ slice_index (sid_registers (with_byte place 1 (machine_with sixteen))) n
same_register place n h = ap (λ (registers : List ℕ). slice_index registers n) h.same_registers

pub pairs_are_told : PairsAreTold
unfolding loaded_memory
pairs_are_told = record {
  before = agrees_beside 0x0FFF (λ k lt e. omega arith);
  first = λ h. (let e : 1 ≡ 0x60 = h.same 0 (lit< tt) in omega arith);
  last = λ h. (let e : 1 ≡ 0x60 = h.same 15 (lit< tt) in omega arith);
  behind = agrees_beside 0x1010 (λ k lt e. omega arith);
  elsewhere = record {
    same_duration = refl;
    same_registers = refl;
    same_image = agrees_beside 0x0400 (λ k lt e. omega arith);
  };
  register = λ h. (let e : 0 ≡ 1 = same_register 0xD400 0 h in omega arith);
  volume = λ h. (let e : 0 ≡ 1 = same_register 0xD418 24 h in omega arith);
  in_image = λ h. (let e : 1 ≡ 0x60 = h.same_image.same 15 (lit< tt) in omega arith);
  steps = λ h. (let e : 5 ≡ 6 = ap (λ (d : Duration). d.steps) h.same_duration in omega arith);
  cycles = λ h. (let e : 17 ≡ 18 = ap (λ (d : Duration). d.cycles) h.same_duration in omega arith);
  most = refl;
}
