-- Entrances that are worked by hand are well entered, their code stands, and what the law says of them.
use Rattle.std.proofs.Common.{◌≡◌, ◌∙◌, ℕ, ◌+◌, ◌<◌, ◌≤◌, ◌⊎◌, ◌&&◌, ◌||◌}
use Rattle.std.proofs.Common.{Bool, true, List, [], ◌∷◌, nat_eq, nat_le, inl, inr, refl, sym, ap}
use Rattle.std.proofs.Common.{arith}
use Rattle.std.specs.Prelude.{slice_index}
use Rattle.std.proofs.lemmas.Bool.{eqb-true, leb-true, and_parts, or_cases}
use Rattle.cpu6502.specs.declared.cpu.Cpu.{Cpu}
use Rattle.cpu6502.specs.declared.mnemonic.Mnemonic.TheVariants.{Jmp}
use Rattle.cpu6502.specs.Code.{Holds}
use Rattle.code_runs.proofs.Laws.{stands_absolute}
use Rattle.asm6502.specs.Assembly.{assembled_bytes}
use Rattle.scopes.specs.Meaning.{Done}
use Rattle.scope_calls.specs.Listed.{Listed, listing_at, HasCode, IsCode, IsWellEntered, meant}
use Rattle.scope_calls.specs.Listed.{AsBlock, AsCall}
use Rattle.scope_calls.specs.EntranceLaws.{Returns, entrance_weight, are_known}
use Rattle.scope_calls.specs.WorkedEntrances.{VoicesAreBlocks, ListingsAgree, IsBlocks, AtSid, AtPointer}
use Rattle.scope_calls.specs.WorkedEntrances.{VolumeStoresThere, VoicesStoreThere, VolumeIsApart, RegisterIsNotApart}
use Rattle.scope_calls.specs.WorkedEntrances.{AreAt, machine_of, Leaves, IsCalledSo, volume_entrance, volume_code}
use Rattle.scope_calls.specs.WorkedEntrances.{VolumeIsCalled, NumbersMatter, voices_entrance, voices_code}
use Rattle.scope_calls.specs.WorkedEntrances.{VoicesAreCalled}
use Rattle.scope_calls.proofs.Whole.{entrances_return}

abbrev Written : ℕ → Type 0
Written place = IsBlocks place

written_at : (place : ℕ) →
    (nat_le 0xD400 place && nat_le place 0xD418 || nat_eq place 0xFC || nat_eq place 0xFD) ≡ true → Written place
written_at place e = by_last (or_cases (sid || nat_eq place 0xFC) (nat_eq place 0xFD) e)
  where
    sid : Bool
    sid = nat_le 0xD400 place && nat_le place 0xD418

    by_first : (sid ≡ true) ⊎ (nat_eq place 0xFC ≡ true) → Written place
    by_first (inl f) =
        let parts = and_parts (nat_le 0xD400 place) (nat_le place 0xD418) f in
        AtSid (leb-true 0xD400 place parts.0) (leb-true place 0xD418 parts.1)
    by_first (inr f) = (let is = eqb-true place 0xFC f in AtPointer (omega (arith, is)) (omega (arith, is)))

    by_last : ((sid || nat_eq place 0xFC) ≡ true) ⊎ (nat_eq place 0xFD ≡ true) → Written place
    by_last (inl f) = by_first (or_cases sid (nat_eq place 0xFC) f)
    by_last (inr f) = (let is = eqb-true place 0xFD f in AtPointer (omega (arith, is)) (omega (arith, is)))

below : (place : ℕ) → Written place → place < 65536
below place (AtSid low high) = omega (arith, high)
below place (AtPointer low high) = omega (arith, high)

outside : (place low high : ℕ) → 0xFD < low → high ≤ 0xD400 → Written place → (place < low) ⊎ (high ≤ place)
outside place low high h k (AtSid from to) = inr (omega (arith, k, from))
outside place low high h k (AtPointer from to) = inl (omega (arith, h, to))

off_stack : (place : ℕ) → Written place → (place < 256) ⊎ (512 ≤ place)
off_stack place (AtSid low high) = inr (omega (arith, low))
off_stack place (AtPointer low high) = inl (omega (arith, high))

-- a call returns, in steps and with bytes that are computed
called_so : (e : Listed) (bytes : List ℕ) (steps : ℕ) (left : ℕ → List (ℕ × ℕ)) →
    assembled_bytes e.set e.origin (listing_at e) ≡ bytes → IsWellEntered e →
    ((memory : List ℕ) → Holds memory 0x1000 bytes → HasCode e (slice_index memory)) →
    are_known e.entrance ≡ true → entrance_weight e.entrance ≡ steps →
    ((cpu : Cpu) (memory : List ℕ) (number : ℕ) → (meant e (machine_of cpu memory) number).outcome ≡ Done) →
    ((cpu : Cpu) (memory : List ℕ) (number : ℕ) → (meant e (machine_of cpu memory) number).cost + 1 ≡ steps) →
    ((cpu : Cpu) (memory : List ℕ) (number : ℕ) →
    AreAt (meant e (machine_of cpu memory) number).desk.at (left number)) →
    IsCalledSo e bytes steps left
called_so e bytes steps left are well code known weighs done steps_are bytes_are = record {
  are = are;
  well = well;
  code = code;
  known = known;
  weighs = weighs;
  calls = λ cpu memory number size held. leaves cpu memory number
      (entrances_return e (machine_of cpu memory) number well size (omega arith) (code memory held)
      (done cpu memory number));
} where
  leaves : (cpu : Cpu) (memory : List ℕ) (number : ℕ) → Returns e (machine_of cpu memory) number →
      Leaves e (machine_of cpu memory) number steps (left number)
  leaves cpu memory number call = record {
    call = call;
    steps_are = call.steps_are ∙ steps_are cpu memory number;
    bytes_are =
        (let seen : slice_index call.after.memory ≡ (meant e (machine_of cpu memory) number).desk.at =
        ap (λ s. s.at) call.seen in rw seen (bytes_are cpu memory number));
  }

-- ---- the volume

volume_well : IsWellEntered volume_entrance
volume_well = record {
  lines = refl;
  assembles = refl;
  begins = omega arith;
  ends = omega arith;
  named = refl;
  jump_begins = omega arith;
  jump_ends = omega arith;
  writes_below = λ place may. below place (written_at place may);
  writes_outside = λ place may. outside place 0x1003 0x1008 (omega arith) (omega arith) (written_at place may);
  writes_off_stack = λ place may. off_stack place (written_at place may);
  pointer_low = omega arith;
  pointer_high = omega arith;
}

volume_stands : (memory : List ℕ) → Holds memory 0x1000 volume_code → HasCode volume_entrance (slice_index memory)
volume_stands memory held = record {
  jump = stands_absolute (slice_index memory) 0x1000 0x4C 0x1001 0x1002 0x03 0x10 0x1003 Jmp (held.byte 0 (omega arith))
      refl refl refl (held.byte 1 (omega arith)) (held.byte 2 (omega arith)) refl;
  bytes = record { byte = λ k few. held.byte (3 + k) (omega (arith, few)) };
}

pub volume_is_called : VolumeIsCalled
volume_is_called =
    called_so volume_entrance volume_code 4 (λ number. (0xD418, number) ∷ []) refl volume_well volume_stands refl refl
    (λ cpu memory number. refl) (λ cpu memory number. refl) (λ cpu memory number. (refl, tt))

pub numbers_matter : NumbersMatter
numbers_matter one two number other differ a b alike =
    let first : slice_index a.after.memory 0xD418 ≡ number = ap (λ s. s.at 0xD418) a.seen in
    let second : slice_index b.after.memory 0xD418 ≡ other = ap (λ s. s.at 0xD418) b.seen in
    differ (sym first ∙ (alike.bytes 0xD418 refl ∙ second))

-- ---- the voices

voices_well : IsWellEntered voices_entrance
voices_well = record {
  lines = refl;
  assembles = refl;
  begins = omega arith;
  ends = omega arith;
  named = refl;
  jump_begins = omega arith;
  jump_ends = omega arith;
  writes_below = λ place may. below place (written_at place may);
  writes_outside = λ place may. outside place 0x1003 0x101A (omega arith) (omega arith) (written_at place may);
  writes_off_stack = λ place may. off_stack place (written_at place may);
  pointer_low = omega arith;
  pointer_high = omega arith;
}

voices_stand : (memory : List ℕ) → Holds memory 0x1000 voices_code → HasCode voices_entrance (slice_index memory)
voices_stand memory held = record {
  jump = stands_absolute (slice_index memory) 0x1000 0x4C 0x1001 0x1002 0x03 0x10 0x1003 Jmp (held.byte 0 (omega arith))
      refl refl refl (held.byte 1 (omega arith)) (held.byte 2 (omega arith)) refl;
  bytes = record { byte = λ k few. held.byte (3 + k) (omega (arith, few)) };
}

pub voices_are_called : VoicesAreCalled
voices_are_called =
    called_so voices_entrance voices_code 18
    (λ number. (0xD418, 15) ∷ (0xD404, 0) ∷ (0xD40B, 7) ∷ (0xD412, 14) ∷ (0x01FD, 0x10) ∷ (0x01FC, 0x12) ∷ []) refl
    voices_well voices_stand refl refl (λ cpu memory number. refl) (λ cpu memory number. refl)
    (λ cpu memory number. (refl, (refl, (refl, (refl, (refl, (refl, tt)))))))

-- ---- where they write

pub volume_stores_there : VolumeStoresThere
volume_stores_there sp place (AsBlock may) = written_at place may
volume_stores_there sp place (AsCall block voice is) = absurd (cc)

pub voices_store_there : VoicesStoreThere
voices_store_there place (AsBlock may) = inl (written_at place may)
voices_store_there place (AsCall block voice (inl is)) = inr (inl is)
voices_store_there place (AsCall block voice (inr is)) = inr (inr is)

pub register_is_not_apart : RegisterIsNotApart
register_is_not_apart apart = apart refl

code_is_below : (place : ℕ) → IsCode volume_entrance place → (0x1000 ≤ place) × (place < 0x1008)
code_is_below place (inl at) = (at.0, omega (arith, at.1))
code_is_below place (inr at) = (omega (arith, at.0), omega (arith, at.1))

unwritten : (place : ℕ) → 0x1000 ≤ place → place < 0x1008 → Written place → ⊥
unwritten place low high (AtSid from to) = omega (arith, high, from)
unwritten place low high (AtPointer from to) = omega (arith, low, to)

pub volume_is_apart : VolumeIsApart
volume_is_apart place is may =
    (let at = code_is_below place is in unwritten place at.0 at.1 (written_at place may))

pub voices_are_blocks : VoicesAreBlocks
voices_are_blocks = record { none = refl; block = refl; end_too_many = refl }

pub listings_agree : ListingsAgree
listings_agree = record {
  behind = λ one two same. record { at = λ place in_listing. same place (λ e. behind_end place in_listing.1 e) };
  inside = λ one two other agree. other (agree.at 0x1007 (omega arith, omega arith));
}
  where
    behind_end : (place : ℕ) → place < 0x1008 → place ≡ 0x1008 → ⊥
    behind_end place low e = omega (arith, low, e)
