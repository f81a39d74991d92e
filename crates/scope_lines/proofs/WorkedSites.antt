-- The sites that are worked by hand are well placed and entered.
use Rattle.std.proofs.Common.{◌≡◌, ℕ, suc, ◌+◌, ◌-◌, ◌<◌, ◌≤◌, ◌⊎◌, inl, inr, ◌||◌}
use Rattle.std.proofs.Common.{Bool, true, false, nat_eq, nat_lt, List, [], ◌∷◌, ◌++◌}
use Rattle.std.proofs.Common.{slice_index, unwrap_or, Option, Some, None, refl, sym, ap, ◌∙◌, arith, if◌then◌else◌}
use Rattle.std.specs.Option.{option_map}
use Rattle.std.proofs.lemmas.Bool.{eqb-true, le-ltb, or_cases, false≢true}
use Rattle.asm6502.specs.declared.lines.Line.{Line}
use Rattle.asm6502.specs.Lines.{kept, names, size_of, item_size, place_of}
use Rattle.scopes.specs.Desk.{Layout}
use Rattle.scope_lines.specs.Lowered.{listing_at, layout_at, writes_at, IsWellPlaced, Enters}
use Rattle.scope_lines.specs.Isolation.{AgreeOnBytes}
use Rattle.scope_lines.specs.WorkedSites.{state_with, sought_site, sought_bytes, seeks, SoughtIsLowered}
use Rattle.scope_lines.specs.WorkedSites.{summed_site, pointing_bytes, adding_bytes, summed_bytes, sums}
use Rattle.scope_lines.specs.WorkedSites.{SummedIsLowered, OthersAreNotIsolated}

-- a label is in the listing, or at its origin
label_within : (lines : List Line) (label : ℕ) → unwrap_or (place_of lines label) 0 ≤ size_of lines
label_within [] label = omega arith
label_within (line ∷ lines) label = by_name (names label line.item) (place_of lines label) (label_within lines label)
  where
    by_name : (z : Bool) (o : Option ℕ) → unwrap_or o 0 ≤ size_of lines →
        unwrap_or (if z then Some 0 else option_map (λ place. item_size line.item + place) o) 0
        ≤ item_size line.item + size_of lines
    by_name true o h = omega arith
    by_name false (Some place) h = omega (arith, h)
    by_name false None h = omega arith

-- a byte from $1000 on
from_origin : (bytes : List ℕ) (pc a place k : ℕ) →
    (state_with bytes pc a).at (0x1000 + (place + k)) ≡ slice_index bytes (place + k)
from_origin bytes pc a place k =
    let behind : nat_lt (0x1000 + (place + k)) 0x1000 ≡ false = le-ltb _ _ (omega arith) in
    let at : 0x1000 + (place + k) - 0x1000 ≡ place + k = omega arith in
    ap (λ z. if z then a else slice_index bytes (0x1000 + (place + k) - 0x1000)) behind ∙ ap (slice_index bytes) at

-- the first of some bytes is no matter to those behind it
behind_first : (one two : ℕ) (bytes : List ℕ) (k : ℕ) →
    slice_index (one ∷ bytes) (1 + k) ≡ slice_index (two ∷ bytes) (1 + k)
behind_first one two bytes k =
    let next : 1 + k ≡ suc k = omega arith in
    ap (slice_index (one ∷ bytes)) next ∙ sym (ap (slice_index (two ∷ bytes)) next)

-- the pointer's own places are in page 0, and what else is written is where the layout says
outside : (layout : Layout) (low high place : ℕ) → layout.pointer ≡ 0xFC → 0x1000 ≤ low →
    (layout.may_write place ≡ true → (place < low) ⊎ (high ≤ place)) → writes_at layout place ≡ true →
    (place < low) ⊎ (high ≤ place)
outside layout low high place at above own e =
    elim (or_cases (layout.may_write place || nat_eq place layout.pointer) (nat_eq place (layout.pointer + 1)) e) [
      | inl first ↦
          elim (or_cases (layout.may_write place) (nat_eq place layout.pointer) first) [
            | inl allowed ↦ own allowed
            | inr is ↦ (let same = eqb-true place layout.pointer is in inl (omega (arith, same, at, above)))
          ]
      | inr is ↦ (let same = eqb-true place (layout.pointer + 1) is in inl (omega (arith, same, at, above)))
    ]

sought_placed : IsWellPlaced sought_site
sought_placed = record {
  lines = refl;
  assembles = refl;
  begins = refl;
  labels = λ label. (let h = label_within (kept 0 (listing_at sought_site)) label in omega (arith, h));
  away = omega arith;
  ends = omega arith;
  kept = λ place. outside (layout_at sought_site) 0x1000 0x100D place refl (omega arith) (λ e. absurd (false≢true e));
  pointer = omega arith;
}

sought_entered : (a : ℕ) → Enters sought_site (seeks a)
sought_entered a = record {
  bytes = record { byte = λ k few. from_origin sought_bytes 0x1000 a 0 k };
  pc = refl;
}

pub sought_is_lowered : SoughtIsLowered
sought_is_lowered = record {
  bytes = refl;
  found = record {
    placed = sought_placed;
    entered = sought_entered 0x22;
    done = refl;
    steps_are = refl;
    cycles_are = refl;
    ends = refl;
    is = refl;
  };
  found_at = refl;
  missed = record {
    placed = sought_placed;
    entered = sought_entered 0x55;
    done = refl;
    steps_are = refl;
    cycles_are = refl;
    ends = refl;
    is = refl;
  };
  missed_at = refl;
}

-- ---- a sum

summed_placed : IsWellPlaced summed_site
summed_placed = record {
  lines = refl;
  assembles = refl;
  begins = refl;
  labels = λ label. (let h = label_within (kept 0 (listing_at summed_site)) label in omega (arith, h));
  away = omega arith;
  ends = omega arith;
  kept = λ place.
      outside (layout_at summed_site) 0x1001 0x101B place refl (omega arith)
      (λ e. (let is = eqb-true 0x1000 place e in inl (omega (arith, is))));
  pointer = omega arith;
}

summed_entered : (counter a : ℕ) → Enters summed_site (sums counter a)
summed_entered counter a = record {
  bytes = record {
    byte = λ k few.
        from_origin (summed_bytes counter) 0x1001 a 1 k
        ∙ behind_first counter 3 (pointing_bytes ++ (adding_bytes ++ 7 ∷ 5 ∷ [])) k;
  };
  pc = refl;
}

agrees : AgreeOnBytes summed_site (sums 3 0) (sums 3 200)
agrees = record {
  at = λ place e.
      elim (or_cases (nat_eq place 0x1000) (nat_eq place 0x101C) e) [
        | inl is ↦ rw (eqb-true place 0x1000 is) refl
        | inr is ↦ rw (eqb-true place 0x101C is) refl
      ];
}

pub summed_is_lowered : SummedIsLowered
summed_is_lowered = record {
  bytes = refl;
  kept = record {
    placed = summed_placed;
    entered = summed_entered 3 0;
    done = refl;
    steps_are = refl;
    cycles_are = refl;
    ends = refl;
    is = refl;
  };
  capped = record {
    placed = summed_placed;
    entered = summed_entered 12 0;
    done = refl;
    steps_are = refl;
    cycles_are = refl;
    ends = refl;
    is = refl;
  };
  known = refl;
  agree = agrees;
  other = record {
    placed = summed_placed;
    entered = summed_entered 3 200;
    done = refl;
    steps_are = refl;
    cycles_are = refl;
    ends = refl;
    is = refl;
  };
}

-- ---- what is not the same

pub others_are_not_isolated : OthersAreNotIsolated
others_are_not_isolated = record {
  steps = λ same. (let e : 13 ≡ 20 = same.steps in omega (arith, e));
  bytes = λ same. (let e : 8 ≡ 12 = same.bytes 0x1000 refl in omega (arith, e));
}
