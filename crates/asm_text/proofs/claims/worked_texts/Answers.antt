use Rattle.std.proofs.Common.{◌≡◌, ℕ, ◌<◌, List, [], ◌∷◌, codes, slice_index, refl, ap, inr, lit<, arith}
use Rattle.asm6502.specs.declared.assembled.Assembled.{Assembled}
use Rattle.asm6502.specs.declared.fixes.FixKind.TheVariants.{Low}
use Rattle.asm_text.specs.Lines.{unended, here, later}
use Rattle.asm_text.proofs.Worked.{spelled, refused, gives, fails, no_line_at, no_origin_at, bad_at}
use Rattle.asm_text.proofs.claims.worked_texts.Goals as goal

pub returns-clause-images : goal.returns-clause-images
returns-clause-images c = (refl, refl, refl, refl, refl, refl)

pub returns-clause-texts : goal.returns-clause-texts
returns-clause-texts c = (
  gives _ _ _ _ _ _ _ refl (lit< tt) refl refl refl refl refl,
  gives _ _ _ _ _ _ _ refl (lit< tt) refl refl refl refl refl,
  gives _ _ _ _ _ _ _ refl (lit< tt) refl refl refl refl refl,
  gives _ _ _ _ _ _ _ refl (lit< tt) refl refl refl refl refl,
  gives _ _ _ _ _ _ _ refl (lit< tt) refl refl refl refl refl,
  gives _ _ _ _ _ _ _ refl (lit< tt) refl refl refl refl refl,
  gives _ _ _ _ _ _ _ refl (lit< tt) refl refl refl refl refl,
)

pub returns-clause-branches : goal.returns-clause-branches
returns-clause-branches c = (
  gives _ _ _ _ _ _ _ refl (lit< tt) refl refl refl refl refl,
  fails _ _ _ 0x1000 _ _ _ refl (lit< tt) refl refl refl,
  gives _ _ _ _ _ _ _ refl (lit< tt) refl refl refl refl refl,
  fails _ _ _ 0x1000 _ _ _ refl (lit< tt) refl refl refl,
)

pub returns-clause-to_labels : goal.returns-clause-to_labels
returns-clause-to_labels c = (
  gives _ _ _ _ _ _ _ refl (lit< tt) refl refl refl refl refl,
  gives _ _ _ _ _ _ _ refl (lit< tt) refl refl refl refl refl,
  gives _ _ _ _ _ _ _ refl (lit< tt) refl refl refl refl refl,
  fails _ _ _ 0x1000 _ _ _ refl (lit< tt) refl refl refl,
  gives _ _ _ _ _ _ _ refl (lit< tt) refl refl refl refl refl,
  fails _ _ _ 0x1000 _ _ _ refl (lit< tt) refl refl refl,
)

pub returns-clause-faults : goal.returns-clause-faults
returns-clause-faults c = (
  no_line_at _ _ refl,
  no_line_at _ _ refl,
  no_origin_at _ _ _ refl refl,
  no_origin_at _ _ _ refl refl,
  no_origin_at _ _ _ refl refl,
  bad_at _ _ 0x1000 (codes "* = $1000") (codes "L0001:" ∷ codes "L0001:" ∷ codes "* = $1000" ∷ [] ∷ []) refl (lit< tt) refl
      (later (inr (_, spelled _ _ refl)) (later (inr (_, spelled _ _ refl)) (here (refused _ refl)))),
  bad_at _ _ 0x1000 (codes "* = $1000") (codes "NOP" ∷ []) refl (lit< tt) refl (unended (lit< tt)),
  fails _ _ _ 0x1000 (codes "* = $1000") (codes "JMP L0002" ∷ codes "L0001:" ∷ [] ∷ codes "L0001:" ∷ codes "L0001:" ∷ [] ∷ []) _ refl (lit< tt) refl refl refl,
  fails _ _ _ 0xFFFF (codes "* = $FFFF") (codes "NOP" ∷ codes "JMP L0002" ∷ codes "BNE L0003" ∷ [] ∷ []) _ refl (lit< tt) refl refl refl,
  fails _ _ _ 0xFFFE (codes "* = $FFFE") (codes "BNE $8000" ∷ codes "L0001:" ∷ codes "; a" ∷ codes "NOP" ∷ codes "NOP" ∷ [] ∷ []) _ refl (lit< tt) refl refl refl,
  fails _ _ _ 0xFFFD (codes "* = $FFFD") (codes "JMP $0000" ∷ codes "NOP" ∷ [] ∷ []) _ refl (lit< tt) refl refl refl,
  fails _ _ _ 0xFFFF (codes "* = $FFFF") (codes "JMP $0000" ∷ [] ∷ []) _ refl (lit< tt) refl refl refl,
)

-- one byte without a fix, at this origin
abbrev plain : (origin byte : ℕ) → origin < 0x2000 → Assembled
plain origin byte low = record {
  origin = origin;
  bytes = byte ∷ [];
  fixes = [];
  fits = omega (arith, low);
  in_order = tt;
  numbers_stand = tt;
}

-- the byte 0 at $1000 as the low byte of its own address
abbrev fixed : Assembled
fixed = record {
  origin = 0x1000;
  bytes = 0x00 ∷ [];
  fixes = record { at = 0; kind = Low; to = 0 } ∷ [];
  fits = omega arith;
  in_order = (omega arith, (omega arith, tt));
  numbers_stand = (refl, tt);
}

pub returns-clause-results : goal.returns-clause-results
returns-clause-results c = (
  record {
    one = plain 0x1000 0xEA (lit< tt);
    other = plain 0x1001 0xEA (lit< tt);
    is_one = record { origin_is = refl; bytes_are = refl; fixes_are = refl };
    is_other = record { origin_is = refl; bytes_are = refl; fixes_are = refl };
    differ = λ same. let e : 0x1000 ≡ 0x1001 = same.origins in absurd (omega (arith, e));
  },
  record {
    one = plain 0x1000 0xEA (lit< tt);
    other = plain 0x1000 0x60 (lit< tt);
    is_one = record { origin_is = refl; bytes_are = refl; fixes_are = refl };
    is_other = record { origin_is = refl; bytes_are = refl; fixes_are = refl };
    differ = λ same. let e : 0xEA ≡ 0x60 = ap (λ (bytes : List ℕ). slice_index bytes 0) same.bytes in absurd (omega (arith, e));
  },
  record {
    one = plain 0x1000 0x00 (lit< tt);
    other = fixed;
    is_one = record { origin_is = refl; bytes_are = refl; fixes_are = refl };
    is_other = record { origin_is = refl; bytes_are = refl; fixes_are = refl };
    differ = λ same. absurd (cc (same.fixes));
  },
)
