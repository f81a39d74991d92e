-- The rows that are kept, as they are gathered.
use Rattle.std.proofs.Common.{◌≡◌, ℕ, zero, suc, ◌+◌, ◌-◌, ◌<◌, ◌≤◌, ◌⊎◌, Bool, true}
use Rattle.std.proofs.Common.{false, List, [], ◌∷◌, ◌++◌, length, get_or, refl, sym, ◌∙◌, ap, subst}
use Rattle.std.proofs.Common.{inl, inr, arith}
use Rattle.std.proofs.Math.ListN.{set}
use Rattle.std.proofs.lemmas.List.{get_or-set_same, get_or-set_other, get_or_append_left, get_or-append_right}
use Rattle.std.proofs.lemmas.List.{length-append, length-set}
use Rattle.std.proofs.lemmas.Bool.{ne_eqb}
use Rattle.song_model.specs.declared.tables.TableRow.{TableRow}
use Rattle.song_model.specs.LookUp.{IsNumbered, zero_table_row}
use Rattle.packing_rules.specs.ProgramMaps.{row_at}
use Rattle.packing_rules.specs.Renumbering.{rank}
use Rattle.table_pack.specs.TableMaps.{IsRenumbering}
use Rattle.table_pack.proofs.Ranks.{rank_kept, rank_left, rank_rises, rank_positive}

-- after the first i rows
pub record IsGathered (keep : ℕ → Bool) (old : List TableRow) (i : ℕ) (rows : List TableRow) (to : List ℕ) : Type 0 where
  pub long : length to ≡ 256
  pub count : length rows ≡ rank keep i
  pub row : (p : ℕ) → p ≤ i → keep p ≡ true → row_at rows (rank keep p) ≡ row_at old p
  pub number : (p : ℕ) → p ≤ i → keep p ≡ true → get_or to p 0 ≡ rank keep p
  pub none : (p : ℕ) → keep p ≡ false → get_or to p 0 ≡ 0
  pub later : (p : ℕ) → i < p → get_or to p 0 ≡ 0

not_at_0 : (keep : ℕ → Bool) (old : List TableRow) → ((p : ℕ) → keep p ≡ true → IsNumbered old p) → (p : ℕ) →
    keep p ≡ true → 1 ≤ p
not_at_0 keep old stored p is = (stored p is).first

pub gathered_none : (keep : ℕ → Bool) (old : List TableRow) (to : List ℕ) →
    ((p : ℕ) → keep p ≡ true → IsNumbered old p) → length to ≡ 256 → ((p : ℕ) → get_or to p 0 ≡ 0) →
    IsGathered keep old 0 [] to
gathered_none keep old to stored long zeros = record {
  long = long;
  count = refl;
  row = λ p low is. absurd (let first = (stored p is).first in omega arith);
  number = λ p low is. absurd (let first = (stored p is).first in omega arith);
  none = λ p _. zeros p;
  later = λ p _. zeros p;
}

last_or_before : (p i : ℕ) → p ≤ i + 1 → (p ≡ i + 1) ⊎ (p ≤ i)
last_or_before p i most = grind arith

-- a row that is left out
pub gathered_left : (keep : ℕ → Bool) (old : List TableRow) (i : ℕ) (rows : List TableRow) (to : List ℕ) →
    IsGathered keep old i rows to → keep (i + 1) ≡ false → IsGathered keep old (i + 1) rows to
gathered_left keep old i rows to g fails =
    let more : i + 1 ≡ suc i = omega arith in
    let e : rank keep (i + 1) ≡ rank keep i =
    ap (rank keep) more ∙ rank_left keep i (ap keep (sym more) ∙ fails) in
    record {
      long = g.long;
      count = g.count ∙ sym e;
      row = λ p low is. elim (last_or_before p i low) [
        | inl last ↦ absurd (let no : keep p ≡ false = ap keep last ∙ fails in cc)
        | inr before ↦ g.row p before is
      ];
      number = λ p low is. elim (last_or_before p i low) [
        | inl last ↦ absurd (let no : keep p ≡ false = ap keep last ∙ fails in cc)
        | inr before ↦ g.number p before is
      ];
      none = g.none;
      later = λ p low. g.later p (omega arith);
    }

pub row_in_front : (rows : List TableRow) (row : TableRow) (n : ℕ) → 1 ≤ n → n ≤ length rows →
    row_at (rows ++ row ∷ []) n ≡ row_at rows n
row_in_front rows row n first last =
    let some = ne_eqb n 0 (λ (e : n ≡ 0). omega arith) in
    rw some (get_or_append_left rows (row ∷ []) zero_table_row (n - 1) (omega arith))

pub row_behind : (rows : List TableRow) (row : TableRow) (n : ℕ) → n ≡ length rows + 1 → row_at (rows ++ row ∷ []) n ≡ row
row_behind rows row n e =
    let some = ne_eqb n 0 (λ (z : n ≡ 0). omega arith) in
    let less : n - 1 - length rows ≡ 0 = omega arith in
    rw some (get_or-append_right rows (row ∷ []) (length rows) (n - 1) zero_table_row refl (omega arith)
    ∙ ap (λ (k : ℕ). get_or (row ∷ []) k zero_table_row) less)

-- a row that is kept
pub gathered_more : (keep : ℕ → Bool) (old : List TableRow) (i : ℕ) (rows : List TableRow) (to : List ℕ) (row : TableRow)
    (n : ℕ) → ((p : ℕ) → keep p ≡ true → IsNumbered old p) → IsGathered keep old i rows to → keep (i + 1) ≡ true →
    i + 1 < 256 → row ≡ row_at old (i + 1) → n ≡ length rows + 1 →
    IsGathered keep old (i + 1) (rows ++ row ∷ []) (set to (i + 1) n)
gathered_more keep old i rows to row n stored g is room row_is n_is =
    let more : i + 1 ≡ suc i = omega arith in
    let e : rank keep (i + 1) ≡ rank keep i + 1 =
    ap (rank keep) more ∙ rank_kept keep i (ap keep (sym more) ∙ is) in
    let count = g.count in
    record {
      long = length-set to (i + 1) n ∙ g.long;
      count = length-append rows (row ∷ []) ∙ ap (λ (k : ℕ). k + 1) g.count ∙ sym e;
      row = λ p low is_p. elim (last_or_before p i low) [
        | inl last ↦ ap (λ (k : ℕ). row_at (rows ++ row ∷ []) (rank keep k)) last
            ∙ row_behind rows row (rank keep (i + 1)) (omega arith) ∙ row_is ∙ ap (row_at old) (sym last)
        | inr before ↦
            (let rises = rank_rises keep p i before in
            row_in_front rows row (rank keep p) (rank_positive keep p (stored p is_p).first is_p) (omega arith)
            ∙ g.row p before is_p)
      ];
      number = λ p low is_p. elim (last_or_before p i low) [
        | inl last ↦ ap (λ (k : ℕ). get_or (set to (i + 1) n) k 0) last
            ∙ get_or-set_same to (i + 1) n 0 (subst (λ (k : ℕ). i + 1 < k) (sym g.long) room)
            ∙ n_is ∙ sum (length rows) (rank keep i) (rank keep (i + 1)) count e ∙ ap (rank keep) (sym last)
        | inr before ↦ get_or-set_other to (i + 1) p n 0 (λ (z : p ≡ i + 1). absurd (omega arith)) ∙ g.number p before is_p
      ];
      none = λ p fails. get_or-set_other to (i + 1) p n 0 (λ (z : p ≡ i + 1). let same = ap keep z in absurd cc)
          ∙ g.none p fails;
      later = λ p low. get_or-set_other to (i + 1) p n 0 (λ (z : p ≡ i + 1). absurd (omega arith)) ∙ g.later p (omega arith);
    }
  where
    sum : (a b c : ℕ) → a ≡ b → c ≡ b + 1 → a + 1 ≡ c
    sum a b c p q = omega arith

any_default : (xs : List TableRow) (i : ℕ) (d e : TableRow) → i < length xs → get_or xs i d ≡ get_or xs i e
any_default [] i d e small = absurd (omega arith)
any_default (x ∷ xs) zero d e small = refl
any_default (x ∷ xs) (suc i) d e small = any_default xs i d e (omega arith)

-- a row by its place
pub row_by_place : (rows : List TableRow) (i : ℕ) (d : TableRow) → i < length rows → get_or rows i d ≡ row_at rows (i + 1)
row_by_place rows i d small =
    let some = ne_eqb (i + 1) 0 (λ (e : i + 1 ≡ 0). omega arith) in
    let less : i + 1 - 1 ≡ i = omega arith in
    rw some (rw less (any_default rows i d zero_table_row small))

-- the same, as the row is read
pub gathered_read : (keep : ℕ → Bool) (old items : List TableRow) (i : ℕ) (rows : List TableRow) (to : List ℕ)
    (d : TableRow) → ((p : ℕ) → keep p ≡ true → IsNumbered old p) → IsGathered keep old i rows to →
    keep (i + 1) ≡ true → i + 1 < 256 → items ≡ old → i < length items →
    IsGathered keep old (i + 1) (rows ++ get_or items i d ∷ []) (set to (i + 1) (length (rows ++ get_or items i d ∷ [])))
gathered_read keep old items i rows to d stored g is room same small =
    gathered_more keep old i rows to (get_or items i d) (length (rows ++ get_or items i d ∷ [])) stored g is room
    (row_by_place items i d small ∙ ap (λ (r : List TableRow). row_at r (i + 1)) same)
    (length-append rows (get_or items i d ∷ []))

-- all rows
pub gathered_all : (keep : ℕ → Bool) (old : List TableRow) (i : ℕ) (rows : List TableRow) (to : List ℕ) →
    ((p : ℕ) → keep p ≡ true → IsNumbered old p) → i ≡ length old → IsGathered keep old i rows to →
    IsRenumbering keep old rows (λ p. get_or to p 0)
gathered_all keep old i rows to stored all g = record {
  row = λ p is.
      let last = (stored p is).last in
      ap (row_at rows) (g.number p (omega arith) is) ∙ g.row p (omega arith) is;
  number = λ p is. let last = (stored p is).last in g.number p (omega arith) is;
  none = g.none;
  count = g.count ∙ ap (rank keep) all;
}
