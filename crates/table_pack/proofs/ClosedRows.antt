-- Which segments are closed, row by row.
use Rattle.std.proofs.Common.{◌≡◌, ◌≢◌, ℕ, suc, ◌+◌, ◌<◌, Bool, true, false, not, ◌&&◌}
use Rattle.std.proofs.Common.{◌||◌, ◌==◌, List, ◌∷◌, [], length, get_or, replicate, refl, sym, ◌∙◌}
use Rattle.std.proofs.Common.{ap, subst, inl, inr, arith}
use Rattle.std.proofs.Math.ListN.{set}
use Rattle.std.specs.List.{list_all}
use Rattle.std.proofs.lemmas.List.{get_or-set_same, get_or-set_other, get_or-replicate}
use Rattle.std.proofs.lemmas.List.Folds.{list_all-append}
use Rattle.std.proofs.lemmas.Bool.{cases_Bool, cases_eq, eq-eqb, ne_eqb, or_right}
use Rattle.song_model.specs.declared.tables.TableRow.{TableRow}
use Rattle.packing_rules.specs.Segments.{ProgramTable, IsWhole, numbers, row_of, is_jump_row, first_row, is_in, enters}
use Rattle.packing_rules.specs.Segments.{jumps, is_closed_at, is_closed}
use Rattle.packing_rules.proofs.Laws.{range_more, row_of_segment, is_in_from}
use Rattle.table_pack.specs.Marks.{is_marked}
use Rattle.table_pack.specs.Programs.{AreFirsts, Narrows}
use Rattle.table_pack.proofs.FirstRows.{not_at_0}

and_true : (b : Bool) → b ≡ (b && true)
and_true true = refl
and_true false = refl

and_false : (b : Bool) → false ≡ (b && false)
and_false true = refl
and_false false = refl

-- all marks stay
pub same_marks : (test : ℕ → Bool) (marks : List Bool) → ((s : ℕ) → test s ≡ true) → Narrows test marks marks
same_marks test marks each s small = and_true (is_marked marks s) ∙ ap (λ (b : Bool). is_marked marks s && b) (sym (each s))

-- one mark goes, and then others
pub one_goes : (one test : ℕ → Bool) (marks new : List Bool) (f : ℕ) → length marks ≡ 256 → f < 256 →
    Narrows one (set marks f false) new → test f ≡ false → ((s : ℕ) → s ≢ f → test s ≡ one s) → Narrows test marks new
one_goes one test marks new f long f_small narrows none others s small = elim (cases_eq s f) [
  | inl is ↦ narrows s small
      ∙ ap (λ (b : Bool). b && one s)
      (ap (λ (k : ℕ). is_marked (set marks f false) k) is ∙ get_or-set_same marks f false false (rw long f_small))
      ∙ and_false (is_marked marks s) ∙ ap (λ (b : Bool). is_marked marks s && b) (sym (ap test is ∙ none))
  | inr other ↦ narrows s small
      ∙ ap (λ (b : Bool). b && one s) (get_or-set_other marks f s false false other)
      ∙ ap (λ (b : Bool). is_marked marks s && b) (sym (others s other))
]

always : ℕ → Bool
always s = true

pub mark_goes : (test : ℕ → Bool) (marks : List Bool) (f : ℕ) → length marks ≡ 256 → f < 256 → test f ≡ false →
    ((s : ℕ) → s ≢ f → test s ≡ true) → Narrows test marks (set marks f false)
unfolding always
mark_goes test marks f long f_small none others =
    one_goes always test marks (set marks f false) f long f_small
    (same_marks always (set marks f false) (λ s. refl)) none others

-- ---- entering a segment

-- a row is in its own segment alone
pub own_segment : (table : ProgramTable) (q : ℕ) → table.reached q ≡ true → is_in table (first_row table q) q ≡ true
own_segment table q reached = is_in_from table (first_row table q) q reached refl

pub no_other : (table : ProgramTable) (q s : ℕ) → s ≢ first_row table q → is_in table s q ≡ false
no_other table q s other = elim (cases_Bool (is_in table s q)) [
  | inl is ↦ absurd (other (sym (row_of_segment table s q is).first))
  | inr fails ↦ fails
]

enters_others : (table : ProgramTable) (q s : ℕ) → s ≢ first_row table q → enters table s q ≡ true
enters_others table q s other = let fails = no_other table q s other in rw fails refl

-- behind the first row
pub enters_behind : (table : ProgramTable) (q f : ℕ) → table.reached q ≡ true → f ≡ first_row table q → f ≢ q →
    enters table f q ≡ false
enters_behind table q f reached is other =
    let inside : is_in table f q ≡ true = is_in_from table f q reached (sym is) in
    let behind : (q == f) ≡ false = ne_eqb q f (λ (z : q ≡ f). other (sym z)) in
    rw inside behind

pub entered : (table : ProgramTable) (q : ℕ) (firsts : List ℕ) (closed : List Bool) (f : ℕ) → AreFirsts table firsts →
    table.reached q ≡ true → f ≡ get_or firsts q 0 → f < 256 → length closed ≡ 256 → f ≢ q →
    Narrows (λ s. enters table s q) closed (set closed f false)
entered table q firsts closed f are reached f_is f_small long other =
    let is : f ≡ first_row table q = f_is ∙ are.at q reached in
    mark_goes (λ s. enters table s q) closed f long f_small (enters_behind table q f reached is other)
    (λ s apart. enters_others table q s (λ (z : s ≡ first_row table q). apart (z ∙ sym is)))

-- at the first row
enters_first : (table : ProgramTable) (q s : ℕ) → first_row table q ≡ q → enters table s q ≡ true
enters_first table q s first = elim (cases_eq s q) [
  | inl same ↦ (let e : (q == s) ≡ true = eq-eqb q s (sym same) in or_right (not (is_in table s q)) (q == s) e)
  | inr other ↦ enters_others table q s (λ (z : s ≡ first_row table q). other (z ∙ first))
]

pub entered_first : (table : ProgramTable) (q : ℕ) (firsts : List ℕ) (closed : List Bool) (f : ℕ) → AreFirsts table firsts →
    table.reached q ≡ true → f ≡ get_or firsts q 0 → f ≡ q → Narrows (λ s. enters table s q) closed closed
entered_first table q firsts closed f are reached f_is same =
    same_marks (λ s. enters table s q) closed (λ s. enters_first table q s (sym (are.at q reached) ∙ sym f_is ∙ same))

-- ---- jumps

jump_inside : (table : ProgramTable) (s p target : ℕ) → is_in table s p ≡ true → target ≢ 0 →
    jumps table s p target ≡ is_in table s target
jump_inside table s p target inside some =
    let e : (target == 0) ≡ false = ne_eqb target 0 some in rw (inside, e) refl

jump_outside : (table : ProgramTable) (s p target : ℕ) → is_in table s p ≡ false → jumps table s p target ≡ enters table s target
jump_outside table s p target outside = rw outside refl

-- a jump within its segment
pub jump_stays : (table : ProgramTable) (p target s : ℕ) → table.reached p ≡ true → table.reached target ≡ true →
    target ≢ 0 → first_row table target ≡ first_row table p → jumps table s p target ≡ true
jump_stays table p target s reached_p reached some same = elim (cases_eq s (first_row table p)) [
  | inl is ↦ jump_inside table s p target (is_in_from table s p reached_p (sym is)) some
      ∙ is_in_from table s target reached (same ∙ sym is)
  | inr other ↦ jump_outside table s p target (no_other table p s other)
      ∙ enters_others table target s (λ (z : s ≡ first_row table target). other (z ∙ same))
]

pub jumped_inside : (table : ProgramTable) (p target : ℕ) (firsts : List ℕ) (closed : List Bool) (own other : ℕ) →
    AreFirsts table firsts → table.reached p ≡ true → table.reached target ≡ true → target ≢ 0 →
    own ≡ get_or firsts p 0 → other ≡ get_or firsts target 0 → other ≡ own →
    Narrows (λ s. jumps table s p target) closed closed
jumped_inside table p target firsts closed own other are reached_p reached some own_is other_is same =
    same_marks (λ s. jumps table s p target) closed
    (λ s. jump_stays table p target s reached_p reached some
    (sym (are.at target reached) ∙ sym other_is ∙ same ∙ own_is ∙ are.at p reached_p))

-- a jump out of its segment
pub jumped_out : (table : ProgramTable) (p target : ℕ) (firsts : List ℕ) (closed new : List Bool) (own other : ℕ) →
    AreFirsts table firsts → table.reached p ≡ true → table.reached target ≡ true → target ≢ 0 →
    own ≡ get_or firsts p 0 → other ≡ get_or firsts target 0 → other ≢ own → own < 256 → length closed ≡ 256 →
    Narrows (λ s. enters table s target) (set closed own false) new → Narrows (λ s. jumps table s p target) closed new
jumped_out table p target firsts closed new own other are reached_p reached some own_is other_is apart small long narrows =
    let own_first : own ≡ first_row table p = own_is ∙ are.at p reached_p in
    let other_first : other ≡ first_row table target = other_is ∙ are.at target reached in
    one_goes (λ s. enters table s target) (λ s. jumps table s p target) closed new own long small narrows
    (jump_inside table own p target (is_in_from table own p reached_p (sym own_first)) some
    ∙ no_other table target own (λ (z : own ≡ first_row table target). apart (other_first ∙ sym z)))
    (λ s different. jump_outside table s p target
    (no_other table p s (λ (z : s ≡ first_row table p). different (z ∙ sym own_first))))

-- no row that is reached jumps to 0 into a segment
pub jump_to_0 : (table : ProgramTable) (s p : ℕ) → IsWhole table → jumps table s p 0 ≡ true
jump_to_0 table s p whole = by_case (is_in table s p) refl
  where
    by_case : (b : Bool) → is_in table s p ≡ b → jumps table s p 0 ≡ true
    by_case true e = rw e refl
    by_case false e = let none = not_at_0 table whole in rw (e, none) refl

-- ---- what a row says

pub entry_none : (table : ProgramTable) (p : ℕ) (closed : List Bool) → table.entries p ≡ false →
    Narrows (λ s. not (table.entries p) || enters table s p) closed closed
entry_none table p closed none = same_marks (λ s. not (table.entries p) || enters table s p) closed (λ s. rw none refl)

pub entry_some : (table : ProgramTable) (p : ℕ) (closed new : List Bool) → table.entries p ≡ true →
    Narrows (λ s. enters table s p) closed new → Narrows (λ s. not (table.entries p) || enters table s p) closed new
entry_some table p closed new is narrows s small =
    narrows s small ∙ ap (λ (b : Bool). is_marked closed s && (not b || enters table s p)) (sym is)

abbrev pub says : ProgramTable → ℕ → TableRow → ℕ → Bool
says table p row s = not (table.reached p && is_jump_row row) || jumps table s p row.right

pub jump_not_reached : (table : ProgramTable) (p : ℕ) (row : TableRow) (closed : List Bool) → table.reached p ≡ false →
    Narrows (λ s. not (table.reached p && is_jump_row row) || jumps table s p row.right) closed closed
jump_not_reached table p row closed none = same_marks (says table p row) closed (λ s. rw none refl)

pub jump_no_jump : (table : ProgramTable) (p : ℕ) (row : TableRow) (closed : List Bool) → is_jump_row row ≡ false →
    Narrows (λ s. not (table.reached p && is_jump_row row) || jumps table s p row.right) closed closed
jump_no_jump table p row closed none =
    same_marks (says table p row) closed (λ s. rw none (both (table.reached p) (jumps table s p row.right)))
  where
    both : (a b : Bool) → (not (a && false) || b) ≡ true
    both true b = refl
    both false b = refl

pub jump_none : (table : ProgramTable) (p : ℕ) (row : TableRow) (closed : List Bool) → IsWhole table → row.right ≡ 0 →
    Narrows (λ s. not (table.reached p && is_jump_row row) || jumps table s p row.right) closed closed
jump_none table p row closed whole none =
    same_marks (says table p row) closed
    (λ s. or_right (not (table.reached p && is_jump_row row)) (jumps table s p row.right)
    (ap (jumps table s p) none ∙ jump_to_0 table s p whole))

pub jump_some : (table : ProgramTable) (p : ℕ) (row : TableRow) (closed new : List Bool) → table.reached p ≡ true →
    is_jump_row row ≡ true → Narrows (λ s. jumps table s p row.right) closed new →
    Narrows (λ s. not (table.reached p && is_jump_row row) || jumps table s p row.right) closed new
jump_some table p row closed new reached jump narrows s small =
    narrows s small
    ∙ ap (λ (b : Bool). is_marked closed s && (b || jumps table s p row.right))
    (sym (says_so (table.reached p) (is_jump_row row) reached jump))
  where
    says_so : (a b : Bool) → a ≡ true → b ≡ true → not (a && b) ≡ false
    says_so a b p q = rw (p, q) refl

-- a row that is reached, and jumps
pub jump_taken : (table : ProgramTable) (p : ℕ) (row : TableRow) (closed new : List Bool) (k : ℕ) → IsWhole table →
    table.reached p ≡ true → row_of table p ≡ row → is_jump_row row ≡ true → row.right ≢ 0 → k ≡ row.right →
    (table.reached k ≡ true → k ≢ 0 → Narrows (λ s. jumps table s p k) closed new) →
    Narrows (λ s. not (table.reached p && is_jump_row row) || jumps table s p row.right) closed new
jump_taken table p row closed new k whole reached row_is jump some k_is narrows =
    let jumps_too : is_jump_row (row_of table p) ≡ true = ap is_jump_row row_is ∙ jump in
    let right : (row_of table p).right ≡ row.right = ap (λ (r : TableRow). r.right) row_is in
    let there : table.reached (row_of table p).right ≡ true =
    whole.target p reached jumps_too (λ (z : (row_of table p).right ≡ 0). some (sym right ∙ z)) in
    let goes : table.reached k ≡ true = ap table.reached (k_is ∙ sym right) ∙ there in
    jump_some table p row closed new reached jump
    (subst (λ (t : ℕ). Narrows (λ s. jumps table s p t) closed new) k_is
    (narrows goes (λ (z : k ≡ 0). some (sym k_is ∙ z))))

-- ---- all rows

pub closed_start : (test : ℕ → Bool) (s : ℕ) → s < 256 → is_marked (replicate 256 true) s ≡ list_all test (numbers 0)
closed_start test s small = get_or-replicate 256 s true false small

pub closed_more : (table : ProgramTable) (i s : ℕ) (before between after : List Bool) → s < 256 →
    is_marked before s ≡ list_all (is_closed_at table s) (numbers i) →
    Narrows (λ s. not (table.entries (i + 1)) || enters table s (i + 1)) before between →
    Narrows
    (λ s. not (table.reached (i + 1) && is_jump_row (row_of table (i + 1)))
    || jumps table s (i + 1) (row_of table (i + 1)).right) between after →
    is_marked after s ≡ list_all (is_closed_at table s) (numbers (i + 1))
closed_more table i s before between after small so_far entry jump =
    let more : i + 1 ≡ suc i = omega arith in
    let next : 1 + i ≡ i + 1 = omega arith in
    jump s small
    ∙ ap (λ (b : Bool). b && (not (table.reached (i + 1) && is_jump_row (row_of table (i + 1)))
    || jumps table s (i + 1) (row_of table (i + 1)).right))
    (entry s small
    ∙ ap (λ (b : Bool). b && (not (table.entries (i + 1)) || enters table s (i + 1))) so_far)
    ∙ regroup (list_all (is_closed_at table s) (numbers i)) (not (table.entries (i + 1)) || enters table s (i + 1))
    (not (table.reached (i + 1) && is_jump_row (row_of table (i + 1))) || jumps table s (i + 1) (row_of table (i + 1)).right)
    ∙ sym (ap (λ (k : ℕ). list_all (is_closed_at table s) (numbers k)) more
    ∙ ap (list_all (is_closed_at table s)) (range_more 1 i)
    ∙ list_all-append (is_closed_at table s) (numbers i) ((1 + i) ∷ [])
    ∙ ap (λ (k : ℕ). list_all (is_closed_at table s) (numbers i) && (is_closed_at table s k && true)) next)
  where
    regroup : (a b c : Bool) → ((a && b) && c) ≡ (a && ((b && c) && true))
    regroup true true true = refl
    regroup true true false = refl
    regroup true false c = refl
    regroup false b c = refl

pub closed_all : (table : ProgramTable) (rows : List TableRow) (i s : ℕ) (marks : List Bool) → table.rows ≡ rows →
    i ≡ length rows → is_marked marks s ≡ list_all (is_closed_at table s) (numbers i) →
    is_marked marks s ≡ is_closed table s
unfolding is_closed
closed_all table rows i s marks rows_are all is =
    is ∙ ap (λ (k : ℕ). list_all (is_closed_at table s) (numbers k)) (all ∙ ap (λ (r : List TableRow). length r) (sym rows_are))
