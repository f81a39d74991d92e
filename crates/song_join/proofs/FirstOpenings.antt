-- The opening row of an orderlist's plays is that of its first pattern that has one.
use Rattle.std.specs.Prelude.{◌==◌}
use Rattle.std.proofs.Common.{◌≡◌, ℕ, ℤ, Bool, suc, pos, ◌+◌, ◌<◌, ◌≤◌, true, false, ltb, List}
use Rattle.std.proofs.Common.{[], ◌∷◌, ◌++◌, length, get_or, take, drop, replicate, All, refl, sym, ap}
use Rattle.std.proofs.Common.{◌∙◌, subst, inl, inr, arith, add-one, append_assoc, length-append}
use Rattle.std.specs.Prelude.{Option, Some, None}
use Rattle.std.proofs.lemmas.Bool.{cases_lt, cond_both, eqb-true, eq-eqb}
use Rattle.std.proofs.lemmas.Bool.Decides.{nat_tests}
use Rattle.std.proofs.lemmas.List.{take-append-drop, get_or_append_left, get_or-take, get_or_default, length-take-le}
use Rattle.std.proofs.lemmas.List.Elements.{All-nil, All-head, All-tail, All-append, All-replicate, All-contains}
use Rattle.std.proofs.Math.Seq.{drop-cons, get_or-append_seam}
use Rattle.song_model.specs.declared.rows.Row.{Row}
use Rattle.song_model.specs.declared.orders.Order.{Order}
use Rattle.song_model.specs.declared.orders.Step.{Step}
use Rattle.song_model.specs.declared.songs.Song.{Song}
use Rattle.song_model.specs.Endless.{IsPatternByte, IsEndless}
use Rattle.song_model.specs.LookUp.{pattern_at}
use Rattle.song_model.specs.Walk.{transpose_after, repeat_after, plays_of, walk_plays, end_transpose, end_repeat}
use Rattle.song_model.specs.Walk.{prefix_of, played, no_step}
use Rattle.song_model.proofs.Laws.{plays_are_patterns_lem}
use Rattle.same_frames.proofs.Laws.{find_first, find_none}
use Rattle.song_join.specs.Openings.{is_opening, opening, BeginsUnnamed}

-- ---- the plays of a walk's first bytes

step_of : ℕ → ℤ → Step
step_of byte transpose = record { pattern = byte; transpose = transpose }

walk-append : (xs ys : List ℕ) (t : ℤ) (r : ℕ) →
    walk_plays (xs ++ ys) t r ≡ walk_plays xs t r ++ walk_plays ys (end_transpose xs t) (end_repeat xs r)
walk-append [] ys t r = refl
walk-append (x ∷ xs) ys t r =
    ap (λ (plays : List Step). plays_of x t r ++ plays)
    (walk-append xs ys (transpose_after x t) (repeat_after x r))
    ∙ sym (append_assoc (plays_of x t r) (walk_plays xs (transpose_after x t) (repeat_after x r))
    (walk_plays ys (end_transpose xs (transpose_after x t)) (end_repeat xs (repeat_after x r))))

-- what holds of each pattern of these bytes holds of each play of them
byte_all : (P : ℕ → Type 0) (byte : ℕ) (t : ℤ) (r : ℕ) → (IsPatternByte byte → P byte) →
    All (λ (play : Step). P play.pattern) (plays_of byte t r)
byte_all P byte t r holds =
    cond_both (ltb byte 0xD0) (replicate (r + 1) (record { pattern = byte; transpose = t })) []
    (λ plays. All (λ (play : Step). P play.pattern) plays)
    (λ low. All-replicate (λ (play : Step). P play.pattern) (r + 1) (record { pattern = byte; transpose = t })
    (holds (let h : byte < 0xD0 = grind (arith, nat_tests) in h)))
    (λ high. All-nil (λ (play : Step). P play.pattern))

walk_all : (P : ℕ → Type 0) (bytes : List ℕ) (t : ℤ) (r : ℕ) → All (λ byte. IsPatternByte byte → P byte) bytes →
    All (λ (play : Step). P play.pattern) (walk_plays bytes t r)
walk_all P [] t r all = All-nil (λ (play : Step). P play.pattern)
walk_all P (byte ∷ bytes) t r all =
    All-append (λ (play : Step). P play.pattern) (plays_of byte t r)
    (walk_plays bytes (transpose_after byte t) (repeat_after byte r))
    (byte_all P byte t r (All-head (λ b. IsPatternByte b → P b) byte bytes all))
    (walk_all P bytes (transpose_after byte t) (repeat_after byte r)
    (All-tail (λ b. IsPatternByte b → P b) byte bytes all))

-- ---- the play of the pattern behind them

pattern_first : (byte : ℕ) (t : ℤ) (r : ℕ) (rest : List Step) → byte < 0xD0 →
    plays_of byte t r ++ rest ≡ step_of byte t ∷ (replicate r (step_of byte t) ++ rest)
unfolding step_of
pattern_first byte t r rest low =
    let test : ltb byte 0xD0 ≡ true = grind (arith, nat_tests) in
    rw (test, add-one) refl

-- the plays of an orderlist up to its end: those of its first bytes, and the first of this pattern
record PlaysAt (order : Order) (front : List Step) (step : Step) : Type 0 where
  more : List Step
  is : prefix_of order ≡ front ++ step ∷ more

prefix_is : (order : Order) (before : List ℕ) (byte : ℕ) (after : List ℕ) → order.entries ≡ before ++ byte ∷ after →
    byte < 0xD0 → PlaysAt order (walk_plays before (pos 0) 0) (step_of byte (end_transpose before (pos 0)))
unfolding prefix_of
prefix_is order before byte after e low =
    let t = end_transpose before (pos 0) in
    let r = end_repeat before 0 in
    let rest = walk_plays after (transpose_after byte t) (repeat_after byte r) in
    record {
      more = replicate r (step_of byte t) ++ rest;
      is =
          ap (λ (bytes : List ℕ). walk_plays bytes (pos 0) 0) e
          ∙ walk-append before (byte ∷ after) (pos 0) 0
          ∙ ap (λ (plays : List Step). walk_plays before (pos 0) 0 ++ plays) (pattern_first byte t r rest low);
    }

low_test : (i n : ℕ) → i < n → ltb i n ≡ true
low_test i n h = grind (arith, nat_tests)

played_there : (order : Order) (front : List Step) (step : Step) → PlaysAt order front step →
    played order (length front) ≡ step
unfolding played
played_there order front step at =
    let count = ap length at.is ∙ length-append front (step ∷ at.more) in
    let inside = low_test (length front) (length (prefix_of order)) (omega arith) in
    rw inside
    (ap (λ (plays : List Step). get_or plays (length front) no_step) at.is
    ∙ get_or-append_seam front step at.more no_step)

played_before : (order : Order) (front : List Step) (step : Step) (i : ℕ) → PlaysAt order front step → i < length front →
    played order i ≡ get_or front i no_step
unfolding played
played_before order front step i at low =
    let count = ap length at.is ∙ length-append front (step ∷ at.more) in
    let inside = low_test i (length (prefix_of order)) (omega arith) in
    rw inside
    (ap (λ (plays : List Step). get_or plays i no_step) at.is
    ∙ get_or_append_left front (step ∷ at.more) no_step i low)

-- ---- the opening row of a pattern

-- none of the first rows has a note or names an instrument
abbrev pub NoneOpensBelow : List Row → ℕ → Type 0
NoneOpensBelow rows i = (k : ℕ) (d : Row) → k < i → is_opening (get_or rows k d) ≡ false

pub none_more : (rows : List Row) (i : ℕ) (z : Row) (b : Bool) → i < length rows → NoneOpensBelow rows i →
    b ≡ is_opening (get_or rows i z) → b ≡ false → NoneOpensBelow rows (i + 1)
none_more rows i z b inside below is_b fails k d low = elim (cases_lt k i) [
  | inl before ↦ below k d before
  | inr on ↦ (
      let e : i ≡ k = omega arith in
      subst (λ (n : ℕ). is_opening (get_or rows n d) ≡ false) e
      (ap is_opening (get_or_default rows i d z inside) ∙ sym is_b ∙ fails))
]

pub opens_here : (rows : List Row) (i : ℕ) (z : Row) (b : Bool) → i < length rows → NoneOpensBelow rows i →
    b ≡ is_opening (get_or rows i z) → b ≡ true → Some (get_or rows i z) ≡ opening rows
opens_here rows i z b inside below is_b passes =
    sym (find_first is_opening rows i z inside (λ n low. below n z low) (sym is_b ∙ passes))

pub opens_nowhere : (rows : List Row) (i : ℕ) (z : Row) → length rows ≤ i → NoneOpensBelow rows i → None ≡ opening rows
opens_nowhere rows i z end below = sym (find_none is_opening rows z (λ n low. below n z (omega arith)))

-- ---- openings

-- the pattern of a byte has no opening row
abbrev pub IsOpenless : Song → ℕ → Type 0
IsOpenless song byte = opening (pattern_at song byte) ≡ None

abbrev opening_of_play : Song → Order → ℕ → Option Row
opening_of_play song order i = opening (pattern_at song (played order i).pattern)

-- the first play with an opening row
record OpensWith (song : Song) (order : Order) (row : Row) : Type 0 where
  play : ℕ
  opens : opening_of_play song order play ≡ Some row
  before : (i : ℕ) → i < play → opening_of_play song order i ≡ None

split_at : (entries : List ℕ) (k : ℕ) → k < length entries →
    entries ≡ take k entries ++ get_or entries k 0 ∷ drop (suc k) entries
split_at entries k inside =
    sym (take-append-drop k entries)
    ∙ ap (λ (bytes : List ℕ). take k entries ++ bytes) (drop-cons entries k 0 inside)

-- no pattern before place k of an orderlist has an opening row
abbrev pub IsOpenlessBelow : Song → List ℕ → ℕ → Type 0
IsOpenlessBelow song entries k =
    (j : ℕ) → j < k → IsPatternByte (get_or entries j 0) → IsOpenless song (get_or entries j 0)

none_taken : (song : Song) (entries : List ℕ) (k : ℕ) → k ≤ length entries → IsOpenlessBelow song entries k →
    All (λ byte. IsPatternByte byte → IsOpenless song byte) (take k entries)
none_taken song entries k inside none j d low =
    let short = length-take-le k entries inside in
    let same : get_or (take k entries) j d ≡ get_or entries j 0 =
    get_or-take k entries j d (omega arith) ∙ get_or_default entries j d 0 (omega arith) in
    subst (λ (byte : ℕ). IsPatternByte byte → IsOpenless song byte) (sym same) (none j (omega arith))

opens_with : (song : Song) (order : Order) (k : ℕ) (row : Row) → k < length order.entries →
    get_or order.entries k 0 < 0xD0 → opening (pattern_at song (get_or order.entries k 0)) ≡ Some row →
    IsOpenlessBelow song order.entries k → OpensWith song order row
unfolding step_of
opens_with song order k row inside low opens none =
    let front = walk_plays (take k order.entries) (pos 0) 0 in
    let byte = get_or order.entries k 0 in
    let at = prefix_is order (take k order.entries) byte (drop (suc k) order.entries)
    (split_at order.entries k inside) low in
    record {
      play = length front;
      opens =
          ap (λ (step : Step). opening (pattern_at song step.pattern))
          (played_there order front (step_of byte (end_transpose (take k order.entries) (pos 0))) at)
          ∙ opens;
      before =
          λ i less.
          ap (λ (step : Step). opening (pattern_at song step.pattern))
          (played_before order front (step_of byte (end_transpose (take k order.entries) (pos 0))) i at less)
          ∙ walk_all (IsOpenless song) (take k order.entries) (pos 0) 0
          (none_taken song order.entries k (omega arith) none) i no_step less;
    }

none_is_some : (row : Row) → None ≡ Some row → ⊥
none_is_some row e = cc

same_row : (a b : Row) → Some a ≡ Some b → a ≡ b
same_row a b e = cc

-- one pattern more
pub openless_more : (song : Song) (entries : List ℕ) (k : ℕ) → IsOpenlessBelow song entries k →
    (IsPatternByte (get_or entries k 0) → IsOpenless song (get_or entries k 0)) →
    IsOpenlessBelow song entries (k + 1)
openless_more song entries k none here j low = elim (cases_lt j k) [
  | inl before ↦ none j before
  | inr on ↦ (
      let e : k ≡ j = omega arith in
      subst (λ (n : ℕ). IsPatternByte (get_or entries n 0) → IsOpenless song (get_or entries n 0)) e here)
]

pub begins_unnamed : (song : Song) (order : Order) (k : ℕ) (row : Row) → k < length order.entries →
    get_or order.entries k 0 < 0xD0 → opening (pattern_at song (get_or order.entries k 0)) ≡ Some row →
    IsOpenlessBelow song order.entries k → row.instrument ≡ 0 → BeginsUnnamed song order
begins_unnamed song order k row inside low opens none unnamed =
    let found = opens_with song order k row inside low opens none in
    record { play = found.play; row = row; opens = found.opens; unnamed = unnamed; before = found.before }

pub unnamed_row : (song : Song) (order : Order) (k : ℕ) (row : Row) → k < length order.entries →
    get_or order.entries k 0 < 0xD0 → opening (pattern_at song (get_or order.entries k 0)) ≡ Some row →
    IsOpenlessBelow song order.entries k → BeginsUnnamed song order → row.instrument ≡ 0
unnamed_row song order k row inside low opens none begins =
    let found = opens_with song order k row inside low opens none in
    elim (cases_lt begins.play found.play) [
      | inl earlier ↦ absurd (none_is_some begins.row (sym (found.before begins.play earlier) ∙ begins.opens))
      | inr on ↦ elim (cases_lt found.play begins.play) [
        | inl later ↦ absurd (none_is_some row (sym (begins.before found.play later) ∙ found.opens))
        | inr same ↦ (
            let e : found.play ≡ begins.play = omega arith in
            let rows : row ≡ begins.row =
            same_row row begins.row
            (sym found.opens ∙ ap (λ (i : ℕ). opening_of_play song order i) e ∙ begins.opens) in
            ap (λ (r : Row). r.instrument) rows ∙ begins.unnamed)
      ]
    ]

-- the first pattern with an opening row decides
pub decided : (song : Song) (order : Order) (entries : List ℕ) (k : ℕ) (row : Row) → entries ≡ order.entries →
    k < length entries → get_or entries k 0 < 0xD0 →
    opening (pattern_at song (get_or entries k 0)) ≡ Some row → IsOpenlessBelow song entries k →
    ((row.instrument == 0) ≡ true → BeginsUnnamed song order)
    × (BeginsUnnamed song order → (row.instrument == 0) ≡ true)
decided song order entries k row e inside low opens none =
    let inside_it = subst (λ (es : List ℕ). k < length es) e inside in
    let low_it = subst (λ (es : List ℕ). get_or es k 0 < 0xD0) e low in
    let opens_it = subst (λ (es : List ℕ). opening (pattern_at song (get_or es k 0)) ≡ Some row) e opens in
    let none_it = subst (λ (es : List ℕ). IsOpenlessBelow song es k) e none in (
      λ t. begins_unnamed song order k row inside_it low_it opens_it none_it (eqb-true row.instrument 0 t),
      λ b. eq-eqb row.instrument 0 (unnamed_row song order k row inside_it low_it opens_it none_it b),
    )

pub never_unnamed : (song : Song) (order : Order) (k : ℕ) → IsEndless order → length order.entries ≤ k →
    IsOpenlessBelow song order.entries k → ¬ BeginsUnnamed song order
never_unnamed song order k endless end none begins =
    let play = plays_are_patterns_lem order begins.play endless in
    let all : All (λ byte. IsPatternByte byte → IsOpenless song byte) order.entries =
    λ j d low.
    subst (λ (byte : ℕ). IsPatternByte byte → IsOpenless song byte) (get_or_default order.entries j 0 d low)
    (none j (omega arith)) in
    none_is_some begins.row
    (sym (All-contains (λ byte. IsPatternByte byte → IsOpenless song byte) order.entries
    (played order begins.play).pattern all play.entry play.pattern)
    ∙ begins.opens)
