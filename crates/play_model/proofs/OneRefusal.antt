-- A song is refused for one thing: a place of a file has one orderlist, and a rank is that of one refusal.
use Rattle.std.proofs.Common.{◌≡◌, ℕ, ◌<◌, true, List, [], ◌∷◌, get_or, Some, slice_get, refl, sym}
use Rattle.std.proofs.Common.{◌∙◌, ap, subst, inl, inr, arith}
use Rattle.std.specs.Ordering.{nat_cmp, is_le}
use Rattle.std.specs.Cmp.Lexicographic.{slice_cmp}
use Rattle.std.proofs.lemmas.Bool.{cases_order}
use Rattle.std.proofs.lemmas.Bool.Decides.{nat_tests}
use Rattle.base.proofs.Laws.{same_some, same_head, same_tail}
use Rattle.song_model.specs.declared.orders.Order.{Order}
use Rattle.song_model.specs.declared.orders.Subtune.{Subtune}
use Rattle.song_model.specs.declared.tables.TableName.{TableName}
use Rattle.song_model.specs.declared.tables.TableName.TheVariants.{Wave, Pulse, Filter, Speed}
use Rattle.song_model.specs.declared.songs.Song.{Song}
use Rattle.song_model.specs.LookUp.{order_of}
use Rattle.play_model.specs.declared.unplayable.Unplayable.{Unplayable}
use Rattle.play_model.specs.declared.unplayable.Unplayable.TheVariants.{NoSubtune, MissingPattern, BadRestart}
use Rattle.play_model.specs.declared.unplayable.Unplayable.TheVariants.{TableOverflow, PointerToJump}
use Rattle.play_model.specs.Playable.{rank_of, table_number, Fails, HasOrder, MissesPattern, IsPlayable, IsRefusedFor}

-- a place of a file has one orderlist
pub one_order : (song : Song) (s c : ℕ) (order other : Order) → HasOrder song s c order → HasOrder song s c other →
    other ≡ order
one_order song s c order other a b =
    let subtunes : b.subtune ≡ a.subtune = same_some b.subtune a.subtune (sym b.subtune_is ∙ a.subtune_is) in
    b.order_is ∙ ap (λ (t : Subtune). order_of c t) subtunes ∙ sym a.order_is

-- a number is that of one table
pub same_table : (a b : TableName) → table_number a ≡ table_number b → b ≡ a
same_table Wave Wave e = refl
same_table Pulse Pulse e = refl
same_table Filter Filter e = refl
same_table Speed Speed e = refl
same_table Wave Pulse e = absurd (omega arith)
same_table Wave Filter e = absurd (omega arith)
same_table Wave Speed e = absurd (omega arith)
same_table Pulse Wave e = absurd (omega arith)
same_table Pulse Filter e = absurd (omega arith)
same_table Pulse Speed e = absurd (omega arith)
same_table Filter Wave e = absurd (omega arith)
same_table Filter Pulse e = absurd (omega arith)
same_table Filter Speed e = absurd (omega arith)
same_table Speed Wave e = absurd (omega arith)
same_table Speed Pulse e = absurd (omega arith)
same_table Speed Filter e = absurd (omega arith)

-- ---- ranks

greater_first : (x y : ℕ) (xs ys : List ℕ) → y < x → is_le (slice_cmp nat_cmp (x ∷ xs) (y ∷ ys)) ≡ true → ⊥
greater_first x y xs ys lt h = grind (arith, nat_tests)

equal_first : (x y : ℕ) (xs ys : List ℕ) → x ≡ y → is_le (slice_cmp nat_cmp (x ∷ xs) (y ∷ ys)) ≡ true →
    is_le (slice_cmp nat_cmp xs ys) ≡ true
equal_first x y xs ys e h = grind (arith, nat_tests)

same_ranks : (xs ys : List ℕ) → is_le (slice_cmp nat_cmp xs ys) ≡ true → is_le (slice_cmp nat_cmp ys xs) ≡ true →
    xs ≡ ys
same_ranks [] [] a b = refl
same_ranks [] (y ∷ ys) a b = absurd (cc)
same_ranks (x ∷ xs) [] a b = absurd (cc)
same_ranks (x ∷ xs) (y ∷ ys) a b = elim (cases_order x y) [
  | inl e ↦ (let rest = same_ranks xs ys (equal_first x y xs ys e a) (equal_first y x ys xs (sym e) b) in cc)
  | inr other ↦ elim other [
    | inl lt ↦ absurd (greater_first y x ys xs lt b)
    | inr gt ↦ absurd (greater_first x y xs ys gt a)
  ]
]

abbrev first_number : List ℕ → ℕ
first_number xs = get_or xs 0 0

same_pattern : (song : Song) (s c l p q : ℕ) → MissesPattern song s c l p → MissesPattern song s c l q → p ≡ q
same_pattern song s c l p q a b =
    let orders : b.order ≡ a.order = one_order song s c a.order b.order a.has b.has in
    let names = subst (λ (o : Order). slice_get o.entries l ≡ Some q) orders b.names in
    let both : Some p ≡ Some q = sym a.names ∙ names in
    cc

-- two refusals of one song with one rank are one
same_refusal : (song : Song) (a b : Unplayable) → Fails song a → Fails song b → rank_of a ≡ rank_of b → a ≡ b
same_refusal song NoSubtune NoSubtune f g e = refl
same_refusal song (MissingPattern s c l p) (MissingPattern t d k q) f g e =
    let e1 = same_tail 2 2 (s ∷ c ∷ l ∷ []) (t ∷ d ∷ k ∷ []) e in
    let st : s ≡ t = same_head s t (c ∷ l ∷ []) (d ∷ k ∷ []) e1 in
    let e2 = same_tail s t (c ∷ l ∷ []) (d ∷ k ∷ []) e1 in
    let cd : c ≡ d = same_head c d (l ∷ []) (k ∷ []) e2 in
    let lk : l ≡ k = same_head l k [] [] (same_tail c d (l ∷ []) (k ∷ []) e2) in
    let pq : p ≡ q = same_pattern song s c l p q f (rw (st, cd, lk) g) in
    cc
same_refusal song (BadRestart s c) (BadRestart t d) f g e =
    let e1 = same_tail 3 3 (s ∷ c ∷ []) (t ∷ d ∷ []) e in
    let st : s ≡ t = same_head s t (c ∷ []) (d ∷ []) e1 in
    let cd : c ≡ d = same_head c d [] [] (same_tail s t (c ∷ []) (d ∷ []) e1) in
    cc
same_refusal song (TableOverflow t r) (TableOverflow u q) f g e =
    let e1 = same_tail 4 4 (table_number t ∷ r ∷ []) (table_number u ∷ q ∷ []) e in
    let tu : u ≡ t = same_table t u (same_head (table_number t) (table_number u) (r ∷ []) (q ∷ []) e1) in
    let rq : r ≡ q = same_head r q [] [] (same_tail (table_number t) (table_number u) (r ∷ []) (q ∷ []) e1) in
    cc
same_refusal song (PointerToJump t r) (PointerToJump u q) f g e =
    let e1 = same_tail 5 5 (table_number t ∷ r ∷ []) (table_number u ∷ q ∷ []) e in
    let tu : u ≡ t = same_table t u (same_head (table_number t) (table_number u) (r ∷ []) (q ∷ []) e1) in
    let rq : r ≡ q = same_head r q [] [] (same_tail (table_number t) (table_number u) (r ∷ []) (q ∷ []) e1) in
    cc
same_refusal song NoSubtune b f g e = absurd (let h = ap first_number e in omega arith)
same_refusal song (MissingPattern s c l p) b f g e = absurd (let h = ap first_number e in omega arith)
same_refusal song (BadRestart s c) b f g e = absurd (let h = ap first_number e in omega arith)
same_refusal song (TableOverflow t r) b f g e = absurd (let h = ap first_number e in omega arith)
same_refusal song (PointerToJump t r) b f g e = absurd (let h = ap first_number e in omega arith)

pub one_refusal : (song : Song) (a b : Unplayable) → IsRefusedFor song a → IsRefusedFor song b → a ≡ b
one_refusal song a b f g =
    let ranks = same_ranks (rank_of a) (rank_of b) (f.first b g.is_such) (g.first a f.is_such) in
    same_refusal song a b f.is_such g.is_such ranks

pub refused_lem : (song : Song) (a : Unplayable) → IsRefusedFor song a → ¬ IsPlayable song
refused_lem song a f play = play a f.is_such
