-- The lengths of orderlists, added one after the other.
use Rattle.std.proofs.Common.{◌≡◌, ℕ, ◌+◌, ◌<◌, ◌&&◌, Bool, true, false, List, [], ◌∷◌, ◌++◌}
use Rattle.std.proofs.Common.{length, take, get_or, refl, sym, ◌∙◌, ap, arith}
use Rattle.std.proofs.Math.Bool.{and_assoc, and-true}
use Rattle.std.specs.List.{flat_map, list_all, sum_by}
use Rattle.std.proofs.lemmas.List.Sums.{fold-append, sum_by-cons}
use Rattle.song_model.specs.declared.orders.Order.{Order}
use Rattle.song_model.specs.declared.orders.Subtune.{Subtune}
use Rattle.song_cut.specs.declared.orders.OrderLengths.{OrderLengths}
use Rattle.song_cut.specs.Marks.{orders_if_played}
use Rattle.song_cut.specs.Orders.{counted, fits_in, added, all_added}
use Rattle.song_cut.proofs.Lists.{flat_map_next}

pub none_added : (counts : List ℕ) (lengths : OrderLengths) → lengths ≡ all_added counts lengths []
unfolding all_added
none_added counts lengths = refl

pub added_next : (counts : List ℕ) (first lengths new : OrderLengths) (subtunes : List Subtune) (i : ℕ) (subtune :
    Subtune) →
    i < length subtunes → subtune ≡ get_or subtunes i subtune →
    lengths ≡ all_added counts first (flat_map orders_if_played (take i subtunes)) →
    new ≡ all_added counts lengths (orders_if_played subtune) →
    new ≡ all_added counts first (flat_map orders_if_played (take (i + 1) subtunes))
unfolding all_added
added_next counts first lengths new subtunes i subtune inside is so_far new_is =
    new_is
    ∙ ap (λ (l : OrderLengths). all_added counts l (orders_if_played subtune)) so_far
    ∙ sym (fold-append (added counts) first (flat_map orders_if_played (take i subtunes)) (orders_if_played subtune))
    ∙ ap (λ (s : Subtune). all_added counts first (flat_map orders_if_played (take i subtunes) ++ orders_if_played s))
    is
    ∙ ap (all_added counts first) (sym (flat_map_next orders_if_played subtunes i subtune inside))

fit_added : (counts : List ℕ) (lengths : OrderLengths) (orders : List Order) →
    (all_added counts lengths orders).fit ≡ (lengths.fit && list_all (fits_in counts) orders)
unfolding all_added added
fit_added counts lengths [] = sym (and-true lengths.fit)
fit_added counts lengths (order ∷ orders) =
    fit_added counts (added counts lengths order) orders
    ∙ and_assoc lengths.fit (fits_in counts order) (list_all (fits_in counts) orders)

sum_added : (counts : List ℕ) (lengths : OrderLengths) (orders : List Order) →
    (all_added counts lengths orders).sum ≡ lengths.sum + sum_by (λ order. counted counts order.entries) orders
unfolding all_added added
sum_added counts lengths [] = omega arith
sum_added counts lengths (order ∷ orders) =
    let rest = sum_by (λ (o : Order). counted counts o.entries) orders in
    let cons = sum_by-cons (λ (o : Order). counted counts o.entries) order orders in
    let regrouped : lengths.sum + counted counts order.entries + rest ≡ lengths.sum + (counted counts order.entries +
    rest) =
    omega arith in
    sum_added counts (added counts lengths order) orders
    ∙ regrouped ∙ ap (λ (n : ℕ). lengths.sum + n) (sym cons)

pub fit_is : (counts : List ℕ) (lengths : OrderLengths) (some played : List Order) →
    lengths ≡ all_added counts (record { fit = true; sum = 0 }) some → some ≡ played →
    lengths.fit ≡ list_all (fits_in counts) played
fit_is counts lengths some played are same =
    ap (λ (l : OrderLengths). l.fit) are ∙ fit_added counts (record { fit = true; sum = 0 }) some
    ∙ ap (list_all (fits_in counts)) same

pub sum_is : (counts : List ℕ) (lengths : OrderLengths) (some played : List Order) →
    lengths ≡ all_added counts (record { fit = true; sum = 0 }) some → some ≡ played →
    lengths.sum ≡ sum_by (λ order. counted counts order.entries) played
sum_is counts lengths some played are same =
    let zero_first : (n : ℕ) → 0 + n ≡ n = λ n. omega arith in
    ap (λ (l : OrderLengths). l.sum) are ∙ sum_added counts (record { fit = true; sum = 0 }) some
    ∙ zero_first (sum_by (λ (order : Order). counted counts order.entries) some)
    ∙ ap (sum_by (λ (order : Order). counted counts order.entries)) same
