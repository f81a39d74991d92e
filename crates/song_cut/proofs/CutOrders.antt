-- The orderlists of a song that is cut: how long they are, and what stands in them.
use Rattle.std.proofs.Common.{◌≡◌, ℕ, ◌<◌, ◌≤◌, true, List, [], ◌∷◌, length, map}
use Rattle.std.proofs.Common.{take, nat_eq, nat_le, slice_index, All, refl, sym, ◌∙◌, ap, inl, inr, arith}
use Rattle.std.specs.List.{flat_map, list_all, position_or_len, sum_by}
use Rattle.std.proofs.lemmas.Bool.{cases_lt, lt-ltb, le-ltb}
use Rattle.std.proofs.lemmas.List.{length-map}
use Rattle.std.proofs.lemmas.List.Concat.{length-flat_map}
use Rattle.std.proofs.lemmas.List.Folds.{list_all-map}
use Rattle.std.proofs.lemmas.List.Elements.{All-head, All-tail, All-nil, All-cons, All-filter, All-take}
use Rattle.song_model.specs.declared.orders.Order.{Order}
use Rattle.song_model.specs.declared.orders.Subtune.{Subtune}
use Rattle.song_model.specs.declared.songs.Song.{Song}
use Rattle.song_model.specs.declared.orders.TheConstants.{MOST_ENTRIES}
use Rattle.song_model.specs.declared.patterns.TheConstants.{MOST_PATTERNS}
use Rattle.song_model.specs.Limits.{IsSubtune, KeepsLimits}
use Rattle.song_model.specs.LookUp.{is_playable_subtune, playable_subtunes}
use Rattle.song_model.specs.OrderLimits.{AreEntries}
use Rattle.pattern_cut.specs.Cuts.{in_pieces, cut_order}
use Rattle.pattern_cut.specs.Pieces.{orders_of, played_orders, is_named}
use Rattle.pattern_cut.specs.CutSongs.{Ways, cut_subtune, cut_with, piece_numbers}
use Rattle.pattern_cut.specs.Choice.{all_orders}
use Rattle.song_cut.specs.declared.table.PieceTable.{PieceTable}
use Rattle.song_cut.specs.Tables.{list_at, way_numbers, IsTableOf}
use Rattle.song_cut.specs.Orders.{AreCounts, counted, fits_in}
use Rattle.song_cut.specs.Cutting.{ArePlaces, CountsPlaces}
use Rattle.song_cut.proofs.NamedPatterns.{AllNamed, entries_named}
use Rattle.song_cut.proofs.SeenMaps.{map_alike, flat_map_alike, sum_alike, sum_of_map, all_alike}
use Rattle.song_cut.proofs.CutPieces.{distinct, piece_numbers_are}

-- ---- the orderlists of subtunes

orders_cut : (f : ℕ → List ℕ) (subtunes : List Subtune) →
    flat_map orders_of (map (cut_subtune f) subtunes) ≡ map (cut_order f) (flat_map orders_of subtunes)
orders_cut f [] = refl
orders_cut f (s ∷ ss) =
    ap (λ (orders : List Order). cut_order f s.one ∷ cut_order f s.two ∷ cut_order f s.three ∷ orders) (orders_cut f ss)

pub all_orders_cut : (song : Song) (ways : Ways) →
    all_orders (cut_with song ways) ≡ map (cut_order (piece_numbers song ways)) (played_orders song)
unfolding cut_with
all_orders_cut song ways = orders_cut (piece_numbers song ways) (playable_subtunes song)

-- what holds of the orderlists of a subtune
pub record OfThree (P : Order → Type 0) (subtune : Subtune) : Type 0 where
  pub one : P subtune.one
  pub two : P subtune.two
  pub three : P subtune.three

pub to_orders : (P : Order → Type 0) (subtunes : List Subtune) → All (OfThree P) subtunes →
    All P (flat_map orders_of subtunes)
to_orders P [] all = All-nil P
to_orders P (s ∷ ss) all =
    let here = All-head (OfThree P) s ss all in
    All-cons P s.one (s.two ∷ s.three ∷ flat_map orders_of ss) here.one
    (All-cons P s.two (s.three ∷ flat_map orders_of ss) here.two
    (All-cons P s.three (flat_map orders_of ss) here.three (to_orders P ss (All-tail (OfThree P) s ss all))))

pub from_orders : (P : Order → Type 0) (subtunes : List Subtune) → All P (flat_map orders_of subtunes) →
    All (OfThree P) subtunes
from_orders P [] all = All-nil (OfThree P)
from_orders P (s ∷ ss) all =
    let behind_one : All P (s.two ∷ s.three ∷ flat_map orders_of ss) =
    All-tail P s.one (s.two ∷ s.three ∷ flat_map orders_of ss) all in
    let behind_two : All P (s.three ∷ flat_map orders_of ss) =
    All-tail P s.two (s.three ∷ flat_map orders_of ss) behind_one in
    All-cons (OfThree P) s ss
    (record {
      one = All-head P s.one (s.two ∷ s.three ∷ flat_map orders_of ss) all;
      two = All-head P s.two (s.three ∷ flat_map orders_of ss) behind_one;
      three = All-head P s.three (flat_map orders_of ss) behind_two;
    })
    (from_orders P ss (All-tail P s.three (flat_map orders_of ss) behind_two))

-- ---- played orderlists

-- the bytes of an orderlist that is played: its patterns are named
pub record IsPlayed (song : Song) (order : Order) : Type 0 where
  pub named : AllNamed song order.entries
  pub limits : AreEntries order.entries

pub played_are : (song : Song) → KeepsLimits song → All (IsPlayed song) (played_orders song)
played_are song limits = λ k d inside.
    record { named = entries_named song k d inside; limits = (within k d inside) }
  where
    within : All (λ (order : Order). AreEntries order.entries) (played_orders song)
    within =
        to_orders (λ order. AreEntries order.entries) (playable_subtunes song)
        (λ k d inside.
        let is = All-filter is_playable_subtune IsSubtune song.subtunes limits.subtunes.each k d inside in
        record { one = is.one.entries; two = is.two.entries; three = is.three.entries })

-- ---- how long they are

pub in_self : (f : ℕ → List ℕ) (b : ℕ) → MOST_PATTERNS ≤ b → in_pieces f b ≡ b ∷ []
in_self f b past = rw (le-ltb b 0xD0 past) refl

pub in_pattern : (f : ℕ → List ℕ) (b : ℕ) → b < MOST_PATTERNS → in_pieces f b ≡ f b
in_pattern f b low = rw (lt-ltb b 0xD0 low) refl

count_of : (song : Song) (table : PieceTable) (ways : Ways) (counts : List ℕ) → IsTableOf song table →
    AreCounts table ways counts → (b : ℕ) → b < 256 → is_named song b ≡ true →
    slice_index counts b ≡ length (in_pieces (piece_numbers song ways) b)
count_of song table ways counts of are b small named = elim (cases_lt b MOST_PATTERNS) [
  | inl low ↦
      are.patterns b low
      ∙ sym (length-map (way_numbers table ways b) (λ k. position_or_len (nat_eq k) (distinct table ways)))
      ∙ ap length (sym (piece_numbers_are song table ways of b low named))
      ∙ ap length (sym (in_pattern (piece_numbers song ways) b low))
  | inr past ↦ are.others b past small ∙ ap length (sym (in_self (piece_numbers song ways) b past))
]

order_counted : (song : Song) (table : PieceTable) (ways : Ways) (counts : List ℕ) → IsTableOf song table →
    AreCounts table ways counts → (order : Order) → IsPlayed song order →
    length (cut_order (piece_numbers song ways) order).entries ≡ counted counts order.entries
order_counted song table ways counts of are order played =
    length-flat_map (in_pieces (piece_numbers song ways)) order.entries
    ∙ sum_alike (λ b. (b < 256) × (is_named song b ≡ true)) _ (slice_index counts) order.entries
    (λ k d inside. (
      let low = played.limits.each k d inside in omega arith,
      played.named k d inside,
    ))
    (λ b is. sym (count_of song table ways counts of are b is.0 is.1))

pub orders_weigh : (song : Song) (table : PieceTable) (ways : Ways) (counts : List ℕ) → KeepsLimits song →
    IsTableOf song table → AreCounts table ways counts →
    sum_by (λ order. length order.entries) (all_orders (cut_with song ways))
    ≡ sum_by (λ order. counted counts order.entries) (played_orders song)
orders_weigh song table ways counts limits of are =
    ap (sum_by (λ (order : Order). length order.entries)) (all_orders_cut song ways)
    ∙ sum_of_map (λ order. length order.entries) (cut_order (piece_numbers song ways)) (played_orders song)
    ∙ sum_alike (IsPlayed song) _ (λ order. counted counts order.entries) (played_orders song) (played_are song limits)
    (order_counted song table ways counts of are)

pub orders_fit : (song : Song) (table : PieceTable) (ways : Ways) (counts : List ℕ) → KeepsLimits song →
    IsTableOf song table → AreCounts table ways counts →
    list_all (λ order. nat_le (length order.entries) MOST_ENTRIES) (all_orders (cut_with song ways))
    ≡ list_all (fits_in counts) (played_orders song)
orders_fit song table ways counts limits of are =
    ap (list_all (λ (order : Order). nat_le (length order.entries) MOST_ENTRIES)) (all_orders_cut song ways)
    ∙ list_all-map (λ order. nat_le (length order.entries) MOST_ENTRIES) (cut_order (piece_numbers song ways))
    (played_orders song)
    ∙ all_alike (IsPlayed song) _ (fits_in counts) (played_orders song) (played_are song limits)
    (λ order played.
    ap (λ (n : ℕ). nat_le n MOST_ENTRIES) (order_counted song table ways counts of are order played))

-- ---- what stands in them

in_places : (song : Song) (table : PieceTable) (ways : Ways) (places : List (List ℕ)) → IsTableOf song table →
    ArePlaces table ways (distinct table ways) places → (b : ℕ) → is_named song b ≡ true →
    in_pieces (list_at places) b ≡ in_pieces (piece_numbers song ways) b
in_places song table ways places of are b named = elim (cases_lt b MOST_PATTERNS) [
  | inl low ↦
      in_pattern (list_at places) b low ∙ are.each b low ∙ sym (piece_numbers_are song table ways of b low named)
      ∙ sym (in_pattern (piece_numbers song ways) b low)
  | inr past ↦ in_self (list_at places) b past ∙ sym (in_self (piece_numbers song ways) b past)
]

pub cut_alike : (song : Song) (table : PieceTable) (ways : Ways) (places : List (List ℕ)) → IsTableOf song table →
    ArePlaces table ways (distinct table ways) places → (order : Order) → IsPlayed song order →
    cut_order (list_at places) order ≡ cut_order (piece_numbers song ways) order
cut_alike song table ways places of are order played =
    let of_parts : List ℕ → ℕ → Order = λ entries restart. record { entries = entries; restart = restart } in
    ap (λ (entries : List ℕ). of_parts entries (length (flat_map (in_pieces (list_at places)) (take order.restart
    order.entries))))
    (alike order.entries played.named)
    ∙ ap (λ (entries : List ℕ). of_parts (flat_map (in_pieces (piece_numbers song ways)) order.entries) (length
    entries))
    (alike (take order.restart order.entries)
    (All-take (λ (b : ℕ). is_named song b ≡ true) order.restart order.entries played.named))
  where
    alike : (bytes : List ℕ) → AllNamed song bytes →
        flat_map (in_pieces (list_at places)) bytes ≡ flat_map (in_pieces (piece_numbers song ways)) bytes
    alike bytes named =
        flat_map_alike (λ b. is_named song b ≡ true) (in_pieces (list_at places)) (in_pieces (piece_numbers song
        ways)) bytes
        named (in_places song table ways places of are)

subtune_alike : (song : Song) (table : PieceTable) (ways : Ways) (places : List (List ℕ)) → IsTableOf song table →
    ArePlaces table ways (distinct table ways) places → (subtune : Subtune) → OfThree (IsPlayed song) subtune →
    cut_subtune (list_at places) subtune ≡ cut_subtune (piece_numbers song ways) subtune
subtune_alike song table ways places of are subtune played =
    let of_three : Order → Order → Order → Subtune = λ a b c. record { one = a; two = b; three = c } in
    let f = list_at places in
    let g = piece_numbers song ways in
    ap (λ (a : Order). of_three a (cut_order f subtune.two) (cut_order f subtune.three))
    (cut_alike song table ways places of are subtune.one played.one)
    ∙ ap (λ (b : Order). of_three (cut_order g subtune.one) b (cut_order f subtune.three))
    (cut_alike song table ways places of are subtune.two played.two)
    ∙ ap (λ (c : Order). of_three (cut_order g subtune.one) (cut_order g subtune.two) c)
    (cut_alike song table ways places of are subtune.three played.three)

pub subtunes_alike : (song : Song) (table : PieceTable) (ways : Ways) (places : List (List ℕ)) → KeepsLimits song →
    IsTableOf song table → ArePlaces table ways (distinct table ways) places →
    map (cut_subtune (list_at places)) (playable_subtunes song)
    ≡ map (cut_subtune (piece_numbers song ways)) (playable_subtunes song)
subtunes_alike song table ways places limits of are =
    map_alike (OfThree (IsPlayed song)) (cut_subtune (list_at places)) (cut_subtune (piece_numbers song ways))
    (playable_subtunes song) (from_orders (IsPlayed song) (playable_subtunes song) (played_are song limits))
    (subtune_alike song table ways places of are)

pub counts_places : (table : PieceTable) (ways : Ways) (order : List ℕ) (places : List (List ℕ)) (counts : List ℕ) →
    ArePlaces table ways order places → AreCounts table ways counts → CountsPlaces places counts
counts_places table ways order places counts are_places are_counts = record {
  count = are_places.count;
  each = λ b small. elim (cases_lt b MOST_PATTERNS) [
    | inl low ↦
        are_counts.patterns b low
        ∙ sym (length-map (way_numbers table ways b) (λ k. position_or_len (nat_eq k) order))
        ∙ ap length (sym (are_places.each b low)) ∙ ap length (sym (in_pattern (list_at places) b low))
    | inr past ↦ are_counts.others b past small ∙ ap length (sym (in_self (list_at places) b past))
  ];
}
