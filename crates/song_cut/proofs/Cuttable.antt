-- The parts of a song that is cut are within their limits.
use Rattle.std.proofs.Common.{◌≡◌, ℕ, ◌≤◌, true, List, [], ◌∷◌, length, map, nat_eq, nat_le, All}
use Rattle.std.proofs.Common.{slice_index_or, sym, ◌∙◌, ap, subst, inl, inr, arith}
use Rattle.std.specs.List.{flat_map, list_all, position_or_len}
use Rattle.std.proofs.lemmas.Bool.{cases_lt, leb-true}
use Rattle.std.proofs.lemmas.List.Folds.{list_all-map}
use Rattle.std.proofs.lemmas.List.Sums.{AllPass-from_list_all}
use Rattle.std.proofs.lemmas.List.Elements.{All-head, All-tail, All-nil, All-cons, All-append, All-map}
use Rattle.song_model.specs.declared.orders.Order.{Order}
use Rattle.song_model.specs.declared.songs.Song.{Song}
use Rattle.song_model.specs.declared.orders.TheConstants.{MOST_ENTRIES}
use Rattle.song_model.specs.declared.patterns.TheConstants.{MOST_PATTERNS}
use Rattle.song_model.specs.Limits.{KeepsLimits}
use Rattle.song_model.specs.LookUp.{playable_subtunes}
use Rattle.song_model.specs.OrderLimits.{IsEntry}
use Rattle.pattern_cut.specs.Cuts.{in_pieces, cut_order}
use Rattle.pattern_cut.specs.Pieces.{played_orders}
use Rattle.pattern_cut.specs.CutSongs.{Ways, cut_with, cut_subtune, piece_numbers}
use Rattle.pattern_cut.specs.Choice.{fits}
use Rattle.song_cut.specs.declared.table.PieceTable.{PieceTable}
use Rattle.song_cut.specs.Numbers.{rows_at}
use Rattle.song_cut.specs.Tables.{list_at, way_numbers, IsTableOf}
use Rattle.song_cut.specs.Cutting.{ArePlaces, IsCuttable, IsCuttableSubtune}
use Rattle.song_cut.proofs.Places.{within}
use Rattle.song_cut.proofs.CutPieces.{distinct, all_pieces_are}
use Rattle.song_cut.proofs.CutOrders.{
  from_orders,
  IsPlayed,
  played_are,
  all_orders_cut,
  cut_alike,
  in_self,
  in_pattern,
  subtunes_alike,
}
use Rattle.song_cut.proofs.CutWeights.{few_that_fit, short_that_fit}

-- ---- orderlists

all_of_each : (P : ℕ → Type 0) (f : ℕ → List ℕ) (bytes : List ℕ) → All (λ (b : ℕ). All P (f b)) bytes →
    All P (flat_map f bytes)
all_of_each P f [] all = All-nil P
all_of_each P f (b ∷ bytes) all =
    All-append P (f b) (flat_map f bytes) (All-head (λ (x : ℕ). All P (f x)) b bytes all)
    (all_of_each P f bytes (All-tail (λ (x : ℕ). All P (f x)) b bytes all))

are_entries : (table : PieceTable) (ways : Ways) (order : List ℕ) (places : List (List ℕ)) →
    ArePlaces table ways order places → length order ≤ MOST_PATTERNS → (b : ℕ) → IsEntry b →
    All IsEntry (in_pieces (list_at places) b)
are_entries table ways order places are few b entry = elim (cases_lt b MOST_PATTERNS) [
  | inl low ↦
      subst (All IsEntry) (sym (in_pattern (list_at places) b low ∙ are.each b low))
      (All-map IsEntry (λ k. position_or_len (nat_eq k) order) (way_numbers table ways b)
      (λ i d inside. let most = within (nat_eq (slice_index_or (way_numbers table ways b) i d)) order in omega arith))
  | inr past ↦ subst (All IsEntry) (sym (in_self (list_at places) b past)) (All-cons IsEntry b [] entry (All-nil
      IsEntry))
]

cuttable : (song : Song) (table : PieceTable) (ways : Ways) (places : List (List ℕ)) → IsTableOf song table →
    ArePlaces table ways (distinct table ways) places → length (distinct table ways) ≤ MOST_PATTERNS → (order : Order) →
    IsPlayed song order → length (cut_order (piece_numbers song ways) order).entries ≤ MOST_ENTRIES →
    IsCuttable places order
cuttable song table ways places of are few order played short = record {
  entries = record {
    count =
        let same = ap (λ (o : Order). length o.entries) (cut_alike song table ways places of are order played) in
        omega arith;
    each =
        all_of_each IsEntry (in_pieces (list_at places)) order.entries
        (λ k d inside. are_entries table ways (distinct table ways) places are few _ (played.limits.each k d inside));
  };
}

short_orders : (song : Song) (table : PieceTable) (ways : Ways) → IsTableOf song table →
    fits (cut_with song ways) ≡ true →
    All (λ (order : Order). nat_le (length (cut_order (piece_numbers song ways) order).entries) MOST_ENTRIES ≡ true)
    (played_orders song)
short_orders song table ways of fit =
    AllPass-from_list_all (λ order. nat_le (length (cut_order (piece_numbers song ways) order).entries) MOST_ENTRIES)
    (played_orders song)
    (sym (list_all-map (λ order. nat_le (length order.entries) MOST_ENTRIES) (cut_order (piece_numbers song ways))
    (played_orders song))
    ∙ ap (list_all (λ (order : Order). nat_le (length order.entries) MOST_ENTRIES)) (sym (all_orders_cut song ways))
    ∙ short_that_fit song table ways of fit)

pub cuttable_subtunes : (song : Song) (table : PieceTable) (ways : Ways) (order : List ℕ) (places : List (List ℕ)) →
    KeepsLimits song → IsTableOf song table → order ≡ distinct table ways → ArePlaces table ways order places →
    fits (cut_with song ways) ≡ true → All (IsCuttableSubtune places) (playable_subtunes song)
cuttable_subtunes song table ways order places limits of order_is are fit = λ k d inside.
    let three = from_orders (IsCuttable places) (playable_subtunes song) each k d inside in
    record { one = three.one; two = three.two; three = three.three }
  where
    placed : ArePlaces table ways (distinct table ways) places
    placed = subst (λ (ns : List ℕ). ArePlaces table ways ns places) order_is are

    each : All (IsCuttable places) (played_orders song)
    each = λ k d inside.
        cuttable song table ways places of placed (few_that_fit song table ways of fit) _ (played_are song limits k d
        inside)
        (leb-true _ MOST_ENTRIES (short_orders song table ways of fit k d inside))

-- ---- the whole song

same_song : (song new other : Song) → new.name ≡ other.name → new.author ≡ other.author →
    new.copyright ≡ other.copyright → new.subtunes ≡ other.subtunes → new.instruments ≡ other.instruments →
    new.wave ≡ other.wave → new.pulse ≡ other.pulse → new.filter ≡ other.filter → new.speed ≡ other.speed →
    new.patterns ≡ other.patterns → new ≡ other
same_song song new other name author copyright subtunes instruments wave pulse filter speed patterns =
    ap (λ (x : List ℕ). record new { name = x }) name
    ∙ ap (λ (x : List ℕ). record new { name = other.name; author = x }) author
    ∙ ap (λ (x : List ℕ). record new { name = other.name; author = other.author; copyright = x }) copyright
    ∙ ap (λ x. record new {
      name = other.name;
      author = other.author;
      copyright = other.copyright;
      subtunes =
          x;
    }) subtunes
    ∙ ap (λ x. record other {
      instruments = x;
      wave = new.wave;
      pulse = new.pulse;
      filter = new.filter;
      speed = new.speed;
      patterns = new.patterns;
    }) instruments
    ∙ ap (λ x. record other {
      wave = x;
      pulse = new.pulse;
      filter = new.filter;
      speed = new.speed;
      patterns =
          new.patterns;
    })
    wave
    ∙ ap (λ x. record other { pulse = x; filter = new.filter; speed = new.speed; patterns = new.patterns }) pulse
    ∙ ap (λ x. record other { filter = x; speed = new.speed; patterns = new.patterns }) filter
    ∙ ap (λ x. record other { speed = x; patterns = new.patterns }) speed
    ∙ ap (λ x. record other { patterns = x }) patterns

pub song_is_cut : (song new : Song) (table : PieceTable) (ways : Ways) (order : List ℕ) (places : List (List ℕ)) →
    KeepsLimits song → IsTableOf song table → order ≡ distinct table ways → ArePlaces table ways order places →
    new.name ≡ song.name → new.author ≡ song.author → new.copyright ≡ song.copyright →
    new.subtunes ≡ map (cut_subtune (list_at places)) (playable_subtunes song) → new.instruments ≡ song.instruments →
    new.wave ≡ song.wave → new.pulse ≡ song.pulse → new.filter ≡ song.filter → new.speed ≡ song.speed →
    new.patterns ≡ map (rows_at table.pieces.items) order → new ≡ cut_with song ways
unfolding cut_with
song_is_cut song new table ways order places limits of order_is are name author copyright subtunes instruments wave
    pulse
    filter speed patterns =
    same_song song new (cut_with song ways) name author copyright
    (subtunes ∙ subtunes_alike song table ways places limits of
    (subst (λ (ns : List ℕ). ArePlaces table ways ns places) order_is are))
    instruments wave pulse filter speed
    (patterns ∙ ap (map (rows_at table.pieces.items)) order_is ∙ sym (all_pieces_are song table ways of))
