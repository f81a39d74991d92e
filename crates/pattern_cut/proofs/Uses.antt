-- A song whose patterns are cut plays no other rows than the song: so it can be played too, and asks for the same.
use Rattle.std.proofs.Common.{◌≡◌, ℕ, ◌-◌, ◌<◌, ◌≤◌, List, [], ◌∷◌, length, Contains}
use Rattle.std.proofs.Common.{inl, inr, Some, refl, sym, ap, ◌∙◌, arith, subst}
use Rattle.std.specs.Prelude.{slice_get}
use Rattle.std.proofs.lemmas.List.{get_or_past}
use Rattle.std.proofs.lemmas.List.Elements.{All-contains}
use Rattle.std.proofs.lemmas.Option.{slice_get_within, get_or_from_slice_get}
use Rattle.base.proofs.Laws.{filter_keeps, contains_map}
use Rattle.song_model.specs.declared.rows.Row.{Row}
use Rattle.song_model.specs.declared.orders.Order.{Order}
use Rattle.song_model.specs.declared.orders.Subtune.{Subtune}
use Rattle.song_model.specs.declared.songs.Song.{Song}
use Rattle.song_model.specs.declared.tables.TableName.{TableName}
use Rattle.song_model.specs.declared.tables.TableName.TheVariants.{Wave, Pulse, Filter, Speed}
use Rattle.song_model.specs.Endless.{IsEndless}
use Rattle.song_model.specs.PatternLimits.{IsPattern}
use Rattle.song_model.specs.LookUp.{pattern_at, table_of, table_row, order_of, is_playable_subtune, playable_subtunes}
use Rattle.play_model.specs.declared.unplayable.Unplayable.TheVariants.{NoSubtune, MissingPattern, BadRestart}
use Rattle.play_model.specs.declared.unplayable.Unplayable.TheVariants.{TableOverflow, PointerToJump}
use Rattle.play_model.specs.Reached.{is_jump}
use Rattle.play_model.specs.Playable.{HasOrder, MissesPattern, StopsAtRestart, IsPlayable}
use Rattle.same_uses.specs.SameUses.{NamesRow, NamesNoMore, AddsNoRow, UsesNoMore}
use Rattle.same_uses.proofs.Laws.{no_rows_lem}
use Rattle.pattern_cut.specs.Cuts.{cut_order}
use Rattle.pattern_cut.specs.Pieces.{played_orders}
use Rattle.pattern_cut.specs.CutSongs.{Ways, pieces_of, piece_numbers, cut_subtune, cut_with}
use Rattle.pattern_cut.specs.CutLaws.{AsksSame}
use Rattle.pattern_cut.proofs.Lists.{within, comes_from, of_map}
use Rattle.pattern_cut.proofs.Numbers.{named_there, pieces_hold, pieces_are, piece_found, cut_pattern, place_of}
use Rattle.pattern_cut.proofs.Orders.{Cut, played_there, stored, piece_from, number_there, high_stays, high_from, cut_endless}
use Rattle.pattern_cut.proofs.CutSongs.{channel_cut, subtunes_are, count_is}

same_tables : (song : Song) (ways : Ways) (name : TableName) → table_of (cut_with song ways) name ≡ table_of song name
unfolding cut_with
same_tables song ways Wave = refl
same_tables song ways Pulse = refl
same_tables song ways Filter = refl
same_tables song ways Speed = refl

same_row : (song : Song) (ways : Ways) (name : TableName) (p : ℕ) →
    table_row (cut_with song ways) name p ≡ table_row song name p
unfolding cut_with table_row
same_row song ways Wave p = refl
same_row song ways Pulse p = refl
same_row song ways Filter p = refl
same_row song ways Speed p = refl

module _ (song : Song) (ways : Ways) (c : Cut song ways) where
  abbrev numbers : ℕ → List ℕ
  numbers = piece_numbers song ways

  abbrev cut : Song
  cut = cut_with song ways

  -- ---- rows

  row_from : (order : Order) (row : Row) → Contains (played_orders song) order → NamesRow cut (cut_order numbers order) row →
      NamesRow song order row
  row_from order row played names =
      let from = piece_from song ways c order names.pattern played names.entry names.is_pattern in
      record {
        pattern = from.pattern;
        entry = from.entry;
        is_pattern = from.is_pattern;
        has = subst (λ rows. Contains rows row) (pieces_hold song ways from.pattern)
            (within (λ (piece : List Row). piece) (pieces_of song ways from.pattern) (pattern_at cut names.pattern) row
            from.piece names.has);
      }

  row_there : (order : Order) (row : Row) → Contains (played_orders song) order → NamesRow song order row →
      NamesRow cut (cut_order numbers order) row
  row_there order row played names =
      let from = comes_from (λ (piece : List Row). piece) (pieces_of song ways names.pattern) row
      (subst (λ rows. Contains rows row) (sym (pieces_hold song ways names.pattern)) names.has) in
      let found = piece_found song ways names.pattern from.item
      (named_there song order names.pattern played names.entry names.is_pattern) from.there in
      record {
        pattern = place_of song ways from.item;
        entry = number_there song ways c order names.pattern from.item names.entry names.is_pattern from.there;
        is_pattern = let inside = found.inside in let few = c.few in omega (arith, inside, few);
        has = subst (λ rows. Contains rows row) (sym (cut_pattern song ways (place_of song ways from.item) ∙ found.is))
            from.has;
      }

  no_more : (order : Order) → Contains (played_orders song) order → NamesNoMore song cut order (cut_order numbers order)
  no_more order played = record {
    byte = λ byte high has. high_from song ways c order byte played high has;
    row = λ row names. row_from order row played names;
  }

  no_less : (order : Order) → Contains (played_orders song) order → NamesNoMore cut song (cut_order numbers order) order
  no_less order played = record {
    byte = λ byte high has. high_stays song ways c order byte high has;
    row = λ row names. row_there order row played names;
  }

  -- ---- subtunes

  pub record IsCutOf (beyond : Subtune) : Type 0 where
    pub subtune : Subtune
    pub playable : Contains (playable_subtunes song) subtune
    pub is : cut_subtune numbers subtune ≡ beyond

  cut_from : (beyond : Subtune) → Contains (playable_subtunes cut) beyond → IsCutOf beyond
  cut_from beyond has =
      let from = of_map (cut_subtune numbers) (playable_subtunes song) beyond
      (subst (λ all. Contains all beyond) (subtunes_are song ways c) has) in
      record { subtune = from.item; playable = from.there; is = from.is }

  adds_no_row : AddsNoRow song cut
  unfolding cut_with
  adds_no_row = record {
    instruments = refl;
    tables = same_tables song ways;
    count = count_is song ways c;
    subtunes = λ beyond has. (
        let from = cut_from beyond has in
        record {
          subtune = from.subtune;
          playable = from.playable;
          order = λ channel is.
              subst (NamesNoMore song cut (order_of channel from.subtune))
              (sym (channel_cut numbers from.subtune channel) ∙ ap (order_of channel) from.is)
              (no_more (order_of channel from.subtune) (played_there song from.subtune channel from.playable is));
        });
  }

  loses_no_row : AddsNoRow cut song
  unfolding cut_with
  loses_no_row = record {
    instruments = refl;
    tables = λ name. sym (same_tables song ways name);
    count = sym (count_is song ways c);
    subtunes = λ beyond has. record {
      subtune = cut_subtune numbers beyond;
      playable = subst (λ all. Contains all (cut_subtune numbers beyond)) (sym (subtunes_are song ways c))
          (contains_map (cut_subtune numbers) (playable_subtunes song) beyond has);
      order = λ channel is.
          subst (λ order. NamesNoMore cut song order (order_of channel beyond)) (sym (channel_cut numbers beyond channel))
          (no_less (order_of channel beyond) (played_there song beyond channel has is));
    };
  }

  pub uses : UsesNoMore song cut
  uses = no_rows_lem song cut adds_no_row

  pub uses_all : UsesNoMore cut song
  uses_all = no_rows_lem cut song loses_no_row

  pub asks_same : AsksSame song cut
  asks_same =
      let back = uses_all in
      record {
        features = λ feature. (uses.features feature, back.features feature);
        facts = λ fact. (uses.facts fact, back.facts fact);
        numbers = λ n. (uses.numbers n, back.numbers n);
      }

  -- ---- what can be played

  -- an orderlist of the file is that of a subtune that can be played
  pub record IsOrderCut (order : Order) : Type 0 where
    pub whole : Order
    pub played : Contains (played_orders song) whole
    pub is : cut_order numbers whole ≡ order

  got : (subtunes : List Subtune) (s : ℕ) (subtune : Subtune) → slice_get subtunes s ≡ Some subtune →
      Contains subtunes subtune
  got subtunes s subtune is = (s, slice_get_within subtunes s subtune is, get_or_from_slice_get subtunes s subtune subtune is)

  order_from : (s channel : ℕ) (order : Order) → HasOrder cut s channel order → IsOrderCut order
  order_from s channel order has =
      let from = cut_from has.subtune
      (filter_keeps is_playable_subtune cut.subtunes has.subtune (got cut.subtunes (s - 1) has.subtune has.subtune_is)
      has.playable) in
      record {
        whole = order_of channel from.subtune;
        played = played_there song from.subtune channel from.playable has.is_channel;
        is = sym (channel_cut numbers from.subtune channel) ∙ ap (order_of channel) from.is ∙ sym has.order_is;
      }

  past : (n : ℕ) → length cut.patterns ≤ n → pattern_at cut n ≡ []
  unfolding pattern_at
  past n missing = get_or_past cut.patterns n [] missing

  none_missing : (s channel place n : ℕ) → ¬ MissesPattern cut s channel place n
  none_missing s channel place n misses =
      let from = order_from s channel misses.order misses.has in
      let entries : List ℕ = misses.order.entries in
      let entry : Contains entries n =
      (place, slice_get_within entries place n misses.names, get_or_from_slice_get entries place n n misses.names) in
      let piece = piece_from song ways c from.whole n from.played
      (subst (λ (order : Order). Contains order.entries n) (sym from.is) entry) misses.is_pattern in
      let is = All-contains IsPattern (pieces_of song ways piece.pattern) (pattern_at cut n)
      (pieces_are song ways piece.pattern
      (stored song c.limits c.playable from.whole piece.pattern
      (record { played = from.played; entry = piece.entry; low = piece.is_pattern }))) piece.piece in
      let none = ap length (past n misses.missing) in
      let some = is.count.least in
      absurd (omega (arith, none, some))

  no_stop : (s channel : ℕ) → ¬ StopsAtRestart cut s channel
  no_stop s channel stops =
      let from = order_from s channel stops.order stops.has in
      stops.stops (subst IsEndless from.is (cut_endless song ways c from.whole from.played))

  some_subtune : ¬ (playable_subtunes cut ≡ [])
  some_subtune none =
      let count = count_is song ways c in
      let no_more = ap length none in
      c.playable NoSubtune (nothing (playable_subtunes song) (omega (arith, count, no_more)))
    where
      nothing : (xs : List Subtune) → length xs ≡ 0 → xs ≡ []
      nothing [] e = refl
      nothing (x ∷ xs) e = absurd (omega arith)

  pub cut_playable : IsPlayable cut
  cut_playable NoSubtune none = some_subtune none
  cut_playable (MissingPattern s channel place n) misses = none_missing s channel place n misses
  cut_playable (BadRestart s channel) stops = no_stop s channel stops
  cut_playable (TableOverflow name row) runs =
      c.playable (TableOverflow name row) (record {
        programs = runs.programs;
        reached = uses.reached name row runs.reached;
        above = subst (λ rows. length rows < row) (same_tables song ways name) runs.above;
      })
  cut_playable (PointerToJump name row) points =
      c.playable (PointerToJump name row) (record {
        named = elim points.named [
          | inl pointer ↦ inl (uses.pointers name row pointer)
          | inr target ↦ inr (uses.targets name row target)
        ];
        jump = ap (is_jump name) (sym (same_row song ways name row)) ∙ points.jump;
      })
