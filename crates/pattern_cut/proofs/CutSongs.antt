-- A song whose patterns are cut is within its limits, and plays the same.
use Rattle.std.specs.Prelude.{◌==◌, if◌then◌else◌}
use Rattle.std.proofs.Common.{◌≡◌, ℕ, ◌<◌, Bool, true, false, List, map, length}
use Rattle.std.proofs.Common.{get_or, Contains, refl, sym, ap, ◌∙◌, arith, subst}
use Rattle.std.proofs.lemmas.Bool.Decides.{nat_tests}
use Rattle.std.proofs.lemmas.List.{length-map, get_or-map}
use Rattle.std.proofs.lemmas.List.Elements.{All-map, Contains-get_or}
use Rattle.std.proofs.lemmas.Option.{unwrap_or-slice_get}
use Rattle.song_model.specs.declared.orders.Order.{Order}
use Rattle.song_model.specs.declared.orders.Subtune.{Subtune}
use Rattle.song_model.specs.declared.songs.Song.{Song}
use Rattle.song_model.specs.declared.tables.TableName.{TableName}
use Rattle.song_model.specs.declared.tables.TableName.TheVariants.{Wave, Pulse, Filter, Speed}
use Rattle.song_model.specs.LookUp.{table_row, instrument_at, order_of, void_subtune, has_entries, is_playable_subtune}
use Rattle.song_model.specs.LookUp.{playable_subtunes, playable_subtune}
use Rattle.play_model.specs.declared.options.Options.{Options}
use Rattle.play_model.specs.LookUps.{look_ups_of}
use Rattle.play_model.specs.Frame.{subtune_at}
use Rattle.play_model.specs.Used.{IsChannel}
use Rattle.same_frames.specs.SameRows.{HasSameParts, SubtunePlaysSameRows, PlaysSameRows}
use Rattle.same_frames.specs.SamePlays.{PlaysSame}
use Rattle.same_frames.specs.FrameLaws.{trace_of}
use Rattle.same_frames.proofs.Laws.{same_rows_lem, traces_of_songs_lem}
use Rattle.pattern_cut.specs.Cuts.{cut_order}
use Rattle.pattern_cut.specs.Pieces.{played_orders}
use Rattle.pattern_cut.specs.CutSongs.{Ways, piece_numbers, cut_subtune, cut_with}
use Rattle.pattern_cut.proofs.Lists.{filter_all, each_item}
use Rattle.pattern_cut.proofs.Orders.{Cut, cut_endless, same_rows_played, played_there}

-- ---- parts that stay

pub channel_cut : (pieces : ℕ → List ℕ) (subtune : Subtune) (channel : ℕ) →
    order_of channel (cut_subtune pieces subtune) ≡ cut_order pieces (order_of channel subtune)
channel_cut pieces subtune channel = each (channel == 1) (channel == 2)
  where
    each : (first second : Bool) →
        (if first then cut_order pieces subtune.one
        else if second then cut_order pieces subtune.two else cut_order pieces subtune.three)
        ≡ cut_order pieces (if first then subtune.one else if second then subtune.two else subtune.three)
    each true second = refl
    each false true = refl
    each false false = refl

same_parts : (song : Song) (ways : Ways) → HasSameParts (look_ups_of song) (look_ups_of (cut_with song ways))
unfolding cut_with instrument_at table_row
same_parts song ways = record { instrument = λ i. refl; row = same_row }
  where
    same_row : (name : TableName) (p : ℕ) → table_row (cut_with song ways) name p ≡ table_row song name p
    same_row Wave p = refl
    same_row Pulse p = refl
    same_row Filter p = refl
    same_row Speed p = refl

subtune_is : (song : Song) (k : ℕ) → subtune_at song k ≡ get_or (playable_subtunes song) k void_subtune
unfolding playable_subtune
subtune_is song k = unwrap_or-slice_get (playable_subtunes song) k void_subtune

-- ---- subtunes

module _ (song : Song) (ways : Ways) (c : Cut song ways) where
  has_some : (order : Order) → Contains (played_orders song) order →
      has_entries (cut_order (piece_numbers song ways) order) ≡ true
  has_some order played =
      some (cut_order (piece_numbers song ways) order) (cut_endless song ways c order played).restart
    where
      some : (order : Order) → order.restart < length order.entries → has_entries order ≡ true
      some order low = grind (arith, nat_tests)

  is_playable : (subtune : Subtune) → Contains (playable_subtunes song) subtune →
      is_playable_subtune (cut_subtune (piece_numbers song ways) subtune) ≡ true
  is_playable subtune has =
      let played : (channel : ℕ) → IsChannel channel →
      has_entries (cut_order (piece_numbers song ways) (order_of channel subtune)) ≡ true =
      λ channel is. has_some (order_of channel subtune) (played_there song subtune channel has is) in
      rw (played 1 (record { first = omega arith; last = omega arith }))
      (rw (played 2 (record { first = omega arith; last = omega arith }))
      (rw (played 3 (record { first = omega arith; last = omega arith })) refl))

  pub subtunes_are : playable_subtunes (cut_with song ways)
      ≡ map (cut_subtune (piece_numbers song ways)) (playable_subtunes song)
  unfolding cut_with
  subtunes_are =
      filter_all is_playable_subtune (map (cut_subtune (piece_numbers song ways)) (playable_subtunes song))
      (All-map (λ s. is_playable_subtune s ≡ true) (cut_subtune (piece_numbers song ways)) (playable_subtunes song)
      (each_item (λ s. is_playable_subtune (cut_subtune (piece_numbers song ways) s) ≡ true) (playable_subtunes song)
      is_playable))

  pub count_is : length (playable_subtunes (cut_with song ways)) ≡ length (playable_subtunes song)
  count_is =
      ap length subtunes_are ∙ length-map (playable_subtunes song) (cut_subtune (piece_numbers song ways))

  subtune_cut : (k : ℕ) → k < length (playable_subtunes song) →
      subtune_at (cut_with song ways) k ≡ cut_subtune (piece_numbers song ways) (subtune_at song k)
  subtune_cut k low =
      subtune_is (cut_with song ways) k
      ∙ ap (λ (all : List Subtune). get_or all k void_subtune) subtunes_are
      ∙ get_or-map (cut_subtune (piece_numbers song ways)) (playable_subtunes song) k void_subtune void_subtune low
      ∙ ap (cut_subtune (piece_numbers song ways)) (sym (subtune_is song k))

  -- ---- rows and registers

  rows_are_same : (subtune : Subtune) → Contains (playable_subtunes song) subtune →
      SubtunePlaysSameRows (look_ups_of song) (look_ups_of (cut_with song ways)) subtune
      (cut_subtune (piece_numbers song ways) subtune)
  rows_are_same subtune has channel is =
      subst (PlaysSameRows (look_ups_of song) (look_ups_of (cut_with song ways)) (order_of channel subtune))
      (sym (channel_cut (piece_numbers song ways) subtune channel))
      (same_rows_played song ways c (order_of channel subtune) (played_there song subtune channel has is))

  subtune_there : (k : ℕ) → k < length (playable_subtunes song) → Contains (playable_subtunes song) (subtune_at song k)
  subtune_there k low =
      subst (Contains (playable_subtunes song)) (sym (subtune_is song k))
      (Contains-get_or (playable_subtunes song) k void_subtune low)

  pub cut_plays_same : (o : Options) → o.skip_first ≡ false → PlaysSame o song (cut_with song ways)
  cut_plays_same o kept = record {
    count = count_is;
    trace = λ k i low.
        sym (traces_of_songs_lem o (cut_with song ways) k i)
        ∙ ap (λ (s : Subtune). trace_of o (look_ups_of (cut_with song ways)) s i) (subtune_cut k low)
        ∙ same_rows_lem o (look_ups_of song) (look_ups_of (cut_with song ways)) (subtune_at song k)
        (cut_subtune (piece_numbers song ways) (subtune_at song k)) i kept (same_parts song ways)
        (rows_are_same (subtune_at song k) (subtune_there k low))
        ∙ traces_of_songs_lem o song k i;
  }
