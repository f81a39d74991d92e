-- The subtunes of a packed song are those of its song under new numbers.
use Rattle.std.specs.Prelude.{◌==◌}
use Rattle.std.proofs.Common.{◌≡◌, ℕ, ◌+◌, ◌<◌, Bool, true, false, not, List, [], ◌∷◌, ◌++◌}
use Rattle.std.proofs.Common.{map, length, take, get_or, All, Contains, refl, sym, ◌∙◌, ap, subst, inl, inr}
use Rattle.std.proofs.Common.{arith}
use Rattle.std.specs.List.{filter}
use Rattle.std.proofs.lemmas.Bool.{cases_lt, ne_eqb, lt-ltb, le-ltb}
use Rattle.std.proofs.lemmas.List.{length-map, get_or-append-add}
use Rattle.std.proofs.lemmas.Simd.{map-map}
use Rattle.std.proofs.lemmas.List.Elements.{All-head, All-tail, All-contains, All-contains_itself, All-map, All-weaker}
use Rattle.std.proofs.lemmas.List.Elements.{All-filter, filter_passes}
use Rattle.std.proofs.Math.Seq.{take-append_seam}
use Rattle.song_model.specs.declared.orders.Order.{Order}
use Rattle.song_model.specs.declared.orders.Subtune.{Subtune}
use Rattle.song_model.specs.declared.songs.Song.{Song}
use Rattle.song_model.specs.Endless.{IsPatternByte}
use Rattle.song_model.specs.Limits.{IsOrder, IsSubtune, KeepsLimits}
use Rattle.song_model.specs.LookUp.{order_of, has_entries, is_playable_subtune, playable_subtunes}
use Rattle.play_model.specs.Used.{IsPlayedOrder, IsUsedPattern}
use Rattle.play_model.specs.Playable.{IsPlayable}
use Rattle.same_frames.specs.OrderLaws.{moved_byte, moved_order, moved_subtune}
use Rattle.packed_form.specs.declared.packed_songs.PackedSubtune.{PackedSubtune}
use Rattle.packed_form.specs.declared.packed_songs.PackedSong.{PackedSong}
use Rattle.packing_rules.specs.UsedSets.{UsedSets, AreUsedSets}
use Rattle.packing_rules.specs.Renumbering.{pattern_number}
use Rattle.packed_form.specs.Unpacked.{IsPackedOrder, end_place, unpacked_order, unpacked_subtune, unpacked_song}
use Rattle.packed_form.specs.StandsFor.{ArePackedOrders}
use Rattle.song_pack.specs.Packed.{new_numbers, order_bytes, packed_subtune, IsPacked}
use Rattle.same_frames.proofs.Laws.{image_of}
use Rattle.song_pack.proofs.UsedParts.{channel_played}
use Rattle.song_pack.proofs.StoredPatterns.{pattern_small}

-- ---- bytes of an orderlist

abbrev IsBeforeEnd : ℕ → Type 0
IsBeforeEnd byte = byte < 0xFF

end_is : (entries : List ℕ) (restart : ℕ) → All IsBeforeEnd entries →
    end_place (entries ++ 0xFF ∷ restart ∷ []) ≡ length entries
end_is [] restart all = refl
end_is (byte ∷ entries) restart all =
    let low = All-head IsBeforeEnd byte entries all in
    let e : (byte == 0xFF) ≡ false = ne_eqb byte 0xFF (λ (z : byte ≡ 0xFF). omega arith) in
    let rest = end_is entries restart (All-tail IsBeforeEnd byte entries all) in
    rw e (omega arith)

order_is : (entries : List ℕ) (restart : ℕ) → All IsBeforeEnd entries →
    unpacked_order (entries ++ 0xFF ∷ restart ∷ []) ≡ record { entries = entries; restart = restart }
order_is entries restart all =
    let bytes = entries ++ 0xFF ∷ restart ∷ [] in
    let with_entries : List ℕ → Order = λ xs. record { entries = xs; restart = get_or bytes (end_place bytes + 1) 0 } in
    let with_restart : ℕ → Order = λ r. record { entries = entries; restart = r } in
    ap with_entries
    (ap (λ (n : ℕ). take n bytes) (end_is entries restart all) ∙ take-append_seam entries (0xFF ∷ restart ∷ []))
    ∙ ap with_restart (ap (λ (n : ℕ). get_or bytes (n + 1) 0) (end_is entries restart all)
    ∙ get_or-append-add entries (0xFF ∷ restart ∷ []) 1 0)

-- ---- lists

pub map_same : {X Y : Type 0} (f g : X → Y) (xs : List X) → All (λ x. f x ≡ g x) xs → map f xs ≡ map g xs
map_same f g [] all = refl
map_same {X} {Y} f g (x ∷ xs) all =
    let head = All-head (λ (z : X). f z ≡ g z) x xs all in
    let rest = map_same f g xs (All-tail (λ (z : X). f z ≡ g z) x xs all) in
    ap (λ (y : Y). y ∷ map f xs) head ∙ ap (λ (ys : List Y). g x ∷ ys) rest

filter_all : {X : Type 0} (p : X → Bool) (xs : List X) → All (λ x. p x ≡ true) xs → filter p xs ≡ xs
filter_all p [] all = refl
filter_all {X} p (x ∷ xs) all =
    let head = All-head (λ (z : X). p z ≡ true) x xs all in
    let rest = filter_all p xs (All-tail (λ (z : X). p z ≡ true) x xs all) in
    rw head (ap (λ (ys : List X). x ∷ ys) rest)

-- ---- orderlists that are played

module _ (song : Song) (used : UsedSets) (packed : PackedSong) (limits : KeepsLimits song) (play : IsPlayable song)
    (are : AreUsedSets song used) (is : IsPacked song used packed) where
  -- a byte stays below the endmark
  byte_fits : (byte : ℕ) → byte < 0xFF → (IsPatternByte byte → IsUsedPattern song byte) →
      IsBeforeEnd (moved_byte (new_numbers song used) byte)
  byte_fits byte low is_used = elim (cases_lt byte 0xD0) [
    | inl named ↦ (
        let e = lt-ltb byte 0xD0 named in
        let small = pattern_small song used packed are is byte (is_used named) in
        rw e (omega arith))
    | inr other ↦ (let e = le-ltb byte 0xD0 other in rw e low)
  ]

  order_in_range : (subtune : Subtune) (channel : ℕ) → IsSubtune subtune → IsOrder (order_of channel subtune)
  order_in_range subtune channel s = by_first (channel == 1) refl
    where
      by_second : (b : Bool) → (channel == 2) ≡ b → (channel == 1) ≡ false → IsOrder (order_of channel subtune)
      by_second true e f = rw (f, e) s.two
      by_second false e f = rw (f, e) s.three

      by_first : (b : Bool) → (channel == 1) ≡ b → IsOrder (order_of channel subtune)
      by_first true e = rw e s.one
      by_first false e = by_second (channel == 2) refl e

  pub subtune_in_range : (subtune : Subtune) → Contains (playable_subtunes song) subtune → IsSubtune subtune
  subtune_in_range subtune has =
      All-contains IsSubtune (playable_subtunes song) subtune
      (All-filter is_playable_subtune IsSubtune song.subtunes limits.subtunes.each) has

  pub entries_fit : (order : Order) → IsPlayedOrder song order → All IsBeforeEnd
      (moved_order (new_numbers song used) order).entries
  entries_fit order o =
      let range : IsOrder order =
      subst IsOrder (sym o.order_is) (order_in_range o.subtune o.channel (subtune_in_range o.subtune o.playable)) in
      All-map IsBeforeEnd (moved_byte (new_numbers song used)) order.entries
      (All-weaker (Contains order.entries) (λ byte. IsBeforeEnd (moved_byte (new_numbers song used) byte))
      (λ byte has. byte_fits byte (All-contains IsBeforeEnd order.entries byte range.entries.each has)
      (λ low. record { byte = record { order = order; played = o; entry = has }; is_pattern = low }))
      order.entries (All-contains_itself order.entries))

  order_unpacked : (order : Order) → IsPlayedOrder song order →
      unpacked_order (order_bytes (pattern_number song used) order) ≡ moved_order (new_numbers song used) order
  order_unpacked order o =
      order_is (moved_order (new_numbers song used) order).entries order.restart (entries_fit order o)

  order_packed : (order : Order) → IsPlayedOrder song order → IsPackedOrder
      (order_bytes (pattern_number song used) order)
  order_packed order o = record {
    entries = (moved_order (new_numbers song used) order).entries;
    restart = order.restart;
    text = refl;
    no_end = λ has.
        let low = All-contains IsBeforeEnd (moved_order (new_numbers song used) order).entries 0xFF
        (entries_fit order o) has in
        omega arith;
  }

  -- ---- subtunes

  pub one_played : (subtune : Subtune) → Contains (playable_subtunes song) subtune → IsPlayedOrder song subtune.one
  one_played subtune has = channel_played song subtune 1 has (record { first = omega arith; last = omega arith })

  pub two_played : (subtune : Subtune) → Contains (playable_subtunes song) subtune → IsPlayedOrder song subtune.two
  two_played subtune has = channel_played song subtune 2 has (record { first = omega arith; last = omega arith })

  pub three_played : (subtune : Subtune) → Contains (playable_subtunes song) subtune → IsPlayedOrder song subtune.three
  three_played subtune has = channel_played song subtune 3 has (record { first = omega arith; last = omega arith })

  subtune_unpacked : (subtune : Subtune) → Contains (playable_subtunes song) subtune →
      unpacked_subtune (packed_subtune (pattern_number song used) subtune) ≡ moved_subtune (new_numbers song used)
      subtune
  subtune_unpacked subtune has =
      let maps = new_numbers song used in
      let with_one : Order → Subtune = λ o. record {
        one = o;
        two = unpacked_order (order_bytes (pattern_number song used) subtune.two);
        three = unpacked_order (order_bytes (pattern_number song used) subtune.three);
      } in
      let with_two : Order → Subtune = λ o. record {
        one = moved_order maps subtune.one;
        two = o;
        three = unpacked_order (order_bytes (pattern_number song used) subtune.three);
      } in
      let with_three : Order → Subtune = λ o. record {
        one = moved_order maps subtune.one;
        two = moved_order maps subtune.two;
        three = o;
      } in
      ap with_one (order_unpacked subtune.one (one_played subtune has))
      ∙ ap with_two (order_unpacked subtune.two (two_played subtune has))
      ∙ ap with_three (order_unpacked subtune.three (three_played subtune has))

  pub subtunes_unpacked : (unpacked_song packed).subtunes
      ≡ map (moved_subtune (new_numbers song used)) (playable_subtunes song)
  subtunes_unpacked =
      let maps = new_numbers song used in
      ap (map unpacked_subtune) is.subtunes
      ∙ map-map unpacked_subtune (packed_subtune (pattern_number song used)) (playable_subtunes song)
      ∙ map_same (λ s. unpacked_subtune (packed_subtune (pattern_number song used) s)) (moved_subtune maps)
      (playable_subtunes song)
      (All-weaker (Contains (playable_subtunes song))
      (λ s. unpacked_subtune (packed_subtune (pattern_number song used) s) ≡ moved_subtune maps s) subtune_unpacked
      (playable_subtunes song)
      (All-contains_itself (playable_subtunes song)))

  has_entries_moved : (order : Order) → has_entries (moved_order (new_numbers song used) order) ≡ has_entries order
  has_entries_moved order =
      ap (λ (n : ℕ). not (n == 0)) (length-map order.entries (moved_byte (new_numbers song used)))

  stays_playable : (subtune : Subtune) → is_playable_subtune subtune ≡ true →
      is_playable_subtune (moved_subtune (new_numbers song used) subtune) ≡ true
  stays_playable subtune can =
      rw (has_entries_moved subtune.one, has_entries_moved subtune.two, has_entries_moved subtune.three) can

  pub all_playable : playable_subtunes (unpacked_song packed) ≡ (unpacked_song packed).subtunes
  all_playable =
      filter_all is_playable_subtune (unpacked_song packed).subtunes
      (subst (All (λ s. is_playable_subtune s ≡ true)) (sym subtunes_unpacked)
      (All-map (λ s. is_playable_subtune s ≡ true) (moved_subtune (new_numbers song used)) (playable_subtunes song)
      (All-weaker (λ s. is_playable_subtune s ≡ true)
      (λ s. is_playable_subtune (moved_subtune (new_numbers song used) s) ≡ true) stays_playable
      (playable_subtunes song)
      (filter_passes is_playable_subtune song.subtunes))))

  pub orders_packed : (subtune : PackedSubtune) → Contains packed.subtunes subtune → ArePackedOrders subtune
  orders_packed subtune has =
      let image = image_of (packed_subtune (pattern_number song used)) (playable_subtunes song) subtune
      (subst (λ (all : List PackedSubtune). Contains all subtune) is.subtunes has) in
      subst ArePackedOrders image.is
      (record {
        one = order_packed image.from.one (one_played image.from image.has);
        two = order_packed image.from.two (two_played image.from image.has);
        three = order_packed image.from.three (three_played image.from image.has);
      })
