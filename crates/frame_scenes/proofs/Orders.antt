-- The orderlists of a packed song, as a voice walks them.
use Rattle.std.proofs.Common.{◌≡◌, ◌≢◌, ℕ, zero, suc, ◌+◌, ◌*◌, ◌<◌, ◌≤◌, ◌==◌}
use Rattle.std.proofs.Common.{Bool, true, false, if◌then◌else◌, List, [], ◌∷◌, ◌++◌, length, take, get_or, map}
use Rattle.std.proofs.Common.{slice_index, Contains, inl, inr, refl, sym, ap, ◌∙◌, subst, arith}
use Rattle.std.proofs.lemmas.Bool.{cases_lt, ne_eqb, true≢false}
use Rattle.std.proofs.lemmas.List.{get_or-append-add, get_or-map}
use Rattle.std.proofs.lemmas.List.Elements.{Contains-get_or, All-from_get_or, All-contains}
use Rattle.std.proofs.lemmas.Option.{unwrap_or-slice_get}
use Rattle.std.proofs.Math.Seq.{take-append_seam}
use Rattle.base.proofs.Laws.{contains_map}
use Rattle.song_model.specs.declared.features.Feature.TheVariants.{Transpose, Repeat}
use Rattle.song_model.specs.declared.orders.Order.{Order}
use Rattle.song_model.specs.declared.orders.Subtune.{Subtune}
use Rattle.song_model.specs.declared.songs.Song.{Song}
use Rattle.song_model.specs.Endless.{IsEndless}
use Rattle.song_model.specs.Limits.{IsOrder, IsSubtune}
use Rattle.song_model.specs.LookUp.{order_of, playable_subtune, playable_subtunes, void_subtune}
use Rattle.play_model.specs.declared.options.Options.{Options}
use Rattle.play_model.specs.State.{FrameState}
use Rattle.play_model.specs.Frame.{subtune_at}
use Rattle.play_model.specs.Used.{IsPlayedOrder}
use Rattle.play_model.specs.Uses.{HasOrderByte}
use Rattle.play_model.proofs.Laws.{whole_lem}
use Rattle.packed_form.specs.declared.packed_songs.PackedSubtune.{PackedSubtune}
use Rattle.packed_form.specs.declared.packed_songs.PackedSong.{PackedSong}
use Rattle.packed_form.specs.Unpacked.{IsPackedOrder, end_place, unpacked_order, unpacked_subtune, unpacked_song}
use Rattle.packed_form.specs.StandsFor.{ArePackedOrders, StandsFor}
use Rattle.packed_form.specs.WalkCount.{walk_count}
use Rattle.packed_form.specs.WalkLaws.{IsOrderOf, WalkEnds}
use Rattle.packed_form.proofs.Laws.{walks_end, walk_counts_are_bytes}
use Rattle.scopes.specs.Desk.{Layout}
use Rattle.player_memory.specs.SongLists.{OrderBytes, channel_bytes, no_subtune, order_bytes, slide_rows}
use Rattle.player_memory.specs.Playing.{IsListed}
use Rattle.player_memory.specs.Fetching.{IsOrderlist}
use Rattle.player_memory.specs.Holds.{order_in, order_label}
use Rattle.fetch_code.specs.FetchBlock.{IsKept, HasOrderlist}
use Rattle.frame_scenes.proofs.Lists.{from_none}
use Rattle.frame_scenes.proofs.Turns.{AtTurn, is_channel}
use Rattle.scopes.specs.declared.line.TheConstants.{OPEN}
use Rattle.scopes.specs.Meaning.{turns_in}

-- ---- bytes

-- a list without an item, and its rest
no_first : (byte : ℕ) (bytes : List ℕ) → ¬ Contains (byte ∷ bytes) 0xFF → byte ≢ 0xFF
no_first byte bytes none e = none (0, omega arith, e)

no_more : (byte : ℕ) (bytes : List ℕ) → ¬ Contains (byte ∷ bytes) 0xFF → ¬ Contains bytes 0xFF
no_more byte bytes none has = none (suc has.0, omega (arith, has.1), has.2)

end_is : (entries : List ℕ) (restart : ℕ) → ¬ Contains entries 0xFF →
    end_place (entries ++ 0xFF ∷ restart ∷ []) ≡ length entries
end_is [] restart none = refl
end_is (byte ∷ entries) restart none =
    let e : (byte == 0xFF) ≡ false = ne_eqb byte 0xFF (no_first byte entries none) in
    let rest = end_is entries restart (no_more byte entries none) in
    rw e (omega (arith, rest))

order_is : (entries : List ℕ) (restart : ℕ) → ¬ Contains entries 0xFF →
    unpacked_order (entries ++ 0xFF ∷ restart ∷ []) ≡ record { entries = entries; restart = restart }
order_is entries restart none =
    let bytes = entries ++ 0xFF ∷ restart ∷ [] in
    let with_entries : List ℕ → Order = λ xs. record { entries = xs; restart = get_or bytes (end_place bytes + 1) 0 } in
    let with_restart : ℕ → Order = λ r. record { entries = entries; restart = r } in
    ap with_entries
    (ap (λ (n : ℕ). take n bytes) (end_is entries restart none) ∙ take-append_seam entries (0xFF ∷ restart ∷ []))
    ∙ ap with_restart (ap (λ (n : ℕ). get_or bytes (n + 1) 0) (end_is entries restart none)
    ∙ get_or-append-add entries (0xFF ∷ restart ∷ []) 1 0)

-- the bytes of a packed orderlist are the unpacked one's, the endmark and the restart position
packed_is : (bytes : List ℕ) → IsPackedOrder bytes →
    bytes ≡ (unpacked_order bytes).entries ++ 0xFF ∷ (unpacked_order bytes).restart ∷ []
packed_is bytes packed =
    let is : unpacked_order bytes ≡ record { entries = packed.entries; restart = packed.restart } =
    ap unpacked_order packed.text ∙ order_is packed.entries packed.restart packed.no_end in
    packed.text ∙ sym (ap (λ order. order.entries ++ 0xFF ∷ order.restart ∷ []) is)

-- ---- subtunes

-- the orderlist of a voice, counted from 0
channel_is : (voice : ℕ) (subtune : PackedSubtune) → voice < 3 →
    order_of (voice + 1) (unpacked_subtune subtune) ≡ unpacked_order (channel_bytes voice subtune)
channel_is zero subtune few = refl
channel_is (suc zero) subtune few = refl
channel_is (suc (suc zero)) subtune few = refl
channel_is (suc (suc (suc voice))) subtune few = absurd (omega (arith, few))

channel_packed : (voice : ℕ) (subtune : PackedSubtune) → voice < 3 → ArePackedOrders subtune →
    IsPackedOrder (channel_bytes voice subtune)
channel_packed zero subtune few are = are.one
channel_packed (suc zero) subtune few are = are.two
channel_packed (suc (suc zero)) subtune few are = are.three
channel_packed (suc (suc (suc voice))) subtune few are = absurd (omega (arith, few))

-- the subtune of a packed song, unpacked
subtune_is : (packed : PackedSong) (song : Song) (k : ℕ) → StandsFor packed song → k < length packed.subtunes →
    subtune_at (unpacked_song packed) k ≡ unpacked_subtune (get_or packed.subtunes k no_subtune)
unfolding playable_subtune
subtune_is packed song k stands below =
    unwrap_or-slice_get (playable_subtunes (unpacked_song packed)) k void_subtune
    ∙ (ap (λ subtunes. get_or subtunes k void_subtune) stands.complete.subtunes
    ∙ get_or-map unpacked_subtune packed.subtunes k no_subtune void_subtune below)

order_limits : (channel : ℕ) (subtune : Subtune) → IsSubtune subtune → IsOrder (order_of channel subtune)
order_limits channel subtune limits = by (channel == 1) (channel == 2)
  where
    by : (first second : Bool) →
        IsOrder (if first then subtune.one else if second then subtune.two else subtune.three)
    by true second = limits.one
    by false true = limits.two
    by false false = limits.three

-- ---- orderlists

-- an orderlist of the packed song, unpacked, is played, and within the limits
pub record IsPlayedAndShort (packed : PackedSong) (order : Order) : Type 0 where
  pub played : IsPlayedOrder (unpacked_song packed) order
  pub endless : IsEndless order
  pub limits : IsOrder order

order_plays : (packed : PackedSong) (song : Song) (order : Order) → StandsFor packed song → IsOrderOf packed order →
    IsPlayedAndShort packed order
order_plays packed song order stands is = record {
  played = played;
  endless = (whole_lem (unpacked_song packed) stands.complete.playable).order order played;
  limits = subst IsOrder (sym is.order_is)
      (order_limits is.channel subtune
      (All-contains IsSubtune (map unpacked_subtune packed.subtunes) subtune stands.packed_song.limits.subtunes.each
      stored));
}
  where
    subtune : Subtune
    subtune = unpacked_subtune is.subtune

    stored : Contains (map unpacked_subtune packed.subtunes) subtune
    stored = contains_map unpacked_subtune packed.subtunes is.subtune is.stored

    played : IsPlayedOrder (unpacked_song packed) order
    played = record {
      subtune = subtune;
      playable = subst (λ (ss : List Subtune). Contains ss subtune) (sym stands.complete.subtunes) stored;
      channel = is.channel;
      is_channel = is.is_channel;
      order_is = is.order_is;
    }

-- that of a voice
voice_order : (packed : PackedSong) (song : Song) (k voice : ℕ) → StandsFor packed song →
    k < length packed.subtunes → voice < 3 → IsOrderOf packed (order_in packed k voice)
voice_order packed song k voice stands below few = record {
  subtune = get_or packed.subtunes k no_subtune;
  stored = Contains-get_or packed.subtunes k no_subtune below;
  channel = voice + 1;
  is_channel = is_channel voice few;
  order_is = ap (order_of (voice + 1)) (subtune_is packed song k stands below);
}

pub order_played : (packed : PackedSong) (song : Song) (k voice : ℕ) → StandsFor packed song →
    k < length packed.subtunes → voice < 3 → IsPlayedAndShort packed (order_in packed k voice)
order_played packed song k voice stands below few =
    order_plays packed song (order_in packed k voice) stands (voice_order packed song k voice stands below few)

-- its bytes
bytes_are : (packed : PackedSong) (song : Song) (k voice : ℕ) → StandsFor packed song → k < length packed.subtunes →
    voice < 3 →
    order_bytes packed k voice
    ≡ (order_in packed k voice).entries ++ 0xFF ∷ (order_in packed k voice).restart ∷ []
bytes_are packed song k voice stands below few =
    packed_is (channel_bytes voice subtune)
    (channel_packed voice subtune few
    (stands.packed_song.orders subtune (Contains-get_or packed.subtunes k no_subtune below)))
    ∙ sym (ap (λ order. order.entries ++ 0xFF ∷ order.restart ∷ [])
    (ap (order_of (voice + 1)) (subtune_is packed song k stands below) ∙ channel_is voice subtune few))
  where
    subtune : PackedSubtune
    subtune = get_or packed.subtunes k no_subtune

-- a walk along it comes to a pattern within so many turns, where these are enough
walk_ends : (packed : PackedSong) (song : Song) (order : Order) (turns : ℕ) → StandsFor packed song →
    IsOrderOf packed order → walk_count packed ≤ turns → WalkEnds turns order
walk_ends packed song order turns stands is enough =
    let ends = walks_end packed order is (order_plays packed song order stands is).endless in record {
      goes_on = ends.goes_on;
      within = λ place inside. (let within = ends.within place inside in omega (arith, within, enough));
    }

-- the longest walk of a packed song is a byte
pub walk_is_byte : (packed : PackedSong) (song : Song) → StandsFor packed song → walk_count packed ≤ 255
walk_is_byte packed song stands =
    walk_counts_are_bytes packed
    (λ its of.
    let played = order_plays packed song its stands of in
    record { endless = played.endless; short = played.limits.entries.count })

-- ---- as a voice walks it

stands_listed : (layout : Layout) (packed : PackedSong) (song : Song) (o : Options) (k voice : ℕ) (x : FrameState)
    (at : ℕ → ℕ) → AtTurn layout packed song o k voice x at →
    IsOrderlist layout (slide_rows packed) at (order_label k voice) (order_in packed k voice)
stands_listed layout packed song o k voice x at turn number inside =
    subst (IsListed layout (slide_rows packed) at (order_label k voice) number)
    (ap (λ bytes. slice_index bytes number) bytes)
    (turn.scene.has.lists (OrderBytes k voice) number (turn.scene.below, turn.few)
    (from_none packed (OrderBytes k voice) number refl (omega (arith, ap length bytes, inside))))
  where
    bytes : order_bytes packed k voice
        ≡ (order_in packed k voice).entries ++ 0xFF ∷ (order_in packed k voice).restart ∷ []
    bytes = bytes_are packed song k voice turn.scene.stands turn.scene.below turn.few

-- the lines of transposes and repeats are kept where it has any
byte_kept : (layout : Layout) (packed : PackedSong) (song : Song) (o : Options) (k voice : ℕ) (x : FrameState)
    (at : ℕ → ℕ) (place : ℕ) → AtTurn layout packed song o k voice x at →
    place < length (order_in packed k voice).entries →
    get_or (order_in packed k voice).entries place 0 < 0xFF →
    IsKept layout (get_or (order_in packed k voice).entries place 0)
byte_kept layout packed song o k voice x at place turn inside below = record {
  below = below;
  transpose = λ out.
      elim (cases_lt byte 0xE0) [
        | inl low ↦ low
        | inr high ↦
            let from = high in
            absurd (true≢false (sym (turn.scene.used Transpose (has 0xE0 0xFE from (omega (arith, below)))) ∙ out))
      ];
  repeat = λ out.
      elim (cases_lt byte 0xD0) [
        | inl low ↦ inl low
        | inr high ↦
            elim (cases_lt byte 0xE0) [
              | inl low ↦
                  let from = high in
                  let to = low in
                  absurd (true≢false (sym (turn.scene.used Repeat (has 0xD0 0xDF from (omega (arith, to)))) ∙ out))
              | inr past ↦ inr past
            ]
      ];
}
  where
    byte : ℕ
    byte = get_or (order_in packed k voice).entries place 0

    has : (from to : ℕ) → from ≤ byte → byte ≤ to → HasOrderByte (subtune_at (unpacked_song packed) k) from to
    has from to low high = record {
      channel = voice + 1;
      is_channel = is_channel voice turn.few;
      byte = byte;
      entry = Contains-get_or (order_in packed k voice).entries place 0 inside;
      low = low;
      high = high;
    }

pub orderlist_stands : (layout : Layout) (packed : PackedSong) (song : Song) (o : Options) (k voice : ℕ)
    (x : FrameState) (at : ℕ → ℕ) → AtTurn layout packed song o k voice x at →
    HasOrderlist layout (slide_rows packed) at (order_label k voice) (order_in packed k voice)
orderlist_stands layout packed song o k voice x at turn =
    let scene = turn.scene in
    let played = order_played packed song k voice scene.stands scene.below turn.few in record {
      address =
          let below = scene.below in
          let few = turn.few in
          scene.laid.orders (3 * k + voice) (omega (arith, below, few));
      stands = stands_listed layout packed song o k voice x at turn;
      endless = played.endless;
      few = played.limits.entries.count;
      each =
          All-from_get_or (IsKept layout) (order_in packed k voice).entries 0
          (λ place inside.
          byte_kept layout packed song o k voice x at place turn inside (played.limits.entries.each place 0 inside));
      walks =
          walk_ends packed song (order_in packed k voice) (turns_in layout.open_turns OPEN) scene.stands
          (voice_order packed song k voice scene.stands scene.below turn.few) scene.laid.walks;
    }
