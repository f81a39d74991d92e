-- A packed song stands for the song that it was made of.
use Rattle.std.proofs.Common.{◌≡◌, ℕ, zero, suc, ◌<◌, true, List, length, get_or, refl, sym, ◌∙◌, ap, subst}
use Rattle.std.proofs.lemmas.List.{length-map, get_or-map}
use Rattle.std.proofs.lemmas.Option.{unwrap_or-slice_get}
use Rattle.song_model.specs.declared.orders.Subtune.{Subtune}
use Rattle.song_model.specs.declared.tables.TableName.TheVariants.{Speed}
use Rattle.song_model.specs.declared.songs.Song.{Song}
use Rattle.song_model.specs.Limits.{KeepsLimits}
use Rattle.song_model.specs.LookUp.{zero_table_row, table_row, order_of, void_subtune, playable_subtunes, playable_subtune}
use Rattle.play_model.specs.declared.options.Options.{Options}
use Rattle.play_model.specs.LookUps.{look_ups_of}
use Rattle.play_model.specs.Speeds.{IsSpeed}
use Rattle.play_model.specs.State.{FrameState}
use Rattle.play_model.specs.Frame.{frame_of, state_after_with, subtune_at}
use Rattle.play_model.specs.Uses.{Uses}
use Rattle.play_model.specs.Playable.{IsPlayable}
use Rattle.play_model.proofs.Laws.{whole_lem}
use Rattle.safe_states.proofs.Laws.{is_played}
use Rattle.song_facts.specs.declared.facts.Fact.TheVariants.{FirstHolds}
use Rattle.same_frames.specs.Agreement.{Agrees, SubtunePlaysFor, AddsNoOrderByte}
use Rattle.same_frames.specs.FrameLaws.{state_after_of}
use Rattle.same_frames.specs.OrderLaws.{moved_subtune, CanBeMoved}
use Rattle.same_frames.proofs.Laws.{frames_same_lem, traces_of_songs_lem, no_other_case_lem, moved_subtunes_lem}
use Rattle.packed_form.specs.declared.packed_songs.PackedSong.{PackedSong}
use Rattle.packing_rules.specs.UsedSets.{UsedSets, AreUsedSets}
use Rattle.packing_rules.specs.Renumbering.{pattern_number}
use Rattle.packed_form.specs.Unpacked.{unpacked_song}
use Rattle.packing_rules.proofs.Laws.{first_stays_first}
use Rattle.packed_form.specs.StandsFor.{PlaysAlike, StandsFor}
use Rattle.song_pack.specs.Packed.{new_numbers, packed_subtune, IsPacked}
use Rattle.song_pack.proofs.UsedParts.{IsMoved}
use Rattle.song_pack.proofs.Complete.{complete_lem}
use Rattle.song_pack.proofs.CoveredFacts.{covered}
use Rattle.song_pack.proofs.CoveredNumbers.{numbers_covered}
use Rattle.song_pack.proofs.StoredTables.{tables_agree, all_programs_agree}
use Rattle.song_pack.proofs.StoredInstruments.{instruments_agree, instrument_stored, instruments_rise}
use Rattle.song_pack.proofs.StoredPatterns.{pattern_stored, pattern_small, pattern_agrees, pattern_spelled}
use Rattle.song_pack.proofs.PlayedOrders.{subtunes_unpacked, all_playable, orders_packed}
use Rattle.song_pack.proofs.Ranges.{keeps_limits}

speed_zero : (song : Song) → table_row song Speed 0 ≡ zero_table_row
unfolding table_row
speed_zero song = refl

-- the states of a song over its own look-ups
states_are : (o : Options) (song : Song) (k i : ℕ) →
    state_after_of o (look_ups_of song) (subtune_at song k) i ≡ state_after_with o song k i
unfolding state_after_of state_after_with
states_are o song k zero = refl
states_are o song k (suc i) =
    ap (λ (x : FrameState). (frame_of o (look_ups_of song) (subtune_at song k) x).state) (states_are o song k i)

subtune_is : (song : Song) (k : ℕ) → subtune_at song k ≡ get_or (playable_subtunes song) k void_subtune
unfolding playable_subtune
subtune_is song k = unwrap_or-slice_get (playable_subtunes song) k void_subtune

module _ (song : Song) (used : UsedSets) (packed : PackedSong) (limits : KeepsLimits song) (play : IsPlayable song)
    (are : AreUsedSets song used) (is : IsPacked song used packed) where
  agrees : Agrees (new_numbers song used) song (look_ups_of (unpacked_song packed))
  agrees = record {
    rows = λ name. (tables_agree song used packed play are is name).rows;
    programs = all_programs_agree song used packed limits play are is;
    no_speed = speed_zero (unpacked_song packed);
    instruments = instruments_agree song used packed limits are is;
    patterns = pattern_agrees song used packed are is limits play;
  }

  moved : IsMoved (new_numbers song used) song (unpacked_song packed)
  moved = record {
    playable = play;
    agrees = agrees;
    first = first_stays_first song used;
    subtunes = all_playable song used packed limits play are is ∙ subtunes_unpacked song used packed limits play are is;
    number = pattern_small song used packed are is;
    pattern = pattern_stored song used packed are is;
    instrument = instrument_stored song used packed limits are is;
    row = λ name. (tables_agree song used packed play are is name).stored;
  }

  -- ---- subtunes

  subtune_moved : (k : ℕ) → k < length (playable_subtunes song) →
      subtune_at (unpacked_song packed) k ≡ moved_subtune (new_numbers song used) (subtune_at song k)
  subtune_moved k low =
      subtune_is (unpacked_song packed) k
      ∙ ap (λ (all : List Subtune). get_or all k void_subtune) moved.subtunes
      ∙ get_or-map (moved_subtune (new_numbers song used)) (playable_subtunes song) k void_subtune void_subtune low
      ∙ ap (moved_subtune (new_numbers song used)) (sym (subtune_is song k))

  can_be_moved : (k : ℕ) → k < length (playable_subtunes song) → CanBeMoved (new_numbers song used) (subtune_at song k)
  can_be_moved k low = record {
    endless = λ channel c. (whole_lem song play).order (order_of channel (subtune_at song k))
        (is_played song k channel low c);
    keeps = λ channel c byte has named.
        pattern_small song used packed are is byte
        (record {
          byte = record {
            order = order_of channel (subtune_at song k);
            played = is_played song k channel low c;
            entry = has;
          };
          is_pattern = named;
        });
  }

  subtune_plays : (k : ℕ) → k < length (playable_subtunes song) →
      SubtunePlaysFor (new_numbers song used) (subtune_at song k) (subtune_at (unpacked_song packed) k)
  subtune_plays k low =
      subst (SubtunePlaysFor (new_numbers song used) (subtune_at song k)) (sym (subtune_moved k low))
      (moved_subtunes_lem (new_numbers song used) (subtune_at song k) (can_be_moved k low)).plays

  subtune_adds_none : (k : ℕ) → k < length (playable_subtunes song) →
      AddsNoOrderByte (subtune_at song k) (subtune_at (unpacked_song packed) k)
  subtune_adds_none k low =
      subst (AddsNoOrderByte (subtune_at song k)) (sym (subtune_moved k low))
      (moved_subtunes_lem (new_numbers song used) (subtune_at song k) (can_be_moved k low)).bytes

  -- ---- frames

  plays_alike : (o : Options) (k : ℕ) → IsSpeed o.speed → k < length (playable_subtunes song) →
      PlaysAlike o packed song k
  plays_alike o k speed low = record {
    trace = λ i.
        sym (traces_of_songs_lem o (unpacked_song packed) k i)
        ∙ (frames_same_lem o (new_numbers song used) song k (look_ups_of (unpacked_song packed))
        (subtune_at (unpacked_song packed) k) speed limits play low agrees (subtune_plays k low)).trace
        (first_stays_first song used) i;
    uses = λ i feature uses.
        no_other_case_lem o (new_numbers song used) song k i (look_ups_of (unpacked_song packed))
        (subtune_at (unpacked_song packed) k) speed limits play low agrees (subtune_plays k low)
        (subtune_adds_none k low) (first_stays_first song used) feature
        (subst (λ (x : FrameState). Uses o (look_ups_of (unpacked_song packed)) (subtune_at (unpacked_song packed) k)
        x feature)
        (sym (states_are o (unpacked_song packed) k i)) uses);
  }

  pub stands_for : StandsFor packed song
  stands_for = record {
    packed_song = record {
      orders = orders_packed song used packed limits play are is;
      patterns = pattern_spelled song used packed are is limits play;
      limits = keeps_limits song used packed limits play are is;
    };
    complete = complete_lem (new_numbers song used) song (unpacked_song packed) moved
        (all_playable song used packed limits play are is);
    subtunes = ap length is.subtunes ∙ length-map (playable_subtunes song) (packed_subtune (pattern_number song used));
    features = is.features;
    facts = is.facts;
    numbers = is.numbers;
    order = λ none.
        instruments_rise song used packed limits are is
        (λ i is_used more.
        let has : packed.facts.first_holds ≡ true =
        (is.facts.each FirstHolds).1 (record { instrument = i; used = is_used; is_such = more }) in
        cc);
    covers = covered (new_numbers song used) song (unpacked_song packed) moved;
    asks = numbers_covered (new_numbers song used) song (unpacked_song packed) moved;
    plays = plays_alike;
  }
