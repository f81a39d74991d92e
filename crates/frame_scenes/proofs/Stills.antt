-- A voice that isn't run would leave what the voices share: its channel has nothing to play, and its tempo isn't one of
-- two that take turns.
use Rattle.std.proofs.Common.{◌≡◌, ℕ, zero, suc, ◌+◌, ◌<◌, ◌≤◌, ◌||◌, Bool, true, false, inl, inr, refl, sym, ◌∙◌, arith}
use Rattle.std.proofs.lemmas.Bool.{cases_lt, true≢false}
use Rattle.song_model.specs.declared.features.Feature.TheVariants.{FunkTempo}
use Rattle.song_model.specs.declared.songs.Song.{Song}
use Rattle.play_model.specs.declared.options.Options.{Options}
use Rattle.play_model.specs.LookUps.{look_ups_of}
use Rattle.play_model.specs.State.{FrameState}
use Rattle.play_model.specs.Frame.{subtune_at}
use Rattle.play_model.specs.Uses.{LoadsTempo, by_length, turn_of}
use Rattle.song_facts.specs.declared.facts.Fact.TheVariants.{VoiceTwo, VoiceThree}
use Rattle.silent_voices.specs.Mute.{IsSilentChannel, StaysSilent}
use Rattle.silent_voices.proofs.Laws.{silent_turn_lem}
use Rattle.packed_form.specs.declared.packed_songs.PackedSong.{PackedSong}
use Rattle.packed_form.specs.Unpacked.{unpacked_song}
use Rattle.scopes.specs.Desk.{Layout}
use Rattle.player_memory.specs.declared.conditions.TheConstants.{FUNK_TEMPO}
use Rattle.player_memory.specs.FactLines.{KeepsFacts, is_run}
use Rattle.player_memory.specs.Holds.{look_of, order_in}
use Rattle.frame_code.specs.FrameBlock.{turn_in}
use Rattle.frame_scenes.specs.FrameScenes.{Scene}
use Rattle.frame_scenes.proofs.FactsKept.{facts_kept}
use Rattle.frame_scenes.proofs.Turns.{subtunes_play, is_channel}

-- neither of two that aren't true together
neither : (one other : Bool) → one || other ≡ false → (one ≡ false) × (other ≡ false)
neither true other e = absurd (true≢false e)
neither false other e = (refl, e)

-- its channel has nothing to play
silent_channel : (layout : Layout) (packed : PackedSong) (voice : ℕ) → KeepsFacts layout (unpacked_song packed) →
    voice < 3 → is_run layout.holds voice ≡ false → IsSilentChannel (unpacked_song packed) (voice + 1)
silent_channel layout packed zero facts few rests has = true≢false (neither (layout.holds FUNK_TEMPO) true rests).1
silent_channel layout packed (suc zero) facts few rests has =
    true≢false (sym (facts VoiceTwo has) ∙ (neither (layout.holds FUNK_TEMPO) _ rests).1)
silent_channel layout packed (suc (suc zero)) facts few rests has =
    true≢false (sym (facts VoiceThree has) ∙ (neither (layout.holds FUNK_TEMPO) _ rests).1)
silent_channel layout packed (suc (suc (suc more))) facts few rests has = absurd (omega (arith, few))

pub still_stays : (layout : Layout) (packed : PackedSong) (song : Song) (o : Options) (k : ℕ) (x : FrameState)
    (at : ℕ → ℕ) → Scene layout packed song o k x at → (voice : ℕ) → voice < 3 → is_run layout.holds voice ≡ false →
    StaysSilent o (look_of packed) (order_in packed k voice) (voice + 1) (turn_in packed o k voice x)
still_stays layout packed song o k x at scene voice few rests =
    silent_turn_lem o (unpacked_song packed) k (voice + 1) x scene.stands.complete.playable
    (subtunes_play packed song k scene.stands scene.below) (is_channel voice few) silent (scene.mute voice few silent) tempos
  where
    silent : IsSilentChannel (unpacked_song packed) (voice + 1)
    silent =
        silent_channel layout packed voice (facts_kept layout packed song scene.stands scene.facts) few rests

    tempos : (tempo : ℕ) →
        LoadsTempo (turn_of (voice + 1) o (look_ups_of (unpacked_song packed)) (subtune_at (unpacked_song packed) k) x)
        tempo → 2 ≤ tempo
    tempos tempo loads =
        elim (cases_lt tempo 2) [
          | inl low ↦
              absurd (true≢false (sym (scene.used FunkTempo
              (record { channel = voice + 1; is_channel = is_channel voice few; does = by_length tempo loads low }))
              ∙ (neither (layout.holds FUNK_TEMPO) _ rests).0))
          | inr from ↦ from
        ]
