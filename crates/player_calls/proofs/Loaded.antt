-- The image as it is loaded: its code stands, and the start of the first subtune.
use Rattle.std.proofs.Common.{◌≡◌, ◌≢◌, ℕ, ◌+◌, ◌<◌, Bool, List, [], ◌∷◌, length, inr, refl, sym, ap}
use Rattle.std.proofs.Common.{◌∙◌, subst, arith}
use Rattle.std.specs.Prelude.{slice_index}
use Rattle.std.proofs.lemmas.List.{length-map}
use Rattle.song_model.specs.declared.orders.Subtune.{Subtune}
use Rattle.song_model.specs.declared.songs.Song.{Song}
use Rattle.song_model.specs.LookUp.{playable_subtunes}
use Rattle.play_model.specs.declared.options.Options.{Options}
use Rattle.play_model.specs.Frame.{state_after_with}
use Rattle.play_model.proofs.Laws.{whole_lem}
use Rattle.packed_form.specs.declared.packed_songs.PackedSong.{PackedSong}
use Rattle.packed_form.specs.Unpacked.{unpacked_song, unpacked_subtune, packed_state}
use Rattle.packed_form.specs.StandsFor.{StandsFor}
use Rattle.cpu6502.specs.declared.machine.Machine.{Machine}
use Rattle.cpu6502.specs.Code.{Holds as HoldsBytes}
use Rattle.asm6502.specs.Assembly.{assembled_bytes}
use Rattle.player_memory.specs.Holds.{Holds}
use Rattle.frame_code.proofs.Laws.{begun_holds, held_start}
use Rattle.player_code.specs.Plans.{Plan, plan_lines}
use Rattle.player_code.proofs.Laws.{assembled_code_stands}
use Rattle.player_calls.specs.WideLayouts.{wide_layout, with_zeros}
use Rattle.player_calls.specs.Players.{IsPlayer, HasImage}
use Rattle.player_calls.proofs.Wide.{no_spare}
use Rattle.player_calls.specs.CallLaws.{PlayersHoldTheStart}
use Rattle.player_calls.proofs.Plays.{Ready}
use Rattle.player_calls.proofs.Begins.{playable_at}

-- ---- there is a subtune, and each can be played

some_items : (items : List Subtune) → items ≢ [] → 0 < length items
some_items [] some = absurd (some refl)
some_items (x ∷ items) some = omega arith

pub all_play : (packed : PackedSong) (song : Song) → StandsFor packed song →
    length (playable_subtunes (unpacked_song packed)) ≡ length packed.subtunes
all_play packed song stands =
    ap length stands.complete.subtunes ∙ length-map packed.subtunes unpacked_subtune

pub plays_at : {packed : PackedSong} {song : Song} {o : Options} {bytes : List ℕ} (plan : Plan) →
    IsPlayer plan packed song o bytes → (k : ℕ) → k < length packed.subtunes →
    k < length (playable_subtunes (unpacked_song packed))
plays_at {packed = packed} {song = song} plan p k below =
    subst (λ n. k < n) (sym (all_play packed song p.stands)) below

pub songs_have_subtunes : (packed : PackedSong) (song : Song) → StandsFor packed song → 0 < length packed.subtunes
songs_have_subtunes packed song stands =
    subst (λ n. 0 < n) (all_play packed song stands)
    (some_items (playable_subtunes (unpacked_song packed))
    (whole_lem (unpacked_song packed) stands.complete.playable).subtune)

pub some_subtunes : {packed : PackedSong} {song : Song} {o : Options} {bytes : List ℕ} (plan : Plan) →
    IsPlayer plan packed song o bytes → 0 < length packed.subtunes
some_subtunes {packed = packed} {song = song} plan p = songs_have_subtunes packed song p.stands

-- ---- the image

abbrev its_bytes : Plan → List ℕ
its_bytes plan = assembled_bytes 0 plan.origin (plan_lines plan)

-- a memory that holds the bytes has the image
pub has_image : {packed : PackedSong} {song : Song} {o : Options} {bytes : List ℕ} (plan : Plan) →
    IsPlayer plan packed song o bytes → (machine : Machine) → HoldsBytes machine.memory plan.origin bytes →
    HasImage plan (slice_index machine.memory)
has_image plan p machine holds = record {
  byte = λ k below.
      let size = p.size in
      subst (λ q. slice_index machine.memory (plan.origin + q) ≡ slice_index (its_bytes plan) q) (omega arith)
      (holds.byte k (omega (arith, below, size)) ∙ ap (λ bs. slice_index bs k) p.are);
}

-- the spare bytes are none of the image's
image_with_zeros : {packed : PackedSong} {song : Song} {o : Options} {bytes : List ℕ} (plan : Plan) →
    IsPlayer plan packed song o bytes → (which : Bool) (at : ℕ → ℕ) → HasImage plan at →
    HasImage plan (with_zeros which at)
image_with_zeros plan p which at has = record {
  byte = λ k below.
      let begins = p.begins in
      rw (no_spare which (plan.origin + (0 + k)) (inr (omega (arith, begins)))) (has.byte k below);
}

pub players_hold_the_start : PlayersHoldTheStart
players_hold_the_start plan packed song o bytes which at p has =
    begun_holds (wide_layout plan which) packed o 0 (with_zeros which at)
    (p.lists which (with_zeros which at) (image_with_zeros plan p which at has)) (p.variables which at has)
    (playable_at (unpacked_song packed) 0 (plays_at plan p 0 (some_subtunes plan p)))

pub loaded_ready : {packed : PackedSong} {song : Song} {o : Options} {bytes : List ℕ} (plan : Plan) →
    IsPlayer plan packed song o bytes → (machine : Machine) → HoldsBytes machine.memory plan.origin bytes →
    Ready plan packed 0 (packed_state packed 0 o 0) (slice_index machine.memory)
unfolding state_after_with
loaded_ready {packed = packed} {song = song} {o = o} {bytes = bytes} plan p machine holds =
    let has = has_image plan p machine holds in
    let ends = p.ends in
    let code = assembled_code_stands plan (slice_index machine.memory) p.is (omega (arith, ends)) has in record {
      play_code = code.play;
      init_code = code.init;
      holds = λ which. record {
        memory = with_zeros which (slice_index machine.memory);
        same = λ place none. rw none refl;
        holds = subst
            (λ x. Holds (wide_layout plan which) packed 0 x (with_zeros which (slice_index machine.memory)))
            (sym (held_start plan.holds o))
            (players_hold_the_start plan packed song o bytes which (slice_index machine.memory) p has);
      };
    }
