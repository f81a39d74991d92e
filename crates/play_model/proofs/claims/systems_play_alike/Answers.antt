use Rattle.std.proofs.Common.{◌≡◌, ℕ, zero, suc, refl, ap, ◌∙◌}
use Rattle.song_model.specs.declared.songs.Song.{Song}
use Rattle.play_model.specs.declared.options.Options.{Options}
use Rattle.play_model.specs.declared.options.System.{System}
use Rattle.play_model.specs.State.{FrameState}
use Rattle.play_model.specs.Frame.{Framed, voice_step, frame_of, frame_with, state_after_with}
use Rattle.play_model.specs.TraceLaws.{SystemsPlayAlike}
use Rattle.play_model.proofs.claims.systems_play_alike.Goals as goal

same_frame : (o : Options) (system : System) (song : Song) (k : ℕ) (x : FrameState) →
    frame_with (record o { system = system }) song k x ≡ frame_with o song k x
unfolding voice_step frame_of
same_frame o system song k x = refl

same_state : (o : Options) (system : System) (song : Song) (k n : ℕ) →
    state_after_with (record o { system = system }) song k n ≡ state_after_with o song k n
unfolding state_after_with
same_state o system song k zero = refl
same_state o system song k (suc n) =
    ap (λ (f : Framed). f.state) (same_frame o system song k (state_after_with (record o { system = system }) song k n))
    ∙ ap (λ (x : FrameState). (frame_with o song k x).state) (same_state o system song k n)

same_trace : SystemsPlayAlike
same_trace o system song k zero = refl
same_trace o system song k (suc n) =
    ap (λ (f : Framed). f.registers)
    (same_frame o system song k (state_after_with (record o { system = system }) song k n))
    ∙ ap (λ (x : FrameState). (frame_with o song k x).registers) (same_state o system song k n)

pub returns : goal.returns
returns c = same_trace
