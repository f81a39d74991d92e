-- Each call of a player is served.
use Rattle.std.proofs.Common.{ℕ, suc, ◌+◌, ◌<◌, ◌≤◌, Bool, List, ◌∷◌, length, sym}
use Rattle.std.proofs.Common.{ap, ◌∙◌, subst, arith}
use Rattle.song_model.specs.declared.songs.Song.{Song}
use Rattle.play_model.specs.declared.options.Options.{Options}
use Rattle.play_model.specs.Frame.{trace_with}
use Rattle.packed_form.specs.declared.packed_songs.PackedSong.{PackedSong}
use Rattle.cpu6502.specs.declared.machine.Machine.{Machine}
use Rattle.cpu6502.specs.Call.{entered}
use Rattle.cpu6502.specs.Code.{IsMachine}
use Rattle.faithful.specs.Confined.{IsConfined}
use Rattle.faithful.specs.Faithful.{AgreesOn}
use Rattle.faithful.specs.Histories.{ImageCall, Init, Play, IsMade, LeadTo, Serves}
use Rattle.scope_calls.specs.Listed.{MayStore}
use Rattle.scope_calls.specs.EntranceLaws.{Returns, entrance_weight}
use Rattle.scope_calls.proofs.Laws.{run_stays, calls_are_short}
use Rattle.player_text.specs.declared.texts.Start.{Start}
use Rattle.player_text.proofs.Laws.{are_measured}
use Rattle.player_code.specs.CodeLines.{play_entrance, init_entrance, cleared_of}
use Rattle.player_code.specs.Plans.{Plan, play_listed, init_listed}
use Rattle.player_calls.specs.Players.{IsPlayer}
use Rattle.player_calls.specs.CallLaws.{PlayersPlay}
use Rattle.player_calls.proofs.Places.{play_stores, init_stores}
use Rattle.player_calls.proofs.Plays.{play_plays, play_returns, play_registers, play_timer}
use Rattle.player_calls.proofs.Begins.{init_begins, init_returns, init_registers, init_timer}
use Rattle.player_calls.proofs.Loaded.{plays_at}
use Rattle.player_calls.proofs.Histories.{IsSpot, spot_after, spot_is, Stand, stand_moved, stand_after, subtune_few}

-- ---- how long calls are

play_weight : (pointer : ℕ) (holds : ℕ → Bool) → entrance_weight (play_entrance pointer holds) ≤ 60000
unfolding play_entrance
play_weight pointer holds =
    let filter = are_measured.filter.weighs in let voice = are_measured.voice.weighs in omega (arith, filter, voice)

init_weight : (pointer : ℕ) (holds : ℕ → Bool) (start : Start) (cleared : ℕ) →
    entrance_weight (init_entrance pointer holds start cleared) ≤ 60000
unfolding init_entrance
init_weight pointer holds start cleared = (let init = (are_measured.init start cleared).weighs in omega (arith, init))

-- ---- a play

play_confined : {packed : PackedSong} {song : Song} {o : Options} {bytes : List ℕ} (plan : Plan) →
    IsPlayer plan packed song o bytes → (machine : Machine) (number : ℕ) →
    (r : Returns (play_listed plan) machine number) →
    IsConfined machine r.after (length bytes) plan.origin plan.pointer o
play_confined plan p machine number r = record {
  same = λ q inside away.
      run_stays (MayStore (play_listed plan) machine.cpu.sp) r.steps (entered machine (plan.origin + 3) number) r.after q
      r.called.runs r.writes (λ may. away (play_stores plan p machine.cpu.sp q may));
}

play_serves : {packed : PackedSong} {song : Song} {o : Options} {bytes : List ℕ} (plan : Plan) →
    IsPlayer plan packed song o bytes → (earlier : List ImageCall) (machine : Machine) (number : ℕ) →
    IsMachine machine → Stand plan packed o earlier machine →
    Serves bytes plan.origin plan.pointer song o earlier Play machine number
unfolding spot_after
play_serves {song = song} {o = o} plan p earlier machine number is stand =
    let j = (spot_after earlier).subtune in
    let i = (spot_after earlier).plays in
    let frames = play_plays plan p j i machine number is stand.below stand.ready in
    let r = play_returns plan p j i machine number is stand.below stand.ready in
    let most = calls_are_short (play_listed plan) machine number r in
    let few = play_weight plan.pointer plan.holds in
    record {
      steps = r.steps;
      within = omega (arith, most, few);
      after = r.after;
      called = r.called;
      confined = play_confined plan p machine number r;
      stores = λ n d h. play_stores plan p machine.cpu.sp _ (r.writes n d h);
      timer = λ fast. play_timer plan p j i machine number is frames r;
      registers = λ k n since.
          let spot : IsSpot (Play ∷ earlier) k n = spot_is (Play ∷ earlier) k n since in
          play_registers plan p j i machine number stand.below frames r
          ∙ (ap (λ (m : ℕ). trace_with o song m (suc i)) spot.subtune
          ∙ ap (λ (m : ℕ). trace_with o song k m) spot.plays);
    }

-- ---- an init

init_confined : {packed : PackedSong} {song : Song} {o : Options} {bytes : List ℕ} (plan : Plan) →
    IsPlayer plan packed song o bytes → (machine : Machine) (number : ℕ) →
    (r : Returns (init_listed plan) machine number) →
    IsConfined machine r.after (length bytes) plan.origin plan.pointer o
init_confined plan p machine number r = record {
  same = λ q inside away.
      run_stays (MayStore (init_listed plan) machine.cpu.sp) r.steps (entered machine plan.origin number) r.after q
      r.called.runs r.writes (λ may. away (init_stores plan p machine.cpu.sp q may));
}

init_serves : {packed : PackedSong} {song : Song} {o : Options} {bytes : List ℕ} (plan : Plan) →
    IsPlayer plan packed song o bytes → (earlier : List ImageCall) (k : ℕ) (machine : Machine) → IsMachine machine →
    k < length packed.subtunes → Stand plan packed o earlier machine →
    Serves bytes plan.origin plan.pointer song o earlier (Init k) machine k
unfolding spot_after
init_serves {song = song} {o = o} plan p earlier k machine is below stand =
    let begun = init_begins plan p k machine is below (plays_at plan p k below) _ _ stand.below stand.ready.holds in
    let r = init_returns plan p k machine is stand.ready.init_code begun in
    let most = calls_are_short (init_listed plan) machine k r in
    let few = init_weight plan.pointer plan.holds plan.start (cleared_of (length plan.variables)) in
    record {
      steps = r.steps;
      within = omega (arith, most, few);
      after = r.after;
      called = r.called;
      confined = init_confined plan p machine k r;
      stores = λ n d h. init_stores plan p machine.cpu.sp _ (r.writes n d h);
      timer = init_timer plan p k machine begun r;
      registers = λ j n since.
          let spot : IsSpot (Init k ∷ earlier) j n = spot_is (Init k ∷ earlier) j n since in
          init_registers plan p k machine begun r
          ∙ (ap (λ (m : ℕ). trace_with o song m 0) spot.subtune ∙ ap (λ (m : ℕ). trace_with o song j m) spot.plays);
    }

-- ---- any call

pub players_play : PlayersPlay
players_play plan packed song o bytes p = record { serves = by_call } where
  by_call : (earlier : List ImageCall) (call : ImageCall) (before machine : Machine) (number : ℕ) →
      LeadTo bytes plan.origin song earlier before → IsMachine machine → AgreesOn bytes plan.origin before machine →
      IsMade song call number → Serves bytes plan.origin plan.pointer song o earlier call machine number
  by_call earlier Play before machine number led is agrees made =
      play_serves plan p earlier machine number is
      (stand_moved plan p earlier before machine agrees (stand_after plan p earlier before led))
  by_call earlier (Init k) before machine number led is agrees made =
      subst (Serves bytes plan.origin plan.pointer song o earlier (Init k) machine) (sym made.1)
      (init_serves plan p earlier k machine is (subtune_few plan p k made.0)
      (stand_moved plan p earlier before machine agrees (stand_after plan p earlier before led)))
