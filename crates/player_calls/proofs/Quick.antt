-- No call of a player takes more clock cycles than admitted numbers say.
use Rattle.std.proofs.Common.{◌≡◌, ℕ, ◌+◌, ◌≤◌, List, sym, ap, ◌∙◌, subst, arith}
use Rattle.song_model.specs.declared.songs.Song.{Song}
use Rattle.play_model.specs.declared.options.Options.{Options}
use Rattle.packed_form.specs.declared.packed_songs.PackedSong.{PackedSong}
use Rattle.cpu6502.specs.declared.machine.Machine.{Machine}
use Rattle.cpu6502.specs.Call.{Called, call_cycles}
use Rattle.cpu6502.proofs.Laws.{called_once}
use Rattle.faithful.specs.Histories.{Init, Play}
use Rattle.scope_calls.specs.Listed.{Listed}
use Rattle.scope_calls.specs.EntranceLaws.{Returns}
use Rattle.cycle_bound.specs.Rules.{bound_by}
use Rattle.cycle_bound.specs.EntranceRules.{AdmitsEntrance, around_cycles}
use Rattle.cycle_bound.proofs.Laws.{entrances_keep_bounds}
use Rattle.player_code.specs.Plans.{play_listed, init_listed}
use Rattle.player_calls.specs.CallLaws.{PlayersKeepBounds}
use Rattle.player_calls.proofs.Plays.{play_returns}
use Rattle.player_calls.proofs.Begins.{init_begins, init_returns}
use Rattle.player_calls.proofs.Loaded.{plays_at}
use Rattle.player_calls.proofs.Histories.{spot_after, stand_moved, stand_after, subtune_few}

-- a call that returns is the one that its entrance means
quick : (e : Listed) (machine : Machine) (number steps : ℕ) (after : Machine) (r : Returns e machine number) →
    Called machine e.entry number steps after → (numbers : List ℕ) →
    AdmitsEntrance e.open_turns e.entrance numbers →
    call_cycles machine e.entry number steps ≤ bound_by numbers + around_cycles
quick e machine number steps after r called numbers admits =
    let same = called_once machine e.entry number steps r.steps after r.after called r.called in
    let is = ap (call_cycles machine e.entry number) same ∙ r.cycles_are in
    let bound = entrances_keep_bounds e machine number numbers admits in
    omega (arith, is, bound)

pub players_keep_bounds : PlayersKeepBounds
players_keep_bounds plan packed song o bytes p earlier Play before machine number steps after led is agrees made called
    numbers admits =
    let stand = stand_moved plan p earlier before machine agrees (stand_after plan p earlier before led) in
    quick (play_listed plan) machine number steps after
    (play_returns plan p (spot_after earlier).subtune (spot_after earlier).plays machine number is stand.below
    stand.ready) called numbers admits
players_keep_bounds plan packed song o bytes p earlier (Init k) before machine number steps after led is agrees made
    called numbers admits =
    let stand = stand_moved plan p earlier before machine agrees (stand_after plan p earlier before led) in
    let few = subtune_few plan p k made.0 in
    let own = subst (λ i. Called machine plan.origin i steps after) made.1 called in
    subst (λ i. call_cycles machine plan.origin i steps ≤ bound_by numbers + around_cycles) (sym made.1)
    (quick (init_listed plan) machine k steps after
    (init_returns plan p k machine is stand.ready.init_code
    (init_begins plan p k machine is few (plays_at plan p k few) _ _ stand.below stand.ready.holds)) own numbers admits)
