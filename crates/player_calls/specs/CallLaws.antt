-- What the calls of a player do, in any order and whatever else is in memory. This is the project's own player.
use Rattle.std.specs.Prelude.{ℕ, ◌+◌, ◌≤◌, Bool, List}
use Rattle.song_model.specs.declared.songs.Song.{Song}
use Rattle.play_model.specs.declared.options.Options.{Options}
use Rattle.play_model.specs.State.{start_state}
use Rattle.packed_form.specs.declared.packed_songs.PackedSong.{PackedSong}
use Rattle.cpu6502.specs.declared.machine.Machine.{Machine}
use Rattle.cpu6502.specs.Code.{IsMachine}
use Rattle.cpu6502.specs.Call.{Called, call_cycles}
use Rattle.faithful.specs.Faithful.{AgreesOn}
use Rattle.faithful.specs.Histories.{ImageCall, Init, Play, entry_of, IsMade, LeadTo, PlaysAlways}
use Rattle.faithful.specs.Isolation.{IsIsolated}
use Rattle.scope_calls.specs.Entrances.{Entrance}
use Rattle.cycle_bound.specs.Rules.{bound_by}
use Rattle.cycle_bound.specs.EntranceRules.{AdmitsEntrance, around_cycles}
use Rattle.player_memory.specs.Holds.{Holds}
use Rattle.player_code.specs.Plans.{Plan, init_listed, play_listed}
use Rattle.player_calls.specs.WideLayouts.{wide_layout, with_zeros}
use Rattle.player_calls.specs.Players.{IsPlayer, HasImage}

-- any calls in any order leave the song's registers, from the first init on
abbrev pub PlayersPlay : Type 0
PlayersPlay =
    (plan : Plan) (packed : PackedSong) (song : Song) (o : Options) (bytes : List ℕ) →
    IsPlayer plan packed song o bytes → PlaysAlways bytes plan.origin plan.pointer song o

-- by the image's bytes alone
abbrev pub PlayersAreIsolated : Type 0
PlayersAreIsolated =
    (plan : Plan) (packed : PackedSong) (song : Song) (o : Options) (bytes : List ℕ) →
    IsPlayer plan packed song o bytes → IsIsolated bytes plan.origin song

-- the entrance that a call leads to
abbrev pub entrance_of : Plan → ImageCall → Entrance
entrance_of plan (Init k) = (init_listed plan).entrance
entrance_of plan Play = (play_listed plan).entrance

-- no call takes more clock cycles than the first of the numbers that the rules admit for its entrance, and 11 for what
-- stands around its blocks, after any calls and from any machine that agrees with the last one on the image's bytes
abbrev pub PlayersKeepBounds : Type 0
PlayersKeepBounds =
    (plan : Plan) (packed : PackedSong) (song : Song) (o : Options) (bytes : List ℕ) →
    IsPlayer plan packed song o bytes → (earlier : List ImageCall) (call : ImageCall) (before machine : Machine)
    (number steps : ℕ) (after : Machine) → LeadTo bytes plan.origin song earlier before → IsMachine machine →
    AgreesOn bytes plan.origin before machine → IsMade song call number →
    Called machine (entry_of plan.origin call) number steps after → (numbers : List ℕ) →
    AdmitsEntrance plan.open_turns (entrance_of plan call) numbers →
    call_cycles machine (entry_of plan.origin call) number steps ≤ bound_by numbers + around_cycles

-- as it is loaded it holds the start of the first subtune, where the variables without a byte have a spare zero
abbrev pub PlayersHoldTheStart : Type 0
PlayersHoldTheStart =
    (plan : Plan) (packed : PackedSong) (song : Song) (o : Options) (bytes : List ℕ) (which : Bool) (at : ℕ → ℕ) →
    IsPlayer plan packed song o bytes → HasImage plan at →
    Holds (wide_layout plan which) packed 0 (start_state o) (with_zeros which at)
