-- The code that tells which effect runs, and what it does. This is the project's own player.
use Rattle.std.specs.Prelude.{◌≡◌, ◌≢◌, ℕ, ◌<◌, ◌≤◌, ◌&&◌, ◌||◌, not, ◌==◌, Bool}
use Rattle.std.specs.Prelude.{true, false, if◌then◌else◌}
use Rattle.play_model.specs.LookUps.{LookUps}
use Rattle.play_model.specs.State.{Voice, Playing}
use Rattle.play_model.specs.EffectStep.{effect_step}
use Rattle.scopes.specs.Desk.{Desk, Layout}
use Rattle.scopes.specs.Trees.{Tree, tree_of}
use Rattle.scopes.specs.Meaning.{Outcome, Left, Ran, each_one, ran}
use Rattle.player_memory.specs.declared.conditions.TheConstants.{EFFECTS, INSTRUMENT_VIBRATO, SKIP_EFFECTS}
use Rattle.player_memory.specs.Rooms.{IsRoom, MayUse}
use Rattle.player_memory.specs.Playing.{IsPlaying, IsAtVoice, Plays}
use Rattle.player_text.specs.declared.joints.TheConstants.{RUNNING, EFFECTED}
use Rattle.player_text.specs.declared.effect.TheConstants.{EFFECT_BEGUN}
use Rattle.player_memory.specs.Playing.{there}

abbrev pub effect_begun_tree : Tree
effect_begun_tree = tree_of EFFECT_BEGUN.now

-- ---- what runs

-- an option leaves the effect out at tick 0
abbrev pub left_out : Bool → Voice → Bool
left_out skips v = skips && (v.tick == 0)

-- The command of which a frame follows, 0 for none: the voice's own, or with none command 4, which is its instrument's
-- vibrato, where the delay has fallen to 1.
abbrev pub running : Voice → ℕ
running v =
    if v.command == 0 then (if (v.param == 0) || not (v.vib_delay == 1) then 0 else 4)
    else v.command

-- ---- what it does

-- one way out where a command runs, and the other where none does
abbrev pub way_of : Bool → Voice → Outcome
way_of skips v =
    if left_out skips v then Left EFFECTED
    else if running v == 0 then Left EFFECTED
    else Left RUNNING

-- where none runs the effect step is done, or left out; where one does it is still to do
abbrev pub state_of : Bool → LookUps → Playing → Playing
state_of skips look s =
    if left_out skips s.voice then s
    else if running s.voice == 0 then record s { voice = effect_step look s.voice }
    else s

-- a voice's command is below 5, and its vibrato's delay is a byte
pub record HasEffect (v : Voice) : Type 0 where
  pub command : v.command ≤ 4
  pub delay : v.vib_delay < 256

-- The code for the instrument's vibrato is kept where that runs or waits, and that of the effects where a command runs,
-- unless the effect is left out; and with the instrument's vibrato that of the effects.
pub record KeepsEffect (layout : Layout) (v : Voice) : Type 0 where
  pub instrument : left_out (layout.holds SKIP_EFFECTS) v ≡ false → v.command ≡ 0 → v.param ≢ 0 → v.vib_delay ≢ 0 →
      layout.holds INSTRUMENT_VIBRATO ≡ true
  pub runs : left_out (layout.holds SKIP_EFFECTS) v ≡ false → v.command ≢ 0 → layout.holds EFFECTS ≡ true
  pub shared : layout.holds INSTRUMENT_VIBRATO ≡ true → layout.holds EFFECTS ≡ true

-- it takes that way, and holds there what belongs there; where a command runs A is it
pub record Begins (layout : Layout) (rows voice : ℕ) (before : Desk) (run : Ran) (look : LookUps) (s : Playing) : Type 0
  where
    pub way : run.outcome ≡ way_of (layout.holds SKIP_EFFECTS) s.voice
    pub plays : Plays layout rows voice before (there run) (state_of (layout.holds SKIP_EFFECTS) look s)
    pub a : way_of (layout.holds SKIP_EFFECTS) s.voice ≡ Left RUNNING → run.desk.cpu.a ≡ running s.voice

-- In any memory that holds a voice that is playing, the code tells which effect runs.
abbrev pub EffectBlockBegins : Type 0
EffectBlockBegins =
    (layout : Layout) (rows voice : ℕ) (look : LookUps) (s : Playing) (desk : Desk) → IsRoom layout rows →
    MayUse layout rows → voice < 3 → IsAtVoice voice desk → IsPlaying layout voice s desk.at → HasEffect s.voice →
    KeepsEffect layout s.voice →
    Begins layout rows voice desk (ran each_one layout effect_begun_tree desk) look s
