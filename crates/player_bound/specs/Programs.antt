-- The program of an image: its blocks, and what the numbers of their lines rest on. This is the project's own player.
use Rattle.std.specs.Prelude.{◌≡◌, ℕ, min, true, Some, None, List, ◌++◌, take, drop}
use Rattle.play_model.specs.declared.options.Options.{Options}
use Rattle.packed_form.specs.declared.packed_songs.PackedSong.{PackedSong}
use Rattle.packed_form.specs.WalkCount.{walk_count}
use Rattle.scopes.specs.declared.line.TheConstants.{OPEN}
use Rattle.scopes.specs.Trees.{Tree, tree_of}
use Rattle.scope_lines.specs.Readings.{is_block}
use Rattle.cycle_bound.specs.Rules.{Setting}
use Rattle.cycle_bound.specs.EntranceRules.{AdmitsCall, call_asked}
use Rattle.cycle_bound.specs.Least.{least_all}
use Rattle.cycle_bound.specs.Faults.{call_nodes}
use Rattle.cycle_bound.specs.Lines.{kept_setting}
use Rattle.kept_lines.specs.Starts.{start_of}
use Rattle.player_text.specs.Texts.{filter_tree, voice_tree, init_tree}
use Rattle.player_code.specs.CodeLines.{cleared_of}
use Rattle.player_image.specs.Images.{image_holds, image_count}
use Rattle.player_bound.specs.declared.programs.Program.{Program}

-- what begins a subtune, what a frame does before its voices and for each of them, and what the numbers rest on
pub record Blocks : Type 0 where
  pub init : Tree
  pub first : Tree
  pub voice : Tree
  pub setting : Setting

-- Those of a packed song's images with these options. An open loop has the turns of the song's longest walk, and never
-- more than 255.
abbrev pub program_blocks : PackedSong → Options → Blocks
program_blocks packed o = record {
  init = init_tree (start_of o) (cleared_of (image_count packed o));
  first = filter_tree;
  voice = voice_tree;
  setting = record { holds = image_holds packed o; open_turns = min (walk_count packed) OPEN };
}

-- those that the code has
abbrev pub blocks_of : Program → Blocks
blocks_of program = record {
  init = tree_of program.init;
  first = tree_of program.filter;
  voice = tree_of program.voice;
  setting = kept_setting program.kept;
}

pub record AreBlocks (program : Program) : Type 0 where
  pub init : is_block program.init ≡ true
  pub filter : is_block program.filter ≡ true
  pub voice : is_block program.voice ≡ true

-- ---- numbers

-- of a call of init, and of one of play
abbrev pub AdmitsInit : Blocks → List ℕ → Type 0
AdmitsInit b numbers = AdmitsCall b.setting b.init None numbers

abbrev pub AdmitsPlay : Blocks → List ℕ → Type 0
AdmitsPlay b numbers = AdmitsCall b.setting b.first (Some b.voice) numbers

-- the least
abbrev pub least_init : Blocks → List ℕ
least_init b = least_all b.setting b.init None

abbrev pub least_play : Blocks → List ℕ
least_play b = least_all b.setting b.first (Some b.voice)

-- how many they are
abbrev pub init_nodes : Blocks → ℕ
init_nodes b = call_nodes b.init None

abbrev pub play_nodes : Blocks → ℕ
play_nodes b = call_nodes b.first (Some b.voice)

-- in a list of both those of init stand in front
abbrev pub init_numbers : Blocks → List ℕ → List ℕ
init_numbers b numbers = take (init_nodes b) numbers

abbrev pub play_numbers : Blocks → List ℕ → List ℕ
play_numbers b numbers = drop (init_nodes b) numbers

-- what is asked of such a list
abbrev pub both_asked : Blocks → List ℕ → List ℕ
both_asked b numbers =
    call_asked b.setting b.init None (init_numbers b numbers)
    ++ call_asked b.setting b.first (Some b.voice) (play_numbers b numbers)
