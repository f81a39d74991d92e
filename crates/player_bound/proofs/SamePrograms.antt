-- The program of a packed song's images rests on what it asks for and on its longest walk alone.
use Rattle.std.proofs.Common.{◌≡◌, ℕ, ap, ◌∙◌, min}
use Rattle.play_model.specs.declared.options.Options.{Options}
use Rattle.packed_form.specs.declared.packed_songs.PackedSong.{PackedSong}
use Rattle.packed_form.specs.WalkCount.{walk_count}
use Rattle.scopes.specs.declared.line.TheConstants.{OPEN}
use Rattle.scope_lines.specs.Readings.{holds_in}
use Rattle.kept_lines.specs.Asked.{asked_by}
use Rattle.kept_lines.specs.KeptLines.{kept_set}
use Rattle.kept_lines.specs.Starts.{start_of}
use Rattle.variable_places.specs.Places.{variable_count}
use Rattle.player_text.specs.Texts.{filter_tree, voice_tree, init_tree}
use Rattle.player_code.specs.CodeLines.{cleared_of}
use Rattle.player_bound.specs.Programs.{Blocks, program_blocks}

-- by the conditions that hold
abbrev pub program : Options → ℕ → ℕ → Blocks
program o kept turns = record {
  init = init_tree (start_of o) (cleared_of (variable_count (holds_in kept)));
  first = filter_tree;
  voice = voice_tree;
  setting = record { holds = holds_in kept; open_turns = min turns OPEN };
}

pub same_programs : (one other : PackedSong) (o : Options) → asked_by one ≡ asked_by other →
    walk_count one ≡ walk_count other → program_blocks one o ≡ program_blocks other o
same_programs one other o asked turns =
    ap (λ set. program o (kept_set set o) (walk_count one)) asked
    ∙ ap (λ n. program o (kept_set (asked_by other) o) n) turns
