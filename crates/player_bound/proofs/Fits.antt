-- The least numbers of the player's blocks have room in 64 bits.
use Rattle.std.proofs.Common.{ℕ, ◌<◌, ◌^◌, lit≤, Some, None}
use Rattle.cycle_bound.specs.Least.{Fit}
use Rattle.cycle_bound.specs.Spans.{call_span}
use Rattle.cycle_bound.proofs.Laws.{least_fit}
use Rattle.play_model.specs.declared.options.Options.{Options}
use Rattle.packed_form.specs.declared.packed_songs.PackedSong.{PackedSong}
use Rattle.player_text.specs.declared.texts.Start.{Start}
use Rattle.player_text.specs.Texts.{filter_tree, voice_tree, init_tree}
use Rattle.kept_lines.specs.Starts.{start_of}
use Rattle.player_code.specs.CodeLines.{cleared_of}
use Rattle.player_image.specs.Images.{image_count}
use Rattle.std.proofs.Common.{◌≡◌, ◌+◌, ◌≤◌, ◌++◌, length, arith, length-append}
use Rattle.cycle_bound.proofs.Laws.{admitted_length, least_are_least}
use Rattle.player_bound.specs.Programs.{program_blocks, least_init, least_play}
use Rattle.player_bound.proofs.Kept.{programs_have_nodes}

init_span : (start : Start) (cleared : ℕ) → call_span (init_tree start cleared) None < 2 ^ 64
init_span start cleared = lit≤ tt

play_span : call_span filter_tree (Some voice_tree) < 2 ^ 64
play_span = lit≤ tt

pub init_fits : (packed : PackedSong) (o : Options) → Fit (least_init (program_blocks packed o))
init_fits packed o = least_fit (program_blocks packed o).setting (program_blocks packed o).init None
    (init_span (start_of o) (cleared_of (image_count packed o)))

pub play_fits : (packed : PackedSong) (o : Options) → Fit (least_play (program_blocks packed o))
play_fits packed o = least_fit (program_blocks packed o).setting filter_tree (Some voice_tree) play_span

-- how many they are
pub numbers_are_few : (packed : PackedSong) (o : Options) →
    length (least_init (program_blocks packed o) ++ least_play (program_blocks packed o)) ≤ 2000
numbers_are_few packed o =
    let b = program_blocks packed o in
    let init = admitted_length b.setting b.init None (least_init b) (least_are_least b.setting b.init None).admitted in
    let play = admitted_length b.setting b.first (Some b.voice) (least_play b)
    (least_are_least b.setting b.first (Some b.voice)).admitted in
    let all = length-append (least_init b) (least_play b) in
    omega (arith, init, play, all, programs_have_nodes.init packed o, programs_have_nodes.play packed o)
