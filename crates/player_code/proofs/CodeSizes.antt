-- How many bytes the code takes: those of its blocks, of its variables, and 22 around them.
use Rattle.std.proofs.Common.{◌≡◌, ℕ, ◌+◌, Bool, length, arith}
use Rattle.scope_lines.specs.Sizes.{size}
use Rattle.scope_calls.specs.Entrances.{entrance_size}
use Rattle.player_text.specs.declared.texts.Start.{Start}
use Rattle.player_text.specs.Texts.{filter_tree, voice_tree, init_tree}
use Rattle.player_code.specs.CodeLines.{play_entrance, init_entrance, cleared_of}
use Rattle.player_code.specs.CodeLaws.{CodeTakesItsBlocks}
use Rattle.player_code.proofs.Sizes.{around_size}

play_size : (pointer : ℕ) (holds : ℕ → Bool) →
    entrance_size (play_entrance pointer holds) ≡ 14 + size holds filter_tree + size holds voice_tree
unfolding play_entrance
play_size pointer holds = omega arith

init_size : (pointer : ℕ) (holds : ℕ → Bool) (start : Start) (cleared : ℕ) →
    entrance_size (init_entrance pointer holds start cleared) ≡ 2 + size holds (init_tree start cleared)
unfolding init_entrance
init_size pointer holds start cleared = omega arith

pub code_takes_its_blocks : CodeTakesItsBlocks
code_takes_its_blocks places variables pointer holds start =
    let its_init = init_entrance pointer holds start (cleared_of (length variables)) in
    let whole = around_size places variables (play_entrance pointer holds) its_init in
    let play = play_size pointer holds in
    let init = init_size pointer holds start (cleared_of (length variables)) in
    omega (arith, whole, play, init)
