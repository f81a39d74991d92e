-- The lines that begin a subtune are a block. The two entrances have lines, and use the labels of the image alone.
use Rattle.std.proofs.Common.{◌≡◌, ℕ, ◌<◌, ◌≤◌, ◌&&◌, Bool, true, List, refl, sym, subst}
use Rattle.player_text.proofs.Laws.{are_blocks, have_lines}
use Rattle.scopes.specs.declared.line.Line.{Line}
use Rattle.scope_lines.specs.Readings.{is_block}
use Rattle.scope_lines.specs.Reach.{nothing_around, has_lines}
use Rattle.player_text.specs.Facts.{HasBytes}
use Rattle.player_text.specs.declared.texts.Start.{Start}
use Rattle.player_text.specs.Texts.{filter_tree, voice_tree, init_lines, init_tree}
use Rattle.player_code.specs.CodeLines.{play_entrance, init_entrance}
use Rattle.player_code.proofs.Homes.{IsFit}

pub init_is_block : (start : Start) (cleared : ℕ) (lines : List Line) → lines ≡ init_lines start cleared →
    start.tempo < 256 → start.funk < 256 → start.timer_low < 256 → start.timer_high < 256 → cleared < 256 →
    is_block lines ≡ true
init_is_block start cleared lines is tempo funk low high few =
    subst (λ ls. is_block ls ≡ true) (sym is)
    (are_blocks.init start cleared (record { tempo = tempo; funk = funk; timer_low = low; timer_high = high }) few)

both : (one two : Bool) → one ≡ true → two ≡ true → (one && two) ≡ true
both one two first second = rw (first, second) refl

pub play_fits : (pointer : ℕ) (holds : ℕ → Bool) → pointer ≤ 254 → IsFit (play_entrance pointer holds)
unfolding play_entrance
play_fits pointer holds high = record {
  lines = both (has_lines nothing_around filter_tree) (has_lines nothing_around voice_tree) have_lines.filter
      have_lines.voice;
  uses = refl;
  pointer = high;
}

pub init_fits : (pointer : ℕ) (holds : ℕ → Bool) (start : Start) (cleared : ℕ) → HasBytes start → cleared < 256 →
    pointer ≤ 254 → IsFit (init_entrance pointer holds start cleared)
unfolding init_entrance
init_fits pointer holds start cleared bytes few high = record {
  lines = both (has_lines nothing_around (init_tree start cleared)) true
      (have_lines.init start cleared bytes few) refl;
  uses = refl;
  pointer = high;
}
