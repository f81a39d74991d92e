-- The lines of an image's code are those of its blocks, with the bytes around them that are counted.
use Rattle.std.proofs.Common.{◌≡◌, ℕ, ◌+◌, Bool, true, false, List, ◌++◌, Some, None}
use Rattle.std.proofs.Common.{refl, arith, append_assoc}
use Rattle.asm6502.proofs.Laws.{size_of-append}
use Rattle.scopes.specs.Trees.{Tree}
use Rattle.scope_lines.specs.Sizes.{size}
use Rattle.scope_lines.specs.Lines.{block_lines}
use Rattle.scope_calls.specs.Entrances.{Entrance, lead_lines, call_lines}
use Rattle.player_code.specs.declared.labels.TheConstants.{INIT_CODE, PLAY_CODE}
use Rattle.player_code.specs.CodeLines.{front_lines, middle_lines, lines_around, play_entrance, init_entrance}
use Rattle.player_code.proofs.Laws.{front_size}
use Rattle.image_parts.specs.CodeLines.{StandAround, LinesStandAround, lines_behind}

-- the same lists, joined from the first one on
regrouped : {X : Type 0} (front lead one calls two back middle other three : List X) →
    front ++ ((lead ++ (one ++ ((calls ++ two) ++ back))) ++ (middle ++ (other ++ (three ++ back))))
    ≡ (front ++ lead) ++ (one ++ (calls ++ (two ++ ((back ++ (middle ++ other)) ++ (three ++ back)))))
regrouped front lead one calls two back middle other three =
    let last = three ++ back in
    let rest = middle ++ (other ++ last) in
    rw (
      append_assoc lead (one ++ ((calls ++ two) ++ back)) rest,
      append_assoc one ((calls ++ two) ++ back) rest,
      append_assoc (calls ++ two) back rest,
      append_assoc calls two (back ++ rest),
      append_assoc back (middle ++ other) last,
      append_assoc middle other last,
      append_assoc front lead (one ++ (calls ++ (two ++ (back ++ rest)))),
    ) refl

-- entrances to any blocks
abbrev playing : ℕ → (ℕ → Bool) → Tree → Tree → Entrance
playing pointer holds filter voice = record {
  label = PLAY_CODE;
  numbered = false;
  first = filter;
  voice = Some voice;
  pointer = pointer;
  holds = holds;
}

abbrev beginning : ℕ → (ℕ → Bool) → Tree → Entrance
beginning pointer holds init = record {
  label = INIT_CODE;
  numbered = true;
  first = init;
  voice = None;
  pointer = pointer;
  holds = holds;
}

stand : (places : ℕ → ℕ) (variables : List ℕ) (pointer : ℕ) (holds : ℕ → Bool) (filter voice init : Tree) →
    StandAround (lines_around places variables (playing pointer holds filter voice) (beginning pointer holds init))
    places variables pointer holds filter voice init
stand places variables pointer holds filter voice init =
    let front = front_size places variables in
    let led = size_of-append (front_lines places variables) lead_lines in record {
      are =
          regrouped (front_lines places variables) lead_lines (block_lines PLAY_CODE pointer holds 1 filter)
          (call_lines PLAY_CODE (1 + size holds filter))
          (block_lines PLAY_CODE pointer holds (1 + size holds filter + 12) voice) lines_behind middle_lines
          lead_lines (block_lines INIT_CODE pointer holds 1 init);
      front_takes = omega (arith, front, led);
      calls_take = refl;
      between_takes = refl;
      back_takes = refl;
    }

pub lines_stand_around : LinesStandAround
unfolding play_entrance init_entrance
lines_stand_around places variables pointer holds start = stand places variables pointer holds _ _ _
