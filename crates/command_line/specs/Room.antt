-- The room that a line is given before a run begins, so that printing takes no memory.
use Rattle.std.specs.Prelude.{ℕ, ◌+◌, ◌≤◌, List, All, length}

-- the bytes of a line, and for how many bytes there is room
pub record LineState : Type 0 where
  pub text : List ℕ
  pub room : ℕ

-- room for each line of a run with these words: a name among them with 128 bytes around it, or 128 bytes without one
pub record HasRoom (words : List (List ℕ)) (room : ℕ) : Type 0 where
  pub for_names : All (λ word. length word + 128 ≤ room) words
  pub for_others : 128 ≤ room
