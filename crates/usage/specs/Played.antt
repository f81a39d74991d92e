-- The bytes of a subtune's orderlists.
use Rattle.std.specs.Prelude.{◌≡◌, ℕ, true, ◌⊎◌, Contains}
use Rattle.song_model.specs.declared.orders.Subtune.{Subtune}
use Rattle.song_model.specs.LookUp.{is_playable_subtune}

-- the subtune can be played, and one of its orderlists has the byte before its endmark
pub record PlaysByte (subtune : Subtune) (byte : ℕ) : Type 0 where
  pub playable : is_playable_subtune subtune ≡ true
  pub has : Contains subtune.one.entries byte ⊎ Contains subtune.two.entries byte ⊎ Contains subtune.three.entries byte
