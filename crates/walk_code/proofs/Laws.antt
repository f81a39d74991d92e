-- The lemmas that upper crates may cite, and the words of proofs in which they are said.

-- the way from a place of an orderlist to its next play
pub use Rattle.walk_code.proofs.Ways.{Arrives, Begun, arrives, begun}
-- a repeat that has begun
pub use Rattle.walk_code.proofs.Repeats.{OfByte, repeat_fine}
-- a walk without transposes
pub use Rattle.walk_code.proofs.Transposes.{IsNone, none_played}
-- what a walk stands on, where it stands, and that it comes to a pattern
pub use Rattle.walk_code.proofs.WalkGrounds.{order_byte, begin_tree, behind, WalkGround, Walking, Fine, IsThere}
pub use Rattle.walk_code.proofs.Walks.{loop_leads}
