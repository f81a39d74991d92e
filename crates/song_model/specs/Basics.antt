-- Words on numbers and lists that the definitions of this crate share with those below.
pub use Rattle.base.specs.Bytes.{IsByte}
pub use Rattle.base.specs.Limits.{KeepsLimit}
pub use Rattle.base.specs.FirstBad.{IsFirstBad}
