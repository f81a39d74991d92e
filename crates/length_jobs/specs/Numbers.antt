-- How long the numbers are that are told of a song.
use Rattle.std.specs.Prelude.{◌<◌, ◌^◌, IfSome}
use Rattle.song_length.specs.declared.measuring.Repeat.{Repeat}
use Rattle.song_length.specs.declared.measuring.Measured.{Measured}

-- each has seven digits at most
pub record HasFewDigits (told : Measured) : Type 0 where
  pub init : told.init < 10 ^ 7
  pub cycles : told.dearest.cycles < 10 ^ 7
  pub call : told.dearest.call < 10 ^ 7
  pub from : IfSome told.repeat (λ (repeat : Repeat). repeat.from < 10 ^ 7)
  pub length : IfSome told.repeat (λ (repeat : Repeat). repeat.length < 10 ^ 7)
