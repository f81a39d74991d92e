-- Places at the edges of what is allowed.
use Rattle.packed_form.specs.ImagePlaces.{IsAddress, IsZeroPage}

-- from $0800 to $CF00 by whole pages, and from $02 to $FE
pub record EdgesAreWorked : Type 0 where
  pub first : IsAddress 0x0800
  pub last : IsAddress 0xCF00
  pub below : ¬ IsAddress 0x0700
  pub above : ¬ IsAddress 0xD000
  pub within : ¬ IsAddress 0x0801
  pub least : IsZeroPage 0x02
  pub most : IsZeroPage 0xFE
  pub small : ¬ IsZeroPage 0x01
  pub great : ¬ IsZeroPage 0xFF
