-- Instruments and what they hold, worked out by hand, with what each refuses.
use Rattle.std.specs.Prelude.{◌≡◌, ℕ, List, [], ◌∷◌}
use Rattle.song_facts.specs.declared.hold.Hold.TheVariants.{Nothing, Envelope, Gate}
use Rattle.packed_form.specs.declared.packed_songs.PackedInstrument.{PackedInstrument}
use Rattle.packed_form.specs.declared.packed_songs.PackedSong.{PackedSong}
use Rattle.packed_form.specs.Holders.{AreInOrder, first_holder}

-- an instrument with this gateoff timer
abbrev pub of_timer : ℕ → PackedInstrument
of_timer timer = record { bytes = 0 ∷ 0 ∷ 0 ∷ 0 ∷ 0 ∷ 0 ∷ 0 ∷ timer ∷ 0 ∷ [] }

-- one that holds nothing, two that hold the envelope, and one that holds the gate
abbrev pub rising : List PackedInstrument
rising = of_timer 0x02 ∷ of_timer 0x83 ∷ of_timer 0x80 ∷ of_timer 0x42 ∷ []

-- no instruments are in order, and those of which each holds at least what the one before it holds
pub record OrdersAreTold : Type 0 where
  pub none : AreInOrder []
  pub in_order : AreInOrder rising
  pub first_more : ¬ AreInOrder (of_timer 0x42 ∷ of_timer 0x82 ∷ [])
  pub last_less : ¬ AreInOrder (of_timer 0x02 ∷ of_timer 0x82 ∷ of_timer 0x03 ∷ [])

-- the first of them, also where none holds so much
pub record HoldersAreTold (packed : PackedSong) : Type 0 where
  pub gate : packed.instruments ≡ rising → first_holder packed Gate ≡ 4
  pub envelope : packed.instruments ≡ rising → first_holder packed Envelope ≡ 2
  pub nothing : packed.instruments ≡ rising → first_holder packed Nothing ≡ 1
  pub gate_alone : packed.instruments ≡ of_timer 0x42 ∷ [] → first_holder packed Envelope ≡ 1
  pub no_gate : packed.instruments ≡ of_timer 0x02 ∷ of_timer 0x82 ∷ [] → first_holder packed Gate ≡ 3

abbrev pub HoldersAreCounted : Type 0
HoldersAreCounted = (packed : PackedSong) → HoldersAreTold packed
