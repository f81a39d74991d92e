-- What the instruments of a packed song hold before their notes, from this project's own packed form: where they stand
-- in the order of it, a number tells which of them hold so much.
use Rattle.std.specs.Prelude.{ℕ, ◌+◌, ◌≤◌, ◌↔◌, nat_le, List}
use Rattle.std.specs.List.{position_or_len}
use Rattle.std.specs.List.Sorted.{IsNonDecreasingBy}
use Rattle.song_model.specs.LookUp.{IsNumbered, instrument_at}
use Rattle.song_facts.specs.declared.hold.Hold.{Hold}
use Rattle.song_facts.specs.Hold.{hold_of, how_much}
use Rattle.packed_form.specs.declared.packed_songs.PackedInstrument.{PackedInstrument}
use Rattle.packed_form.specs.declared.packed_songs.PackedSong.{PackedSong}
use Rattle.packed_form.specs.Unpacked.{unpacked_instrument, unpacked_song}

-- how much an instrument holds
abbrev pub held : PackedInstrument → ℕ
held instrument = how_much (hold_of (unpacked_instrument instrument))

-- none holds more than one behind it
abbrev pub AreInOrder : List PackedInstrument → Type 0
AreInOrder instruments = IsNonDecreasingBy held instruments

-- the number of the first that holds so much, or more; where there is none, one more than the last one has
abbrev pub first_holder : PackedSong → Hold → ℕ
first_holder packed hold =
    position_or_len (λ instrument. nat_le (how_much hold) (held instrument)) packed.instruments + 1

-- so where they are in order, an instrument holds so much exactly where its number isn't below that
abbrev pub HoldersStandLast : Type 0
HoldersStandLast = (packed : PackedSong) (hold : Hold) (n : ℕ) → AreInOrder packed.instruments →
    IsNumbered (unpacked_song packed).instruments n →
    (first_holder packed hold ≤ n) ↔ (how_much hold ≤ how_much (hold_of (instrument_at (unpacked_song packed) n)))
