-- Edits of instruments, which are counted from 1.
use Rattle.std.specs.Prelude.{ℕ, ◌-◌, Bool, ◌||◌, ◌==◌, nat_lt, List, ◌++◌, length, replicate}
use Rattle.std.specs.Prelude.{slice_set, if◌then◌else◌}
use Rattle.song_model.specs.declared.instruments.Instrument.{Instrument}
use Rattle.song_model.specs.declared.songs.Song.{Song}
use Rattle.song_model.specs.LookUp.{zero_instrument}

-- a song can have instruments 1 to 63
abbrev pub is_no_instrument : ℕ → Bool
is_no_instrument instrument = instrument == 0 || nat_lt 63 instrument

-- no instrument with this number is stored
abbrev pub lacks_instrument : Song → ℕ → Bool
lacks_instrument song number = number == 0 || nat_lt (length song.instruments) number

-- the nine bytes before an instrument's name, from 0 to 8
abbrev pub is_no_field : ℕ → Bool
is_no_field field = nat_lt 8 field

abbrev pub with_field : ℕ → ℕ → Instrument → Instrument
with_field field value i =
    if field == 0 then record i { ad = value }
    else if field == 1 then record i { sr = value }
    else if field == 2 then record i { wave = value }
    else if field == 3 then record i { pulse = value }
    else if field == 4 then record i { filter = value }
    else if field == 5 then record i { vibrato = value }
    else if field == 6 then record i { vibrato_delay = value }
    else if field == 7 then record i { gate_timer = value }
    else record i { first_wave = value }

-- at least n instruments: zero ones are stored up to n
abbrev pub stored_up_to : ℕ → List Instrument → List Instrument
stored_up_to n instruments = instruments ++ replicate (n - length instruments) zero_instrument

-- the song with this instrument under its number
abbrev pub with_instrument : Song → ℕ → Instrument → Song
with_instrument song n instrument =
    record song { instruments = slice_set (stored_up_to n song.instruments) (n - 1) instrument }
