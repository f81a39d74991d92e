-- What an instrument holds before its notes, from the GoatTracker 2 readme's instrument parameters (gateoff timer).
use Rattle.std.specs.Prelude.{ℕ, ◌<◌, ◌==◌, if◌then◌else◌, bit_and}
use Rattle.song_model.specs.declared.instruments.Instrument.{Instrument}
use Rattle.song_facts.specs.declared.hold.Hold.{Hold}
use Rattle.song_facts.specs.declared.hold.Hold.TheVariants.{Nothing, Envelope, Gate}

-- bit $40 of a gateoff timer holds the gate; without it, bit $80 holds the envelope
abbrev pub held_by : ℕ → Hold
held_by timer =
    if bit_and timer 0x40 == 0 then if bit_and timer 0x80 == 0 then Nothing else Envelope else Gate

abbrev pub hold_of : Instrument → Hold
hold_of i = held_by i.gate_timer

-- one that holds its gate holds its envelope as well
abbrev pub how_much : Hold → ℕ
how_much Nothing = 0
how_much Envelope = 1
how_much Gate = 2

-- one instrument holds more than the other
abbrev pub HoldsMore : Instrument → Instrument → Type 0
HoldsMore one other = how_much (hold_of other) < how_much (hold_of one)
