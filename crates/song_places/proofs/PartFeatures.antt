-- The features in the order of their bits.
use Rattle.std.proofs.Common.{◌≡◌, ℕ, ◌<◌, get_or, List, map, refl, sym, ◌∙◌, ap, zero-add, lit<}
use Rattle.std.specs.List.{range_with_len}
use Rattle.std.proofs.lemmas.List.{get_or-map}
use Rattle.std.proofs.lemmas.List.FromFn.{get_or-range_with_len}
use Rattle.song_model.specs.declared.features.Feature.{Feature}
use Rattle.song_model.specs.declared.features.Feature.TheVariants.{Transpose, Repeat, PortaUp, PortaDown, TonePorta}
use Rattle.song_model.specs.declared.features.Feature.TheVariants.{TieNote, Vibrato, InstrumentVibrato, NoteDependent}
use Rattle.song_model.specs.declared.features.Feature.TheVariants.{SetAd, SetSr, SetWave, SetWavePointer, PulseTable}
use Rattle.song_model.specs.declared.features.Feature.TheVariants.{SetPulsePointer, FilterTable, SetFilterPointer}
use Rattle.song_model.specs.declared.features.Feature.TheVariants.{FilterControl, Cutoff, Volume, FunkTempo, SetTempo}
use Rattle.song_model.specs.declared.features.Feature.TheVariants.{WaveTable, WaveCommand}
use Rattle.song_model.specs.Feature.{bit_of}
use Rattle.song_places.specs.declared.part_places.TheConstants.{FEATURES}

-- a feature stands at its bit
pub record IsAtBit (feature : Feature) : Type 0 where
  pub small : bit_of feature < 24
  pub there : (d : Feature) → get_or FEATURES (bit_of feature) d ≡ feature

pub at_bit : (feature : Feature) → IsAtBit feature
at_bit Transpose = record { small = lit< tt; there = λ d. refl }
at_bit Repeat = record { small = lit< tt; there = λ d. refl }
at_bit PortaUp = record { small = lit< tt; there = λ d. refl }
at_bit PortaDown = record { small = lit< tt; there = λ d. refl }
at_bit TonePorta = record { small = lit< tt; there = λ d. refl }
at_bit TieNote = record { small = lit< tt; there = λ d. refl }
at_bit Vibrato = record { small = lit< tt; there = λ d. refl }
at_bit InstrumentVibrato = record { small = lit< tt; there = λ d. refl }
at_bit NoteDependent = record { small = lit< tt; there = λ d. refl }
at_bit SetAd = record { small = lit< tt; there = λ d. refl }
at_bit SetSr = record { small = lit< tt; there = λ d. refl }
at_bit SetWave = record { small = lit< tt; there = λ d. refl }
at_bit SetWavePointer = record { small = lit< tt; there = λ d. refl }
at_bit PulseTable = record { small = lit< tt; there = λ d. refl }
at_bit SetPulsePointer = record { small = lit< tt; there = λ d. refl }
at_bit FilterTable = record { small = lit< tt; there = λ d. refl }
at_bit SetFilterPointer = record { small = lit< tt; there = λ d. refl }
at_bit FilterControl = record { small = lit< tt; there = λ d. refl }
at_bit Cutoff = record { small = lit< tt; there = λ d. refl }
at_bit Volume = record { small = lit< tt; there = λ d. refl }
at_bit FunkTempo = record { small = lit< tt; there = λ d. refl }
at_bit SetTempo = record { small = lit< tt; there = λ d. refl }
at_bit WaveTable = record { small = lit< tt; there = λ d. refl }
at_bit WaveCommand = record { small = lit< tt; there = λ d. refl }

bits_in_order : map bit_of FEATURES ≡ range_with_len 0 24
bits_in_order = refl

pub bit_there : (part : ℕ) (d : Feature) → part < 24 → bit_of (get_or FEATURES part d) ≡ part
bit_there part d few =
    sym (get_or-map bit_of FEATURES part d (bit_of d) few)
    ∙ ap (λ (xs : List ℕ). get_or xs part (bit_of d)) bits_in_order
    ∙ get_or-range_with_len 0 24 part (bit_of d) few ∙ zero-add part

-- one feature stands at a bit
pub same_bit : (one other : Feature) → bit_of one ≡ bit_of other → one ≡ other
same_bit one other same =
    sym ((at_bit one).there one) ∙ ap (λ (bit : ℕ). get_or FEATURES bit one) same ∙ (at_bit other).there one
