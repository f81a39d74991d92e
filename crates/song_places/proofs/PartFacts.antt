-- The facts in the order of their numbers, which are those of their conditions.
use Rattle.std.proofs.Common.{◌≡◌, ℕ, ◌+◌, ◌<◌, get_or, List, map, refl, sym, ◌∙◌, ap, zero-add, lit<}
use Rattle.std.specs.List.{range_with_len}
use Rattle.std.proofs.lemmas.List.{get_or-map}
use Rattle.std.proofs.lemmas.List.FromFn.{get_or-range_with_len}
use Rattle.song_facts.specs.declared.facts.Fact.{Fact}
use Rattle.song_facts.specs.declared.facts.Fact.TheVariants.{RowTone, RowSlide, RowOnce, FirstMask, Legato, NoHardRestart}
use Rattle.song_facts.specs.declared.facts.Fact.TheVariants.{WaveDelay, GateNote, NoteVibrato, VibratoDelay, NotePulse, NoteFilter}
use Rattle.song_facts.specs.declared.facts.Fact.TheVariants.{VoiceTempo, CommonTempo, FunkTurns, FunkChoice}
use Rattle.song_facts.specs.declared.facts.Fact.TheVariants.{OwnTimer, OwnWave, Subtunes, VoiceTwo, VoiceThree}
use Rattle.song_facts.specs.declared.facts.Fact.TheVariants.{FirstHolds}
use Rattle.song_facts.specs.declared.facts.Facts.{Facts}
use Rattle.song_facts.specs.Facts.{number_of, is_among}
use Rattle.player_memory.specs.FactLines.{fact_condition}
use Rattle.kept_lines.specs.Asked.{asks}
use Rattle.song_places.specs.declared.part_places.TheConstants.{FACTS}

-- a fact stands at its number, and its condition is behind 34 others
pub record IsAtNumber (fact : Fact) : Type 0 where
  pub small : number_of fact < 22
  pub there : (d : Fact) → get_or FACTS (number_of fact) d ≡ fact
  pub condition : fact_condition fact ≡ 34 + number_of fact
  -- it is asked for where the song has it
  pub asked : (features : ℕ) (facts : Facts) → asks features facts (fact_condition fact) ≡ is_among facts fact

pub at_number : (fact : Fact) → IsAtNumber fact
at_number RowTone =
    record { small = lit< tt; there = λ d. refl; condition = refl; asked = λ features facts. refl }
at_number RowSlide =
    record { small = lit< tt; there = λ d. refl; condition = refl; asked = λ features facts. refl }
at_number RowOnce =
    record { small = lit< tt; there = λ d. refl; condition = refl; asked = λ features facts. refl }
at_number FirstMask =
    record { small = lit< tt; there = λ d. refl; condition = refl; asked = λ features facts. refl }
at_number Legato =
    record { small = lit< tt; there = λ d. refl; condition = refl; asked = λ features facts. refl }
at_number NoHardRestart =
    record { small = lit< tt; there = λ d. refl; condition = refl; asked = λ features facts. refl }
at_number WaveDelay =
    record { small = lit< tt; there = λ d. refl; condition = refl; asked = λ features facts. refl }
at_number GateNote =
    record { small = lit< tt; there = λ d. refl; condition = refl; asked = λ features facts. refl }
at_number NoteVibrato =
    record { small = lit< tt; there = λ d. refl; condition = refl; asked = λ features facts. refl }
at_number VibratoDelay =
    record { small = lit< tt; there = λ d. refl; condition = refl; asked = λ features facts. refl }
at_number NotePulse =
    record { small = lit< tt; there = λ d. refl; condition = refl; asked = λ features facts. refl }
at_number NoteFilter =
    record { small = lit< tt; there = λ d. refl; condition = refl; asked = λ features facts. refl }
at_number VoiceTempo =
    record { small = lit< tt; there = λ d. refl; condition = refl; asked = λ features facts. refl }
at_number CommonTempo =
    record { small = lit< tt; there = λ d. refl; condition = refl; asked = λ features facts. refl }
at_number FunkTurns =
    record { small = lit< tt; there = λ d. refl; condition = refl; asked = λ features facts. refl }
at_number FunkChoice =
    record { small = lit< tt; there = λ d. refl; condition = refl; asked = λ features facts. refl }
at_number OwnTimer =
    record { small = lit< tt; there = λ d. refl; condition = refl; asked = λ features facts. refl }
at_number OwnWave =
    record { small = lit< tt; there = λ d. refl; condition = refl; asked = λ features facts. refl }
at_number Subtunes =
    record { small = lit< tt; there = λ d. refl; condition = refl; asked = λ features facts. refl }
at_number VoiceTwo =
    record { small = lit< tt; there = λ d. refl; condition = refl; asked = λ features facts. refl }
at_number VoiceThree =
    record { small = lit< tt; there = λ d. refl; condition = refl; asked = λ features facts. refl }
at_number FirstHolds =
    record { small = lit< tt; there = λ d. refl; condition = refl; asked = λ features facts. refl }

numbers_in_order : map number_of FACTS ≡ range_with_len 0 22
numbers_in_order = refl

pub number_there : (n : ℕ) (d : Fact) → n < 22 → number_of (get_or FACTS n d) ≡ n
number_there n d few =
    sym (get_or-map number_of FACTS n d (number_of d) few)
    ∙ ap (λ (xs : List ℕ). get_or xs n (number_of d)) numbers_in_order
    ∙ get_or-range_with_len 0 22 n (number_of d) few ∙ zero-add n

-- one fact has a number
pub same_number : (one other : Fact) → number_of one ≡ number_of other → one ≡ other
same_number one other same =
    sym ((at_number one).there one) ∙ ap (λ (n : ℕ). get_or FACTS n one) same ∙ (at_number other).there one
