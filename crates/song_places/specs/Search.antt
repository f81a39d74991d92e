-- How the first place is looked for, one stretch of the song after the other, and one feature or fact after another.
use Rattle.std.specs.Prelude.{◌≡◌, ◌≢◌, ℕ, ◌%◌, ◌≤◌, ◌⊎◌}
use Rattle.std.specs.Prelude.{◌↔◌, Bool, List, ◌++◌, Option, Some, IsTrue}
use Rattle.song_model.specs.declared.tables.TableName.TheVariants.{Speed}
use Rattle.song_model.specs.declared.songs.Song.{Song}
use Rattle.song_model.specs.LookUp.{speed_row}
use Rattle.play_model.specs.Features.{IsAny}
use Rattle.song_facts.specs.declared.facts.Fact.TheVariants.{VoiceTwo, VoiceThree}
use Rattle.usage.specs.Marks.{AreMarks}
use Rattle.usage.specs.Channels.{IsHeardPattern}
use Rattle.song_places.specs.declared.needs.Known.{Known}
use Rattle.song_places.specs.declared.needs.Parameter.{Parameter}
use Rattle.song_places.specs.declared.needs.Parameter.TheVariants.{Any, Zero, Other}
use Rattle.song_places.specs.declared.needs.Wanted.{Wanted}
use Rattle.song_places.specs.declared.needs.Wanted.TheVariants.{Bytes, Command, WavePointer, FunkTempo, Tempo, Pointers}
use Rattle.song_places.specs.declared.needs.Wanted.TheVariants.{NoteSpeeds, Vibrato, WaveCommands, OfFact}
use Rattle.song_places.specs.declared.places.Place.{Place}
use Rattle.song_places.specs.Needs.{Need, nothing, of_bytes, of_command, of_rows, of_pointers, of_left_sides}
use Rattle.song_places.specs.Needs.{IsBehindPlayable, need_of_fact}
use Rattle.song_places.specs.Places.{rank_of, IsNeededAt, IsFirst}

-- the parameter is such a one
abbrev pub IsParameter : Parameter → ℕ → Type 0
IsParameter Any = IsAny
IsParameter Zero = λ d. d ≡ 0
IsParameter Other = λ d. d ≢ 0

-- what is wanted; the vibrato of a song that uses it
abbrev pub meant : Song → Wanted → Need
meant song (Bytes from to) = of_bytes from to
meant song (Command command parameter) = of_command command (IsParameter parameter)
meant song WavePointer = of_rows (λ c d. c ≡ 8)
meant song FunkTempo = of_rows (λ c d. (c ≡ 0xE) ⊎ ((c ≡ 0xF) × (d ≤ 1)))
meant song Tempo = of_rows (λ c d. (c ≡ 0xF) × (3 ≤ d % 128))
meant song (Pointers name) = of_pointers name IsAny
meant song NoteSpeeds = of_pointers Speed (λ p. 0x80 ≤ (speed_row song p).left)
meant song Vibrato = record nothing { instrument = λ i. i.vibrato ≢ 0 }
meant song WaveCommands = of_left_sides 0xF0 0xFE
meant song (OfFact fact) = need_of_fact song fact

-- where what is wanted is a channel that has something to play, the marks are those of the patterns that have
abbrev pub AreHeardFor : Song → Wanted → List Bool → Type 0
AreHeardFor song (OfFact VoiceTwo) marks = AreMarks (IsHeardPattern song) marks
AreHeardFor song (OfFact VoiceThree) marks = AreMarks (IsHeardPattern song) marks
AreHeardFor song wanted marks = Unit {0}

-- this is known of the orderlists of the subtune with this number, counted from 1
pub record IsKnown (song : Song) (wanted : Wanted) (s : ℕ) (known : Known) : Type 0 where
  pub behind : IsTrue known.behind ↔ IsBehindPlayable song s
  pub heard : AreHeardFor song wanted known.heard

-- the numbers of the place begin so
pub record IsUnder (front : List ℕ) (place : Place) : Type 0 where
  pub rest : List ℕ
  pub is : rank_of place ≡ front ++ rest

-- what stands at such a place needs it
pub record IsNeededUnder (song : Song) (need : Need) (front : List ℕ) (place : Place) : Type 0 where
  pub needed : IsNeededAt song need place
  pub under : IsUnder front place

abbrev pub IsFirstUnder : Song → Need → List ℕ → Place → Type 0
IsFirstUnder song need front = IsFirst (IsNeededUnder song need front)

abbrev pub IsNowhereUnder : Song → Need → List ℕ → Type 0
IsNowhereUnder song need front = (place : Place) → ¬ IsNeededUnder song need front place

-- the place is one of those that are there
abbrev pub IsOneOf : Option Place → Option Place → Place → Type 0
IsOneOf one other place = (one ≡ Some place) ⊎ (other ≡ Some place)
