-- A voice in its song, worked.
use Rattle.std.proofs.Common.{[], ◌∷◌, All, refl, arith}
use Rattle.std.proofs.lemmas.List.Elements.{All-nil, All-cons}
use Rattle.code_runs.specs.Runs.{put}
use Rattle.song_model.specs.Walk.{played, prefix_of, cycle_of}
use Rattle.song_model.specs.Places.{first_place, place_of, place_after, prefix_places, cycle_places}
use Rattle.play_model.specs.LookUps.{LookUps}
use Rattle.packed_form.specs.declared.entries.EntryKind.TheVariants.{Note, Rests}
use Rattle.packed_form.specs.Entries.{IsEntry}
use Rattle.player_memory.specs.declared.labels.TheConstants.{REST, OFFSET, PATTERN_LOW}
use Rattle.player_memory.specs.Fetching.{GoesOn, Repeats, Walked, NotWalked, AtEntry, InRun, InLastRun}
use Rattle.player_memory.specs.WorkedFetching.{SongsAreWorked, StandsSo, at_start, at_first, in_run, on_row}

start : (look : LookUps) → StandsSo look (on_row 0) at_start
unfolding place_of
start look = AtEntry refl (NotWalked refl refl (GoesOn first_place refl refl refl refl refl))

two_rests : IsEntry (record { instrument = 0; kind = Rests 1 })
two_rests = record { instrument = omega arith; kind = omega arith }

note : IsEntry (record { instrument = 0; kind = Note 0x60 })
note = record { instrument = omega arith; kind = record { from = omega arith; to = omega arith } }

-- the entries of its pattern
pub note_is : All IsEntry (record { instrument = 0; kind = Note 0x60 } ∷ [])
note_is = All-cons IsEntry (record { instrument = 0; kind = Note 0x60 }) [] note (All-nil IsEntry)

pub each_is : All IsEntry (record { instrument = 0; kind = Rests 1 } ∷ record { instrument = 0; kind = Note 0x60 } ∷ [])
each_is =
    All-cons IsEntry (record { instrument = 0; kind = Rests 1 }) (record { instrument = 0; kind = Note 0x60 } ∷ [])
    two_rests note_is

first : (look : LookUps) → StandsSo look (on_row 0) at_first
unfolding played prefix_of cycle_of place_of place_after prefix_places cycle_places
first look =
    AtEntry refl
    (Walked (omega arith) (λ e. refl, λ e. refl) (record { low_is = refl; high_is = refl }) refl
    (Repeats refl (record { inside = omega arith; low = omega arith }) (record { low_is = refl; high_is = refl }) refl
    refl
    refl)
    (record {
      entry = record { instrument = 0; kind = Rests 1 };
      others = record { instrument = 0; kind = Note 0x60 } ∷ [];
      each = each_is;
      text = refl;
      left = refl;
    }))

run : (look : LookUps) → StandsSo look (on_row 1) in_run
unfolding played prefix_of cycle_of place_of place_after prefix_places cycle_places
run look =
    InRun (λ none. omega (arith, none)) (record { begun = omega arith; inside = omega arith; each = refl })
    (omega arith)
    (Walked (omega arith) (λ e. absurd (omega (arith, e)), λ e. absurd (omega (arith, e)))
    (record { low_is = refl; high_is = refl }) refl
    (Repeats refl (record { inside = omega arith; low = omega arith }) (record { low_is = refl; high_is = refl }) refl
    refl
    refl)
    (record {
      entry = record { instrument = 0; kind = Note 0x60 };
      others = [];
      each = note_is;
      text = refl;
      left = refl;
    }))

start_row : (look : LookUps) → ¬ StandsSo look (on_row 1) at_start
start_row look (AtEntry none (Walked some first pattern transpose walk entries)) = omega (arith, some)
start_row look (AtEntry none (NotWalked through first walk)) = omega (arith, first)
start_row look (InRun some rests inside next) = some refl
start_row look (InLastRun some rests last next) = some refl

first_row : (look : LookUps) → ¬ StandsSo look (on_row 1) at_first
first_row look (AtEntry none (Walked some first pattern transpose walk entries)) =
    (let row = first.1 refl in omega (arith, row))
first_row look (AtEntry none (NotWalked through first walk)) = omega (arith, through)
first_row look (InRun some rests inside next) = some refl
first_row look (InLastRun some rests last next) = some refl

other_offset : (look : LookUps) → ¬ StandsSo look (on_row 0) (put at_first OFFSET 2)
other_offset look (AtEntry none (Walked some first pattern transpose walk entries)) =
    (let offset = first.0 refl in omega (arith, offset))
other_offset look (AtEntry none (NotWalked through first walk)) = omega (arith, through)
other_offset look (InRun some rests inside next) = some refl
other_offset look (InLastRun some rests last next) = some refl

more : (look : LookUps) → ¬ StandsSo look (on_row 1) (put in_run REST 2)
more look (AtEntry none next) = omega (arith, none)
more look (InRun some rests inside next) = omega (arith, inside)
more look (InLastRun some rests last (Walked least first pattern transpose walk entries)) =
    (let offset = first.0 refl in omega (arith, offset))
more look (InLastRun some rests last (NotWalked through first walk)) = omega (arith, through)

before : (look : LookUps) → ¬ StandsSo look (on_row 0) in_run
before look (AtEntry none next) = omega (arith, none)
before look (InRun some rests inside next) = (let begun = rests.begun in omega (arith, begun))
before look (InLastRun some rests last next) = (let begun = rests.begun in omega (arith, begun))

pattern : (look : LookUps) → ¬ StandsSo look (on_row 0) (put at_first PATTERN_LOW 0)
unfolding played prefix_of cycle_of
pattern look (AtEntry none (Walked some first has transpose walk entries)) =
    (let low = has.low_is in omega (arith, low))
pattern look (AtEntry none (NotWalked through first walk)) = omega (arith, through)
pattern look (InRun some rests inside next) = some refl
pattern look (InLastRun some rests last next) = some refl

pub songs_are_worked : (look : LookUps) → SongsAreWorked look
songs_are_worked look = record {
  start = start look;
  first = first look;
  run = run look;
  start_row = start_row look;
  first_row = first_row look;
  other_offset = other_offset look;
  more = more look;
  before = before look;
  pattern = pattern look;
}
