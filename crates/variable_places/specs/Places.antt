-- Which variables have a byte, and where it stands: a variable has one where a line may name it that is kept, and the
-- bytes stand close together. This is the project's own player.
use Rattle.std.specs.Prelude.{ℕ, ◌+◌, ◌-◌, ◌*◌, ◌/◌, ◌%◌, Bool, nat_eq, nat_lt, nat_le, if◌then◌else◌, max, List, []}
use Rattle.std.specs.Prelude.{◌∷◌, map, filter, length, take, get_or}
use Rattle.std.specs.List.{range_with_len}
use Rattle.player_memory.specs.declared.labels.TheConstants.{VARIABLES, FUNK_ONE, FUNK_TWO}
use Rattle.player_memory.specs.declared.variables.TheConstants.{VOICE_VARIABLES, SHARED_VARIABLES}
use Rattle.player_memory.specs.Labels.{is_shared}
use Rattle.narrow_runs.specs.Named.{stands_under}

-- ---- which variables have a byte

-- the rows of the tables: a label, and the conditions under which lines stand that name it
unfoldable pub voice_rows : List (ℕ × List ℕ)
voice_rows = map (λ row. (row.0, row.1.now)) VOICE_VARIABLES

unfoldable pub shared_rows : List (ℕ × List ℕ)
shared_rows = map (λ row. (row.0, row.1.now)) SHARED_VARIABLES

-- what a label's row asks
abbrev pub asked_in : List (ℕ × List ℕ) → ℕ → List ℕ
asked_in [] label = []
asked_in (row ∷ rows) label = if nat_eq row.0 label then row.1 else asked_in rows label

-- the voice whose byte it is, 0 to 2, where it is a voice's, and the label of that byte of the first voice
abbrev pub voice_of : ℕ → ℕ
voice_of label = label % 21 / 7

abbrev pub base_of : ℕ → ℕ
base_of label = label - 7 * voice_of label

-- what a label asks; labels of lists ask nothing
unfoldable pub asks : ℕ → List ℕ
asks label =
    if is_shared label then asked_in shared_rows label
    else if nat_lt label VARIABLES then asked_in voice_rows (base_of label) else []

unfoldable pub has_byte : (ℕ → Bool) → ℕ → Bool
has_byte holds label = stands_under holds (asks label)

-- the labels of a table that have a byte, in its order
abbrev pub standing : (ℕ → Bool) → List (ℕ × List ℕ) → List ℕ
standing holds [] = []
standing holds (row ∷ rows) = if stands_under holds row.1 then row.0 ∷ standing holds rows else standing holds rows

-- how many labels stand in front of one
abbrev pub position_in : List ℕ → ℕ → ℕ
position_in [] label = 0
position_in (first ∷ labels) label = if nat_eq first label then 0 else position_in labels label + 1

-- the first voice's labels that have a byte; how many they are is how many fields each voice has
unfoldable pub voice_labels : (ℕ → Bool) → List ℕ
voice_labels holds = standing holds voice_rows

abbrev pub field_count : (ℕ → Bool) → ℕ
field_count holds = length (voice_labels holds)

-- those of all voices, but for the funk tempos, which are the last two of the table
unfoldable pub other_labels : (ℕ → Bool) → List ℕ
other_labels holds = standing holds (take 9 shared_rows)

abbrev pub other_count : (ℕ → Bool) → ℕ
other_count holds = length (other_labels holds)

-- ---- where they stand

-- The fields of the voices stand in groups of seven: seven bytes of the first voice, as many of the second, and as many
-- of the third.
abbrev pub own_place : ℕ → ℕ → ℕ
own_place field voice = 21 * (field / 7) + field % 7 + 7 * voice

-- the field to which a place belongs
abbrev pub field_at : ℕ → ℕ
field_at place = 7 * (place / 21) + place % 7

-- the places that no voice's byte has, if there are so many fields, from the first one on
unfoldable pub free_places : ℕ → List ℕ
free_places fields = filter (λ place. nat_le fields (field_at place)) (range_with_len 0 VARIABLES)

-- the byte of a number among those of all voices has the free place of that number
abbrev pub free_place : ℕ → ℕ → ℕ
free_place fields number = get_or (free_places fields) number 0

-- the first place behind the third voice's last byte, and the one behind so many others, 0 where there are none
abbrev pub voices_end : ℕ → ℕ
voices_end fields = own_place (fields - 1) 2 + 1

abbrev pub others_end : ℕ → ℕ → ℕ
others_end fields others = if nat_eq others 0 then 0 else free_place fields (others - 1) + 1

-- the first place behind all but the funk tempos, which stand there
unfoldable pub funk_place : (ℕ → Bool) → ℕ
funk_place holds = max (voices_end (field_count holds)) (others_end (field_count holds) (other_count holds))

abbrev pub shared_place : (ℕ → Bool) → ℕ → ℕ
shared_place holds label =
    if nat_eq label FUNK_ONE then funk_place holds
    else if nat_eq label FUNK_TWO then funk_place holds + 1
    else free_place (field_count holds) (position_in (other_labels holds) label)

abbrev pub voice_place : (ℕ → Bool) → ℕ → ℕ
voice_place holds label = own_place (position_in (voice_labels holds) (base_of label)) (voice_of label)

-- A label without a byte names the first one, which no line reads or writes by it.
unfoldable pub place_of : (ℕ → Bool) → ℕ → ℕ
place_of holds label =
    if has_byte holds label then (if is_shared label then shared_place holds label else voice_place holds label) else 0

-- how many places there are up to the last one that has a byte
unfoldable pub variable_count : (ℕ → Bool) → ℕ
variable_count holds = if has_byte holds FUNK_ONE then funk_place holds + 2 else funk_place holds
