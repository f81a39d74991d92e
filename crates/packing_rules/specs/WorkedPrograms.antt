-- Programs whose stored rows were worked out by hand.
use Rattle.std.specs.Prelude.{◌≡◌, ℕ, Bool, true, false, List, [], ◌∷◌, length, map}
use Rattle.song_model.specs.declared.tables.TableRow.{TableRow}
use Rattle.play_model.specs.WorkedSongs.{sides}
use Rattle.packing_rules.specs.Segments.{ProgramTable, numbers, keeps, stand_in}
use Rattle.packing_rules.specs.WorkedSizes.{among}

-- a table with the rows that programs come to, and those that pointers name
abbrev pub programs : Bool → List TableRow → List ℕ → List ℕ → ProgramTable
programs pulse rows reached entries =
    record { rows = rows; reached = among reached; entries = among entries; pulse = pulse }

-- which rows stay, and which stand for them
abbrev pub Gives : ProgramTable → List Bool → List ℕ → Type 0
Gives table kept stands = (map (keeps table) (numbers (length table.rows)) ≡ kept)
    × (map (stand_in table) (numbers (length table.rows)) ≡ stands)

abbrev pub four : List ℕ
four = 1 ∷ 2 ∷ 3 ∷ 4 ∷ []

-- two loops to their own first rows are equal
abbrev pub EqualProgramsAreStoredOnce : Type 0
EqualProgramsAreStoredOnce =
    Gives (programs false (sides 0x41 0 ∷ sides 0xFF 1 ∷ sides 0x41 0 ∷ sides 0xFF 3 ∷ []) four (1 ∷ 3 ∷ []))
    (true ∷ true ∷ false ∷ false ∷ []) (1 ∷ 2 ∷ 1 ∷ 2 ∷ [])

-- a program that jumps out isn't closed, so all rows stay
abbrev pub JumpsOutAreKept : Type 0
JumpsOutAreKept =
    Gives (programs false (sides 0x41 0 ∷ sides 0xFF 1 ∷ sides 0x41 0 ∷ sides 0xFF 1 ∷ []) four (1 ∷ 3 ∷ []))
    (true ∷ true ∷ true ∷ true ∷ []) four

-- nor is one with a pointer behind its first row
abbrev pub MiddleEntriesAreKept : Type 0
MiddleEntriesAreKept = Gives
    (programs false (sides 0x41 0 ∷ sides 0x41 1 ∷ sides 0xFF 0 ∷ sides 0x41 0 ∷ sides 0x41 1 ∷ sides 0xFF 0 ∷ [])
    (1 ∷ 2 ∷ 3 ∷ 4 ∷ 5 ∷ 6 ∷ []) (1 ∷ 4 ∷ 5 ∷ []))
    (true ∷ true ∷ true ∷ true ∷ true ∷ true ∷ []) (1 ∷ 2 ∷ 3 ∷ 4 ∷ 5 ∷ 6 ∷ [])

-- where the first of two equal programs is the open one, the second one stays too
abbrev pub FirstOpenOneIsKept : Type 0
FirstOpenOneIsKept = Gives
    (programs false (sides 0x41 0 ∷ sides 0x41 1 ∷ sides 0xFF 0 ∷ sides 0x41 0 ∷ sides 0x41 1 ∷ sides 0xFF 0 ∷ [])
    (1 ∷ 2 ∷ 3 ∷ 4 ∷ 5 ∷ 6 ∷ []) (1 ∷ 2 ∷ 4 ∷ []))
    (true ∷ true ∷ true ∷ true ∷ true ∷ true ∷ []) (1 ∷ 2 ∷ 3 ∷ 4 ∷ 5 ∷ 6 ∷ [])

-- a third program that jumps to this row, behind two equal ones of three rows
abbrev pub jump_to : ℕ → ProgramTable
jump_to target = programs false
    (sides 0x41 0 ∷ sides 0x41 1 ∷ sides 0xFF 0 ∷ sides 0x41 0 ∷ sides 0x41 1 ∷ sides 0xFF 0 ∷ sides 0x21 0
    ∷ sides 0xFF target ∷ [])
    (numbers 8) (1 ∷ 4 ∷ 7 ∷ [])

-- a jump from another program to a middle row leaves nothing to be dropped; one to the first row does no harm
abbrev pub JumpsIntoTheMiddleAreKept : Type 0
JumpsIntoTheMiddleAreKept =
    Gives (jump_to 5) (true ∷ true ∷ true ∷ true ∷ true ∷ true ∷ true ∷ true ∷ []) (numbers 8)
    × Gives (jump_to 4) (true ∷ true ∷ true ∷ false ∷ false ∷ false ∷ true ∷ true ∷ [])
    (1 ∷ 2 ∷ 3 ∷ 1 ∷ 2 ∷ 3 ∷ 7 ∷ 8 ∷ [])

-- loops to their second rows are equal, and not to one to the first row
abbrev pub LoopsAreAsFar : Type 0
LoopsAreAsFar = Gives
    (programs false
    (sides 0x41 0 ∷ sides 0x41 1 ∷ sides 0xFF 1 ∷ sides 0x41 0 ∷ sides 0x41 1 ∷ sides 0xFF 5
    ∷ sides 0x41 0 ∷ sides 0x41 1
    ∷ sides 0xFF 8 ∷ []) (numbers 9) (1 ∷ 4 ∷ 7 ∷ []))
    (true ∷ true ∷ true ∷ true ∷ true ∷ true ∷ false ∷ false ∷ false ∷ [])
    (1 ∷ 2 ∷ 3 ∷ 4 ∷ 5 ∷ 6 ∷ 4 ∷ 5 ∷ 6 ∷ [])

-- three jumps to 0: the first program stands for the others
abbrev pub FirstOfThreeStays : Type 0
FirstOfThreeStays = Gives
    (programs false (sides 0x41 0 ∷ sides 0xFF 0 ∷ sides 0x41 0 ∷ sides 0xFF 0 ∷ sides 0x41 0 ∷ sides 0xFF 0 ∷ [])
    (1 ∷ 2 ∷ 3 ∷ 4 ∷ 5 ∷ 6 ∷ []) (1 ∷ 3 ∷ 5 ∷ []))
    (true ∷ true ∷ false ∷ false ∷ false ∷ false ∷ []) (1 ∷ 2 ∷ 1 ∷ 2 ∷ 1 ∷ 2 ∷ [])

-- programs of other lengths aren't equal, nor is a loop to 0 equal to one to the first row
abbrev pub OthersAreKept : Type 0
OthersAreKept = Gives (programs false (sides 0x41 0 ∷ sides 0xFF 0 ∷ sides 0x41 0 ∷ sides 0x41 0 ∷ sides 0xFF 0 ∷ [])
    (1 ∷ 2 ∷ 3 ∷ 4 ∷ 5 ∷ []) (1 ∷ 3 ∷ [])) (true ∷ true ∷ true ∷ true ∷ true ∷ []) (1 ∷ 2
    ∷ 3 ∷ 4 ∷ 5 ∷ [])
    × Gives (programs false (sides 0x41 0 ∷ sides 0xFF 0 ∷ sides 0x41 0 ∷ sides 0xFF 3 ∷ []) four (1 ∷ 3 ∷ []))
    (true ∷ true ∷ true ∷ true ∷ []) four

-- a left side of 0 ends a pulse program, and no other
abbrev pub PulseProgramsStop : Type 0
PulseProgramsStop =
    Gives (programs true (sides 0x88 0 ∷ sides 0 0 ∷ sides 0x88 0 ∷ sides 0 0 ∷ []) four (1 ∷ 3 ∷ []))
    (true ∷ true ∷ false ∷ false ∷ []) (1 ∷ 2 ∷ 1 ∷ 2 ∷ [])
    × Gives
    (programs false (sides 0x88 0 ∷ sides 0 0 ∷ sides 0xFF 0 ∷ sides 0 0 ∷ sides 0xFF 0 ∷ [])
    (1 ∷ 2 ∷ 3 ∷ 4 ∷ 5 ∷ []) (1 ∷ 4 ∷ []))
    (true ∷ true ∷ true ∷ true ∷ true ∷ []) (1 ∷ 2 ∷ 3 ∷ 4 ∷ 5 ∷ [])

-- a jump into a dropped program stays, and a row that no program comes to counts for nothing: here one that names
-- itself
abbrev pub JumpsIntoDroppedPrograms : Type 0
JumpsIntoDroppedPrograms = Gives
    (programs false
    (sides 0x41 0 ∷ sides 0xFF 1 ∷ sides 0xFF 3 ∷ sides 0x41 0 ∷ sides 0xFF 4 ∷ sides 0x21 0 ∷ sides 0xFF 4 ∷ [])
    (1 ∷ 2 ∷ 4 ∷ 5 ∷ 6 ∷ 7 ∷ []) (1 ∷ 6 ∷ []))
    (true ∷ true ∷ false ∷ false ∷ false ∷ true ∷ true ∷ []) (1 ∷ 2 ∷ 0 ∷ 1 ∷ 2 ∷ 6 ∷ 7 ∷ [])
