-- Rows that come into a table and go, worked out by hand.
use Rattle.std.specs.Prelude.{◌≡◌, ℕ, ◌+◌, List, [], ◌∷◌, replicate, Ok}
use Rattle.song_model.specs.declared.rows.Row.{Row}
use Rattle.song_model.specs.declared.tables.TableRow.{TableRow}
use Rattle.song_model.specs.declared.songs.Song.{Song}
use Rattle.song_model.specs.Silence.{empty_song}
use Rattle.edit_ops.specs.declared.shifts.Shift.TheVariants.{Up, Down}
use Rattle.edit_ops.specs.declared.edits.Edit.TheVariants.{InsertTable, DeleteTable}
use Rattle.edit_ops.specs.Pointers.{shifted}
use Rattle.edit_ops.specs.Edits.{edited}
use Rattle.edit_ops.specs.WorkedSongs.{Make, sides, rest_with, pointing, instruments_song, pointer_song}

-- before row 3 another comes: 0 to 2 stay, 3 to 254 are raised, 255 stays
abbrev pub RaisesFromTheRow : Type 0
RaisesFromTheRow =
    (shifted (Up 3) 0 ≡ 0) × (shifted (Up 3) 2 ≡ 2) × (shifted (Up 3) 3 ≡ 4) × (shifted (Up 3) 254 ≡ 255)
    × (shifted (Up 3) 255 ≡ 255)

-- row 3 goes: 0 to 3 stay, 4 to 255 are lowered
abbrev pub LowersAboveTheRow : Type 0
LowersAboveTheRow =
    (shifted (Down 3) 0 ≡ 0) × (shifted (Down 3) 3 ≡ 3) × (shifted (Down 3) 4 ≡ 3) × (shifted (Down 3) 255 ≡ 254)

-- a wave row before row 2: the pointers of instrument 1, of command 8 and of the jump row become 3; the new row, a
-- jump to 2 itself, is as given
abbrev pub InsertsAWaveRow : Type 0
InsertsAWaveRow =
    edited pointer_song (InsertTable 0 2 (sides 0xFF 2)) ≡ Ok (record pointer_song {
      instruments = pointing 3 1 1 2 ∷ pointing 1 2 2 1 ∷ [];
      wave = sides 0x41 3 ∷ sides 0xFF 2 ∷ sides 0xF9 2 ∷ sides 0xFA 2 ∷ sides 0xF4 2 ∷ sides 0xFF 3 ∷ [];
      patterns = (rest_with 8 3 ∷ rest_with 9 2 ∷ rest_with 0xA 2 ∷ rest_with 1 2 ∷ rest_with 0xE 2
          ∷ rest_with 0 2 ∷ []) ∷ [];
    })

-- wave row 1 goes: pointers to 2 become 1, and the pointer of instrument 2 to row 1 itself stays
abbrev pub DeletesAWaveRow : Type 0
DeletesAWaveRow =
    edited pointer_song (DeleteTable 0 1) ≡ Ok (record pointer_song {
      instruments = pointing 1 1 1 2 ∷ pointing 1 2 2 1 ∷ [];
      wave = sides 0xF9 2 ∷ sides 0xFA 2 ∷ sides 0xF4 2 ∷ sides 0xFF 1 ∷ [];
      patterns = (rest_with 8 1 ∷ rest_with 9 2 ∷ rest_with 0xA 2 ∷ rest_with 1 2 ∷ rest_with 0xE 2
          ∷ rest_with 0 2 ∷ []) ∷ [];
    })

-- a pulse row before row 2: the pointers of instrument 2, of command 9, of the wave row F9 and of the jump row
abbrev pub InsertsAPulseRow : Type 0
InsertsAPulseRow =
    edited pointer_song (InsertTable 1 2 (sides 0x20 1)) ≡ Ok (record pointer_song {
      instruments = pointing 2 1 1 2 ∷ pointing 1 3 2 1 ∷ [];
      wave = sides 0x41 3 ∷ sides 0xF9 3 ∷ sides 0xFA 2 ∷ sides 0xF4 2 ∷ sides 0xFF 2 ∷ [];
      pulse = sides 0x88 2 ∷ sides 0x20 1 ∷ sides 0xFF 3 ∷ [];
      patterns = (rest_with 8 2 ∷ rest_with 9 3 ∷ rest_with 0xA 2 ∷ rest_with 1 2 ∷ rest_with 0xE 2
          ∷ rest_with 0 2 ∷ []) ∷ [];
    })

-- filter row 1 goes
abbrev pub DeletesAFilterRow : Type 0
DeletesAFilterRow =
    edited pointer_song (DeleteTable 2 1) ≡ Ok (record pointer_song {
      instruments = pointing 2 1 1 2 ∷ pointing 1 2 1 1 ∷ [];
      wave = sides 0x41 3 ∷ sides 0xF9 2 ∷ sides 0xFA 1 ∷ sides 0xF4 2 ∷ sides 0xFF 2 ∷ [];
      filter = sides 0xFF 1 ∷ [];
      patterns = (rest_with 8 2 ∷ rest_with 9 2 ∷ rest_with 0xA 1 ∷ rest_with 1 2 ∷ rest_with 0xE 2
          ∷ rest_with 0 2 ∷ []) ∷ [];
    })

-- a speed row before row 2: vibratos, the commands 1 and $E, and the wave row F4; the speed table has no jump row
abbrev pub InsertsASpeedRow : Type 0
InsertsASpeedRow =
    edited pointer_song (InsertTable 3 2 (sides 1 1)) ≡ Ok (record pointer_song {
      instruments = pointing 2 1 1 3 ∷ pointing 1 2 2 1 ∷ [];
      wave = sides 0x41 3 ∷ sides 0xF9 2 ∷ sides 0xFA 2 ∷ sides 0xF4 3 ∷ sides 0xFF 2 ∷ [];
      speed = sides 0xFF 2 ∷ sides 1 1 ∷ sides 3 2 ∷ [];
      patterns = (rest_with 8 2 ∷ rest_with 9 2 ∷ rest_with 0xA 2 ∷ rest_with 1 3 ∷ rest_with 0xE 3
          ∷ rest_with 0 2 ∷ []) ∷ [];
    })

-- ---- each command, and each row of the wave table that is one

-- rests with the commands from this one on, with these parameters
abbrev pub rests_from : ℕ → List ℕ → List Row
rests_from command [] = []
rests_from command (param ∷ params) = rest_with command param ∷ rests_from (command + 1) params

-- rows with the left sides from this one on, with these right sides
abbrev pub rows_from : ℕ → List ℕ → List TableRow
rows_from left [] = []
rows_from left (right ∷ rights) = sides left right ∷ rows_from (left + 1) rights

-- One pattern with the commands 0 to $F, and a wave table with two waveforms, then the commands $F0 to $FE, then a
-- jump row. The other tables have a row and a jump row; the row looks like a pointer too, but is none.
abbrev pub commands_song : List ℕ → List ℕ → Song
commands_song params rights = record empty_song {
  wave = sides 0x0F 2 ∷ sides 0xEF 2 ∷ rows_from 0xF0 rights;
  pulse = sides 0xFE 2 ∷ sides 0xFF 2 ∷ [];
  filter = sides 0xFE 2 ∷ sides 0xFF 2 ∷ [];
  speed = sides 0xFE 2 ∷ sides 0xFF 2 ∷ [];
  patterns = (rests_from 0 params) ∷ [];
}

-- all of them with 2
abbrev pub all_at_2 : Song
all_at_2 = commands_song (replicate 16 2) (replicate 16 2)

-- a row before row 2 of the pulse table: command 9, the wave row $F9, and the table's own jump row
abbrev pub MovesIntoPulse : Type 0
MovesIntoPulse = Make all_at_2 ((
  InsertTable 1 2 (sides 2 2),
  record (commands_song
      (2 ∷ 2 ∷ 2 ∷ 2 ∷ 2 ∷ 2 ∷ 2 ∷ 2 ∷ 2 ∷ 3 ∷ 2 ∷ 2 ∷ 2 ∷ 2 ∷ 2 ∷ 2 ∷ [])
      (2 ∷ 2 ∷ 2 ∷ 2 ∷ 2 ∷ 2 ∷ 2 ∷ 2 ∷ 2 ∷ 3 ∷ 2 ∷ 2 ∷ 2 ∷ 2 ∷ 2 ∷ 2 ∷ []))
      { pulse = sides 0xFE 2 ∷ sides 2 2 ∷ sides 0xFF 3 ∷ [] },
)
    ∷ []
    )

-- of the filter table: command $A, the wave row $FA, and its own jump row
abbrev pub MovesIntoFilter : Type 0
MovesIntoFilter = Make all_at_2 ((
  InsertTable 2 2 (sides 2 2),
  record (commands_song
      (2 ∷ 2 ∷ 2 ∷ 2 ∷ 2 ∷ 2 ∷ 2 ∷ 2 ∷ 2 ∷ 2 ∷ 3 ∷ 2 ∷ 2 ∷ 2 ∷ 2 ∷ 2 ∷ [])
      (2 ∷ 2 ∷ 2 ∷ 2 ∷ 2 ∷ 2 ∷ 2 ∷ 2 ∷ 2 ∷ 2 ∷ 3 ∷ 2 ∷ 2 ∷ 2 ∷ 2 ∷ 2 ∷ []))
      { filter = sides 0xFE 2 ∷ sides 2 2 ∷ sides 0xFF 3 ∷ [] },
)
    ∷ []
    )

-- of the speed table: the commands 1 to 4 and $E, and the wave rows $F1 to $F4; it has no jump row
abbrev pub MovesIntoSpeed : Type 0
MovesIntoSpeed = Make all_at_2 ((
  InsertTable 3 2 (sides 2 2),
  record (commands_song
      (2 ∷ 3 ∷ 3 ∷ 3 ∷ 3 ∷ 2 ∷ 2 ∷ 2 ∷ 2 ∷ 2 ∷ 2 ∷ 2 ∷ 2 ∷ 2 ∷ 3 ∷ 2 ∷ [])
      (2 ∷ 3 ∷ 3 ∷ 3 ∷ 3 ∷ 2 ∷ 2 ∷ 2 ∷ 2 ∷ 2 ∷ 2 ∷ 2 ∷ 2 ∷ 2 ∷ 2 ∷ 2 ∷ []))
      { speed = sides 0xFE 2 ∷ sides 2 2 ∷ sides 0xFF 2 ∷ [] },
)
    ∷ []
    )

-- of the wave table: command 8, and its own jump row. Row 1 goes: the same pointers are lowered
abbrev pub MovesIntoWave : Type 0
MovesIntoWave = Make all_at_2 ((
  InsertTable 0 2 (sides 2 2),
  record (commands_song
      (2 ∷ 2 ∷ 2 ∷ 2 ∷ 2 ∷ 2 ∷ 2 ∷ 2 ∷ 3 ∷ 2 ∷ 2 ∷ 2 ∷ 2 ∷ 2 ∷ 2 ∷ 2 ∷ []) []) {
        wave = sides 0x0F 2 ∷ sides 2 2 ∷ sides 0xEF 2
            ∷ rows_from 0xF0 (2 ∷ 2 ∷ 2 ∷ 2 ∷ 2 ∷ 2 ∷ 2 ∷ 2 ∷ 2 ∷ 2 ∷ 2 ∷ 2 ∷ 2 ∷ 2 ∷ 2
            ∷ 3 ∷ []);
      },
)
    ∷ (
      DeleteTable 0 1,
      record (commands_song
          (2 ∷ 2 ∷ 2 ∷ 2 ∷ 2 ∷ 2 ∷ 2 ∷ 2 ∷ 1 ∷ 2 ∷ 2 ∷ 2 ∷ 2 ∷ 2 ∷ 2 ∷ 2 ∷ []) []) {
            wave = sides 0xEF 2
                ∷ rows_from 0xF0 (2 ∷ 2 ∷ 2 ∷ 2 ∷ 2 ∷ 2 ∷ 2 ∷ 2 ∷ 2 ∷ 2 ∷ 2 ∷ 2 ∷ 2 ∷ 2
                ∷ 2 ∷ 1 ∷ []);
          },
    )
    ∷ []
    )

-- ---- the ends

-- an instrument with this pointer into each table
abbrev pub at_each : ℕ → Song
at_each pointer = instruments_song (pointing pointer pointer pointer pointer ∷ [])

-- of pointers at rows that aren't stored: 254 is raised, 255 stays, and so does 0
abbrev pub MovesToTheEnd : Type 0
MovesToTheEnd =
    Make (at_each 254) (
    (InsertTable 0 1 (sides 7 7), record (instruments_song (pointing 255 254 254 254 ∷ [])) { wave = sides 7 7 ∷ [] })
    ∷ (InsertTable 1 1 (sides 7 7), record (instruments_song (pointing 254 255 254 254 ∷ [])) { pulse = sides 7 7 ∷ [] })
    ∷ (InsertTable 2 1 (sides 7 7), record (instruments_song (pointing 254 254 255 254 ∷ [])) { filter = sides 7 7 ∷ [] })
    ∷ (InsertTable 3 1 (sides 7 7), record (instruments_song (pointing 254 254 254 255 ∷ [])) { speed = sides 7 7 ∷ [] })
    ∷ []
    )
    × Make (at_each 255) ((InsertTable 0 1 (sides 7 7), record (at_each 255) { wave = sides 7 7 ∷ [] }) ∷ [])
    × Make (at_each 0) ((InsertTable 0 1 (sides 7 7), record (at_each 0) { wave = sides 7 7 ∷ [] }) ∷ [])

-- a song with two jump rows in its wave table, and these pointers: of two instruments, of a row of a second pattern,
-- and of the jump rows
abbrev pub jumps_song : ℕ → ℕ → ℕ → List TableRow → Song
jumps_song first second param wave = record empty_song {
  instruments = pointing first 2 2 2 ∷ pointing second 2 2 2 ∷ [];
  wave = wave;
  patterns = (rest_with 0 2 ∷ []) ∷ (rest_with 8 param ∷ []) ∷ [];
}

-- Row 2, which is pointed at by an instrument and a jump row, goes: these pointers stay, those at row 3 are lowered, and
-- those at row 1 stay. Row 4 goes: nothing pointed above it. A row comes behind the last: nothing moves. One comes
-- before row 3: pointers at row 3 are raised, and its own right side stays as given.
abbrev pub MovesRoundARow : Type 0
MovesRoundARow =
    Make (jumps_song 2 1 3 (sides 0x11 0 ∷ sides 0x21 0 ∷ sides 0xFF 2 ∷ sides 0xFF 3 ∷ [])) (
    (DeleteTable 0 2, jumps_song 2 1 2 (sides 0x11 0 ∷ sides 0xFF 2 ∷ sides 0xFF 2 ∷ []))
    ∷ (DeleteTable 0 4, jumps_song 2 1 3 (sides 0x11 0 ∷ sides 0x21 0 ∷ sides 0xFF 2 ∷ []))
    ∷ (
      InsertTable 0 5 (sides 0xFF 5),
      jumps_song 2 1 3 (sides 0x11 0 ∷ sides 0x21 0 ∷ sides 0xFF 2 ∷ sides 0xFF 3 ∷ sides 0xFF 5 ∷ []),
    )
    ∷ (
      InsertTable 0 3 (sides 0xFF 3),
      jumps_song 2 1 4 (sides 0x11 0 ∷ sides 0x21 0 ∷ sides 0xFF 3 ∷ sides 0xFF 2 ∷ sides 0xFF 4 ∷ []),
    )
    ∷ []
    )
