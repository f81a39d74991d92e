-- What a text of the format GTS5 spells, as the GoatTracker 2 readme has it: the text is cut into pieces, one after
-- the other, and each spells its part of the song.
use Rattle.std.specs.Prelude.{◌≡◌, ℕ, ◌+◌, ◌*◌, List, [], ◌∷◌, ◌++◌, length, codes, All}
use Rattle.std.specs.List.{flat_map}
use Rattle.song_model.specs.declared.rows.Row.{Row}
use Rattle.song_model.specs.declared.orders.Order.{Order}
use Rattle.song_model.specs.declared.orders.Subtune.{Subtune}
use Rattle.song_model.specs.declared.songs.Song.{Song}
use Rattle.song_model.specs.OrderLimits.{IsEntry}
use Rattle.song_model.specs.PatternLimits.{IsRow}
use Rattle.song_model.specs.Limits.{KeepsLimits}
use Rattle.song_model.specs.Canonical.{texts_text, instruments_text, tables_text, row_text}

-- an orderlist: a byte n, the entries, the first $FF, the restart position, and bytes that are ignored; n counts
-- all of them but itself and one
pub record SpellsOrder (order : Order) (piece : List ℕ) : Type 0 where
  pub ignored : List ℕ
  pub entries : All IsEntry order.entries
  pub parts : piece ≡ (length order.entries + 1 + length ignored) ∷ (order.entries ++ 0xFF ∷ order.restart ∷ ignored)

-- three orderlists
pub record SpellsSubtune (subtune : Subtune) (text : List ℕ) : Type 0 where
  pub one : List ℕ
  pub two : List ℕ
  pub three : List ℕ
  pub parts : text ≡ one ++ (two ++ three)
  pub spells_one : SpellsOrder subtune.one one
  pub spells_two : SpellsOrder subtune.two two
  pub spells_three : SpellsOrder subtune.three three

-- a pattern: a byte m, the rows, the note $FF of the end row, and bytes that are ignored: the other three of the end
-- row, and `more` rows; m counts all rows
pub record SpellsPattern (rows : List Row) (piece : List ℕ) : Type 0 where
  pub more : ℕ
  pub ignored : List ℕ
  pub each : All IsRow rows
  pub ignored_rows : length ignored ≡ 3 + 4 * more
  pub parts : piece ≡ (length rows + 1 + more) ∷ (flat_map row_text rows ++ 0xFF ∷ ignored)

-- one piece for each item, one after the other
abbrev pub SpellsEach : {X : Type 0} → (X → List ℕ → Type 0) → List X → List ℕ → Type 0
SpellsEach Spelled [] text = text ≡ []
SpellsEach Spelled (x ∷ xs) text = (piece : List ℕ) × (others : List ℕ) × (text ≡ piece ++ others) × Spelled x piece
    × SpellsEach Spelled xs others

-- the whole text: the magic, three texts, the counted subtunes, instruments, tables and patterns, and any bytes
pub record Spells (bytes : List ℕ) (song : Song) : Type 0 where
  pub limits : KeepsLimits song
  pub subtunes : List ℕ
  pub patterns : List ℕ
  pub ignored : List ℕ
  pub parts : bytes ≡ codes "GTS5"
      ++ (texts_text song ++ (length song.subtunes ∷ (subtunes ++ (instruments_text song.instruments
      ++ (tables_text song ++ (length song.patterns ∷ (patterns ++ ignored)))))))
  pub spells_subtunes : SpellsEach SpellsSubtune song.subtunes subtunes
  pub spells_patterns : SpellsEach SpellsPattern song.patterns patterns
