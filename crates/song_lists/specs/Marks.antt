-- Bytes with labels in front of some of them, as lines of a listing.
use Rattle.std.specs.Prelude.{ℕ, ◌-◌, List, [], ◌∷◌, take, drop}
use Rattle.asm6502.specs.declared.lines.Item.TheVariants.{Label, Bytes}
use Rattle.asm6502.specs.declared.lines.Line.{Line}
use Rattle.song_lists.specs.declared.marks.Mark.{Mark}

-- a label in front of the byte with this place
abbrev pub mark_at : ℕ → ℕ → Mark
mark_at label place = record { label = label; place = place }

-- lines that are always kept
abbrev pub label_line : ℕ → Line
label_line label = record { part = 255; item = Label label }

abbrev pub bytes_line : List ℕ → Line
bytes_line bytes = record { part = 255; item = Bytes bytes }

-- the bytes from a place on, with each label in front of the byte at its place; the marks come by their places
abbrev pub marked : ℕ → List Mark → List ℕ → List Line
marked from [] bytes = bytes_line bytes ∷ []
marked from (mark ∷ marks) bytes =
    bytes_line (take (mark.place - from) bytes) ∷ label_line mark.label
    ∷ marked mark.place marks (drop (mark.place - from) bytes)
