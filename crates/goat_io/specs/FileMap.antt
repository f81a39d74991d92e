-- The files that a map of texts to bytes stands for.
use Rattle.std.specs.Prelude.{ℕ, List, map, String}
use Rattle.std.specs.Global.{Global, Vec}
use Rattle.std.specs.String.{string_bytes}
use Rattle.std.specs.BTreeMap.{BTreeMap}
use Rattle.std.specs.FinMap.{from_entries}
use Rattle.goat_io.specs.Files.{Files}

-- the name and the bytes of an entry
abbrev pub file_entry : String Global × Vec ℕ → List ℕ × List ℕ
file_entry e = (string_bytes e.0, e.1.items)

-- the files of a map's entries
abbrev pub files_of : BTreeMap (String Global) (Vec ℕ) → Files
files_of m = from_entries (map file_entry m.entries)
