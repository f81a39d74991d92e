-- What a folder holds: for each name at most one file, a list of bytes.
use Rattle.std.specs.Prelude.{◌≡◌, ℕ, List, Option, Some, None, length, ◌<◌, ◌⊎◌, take, option_map}
use Rattle.std.specs.Ordering.{nat_cmp}
use Rattle.std.specs.Cmp.Lexicographic.{slice_cmp}
use Rattle.std.specs.FinMap.{FinMap, get, insert}

-- a finite map from names to bytes
abbrev pub Files : Type 0
Files = FinMap (slice_cmp nat_cmp) (List ℕ)

-- the bytes of the file that has the name
abbrev pub file_of : Files → List ℕ → Option (List ℕ)
file_of files name = get files name

-- the files with these bytes under the name, and every other file as before
abbrev pub with_file : Files → List ℕ → List ℕ → Files
with_file files name bytes = insert files name bytes

-- the same of a folder that may tell its files or not
abbrev pub told_with_file : Option Files → List ℕ → List ℕ → Option Files
told_with_file told name bytes = option_map (λ files. with_file files name bytes) told

-- no file has the name
abbrev pub IsAbsent : List ℕ → Files → Type 0
IsAbsent name files = file_of files name ≡ None

-- the file has more bytes than the limit
abbrev pub IsAbove : ℕ → List ℕ → Files → Type 0
IsAbove limit name files = (bytes : List ℕ) × (file_of files name ≡ Some bytes) × (limit < length bytes)

-- the named file is as before or holds a prefix of the bytes, and every other file is as before
abbrev pub IsWrittenInPart : Option Files → Option Files → List ℕ → List ℕ → Type 0
IsWrittenInPart before after name bytes =
    (after ≡ before) ⊎ ((n : ℕ) × (after ≡ told_with_file before name (take n bytes)))
