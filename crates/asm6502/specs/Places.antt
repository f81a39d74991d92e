-- What the two passes over a listing have at hand: the table of labels, and what the lines before have
-- given.
use Rattle.std.specs.Prelude.{◌≡◌, ℕ, ◌+◌, List, length, Option, Some, IsSome, unwrap_or}
use Rattle.std.specs.Ordering.{nat_cmp}
use Rattle.std.specs.BTreeMap.{get}
use Rattle.asm6502.specs.declared.lines.Line.{Line}
use Rattle.asm6502.specs.declared.labels.Labels.{Labels}
use Rattle.asm6502.specs.Lines.{kept, place_of, size_of}
use Rattle.asm6502.specs.Assembly.{bytes_of, fixes_of}
use Rattle.asm6502.specs.declared.output.Output.{Output}

-- the table has the places of the labels that these lines name, and the bytes that they take
pub record HasPlaces (labels : Labels) (lines : List Line) : Type 0 where
  pub places : (label : ℕ) → get nat_cmp labels.places label ≡ place_of lines label
  pub size : labels.size ≡ size_of lines

-- the table has this label, if there is one
pub record Knows (labels : Labels) (used : Option ℕ) : Type 0 where
  pub known : (label : ℕ) → used ≡ Some label → IsSome (get nat_cmp labels.places label)

-- the address of a label by the table
abbrev pub address_by : Labels → ℕ → ℕ → ℕ
address_by labels origin label = origin + unwrap_or (get nat_cmp labels.places label) 0

-- what is written is the bytes and the fixes of the kept ones of these lines, with addresses by the table
pub record IsWritten (output : Output) (labels : Labels) (set origin : ℕ) (lines : List Line) : Type 0 where
  pub bytes : output.bytes ≡ bytes_of (address_by labels origin) origin (kept set lines)
  pub fixes : output.fixes ≡ fixes_of (address_by labels 0) 0 (kept set lines)
  pub size : length output.bytes ≡ size_of (kept set lines)
