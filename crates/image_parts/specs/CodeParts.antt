-- Whose each byte of an image's code is: what each image has, a condition's, or an option's. This is the project's own
-- player.
use Rattle.std.specs.Prelude.{ℕ, ◌+◌, ◌==◌, Bool, if◌then◌else◌, List, ◌++◌, length, replicate}
use Rattle.play_model.specs.declared.options.Options.{Options}
use Rattle.scopes.specs.Trees.{Tree}
use Rattle.scope_lines.specs.Readings.{holds_in}
use Rattle.scope_parts.specs.Parts.{parts, bytes_of}
use Rattle.player_text.specs.Texts.{filter_tree, voice_tree, init_tree}
use Rattle.kept_lines.specs.Starts.{start_of}
use Rattle.kept_lines.specs.KeptLines.{kept_set}
use Rattle.variable_places.specs.Places.{variable_count}
use Rattle.player_code.specs.CodeLines.{cleared_of}

-- the part that each image has
abbrev pub always : ℕ
always = 255

-- The bytes in front of the filter's block, with so many variables: two jumps of 3 bytes, the variables and `CLD`;
-- behind it those of the calls of the voices; behind the voices' block `RTS`, and `CLD` of the beginning of a subtune;
-- and behind its block `RTS`. `CodeLines` has these lines.
abbrev pub front_bytes : ℕ → ℕ
front_bytes variables = 7 + variables

abbrev pub call_bytes : ℕ
call_bytes = 12

abbrev pub between_bytes : ℕ
between_bytes = 2

abbrev pub back_bytes : ℕ
back_bytes = 1

-- the parts of three blocks and of what stands around them
abbrev pub parts_around : (ℕ → Bool) → Tree → List ℕ
parts_around holds init =
    replicate (front_bytes (variable_count holds)) always ++ (parts holds always filter_tree
    ++ (replicate call_bytes always ++ (parts holds always voice_tree
    ++ (replicate between_bytes always ++ (parts holds always init ++ replicate back_bytes always)))))

-- the part of each byte of the code, for what a song asks for and options
abbrev pub code_parts : ℕ → Options → List ℕ
code_parts asked o =
    parts_around (holds_in (kept_set asked o))
    (init_tree (start_of o) (cleared_of (variable_count (holds_in (kept_set asked o)))))

-- the two zeros that each image has among its lists, for row 0 of the sides of the speed table
abbrev pub zero_bytes : ℕ
zero_bytes = 2

-- how many bytes a code with these parts takes, and how many of them a part; the zeros are counted with the code, and
-- with the part that each image has
abbrev pub length_of : List ℕ → ℕ
length_of code = length code + zero_bytes

abbrev pub length_of_part : List ℕ → ℕ → ℕ
length_of_part code part = bytes_of part code + (if part == always then zero_bytes else 0)

-- for what a song asks for and options
abbrev pub code_length : ℕ → Options → ℕ
code_length asked o = length_of (code_parts asked o)

abbrev pub part_length : ℕ → Options → ℕ → ℕ
part_length asked o part = length_of_part (code_parts asked o) part
