-- How long the code of a packed song's player may be, by this project's own packed form.
use Rattle.std.specs.Prelude.{ℕ, ◌+◌, ◌*◌, Bool, if◌then◌else◌, nat_lt, sum_by}
use Rattle.std.specs.List.{range_with_len}
use Rattle.std.specs.Int.{bit_at}
use Rattle.play_model.specs.declared.options.Options.{Options}

abbrev pub one_if : Bool → ℕ
one_if b = if b then 1 else 0

-- the parts of the player that are kept for features and options
abbrev pub kept_parts : ℕ → Options → ℕ
kept_parts features options =
    sum_by (bit_at features) (range_with_len 0 24) + one_if options.skip_effects + one_if options.skip_pulse
    + one_if (nat_lt 1 options.speed) + one_if options.skip_first

-- the bound of a player's code: so many bytes, and so many for each part that is kept
abbrev pub code_bound : ℕ → Options → ℕ
code_bound features options = 3072 + 320 * kept_parts features options
