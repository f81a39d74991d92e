-- What holds of the conditions in the set for a song and for options. This is the project's own player.
use Rattle.std.specs.Prelude.{◌≡◌, ℕ}
use Rattle.play_model.specs.declared.options.Options.{Options}
use Rattle.scope_lines.specs.Readings.{holds_in}
use Rattle.song_facts.specs.declared.facts.Facts.{Facts}
use Rattle.kept_lines.specs.Asked.{is_in, asks, asked}
use Rattle.kept_lines.specs.KeptLines.{keeps, kept_set}

-- in the set are the conditions that hold, and no others
abbrev pub SetsAreExact : Type 0
SetsAreExact =
    (asked : ℕ) (options : Options) (condition : ℕ) →
    holds_in (kept_set asked options) condition ≡ keeps asked options condition

-- in what a song asks for are its features and its facts, and nothing else
abbrev pub AskedIsExact : Type 0
AskedIsExact =
    (features : ℕ) (facts : Facts) (condition : ℕ) → is_in (asked features facts) condition ≡ asks features facts condition
