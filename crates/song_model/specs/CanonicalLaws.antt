-- What a reader may rely on in the canonical spelling.
use Rattle.std.specs.Prelude.{◌≡◌}
use Rattle.song_model.specs.declared.songs.Song.{Song}
use Rattle.song_model.specs.Limits.{KeepsLimits}
use Rattle.song_model.specs.Canonical.{canonical}

-- no two songs within the limits are spelled alike
abbrev pub SpellingsDiffer : Type 0
SpellingsDiffer =
    (song other : Song) → KeepsLimits song → KeepsLimits other → canonical song ≡ canonical other →
    song ≡ other
