-- What a reader may rely on in the definitions of the format.
use Rattle.std.specs.Prelude.{◌≡◌, ℕ, ◌≤◌, List, length, All, None, MatchOption}
use Rattle.song_model.specs.declared.songs.Song.{Song}
use Rattle.song_model.specs.Basics.{IsByte}
use Rattle.song_model.specs.Limits.{KeepsLimits}
use Rattle.song_model.specs.Canonical.{canonical}
use Rattle.gts5.specs.declared.songs.TheConstants.{MOST_BYTES}
use Rattle.gts5.specs.Spells.{Spells}
use Rattle.gts5.specs.Faults.{fault_of}

-- a file may have 262,144 bytes
abbrev pub ConstantIs : Type 0
ConstantIs = MOST_BYTES ≡ 262144

-- the bytes spell this song and no other
pub record SpellsOnly (bytes : List ℕ) (song : Song) : Type 0 where
  pub spelled : Spells bytes song
  pub only : (other : Song) → Spells bytes other → other ≡ song

abbrev pub SpellsNone : List ℕ → Type 0
SpellsNone bytes = (song : Song) → ¬ Spells bytes song

-- where a text has no fault it spells one song, where it has one it spells none
abbrev pub OneSongOrOneFault : Type 0
OneSongOrOneFault = (bytes : List ℕ) → All IsByte bytes
    → MatchOption (fault_of bytes) ((song : Song) × SpellsOnly bytes song) (λ fault. SpellsNone bytes)

-- the canonical spelling of a song spells it and no other
abbrev pub CanonicalIsSpelled : Type 0
CanonicalIsSpelled = (song : Song) → KeepsLimits song → SpellsOnly (canonical song) song

-- and can be read
abbrev pub CanonicalHasNoFault : Type 0
CanonicalHasNoFault = (song : Song) → KeepsLimits song → fault_of (canonical song) ≡ None

-- and is as long as a file may be, or shorter
abbrev pub CanonicalIsShort : Type 0
CanonicalIsShort = (song : Song) → KeepsLimits song → length (canonical song) ≤ MOST_BYTES
