-- The texts of a song's used patterns, each once.
use Rattle.std.specs.Prelude.{◌≡◌, ℕ, ◌<◌, ◌≤◌, Bool, true, List, [], ◌∷◌, ◌++◌}
use Rattle.std.specs.Prelude.{if◌then◌else◌, length, map, filter, slice_index}
use Rattle.std.specs.List.{list_any, position_or_len, range_with_len}
use Rattle.std.specs.Str.{bytes_eq}
use Rattle.song_model.specs.declared.patterns.TheConstants.{MOST_PATTERNS}
use Rattle.song_model.specs.declared.songs.Song.{Song}
use Rattle.song_model.specs.LookUp.{pattern_at}
use Rattle.packed_form.specs.declared.packed_patterns.TheConstants.{MOST_PACKED_BYTES}
use Rattle.packed_form.specs.PackedText.{packed_text}
use Rattle.packing_rules.specs.Renumbering.{first_seen}
use Rattle.song_pack.specs.declared.faults.PackFault.{PackFault}
use Rattle.song_pack.specs.declared.faults.PackFault.TheVariants.{PatternTooLong, NoMemory}
use Rattle.song_pack.specs.declared.numbers.RowNumbers.{RowNumbers}
use Rattle.song_pack.specs.Numbers.{row_of, numbered_row}

-- what a pattern is packed to under these numbers of rows and instruments
unfoldable pub text_under : Song → RowNumbers → List ℕ → ℕ → List ℕ
text_under song numbers instruments p =
    packed_text (map (numbered_row (row_of numbers) (slice_index instruments)) (pattern_at song p))

-- the texts of the used ones of the patterns below n
unfoldable pub texts_below : (ℕ → List ℕ) → (ℕ → Bool) → ℕ → List (List ℕ)
texts_below text used n = map text (filter used (range_with_len 0 n))

-- texts with this one at the end, where it isn't there
abbrev pub with_text : List (List ℕ) → List ℕ → List (List ℕ)
with_text texts text = if list_any (bytes_eq text) texts then texts else texts ++ text ∷ []

-- each text once, and the number of each used pattern
pub record ArePatterns (text : ℕ → List ℕ) (used : ℕ → Bool) (list : List (List ℕ)) (to : List ℕ) : Type 0 where
  pub list_are : list ≡ first_seen bytes_eq (texts_below text used MOST_PATTERNS)
  pub number : (p : ℕ) → used p ≡ true → p < MOST_PATTERNS →
      slice_index to p ≡ position_or_len (bytes_eq (text p)) list
  pub short : (p : ℕ) → used p ≡ true → p < MOST_PATTERNS → length (text p) ≤ MOST_PACKED_BYTES

-- the first used pattern whose text is too long
pub record IsFirstTooLong (text : ℕ → List ℕ) (used : ℕ → Bool) (pattern n : ℕ) : Type 0 where
  pub is_used : used pattern ≡ true
  pub text_is : length (text pattern) ≡ n
  pub long : MOST_PACKED_BYTES < n
  pub first : (p : ℕ) → p < pattern → used p ≡ true → length (text p) ≤ MOST_PACKED_BYTES

-- a fault has its cause; want of memory needs none
abbrev pub IsCaused : (ℕ → List ℕ) → (ℕ → Bool) → PackFault → Type 0
IsCaused text used (PatternTooLong pattern n) = IsFirstTooLong text used pattern n
IsCaused text used NoMemory = Unit {0}

-- the same of one pattern alone
abbrev pub IsCausedAt : List ℕ → ℕ → PackFault → Type 0
IsCausedAt text p (PatternTooLong pattern n) = (pattern ≡ p) × (length text ≡ n) × (MOST_PACKED_BYTES < n)
IsCausedAt text p NoMemory = Unit {0}
