-- The names of the player's parts.
use Rattle.std.specs.Prelude.{◌≡◌, ℕ, Bool, true, nat_le, ◌==◌, ◌&&◌, ◌||◌, List, length, map}
use Rattle.std.specs.List.{list_all}
use Rattle.std.specs.Str.{bytes_eq}
use Rattle.packing_rules.specs.Renumbering.{first_seen}
use Rattle.song_costs.specs.declared.kept.TheConstants.{PARTS, PART_NAMES}

abbrev pub names : List (List ℕ)
names = map (λ name. name.now) PART_NAMES

-- a lower case letter, a space, a hyphen or a slash
abbrev pub is_plain : ℕ → Bool
is_plain byte = (nat_le 0x61 byte && nat_le byte 0x7A) || (byte == 0x20) || (byte == 0x2D) || (byte == 0x2F)

-- there is one for each part, of 1 to 24 such bytes, and no two are alike
pub record NamesAreShort : Type 0 where
  pub count : length names ≡ PARTS
  pub short : list_all (λ name. nat_le 1 (length name) && nat_le (length name) 24) names ≡ true
  pub plain : list_all (list_all is_plain) names ≡ true
  pub differ : length (first_seen bytes_eq names) ≡ length names
