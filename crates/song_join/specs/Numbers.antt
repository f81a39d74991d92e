-- The numbers that the parts of the second of two songs get behind those of the first.
use Rattle.std.specs.Prelude.{ℕ, ◌+◌, nat_le, ◌&&◌, if◌then◌else◌, length}
use Rattle.song_model.specs.declared.songs.Song.{Song}
use Rattle.song_model.specs.LookUp.{table_of}
use Rattle.same_frames.specs.Maps.{Maps}

-- Numbers that count from 1. That of a stored part rises by these many, and another becomes 0, which is none's.
abbrev pub raised : ℕ → ℕ → ℕ → ℕ
raised stored by n = if nat_le 1 n && nat_le n stored then n + by else 0

-- each rises by the first song's number of such parts
unfoldable pub new_numbers : Song → Song → Maps
new_numbers first second = record {
  row = λ name p. raised (length (table_of second name)) (length (table_of first name)) p;
  instrument = λ i. raised (length second.instruments) (length first.instruments) i;
  pattern = λ n. n + length first.patterns;
}
