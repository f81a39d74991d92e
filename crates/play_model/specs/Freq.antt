-- The frequency of a note, and the speed that a row of the speed table stands for.
use Rattle.std.specs.Prelude.{ℕ, ◌+◌, ◌-◌, ◌*◌, ◌/◌, ◌%◌, min, List, [], ◌∷◌}
use Rattle.std.specs.Prelude.{if◌then◌else◌, nat_lt, slice_index}
use Rattle.song_model.specs.declared.tables.TableRow.{TableRow}
use Rattle.song_model.specs.declared.tables.TableName.TheVariants.{Speed}
use Rattle.play_model.specs.LookUps.{LookUps}
use Rattle.play_model.specs.Wrap.{freq_minus, shifted_right}

-- the frequencies of the twelve half tones from C to B in the highest octave; that of B is no 16 bit number
abbrev pub highest_octave : List ℕ
highest_octave =
    0x8B42 ∷ 0x9389 ∷ 0x9C4F ∷ 0xA59B ∷ 0xAF74 ∷ 0xB9E2 ∷ 0xC4F0 ∷ 0xD0A6 ∷ 0xDD0E ∷ 0xEA33
    ∷ 0xF820 ∷ 67298 ∷ []

-- notes count half tones from C-0; each octave down halves the frequency; above B-7 there is none
unfoldable pub freq : ℕ → ℕ
freq n =
    if nat_lt n 96 then min 65535 (shifted_right (slice_index highest_octave (n % 12)) (7 - n / 12))
    else 0

-- the step from a note to the half tone above it
unfoldable pub half_tone : ℕ → ℕ
half_tone n = freq_minus (freq (n + 1)) (freq n)

-- a left side below $80 is the high byte of a speed; above, the speed is the half tone at the last
-- note, shifted right, and 0 for shifts of 16 and more
abbrev pub slide_of : TableRow → ℕ → ℕ
slide_of row last =
    if nat_lt row.left 0x80 then 256 * row.left + row.right
    else if nat_lt row.right 16 then shifted_right (half_tone last) row.right
    else 0

unfoldable pub slide : LookUps → ℕ → ℕ → ℕ
slide look pointer last = slide_of (look.row Speed pointer) last
