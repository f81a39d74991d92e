-- One play more.
use Rattle.std.specs.Prelude.{ℕ, ◌+◌, ◌&&◌, Bool, true, nat_le, nat_lt, if◌then◌else◌, Option, Some, None}
use Rattle.song_length.specs.declared.counts.Dearest.{Dearest}
use Rattle.song_length.specs.declared.counts.Counts.{Counts}

abbrev pub is_dearer : Option Dearest → ℕ → Bool
is_dearer None cycles = true
is_dearer (Some dearest) cycles = nat_lt dearest.cycles cycles

abbrev pub noted : Counts → ℕ → Counts
noted counts cycles = record counts {
  calls = counts.calls + 1;
  dearest =
      if nat_le (counts.calls + 1) counts.limit && is_dearer counts.dearest cycles
      then Some (record { cycles = cycles; call = counts.calls + 1 }) else counts.dearest;
}
