-- What `selftest` tells of the song that is made from a number: a sum of what its subtunes leave in the SID's registers,
-- and how many steps the machine makes in playing its packed file. It is a relation, since the player's bytes may be
-- chosen.
use Rattle.std.specs.Prelude.{◌≡◌, ℕ, ◌%◌, ◌^◌, ◌<◌, List, Ok, true, length, sum_by, slice_index}
use Rattle.std.specs.List.{sum, range_with_len}
use Rattle.song_model.specs.declared.songs.Song.{Song}
use Rattle.song_model.specs.LookUp.{playable_subtunes}
use Rattle.play_model.specs.State.{no_options}
use Rattle.command_line.specs.declared.chip.Chip.TheVariants.{Mos6581}
use Rattle.cpu6502.specs.declared.machine.Machine.{Machine}
use Rattle.psid.specs.declared.header.Psid.{Psid}
use Rattle.psid.specs.Reading.{psid_read}
use Rattle.sid_run.specs.State.{RunnerState, loaded}
use Rattle.jobs.specs.Calls.{FirstCallsTake}
use Rattle.jobs.specs.Packed.{IsWrittenFile}
use Rattle.jobs.specs.Traces.{first_traces}

-- each subtune is played so many calls: its init, and 300 frames
abbrev pub selftest_calls : ℕ
selftest_calls = 301

-- ---- the sum

-- of the registers after each of so many calls of a subtune, counted from 0
unfoldable pub calls_sum : Song → ℕ → ℕ → ℕ
calls_sum song k calls = sum_by sum (first_traces no_options song k calls)

-- of so many subtunes
unfoldable pub subtunes_sum : Song → ℕ → ℕ
subtunes_sum song count = sum_by (λ k. calls_sum song k selftest_calls) (range_with_len 0 count)

-- of all playable subtunes, as a number of 32 bits
abbrev pub register_sum : Song → ℕ
register_sum song = subtunes_sum song (length (playable_subtunes song)) % 2 ^ 32

-- ---- the steps

-- the first calls of a loaded file take so many steps altogether
pub record CallsTake (file : RunnerState) (subtune calls steps : ℕ) : Type 0 where
  pub each : List ℕ
  pub after : Machine
  pub take : FirstCallsTake file subtune calls each after
  pub steps_are : steps ≡ sum each

-- the first subtunes of a file take these steps, one number for each of them; the file is loaded anew for each
pub record SubtunesTake (file : RunnerState) (count : ℕ) (each : List ℕ) : Type 0 where
  pub many : length each ≡ count
  pub take : (subtune : ℕ) → subtune < count → CallsTake file subtune selftest_calls (slice_index each subtune)

-- all playable subtunes of a song take so many steps altogether, of this PSID file
pub record FileTakes (song : Song) (file : List ℕ) (steps : ℕ) : Type 0 where
  pub psid : Psid
  pub reads : psid_read file ≡ Ok psid
  pub each : List ℕ
  pub take : SubtunesTake (loaded psid) (length (playable_subtunes song)) each
  pub steps_are : steps ≡ sum each

-- and of a file that `pack` may write for $1000 and page 0's $FC
pub record TakesSteps (song : Song) (steps : ℕ) : Type 0 where
  pub file : List ℕ
  pub is_written : IsWrittenFile true 0x1000 0xFC song no_options Mos6581 file
  pub takes : FileTakes song file steps
