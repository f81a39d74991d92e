-- What a reader may rely on in the trace of a song.
use Rattle.std.specs.Prelude.{◌≡◌, ℕ, length}
use Rattle.song_model.specs.declared.songs.Song.{Song}
use Rattle.play_model.specs.declared.options.Options.{Options}
use Rattle.play_model.specs.declared.options.System.{System}
use Rattle.play_model.specs.Frame.{trace_with}

-- each call leaves a value for each of the 25 registers
abbrev pub TracesHaveAllRegisters : Type 0
TracesHaveAllRegisters = (o : Options) (song : Song) (k i : ℕ) → length (trace_with o song k i) ≡ 25

-- no register depends on the system
abbrev pub SystemsPlayAlike : Type 0
SystemsPlayAlike =
    (o : Options) (system : System) (song : Song) (k i : ℕ) →
    trace_with (record o { system = system }) song k i ≡ trace_with o song k i
