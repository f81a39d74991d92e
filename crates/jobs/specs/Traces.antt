-- The registers after the first calls of a song's playable subtune, counted from 0.
use Rattle.std.specs.Prelude.{ℕ, List, map}
use Rattle.std.specs.List.{range_with_len}
use Rattle.song_model.specs.declared.songs.Song.{Song}
use Rattle.play_model.specs.declared.options.Options.{Options}
use Rattle.play_model.specs.Frame.{trace_with}

abbrev pub first_traces : Options → Song → ℕ → ℕ → List (List ℕ)
first_traces options song k calls = map (trace_with options song k) (range_with_len 0 calls)
