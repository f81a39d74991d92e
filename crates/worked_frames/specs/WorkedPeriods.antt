-- A vibrato whose period is one less than the longest, over the calls that are worked out for the longest.
use Rattle.std.specs.Prelude.{◌≡◌, false, [], ◌∷◌}
use Rattle.song_model.specs.declared.songs.Song.{Song}
use Rattle.play_model.specs.Frame.{trace_with}
use Rattle.play_model.specs.WorkedSongs.{sides}
use Rattle.play_model.specs.WorkedRuns.{left_out, from_call}
use Rattle.worked_frames.specs.WorkedLongPulses.{period_127}

abbrev pub period_126 : Song
period_126 = record period_127 { speed = sides 0x7E 0x10 ∷ sides 0xFE 1 ∷ [] }

-- it leaves the same registers
pub record WorkedPeriodsHold : Type 0 where
  pub alike : from_call (trace_with (left_out false false 1) period_126 0) 1 180
      ≡ from_call (trace_with (left_out false false 1) period_127 0) 1 180
