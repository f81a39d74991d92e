-- How a file is refused that can't be measured.
use Rattle.song_length.specs.declared.measuring.MeasureFault.{MeasureFault}
use Rattle.song_length.specs.declared.measuring.MeasureFault.TheVariants.{NoMemory, Stopped}
use Rattle.command_line.specs.Last.{Last, Says, Wants}
use Rattle.jobs.specs.Lines.{stop_line}

abbrev pub refusal_says : MeasureFault → Last
refusal_says NoMemory = Wants
refusal_says (Stopped call reason) = Says 13 (stop_line reason call)
