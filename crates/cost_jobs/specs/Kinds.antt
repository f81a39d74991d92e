-- The kinds of bytes in an image, as they are told.
use Rattle.std.specs.Prelude.{ℕ, List, codes}
use Rattle.song_costs.specs.declared.costs.Costs.{Costs}
use Rattle.song_costs.specs.Kinds.{all_bytes}
use Rattle.cost_jobs.specs.declared.cost_lines.Kind.{Kind}
use Rattle.cost_jobs.specs.declared.cost_lines.Kind.TheVariants.{Player, Orders, Patterns, Instruments, Wave, Pulse}
use Rattle.cost_jobs.specs.declared.cost_lines.Kind.TheVariants.{Filter, Speed, Frequencies, Image}

abbrev pub kind_name : Kind → List ℕ
kind_name Player = codes "player"
kind_name Orders = codes "orderlists"
kind_name Patterns = codes "patterns"
kind_name Instruments = codes "instruments"
kind_name Wave = codes "wave table"
kind_name Pulse = codes "pulse table"
kind_name Filter = codes "filter table"
kind_name Speed = codes "speed table"
kind_name Frequencies = codes "frequencies"
kind_name Image = codes "image"

abbrev pub kind_bytes : Costs → Kind → ℕ
kind_bytes costs Player = costs.player
kind_bytes costs Orders = costs.orders
kind_bytes costs Patterns = costs.patterns
kind_bytes costs Instruments = costs.instruments
kind_bytes costs Wave = costs.wave
kind_bytes costs Pulse = costs.pulse
kind_bytes costs Filter = costs.filter
kind_bytes costs Speed = costs.speed
kind_bytes costs Frequencies = costs.frequencies
kind_bytes costs Image = all_bytes costs
