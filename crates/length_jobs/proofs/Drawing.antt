-- A subtune that is drawn, or refused.
use Rattle.std.proofs.Common.{◌≡◌, ℕ, ◌-◌, List, refl}
use Rattle.goat_io.specs.Files.{Files}
use Rattle.psid.specs.declared.header.Psid.{Psid}
use Rattle.song_length.specs.declared.measuring.MeasureFault.{MeasureFault}
use Rattle.song_length.specs.declared.measuring.MeasureFault.TheVariants.{NoMemory, Stopped}
use Rattle.song_length.specs.Told.{IsFault}
use Rattle.command_line.specs.Last.{Last}
use Rattle.jobs.specs.Lines.{stop_line}
use Rattle.jobs.specs.Stages.{HoldsPsid, SubtuneReturns}
use Rattle.jobs.specs.Endings as ends
use Rattle.jobs.specs.Endings.{Refuses}
use Rattle.length_jobs.specs.Refusals.{refusal_says}

pub not_drawn : (psid : Psid) (subtune calls : ℕ) (fault : MeasureFault) (last : Last) →
    IsFault psid (subtune - 1) calls fault → last ≡ refusal_says fault → (files : Files) (name : List ℕ) →
    HoldsPsid files name psid → Refuses files (SubtuneReturns name subtune calls) last
not_drawn psid subtune calls NoMemory last is says files name holds = ends.wanting says
not_drawn psid subtune calls (Stopped call reason) last is says files name holds =
    ends.ends (stop_line reason call) (psid, call, reason, holds, is, refl) says
