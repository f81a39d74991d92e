use Rattle.std.proofs.Common.{arith}
use Rattle.usage.specs.Waves.{RowCommands}
use Rattle.usage.proofs.AddedMarks.{below_at_more}
use Rattle.usage.proofs.TableRows.{waves_of}
use Rattle.usage.proofs.waves.wave_commands.Goals as goal

pub loop-p-preserved : goal.loop-p-preserved
loop-p-preserved c = below_at_more (RowCommands c.args.song.now) c.loop-p.p c.loop-p.invariant c.mark_wave_row.ensures

pub returns : goal.returns
returns c = waves_of c.args.song.now c.loop-p.p (omega arith) c.loop-p.invariant
