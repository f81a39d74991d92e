use Rattle.std.proofs.Common.{arith}
use Rattle.usage.specs.Pointers.{IsParameterAt}
use Rattle.usage.proofs.AddedMarks.{below_more}
use Rattle.usage.proofs.TablePointers.{all_parameters}
use Rattle.usage.proofs.pointers.mark_parameters.Goals as goal

pub loop-parameter-preserved : goal.loop-parameter-preserved
loop-parameter-preserved c = below_more (IsParameterAt c.args.parameters.now) c.loop-parameter.parameter
    c.loop-parameter.invariant c.mark_parameter.ensures

pub returns : goal.returns
returns c = all_parameters c.args.parameters.now c.loop-parameter.parameter (omega arith) c.loop-parameter.invariant
