use Rattle.std.proofs.Common.{zero, suc, refl}
use Rattle.play_model.specs.Frame.{voice_registers, filter_registers, frame_of}
use Rattle.play_model.specs.TraceLaws.{TracesHaveAllRegisters}
use Rattle.play_model.proofs.claims.traces_have_all_registers.Goals as goal

of_each_call : TracesHaveAllRegisters
unfolding voice_registers filter_registers frame_of
of_each_call o song k zero = refl
of_each_call o song k (suc n) = refl

pub returns : goal.returns
returns c = of_each_call
