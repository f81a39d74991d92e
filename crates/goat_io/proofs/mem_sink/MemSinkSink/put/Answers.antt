use Rattle.std.proofs.Common.{◌≡◌, ◌/◌, ◌++◌, Some, ap, take, length, arith}
use Rattle.std.proofs.lemmas.Grind.{common_steps}
use Rattle.goat_io.proofs.mem_sink.MemSinkSink.put.Goals as goal

-- a put that fails has taken the first half
pub returns-then-fails-2-clause-failed : goal.returns-then-fails-2-clause-failed
returns-then-fails-2-clause-failed c = λ _.
    let half = length c.args.bytes.now / 2 in
    let taken : c.extend_from_slice-appended.new.self.items ≡ c.args.self.now.bytes ++ take half c.args.bytes.now =
    grind (arith, common_steps) in
    (half, ap Some taken)
