use Rattle.command_line.proofs.Digits.{byte_up}
use Rattle.command_line.proofs.line.upper_byte.Goals as goal

pub returns : goal.returns
returns c = byte_up c.args.byte c.encode.new.digits _ c.ranges.byte.fits c.encode.ensures
    c.make_ascii_uppercase.ensures.after
