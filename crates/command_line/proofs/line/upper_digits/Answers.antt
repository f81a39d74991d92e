use Rattle.command_line.proofs.Digits.{address_up}
use Rattle.command_line.proofs.line.upper_digits.Goals as goal

pub returns : goal.returns
returns c = address_up c.args.address c.to_le_bytes.result c.encode.new.digits _ c.ranges.address.fits
    c.to_le_bytes.ensures c.encode.ensures c.make_ascii_uppercase.ensures.after
