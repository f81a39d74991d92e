-- The bytes of a field more.
use Rattle.song_lists.specs.DataLists.{instrument_bytes}
use Rattle.song_lists.proofs.ByteSteps.{more_field_bytes}
use Rattle.song_lists.proofs.bytes.push_instrument_lists.Goals as goal

pub loop-field-preserved : goal.loop-field-preserved
loop-field-preserved c =
    more_field_bytes (instrument_bytes c.args.packed.now) c.args.bytes.now c.loop-field.bytes
    c.push_read_field.new.bytes c.loop-field.field c.loop-field.invariant c.in_ok-push_read_field.ensures
