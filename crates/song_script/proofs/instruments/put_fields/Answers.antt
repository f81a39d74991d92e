use Rattle.std.proofs.Common.{arith}
use Rattle.song_script.specs.Parts.{field_said}
use Rattle.song_script.proofs.PutLaws.{each_more}
use Rattle.song_script.proofs.instruments.put_fields.Goals as goal

pub loop-field-preserved : goal.loop-field-preserved
loop-field-preserved c =
    each_more 0 (field_said c.args.number) c.args.values.now c.loop-field.field c.loop-field.field _ _ _ _
    c.loop-field-test.true c.loop-field.invariant c.in_ok-put_field.ensures
    (omega arith)
