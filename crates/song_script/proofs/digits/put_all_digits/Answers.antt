use Rattle.song_script.proofs.DigitLaws.{no_digits, digits_more}
use Rattle.song_script.proofs.PutLaws.{put_more}
use Rattle.song_script.proofs.digits.put_all_digits.Goals as goal

pub loop-byte-init : goal.loop-byte-init
loop-byte-init c = no_digits c.args.out.now

pub loop-byte-preserved : goal.loop-byte-preserved
loop-byte-preserved c =
    put_more _ _ _ _ _ _ c.loop-byte.invariant c.in_ok-put_digits.ensures
    (digits_more c.args.bytes.now c.loop-byte.byte-index 0 c.loop-byte-test.true)
