use Rattle.std.proofs.Common.{subst}
use Rattle.song_pack.specs.Answers.{IsCause}
use Rattle.cut_pack.proofs.Packed.{packed_of, long_is_not_short}
use Rattle.cut_pack.proofs.packing.packed_cut.Goals as goal

pub returns-in-Ok-pack_song : goal.returns-in-Ok-pack_song
returns-in-Ok-pack_song c =
    let limits = c.requires.limits in
    let packs = c.in-Ok-pack_song.ensures in (
      packed_of c.args.cut.now c.in-Ok.parts c.in-Ok-pack_song.packed c.in-Ok.ensures.parts (packs.stands limits)
          (λ used is. packs.exact used is limits) (λ used is. packs.size used is limits),
      λ used is. packs.short used is limits,
    )

pub returns-in-Err-PatternTooLong : goal.returns-in-Err-PatternTooLong
returns-in-Err-PatternTooLong c = λ used is.
    let fault = c.in-Err-PatternTooLong in
    long_is_not_short c.args.cut.now used fault.field-0-0 fault.field-0-1
    (subst (IsCause c.args.cut.now used) fault.field-0-is (fault.ensures.fault used is c.requires.limits))
