use Rattle.std.proofs.Common.{subst}
use Rattle.play_model.specs.declared.options.Options.{Options}
use Rattle.song_pack.specs.Answers.{IsCause}
use Rattle.song_pack.specs.Numbers.{sets_of}
use Rattle.song_pack.proofs.Laws.{used_sets}
use Rattle.cut_pack.specs.Answers.{Packs}
use Rattle.jobs.proofs.Chosen.{packs_song}
use Rattle.jobs.proofs.Measured.{short_is_not_long}
use Rattle.play_model.specs.State.{no_options}
use Rattle.jobs.proofs.packed_songs.short_song.Goals as goal

pub unreachable-requires-in-Err-PatternTooLong : goal.unreachable-requires-in-Err-PatternTooLong
unreachable-requires-in-Err-PatternTooLong c =
    let parts = c.in-Ok.parts in
    let used = used_sets c.args.song.now parts c.in-Ok.ensures.parts in
    let cause = subst (IsCause c.args.song.now (sets_of parts)) c.in-Err-PatternTooLong.field-0-is
    (c.in-Err-PatternTooLong.ensures.fault (sets_of parts) used) in
    short_is_not_long c.args.song.now (sets_of parts) c.in-Err-PatternTooLong.field-0-0 c.in-Err-PatternTooLong.field-0-1
    c.requires.short cause

pub returns-in-Ok-pack_shorter : goal.returns-in-Ok-pack_shorter
returns-in-Ok-pack_shorter c =
    packs_song no_options c.args.song.now c.in-Ok-pack_shorter.packed c.requires.limits c.requires.playable
    (subst (λ (o : Options). Packs o c.in-Ok-pack_shorter.packed c.args.song.now) c.default.ensures
    c.in-Ok-pack_shorter.ensures.packs)
