use Rattle.std.proofs.Common.{refl, subst}
use Rattle.song_pack.specs.Answers.{IsCause}
use Rattle.song_pack.specs.Numbers.{sets_of}
use Rattle.song_pack.proofs.Laws.{used_sets}
use Rattle.jobs.specs.Lines.{too_large_line}
use Rattle.jobs.specs.Endings as ends
use Rattle.jobs.proofs.Chosen.{packs_song}
use Rattle.jobs.proofs.packed_songs.packed_song.Goals as goal

pub returns-in-Ok-clause-packs : goal.returns-in-Ok-clause-packs
returns-in-Ok-clause-packs c =
    packs_song c.args.options.now c.args.song.now c.in-Ok.packed c.requires.limits c.requires.playable c.in-Ok.ensures.packs

pub returns-in-Ok-clause-short : goal.returns-in-Ok-clause-short
returns-in-Ok-clause-short c = λ files name holds.
    let used = used_sets c.args.song.now c.args.parts.now c.requires.parts in (
      c.args.song.now,
      sets_of c.args.parts.now,
      holds,
      used,
      c.in-Ok.ensures.short (sets_of c.args.parts.now) used,
    )

pub returns-in-Err-PatternTooLong-clause-refused : goal.returns-in-Err-PatternTooLong-clause-refused
returns-in-Err-PatternTooLong-clause-refused c = λ files name holds.
    let used = used_sets c.args.song.now c.args.parts.now c.requires.parts in
    let pattern = c.in-Err-PatternTooLong.pattern in
    let length = c.in-Err-PatternTooLong.length in
    ends.ends (too_large_line pattern length) (
      c.args.song.now,
      sets_of c.args.parts.now,
      pattern,
      length,
      holds,
      used,
      subst (IsCause c.args.song.now (sets_of c.args.parts.now)) c.in-Err-PatternTooLong.field-0-is
          (c.in-Err-PatternTooLong.ensures.fault (sets_of c.args.parts.now) used),
      refl,
    )
    c.too_large_pattern.ensures
