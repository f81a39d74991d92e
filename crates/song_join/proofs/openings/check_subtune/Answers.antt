use Rattle.std.proofs.Common.{lit≤}
use Rattle.song_join.proofs.Channels.{channel_of}
use Rattle.song_join.proofs.openings.check_subtune.Goals as goal

pub check_channel-requires-clause-channel : goal.check_channel-requires-clause-channel
check_channel-requires-clause-channel c =
    channel_of c.args.song.now c.args.number 1 c.args.subtune.now c.requires.playable c.requires.subtune
    (record { first = lit≤ tt; last = lit≤ tt })

pub check_channel-requires-2-clause-channel : goal.check_channel-requires-2-clause-channel
check_channel-requires-2-clause-channel c =
    channel_of c.args.song.now c.args.number 2 c.args.subtune.now c.requires.playable c.requires.subtune
    (record { first = lit≤ tt; last = lit≤ tt })

pub check_channel-requires-3-clause-channel : goal.check_channel-requires-3-clause-channel
check_channel-requires-3-clause-channel c =
    channel_of c.args.song.now c.args.number 3 c.args.subtune.now c.requires.playable c.requires.subtune
    (record { first = lit≤ tt; last = lit≤ tt })
