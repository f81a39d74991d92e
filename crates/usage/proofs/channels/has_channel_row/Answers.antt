use Rattle.std.proofs.Common.{◌↔◌, IsTrue, Any, rules}
use Rattle.usage.specs.Channels.{PlaysMarked}
use Rattle.usage.proofs.FeatureMarks.{iff_then}
use Rattle.usage.proofs.HeardChannels.{channel_rows}
use Rattle.usage.proofs.channels.has_channel_row.Goals as goal

pub returns : goal.returns
returns c =
    let any : IsTrue c.any.result ↔ Any (PlaysMarked c.args.heard.now c.args.channel) c.args.song.now.subtunes =
    search rules in
    iff_then any (channel_rows c.args.song.now c.args.channel c.args.heard.now c.requires)
