use Rattle.song_script.specs.Statements.{each_from}
use Rattle.song_script.specs.Parts.{channel_words, entry_said, restart_said}
use Rattle.song_script.proofs.PutLaws.{comment_join}
use Rattle.song_script.proofs.orders.put_order.Goals as goal

pub returns : goal.returns
returns c =
    let n = c.args.subtune in
    let channel = c.args.channel in
    let order = c.args.order.now in
    comment_join _ (channel_words n channel) (each_from 0 (entry_said n channel) order.entries)
    (restart_said n channel order.restart) _ _ _ _ c.in_ok-put_title.ensures c.in_ok-put_entries.ensures
    c.put_restart.ensures
