use Rattle.std.proofs.Common.{rules, w8, SFits}
use Rattle.std.proofs.lemmas.Int.{to_z-of_z}
use Rattle.play_model.specs.LookUps.{look_ups_of}
use Rattle.playroutine.proofs.Fetched.{fetched_lem}
use Rattle.playroutine.proofs.fetch.fetch_row.Goals as goal

pub returns : goal.returns
returns c = λ v stands.
    let small : SFits w8 c.step.result.0.transpose = search rules in
    let rule = c.row_done.ensures.rule in
    fetched_lem (look_ups_of c.args.song.now) c.args.order.now v c.args.voice.now c.row_done.new.voice
    c.row_moved.new.voice c.step.result.1 c.step.result.0 c.rows_of-rows.result.now c.row_at-row.result stands
    (c.step.ensures.step v.plays stands.place) c.rows_of-rows.ensures c.row_at-row.ensures
    (simp to_z-of_z at rule) c.row_done.ensures.place (c.step.ensures.place v.plays stands.place)
    (c.row_moved.ensures c.args.order.now)
