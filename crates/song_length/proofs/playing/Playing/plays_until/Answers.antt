use Rattle.std.proofs.Common.{◌∙◌, arith}
use Rattle.std.proofs.lemmas.Bool.{false≢true}
use Rattle.song_length.proofs.OnePlay.{goes_more, out_more}
use Rattle.song_length.proofs.playing.Playing.plays_until.Goals as goal

pub loop-plays-preserved : goal.loop-plays-preserved
loop-plays-preserved c =
    let i = c.loop-plays.invariant in
    let e = c.in_ok-play.ensures in
    let goes = goes_more c.args.self.now c.loop-plays.self c.play.new.self c.loop-plays.plays i.goes e.on e.calls
    c.play.ensures.limit c.play.ensures.address e.running in
    record {
      few = (let less = c.loop-plays-test.true in omega (arith, less));
      goes = goes;
      out = out_more c.args.self.now c.play.new.self c.args.state.now c.loop-plays.plays i.out goes
          (λ same. false≢true (c.if-is_same.ensures.1 (c.machine.ensures ∙ same)));
    }
