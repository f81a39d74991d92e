-- That lines which a frame doesn't use can be left out.
use Rattle.std.proofs.Common.{◌∙◌, sym}
use Rattle.frame_code.proofs.Laws.{frames_play}
use Rattle.idle_parts.specs.LeftOut.{PartsCanBeLeftOut}

pub parts_can_be_left_out : PartsCanBeLeftOut
parts_can_be_left_out one other packed o k x e here there plays mine its =
    let m = frames_play one packed o k x e here plays mine.laid mine.reads mine.holds mine.ready in
    let t = frames_play other packed o k x e there plays its.laid its.reads its.holds its.ready in
    record {
      ends = (m.ends, t.ends);
      state = (m.holds, t.holds);
      registers = λ register few. m.registers register few ∙ sym (t.registers register few);
    }
