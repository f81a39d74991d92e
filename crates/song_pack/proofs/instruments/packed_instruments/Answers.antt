use Rattle.std.proofs.Common.{ℕ, map, length, take, ◌∙◌, ap, arith}
use Rattle.std.proofs.lemmas.List.{length-map, take_all}
use Rattle.song_model.specs.LookUp.{instrument_at}
use Rattle.packed_form.specs.declared.packed_songs.PackedInstrument.{PackedInstrument}
use Rattle.song_pack.specs.Numbers.{row_of}
use Rattle.song_pack.specs.Packed.{packed_instrument}
use Rattle.song_pack.proofs.FilledLists.{map_push}
use Rattle.song_pack.proofs.instruments.packed_instruments.Goals as goal

pub loop-n-init : goal.loop-n-init
loop-n-init c = c.new-list.ensures.items

pub loop-n-preserved : goal.loop-n-preserved
loop-n-preserved c =
    let made : ℕ → PackedInstrument =
    λ n. packed_instrument (row_of c.args.numbers.now) (instrument_at c.args.song.now n) in
    c.in_ok-push.ensures.items
    ∙ map_push made c.args.order.now c.loop-n.n-index 0 c.loop-n.list.items c.packed_instrument.result
    c.loop-n-test.true c.loop-n.invariant
    (c.packed_instrument.ensures ∙ ap (packed_instrument (row_of c.args.numbers.now)) c.instrument.ensures)

pub from_vec-requires : goal.from_vec-requires
from_vec-requires c =
    let made : ℕ → PackedInstrument =
    λ n. packed_instrument (row_of c.args.numbers.now) (instrument_at c.args.song.now n) in
    let low = c.loop-n-test.false in
    let all = ap length (take_all c.loop-n.n-index c.args.order.now low) in
    let count = ap length c.loop-n.invariant in
    let same = length-map (take c.loop-n.n-index c.args.order.now) made in
    let few = c.requires in
    (omega arith, omega arith)

pub returns : goal.returns
returns c =
    let made : ℕ → PackedInstrument =
    λ n. packed_instrument (row_of c.args.numbers.now) (instrument_at c.args.song.now n) in
    let low = c.loop-n-test.false in
    c.from_vec.ensures ∙ c.loop-n.invariant ∙ ap (map made) (take_all c.loop-n.n-index c.args.order.now low)
