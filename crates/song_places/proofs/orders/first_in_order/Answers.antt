use Rattle.std.proofs.Common.{[], ◌∷◌}
use Rattle.song_places.specs.Search.{meant}
use Rattle.song_places.proofs.Search.{none_more}
use Rattle.song_places.proofs.OrderPlaces.{byte_found, byte_passed, bytes_end}
use Rattle.song_places.proofs.orders.first_in_order.Goals as goal

pub returns-then-is_byte-clause-found : goal.returns-then-is_byte-clause-found
returns-then-is_byte-clause-found c =
    byte_found c.args.song.now (meant c.args.song.now c.args.wanted) c.args.subtune c.args.channel c.loop-i.i
    c.args.order.now c.as_slice-entries.result.now c.requires.has c.as_slice-entries.ensures.bytes c.loop-i-test.true
    ((c.is_byte.ensures c.args.song.now c.args.subtune c.requires.known).0 c.if-is_byte.true) c.loop-i.invariant

pub loop-i-preserved : goal.loop-i-preserved
loop-i-preserved c =
    none_more c.args.song.now (meant c.args.song.now c.args.wanted) (1 ∷ c.args.subtune ∷ c.args.channel ∷ [])
    c.loop-i.i c.loop-i.invariant
    (byte_passed c.args.song.now (meant c.args.song.now c.args.wanted) c.args.subtune c.args.channel c.loop-i.i
    c.args.order.now c.as_slice-entries.result.now c.requires.has c.as_slice-entries.ensures.bytes
    (λ needs. absurd (let e = (c.is_byte.ensures c.args.song.now c.args.subtune c.requires.known).1 needs in
    let f = c.if-is_byte.false in cc)))

pub returns-clause-none : goal.returns-clause-none
returns-clause-none c =
    bytes_end c.args.song.now (meant c.args.song.now c.args.wanted) c.args.subtune c.args.channel c.loop-i.i
    c.args.order.now c.as_slice-entries.result.now c.requires.has c.as_slice-entries.ensures.bytes c.loop-i-test.false
    c.loop-i.invariant
