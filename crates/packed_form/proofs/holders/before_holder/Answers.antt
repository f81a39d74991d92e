use Rattle.std.proofs.Common.{[], sym, ◌∙◌, arith}
use Rattle.std.specs.Prelude.{nat_le}
use Rattle.std.proofs.lemmas.List.Sums.{position_or_len_is}
use Rattle.packed_form.specs.declared.packed_songs.PackedInstrument.{PackedInstrument}
use Rattle.packed_form.specs.Holders.{held}
use Rattle.packed_form.proofs.holders.before_holder.Goals as goal

abbrev none : PackedInstrument
none = record { bytes = [] }

pub returns-then-holds-clause-before : goal.returns-then-holds-clause-before
returns-then-holds-clause-before c =
    let inside = c.loop-instrument-test.true in
    let here = c.loop-instrument.instrument-index in
    c.loop-instrument.invariant.count
    ∙ sym (position_or_len_is (λ i. nat_le c.args.least (held i)) c.args.instruments.now here none (omega arith)
    (λ k before. c.loop-instrument.invariant.less k none before)
    (λ low. sym c.holds.ensures ∙ c.if-holds.true))

pub returns-clause-before : goal.returns-clause-before
returns-clause-before c =
    let end = c.loop-instrument-test.false in
    let most = c.loop-instrument.auto.instrument-index-end in
    let here = c.loop-instrument.instrument-index in
    c.loop-instrument.invariant.count
    ∙ sym (position_or_len_is (λ i. nat_le c.args.least (held i)) c.args.instruments.now here none (omega arith)
    (λ k before. c.loop-instrument.invariant.less k none before)
    (λ low. absurd (omega arith)))
