use Rattle.std.proofs.Common.{◌≡◌, ◌-◌, ℕ, List, set, get_or, ap, ◌∙◌}
use Rattle.song_model.specs.declared.instruments.Instrument.{Instrument}
use Rattle.edit_ops.specs.declared.inverses.Inverse.TheVariants.{OneInstrument}
use Rattle.edit_ops.specs.Back.{back}
use Rattle.edit_ops.proofs.BackLaws.{instrument_back}
use Rattle.edit_ops.proofs.instruments.exchange_instrument.Goals as goal

pub returns-clause-back : goal.returns-clause-back
returns-clause-back c =
    let song = c.args.song.now in
    let was = c.exchange.result in
    let new : c.exchange.new.self ≡ set song.instruments (c.args.number - 1) c.args.instrument =
    c.exchange.ensures.after
    ∙ ap (λ (i : ℕ). set song.instruments (i - 1) c.args.instrument) c.from.ensures in
    let is : was ≡ get_or song.instruments (c.args.number - 1) was =
    c.exchange.ensures.before ∙ ap (λ (i : ℕ). get_or song.instruments (i - 1) was) c.from.ensures in
    ap (λ (is : List Instrument). back (record song { instruments = is }) (OneInstrument c.args.number was)) new
    ∙ instrument_back song c.args.number c.args.instrument was c.requires is
