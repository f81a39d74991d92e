use Rattle.std.proofs.Common.{◌≡◌, ℕ, List, set, get_or, ap, ◌∙◌}
use Rattle.song_model.specs.declared.rows.Row.{Row}
use Rattle.edit_ops.specs.declared.inverses.Inverse.TheVariants.{OnePattern}
use Rattle.edit_ops.specs.Back.{back}
use Rattle.edit_ops.proofs.BackLaws.{pattern_back}
use Rattle.edit_ops.proofs.patterns.exchange_pattern.Goals as goal

pub returns : goal.returns
returns c =
    let song = c.args.song.now in
    let was = c.exchange.result in
    let new : c.exchange.new.self ≡ set song.patterns c.args.pattern c.args.rows =
    c.exchange.ensures.after
    ∙ ap (λ (i : ℕ). set song.patterns i c.args.rows) c.from.ensures in
    let is : was ≡ get_or song.patterns c.args.pattern was =
    c.exchange.ensures.before ∙ ap (λ (i : ℕ). get_or song.patterns i was) c.from.ensures in
    record {
      after = ap (λ (ps : List (List Row)). record song { patterns = ps }) new;
      back = ap (λ (ps : List (List Row)). back (record song { patterns = ps }) (OnePattern c.args.pattern was)) new
          ∙ pattern_back song c.args.pattern c.args.rows was c.requires is;
    }
