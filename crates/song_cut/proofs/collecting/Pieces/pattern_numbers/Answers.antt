use Rattle.std.proofs.Common.{List, refl, sym, ◌∙◌, subst, arith}
use Rattle.std.specs.Result.{IfOk}
use Rattle.song_model.specs.declared.rows.Row.{Row}
use Rattle.song_model.specs.PatternLimits.{IsPattern}
use Rattle.song_cut.specs.Numbers.{AreNumbersOf}
use Rattle.song_cut.proofs.NamedPatterns.{named_stored}
use Rattle.song_cut.proofs.PieceTables.{pieces_are}
use Rattle.song_cut.proofs.collecting.Pieces.pattern_numbers.Goals as goal

pub unreachable-requires : goal.unreachable-requires
unreachable-requires c =
    let past = c.in_default.ensures.none.0 refl in
    let stored = named_stored c.args.song.now c.requires.playable c.args.p c.requires.pattern
    (sym (c.requires.marks.named.each c.args.p (omega arith)) ∙ rw c.from.ensures at c.if-not-marks-from.false) in
    omega arith

pub returns-clause-numbers : goal.returns-clause-numbers
returns-clause-numbers c = λ named.
    subst (λ (rows : List (List Row)). IfOk c.numbers_of.result (AreNumbersOf c.numbers_of.new.self.list.items rows))
    (pieces_are c.args.song.now c.args.size c.kept_size-kept.result c.args.p c.args.marks.now.repeated
    c.as_slice.result.now
    (c.requires.marks.repeated.each c.args.p (omega arith)) c.kept_size-kept.ensures
    (c.as_slice.ensures.rows ∙ c.in-Some.ensures.some)
    (subst IsPattern (sym c.as_slice.ensures.rows) c.as_slice.ensures.limits))
    c.numbers_of.ensures.numbers
