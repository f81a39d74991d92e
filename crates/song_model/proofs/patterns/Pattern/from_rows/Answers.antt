use Rattle.std.proofs.Common.{◌≡◌, rules}
use Rattle.song_model.specs.Silence.{rest_row}
use Rattle.song_model.specs.PatternLimits.{IsRow}
use Rattle.base.proofs.Laws.{none_bad, same_first_bad}
use Rattle.song_model.proofs.patterns.Pattern.from_rows.Goals as goal

pub returns-in-Some-clause-bad_item : goal.returns-in-Some-clause-bad_item
returns-in-Some-clause-bad_item c = λ place. (
  λ e. let same : c.in-Some.place ≡ place = (cc) in (search rules, rw (← same) c.in-Some.ensures.found),
  λ h. let same : c.in-Some.place
      ≡ place = same_first_bad IsRow c.args.rows.now rest_row _ _ c.in-Some.ensures.found h.1 in rw same,
)

pub returns-in-Ok-clause-bad_item : goal.returns-in-Ok-clause-bad_item
returns-in-Ok-clause-bad_item c = λ place.
    (λ e. cc, λ h. absurd (none_bad IsRow c.args.rows.now rest_row place c.in_default.ensures.none h.1))

pub returns-in-Err-clause-bad_item : goal.returns-in-Err-clause-bad_item
returns-in-Err-clause-bad_item c = λ place.
    (λ e. cc, λ h. absurd (none_bad IsRow c.args.rows.now rest_row place c.in_default.ensures.none h.1))
