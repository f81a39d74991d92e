use Rattle.jobs.proofs.Laws.{headline, outcome_comes, due_comes, usage_comes, packed_plays, listing_goes_back}
use Rattle.jobs.proofs.Laws.{script_makes_song, joined_plays, lengths_hold, repeating_runs, fileless_comes, counts}
use Rattle.jobs.proofs.Laws.{sink_counts, files_stay}
use Rattle.goat_cli.proofs.top.goat.Goals as goal

pub returns-clause-headline : goal.returns-clause-headline
returns-clause-headline g c = headline c.answer.ensures

pub returns-clause-outcome : goal.returns-clause-outcome
returns-clause-outcome g c = outcome_comes c.answer.ensures

pub returns-clause-due : goal.returns-clause-due
returns-clause-due g c = due_comes c.answer.ensures

pub returns-clause-usage : goal.returns-clause-usage
returns-clause-usage g c = usage_comes c.answer.ensures

pub returns-clause-packed : goal.returns-clause-packed
returns-clause-packed g c = packed_plays c.answer.ensures

pub returns-clause-listed : goal.returns-clause-listed
returns-clause-listed g c = listing_goes_back c.answer.ensures

pub returns-clause-shown : goal.returns-clause-shown
returns-clause-shown g c = script_makes_song c.answer.ensures

pub returns-clause-joined : goal.returns-clause-joined
returns-clause-joined g c = joined_plays c.answer.ensures

pub returns-clause-measured : goal.returns-clause-measured
returns-clause-measured g c = lengths_hold c.answer.ensures

pub returns-clause-returning : goal.returns-clause-returning
returns-clause-returning g c = repeating_runs c.answer.ensures

pub returns-clause-fileless : goal.returns-clause-fileless
returns-clause-fileless g c = fileless_comes c.answer.ensures

pub returns-clause-counted : goal.returns-clause-counted
returns-clause-counted g c = counts c.answer.ensures

pub returns-clause-sink_counted : goal.returns-clause-sink_counted
returns-clause-sink_counted g c = sink_counts c.answer.ensures

pub returns-clause-files_stay : goal.returns-clause-files_stay
returns-clause-files_stay g c = files_stay c.answer.ensures
