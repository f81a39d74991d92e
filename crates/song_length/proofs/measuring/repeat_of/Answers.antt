use Rattle.std.proofs.Common.{Some, None}
use Rattle.song_length.proofs.Placing.{started_repeat, behind_repeat, started_found}
use Rattle.song_length.proofs.measuring.repeat_of.Goals as goal

pub advance-requires-clause-repeats : goal.advance-requires-clause-repeats
advance-requires-clause-repeats c =
    started_repeat c.args.psid.now c.args.song c.args.plays c.requires.comes.0 c.requires.comes.1 c.in_ok-later.later
    c.in_ok-later.ensures.started

pub first_place-requires-clause-repeats : goal.first_place-requires-clause-repeats
first_place-requires-clause-repeats c =
    started_repeat c.args.psid.now c.args.song c.args.plays c.requires.comes.0 c.requires.comes.1 c.in_ok-one.one
    c.in_ok-one.ensures.started

pub first_place-requires-clause-later : goal.first_place-requires-clause-later
first_place-requires-clause-later c =
    behind_repeat c.args.psid.now c.args.song c.args.plays c.requires.comes.0 c.requires.comes.1 c.in_ok-one.one
    c.in_ok-one.ensures.started c.in_ok-later.later c.in_ok-later.ensures.started c.advance.new.runner.machine
    c.advance.ensures.led

pub returns-in-Some-clause-found : goal.returns-in-Some-clause-found
returns-in-Some-clause-found c =
    started_found c.args.psid.now c.args.song c.args.plays c.requires.comes.0 c.requires.comes.1 c.in_ok-one.one
    c.in_ok-one.ensures.started c.in_ok-later.later c.in_ok-later.ensures.started c.advance.new.runner.machine
    c.advance.ensures.led c.args.calls (Some c.in-Some.from) c.if-calls-plays.false c.in-Some.ensures

pub returns-clause-found : goal.returns-clause-found
returns-clause-found c =
    started_found c.args.psid.now c.args.song c.args.plays c.requires.comes.0 c.requires.comes.1 c.in_ok-one.one
    c.in_ok-one.ensures.started c.in_ok-later.later c.in_ok-later.ensures.started c.advance.new.runner.machine
    c.advance.ensures.led c.args.calls None c.if-calls-plays.false c.in-None.ensures
