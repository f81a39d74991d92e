use Rattle.song_join.specs.Loose.{IsLooseSpeed}
use Rattle.song_join.proofs.NotStored.{speed_loose, no_speed_loose, first_song_loose, second_song_loose}
use Rattle.song_join.proofs.loose.check_speeds.Goals as goal

pub returns-in-Some-clause-found : goal.returns-in-Some-clause-found
returns-in-Some-clause-found c =
    let loose =
    speed_loose c.args.first.now c.args.first_parts.now.speed c.in-Some.row c.requires.first_parts.speed
    (rw c.as_slice-first_stored.ensures.items at c.in-Some.ensures.found) in (
      c.requires.within,
      c.requires.instruments,
      first_song_loose IsLooseSpeed c.args.first.now c.args.second.now c.in-Some.row loose.0 loose.1,
    )

pub returns-in-Some-first_above-clause-found : goal.returns-in-Some-first_above-clause-found
returns-in-Some-first_above-clause-found c =
    let loose =
    speed_loose c.args.second.now c.args.second_parts.now.speed c.in-Some-first_above.row
    c.requires.second_parts.speed
    (rw c.as_slice-second_stored.ensures.items at c.in-Some-first_above.ensures.found) in (
      c.requires.within,
      c.requires.instruments,
      second_song_loose IsLooseSpeed c.args.first.now c.args.second.now c.in-Some-first_above.row loose.0 loose.1
          (no_speed_loose c.args.first.now c.args.first_parts.now.speed c.requires.first_parts.speed
          (rw c.as_slice-first_stored.ensures.items at c.in_default.ensures.none)),
    )

pub returns-clause-none : goal.returns-clause-none
returns-clause-none c = record {
  first_song =
      no_speed_loose c.args.first.now c.args.first_parts.now.speed c.requires.first_parts.speed
      (rw c.as_slice-first_stored.ensures.items at c.in_default.ensures.none);
  second_song =
      no_speed_loose c.args.second.now c.args.second_parts.now.speed c.requires.second_parts.speed
      (rw c.as_slice-second_stored.ensures.items at c.in_default-first_above.ensures.none);
}
