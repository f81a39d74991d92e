use Rattle.std.proofs.Common.{◌≡◌, ◌≤◌, ◌+◌, ℕ, Bool, Option, get_or, sym, ◌∙◌, subst, arith}
use Rattle.song_facts.specs.declared.facts.Fact.TheVariants.{RowTone}
use Rattle.song_model.specs.declared.songs.Song.{Song}
use Rattle.play_model.specs.State.{no_options}
use Rattle.kept_lines.specs.KeptLines.{keeps}
use Rattle.song_places.specs.declared.places.Place.{Place}
use Rattle.song_places.specs.declared.part_places.TheConstants.{FACTS}
use Rattle.song_places.specs.Places.{NeedsFactAt}
use Rattle.song_places.specs.PartPlaces.{NeedsFactFor}
use Rattle.song_places.proofs.FactPlaces.{has_fact}
use Rattle.song_places.proofs.OnePlace.{own_first, own_none}
use Rattle.song_places.proofs.PartFacts.{number_there}
use Rattle.song_places.proofs.PartSteps.{IsFoundBelow, none_yet, passed, added, all_first, all_none}
use Rattle.song_places.proofs.PartSteps.{facts_for, to_fact, of_fact}
use Rattle.song_places.proofs.part_places.fact_place.Goals as goal
use Rattle.song_places.proofs.part_places.fact_place.Goals.{then-keeps_part, else-keeps_part}

pub loop-fact-init : goal.loop-fact-init
loop-fact-init c = none_yet (facts_for c.args.song.now c.args.part)

pub loop-fact-preserved : goal.loop-fact-preserved
loop-fact-preserved c =
    let song = c.args.song.now in
    let part = c.args.part in
    let n = c.loop-fact.fact-index in
    let fact = get_or FACTS n RowTone in
    let number = number_there n RowTone c.loop-fact-test.true in
    let next = IsFoundBelow (facts_for song part) (n + 1) in
    let kept = λ (z : Bool) (e : z ≡ keeps c.fact_alone.result.0 no_options part).
    subst (λ (set : ℕ). z ≡ keeps set no_options part) c.fact_alone.ensures e in
    elim c.if-keeps_part.branch [
      | then-keeps_part w ↦
          (let own = w.first_fact_place.result in
          subst next (sym w.first-is)
          (added (facts_for song part) n fact c.loop-fact.first own w.earlier-first.result number
          (sym (kept _ c.keeps_part.ensures) ∙ w.if-keeps_part.true) c.loop-fact.invariant
          (own_first (NeedsFactAt song fact) own w.first_fact_place.ensures.first)
          (own_none (NeedsFactAt song fact) own w.first_fact_place.ensures.had (has_fact song fact))
          w.earlier-first.ensures.first w.earlier-first.ensures.none))
      | else-keeps_part w ↦
          subst next (sym w.first-is)
          (passed (facts_for song part) n fact c.loop-fact.first number
          (sym (kept _ c.keeps_part.ensures) ∙ w.if-keeps_part.false) c.loop-fact.invariant)
    ]

-- all have been looked at
all : (song : Song) (part n : ℕ) (found : Option Place) → 22 ≤ n → n ≤ 22 →
    IsFoundBelow (facts_for song part) n found → IsFoundBelow (facts_for song part) 22 found
all song part n found high low so_far =
    (let is : n ≡ 22 = omega (arith, high, low) in
    subst (λ (m : ℕ). IsFoundBelow (facts_for song part) m found) is so_far)

pub returns-clause-first : goal.returns-clause-first
returns-clause-first c =
    let song = c.args.song.now in
    let part = c.args.part in
    let n = c.loop-fact.fact-index in
    let found = c.loop-fact.first in
    all_first (facts_for song part) 22 (NeedsFactFor song part) found (to_fact song part) (of_fact song part)
    (all song part n found c.loop-fact-test.false c.loop-fact.auto.fact-index-end c.loop-fact.invariant)

pub returns-clause-none : goal.returns-clause-none
returns-clause-none c =
    let song = c.args.song.now in
    let part = c.args.part in
    let n = c.loop-fact.fact-index in
    let found = c.loop-fact.first in
    all_none (facts_for song part) 22 (NeedsFactFor song part) found (of_fact song part)
    (all song part n found c.loop-fact-test.false c.loop-fact.auto.fact-index-end c.loop-fact.invariant)
