-- The first place at which the state of a song comes again.
use Rattle.std.proofs.Common.{◌≡◌, ℕ, ◌+◌, ◌-◌, ◌<◌, ◌≤◌, Option, Some, None, Ok, refl, sym, ap, ◌∙◌, subst, arith}
use Rattle.cpu6502.specs.declared.machine.Machine.{Machine}
use Rattle.cpu6502.specs.Call.{run, entered}
use Rattle.cpu6502.proofs.Laws.{called_once}
use Rattle.psid.specs.declared.header.Psid.{Psid}
use Rattle.sid_run.specs.State.{RunnerState, loaded}
use Rattle.song_length.specs.Plays.{Lead}
use Rattle.song_length.specs.Repeats.{Repeats}
use Rattle.song_length.specs.declared.measuring.Repeat.{Repeat}
use Rattle.song_length.specs.Measured.{IsFirstRepeat}
use Rattle.song_length.specs.Coming.{HasRepeat, MeetAt, IsFirstMeeting, IsFoundIn, IsStarted, ComesFrom}
use Rattle.song_length.specs.Told.{Begins}
use Rattle.song_length.proofs.Repeating.{plus_by, rest_by}
use Rattle.song_length.proofs.Least.{first_repeat}
use Rattle.song_length.proofs.PlayingOn.{repeat_on}

-- what is told of a place
abbrev pub repeat_at : ℕ → Option ℕ → Option Repeat
repeat_at length (Some from) = Some (record { from = from; length = length })
repeat_at length None = None

-- init leads to one machine
pub begins_once : (psid : Psid) (song c d : ℕ) (first other : Machine) → Begins psid song c first →
    Begins psid song d other → first ≡ other
begins_once psid song c d first other p q =
    let same = called_once (loaded psid).machine (loaded psid).init song p.steps q.steps first other p.takes.called q.takes.called in
    let both : Ok first ≡ Ok other =
    sym p.takes.called.runs ∙ ap (λ n. run n (entered (loaded psid).machine (loaded psid).init song)) same ∙ q.takes.called.runs in
    cc (both)

module _ (psid : Psid) (song length place : ℕ) (comes : ComesFrom psid song place length) (cycles : ℕ) (one : Machine)
    (begins : Begins psid song cycles one) where
  abbrev p : ℕ
  p = (loaded psid).play

  is_first : comes.first ≡ one
  is_first = begins_once psid song comes.cycles cycles comes.first one comes.begins begins

  repeats : Repeats p one place length
  repeats = subst (λ m. Repeats p m place length) is_first comes.repeats

  pub has_repeat : HasRepeat p one
  has_repeat = record { from = place; length = length; repeats = repeats }

  module _ (later : Machine) (led : Lead p length one later) where
    pub later_has : HasRepeat p later
    later_has = repeat_on p one later length has_repeat led

    -- where the state comes again both meet
    meeting : (place : ℕ) → Repeats p one place length → MeetAt p one later place
    meeting place is = record {
      machine = is.machine;
      of_one = is.here;
      of_other = rest_by p length place (place + length) one later is.machine refl led is.again;
    }

    -- and where they meet first the state comes again first
    pub first_of : (from : ℕ) → MeetAt p one later from → ((place : ℕ) → place < from → MeetAt p one later place → ⊥) →
        IsFirstRepeat p one from length
    first_of from meet none =
        first_repeat p one from length place repeats
        (λ k machine some few here.
        subst (λ m. Lead p (place + k) m machine → ⊥) is_first
        (comes.fewest k machine some few (subst (λ m. Lead p place m machine) (sym is_first) here)))
        (record {
          some = repeats.some;
          machine = meet.machine;
          here = meet.of_one;
          again = plus_by p length from (from + length) one later meet.machine refl led meet.of_other;
        })
        (λ i machine less here again.
        none i less
        (record {
          machine = machine;
          of_one = here;
          of_other = rest_by p length i (i + length) one later machine refl led again;
        }))

    -- what is found of where both meet
    pub found_of : (calls : ℕ) (found : Option ℕ) → length ≤ calls → IsFirstMeeting p one later (calls - length) found →
        IsFoundIn p one length calls (repeat_at length found)
    found_of calls (Some from) enough is = (let few = is.0 in omega (arith, few, enough), first_of from is.1 is.2)
    found_of calls None enough none = λ from within repeats_there.
        none from (omega (arith, within, enough)) (meeting from repeats_there)

-- ---- runners behind init

module _ (psid : Psid) (song length place : ℕ) (comes : ComesFrom psid song place length) (one : RunnerState)
    (is_started : IsStarted psid song one) where
  pub started_repeat : HasRepeat one.play one.machine
  started_repeat =
      subst (λ p. HasRepeat p one.machine) (sym is_started.address)
      (has_repeat psid song length place comes one.cycles one.machine is_started.begins)

  -- and another that has played so often
  module _ (later : RunnerState) (also : IsStarted psid song later) (behind : Machine)
      (led : Lead later.play length later.machine behind) where
    led_here : Lead (loaded psid).play length one.machine behind
    led_here =
        subst (λ m. Lead (loaded psid).play length m behind)
        (begins_once psid song later.cycles one.cycles later.machine one.machine also.begins is_started.begins)
        (subst (λ p. Lead p length later.machine behind) also.address led)

    pub behind_repeat : HasRepeat one.play behind
    behind_repeat =
        subst (λ p. HasRepeat p behind) (sym is_started.address)
        (later_has psid song length place comes one.cycles one.machine is_started.begins behind led_here)

    -- what is found of where both meet is where the state comes again
    pub started_found : (calls : ℕ) (found : Option ℕ) → length ≤ calls →
        IsFirstMeeting one.play one.machine behind (calls - length) found → (cycles : ℕ) (first : Machine) →
        Begins psid song cycles first → IsFoundIn (loaded psid).play first length calls (repeat_at length found)
    started_found calls found enough is cycles first begins =
        subst (λ m. IsFoundIn (loaded psid).play m length calls (repeat_at length found))
        (begins_once psid song one.cycles cycles one.machine first also_begins begins)
        (found_of psid song length place comes one.cycles one.machine also_begins behind led_here calls found enough
        (subst (λ p. IsFirstMeeting p one.machine behind (calls - length) found) is_address is))
      where
        also_begins : Begins psid song one.cycles one.machine
        also_begins = is_started.begins

        is_address : one.play ≡ (loaded psid).play
        is_address = is_started.address
