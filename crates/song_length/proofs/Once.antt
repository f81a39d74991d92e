-- Of a song one thing is told.
use Rattle.std.proofs.Common.{◌≡◌, ℕ, suc, ◌+◌, ◌-◌, ◌<◌, ◌≤◌, List, Option, Some, None, Ok, Err, inl, inr, refl, sym}
use Rattle.std.proofs.Common.{ap, ◌∙◌}
use Rattle.std.proofs.Common.{subst, arith}
use Rattle.std.proofs.lemmas.Bool.{cases_lt}
use Rattle.std.proofs.lemmas.Grind.{same_number_lists}
use Rattle.cpu6502.specs.declared.machine.Machine.{Machine}
use Rattle.cpu6502.specs.declared.stop.CallStop.{CallStop}
use Rattle.cpu6502.specs.Call.{FailsBy, call_cycles}
use Rattle.cpu6502.specs.declared.stop.CallStop.TheVariants.{Stopped, Budget}
use Rattle.cpu6502.proofs.Laws.{called_once, returned_fails, stopped_fails, under_way_fails}
use Rattle.psid.specs.declared.header.Psid.{Psid}
use Rattle.sid_run.specs.State.{loaded, most_steps}
use Rattle.song_length.specs.declared.counts.Dearest.{Dearest}
use Rattle.song_length.specs.declared.measuring.Repeat.{Repeat}
use Rattle.song_length.specs.declared.measuring.Measured.{Measured}
use Rattle.song_length.specs.Plays.{Takes, PlayTakes, Lead, Tells}
use Rattle.song_length.specs.Measured.{AreCosts, IsDearest, NeverRepeats, IsFirstRepeat}
use Rattle.song_length.specs.Told.{Begins, AreTold, IsMeasured, StopsAt, init_stops, play_stops}
use Rattle.song_length.specs.Laws.{SongsAreToldOnce, SongsStopOnce, SongsCostOnce}
use Rattle.song_length.proofs.Repeating.{one_machine, way_by}
use Rattle.song_length.proofs.PlayingOn.{never_fails}
use Rattle.song_length.proofs.Placing.{begins_once}
use Rattle.song_length.proofs.Answering.{told_once}

-- ---- calls that return, and others

-- a call that returns doesn't fail
pub never_both : (machine : Machine) (entry number steps : ℕ) (after failed : Machine) (reason : CallStop) →
    Takes machine entry number steps after → FailsBy machine entry number most_steps reason failed → ⊥
never_both machine entry number steps after failed reason takes fails =
    let never : Ok 0 ≡ Err reason =
    returned_fails machine entry number steps most_steps after failed reason (Ok 0) takes.called takes.within fails in
    cc (never)

-- and one that fails does for one reason
pub fails_once : (machine : Machine) (entry number : ℕ) (one other : Machine) (reason why : CallStop) →
    FailsBy machine entry number most_steps reason one → FailsBy machine entry number most_steps why other → reason ≡ why
fails_once machine entry number one other (Stopped stop) why p q =
    stopped_fails machine entry number most_steps p.0 stop one other why p.2 p.1 q
fails_once machine entry number one other Budget why p q =
    under_way_fails machine entry number most_steps one other why p q

-- a play doesn't fail that others come behind
play_before : (psid : Psid) (first before after last : Machine) (n m : ℕ) (reason : CallStop) → n < m →
    Lead (loaded psid).play n first before → FailsBy before (loaded psid).play before.cpu.a most_steps reason after →
    Lead (loaded psid).play m first last → ⊥
play_before psid first before after last n m reason less led fails later =
    let way = way_by (loaded psid).play (suc n) (m - suc n) m first last (omega (arith, less)) later in
    let same = one_machine (loaded psid).play n first way.1.0 before way.1.2 led in
    never_both before (loaded psid).play before.cpu.a way.1.1 way.0 after reason
    (subst (λ m. PlayTakes (loaded psid).play m way.1.1 way.0) same way.1.3) fails

-- ---- the dearest play

dearest_of : ℕ → ℕ → Dearest
dearest_of cycles call = record { cycles = cycles; call = call }

no_later : (play : ℕ) (first : Machine) (n : ℕ) (one other : Dearest) → IsDearest play first n (Some one) →
    IsDearest play first n (Some other) → one.call < other.call → ⊥
no_later play first n one other p q less =
    let some = p.0 in
    let within = q.1 in
    let here = q.4 (one.call - 1) p.2.0 (omega (arith, less, some)) p.2.1 in
    let most = p.3 (other.call - 1) q.2.0 (omega (arith, less, within)) q.2.1 in
    let its = p.2.2 in
    let others = q.2.2 in
    omega (arith, here, most, its, others)

one_dearest : (play : ℕ) (first : Machine) (n : ℕ) (one other : Dearest) → IsDearest play first n (Some one) →
    IsDearest play first n (Some other) → other ≡ one
unfolding dearest_of
one_dearest play first n one other p q = elim (cases_lt one.call other.call) [
  | inl less ↦ absurd (no_later play first n one other p q less)
  | inr more ↦ elim (cases_lt other.call one.call) [
    | inl less ↦ absurd (no_later play first n other one q p less)
    | inr same ↦
        let calls : other.call ≡ one.call = omega (arith, more, same) in
        let there = subst (λ k. Tells play first (k - 1) q.2.0) calls q.2.1 in
        let cycles : other.cycles ≡ one.cycles =
        sym q.2.2 ∙ told_once play first (one.call - 1) q.2.0 p.2.0 there p.2.1 ∙ p.2.2 in
        let both : dearest_of other.cycles other.call ≡ dearest_of one.cycles one.call =
        ap (λ c. dearest_of c other.call) cycles ∙ ap (dearest_of one.cycles) calls in
        both
  ]
]

-- ---- where the state comes again

repeat_of : ℕ → ℕ → Repeat
repeat_of from length = record { from = from; length = length }

no_longer : (play : ℕ) (first : Machine) (f l from length : ℕ) → IsFirstRepeat play first f l →
    IsFirstRepeat play first from length → (f ≤ from) × (l ≤ length)
no_longer play first f l from length p q =
    let some = q.repeats.some in
    let least = p.least from (from + length) q.repeats.machine (omega (arith, some)) q.repeats.here q.repeats.again in
    let low = least.0 in
    let high = least.1 in
    (low, omega (arith, high))

not_both : (play : ℕ) (first : Machine) (calls from length : ℕ) → IsFirstRepeat play first from length →
    from + length ≤ calls → NeverRepeats play first calls → ⊥
not_both play first calls from length is within never =
    let some = is.repeats.some in
    never from (from + length) is.repeats.machine (omega (arith, some)) within is.repeats.here is.repeats.again

one_told : (play : ℕ) (first : Machine) (calls : ℕ) (d e : Dearest) (r s : Option Repeat) →
    AreTold play first calls d r → AreTold play first calls e s → (e ≡ d) × (s ≡ r)
unfolding repeat_of
one_told play first calls d e (Some r) (Some s) p q =
    let one = no_longer play first r.from r.length s.from s.length p.1 q.1 in
    let other = no_longer play first s.from s.length r.from r.length q.1 p.1 in
    let o0 = one.0 in
    let o1 = one.1 in
    let t0 = other.0 in
    let t1 = other.1 in
    let from : s.from ≡ r.from = omega (arith, o0, t0) in
    let length : s.length ≡ r.length = omega (arith, o1, t1) in
    let both : repeat_of s.from s.length ≡ repeat_of r.from r.length =
    ap (λ f. repeat_of f s.length) from ∙ ap (repeat_of r.from) length in
    let sum : s.from + s.length ≡ r.from + r.length = omega (arith, from, length) in (
      one_dearest play first (r.from + r.length) d e p.2 (subst (λ n. IsDearest play first n (Some e)) sum q.2),
      ap Some both,
    )
one_told play first calls d e (Some r) None p q = absurd (not_both play first calls r.from r.length p.1 p.0 q.1)
one_told play first calls d e None (Some s) p q = absurd (not_both play first calls s.from s.length q.1 q.0 p.1)
one_told play first calls d e None None p q = (one_dearest play first calls d e p.2 q.2, refl)

-- ---- what is told

measured_of : ℕ → Dearest → Option Repeat → Measured
measured_of init dearest repeat = record { init = init; dearest = dearest; repeat = repeat }

one_init : (psid : Psid) (song c d : ℕ) (first other : Machine) → Begins psid song c first →
    Begins psid song d other → d ≡ c
one_init psid song c d first other p q =
    let same = called_once (loaded psid).machine (loaded psid).init song p.steps q.steps first other p.takes.called q.takes.called in
    q.cycles_are ∙ sym (ap (call_cycles (loaded psid).machine (loaded psid).init song) same) ∙ sym p.cycles_are

module _ (psid : Psid) (song calls : ℕ) (measured : Measured) (is : IsMeasured psid song calls measured) where
  one : (other : Measured) → IsMeasured psid song calls other → other ≡ measured
  unfolding measured_of
  one other also =
      let first = begins_once psid song other.init measured.init also.first is.first also.begins is.begins in
      let init = one_init psid song measured.init other.init is.first also.first is.begins also.begins in
      let told = subst (λ m. AreTold (loaded psid).play m calls other.dearest other.repeat) first also.told in
      let same = one_told (loaded psid).play is.first calls measured.dearest other.dearest measured.repeat other.repeat
      is.told told in
      let all : measured_of other.init other.dearest other.repeat
      ≡ measured_of measured.init measured.dearest measured.repeat =
      rw (init, same.0, same.1) refl in
      all

  -- a play that returns doesn't fail
  no_stop : (call : ℕ) (before after : Machine) (reason : CallStop) → 1 ≤ call → call ≤ calls →
      Lead (loaded psid).play (call - 1) is.first before →
      FailsBy before (loaded psid).play before.cpu.a most_steps reason after → ⊥
  no_stop call before after reason some few led fails = by measured.repeat is.told
    where
      by : (r : Option Repeat) → AreTold (loaded psid).play is.first calls measured.dearest r → ⊥
      by (Some r) told =
          never_fails (loaded psid).play is.first (call - 1) before after reason
          (record { from = r.from; length = r.length; repeats = told.1.repeats }) led fails
      by None told =
          play_before psid is.first before after told.0.0 (call - 1) calls reason (omega (arith, some, few)) led fails
          told.0.1

  returns : (call : ℕ) (reason : CallStop) → StopsAt psid song calls call reason → ⊥
  returns call reason (init_stops after zero fails) =
      never_both (loaded psid).machine (loaded psid).init song is.begins.steps is.first after reason is.begins.takes fails
  returns call reason (play_stops cycles first before after some few begins led fails) =
      let same = begins_once psid song cycles measured.init first is.first begins is.begins in
      no_stop call before after reason some few (subst (λ m. Lead (loaded psid).play (call - 1) m before) same led) fails

pub songs_are_told_once : SongsAreToldOnce
songs_are_told_once psid song calls measured is =
    record { one = one psid song calls measured is; returns = returns psid song calls measured is }

pub songs_stop_once : SongsStopOnce
songs_stop_once psid song calls more call other reason why (init_stops after zero fails) (init_stops late none also) =
    (zero ∙ sym none, fails_once (loaded psid).machine (loaded psid).init song after late reason why fails also)
songs_stop_once psid song calls more call other reason why (init_stops after zero fails)
    (play_stops cycles first before late some few begins led also) =
    absurd
    (never_both (loaded psid).machine (loaded psid).init song begins.steps first after reason begins.takes fails)
songs_stop_once psid song calls more call other reason why
    (play_stops cycles first before after some few begins led fails) (init_stops late none also) =
    absurd (never_both (loaded psid).machine (loaded psid).init song begins.steps first late why begins.takes also)
songs_stop_once psid song calls more call other reason why
    (play_stops cycles first before after some few begins led fails)
    (play_stops cost start between late any less starts way also) =
    let same = begins_once psid song cycles cost first start begins starts in
    let here = subst (λ m. Lead (loaded psid).play (call - 1) m before) same led in
    elim (cases_lt call other) [
      | inl sooner ↦
          absurd
          (play_before psid start before after between (call - 1) (other - 1) reason (omega (arith, sooner, some)) here fails
          way)
      | inr later ↦ elim (cases_lt other call) [
        | inl sooner ↦
            absurd
            (play_before psid start between late before (other - 1) (call - 1) why (omega (arith, sooner, any)) way also
            here)
        | inr even ↦
            let calls_are : call ≡ other = omega (arith, later, even) in
            let led_there = subst (λ k. Lead (loaded psid).play (k - 1) start before) calls_are here in
            let machine = one_machine (loaded psid).play (other - 1) start before between led_there way in
            let fails_there =
            subst (λ m. FailsBy m (loaded psid).play m.cpu.a most_steps reason after) machine fails in
            (calls_are, fails_once between (loaded psid).play between.cpu.a after late reason why fails_there also)
      ]
    ]

-- what plays cost is one list
one_cost : (play : ℕ) (first : Machine) (n : ℕ) (cycles others : List ℕ) → AreCosts play first n cycles →
    AreCosts play first n others → cycles ≡ others
one_cost play first n cycles others p q =
    same_number_lists cycles others
    (p.as_many ∙ sym q.as_many)
    (λ i few.
    let many = p.as_many in
    let one = p.each i (omega (arith, few, many)) in
    let other = q.each i (omega (arith, few, many)) in
    one.2 ∙ told_once play first i one.0 other.0 one.1 other.1 ∙ sym other.2)

pub songs_cost_once : SongsCostOnce
songs_cost_once psid song calls cycles others p q =
    let same = begins_once psid song p.init q.init p.first q.first p.begins q.begins in
    one_cost (loaded psid).play q.first calls cycles others
    (subst (λ m. AreCosts (loaded psid).play m calls cycles) same p.costs) q.costs
