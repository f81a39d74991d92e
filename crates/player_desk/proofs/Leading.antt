-- What leads to a desk of which something holds does so in memory: it isn't stuck, and comes there.
use Rattle.std.proofs.Common.{◌≡◌, ℕ, zero, suc}
use Rattle.std.proofs.Common.{Bool, true, false, not}
use Rattle.std.proofs.Common.{Option, nat_eq, refl, sym, ap, subst}
use Rattle.std.proofs.Common.{if◌then◌else◌}
use Rattle.scopes.specs.declared.line.Flag.TheVariants.{Zero, Minus, Carry}
use Rattle.scopes.specs.declared.line.Test.{Test}
use Rattle.scopes.specs.declared.line.Test.TheVariants.{On, Off}
use Rattle.scopes.specs.Desk.{Desk}
use Rattle.scopes.specs.Steps.{done, done_with}
use Rattle.scopes.specs.Trees.{Tree, DoTree, WithTree, NoneTree, ThenTree, ScopeTree, LeaveTree, LeaveIfTree, LoopTree}
use Rattle.scopes.specs.Trees.{AgainTree, AgainIfTree, WhenTree, ChooseTree, NeverTree}
use Rattle.scopes.specs.Meaning.{Outcome, Done, Left, Again, Stuck, Ran, each_one, ended, stepped, behind, and_then, turns_in}
use Rattle.scopes.specs.Meaning.{out_of_scope, scoped, next_turn, turns, ran}
use Rattle.scopes.specs.Meaning.{is_met as meant_is_met}
use Rattle.player_desk.proofs.VoiceDesks.{VoiceDesk, Reader, Either}
use Rattle.player_desk.proofs.VoiceDesks.{is_met, Ways, done_as, in_scope}
use Rattle.player_desk.proofs.VoiceDesks.{again_as, TurnsLead, Leading}
use Rattle.player_desk.proofs.Showing.{Shows, Ground}
use Rattle.player_desk.proofs.Stepping.{Steps, with_steps, alone_steps}

-- ---- trees

-- where an outcome is: one of the ways holds
abbrev pub At : Ways → Outcome → VoiceDesk → Type 0
At ways Done d = ways.Done d
At ways (Left name) d = ways.Left name d
At ways Again d = ways.Again d
At ways Stuck d = ⊥

pub record Led (voiced : Bool) (r : Reader) (ways : Ways) (run : Ran) : Type 0 where
  pub after : VoiceDesk
  pub shows : Shows voiced r run.desk after
  pub way : At ways run.outcome after

test_is : {voiced : Bool} {r : Reader} {desk : Desk} {d : VoiceDesk} → Shows voiced r desk d → (test : Test) →
    meant_is_met test desk ≡ is_met test d
test_is shows (On Zero) = shows.z
test_is shows (On Minus) = shows.n
test_is shows (On Carry) = shows.c
test_is shows (Off Zero) = ap not shows.z
test_is shows (Off Minus) = ap not shows.n
test_is shows (Off Carry) = ap not shows.c

step_led : {voiced : Bool} {r : Reader} {ways : Ways} (result : Option Desk) (desk : Desk) →
    Steps voiced r result ways.Done → Led voiced r ways (stepped result desk 1)
step_led {voiced = voiced} {r = r} {ways = ways} result desk steps =
    subst (λ o. Led voiced r ways (stepped o desk 1)) (sym steps.is)
    (record { after = steps.put_is.after; shows = steps.put_is.shows; way = steps.put_is.follows })

-- where what is first ends, what follows goes on
then_led : {voiced : Bool} {r : Reader} {ways : Ways} (Q : VoiceDesk → Type 0) (one : Ran) (next : Desk → Ran) →
    Led voiced r (done_as Q ways) one →
    ((d : VoiceDesk) → Shows voiced r one.desk d → Q d → Led voiced r ways (next one.desk)) →
    Led voiced r ways (and_then one next)
then_led {voiced = voiced} {r = r} {ways = ways} Q one next led rest =
    by_outcome one.outcome refl led.after led.shows led.way
  where
    by_outcome : (o : Outcome) → one.outcome ≡ o → (after : VoiceDesk) → Shows voiced r one.desk after →
        At (done_as Q ways) o after → Led voiced r ways (behind o one next)
    by_outcome Done is after shows way =
        let on = rest after shows way in record { after = on.after; shows = on.shows; way = on.way }
    by_outcome (Left name) is after shows way =
        record { after = after; shows = shows; way = subst (λ o. At ways o after) (sym is) way }
    by_outcome Again is after shows way =
        record { after = after; shows = shows; way = subst (λ o. At ways o after) (sym is) way }
    by_outcome Stuck is after shows never = elim never [ ]

-- who leaves a scope by its name comes to its end
scope_led : {voiced : Bool} {r : Reader} (name : ℕ) (ways : Ways) (one : Ran) →
    Led voiced r (in_scope name ways) one → Led voiced r ways (scoped name one)
scope_led {voiced = voiced} {r = r} name ways one led =
    record { after = led.after; shows = led.shows; way = out one.outcome led.after led.way }
  where
    named : (other : ℕ) (z : Bool) → nat_eq other name ≡ z → (d : VoiceDesk) →
        Either z (ways.Done d) (ways.Left other d) → At ways (if z then Done else Left other) d
    named other true e d way = way
    named other false e d way = way

    out : (o : Outcome) (d : VoiceDesk) → At (in_scope name ways) o d → At ways (out_of_scope name o) d
    out Done d way = way
    out (Left other) d way = named other (nat_eq other name) refl d way
    out Again d way = way
    out Stuck d never = elim never [ ]

-- a loop goes on at its head
next_led : {voiced : Bool} {r : Reader} {ways : Ways} (Q : VoiceDesk → Type 0) (one : Ran) (next : Desk → Ran) →
    Led voiced r (again_as Q ways) one →
    ((d : VoiceDesk) → Shows voiced r one.desk d → Q d → Led voiced r ways (next one.desk)) →
    Led voiced r ways (next_turn one.outcome one next)
next_led {voiced = voiced} {r = r} {ways = ways} Q one next led rest =
    by_outcome one.outcome refl led.after led.shows led.way
  where
    by_outcome : (o : Outcome) → one.outcome ≡ o → (after : VoiceDesk) → Shows voiced r one.desk after →
        At (again_as Q ways) o after → Led voiced r ways (next_turn o one next)
    by_outcome Again is after shows way =
        let on = rest after shows way in record { after = on.after; shows = on.shows; way = on.way }
    by_outcome (Left name) is after shows way =
        record { after = after; shows = shows; way = subst (λ o. At ways o after) (sym is) way }
    by_outcome Done is after shows way =
        record { after = after; shows = shows; way = subst (λ o. At ways o after) (sym is) way }
    by_outcome Stuck is after shows never = elim never [ ]

turns_led : {voiced : Bool} {r : Reader} (Body : Ways → VoiceDesk → Type 0) (run : Desk → Ran) (ways : Ways) →
    ((w : Ways) (desk : Desk) (d : VoiceDesk) → Shows voiced r desk d → Body w d → Led voiced r w (run desk)) →
    (count : ℕ) (desk : Desk) (d : VoiceDesk) → Shows voiced r desk d → TurnsLead count Body ways d →
    Led voiced r ways (turns count run desk)
turns_led Body run ways body zero desk d shows never = elim never [ ]
turns_led Body run ways body (suc more) desk d shows leads =
    next_led (TurnsLead more Body ways) (run desk) (turns more run)
    (body (again_as (TurnsLead more Body ways) ways) desk d shows leads)
    (λ after shown again. turns_led Body run ways body more (run desk).desk after shown again)

-- by a test
if_led : {voiced : Bool} {r : Reader} {ways : Ways} (outcome : Outcome) (desk : Desk) (d : VoiceDesk) (z met : Bool) →
    met ≡ z → Shows voiced r desk d → (z ≡ true → At ways outcome d) → (z ≡ false → ways.Done d) →
    Led voiced r ways (if met then ended outcome desk 1 else ended Done desk 1)
if_led outcome desk d true true e shows is isnt = record { after = d; shows = shows; way = is refl }
if_led outcome desk d false false e shows is isnt = record { after = d; shows = shows; way = isnt refl }
if_led outcome desk d true false e shows is isnt = absurd (cc)
if_led outcome desk d false true e shows is isnt = absurd (cc)

either_led : {voiced : Bool} {r : Reader} {ways : Ways} (z : Bool) (one two : Ran) →
    (z ≡ true → Led voiced r ways one) → (z ≡ false → Led voiced r ways two) →
    Led voiced r ways (if z then one else two)
either_led true one two this other = this refl
either_led false one two this other = other refl

-- What leads somewhere comes there.
pub led : {voiced : Bool} {r : Reader} → Ground r → (tree : Tree) (ways : Ways) (desk : Desk) (d : VoiceDesk) →
    Shows voiced r desk d → Leading voiced r tree ways d → Led voiced r ways (ran each_one r.layout tree desk)
led {r = r} ground (DoTree mnemonic) ways desk d shows leads =
    step_led (done r.layout mnemonic desk) desk (alone_steps mnemonic ways.Done shows leads)
led {r = r} ground (WithTree mnemonic operand) ways desk d shows leads =
    step_led (done_with r.layout mnemonic operand desk) desk
    (with_steps ground mnemonic operand ways.Done shows leads)
led ground NoneTree ways desk d shows leads = record { after = d; shows = shows; way = leads }
led {voiced = voiced} {r = r} ground (ThenTree first rest) ways desk d shows leads =
    then_led (Leading voiced r rest ways) (ran each_one r.layout first desk) (ran each_one r.layout rest)
    (led ground first (done_as (Leading voiced r rest ways) ways) desk d shows leads)
    (λ after shown on. led ground rest ways (ran each_one r.layout first desk).desk after shown on)
led {r = r} ground (ScopeTree name body) ways desk d shows leads =
    scope_led name ways (ran each_one r.layout body desk) (led ground body (in_scope name ways) desk d shows leads)
led ground (LeaveTree name) ways desk d shows leads = record { after = d; shows = shows; way = leads }
led ground (LeaveIfTree name test) ways desk d shows leads =
    if_led (Left name) desk d (is_met test d) (meant_is_met test desk) (test_is shows test) shows leads.0 leads.1
led {voiced = voiced} {r = r} ground (LoopTree count body) ways desk d shows leads =
    turns_led (Leading voiced r body) (ran each_one r.layout body) ways
    (λ w more m shown on. led ground body w more m shown on) (turns_in r.layout.open_turns count) desk d shows leads
led ground AgainTree ways desk d shows leads = record { after = d; shows = shows; way = leads }
led ground (AgainIfTree test) ways desk d shows leads =
    if_led Again desk d (is_met test d) (meant_is_met test desk) (test_is shows test) shows leads.0 leads.1
led {r = r} ground (WhenTree condition body) ways desk d shows leads =
    either_led (r.layout.holds condition) (ran each_one r.layout body desk) (ended Done desk 0)
    (λ is. led ground body ways desk d shows (leads.0 is))
    (λ isnt. record { after = d; shows = shows; way = leads.1 isnt })
led {r = r} ground (ChooseTree condition this other) ways desk d shows leads =
    either_led (r.layout.holds condition) (ran each_one r.layout this desk) (ran each_one r.layout other desk)
    (λ is. led ground this ways desk d shows (leads.0 is)) (λ isnt. led ground other ways desk d shows (leads.1 isnt))
led ground NeverTree ways desk d shows never = elim never [ ]
