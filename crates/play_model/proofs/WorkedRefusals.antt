-- Why small songs can't be played, worked out by hand.
use Rattle.std.specs.Ordering.{nat_cmp, is_le}
use Rattle.std.specs.Cmp.Lexicographic.{slice_cmp}
use Rattle.std.proofs.Common.{◌≡◌, ℕ, zero, suc, ◌<◌, ◌≤◌, true, [], ◌∷◌, Contains, Some, None}
use Rattle.std.proofs.Common.{slice_get, lit<, lit≤, inl, inr, refl, sym, ◌∙◌, ap, arith}
use Rattle.base.proofs.Laws.{same_some}
use Rattle.song_model.specs.declared.orders.Order.{Order}
use Rattle.song_model.specs.declared.orders.Subtune.{Subtune}
use Rattle.song_model.specs.declared.tables.TableName.{TableName}
use Rattle.song_model.specs.declared.tables.TableName.TheVariants.{Wave, Pulse, Filter, Speed}
use Rattle.song_model.specs.LookUp.{instrument_at, table_of, order_of}
use Rattle.play_model.specs.declared.unplayable.Unplayable.{Unplayable}
use Rattle.play_model.specs.declared.unplayable.Unplayable.TheVariants.{NoSubtune, MissingPattern, BadRestart}
use Rattle.play_model.specs.declared.unplayable.Unplayable.TheVariants.{TableOverflow, PointerToJump}
use Rattle.play_model.specs.Used.{IsChannel}
use Rattle.play_model.specs.Reached.{led_to, IsPlayedPointer, of_instrument, IsReached, played, pointed, led}
use Rattle.play_model.specs.Playable.{HasOrder, MissesPattern, RunsOff, Fails, IsNotAfter}
use Rattle.play_model.specs.WorkedSongs.{subtune}
use Rattle.play_model.specs.WorkedRefusals.{void_song, missing_patterns, ending_song, RefusalsAreAsWorked}
use Rattle.play_model.proofs.SilentSongs.{PlaysRests, pointer_is, tables_alone}
use Rattle.play_model.proofs.WorkedUses.{rests_lem}

-- ---- no subtune comes before all else

void_is_first : (other : Unplayable) → Fails void_song other → IsNotAfter NoSubtune other
void_is_first NoSubtune h = refl
void_is_first (MissingPattern s c place pattern) h = refl
void_is_first (BadRestart s c) h = refl
void_is_first (TableOverflow name row) h = refl
void_is_first (PointerToJump name row) h = refl

-- ---- the least place of a missing pattern

abbrev the_subtune : Subtune
the_subtune = subtune (0 ∷ []) (0 ∷ 5 ∷ []) (7 ∷ [])

-- the file has one subtune
record IsHere (s c : ℕ) (order : Order) : Type 0 where
  one : 1 ≡ s
  order_is : order ≡ order_of c the_subtune

is_here : (s c : ℕ) (order : Order) → HasOrder missing_patterns s c order → IsHere s c order
is_here s c order has =
    let first = has.stored.first in
    let last = has.stored.last in
    let one : 1 ≡ s = omega arith in
    let found : Some the_subtune ≡ Some has.subtune = rw (sym one) at has.subtune_is in
    record {
      one = one;
      order_is = has.order_is ∙ ap (λ (t : Subtune). order_of c t) (sym (same_some the_subtune has.subtune found));
    }

-- the places of channel c at which a pattern is missing
not_before : (c place pattern : ℕ) → IsChannel c → slice_get (order_of c the_subtune).entries place ≡ Some pattern →
    1 ≤ pattern →
    is_le (slice_cmp nat_cmp (2 ∷ 1 ∷ 2 ∷ 1 ∷ []) (2 ∷ 1 ∷ c ∷ place ∷ [])) ≡ true
not_before zero place pattern is names missing = absurd (let first = is.first in omega arith)
not_before (suc zero) zero pattern is names missing = absurd (let e = same_some 0 pattern names in omega arith)
not_before (suc zero) (suc place) pattern is names missing = absurd (cc)
not_before (suc (suc zero)) zero pattern is names missing = absurd (let e = same_some 0 pattern names in omega arith)
not_before (suc (suc zero)) (suc zero) pattern is names missing = refl
not_before (suc (suc zero)) (suc (suc place)) pattern is names missing = absurd (cc)
not_before (suc (suc (suc zero))) place pattern is names missing = refl
not_before (suc (suc (suc (suc c)))) place pattern is names missing = absurd (let last = is.last in omega arith)

least_is_first : (other : Unplayable) → Fails missing_patterns other → IsNotAfter (MissingPattern 1 2 1 5) other
least_is_first NoSubtune h = absurd (cc)
least_is_first (MissingPattern s c place pattern) m =
    let here = is_here s c m.order m.has in
    let names : slice_get (order_of c the_subtune).entries place ≡ Some pattern = rw here.order_is at m.names in
    rw (sym here.one) (not_before c place pattern m.has.is_channel names m.missing)
least_is_first (BadRestart s c) h = refl
least_is_first (TableOverflow name row) h = refl
least_is_first (PointerToJump name row) h = refl

missing_there : MissesPattern missing_patterns 1 2 1 5
missing_there = record {
  order = the_subtune.two;
  has = record {
    subtune = the_subtune;
    stored = record { first = lit≤ tt; last = lit≤ tt };
    subtune_is = refl;
    playable = refl;
    is_channel = record { first = lit≤ tt; last = lit≤ tt };
    order_is = refl;
  };
  names = refl;
  is_pattern = lit< tt;
  missing = lit≤ tt;
}

-- ---- a program that runs off its table

rests : PlaysRests ending_song
rests = rests_lem _ [] ending_song.pulse

abbrev Comes : TableName → ℕ → Type 0
Comes Wave p = ⊥
Comes Pulse p = Contains (1 ∷ 2 ∷ 3 ∷ []) p
Comes Filter p = ⊥
Comes Speed p = ⊥

played_comes : (name : TableName) (p : ℕ) → IsPlayedPointer ending_song name p → Comes name p
unfolding instrument_at
played_comes Wave p x = (let w = pointer_is ending_song Wave p rests x in w.1 (sym w.0))
played_comes Pulse p x = (0, lit< tt, (pointer_is ending_song Pulse p rests x).0)
played_comes Filter p x = (let w = pointer_is ending_song Filter p rests x in w.1 (sym w.0))
played_comes Speed p x = (let w = pointer_is ending_song Speed p rests x in w.1 (sym w.0))

led_comes : (name : TableName) (p q : ℕ) → Comes name p → led_to name (table_of ending_song name) p ≡ Some q →
    Comes name q
led_comes Wave p q here e = absurd here
led_comes Pulse p q (zero, inside, is) e =
    let next : Some 2 ≡ Some q = rw (sym is) at e in
    (1, lit< tt, same_some 2 q next)
led_comes Pulse p q (suc zero, inside, is) e =
    let next : Some 3 ≡ Some q = rw (sym is) at e in
    (2, lit< tt, same_some 3 q next)
led_comes Pulse p q (suc (suc zero), inside, is) e = (let no : None ≡ Some q = rw (sym is) at e in absurd (cc))
led_comes Pulse p q (suc (suc (suc k)), inside, is) e = absurd (omega arith)
led_comes Filter p q here e = absurd here
led_comes Speed p q here e = absurd here

reached_comes : (name : TableName) (p : ℕ) → IsReached ending_song name p → Comes name p
reached_comes name p (played x) = played_comes name p x
reached_comes name p (pointed r h w) = absurd (reached_comes Wave r h)
reached_comes name q (led p h e) = led_comes name p q (reached_comes name p h) e

third_pulse : IsReached ending_song Pulse 3
unfolding instrument_at
third_pulse = led 2 (led 1 (played (of_instrument 1 (inl refl) refl (λ e. omega arith))) refl) refl

last_row : (row : ℕ) → Comes Pulse row → 2 < row → 3 ≡ row
last_row row (zero, inside, is) above = absurd (omega arith)
last_row row (suc zero, inside, is) above = absurd (omega arith)
last_row row (suc (suc zero), inside, is) above = is
last_row row (suc (suc (suc k)), inside, is) above = absurd (omega arith)

one_overflow : (name : TableName) (row : ℕ) → RunsOff ending_song name row →
    IsNotAfter (TableOverflow Pulse 3) (TableOverflow name row)
one_overflow Wave row off = absurd (reached_comes Wave row off.reached)
one_overflow Pulse row off = rw (sym (last_row row (reached_comes Pulse row off.reached) off.above)) refl
one_overflow Filter row off = absurd (reached_comes Filter row off.reached)
one_overflow Speed row off = absurd (reached_comes Speed row off.reached)

overflow_is_first : (other : Unplayable) → Fails ending_song other → IsNotAfter (TableOverflow Pulse 3) other
overflow_is_first refusal h =
    let t = tables_alone ending_song refusal rests h in
    elim t.how [
      | inl off ↦ rw off.0 (one_overflow t.name t.row off.1)
      | inr at ↦ rw at.0 refl
    ]

pub refusals_are_as_worked_lem : RefusalsAreAsWorked
refusals_are_as_worked_lem = record {
  no_subtune = record { is_such = refl; first = void_is_first };
  least_place = record { is_such = missing_there; first = least_is_first };
  overflow = record {
    is_such = record { programs = λ e. cc; reached = third_pulse; above = lit< tt };
    first = overflow_is_first;
  };
}
