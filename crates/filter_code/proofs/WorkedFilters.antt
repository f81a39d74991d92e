-- The frames that are worked by hand meet the clause; and runs that differ in one thing are refused.
use Rattle.std.proofs.Common.{◌≡◌, ◌≢◌, ℕ, zero, suc, ◌+◌, ◌<◌, ◌≤◌, ◌⊎◌, inl, inr}
use Rattle.std.proofs.Common.{◌&&◌, Bool, true, false, List, [], ◌∷◌}
use Rattle.std.proofs.Common.{refl, sym, subst, arith}
use Rattle.std.proofs.lemmas.Bool.{lt-ltb, true≢false}
use Rattle.play_model.specs.State.{Common}
use Rattle.play_model.specs.FilterStep.{filter_step}
use Rattle.play_model.specs.Helpers.{next_row}
use Rattle.play_model.specs.Frame.{filter_registers}
use Rattle.scopes.specs.Meaning.{each_one, ran, Done}
use Rattle.player_memory.specs.declared.labels.TheConstants.{FILTER_LEFTS, FILTER_RIGHTS}
use Rattle.player_memory.specs.declared.conditions.TheConstants.{FILTER_TABLE}
use Rattle.player_memory.specs.FactLines.{KeepsShared}
use Rattle.player_memory.specs.Rooms.{IsRoom, IsElsewhere, MayUse}
use Rattle.player_memory.specs.Variables.{CommonBytesStand}
use Rattle.player_memory.specs.Playing.{shared_at, IsListed, PlaysShared}
use Rattle.player_desk.proofs.Laws.{shared_stand}
use Rattle.filter_code.specs.FilterBlock.{filter_tree, IsOnFilterRow, HasFilterTable}
use Rattle.filter_code.specs.WorkedFilters.{site_with, site, bare, row_at, look, state, others, desk, IsWorked}
use Rattle.filter_code.specs.WorkedFilters.{FiltersAreWorked, RowsAreWorked, RunsAreRefused}
use Rattle.filter_code.specs.WorkedFilters.{right, behind_with, Accepts}
use Rattle.filter_code.proofs.Stepping.{filter_block_steps}
use Rattle.player_memory.proofs.Laws.{InOnePiece, in_one_piece, off_piece, list_behind}
use Rattle.player_memory.specs.declared.labels.TheConstants.{SLIDES_LOW, SLIDES_HIGH}

-- ---- the site

piece : (holds : ℕ → Bool) → InOnePiece (site_with holds) 0x1000
piece holds = record {
  from = omega arith;
  to = omega arith;
  each = λ label few. (let e = lt-ltb label 113 few in rw e refl);
}

room : (holds : ℕ → Bool) → IsRoom (site_with holds) 2
room holds = record {
  variables = in_one_piece (site_with holds) 0x1000 (piece holds);
  slides = λ kept. record {
    low = list_behind (site_with holds) 0x1000 (piece holds) SLIDES_LOW 2 (omega arith) (omega arith) (omega arith);
    high = list_behind (site_with holds) 0x1000 (piece holds) SLIDES_HIGH 2 (omega arith) (omega arith) (omega arith);
    apart = inl (omega arith);
  };
  pointer_low = omega arith;
  pointer_high = omega arith;
}

uses : (holds : ℕ → Bool) → MayUse (site_with holds) 2
uses holds = record {
  reads = λ label few. refl;
  writes = λ label few. refl;
  slides = λ holds row few. record { reads_low = refl; reads_high = refl; writes_low = refl; writes_high = refl };
  registers = λ register few. refl;
}

away : (holds : ℕ → Bool) (place : ℕ) → 0x1300 ≤ place → place < 0xD000 → IsElsewhere (site_with holds) 2 place
away holds place from to = record {
  variables = off_piece (site_with holds) 0x1000 (piece holds) place (inr (omega (arith, from)));
  slides_low = λ kept. inr (omega (arith, from));
  slides_high = λ kept. inr (omega (arith, from));
  low = λ e. omega (arith, from, e);
  high = λ e. omega (arith, from, e);
  registers = inl (omega (arith, to));
}

left_at : (holds : ℕ → Bool) (c : Common) (number : ℕ) → 1 ≤ number → number ≤ 4 →
    IsListed (site_with holds) 2 (desk c).at FILTER_LEFTS number (row_at number).left
left_at holds c zero from to = absurd (omega (arith, from))
left_at holds c (suc zero) from to =
    record { elsewhere = away holds 0x1300 (omega arith) (omega arith); reads = refl; is = refl }
left_at holds c (suc (suc zero)) from to =
    record { elsewhere = away holds 0x1301 (omega arith) (omega arith); reads = refl; is = refl }
left_at holds c (suc (suc (suc zero))) from to =
    record { elsewhere = away holds 0x1302 (omega arith) (omega arith); reads = refl; is = refl }
left_at holds c (suc (suc (suc (suc zero)))) from to =
    record { elsewhere = away holds 0x1303 (omega arith) (omega arith); reads = refl; is = refl }
left_at holds c (suc (suc (suc (suc (suc more))))) from to = absurd (omega (arith, to))

right_at : (holds : ℕ → Bool) (c : Common) (number : ℕ) → 1 ≤ number → number ≤ 4 →
    IsListed (site_with holds) 2 (desk c).at FILTER_RIGHTS number (row_at number).right
right_at holds c zero from to = absurd (omega (arith, from))
right_at holds c (suc zero) from to =
    record { elsewhere = away holds 0x1400 (omega arith) (omega arith); reads = refl; is = refl }
right_at holds c (suc (suc zero)) from to =
    record { elsewhere = away holds 0x1401 (omega arith) (omega arith); reads = refl; is = refl }
right_at holds c (suc (suc (suc zero))) from to =
    record { elsewhere = away holds 0x1402 (omega arith) (omega arith); reads = refl; is = refl }
right_at holds c (suc (suc (suc (suc zero)))) from to =
    record { elsewhere = away holds 0x1403 (omega arith) (omega arith); reads = refl; is = refl }
right_at holds c (suc (suc (suc (suc (suc more))))) from to = absurd (omega (arith, to))

left_byte : (number : ℕ) → (row_at number).left < 256
left_byte zero = omega arith
left_byte (suc zero) = omega arith
left_byte (suc (suc zero)) = omega arith
left_byte (suc (suc (suc zero))) = omega arith
left_byte (suc (suc (suc (suc zero)))) = omega arith
left_byte (suc (suc (suc (suc (suc more))))) = omega arith

right_byte : (number : ℕ) → (row_at number).right < 256
right_byte zero = omega arith
right_byte (suc zero) = omega arith
right_byte (suc (suc zero)) = omega arith
right_byte (suc (suc (suc zero))) = omega arith
right_byte (suc (suc (suc (suc zero)))) = omega arith
right_byte (suc (suc (suc (suc (suc more))))) = omega arith

table : (holds : ℕ → Bool) (c : Common) → HasFilterTable (site_with holds) 2 (desk c).at look 4
table holds c = record {
  table = record {
    few = omega arith;
    each = λ number from to. record {
      left = left_at holds c number from to;
      right = right_at holds c number from to;
      left_byte = left_byte number;
      right_byte = right_byte number;
    };
  };
  next = refl;
}

-- what else is kept there
shared : (kept : Bool) → KeepsShared (site kept)
shared kept = record {
  tone = λ on. absurd (never kept on);
  slide = λ on. absurd (never kept on);
  once = λ on. absurd (never kept on);
  delay = λ on. absurd (never kept on);
  command = λ on. absurd (never kept on);
  legato = λ on. absurd (never kept on);
  soft = λ on. absurd (never kept on);
  filter = λ on. refl;
  control = λ on. refl;
  cutoff = λ on. refl;
}
  where
    never : (kept : Bool) → (kept && false) ≡ true → ⊥
    never true e = true≢false (sym e)
    never false e = true≢false (sym e)

none_shared : KeepsShared bare
none_shared = record {
  tone = λ on. absurd (true≢false (sym on));
  slide = λ on. absurd (true≢false (sym on));
  once = λ on. absurd (true≢false (sym on));
  delay = λ on. absurd (true≢false (sym on));
  command = λ on. absurd (true≢false (sym on));
  legato = λ on. absurd (true≢false (sym on));
  soft = λ on. absurd (true≢false (sym on));
  filter = λ on. absurd (true≢false (sym on));
  control = λ on. absurd (true≢false (sym on));
  cutoff = λ on. absurd (true≢false (sym on));
}

-- ---- frames

stands : (kept : Bool) (c : Common) → CommonBytesStand (site kept).holds c (shared_at (site kept) (desk c).at)
stands kept c =
    shared_stand (site kept).holds c (shared_at (site kept) (desk c).at) (record {
      filter_ptr = refl;
      filter_time = refl;
      filter_type = λ on. refl;
      no_filter_type = λ off. absurd (true≢false off);
      filter_control = λ on. refl;
      no_filter_control = λ off. absurd (true≢false off);
      cutoff = λ on. refl;
      no_cutoff = λ off. absurd (true≢false off);
      volume = λ on. refl;
      no_volume = λ off. absurd (true≢false off);
      funk_one = λ on. refl;
      funk_two = λ on. refl;
    })

none_stands : CommonBytesStand bare.holds (state 0 0 0 0 0) (shared_at bare (desk others).at)
none_stands =
    shared_stand bare.holds (state 0 0 0 0 0) (shared_at bare (desk others).at) (record {
      filter_ptr = refl;
      filter_time = refl;
      filter_type = λ on. absurd (true≢false (sym on));
      no_filter_type = λ off. refl;
      filter_control = λ on. absurd (true≢false (sym on));
      no_filter_control = λ off. refl;
      cutoff = λ on. absurd (true≢false (sym on));
      no_cutoff = λ off. refl;
      volume = λ on. absurd (true≢false (sym on));
      no_volume = λ off. refl;
      funk_one = λ on. absurd (true≢false (sym on));
      funk_two = λ on. absurd (true≢false (sym on));
    })

-- what the rule gives is what the code leaves
plays : (holds : ℕ → Bool) (its c after : Common) (bytes : List ℕ) → filter_step look c ≡ after →
    filter_registers after ≡ bytes → CommonBytesStand holds c (shared_at (site_with holds) (desk its).at) →
    IsOnFilterRow look 4 c → (c.filter_ptr ≢ 0 → holds FILTER_TABLE ≡ true) → KeepsShared (site_with holds) →
    PlaysShared (site_with holds) 2 (desk its) (ran each_one (site_with holds) filter_tree (desk its)) after bytes
plays holds its c after bytes steps writes stand on keeps common =
    subst (λ list. Plays after list) writes
    (subst (λ x. Plays x (filter_registers x)) steps
    (filter_block_steps (site_with holds) 2 4 look c (desk its) (room holds) (uses holds) (table holds its) refl stand
    on keeps common))
  where
    Plays : Common → List ℕ → Type 0
    Plays x list =
        PlaysShared (site_with holds) 2 (desk its) (ran each_one (site_with holds) filter_tree (desk its)) x list

worked : (kept : Bool) (c after : Common) (bytes : List ℕ) → filter_step look c ≡ after →
    filter_registers after ≡ bytes → IsOnFilterRow look 4 c →
    (c.filter_ptr ≢ 0 → (site kept).holds FILTER_TABLE ≡ true) → IsWorked kept c after bytes
worked kept c after bytes steps writes on keeps = record {
  on = on;
  stands = stands kept c;
  plays = plays (site kept).holds c c after bytes steps writes (stands kept c) on keeps (shared kept);
}

on_row : (count pointer time kind control cutoff : ℕ) → pointer < count →
    (0x80 ≤ (row_at pointer).left → (row_at (pointer + 1)).left ≡ 0 → pointer + 1 < count) →
    IsOnFilterRow look count (state pointer time kind control cutoff)
on_row count pointer time kind control cutoff few pair =
    record { next = λ some. few; pair = λ some high zero. pair high zero }

stopped : (count time kind control cutoff : ℕ) → IsOnFilterRow look count (state 0 time kind control cutoff)
stopped count time kind control cutoff =
    record { next = λ some. absurd (some refl); pair = λ some high zero. absurd (some refl) }

stays : IsWorked false (state 0 0 0x10 0xF1 0x40) (state 0 0 0x10 0xF1 0x40) (0 ∷ 0x40 ∷ 0xF1 ∷ 0x1F ∷ [])
unfolding filter_step filter_registers
stays = worked false _ _ _ refl refl (stopped 4 0 0x10 0xF1 0x40) (λ some. absurd (some refl))

pub filters_are_worked : FiltersAreWorked
unfolding filter_step next_row filter_registers
filters_are_worked = record {
  room = λ kept. room (site kept).holds;
  uses = λ kept. uses (site kept).holds;
  table = λ kept. table (site kept).holds;
  shared = shared;
  sets = worked true _ _ _ refl refl (on_row 4 1 0 0 0 0 (omega arith) (λ high zero. omega arith)) (λ some. refl);
  slides =
      worked true _ _ _ refl refl (on_row 4 3 0 0x10 0xF1 0x40 (omega arith) (λ high zero. omega (arith, high)))
      (λ some. refl);
  jumps =
      worked true _ _ _ refl refl (on_row 4 3 1 0x10 0xF1 0x50 (omega arith) (λ high zero. omega (arith, high)))
      (λ some. refl);
  cuts =
      worked true _ _ _ refl refl (on_row 4 2 0 0x20 0xF2 0x50 (omega arith) (λ high zero. omega (arith, high)))
      (λ some. refl);
  stays = stays;
  none_stands = none_stands;
  none =
      plays bare.holds others (state 0 0 0 0 0) (state 0 0 0 0 0) (0 ∷ 0 ∷ 0 ∷ 0x0F ∷ []) refl refl none_stands
      (stopped 4 0 0 0 0) (λ some. absurd (some refl)) none_shared;
}

-- ---- rows

pub rows_are_worked : RowsAreWorked
rows_are_worked = record {
  last_but_one = on_row 4 3 0 0 0 0 (omega arith) (λ high zero. omega (arith, high));
  last = λ on. (let few = on.next (λ e. omega (arith, e)) in omega (arith, few));
  pair = on_row 3 1 0 0 0 0 (omega arith) (λ high zero. omega arith);
  half_a_pair = λ on. (let few = on.pair (λ e. omega (arith, e)) (omega arith) refl in omega (arith, few));
  none = stopped 0 0 0 0 0;
}

-- ---- runs

elsewhere_at : (place : ℕ) → (place < 0x1000) ⊎ (0x1071 ≤ place) → (place < 0x1200) ⊎ (0x1202 ≤ place) →
    (place < 0x1280) ⊎ (0x1282 ≤ place) → place ≢ 0xFB → place ≢ 0xFC → (place < 0xD400) ⊎ (0xD419 ≤ place) →
    IsElsewhere (site false) 2 place
elsewhere_at place variables low high pointer next registers = record {
  variables = off_piece (site false) 0x1000 (piece (site false).holds) place variables;
  slides_low = λ holds. low;
  slides_high = λ holds. high;
  low = pointer;
  high = next;
  registers = registers;
}

-- the run of the code that stays, which leaves just that
stays_accepted : Accepts Done (behind_with false right)
stays_accepted = record {
  ends = refl;
  decimal = refl;
  common = stays.plays.common;
  last = stays.plays.last;
  lent = stays.plays.lent;
  voices = stays.plays.voices;
  registers = stays.plays.registers;
  slides = λ kept row few. (let s = stays.plays.slides kept row few in record { low = s.low; high = s.high });
  elsewhere = stays.plays.elsewhere;
}

pub runs_are_refused : RunsAreRefused
runs_are_refused = record {
  accepted = stays_accepted;
  stuck = λ p. (let e = p.ends in absurd (cc));
  decimal = λ p. (let e = p.decimal in absurd (cc));
  common = λ p. (let e = p.common.1.1.1.1.0.0 refl in omega (arith, e));
  cutoff = λ p. (let e = p.last 1 (omega arith) in omega (arith, e));
  first = λ p. (let e = p.last 0 (omega arith) in omega (arith, e));
  last = λ p. (let e = p.last 3 (omega arith) in omega (arith, e));
  lent = λ p. (let e = p.lent.0 in omega (arith, e));
  command = λ p. (let e = p.lent.1.0 in omega (arith, e));
  param = λ p. (let e = p.lent.1.1.0 in omega (arith, e));
  voice_one = λ p. (let e = p.voices 0 23 (omega arith) refl in omega (arith, e));
  voice_two = λ p. (let e = p.voices 1 89 (omega arith) refl in omega (arith, e));
  voice_three = λ p. (let e = p.voices 2 26 (omega arith) refl in omega (arith, e));
  register = λ p. (let e = p.registers 20 (omega arith) in omega (arith, e));
  slide_low = λ p. (let e = (p.slides refl 1 (omega arith)).low in omega (arith, e));
  slide_high = λ p. (let e = (p.slides refl 0 (omega arith)).high in omega (arith, e));
  before = λ p.
      let e =
      p.elsewhere 0x0FFF
      (elsewhere_at 0x0FFF (inl (omega arith)) (inl (omega arith)) (inl (omega arith)) (λ q. omega (arith, q))
      (λ q. omega (arith, q)) (inl (omega arith))) in omega (arith, e);
  behind = λ p.
      let e =
      p.elsewhere 0x1071
      (elsewhere_at 0x1071 (inr (omega arith)) (inl (omega arith)) (inl (omega arith)) (λ q. omega (arith, q))
      (λ q. omega (arith, q)) (inl (omega arith))) in omega (arith, e);
  zero_page = λ p.
      let e =
      p.elsewhere 0xFD
      (elsewhere_at 0xFD (inl (omega arith)) (inl (omega arith)) (inl (omega arith)) (λ q. omega (arith, q))
      (λ q. omega (arith, q)) (inl (omega arith))) in omega (arith, e);
  behind_registers = λ p.
      let e =
      p.elsewhere 0xD419
      (elsewhere_at 0xD419 (inr (omega arith)) (inr (omega arith)) (inr (omega arith)) (λ q. omega (arith, q))
      (λ q. omega (arith, q)) (inr (omega arith))) in omega (arith, e);
}
