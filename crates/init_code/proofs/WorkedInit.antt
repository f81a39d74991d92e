-- The code that begins a subtune, run; what the law on it asks; and what it refuses.
use Rattle.std.proofs.Common.{◌≡◌, ◌≢◌, ℕ, zero, suc, ◌+◌, ◌*◌, ◌/◌, ◌<◌, ◌≤◌}
use Rattle.std.proofs.Common.{◌∙◌, ◌&&◌, Bool, true, false, nat_eq, nat_le, nat_lt}
use Rattle.std.proofs.Common.{◌⊎◌, refl, ap, inl, inr, arith}
use Rattle.std.proofs.lemmas.Bool.{le-leb, lt-ltb, leb-true, ltb-true, eqb-true, and_parts, agree_below, agree_below_at}
use Rattle.std.proofs.lemmas.Bool.{both_ways}
use Rattle.std.proofs.lemmas.Bool.Decides.{leb_tells}
use Rattle.scopes.specs.Desk.{Layout}
use Rattle.code_runs.specs.Runs.{put}
use Rattle.code_runs.proofs.Laws.{put_other}
use Rattle.scopes.specs.Meaning.{Ran, Outcome, Again}
use Rattle.player_memory.specs.declared.labels.TheConstants.{ORDERS_LOW, ORDERS_HIGH, ORDER_LOW, ORDER_HIGH, VIB_DELAY, VOLUME}
use Rattle.player_memory.specs.declared.labels.TheConstants.{SLIDES_LOW, SLIDES_HIGH}
use Rattle.player_memory.specs.Rooms.{IsRoom, MayUse, IsElsewhere}
use Rattle.player_memory.specs.Playing.{place_in, own_at}
use Rattle.player_memory.specs.WorkedMemory.{everywhere, nowhere}
use Rattle.player_memory.specs.Starting.{VoiceBegins}
use Rattle.player_memory.specs.Fetching.{AreHalves}
use Rattle.player_memory.specs.declared.conditions.TheConstants.{SUBTUNES}
use Rattle.player_memory.proofs.Laws.{AreLaid, InOnePiece, in_one_piece, list_behind, off_variables}
use Rattle.init_code.specs.InitBlock.{IsOutOf, MayClear, IsOrderByte, HasOrders, IsUntouched}
use Rattle.init_code.specs.WorkedInit.{RunsAreWorked, SiteIsWorked, StartsAreWorked, site, its_address, its_memory}
use Rattle.init_code.specs.WorkedInit.{untimed, called, called_alone, numbers, at_timer, StartsSo, StartsAlone, began}
use Rattle.init_code.specs.WorkedInit.{began_alone, alone_memory, leaving}
use Rattle.init_code.proofs.Starting.{init_block_starts}

pub runs_are_worked : RunsAreWorked
runs_are_worked = record {
  first = record {
    ends = refl;
    variables_are = refl;
    registers = refl;
    timer_is = refl;
    slides = refl;
    cost_is = refl;
  };
  second = record {
    ends = refl;
    variables_are = refl;
    registers = refl;
    timer_is = refl;
    slides = refl;
    cost_is = refl;
  };
  first_timed = record {
    ends = refl;
    variables_are = refl;
    registers = refl;
    timer_is = refl;
    slides = refl;
    cost_is = refl;
  };
  second_timed = record {
    ends = refl;
    variables_are = refl;
    registers = refl;
    timer_is = refl;
    slides = refl;
    cost_is = refl;
  };
  first_bare = record {
    ends = refl;
    variables_are = refl;
    registers = refl;
    timer_is = refl;
    slides = refl;
    cost_is = refl;
  };
  alone_full = record {
    ends = refl;
    variables_are = refl;
    registers = refl;
    timer_is = refl;
    slides = refl;
    cost_is = refl;
  };
  alone = record {
    ends = refl;
    variables_are = refl;
    registers = refl;
    timer_is = refl;
    slides = refl;
    cost_is = refl;
  };
  fewer = record {
    ends = refl;
    variables_are = refl;
    registers = refl;
    timer_is = refl;
    slides = refl;
    cost_is = refl;
  };
  decimal = refl;
  decimal_alone = refl;
  no_timer = refl;
  no_lists = refl;
}

-- ---- what the law asks

piece : (layout : Layout) → AreLaid layout → InOnePiece layout 0x1006
piece layout laid = record {
  from = omega arith;
  to = omega arith;
  each = λ label few. eqb-true (layout.address label) (0x1006 + label)
      (agree_below_at (λ l. nat_eq (layout.address l) (0x1006 + l)) (λ _. true) 113 label laid few);
}

room_is : (holds : ℕ → Bool) → IsRoom (site holds) 4
room_is holds = record {
  variables = in_one_piece (site holds) 0x1006 (piece (site holds) refl);
  slides = λ kept. record {
    low = list_behind (site holds) 0x1006 (piece (site holds) refl) SLIDES_LOW 4 (omega arith) (omega arith)
        (omega arith);
    high = list_behind (site holds) 0x1006 (piece (site holds) refl) SLIDES_HIGH 4 (omega arith) (omega arith)
        (omega arith);
    apart = inl (omega arith);
  };
  pointer_low = omega arith;
  pointer_high = omega arith;
}

uses_are : (holds : ℕ → Bool) → MayUse (site holds) 4
uses_are holds = record {
  reads = λ label few.
      agree_below_at (λ l. (site holds).may_read ((site holds).address l)) (λ _. true) 113 label refl few;
  writes = λ label few.
      agree_below_at (λ l. (site holds).may_write ((site holds).address l)) (λ _. true) 113 label refl few;
  slides = λ kept its few. record {
    reads_low = agree_below_at (λ n. (site holds).may_read (0x1100 + n)) (λ _. true) 4 its refl few;
    reads_high = agree_below_at (λ n. (site holds).may_read (0x1104 + n)) (λ _. true) 4 its refl few;
    writes_low = agree_below_at (λ n. (site holds).may_write (0x1100 + n)) (λ _. true) 4 its refl few;
    writes_high = agree_below_at (λ n. (site holds).may_write (0x1104 + n)) (λ _. true) 4 its refl few;
  };
  registers = λ register few.
      agree_below_at (λ n. (site holds).may_write (0xD400 + n)) (λ _. true) 25 register refl (omega (arith, few));
}

elsewhere : (holds : ℕ → Bool) (place : ℕ) → 0x1108 ≤ place → (place < 0xD400) ⊎ (0xD419 ≤ place) →
    IsElsewhere (site holds) 4 place
elsewhere holds place from registers = record {
  variables = off_variables (site holds) refl place (inr (omega (arith, from)));
  slides_low = λ kept. inr (omega (arith, from));
  slides_high = λ kept. inr (omega (arith, from));
  low = λ e. omega (arith, from, e);
  high = λ e. omega (arith, from, e);
  registers = registers;
}

-- the byte of a list by its number, and where it stands
abbrev stands : ℕ → (ℕ → ℕ) → ℕ → Bool
stands label byte number =
    nat_eq (its_memory (place_in (site everywhere) label number)) (byte number)
    && (nat_le 0x1180 (place_in (site everywhere) label number)
    && nat_lt (place_in (site everywhere) label number) 0x1200)

found : (holds : ℕ → Bool) (label : ℕ) (byte : ℕ → ℕ) → agree_below (stands label byte) (λ _. true) 6 ≡ true →
    (number its : ℕ) → number < 6 → byte number ≡ its → IsOrderByte (site holds) 4 92 its_memory label number its
found holds label byte all number its few is = record {
  listed = record {
    elsewhere = away;
    reads = reads (le-leb 0x1000 place (omega (arith, from))) (lt-ltb place 0x1200 to);
    is = eqb-true (its_memory place) (byte number) parts.0 ∙ is;
  };
  untouched = record {
    elsewhere = away;
    cleared = inr (omega (arith, from));
    timer = λ set. inl (omega (arith, to));
  };
}
  where
    place : ℕ
    place = place_in (site holds) label number

    parts : (nat_eq (its_memory place) (byte number) ≡ true)
        × ((nat_le 0x1180 place && nat_lt place 0x1200) ≡ true)
    parts = and_parts (nat_eq (its_memory place) (byte number)) (nat_le 0x1180 place && nat_lt place 0x1200)
        (agree_below_at (stands label byte) (λ _. true) 6 number all few)

    from : 0x1180 ≤ place
    from = leb-true 0x1180 place (and_parts (nat_le 0x1180 place) (nat_lt place 0x1200) parts.1).0

    to : place < 0x1200
    to = ltb-true place 0x1200 (and_parts (nat_le 0x1180 place) (nat_lt place 0x1200) parts.1).1

    away : IsElsewhere (site holds) 4 place
    away = elsewhere holds place (omega (arith, from)) (inl (omega (arith, to)))

    reads : nat_le 0x1000 place ≡ true → nat_lt place 0x1200 ≡ true → (site holds).may_read place ≡ true
    reads low high = rw (low, high) refl

orders_are : (holds : ℕ → Bool) (subtune : ℕ) → holds SUBTUNES ≡ true → subtune < 2 →
    HasOrders (site holds) 4 92 its_memory subtune (its_address subtune)
orders_are holds subtune on few = record {
  low = λ same voice less.
      found holds ORDERS_LOW (λ number. 0x11 * number) refl (3 * subtune + voice) _ (omega (arith, few, less))
      (omega (arith, few, less));
  high = λ same voice less.
      found holds ORDERS_HIGH (λ number. 0x13 + number / 3) refl (3 * subtune + voice) _ (omega (arith, few, less))
      (omega (arith, few, less));
  own = λ off. absurd (both_ways (holds SUBTUNES) off on);
}

-- those of one subtune alone
own_is : (voice : ℕ) → voice < 3 →
    AreHalves (own_at (site nowhere) alone_memory voice ORDER_LOW) (own_at (site nowhere) alone_memory voice ORDER_HIGH)
    (its_address 1 voice)
own_is zero few = record { low_is = refl; high_is = refl }
own_is (suc zero) few = record { low_is = refl; high_is = refl }
own_is (suc (suc zero)) few = record { low_is = refl; high_is = refl }
own_is (suc (suc (suc more))) never = absurd (omega (arith, never))

alone_has : HasOrders (site nowhere) 4 92 alone_memory 1 (its_address 1)
alone_has = record {
  low = λ on. absurd (both_ways false refl on);
  high = λ on. absurd (both_ways false refl on);
  own = λ off. own_is;
}

-- neither is below or above
between : {place low high : ℕ} → low ≤ place → place < high → ¬ ((place < low) ⊎ (high ≤ place))
between from to (inl below) = omega (arith, from, below)
between from to (inr above) = omega (arith, to, above)

timer_apart : (place : ℕ) → 0xD419 ≤ place → (place < 0xDC04) ⊎ (0xDC06 ≤ place) →
    IsUntouched (site everywhere) 4 92 place
timer_apart place from out = record {
  cleared = inr (omega (arith, from));
  elsewhere = elsewhere everywhere place (omega (arith, from)) (inr from);
  timer = λ set. out;
}

-- a place beside the variables, in front of the slides
beside : (place : ℕ) → 0x0200 ≤ place → place < 0x1100 → (place < 0x1006) ⊎ (0x1077 ≤ place) →
    IsUntouched (site everywhere) 4 92 place
beside place from to off = record {
  elsewhere = record {
    variables = off_variables (site everywhere) refl place off;
    slides_low = λ kept. inl to;
    slides_high = λ kept. inl (omega (arith, to));
    low = λ e. omega (arith, from, e);
    high = λ e. omega (arith, from, e);
    registers = inl (omega (arith, to));
  };
  cleared = beyond off;
  timer = λ set. inl (omega (arith, to));
}
  where
    beyond : (place < 0x1006) ⊎ (0x1077 ≤ place) → IsOutOf 0x101B 92 place
    beyond (inl below) = inl (omega (arith, below))
    beyond (inr above) = inr above

timer_elsewhere : IsElsewhere (at_timer untimed) 4 0xDC05
timer_elsewhere = record {
  variables = off_variables (at_timer untimed) refl 0xDC05 (inr (omega arith));
  slides_low = λ kept. inr (omega arith);
  slides_high = λ kept. inr (omega arith);
  low = λ e. omega (arith, e);
  high = λ e. omega (arith, e);
  registers = inr (omega arith);
}

-- ---- what is cleared

-- each variable is at its place
at_place : (holds : ℕ → Bool) (label : ℕ) → label < 113 → (site holds).address label ≡ 0x1006 + label
at_place holds label few = (piece (site holds) refl).each label few

cleared_at : (holds : ℕ → Bool) (label : ℕ) → 21 ≤ label → label < 113 →
    (0x101B ≤ (site holds).address label) × ((site holds).address label < 0x101B + 92)
cleared_at holds label from few =
    let at = at_place holds label few in (omega (arith, at, from), omega (arith, at, few))

clears_are : (holds : ℕ → Bool) (count : ℕ) (at : ℕ → ℕ) →
    ((label : ℕ) → 21 ≤ label → label < 113 →
    ((0x101B ≤ (site holds).address label) × ((site holds).address label < 0x101B + count))
    ⊎ (IsOutOf 0x101B count ((site holds).address label) × (at ((site holds).address label) ≡ 0))) →
    1 ≤ count → count ≤ 92 → MayClear (site holds) 4 count at
clears_are holds count at each some few = record {
  some = some;
  few = few;
  to = omega (arith, few);
  writes = λ number less.
      agree_below_at (λ n. (site holds).may_write (0x101B + n)) (λ _. true) 92 number refl (omega (arith, less, few));
  low = λ kept row less. inr (omega (arith, few));
  high = λ kept row less. inr (omega (arith, few));
  front = λ label less. (let at = at_place holds label (omega (arith, less)) in inl (omega (arith, at, less)));
  each = each;
}

-- all of them
all_clear : (holds : ℕ → Bool) (at : ℕ → ℕ) → MayClear (site holds) 4 92 at
all_clear holds at =
    clears_are holds 92 at (λ label from few. inl (cleared_at holds label from few)) (omega arith) (omega arith)

-- eighty of them, where the others are 0
eighty : (label : ℕ) → 21 ≤ label → label < 113 →
    ((0x101B ≤ (site untimed).address label) × ((site untimed).address label < 0x101B + 80))
    ⊎ (IsOutOf 0x101B 80 ((site untimed).address label) × (◌≡◌ {A = ℕ} 0 0))
eighty label from few =
    let at = at_place untimed label few in
    elim (leb_tells 101 label) [
      | inl behind ↦ (let past = behind.1 in inr (inr (omega (arith, at, past)), refl))
      | inr inside ↦ (let to = inside.1 in inl (omega (arith, at, from), omega (arith, at, to)))
    ]

no_last : MayClear (site untimed) 4 91 its_memory → ⊥
no_last clear = elim (clear.each 112 (omega arith) (omega arith)) [
  | inl inside ↦ (let to = inside.1 in omega (arith, to))
  | inr out ↦ (let zero = out.1 in omega (arith, zero))
]

pub site_is_worked : SiteIsWorked
site_is_worked = record {
  room = room_is;
  uses = uses_are;
  clears = λ holds. all_clear holds its_memory;
  fewer = clears_are untimed 80 (λ place. 0) eighty (omega arith) (omega arith);
  not_zero = no_last;
  none = λ clear. (let some = clear.some in omega (arith, some));
  many = λ clear. (let few = clear.few in omega (arith, few));
  high = λ clear. (let to = clear.to in omega (arith, to));
  closed = λ clear. both_ways false refl (clear.writes 91 (omega arith));
  low_slide = λ clear. between (omega arith) (omega arith) (clear.low refl 0 (omega arith));
  high_slide = λ clear. between (omega arith) (omega arith) (clear.high refl 3 (omega arith));
  in_front = λ clear. between (omega arith) (omega arith) (clear.front 0 (omega arith));
  timer = λ holds. record { low = λ set. refl; high = λ set. refl };
  orders = orders_are;
  at_subtune = record { a = λ on. refl; byte = λ on. omega arith; decimal = refl };
  alone = alone_has;
  not_given = λ has. (let byte = (has.own refl 0 (omega arith)).low_is in omega (arith, byte));
  own_low = λ has. (let byte = (has.own refl 2 (omega arith)).low_is in omega (arith, byte));
  own_high = λ has. (let byte = (has.own refl 0 (omega arith)).high_is in omega (arith, byte));
  any_number = record {
    a = λ on. absurd (both_ways false refl on);
    byte = λ on. absurd (both_ways false refl on);
    decimal = refl;
  };
  low_alone = λ may. both_ways false refl (may.high refl);
  high_alone = λ may. both_ways false refl (may.low refl);
  no_timer = record { low = λ set. absurd (both_ways false refl set); high = λ set. absurd (both_ways false refl set) };
  third = λ has. (let byte = (has.low refl 0 (omega arith)).listed.is in omega (arith, byte));
  other_low = λ has. (let byte = (has.low refl 2 (omega arith)).listed.is in omega (arith, byte));
  other_high = λ has. (let byte = (has.high refl 0 (omega arith)).listed.is in omega (arith, byte));
  unread = λ has. both_ways false refl (has.high refl 0 (omega arith)).listed.reads;
  on_timer = λ byte. between (omega arith) (omega arith) (byte.untouched.timer refl);
  on_no_timer = record {
    listed = record { elsewhere = timer_elsewhere; reads = refl; is = refl };
    untouched = record {
      elsewhere = timer_elsewhere;
      cleared = inr (omega arith);
      timer = λ set. absurd (both_ways false refl set);
    };
  };
  before_timer = timer_apart 0xDC03 (omega arith) (inl (omega arith));
  timer_low = λ is. between (omega arith) (omega arith) (is.timer refl);
  timer_high = λ is. between (omega arith) (omega arith) (is.timer refl);
  behind_timer = timer_apart 0xDC06 (omega arith) (inr (omega arith));
  variable = λ is. is.elsewhere.variables 0 (omega arith) refl;
  before = beside 0x1005 (omega arith) (omega arith) (inl (omega arith));
  behind = beside 0x1077 (omega arith) (omega arith) (inr (omega arith));
  cleared = λ is. between (omega arith) (omega arith) is.cleared;
  other_a = λ is. (let a = is.a refl in omega (arith, a));
  last = record { a = λ on. refl; byte = λ on. omega arith; decimal = refl };
  over = λ is. (let byte = is.byte refl in omega (arith, byte));
  decimal = λ is. both_ways true is.decimal refl;
  decimal_alone = λ is. both_ways true is.decimal refl;
}

-- ---- what it may not leave

abbrev is_again : Outcome → Bool
is_again Again = true
is_again _ = false

started : (holds : ℕ → Bool) → holds SUBTUNES ≡ true → StartsSo holds (began holds 1)
started holds on =
    init_block_starts (site holds) 4 1 92 numbers (its_address 1) (called 1 false) (room_is holds) (uses_are holds)
    (all_clear holds its_memory) (record { low = λ set. refl; high = λ set. refl })
    (orders_are holds 1 on (omega arith)) (record { a = λ same. refl; byte = λ same. omega arith; decimal = refl })

started_alone : StartsAlone began_alone
started_alone =
    init_block_starts (site nowhere) 4 1 92 numbers (its_address 1) called_alone (room_is nowhere) (uses_are nowhere)
    (all_clear nowhere alone_memory) (record { low = λ set. refl; high = λ set. refl }) alone_has
    (record {
      a = λ on. absurd (both_ways false refl on);
      byte = λ on. absurd (both_ways false refl on);
      decimal = refl;
    })

-- the volume and a delay are other bytes
abbrev two_others : Ran
two_others = leaving (leaving began_alone (0x1006 + VOLUME) 14) (0x1006 + VIB_DELAY + 7) 9

apart_both : (at : ℕ → ℕ) (place : ℕ) → place ≢ 0x1006 + VOLUME → place ≢ 0x1006 + VIB_DELAY + 7 →
    put (put at (0x1006 + VOLUME) 14) (0x1006 + VIB_DELAY + 7) 9 place ≡ at place
apart_both at place volume delay =
    put_other (put at (0x1006 + VOLUME) 14) (0x1006 + VIB_DELAY + 7) 9 place delay
    ∙ put_other at (0x1006 + VOLUME) 14 place volume

as_before : (place : ℕ) → (place < 0x101B) ⊎ (0x1077 ≤ place) → two_others.desk.at place ≡ began_alone.desk.at place
as_before place (inl below) =
    apart_both began_alone.desk.at place (λ e. omega (arith, below, e)) (λ e. omega (arith, below, e))
as_before place (inr above) =
    apart_both began_alone.desk.at place (λ e. omega (arith, above, e)) (λ e. omega (arith, above, e))

not_kept : (one two : ℕ) → false ≡ true → one ≡ two
not_kept one two never = absurd (both_ways false refl never)

bare_voice : (voice : ℕ) → voice < 3 →
    VoiceBegins nowhere 5 (its_address 1 voice) (own_at (site nowhere) two_others.desk.at voice)
bare_voice zero few = let none = not_kept 0 255 in record { state = assumption none; song = assumption }
bare_voice (suc zero) few = let any = not_kept 9 255 in record { state = assumption any; song = assumption }
bare_voice (suc (suc zero)) few = let none = not_kept 0 255 in record { state = assumption none; song = assumption }
bare_voice (suc (suc (suc more))) never = absurd (omega (arith, never))

bare_any : StartsAlone two_others
bare_any = record {
  ends = refl;
  decimal = refl;
  begins = record {
    voices = bare_voice;
    common =
        let volume = not_kept 14 15 in
        let one = not_kept 0 8 in
        let two = not_kept 0 5 in assumption (volume, one, two);
    handed = assumption;
  };
  registers = λ register few.
      as_before (0xD400 + register) (inr (omega arith)) ∙ started_alone.registers register few;
  timer_low = refl;
  timer_high = refl;
  slides = λ kept. absurd (both_ways false refl kept);
  others = λ place is. as_before place is.cleared ∙ started_alone.others place is;
}

pub starts_are_worked : StartsAreWorked
starts_are_worked = record {
  timed = started everywhere refl;
  not_timed = started untimed refl;
  not_ended = λ starts. both_ways true (ap is_again starts.ends) refl;
  decimal = λ starts. both_ways true starts.decimal refl;
  own = λ starts. (let byte = (starts.begins.voices 2 (omega arith)).state.0 refl in omega (arith, byte));
  common = λ starts. (let byte = starts.begins.common.1.1.1.1.1.0 refl in omega (arith, byte));
  delay = λ starts.
      (let byte = (starts.begins.voices 1 (omega arith)).state.1.1.1.1.1.1.1.1.1.1.1.1.0 refl in omega (arith, byte));
  gate = λ starts.
      (let byte = (starts.begins.voices 0 (omega arith)).state.1.1.1.1.1.1.1.1.1.1.1.1.1.1.0 refl in omega (arith, byte));
  instrument = λ starts. (let byte = (starts.begins.voices 1 (omega arith)).state.1.1.0 refl in omega (arith, byte));
  order = λ starts. (let byte = (starts.begins.voices 2 (omega arith)).song.1.1.0 in omega (arith, byte));
  pattern = refl;
  alone = started_alone;
  alone_any = bare_any;
  alone_own = λ starts. (let byte = (starts.begins.voices 2 (omega arith)).state.0 refl in omega (arith, byte));
  alone_order = λ starts. (let byte = (starts.begins.voices 1 (omega arith)).song.1.1.1.0 in omega (arith, byte));
  other_subtune = λ starts. (let byte = (starts.begins.voices 0 (omega arith)).song.1.1.0 in omega (arith, byte));
  other_tempo = λ starts. (let byte = starts.begins.common.1.1.1.1.1.1.1.0 refl in omega (arith, byte));
  other_funk = λ starts. (let byte = starts.begins.common.1.1.1.1.1.1.0 refl in omega (arith, byte));
  first_register = λ starts. (let byte = starts.registers 0 (omega arith) in omega (arith, byte));
  last_register = λ starts. (let byte = starts.registers 24 (omega arith) in omega (arith, byte));
  timer_low = λ starts. (let byte = starts.timer_low in omega (arith, byte));
  timer_high = λ starts. (let byte = starts.timer_high in omega (arith, byte));
  no_timer_low = λ starts. (let byte = starts.timer_low in omega (arith, byte));
  no_timer_high = λ starts. (let byte = starts.timer_high in omega (arith, byte));
  low_slide = λ starts. (let byte = (starts.slides refl 3 (omega arith)).low in omega (arith, byte));
  high_slide = λ starts. (let byte = (starts.slides refl 3 (omega arith)).high in omega (arith, byte));
  elsewhere = λ starts. (let byte =
      starts.others 0x1005 (beside 0x1005 (omega arith) (omega arith) (inl (omega arith))) in omega (arith, byte));
}
