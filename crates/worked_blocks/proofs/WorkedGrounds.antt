-- A voice in its song, and the code that fetches its row, worked.
use Rattle.std.proofs.Common.{◌≡◌, ℕ, zero, suc, ◌+◌, ◌-◌, ◌%◌, ◌<◌, ◌≤◌, ◌↔◌, true, false}
use Rattle.std.proofs.Common.{nat_lt, nat_le}
use Rattle.std.proofs.Common.{pos, All, [], ◌∷◌, slice_index, slice_index_or, refl, sym, ap, ◌∙◌, subst}
use Rattle.std.proofs.Common.{arith}
use Rattle.std.proofs.lemmas.Bool.{cond_both, le-leb, lt-ltb}
use Rattle.std.proofs.lemmas.List.Elements.{All-nil, All-cons}
use Rattle.song_model.specs.declared.orders.Step.{Step}
use Rattle.song_model.specs.Endless.{IsPatternByte}
use Rattle.song_model.specs.Walk.{played, prefix_of, cycle_of, no_step}
use Rattle.song_model.specs.Places.{first_place, place_of, place_after, prefix_places, cycle_places}
use Rattle.play_model.specs.LookUps.{LookUps}
use Rattle.song_facts.specs.Hold.{held_by, how_much}
use Rattle.base.proofs.Laws.{All-get_or_any}
use Rattle.packed_form.specs.declared.entries.EntryKind.TheVariants.{Note, Rests}
use Rattle.packed_form.specs.PackedSpells.{PackedSpells}
use Rattle.packed_form.specs.WalkCount.{looks_from}
use Rattle.scopes.specs.Desk.{Layout}
use Rattle.player_memory.specs.declared.labels.TheConstants.{ORDER_PLACE, TRANSPOSE, REPEAT}
use Rattle.player_memory.specs.declared.labels.TheConstants.{ORDERS, PATTERNS}
use Rattle.player_memory.specs.declared.labels.TheConstants.{PATTERNS_LOW, PATTERNS_HIGH, GATE_TIMERS}
use Rattle.player_memory.specs.Rooms.{IsRoom, MayUse}
use Rattle.player_memory.specs.Playing.{own_at, place_in, IsListed, IsPlaying}
use Rattle.player_memory.specs.Fetching.{AreListed, IsPattern, HasPattern, WalkStands, GoesOn, Repeats}
use Rattle.player_memory.specs.Fetching.{Walked}
use Rattle.player_memory.specs.Fetching.{NotWalked, AtEntry, InRun}
use Rattle.player_memory.specs.WorkedFetching.{its_rows, its_packed}
use Rattle.player_memory.proofs.Laws.{IsLaid, room_in, uses_in, behind_slides, playing_in, note_is, each_is}
use Rattle.fetch_code.specs.FetchBlock.{IsKept}
use Rattle.worked_blocks.specs.WorkedFetches.{laid, one_timed, its_order, at_start, at_first, in_run, at_note}
use Rattle.worked_blocks.specs.WorkedFetches.{with_one_timer, in_order, at_held}
use Rattle.worked_blocks.specs.WorkedGrounds.{timed_up, looked_up, on_row, on, IsSung, HasOrderIn}
use Rattle.worked_blocks.specs.WorkedGrounds.{HasRowsIn, HasNoteIn, HasHeldIn}
use Rattle.worked_blocks.specs.WorkedGrounds.{GroundsAreWorked}

-- ---- the room, and the voice

pub is_laid : IsLaid (laid false)
is_laid = record { variables = refl; low = refl; high = refl; pointer = refl }

pub room : IsRoom (laid false) 4
room = room_in (laid false) is_laid

pub uses : MayUse (laid false) 4
uses =
    uses_in (laid false) is_laid
    (record { reads = refl; writes = refl; reads_slides = refl; writes_slides = refl; registers = refl })

pub playing : IsPlaying (laid false) 1 (on 2) (at_note 2)
playing = playing_in (laid false) 1 (on 2) (at_note 2) refl refl refl

-- ---- its song

start : (look : LookUps) → IsSung look 0 (at_start 2)
unfolding place_of
start look = record {
  has = record { low_is = refl; high_is = refl };
  stands = AtEntry refl (NotWalked refl refl (GoesOn first_place refl refl refl refl refl));
}

-- behind the first pattern byte a play is left
goes_on : (at : ℕ → ℕ) → HasPattern (laid false) (played its_order 1) at → at ORDER_PLACE ≡ 3 →
    at TRANSPOSE ≡ 2 →
    at REPEAT ≡ 1 → WalkStands (laid false) its_order 1 at
unfolding played prefix_of cycle_of place_of place_after prefix_places cycle_places
goes_on at pattern place transpose repeat =
    Repeats refl (record { inside = omega arith; low = omega arith }) pattern place transpose repeat

first : (look : LookUps) → IsSung look 0 (at_first 2)
unfolding played prefix_of cycle_of
first look = record {
  has = record { low_is = refl; high_is = refl };
  stands =
      AtEntry refl
      (Walked (omega arith) (λ e. refl, λ e. refl) (record { low_is = refl; high_is = refl }) refl
      (goes_on (own_at (laid false) (at_first 2) 1) (record { low_is = refl; high_is = refl }) refl refl refl)
      (record {
        entry = record { instrument = 0; kind = Rests 1 };
        others = record { instrument = 0; kind = Note 0x60 } ∷ [];
        each = each_is;
        text = refl;
        left = refl;
      }));
}

run : (look : LookUps) → IsSung look 1 (in_run 2)
unfolding played prefix_of cycle_of
run look = record {
  has = record { low_is = refl; high_is = refl };
  stands =
      InRun (λ none. omega (arith, none)) (record { begun = omega arith; inside = omega arith; each = refl })
      (omega arith)
      (Walked (omega arith) (λ e. absurd (omega (arith, e)), λ e. absurd (omega (arith, e)))
      (record { low_is = refl; high_is = refl }) refl
      (goes_on (own_at (laid false) (in_run 2) 1) (record { low_is = refl; high_is = refl }) refl refl refl)
      (record {
        entry = record { instrument = 0; kind = Note 0x60 };
        others = [];
        each = note_is;
        text = refl;
        left = refl;
      }));
}

pub note : (look : LookUps) → IsSung look 2 (at_note 2)
unfolding played prefix_of cycle_of
note look = record {
  has = record { low_is = refl; high_is = refl };
  stands =
      AtEntry refl
      (Walked (omega arith) (λ e. absurd (omega (arith, e)), λ e. absurd (omega (arith, e)))
      (record { low_is = refl; high_is = refl }) refl
      (goes_on (own_at (laid false) (at_note 2) 1) (record { low_is = refl; high_is = refl }) refl refl refl)
      (record {
        entry = record { instrument = 0; kind = Note 0x60 };
        others = [];
        each = note_is;
        text = refl;
        left = refl;
      }));
}

-- ---- lists

reads_at : (place : ℕ) → nat_le 0x1000 place ≡ true → nat_lt place 0x1200 ≡ true →
    (laid false).may_read place ≡ true
reads_at place from to = rw (from, to) refl

-- a layout whose variables stand there, too, and whose code may read the same
record IsAlike (layout : Layout) : Type 0 where
  stands : IsLaid layout
  reads : layout.may_read ≡ (laid false).may_read

listed : (layout : Layout) → IsAlike layout → (at : ℕ → ℕ) (label number place byte : ℕ) →
    place_in layout label number ≡ place → at place ≡ byte → 0x1108 ≤ place → place < 0x1200 →
    IsListed layout 4 at label number byte
listed layout alike at label number place byte is holds from to = record {
  elsewhere = rw is (behind_slides layout alike.stands place from (omega (arith, to)));
  reads =
      ap layout.may_read is ∙ ap (λ may. may place) alike.reads
      ∙ reads_at place (le-leb 0x1000 place (omega (arith, from))) (lt-ltb place 0x1200 to);
  is = rw is holds;
}

laid_alike : IsAlike (laid false)
laid_alike = record { stands = is_laid; reads = refl }

here : (label number place byte : ℕ) → place_in (laid false) label number ≡ place → at_note 2 place ≡ byte →
    0x1108 ≤ place → place < 0x1200 → IsListed (laid false) 4 (at_note 2) label number byte
here = listed (laid false) laid_alike (at_note 2)

order_bytes : AreListed (laid false) 4 (at_note 2) ORDERS (0xF2 ∷ 0xD1 ∷ 0 ∷ 0xFF ∷ 0 ∷ [])
order_bytes zero few = here ORDERS 0 0x1130 0xF2 refl refl (omega arith) (omega arith)
order_bytes (suc zero) few = here ORDERS 1 0x1131 0xD1 refl refl (omega arith) (omega arith)
order_bytes (suc (suc zero)) few = here ORDERS 2 0x1132 0 refl refl (omega arith) (omega arith)
order_bytes (suc (suc (suc zero))) few = here ORDERS 3 0x1133 0xFF refl refl (omega arith) (omega arith)
order_bytes (suc (suc (suc (suc zero)))) few = here ORDERS 4 0x1134 0 refl refl (omega arith) (omega arith)
order_bytes (suc (suc (suc (suc (suc more))))) few = absurd (omega (arith, few))

-- ---- the orderlist

others_pass : (place : ℕ) → place < 3 → 0xD0 ≤ slice_index its_order.entries place →
    looks_from its_order place ≡ 1 + looks_from its_order (place + 1)
unfolding looks_from
others_pass zero few high = refl
others_pass (suc zero) few high = refl
others_pass (suc (suc zero)) few high = absurd (omega (arith, high))
others_pass (suc (suc (suc more))) few high = absurd (omega (arith, few))

pattern_stops : (place : ℕ) → place < 3 → IsPatternByte (slice_index its_order.entries place) →
    looks_from its_order place ≡ 0
unfolding looks_from
pattern_stops zero few low = absurd (omega (arith, low))
pattern_stops (suc zero) few low = absurd (omega (arith, low))
pattern_stops (suc (suc zero)) few low = refl
pattern_stops (suc (suc (suc more))) few low = absurd (omega (arith, few))

endmark_passes : looks_from its_order 3 ≡ 1 + looks_from its_order 0
unfolding looks_from
endmark_passes = refl

few_looks : (place : ℕ) → place ≤ 3 → looks_from its_order place < 255
unfolding looks_from
few_looks zero few = omega arith
few_looks (suc zero) few = omega arith
few_looks (suc (suc zero)) few = omega arith
few_looks (suc (suc (suc zero))) few = omega arith
few_looks (suc (suc (suc (suc more)))) few = absurd (omega (arith, few))

kept : (byte : ℕ) → byte < 0xFF → IsKept (laid false) byte
kept byte below =
    record { below = below; transpose = λ none. absurd (cc); repeat = λ none. absurd (cc) }

pub orderlist : HasOrderIn (laid false) (at_note 2) its_order
orderlist = record {
  address = omega arith;
  stands = order_bytes;
  endless = record { restart = omega arith; pattern = (2, 0, omega arith, refl, omega arith) };
  few = omega arith;
  each =
      All-cons (IsKept (laid false)) 0xF2 (0xD1 ∷ 0 ∷ []) (kept 0xF2 (omega arith))
      (All-cons (IsKept (laid false)) 0xD1 (0 ∷ []) (kept 0xD1 (omega arith))
      (All-cons (IsKept (laid false)) 0 [] (kept 0 (omega arith)) (All-nil (IsKept (laid false)))));
  walks = record {
    goes_on = record { pattern = pattern_stops; other = others_pass; endmark = endmark_passes };
    within = few_looks;
  };
}

-- ---- the pattern

abbrev IsZero : Step → Type 0
IsZero step = step.pattern ≡ 0

abbrev its_play : Step
its_play = record { pattern = 0; transpose = pos 2 }

two_plays : All IsZero (its_play ∷ its_play ∷ [])
two_plays = All-cons IsZero its_play (its_play ∷ []) refl (All-cons IsZero its_play [] refl (All-nil IsZero))

pub plays_zero : (n : ℕ) → (played its_order n).pattern ≡ 0
unfolding played prefix_of cycle_of
plays_zero n =
    cond_both (nat_lt n 2) (slice_index_or (prefix_of its_order) n no_step)
    (slice_index_or (cycle_of its_order) ((n - 2) % 2) no_step) IsZero
    (λ z. All-get_or_any IsZero (prefix_of its_order) n no_step refl two_plays)
    (λ z. All-get_or_any IsZero (cycle_of its_order) ((n - 2) % 2) no_step refl two_plays)

pub its_spelling : PackedSpells (its_packed 0) its_rows
its_spelling = record {
  entries = record { instrument = 0; kind = Rests 1 } ∷ record { instrument = 0; kind = Note 0x60 } ∷ [];
  each = each_is;
  text = refl;
  are = refl;
  count = record { least = omega arith; most = omega arith };
}

-- it stands there in such a layout, in a memory with the same bytes
record HasPatternAt (layout : Layout) (at : ℕ → ℕ) : Type 0 where
  address : layout.address PATTERNS ≡ 0x1140
  lows : layout.address PATTERNS_LOW ≡ 0x1110
  highs : layout.address PATTERNS_HIGH ≡ 0x1118
  low : at 0x1110 ≡ 0x3F
  high : at 0x1118 ≡ 0x11
  first : at 0x1140 ≡ 0xC1
  second : at 0x1141 ≡ 0x60
  last : at 0x1142 ≡ 0

pattern_bytes : (layout : Layout) → IsAlike layout → (at : ℕ → ℕ) → HasPatternAt layout at →
    AreListed layout 4 at PATTERNS (0xC1 ∷ 0x60 ∷ 0 ∷ [])
pattern_bytes layout alike at has zero few =
    listed layout alike at PATTERNS 0 0x1140 0xC1 (rw has.address refl) has.first (omega arith) (omega arith)
pattern_bytes layout alike at has (suc zero) few =
    listed layout alike at PATTERNS 1 0x1141 0x60 (rw has.address refl) has.second (omega arith) (omega arith)
pattern_bytes layout alike at has (suc (suc zero)) few =
    listed layout alike at PATTERNS 2 0x1142 0 (rw has.address refl) has.last (omega arith) (omega arith)
pattern_bytes layout alike at has (suc (suc (suc more))) few = absurd (omega (arith, few))

pattern_at : (timer : ℕ) (look : LookUps) (layout : Layout) → IsAlike layout → (at : ℕ → ℕ) → HasPatternAt layout at →
    IsPattern layout 4 at (timed_up timer look) 0 (its_packed 0)
pattern_at timer look layout alike at has =
    let address = has.address in record {
      spells = its_spelling;
      few = omega arith;
      listed = pattern_bytes layout alike at has;
      from = omega (arith, address);
      to = omega (arith, address);
      low =
          rw address
          (listed layout alike at PATTERNS_LOW 0 0x1110 0x3F (rw has.lows refl) has.low (omega arith) (omega arith));
      high =
          rw address
          (listed layout alike at PATTERNS_HIGH 0 0x1118 0x11 (rw has.highs refl) has.high (omega arith) (omega arith));
      before = rw address (behind_slides layout alike.stands 0x113F (omega arith) (omega arith));
      reads_before = rw (address, alike.reads) refl;
    }

-- each play is one of it
patterns_at : (timer : ℕ) (look : LookUps) (layout : Layout) → IsAlike layout → (at : ℕ → ℕ) → HasPatternAt layout at →
    (n : ℕ) → IsPattern layout 4 at (timed_up timer look) (played its_order n).pattern
    (its_packed (played its_order n).pattern)
patterns_at timer look layout alike at has n =
    subst (λ p. IsPattern layout 4 at (timed_up timer look) p (its_packed p)) (sym (plays_zero n))
    (pattern_at timer look layout alike at has)

pattern_here : HasPatternAt (laid false) (at_note 2)
pattern_here = record {
  address = refl;
  lows = refl;
  highs = refl;
  low = refl;
  high = refl;
  first = refl;
  second = refl;
  last = refl;
}

pub rows : (look : LookUps) → HasRowsIn (at_note 2) (looked_up look) (on_row 2)
rows look = record {
  pattern = patterns_at 2 look (laid false) laid_alike (at_note 2) pattern_here;
  timer = λ kept. here GATE_TIMERS 1 0x1121 2 refl refl (omega arith) (omega arith);
  gates = λ out. absurd (cc out);
  envelopes = λ out. absurd (cc out);
  one_timer = λ out. absurd (cc out);
  timer_byte = omega arith;
  tick = omega arith;
  gate_timer = omega arith;
  command = omega arith;
  keeps = record {
    gate = λ is. refl;
    tone = λ is. refl;
    legato = λ is. refl;
    soft = λ is. refl;
    shared = record {
      tone = λ on. refl;
      slide = λ on. refl;
      once = λ on. refl;
      delay = λ on. refl;
      command = λ on. refl;
      legato = λ on. refl;
      soft = λ on. refl;
      filter = λ on. refl;
      control = λ on. refl;
      cutoff = λ on. refl;
    };
  };
}

-- the same with one timer for all instruments
one_alike : IsAlike one_timed
one_alike =
    record { stands = record { variables = refl; low = refl; high = refl; pointer = refl }; reads = refl }

pattern_alone : HasPatternAt one_timed (with_one_timer 2 (at_note 2))
pattern_alone = record {
  address = refl;
  lows = refl;
  highs = refl;
  low = refl;
  high = refl;
  first = refl;
  second = refl;
  last = refl;
}

one_timer : (look : LookUps) → HasNoteIn one_timed (with_one_timer 2 (at_note 2)) look
one_timer look = record {
  pattern = patterns_at 2 look one_timed one_alike (with_one_timer 2 (at_note 2)) pattern_alone;
  timer = λ kept. absurd (cc kept);
  gates = λ out kept. absurd (cc kept);
  envelopes = λ out kept. absurd (cc kept);
  one_timer = λ out. record {
    elsewhere = behind_slides one_timed one_alike.stands 0x1128 (omega arith) (omega arith);
    reads = refl;
    is = refl;
  };
  timer_byte = omega arith;
  tick = omega arith;
  gate_timer = omega arith;
  command = omega arith;
  keeps = record {
    gate = λ is. refl;
    tone = λ is. refl;
    legato = λ is. absurd (is refl);
    soft = λ is. absurd (is.1 refl);
    shared = record {
      tone = λ on. refl;
      slide = λ on. refl;
      once = λ on. refl;
      delay = λ on. refl;
      command = λ on. refl;
      legato = λ on. absurd (cc on);
      soft = λ on. absurd (cc on);
      filter = λ on. refl;
      control = λ on. refl;
      cutoff = λ on. refl;
    };
  };
}

-- the same in the order of what instruments hold
ordered_alike : IsAlike in_order
ordered_alike =
    record { stands = record { variables = refl; low = refl; high = refl; pointer = refl }; reads = refl }

pattern_held : (timer gate envelope : ℕ) → HasPatternAt in_order (at_held timer gate envelope)
pattern_held timer gate envelope = record {
  address = refl;
  lows = refl;
  highs = refl;
  low = refl;
  high = refl;
  first = refl;
  second = refl;
  last = refl;
}

ordered : (look : LookUps) (timer gate envelope : ℕ) → timer < 256 →
    (gate ≤ 1) ↔ (2 ≤ how_much (held_by timer)) → (envelope ≤ 1) ↔ (1 ≤ how_much (held_by timer)) →
    HasHeldIn in_order timer gate envelope look
ordered look timer gate envelope small tells_gate tells_envelope = record {
  pattern = patterns_at timer look in_order ordered_alike (at_held timer gate envelope)
      (pattern_held timer gate envelope);
  timer = λ first. absurd (cc first);
  gates = λ out kept. record {
    from = gate;
    stands = record {
      elsewhere = behind_slides in_order ordered_alike.stands 0x1129 (omega arith) (omega arith);
      reads = refl;
      is = refl;
    };
    tells = tells_gate;
  };
  envelopes = λ out kept. record {
    from = envelope;
    stands = record {
      elsewhere = behind_slides in_order ordered_alike.stands 0x112A (omega arith) (omega arith);
      reads = refl;
      is = refl;
    };
    tells = tells_envelope;
  };
  one_timer = λ out. absurd (cc out);
  timer_byte = small;
  tick = omega arith;
  gate_timer = omega arith;
  command = omega arith;
  keeps = record {
    gate = λ is. refl;
    tone = λ is. refl;
    legato = λ is. refl;
    soft = λ is. refl;
    shared = record {
      tone = λ on. refl;
      slide = λ on. refl;
      once = λ on. refl;
      delay = λ on. refl;
      command = λ on. refl;
      legato = λ on. refl;
      soft = λ on. refl;
      filter = λ on. refl;
      control = λ on. refl;
      cutoff = λ on. refl;
    };
  };
}

pub grounds_are_worked : (look : LookUps) → GroundsAreWorked look
grounds_are_worked look = record {
  room = room;
  uses = uses;
  at_voice = record { x = refl; decimal = refl };
  playing = playing;
  none_lent = refl;
  start = start look;
  first = first look;
  run = run look;
  note = note look;
  orderlist = orderlist;
  rows = rows look;
  one_timer = one_timer look;
  gate = ordered look 0x42 1 1 (omega arith) (λ h. omega arith, λ h. omega arith) (λ h. omega arith, λ h. omega arith);
  envelope = ordered look 0x82 2 1 (omega arith) (λ h. omega (arith, h), λ h. omega (arith, h))
      (λ h. omega arith, λ h. omega arith);
  neither = ordered look 0x3F 2 2 (omega arith) (λ h. omega (arith, h), λ h. omega (arith, h))
      (λ h. omega (arith, h), λ h. omega (arith, h));
}
