-- The worked memories, computed by the checker.
use Rattle.std.proofs.Common.{◌≡◌, ℕ, ◌+◌, ◌-◌, ◌/◌, ◌%◌, ◌<◌, ◌≤◌, Bool, true, false}
use Rattle.std.proofs.Common.{nat_lt, inl, inr, refl, ap}
use Rattle.std.proofs.Common.{arith}
use Rattle.std.proofs.lemmas.Bool.{true≢false, lt-ltb, le-ltb}
use Rattle.play_model.specs.Freq.{freq}
use Rattle.asked_numbers.specs.Range.{IsInRange}
use Rattle.scopes.specs.Meaning.{Outcome, Stuck}
use Rattle.player_memory.specs.Rooms.{IsRoom, MayUse, AreSlides, IsElsewhere}
use Rattle.player_memory.specs.Playing.{IsAtVoice, place_in}
use Rattle.player_memory.specs.declared.labels.TheConstants.{FREQUENCY_LOWS, FREQUENCY_HIGHS}
use Rattle.player_memory.specs.Frequencies.{HasFrequencies}
use Rattle.pitch_code.specs.WorkedPitches.{from_1000, its_range, with_lists, lending, NotesAreWorked}
use Rattle.pitch_code.specs.WorkedPitches.{ReturnsAreWorked, OthersAreDenied}
use Rattle.pitch_code.proofs.Giving.{given_back_block_gives}
use Rattle.player_memory.proofs.Laws.{InOnePiece, in_one_piece, off_piece, list_behind}
use Rattle.player_memory.specs.declared.labels.TheConstants.{SLIDES_LOW, SLIDES_HIGH}

piece : InOnePiece from_1000 0x1000
piece = record {
  from = omega arith;
  to = omega arith;
  each = λ label few. (let e : nat_lt label 113 ≡ true = lt-ltb label 113 few in rw e refl);
}

elsewhere : (place : ℕ) → 0x2000 ≤ place → place < 0x2300 → IsElsewhere from_1000 0 place
elsewhere place from to = record {
  variables = off_piece from_1000 0x1000 piece place (inr (omega (arith, from)));
  slides_low = λ kept. inl (omega (arith, to));
  slides_high = λ kept. inl (omega (arith, to));
  low = λ same. omega (arith, same, from);
  high = λ same. omega (arith, same, from);
  registers = inl (omega (arith, to));
}

low_is : (n : ℕ) → 57 ≤ n → n < 128 → with_lists (place_in from_1000 FREQUENCY_LOWS n) ≡ freq n % 256
low_is n above few =
    let place : (0x2000 + n) % 65536 ≡ 0x2000 + n = omega (arith, few) in
    let from : nat_lt (0x2000 + n) 0x2039 ≡ false = le-ltb (0x2000 + n) 0x2039 (omega (arith, above)) in
    let to : nat_lt (0x2000 + n) 0x2080 ≡ true = lt-ltb (0x2000 + n) 0x2080 (omega (arith, few)) in
    let number : 0x2000 + n - 0x2000 ≡ n = omega arith in
    rw (place, from, to, number) refl

high_is : (n : ℕ) → 57 ≤ n → n < 128 → with_lists (place_in from_1000 FREQUENCY_HIGHS n) ≡ freq n / 256
high_is n above few =
    let place : (0x2200 + n) % 65536 ≡ 0x2200 + n = omega (arith, few) in
    let from : nat_lt (0x2200 + n) 0x2039 ≡ false = le-ltb (0x2200 + n) 0x2039 (omega arith) in
    let behind : nat_lt (0x2200 + n) 0x2080 ≡ false = le-ltb (0x2200 + n) 0x2080 (omega arith) in
    let there : nat_lt (0x2200 + n) 0x2239 ≡ false = le-ltb (0x2200 + n) 0x2239 (omega (arith, above)) in
    let to : nat_lt (0x2200 + n) 0x2280 ≡ true = lt-ltb (0x2200 + n) 0x2280 (omega (arith, few)) in
    let number : 0x2200 + n - 0x2200 ≡ n = omega arith in
    rw (place, from, behind, there, to, number) refl

-- a number is one of a range
in_range : (first count n : ℕ) → first ≤ n → n < first + count → IsInRange (record { first = first; count = count }) n
in_range first count n from below = record { from = from; below = below }

lists : HasFrequencies from_1000 0 with_lists its_range
lists = record {
  low = λ n inside.
      let from = inside.from in
      let below = inside.below in record {
        elsewhere = elsewhere (place_in from_1000 FREQUENCY_LOWS n) (omega (arith, below)) (omega (arith, below));
        reads = refl;
        is = low_is n from (omega (arith, below));
      };
  high = λ n inside.
      let from = inside.from in
      let below = inside.below in record {
        elsewhere = elsewhere (place_in from_1000 FREQUENCY_HIGHS n) (omega (arith, below)) (omega (arith, below));
        reads = refl;
        is = high_is n from (omega (arith, below));
      };
}

pub notes_are_worked : NotesAreWorked
unfolding freq
notes_are_worked = record {
  lists = lists;
  lower = λ has. (let byte = (has.low 56 (in_range 56 72 56 (omega arith) (omega arith))).is in omega (arith, byte));
  higher = λ has. (let byte = (has.low 128 (in_range 57 72 128 (omega arith) (omega arith))).is in omega (arith, byte));
  first_low = λ has. (let byte = (has.low 57 (in_range 57 71 57 (omega arith) (omega arith))).is in omega (arith, byte));
  last_low = λ has. (let byte = (has.low 127 (in_range 57 71 127 (omega arith) (omega arith))).is in omega (arith, byte));
  first_high = λ has. (let byte = (has.high 57 (in_range 57 71 57 (omega arith) (omega arith))).is in omega (arith, byte));
  last_high = λ has.
      (let byte = (has.high 127 (in_range 57 71 127 (omega arith) (omega arith))).is in omega (arith, byte));
  last_note = refl;
  vib_time = refl;
  low = refl;
  high = refl;
  cost = refl;
  top_low = refl;
  top_high = refl;
  none_low = refl;
  none_high = refl;
  far_last_note = refl;
  far_low = refl;
  far_high = refl;
}

slides : AreSlides from_1000 0
slides = record {
  low = list_behind from_1000 0x1000 piece SLIDES_LOW 0 (omega arith) (omega arith) (omega arith);
  high = list_behind from_1000 0x1000 piece SLIDES_HIGH 0 (omega arith) (omega arith) (omega arith);
  apart = inl (omega arith);
}

room : IsRoom from_1000 0
room = record {
  variables = in_one_piece from_1000 0x1000 piece;
  slides = λ kept. slides;
  pointer_low = omega arith;
  pointer_high = omega arith;
}

uses : MayUse from_1000 0
uses = record {
  reads = λ label few. refl;
  writes = λ label few. refl;
  slides = λ kept row few. absurd (omega (arith, few));
  registers = λ register few. refl;
}

at_voice : (lent : ℕ) → IsAtVoice 1 (lending lent)
at_voice lent = record { x = refl; decimal = refl }

pub returns_are_worked : ReturnsAreWorked
returns_are_worked = record {
  room = room;
  uses = uses;
  at_voice = at_voice 1;
  back = (given_back_block_gives from_1000 0 1 (lending 1) room uses (omega arith) (at_voice 1)).lent refl refl;
  command = refl;
  param = refl;
  cost = refl;
  none = (given_back_block_gives from_1000 0 1 (lending 0) room uses (omega arith) (at_voice 0)).none refl;
  none_cost = refl;
}

abbrev pub is_stuck : Outcome → Bool
is_stuck Stuck = true
is_stuck _ = false

pub others_are_denied : OthersAreDenied
others_are_denied = record {
  stuck = λ g. true≢false (ap is_stuck g.ends);
  no_voice = λ g. (let e : 7 ≡ 0 = g.at_voice.x in omega (arith, e));
  command = λ g. (let e : 51 ≡ 109 = g.command in omega (arith, e));
  param = λ g. (let e : 52 ≡ 110 = g.param in omega (arith, e));
  lent = λ g. (let e : 1 ≡ 0 = g.lent in omega (arith, e));
  another = λ g.
      (let e : 0 ≡ 44 =
      g.leaves 0x102C (λ same. omega (arith, same)) (λ same. omega (arith, same)) (λ same. omega (arith, same)) in
      omega (arith, e));
  stuck_with_none = λ g. true≢false (ap is_stuck g.ends);
  no_voice_with_none = λ g. (let e : 7 ≡ 0 = g.at_voice.x in omega (arith, e));
  something = λ g. (let e : 109 ≡ 51 = g.leaves 0x1033 in omega (arith, e));
}
