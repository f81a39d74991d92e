-- The code of the effect step, run; and what the law on it asks.
use Rattle.std.proofs.Common.{◌≡◌, ℕ, zero, suc, ◌+◌, ◌-◌, ◌/◌, ◌%◌, ◌<◌, ◌≤◌}
use Rattle.std.proofs.Common.{◌⊎◌, true, false, nat_lt}
use Rattle.std.proofs.Common.{refl, sym, subst, inl, inr, arith}
use Rattle.std.proofs.lemmas.Bool.{lt-ltb, le-ltb, true≢false}
use Rattle.song_model.specs.declared.tables.TableRow.{TableRow}
use Rattle.play_model.specs.LookUps.{LookUps}
use Rattle.play_model.specs.Freq.{freq, slide}
use Rattle.play_model.specs.Helpers.{porta_up}
use Rattle.play_model.specs.State.{Voice, start_common}
use Rattle.play_model.specs.TickStep.{tempo_of}
use Rattle.asked_numbers.specs.Range.{IsInRange}
use Rattle.scopes.specs.Meaning.{Outcome, Done}
use Rattle.player_memory.specs.declared.labels.TheConstants.{FREQUENCY_LOWS, FREQUENCY_HIGHS, SPEED_LEFTS, SPEED_RIGHTS}
use Rattle.player_memory.specs.declared.labels.TheConstants.{PERIODS}
use Rattle.player_memory.specs.Rooms.{IsElsewhere}
use Rattle.player_memory.specs.Variables.{VoiceBytesStand}
use Rattle.player_memory.specs.Playing.{own_at, place_in, IsListed}
use Rattle.player_desk.proofs.Laws.{Fields, fields_of}
use Rattle.slide_code.specs.SlideBlock.{HasHalfTones, HasSpeed, IsOf, left_by}
use Rattle.slide_code.specs.WorkedSlides.{laid, its_range, lists, speeds, SlidesAreWorked, GroundsAreWorked}
use Rattle.slide_code.specs.WorkedSlides.{OthersAreDenied, RunsAreDenied, looked_up, slid, voice_with, LooksUp}
use Rattle.player_memory.proofs.Laws.{off_variables}

pub slides_are_worked : SlidesAreWorked
unfolding freq
slides_are_worked = record {
  up = record { way_is = refl; time_is = refl; low_is = refl; high_is = refl };
  down = record { way_is = refl; time_is = refl; low_is = refl; high_is = refl };
  over = record { way_is = refl; time_is = refl; low_is = refl; high_is = refl };
  under = record { way_is = refl; time_is = refl; low_is = refl; high_is = refl };
  rises = record { way_is = refl; time_is = refl; low_is = refl; high_is = refl };
  falls = record { way_is = refl; time_is = refl; low_is = refl; high_is = refl };
  from_above = record {
    slid = record { way_is = refl; time_is = refl; low_is = refl; high_is = refl };
    number_is = refl;
  };
  above = record { way_is = refl; time_is = refl; low_is = refl; high_is = refl };
  from_below = record {
    slid = record { way_is = refl; time_is = refl; low_is = refl; high_is = refl };
    number_is = refl;
  };
  below = record { way_is = refl; time_is = refl; low_is = refl; high_is = refl };
  tie = record {
    slid = record { way_is = refl; time_is = refl; low_is = refl; high_is = refl };
    number_is = refl;
  };
  tie_below = record {
    slid = record { way_is = refl; time_is = refl; low_is = refl; high_is = refl };
    number_is = refl;
  };
  swings = record { way_is = refl; time_is = refl; low_is = refl; high_is = refl };
  turns = record { way_is = refl; time_is = refl; low_is = refl; high_is = refl };
  goes_on = record { way_is = refl; time_is = refl; low_is = refl; high_is = refl };
  calculated = record { way_is = refl; time_is = refl; low_is = refl; high_is = refl };
  swings_by_note = record { way_is = refl; time_is = refl; low_is = refl; high_is = refl };
  slide_low = refl;
  slide_high = refl;
  instrument = record { way_is = refl; time_is = refl; low_is = refl; high_is = refl };
  plain_up = record { way_is = refl; time_is = refl; low_is = refl; high_is = refl };
  plain_swings = record { way_is = refl; time_is = refl; low_is = refl; high_is = refl };
  alone_up = refl;
  bare_up = record { way_is = refl; time_is = refl; low_is = refl; high_is = refl };
}

-- ---- the lists

elsewhere : (place : ℕ) → 0x2000 ≤ place → place < 0x2300 → IsElsewhere laid 4 place
elsewhere place from to = record {
  variables = off_variables laid refl place (inr (omega (arith, from)));
  slides_low = λ kept. inr (omega (arith, from));
  slides_high = λ kept. inr (omega (arith, from));
  low = λ same. omega (arith, same, from);
  high = λ same. omega (arith, same, from);
  registers = inl (omega (arith, to));
}

listed : (label number place byte : ℕ) → place_in laid label number ≡ place → lists place ≡ byte →
    0x2000 ≤ place →
    place < 0x2300 → IsListed laid 4 lists label number byte
listed label number place byte is holds from to =
    record { elsewhere = rw is (elsewhere place from to); reads = refl; is = rw is holds }

low_is : (n : ℕ) → n < 128 → lists (0x2000 + n) ≡ freq n % 256
low_is n few =
    let a : nat_lt (0x2000 + n) 0x1100 ≡ false = le-ltb (0x2000 + n) 0x1100 (omega arith) in
    let b : nat_lt (0x2000 + n) 0x1104 ≡ false = le-ltb (0x2000 + n) 0x1104 (omega arith) in
    let c : nat_lt (0x2000 + n) 0x2000 ≡ false = le-ltb (0x2000 + n) 0x2000 (omega arith) in
    let d : nat_lt (0x2000 + n) 0x2100 ≡ true = lt-ltb (0x2000 + n) 0x2100 (omega (arith, few)) in
    let number : 0x2000 + n - 0x2000 ≡ n = omega arith in
    rw (a, b, c, d, number) refl

high_is : (n : ℕ) → n < 128 → lists (0x2100 + n) ≡ freq n / 256
high_is n few =
    let a : nat_lt (0x2100 + n) 0x1100 ≡ false = le-ltb (0x2100 + n) 0x1100 (omega arith) in
    let b : nat_lt (0x2100 + n) 0x1104 ≡ false = le-ltb (0x2100 + n) 0x1104 (omega arith) in
    let c : nat_lt (0x2100 + n) 0x2000 ≡ false = le-ltb (0x2100 + n) 0x2000 (omega arith) in
    let d : nat_lt (0x2100 + n) 0x2100 ≡ false = le-ltb (0x2100 + n) 0x2100 (omega arith) in
    let e : nat_lt (0x2100 + n) 0x2200 ≡ true = lt-ltb (0x2100 + n) 0x2200 (omega (arith, few)) in
    let number : 0x2100 + n - 0x2100 ≡ n = omega arith in
    rw (a, b, c, d, e, number) refl

in_range : (n : ℕ) → 57 ≤ n → n < 128 → IsInRange its_range n
in_range n from below = record { from = from; below = omega (arith, below) }

below_end : (n : ℕ) → IsInRange its_range n → n < 128
below_end n inside = (let below = inside.below in omega (arith, below))

half_tones : HasHalfTones laid 4 lists its_range
half_tones = record {
  frequencies = record {
    low = λ n inside.
        let few = below_end n inside in
        listed FREQUENCY_LOWS n (0x2000 + n) (freq n % 256) (omega (arith, few)) (low_is n few) (omega arith)
        (omega (arith, few));
    high = λ n inside.
        let few = below_end n inside in
        listed FREQUENCY_HIGHS n (0x2100 + n) (freq n / 256) (omega (arith, few)) (high_is n few) (omega arith)
        (omega (arith, few));
  };
  next_low = refl;
  next_high = refl;
}

-- a row stands, by its number
record Stands (number : ℕ) (row : TableRow) : Type 0 where
  lefts : place_in laid SPEED_LEFTS number ≡ 0x2200 + number
  rights : place_in laid SPEED_RIGHTS number ≡ 0x2210 + number
  periods : place_in laid PERIODS number ≡ 0x2220 + number
  left : lists (0x2200 + number) ≡ row.left
  right : lists (0x2210 + number) ≡ row.right
  period : lists (0x2220 + number) ≡ row.left % 128
  low : row.left < 128 → lists (0x1100 + number) ≡ row.right
  high : row.left < 128 → lists (0x1104 + number) ≡ row.left

speed : (number : ℕ) (row : TableRow) → number ≤ 3 → row.left < 256 → row.right < 256 → Stands number row →
    HasSpeed laid 4 lists number row
speed number row few left right stands = record {
  sides = record {
    left = listed SPEED_LEFTS number (0x2200 + number) row.left stands.lefts stands.left (omega arith)
        (omega (arith, few));
    right = listed SPEED_RIGHTS number (0x2210 + number) row.right stands.rights stands.right (omega arith)
        (omega (arith, few));
    left_byte = left;
    right_byte = right;
  };
  period = λ kept.
      listed PERIODS number (0x2220 + number) (row.left % 128) stands.periods stands.period (omega arith)
      (omega (arith, few));
  low = λ kept plain. stands.low plain;
  high = λ kept plain. stands.high plain;
  low_listed = λ none. absurd (true≢false none);
  high_listed = λ none. absurd (true≢false none);
}

each : (number : ℕ) → number ≤ 3 → HasSpeed laid 4 lists number (speeds number)
each zero few =
    speed 0 (speeds 0) (omega arith) (omega arith) (omega arith)
    (record {
      lefts = refl;
      rights = refl;
      periods = refl;
      left = refl;
      right = refl;
      period = refl;
      low = λ plain. refl;
      high = λ plain. refl;
    })
each (suc zero) few =
    speed 1 (speeds 1) (omega arith) (omega arith) (omega arith)
    (record {
      lefts = refl;
      rights = refl;
      periods = refl;
      left = refl;
      right = refl;
      period = refl;
      low = λ plain. refl;
      high = λ plain. refl;
    })
each (suc (suc zero)) few =
    speed 2 (speeds 2) (omega arith) (omega arith) (omega arith)
    (record {
      lefts = refl;
      rights = refl;
      periods = refl;
      left = refl;
      right = refl;
      period = refl;
      low = λ plain. absurd (omega (arith, plain));
      high = λ plain. absurd (omega (arith, plain));
    })
each (suc (suc (suc zero))) few =
    speed 3 (speeds 3) (omega arith) (omega arith) (omega arith)
    (record {
      lefts = refl;
      rights = refl;
      periods = refl;
      left = refl;
      right = refl;
      period = refl;
      low = λ plain. refl;
      high = λ plain. refl;
    })
each (suc (suc (suc (suc more)))) few = absurd (omega (arith, few))

-- ---- what is asked, and what is refused

-- command 3 slides to a note in the range, by a speed that isn't calculated
slides_to : (look : LookUps) (note : ℕ) → 57 ≤ note % 128 → LooksUp look 3 (voice_with 3 1 note)
slides_to look note from = record {
  target = λ is. in_range (note % 128) from (omega arith);
  half_tone_from = λ high. absurd (omega (arith, high));
  half_tone_to = λ high. absurd (omega (arith, high));
}

pub grounds_are_worked : (look : LookUps) → GroundsAreWorked look
grounds_are_worked look = record {
  half_tones = half_tones;
  speeds = record { few = omega arith; slides = λ kept. omega arith; each = each };
  runs = record {
    a = refl;
    least = omega arith;
    most = omega arith;
    its = inl refl;
    param = omega arith;
    frequency = omega arith;
    note = record { byte = omega arith; sounds = inl (omega arith) };
  };
  below = record {
    a = refl;
    least = omega arith;
    most = omega arith;
    its = inl refl;
    param = omega arith;
    frequency = omega arith;
    note = record { byte = omega arith; sounds = inr (omega arith) };
  };
  instrument = record {
    a = refl;
    least = omega arith;
    most = omega arith;
    its = inr (refl, refl);
    param = omega arith;
    frequency = omega arith;
    note = record { byte = omega arith; sounds = inl (omega arith) };
  };
  slides_to = slides_to look 57 (omega arith);
  slides_below = slides_to look 240 (omega arith);
  half_tone = record {
    target = λ is. absurd (omega (arith, is));
    half_tone_from = λ high. in_range 57 (omega arith) (omega arith);
    half_tone_to = λ high. in_range 58 (omega arith) (omega arith);
  };
  other_note = record {
    target = λ is. absurd (omega (arith, is));
    half_tone_from = λ high. absurd (omega (arith, high));
    half_tone_to = λ high. absurd (omega (arith, high));
  };
  no_half_tone = record {
    target = λ is. absurd (omega (arith, is));
    half_tone_from = λ high. absurd (omega (arith, high));
    half_tone_to = λ high. absurd (omega (arith, high));
  };
  keeps = record {
    up = λ is. refl;
    down = λ is. refl;
    tone = λ is some. refl;
    tie = λ is none. refl;
    swings = λ is. refl;
    calculates = λ needs from. refl;
  };
  keeps_plain = record {
    up = λ is. refl;
    down = λ is. refl;
    tone = λ is some. refl;
    tie = λ is none. refl;
    swings = λ is. refl;
    calculates = λ needs from. absurd (omega (arith, from));
  };
  common = record {
    swings = λ any. refl;
    climb = λ any. refl;
    drop = λ any. refl;
    rise = λ any. refl;
    sink = λ any. refl;
    found = λ any. refl;
    effects = λ any. refl;
  };
}

not_another : IsOf 4 1 → ⊥
not_another (inl e) = omega (arith, e)
not_another (inr e) = (let none = e.0 in omega (arith, none))

not_vibrato : IsOf 1 0 → ⊥
not_vibrato (inl e) = omega (arith, e)
not_vibrato (inr e) = (let four = e.1 in omega (arith, four))

not_a_note : ((223 < 128) ⊎ (224 ≤ 223)) → ⊥
not_a_note (inl e) = omega (arith, e)
not_a_note (inr e) = omega (arith, e)

pub others_are_denied : (look : LookUps) → OthersAreDenied look
unfolding freq
others_are_denied look = record {
  first_number = λ has.
      (let is = (has.frequencies.low 57 (in_range 57 (omega arith) (omega arith))).is in omega (arith, is));
  last_number = λ has.
      (let is = (has.frequencies.high 127 (in_range 127 (omega arith) (omega arith))).is in omega (arith, is));
  low_label = λ has. (let next = has.next_low in omega (arith, next));
  high_label = λ has. (let next = has.next_high in omega (arith, next));
  target = λ looks. (let from = (looks.target refl).from in omega (arith, from));
  half_tone_from = λ looks. (let from = (looks.half_tone_from (omega arith)).from in omega (arith, from));
  half_tone_to = λ looks. (let below = (looks.half_tone_to (omega arith)).below in omega (arith, below));
  side = λ has. (let is = (has.each 1 (omega arith)).sides.right.is in omega (arith, is));
  row_0 = λ has. (let is = (has.each 0 (omega arith)).sides.left.is in omega (arith, is));
  period = λ has. (let is = ((has.each 2 (omega arith)).period (λ from. refl)).is in omega (arith, is));
  slide = λ has. (let is = (has.each 1 (omega arith)).high refl (omega arith) in omega (arith, is));
  few = λ has. (let slides = has.slides refl in omega (arith, slides));
  not_listed = λ has. (let is = ((has.each 1 (omega arith)).low_listed refl).is in omega (arith, is));
  none = λ on. (let least = on.least in omega (arith, least));
  fifth = λ on. (let most = on.most in omega (arith, most));
  another_a = λ on. (let a = on.a in omega (arith, a));
  another = λ on. not_another on.its;
  no_vibrato = λ on. not_vibrato on.its;
  fourth = λ on. (let param = on.param in omega (arith, param));
  frequency = λ on. (let frequency = on.frequency in omega (arith, frequency));
  note = λ on. not_a_note on.note.sounds;
  wide = λ on. (let byte = on.note.byte in omega (arith, byte));
  up = λ keeps. true≢false (sym (keeps.up refl));
  down = λ keeps. true≢false (sym (keeps.down refl));
  tone = λ keeps. true≢false (sym (keeps.tone refl (λ e. omega (arith, e))));
  tie = λ keeps. true≢false (sym (keeps.tie refl refl));
  swings = λ keeps. true≢false (sym (keeps.swings refl));
  calculates = λ keeps. true≢false (sym (keeps.calculates (λ e. absurd (omega (arith, e))) (omega arith)));
  common = λ keeps. true≢false (sym (keeps.climb refl));
  effects = λ keeps. true≢false (sym (keeps.effects refl));
}

-- another way than to the end
abbrev IsOther : Outcome → Type 0
IsOther Done = ⊥
IsOther outcome = Unit {0}

abbrev still_at : ℕ → ℕ
still_at = own_at laid (slid laid 1 0 57 0 0x34 0x12).desk.at 1

pub runs_are_denied : (look : LookUps) → RunsAreDenied look
unfolding freq slide porta_up
runs_are_denied look = record {
  way = λ says. subst IsOther (sym says.way) tt;
  number = λ says. (let number = (says.note refl).number in omega (arith, number));
  still = λ says. (let low = (its_fields says.plays.plays.own).freq_low in omega (arith, low));
  slide = λ says. (let low = (says.slides refl 3 (omega arith) (omega arith)).low in omega (arith, low));
}
  where
    after : Voice
    after = left_by 1 (looked_up look) (voice_with 1 1 57)

    its_fields : VoiceBytesStand laid.holds after (tempo_of 2 (start_common 1)) still_at →
        Fields laid.holds after (tempo_of 2 (start_common 1)) still_at
    its_fields stand = fields_of laid.holds after (tempo_of 2 (start_common 1)) still_at stand
