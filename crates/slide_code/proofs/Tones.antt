-- What the code of the slides to the note leaves, and of the tests on the command before it.
use Rattle.std.proofs.Common.{◌≡◌, ◌≢◌, ℕ, ◌+◌, ◌-◌, ◌/◌, ◌%◌, ◌<◌, ◌≤◌, Bool}
use Rattle.std.proofs.Common.{true, false, ◌||◌}
use Rattle.std.proofs.Common.{refl, sym, ap, ◌∙◌, arith, nat_eq, nat_le, nat_lt, min}
use Rattle.std.proofs.lemmas.Bool.{leb-true, leb-false, le-leb, not-true, not-false, both_ways, eqb-true, eqb-false}
use Rattle.cpu6502.specs.Registers.{one_if}
use Rattle.scopes.specs.Trees.{Tree, ThenTree, WhenTree, NeverTree}
use Rattle.play_model.specs.Wrap.{freq_minus, distance}
use Rattle.play_model.specs.Freq.{freq}
use Rattle.asked_numbers.specs.Range.{IsInRange}
use Rattle.player_memory.specs.declared.labels.TheConstants.{PARAM, FREQ_LOW, FREQ_HIGH, NOTE, FREQUENCY_LOWS}
use Rattle.player_memory.specs.declared.labels.TheConstants.{FREQUENCY_HIGHS}
use Rattle.player_memory.specs.declared.conditions.TheConstants.{TONE_PORTA}
use Rattle.player_desk.proofs.Laws.{VoiceDesk, Ways, Leads, body_of, indexed, listed, done_as}
use Rattle.player_text.specs.declared.joints.TheConstants.{UP}
use Rattle.slide_code.specs.SlideBlock.{slide_tree}
use Rattle.slide_code.proofs.Words.{IsWord}
use Rattle.slide_code.proofs.Distances.{difference, is_above, is_below, reaches_up, passes_up, reaches_down}
use Rattle.slide_code.proofs.Distances.{passes_down}
use Rattle.slide_code.proofs.SlideGrounds.{Running, Tells, HasSpeed, AtNamed, Stands}
use Rattle.slide_code.proofs.SlideGrounds.{low_read, high_read, AtFound, up_ways}
use Rattle.slide_code.proofs.Moves.{tells_over, word_of}
use Rattle.slide_code.proofs.Rules.{tie_arrives, near_arrives, far_passes, other_passes}
use Rattle.slide_code.proofs.Rules.{speed_of, up_is, down_is, tie_is, found_is, rises_is, falls_is}

-- ---- pieces of the tree

abbrev pub behind : Tree → Tree
behind (ThenTree first rest) = rest
behind tree = NeverTree

abbrev pub first_of : Tree → Tree
first_of (ThenTree first rest) = first
first_of tree = NeverTree

abbrev under : Tree → Tree
under (WhenTree condition body) = body
under tree = NeverTree

-- from each test on
abbrev pub from_speed : Tree
from_speed = behind (body_of UP slide_tree)

abbrev pub from_swing : Tree
from_swing = behind from_speed

abbrev pub from_up : Tree
from_up = behind from_swing

abbrev pub from_down : Tree
from_down = behind from_up

abbrev pub from_tie : Tree
from_tie = behind from_down

abbrev pub from_tone : Tree
from_tone = behind from_tie

-- the slide to the note, behind the line that takes its number into Y
abbrev tone_tree : Tree
tone_tree = behind (under (first_of from_tone))

-- ---- one of several conditions

pub first_holds : (a b : Bool) → a ≡ true → (a || b) ≡ true
first_holds true b e = refl
first_holds false b e = absurd (both_ways false refl e)

pub other_holds : (a b : Bool) → b ≡ true → (a || b) ≡ true
other_holds true b e = refl
other_holds false b e = e

pub first_of_three : (a b c : Bool) → a ≡ true → (a || b || c) ≡ true
first_of_three true b c e = refl
first_of_three false b c e = absurd (both_ways false refl e)

pub first_of_four : (a b c d : Bool) → a ≡ true → (a || b || c || d) ≡ true
first_of_four true b c d e = refl
first_of_four false b c d e = absurd (both_ways false refl e)

pub second_of_three : (a b c : Bool) → b ≡ true → (a || b || c) ≡ true
second_of_three true b c e = refl
second_of_three false b c e = rw e refl

pub second_of_four : (a b c d : Bool) → b ≡ true → (a || b || c || d) ≡ true
second_of_four true b c d e = refl
second_of_four false b c d e = rw e refl

-- ---- to the note

-- a note's frequency is a word
capped : (n : ℕ) → min 65535 n < 65536
capped n = grind arith

pub frequency_small : (n : ℕ) → freq n < 65536
unfolding freq
frequency_small n = by_note (nat_lt n 96) refl
  where
    by_note : (z : Bool) → nat_lt n 96 ≡ z → freq n < 65536
    by_note true e = rw e (capped _)
    by_note false e = rw e (omega arith)

-- Y is the note's number
record AtNumber (g : Running) (m : VoiceDesk) : Type 0 where
  tells : Tells g g.s.voice m
  y : m.y ≡ g.s.voice.note % 128
  has : HasSpeed g (speed_of g.look g.s.voice) m

abbrev tone_ways : Running → Ways
tone_ways g = done_as (Leads g.r (behind from_tone) (up_ways g)) (up_ways g)

distance_leads : (g : Running) (m : VoiceDesk) → Stands g → g.command ≡ 3 → g.s.voice.param ≢ 0 →
    g.r.layout.holds TONE_PORTA ≡ true → AtNumber g m → Leads g.r tone_tree (tone_ways g) m
distance_leads g m on is some kept at =
    listed FREQUENCY_LOWS m.y (freq m.y % 256) (on.notes.low m.y inside) refl
    (λ b e.
    listed FREQUENCY_HIGHS m.y (freq m.y / 256) (on.notes.high m.y inside) refl
    (λ c f. (
      λ above.
          low_read g.s.voice.param (speed % 256) on.row.places at.has.low param
          (λ sl low.
          high_read g.s.voice.param (speed / 256) on.row.places at.has.high param
          (λ sh high. (
            λ reached.
                arrives _ refl refl refl refl refl
                (reaches_down (away_low b) (away_high b c) sl sh word target speed (away b c e f) low high fast
                (from_above b c e f above) on.small (not-true _ reached)),
            λ not_reached. (
              λ down.
                  record {
                    time = g.s.voice.vib_time;
                    speed = speed;
                    tells = tells_over g g.s.voice m _ refl refl refl refl refl at.tells;
                    y = param;
                    carry = down;
                    has = record { low = at.has.low; high = at.has.high; small = fast };
                    is =
                        falls_is g.command g.look g.s.voice is some
                        (passes_down (away_low b) (away_high b c) sl sh word target speed (away b c e f) low high fast
                        (from_above b c e f above) on.small down)
                        (from_above b c e f above);
                    passes =
                        far_passes g.command g.look g.s.voice is some
                        (passes_down (away_low b) (away_high b c) sl sh word target speed (away b c e f) low high fast
                        (from_above b c e f above) on.small down);
                    drops = on.common.drop (second_of_three _ _ _ kept);
                    sinks = on.common.sink (second_of_four _ _ _ _ kept);
                  },
              λ lost. both_ways _ lost (not-false _ not_reached),
            ),
          ))),
      λ below.
          low_read g.s.voice.param (speed % 256) on.row.places at.has.low param
          (λ sl low.
          high_read g.s.voice.param (speed / 256) on.row.places at.has.high param
          (λ sh high. (
            λ reached.
                arrives _ refl refl refl refl refl
                (reaches_up (away_low b) (away_high b c) sl sh (one_if (borrow b c)) word target speed (away b c e f)
                low
                high fast (off (borrow b c) below) (from_below b c e f below) (frequency_small g.s.voice.note) reached),
            λ not_reached. (
              λ up.
                  record {
                    time = g.s.voice.vib_time;
                    speed = speed;
                    tells = tells_over g g.s.voice m _ refl refl refl refl refl at.tells;
                    y = param;
                    carry = not_reached;
                    has = record { low = at.has.low; high = at.has.high; small = fast };
                    is =
                        rises_is g.command g.look g.s.voice is some
                        (passes_up (away_low b) (away_high b c) sl sh (one_if (borrow b c)) word target speed
                        (away b c e f) low high fast (off (borrow b c) below) (from_below b c e f below)
                        (frequency_small g.s.voice.note) not_reached)
                        (from_below b c e f below);
                    passes =
                        far_passes g.command g.look g.s.voice is some
                        (passes_up (away_low b) (away_high b c) sl sh (one_if (borrow b c)) word target speed
                        (away b c e f) low high fast (off (borrow b c) below) (from_below b c e f below)
                        (frequency_small g.s.voice.note) not_reached);
                    climbs = on.common.climb (second_of_three _ _ _ kept);
                    rises = on.common.rise (second_of_four _ _ _ _ kept);
                  },
              λ lost. both_ways _ not_reached (not-false _ lost),
            ),
          ))),
    )))
  where
    param : m.own PARAM ≡ g.s.voice.param
    param = at.tells.done.fields.param on.effects

    speed : ℕ
    speed = speed_of g.look g.s.voice

    fast : speed < 65536
    fast = at.has.small

    word : ℕ
    word = g.s.voice.freq

    target : ℕ
    target = freq g.s.voice.note

    inside : IsInRange g.range m.y
    inside = rw at.y (on.looks.target is)

    same : freq m.y ≡ freq g.s.voice.note
    same = ap freq at.y ∙ on.sounds

    away_low : ℕ → ℕ
    away_low b = (m.own FREQ_LOW + (255 - b) + 1) % 256

    borrow : ℕ → ℕ → Bool
    borrow b c = nat_le 256 (m.own FREQ_HIGH + (255 - c) + one_if (nat_le 256 (m.own FREQ_LOW + (255 - b) + 1)))

    away_high : ℕ → ℕ → ℕ
    away_high b c = (m.own FREQ_HIGH + (255 - c) + one_if (nat_le 256 (m.own FREQ_LOW + (255 - b) + 1))) % 256

    its : IsWord (m.own FREQ_LOW) (m.own FREQ_HIGH) word
    its = word_of g g.s.voice m at.tells

    away : (b c : ℕ) → b ≡ freq m.y % 256 → c ≡ freq m.y / 256 →
        IsWord (away_low b) (away_high b c) (freq_minus word target)
    away b c e f =
        difference (m.own FREQ_LOW) (m.own FREQ_HIGH) word b c target on.small (frequency_small g.s.voice.note) its
        (e ∙ ap (λ n. n % 256) same) (f ∙ ap (λ n. n / 256) same)

    from_above : (b c : ℕ) → b ≡ freq m.y % 256 → c ≡ freq m.y / 256 → borrow b c ≡ true → target ≤ word
    from_above b c e f carry =
        is_above (m.own FREQ_LOW) (m.own FREQ_HIGH) word b c target on.small (frequency_small g.s.voice.note) its
        (e ∙ ap (λ n. n % 256) same) (f ∙ ap (λ n. n / 256) same) carry

    from_below : (b c : ℕ) → b ≡ freq m.y % 256 → c ≡ freq m.y / 256 → borrow b c ≡ false → word < target
    from_below b c e f carry =
        is_below (m.own FREQ_LOW) (m.own FREQ_HIGH) word b c target on.small (frequency_small g.s.voice.note) its
        (e ∙ ap (λ n. n % 256) same) (f ∙ ap (λ n. n / 256) same) carry

    off : (z : Bool) → z ≡ false → one_if z ≡ 0
    off z e = rw e refl

    arrives : (n : VoiceDesk) → n.own ≡ m.own → n.shared ≡ m.shared → n.sid ≡ m.sid →
        n.slide_low ≡ m.slide_low →
        n.slide_high ≡ m.slide_high → distance word target ≤ speed → AtFound g n
    arrives n own shared sid low high near = record {
      tells = tells_over g g.s.voice m n own shared sid low high at.tells;
      arrives = near_arrives g.command g.look g.s.voice is some near;
      is = found_is g.command g.look g.s.voice is some near;
      kept = on.common.found (first_holds _ _ kept);
    }

pub tone_leads : (g : Running) (m : VoiceDesk) → Stands g → g.command ≡ 3 → g.s.voice.param ≢ 0 → AtNamed g m →
    Leads g.r from_tone (up_ways g) m
tone_leads g m on is some at = (
  λ kept.
      let has = at.has (λ e. some) in
      distance_leads g (indexed (m.own NOTE) m) on is some kept (record {
        tells = tells_over g g.s.voice m _ refl refl refl refl refl at.tells;
        y = at.tells.done.fields.note;
        has = record { low = has.low; high = has.high; small = has.small };
      }),
  λ out. both_ways _ out (on.keeps.tone is some),
)

-- ---- the tests before it

-- Y compared with a number, and A
abbrev pub y_compared : ℕ → VoiceDesk → VoiceDesk
y_compared number m = record m {
  c = nat_le number m.y;
  z = nat_eq ((m.y + (256 - number)) % 256) 0;
  n = nat_le 128 ((m.y + (256 - number)) % 256);
}

abbrev pub a_compared : ℕ → VoiceDesk → VoiceDesk
a_compared number m = record m {
  c = nat_le number m.a;
  z = nat_eq ((m.a + (256 - number)) % 256) 0;
  n = nat_le 128 ((m.a + (256 - number)) % 256);
}

-- flags alone have changed
pub named_over : (g : Running) (m n : VoiceDesk) → n.own ≡ m.own → n.shared ≡ m.shared → n.sid ≡ m.sid →
    n.slide_low ≡ m.slide_low → n.slide_high ≡ m.slide_high → n.a ≡ m.a → n.y ≡ m.y → AtNamed g m → AtNamed g n
named_over g m n own shared sid low high a y at = record {
  tells = tells_over g g.s.voice m n own shared sid low high at.tells;
  a = a ∙ at.a;
  y = y ∙ at.y;
  has = λ needs. (let has = at.has needs in record
      { low = rw low has.low; high = rw high has.high; small = has.small });
}

pub tie_leads : (g : Running) (m : VoiceDesk) → Stands g → g.command ≡ 3 → AtNamed g m →
    Leads g.r from_tie (up_ways g) m
tie_leads g m on is at = (
  λ kept. (
    λ zero.
        let none : g.s.voice.param ≡ 0 = sym at.y ∙ tied m.y (rw at.y on.param) zero in
        record {
          tells = tells_over g g.s.voice m _ refl refl refl refl refl at.tells;
          arrives = tie_arrives g.command g.look g.s.voice is none;
          is = tie_is g.command g.look g.s.voice is none;
          kept = on.common.found (other_holds _ _ kept);
        },
    λ other.
        tone_leads g (y_compared 0 m) on is (λ e. eqb-false _ 0 other (untied m.y (at.y ∙ e)))
        (named_over g m (y_compared 0 m) refl refl refl refl refl refl refl at),
  ),
  λ out. tone_leads g m on is (λ e. both_ways _ out (on.keeps.tie is e)) at,
)
  where
    tied : (y : ℕ) → y < 256 → nat_eq ((y + (256 - 0)) % 256) 0 ≡ true → y ≡ 0
    tied y small e = (let z = eqb-true _ 0 e in omega (arith, z, small))

    untied : (y : ℕ) → y ≡ 0 → (y + (256 - 0)) % 256 ≡ 0
    untied y e = omega (arith, e)

pub down_leads : (g : Running) (m : VoiceDesk) → Stands g → 2 ≤ g.command → g.command ≤ 3 → AtNamed g m →
    Leads g.r from_down (up_ways g) m
down_leads g m on from to at = (
  λ kept. (
    λ zero.
        let is : g.command ≡ 2 = (let z = eqb-true _ 0 zero in let a = at.a in omega (arith, z, a, from, to)) in
        let has = at.has (λ e. absurd (omega (arith, is, e))) in
        record {
          time = g.s.voice.vib_time;
          speed = speed_of g.look g.s.voice;
          tells = tells_over g g.s.voice m _ refl refl refl refl refl at.tells;
          y = at.y;
          carry = le-leb 2 m.a (let a = at.a in omega (arith, a, is));
          has = record { low = has.low; high = has.high; small = has.small };
          is = down_is g.command g.look g.s.voice is;
          passes = other_passes g.command g.look g.s.voice (λ e. omega (arith, e, is));
          drops = on.common.drop (first_of_three _ _ _ kept);
          sinks = on.common.sink (first_of_four _ _ _ _ kept);
        },
    λ other.
        tie_leads g (a_compared 2 m) on
        (let z = eqb-false _ 0 other in three m.a (rw at.a from) (rw at.a to) z at.a)
        (named_over g m (a_compared 2 m) refl refl refl refl refl refl refl at),
  ),
  λ out. tie_leads g m on (not_two g.command from to (λ e. both_ways _ out (on.keeps.down e))) at,
)
  where
    three : (a : ℕ) → 2 ≤ a → a ≤ 3 → (a + (256 - 2)) % 256 ≢ 0 → a ≡ g.command → g.command ≡ 3
    three a from_a to_a z e = omega (arith, e, from_a, to_a, z)

    not_two : (n : ℕ) → 2 ≤ n → n ≤ 3 → n ≢ 2 → n ≡ 3
    not_two n from_n to_n other = omega (arith, from_n, to_n, other)

pub up_leads : (g : Running) (m : VoiceDesk) → Stands g → g.command ≤ 3 → AtNamed g m →
    Leads g.r from_up (up_ways g) m
up_leads g m on to at = (
  λ kept. (
    λ below.
        let is : g.command ≡ 1 =
        (let z = leb-false 2 m.a (not-true _ below) in let a = at.a in let l = on.least in omega (arith, z, a, l)) in
        let has = at.has (λ e. absurd (omega (arith, is, e))) in
        record {
          time = g.s.voice.vib_time;
          speed = speed_of g.look g.s.voice;
          tells = tells_over g g.s.voice m _ refl refl refl refl refl at.tells;
          y = at.y;
          carry = not-true _ below;
          has = record { low = has.low; high = has.high; small = has.small };
          is = up_is g.command g.look g.s.voice is;
          passes = other_passes g.command g.look g.s.voice (λ e. omega (arith, e, is));
          climbs = on.common.climb (first_of_three _ _ _ kept);
          rises = on.common.rise (first_of_four _ _ _ _ kept);
        },
    λ above.
        let from : 2 ≤ g.command = (let z = leb-true 2 m.a (not-false _ above) in let a = at.a in omega (arith, z, a))
        in
        down_leads g (a_compared 2 m) on from to
        (named_over g m (a_compared 2 m) refl refl refl refl refl refl refl at),
  ),
  λ out. down_leads g m on (two g.command on.least (λ e. both_ways _ out (on.keeps.up e))) to at,
)
  where
    two : (n : ℕ) → 1 ≤ n → n ≢ 1 → 2 ≤ n
    two n least other = omega (arith, least, other)
