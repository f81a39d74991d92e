-- What the code of a vibrato leaves.
use Rattle.std.proofs.Common.{◌≡◌, ◌≢◌, ℕ, ◌+◌, ◌-◌, ◌%◌, ◌<◌, ◌≤◌, Bool, true}
use Rattle.std.proofs.Common.{false, ◌||◌, inl, inr}
use Rattle.std.proofs.Common.{refl, sym, ap, ◌∙◌, subst, arith, nat_eq, bit_xor, not}
use Rattle.std.proofs.lemmas.Bool.{agree_below_at, leb-true, leb-false, not-true, not-false, both_ways, eqb-true}
use Rattle.std.proofs.lemmas.Bool.{cases_lt}
use Rattle.cpu6502.specs.Registers.{one_if}
use Rattle.scopes.specs.Trees.{NoneTree}
use Rattle.code_runs.specs.Runs.{put}
use Rattle.song_model.specs.declared.tables.TableName.TheVariants.{Speed}
use Rattle.play_model.specs.TickStep.{tempo_of}
use Rattle.play_model.specs.Helpers.{turned}
use Rattle.player_memory.specs.declared.labels.TheConstants.{VIB_TIME, PERIODS, SPEED_LEFTS, SLIDES_LOW}
use Rattle.player_memory.specs.declared.conditions.TheConstants.{VIBRATO, INSTRUMENT_VIBRATO, NOTE_DEPENDENT, PORTA_UP}
use Rattle.player_memory.specs.declared.conditions.TheConstants.{PORTA_DOWN, TONE_PORTA, SWINGS, CLIMB, DROP, RISE}
use Rattle.player_memory.specs.declared.conditions.TheConstants.{SINK}
use Rattle.player_desk.proofs.Laws.{VoiceDesk, Ways, Leads, body_of, rest_of, joined, listed, done_as, in_scope}
use Rattle.player_desk.proofs.Laws.{compared_is, over_is}
use Rattle.player_desk.proofs.Laws.{Fields, SameSong}
use Rattle.player_text.specs.declared.slide.TheConstants.{SLIDES, ADDED, CLEARED}
use Rattle.slide_code.specs.SlideBlock.{arrives}
use Rattle.slide_code.proofs.SlideGrounds.{Running, Tells, HasSpeed, IsSlide, set_at, AtRises, AtFalls, up_ways}
use Rattle.slide_code.proofs.SlideGrounds.{AtNamed, Stands}
use Rattle.slide_code.proofs.Moves.{tells_over, own_tells}
use Rattle.slide_code.proofs.Rules.{other_passes, speed_of, period_of, time_of, turns_back, stays_above, stays_before}
use Rattle.slide_code.proofs.Rules.{plain_speed}
use Rattle.slide_code.proofs.Rules.{swings_up_is, swings_down_is, swings_up_by_slide_is, swings_down_by_slide_is}
use Rattle.slide_code.proofs.Tones.{from_swing, behind, up_leads, a_compared, named_over}

-- ---- the time

-- A is the time, turned round past the period
record AtCleared (g : Running) (m : VoiceDesk) : Type 0 where
  tells : Tells g g.s.voice m
  y : m.y ≡ g.s.voice.param
  has : HasSpeed g (speed_of g.look g.s.voice) m
  a : m.a ≡ turned (period_of g.look g.s.voice) g.s.voice.vib_time

-- and the carry is off
record AtAdded (g : Running) (m : VoiceDesk) : Type 0 where
  cleared : AtCleared g m
  carry : m.c ≡ false

abbrev swing_ways : Running → Ways
swing_ways g = done_as (Leads g.r (behind from_swing) (up_ways g)) (up_ways g)

abbrev slides_ways : Running → Ways
slides_ways g = in_scope SLIDES (done_as (Leads g.r NoneTree (swing_ways g)) (swing_ways g))

turned_round : (n : ℕ) → n < 256 → bit_xor n 0xFF ≡ 255 - n
turned_round n l =
    eqb-true _ _ (agree_below_at (λ n. nat_eq (bit_xor n 0xFF) (255 - n)) (λ _. true) 256 n refl l)

cleared_leads : (g : Running) (m : VoiceDesk) → Stands g → g.command ≡ 4 → AtNamed g m →
    Leads g.r (body_of CLEARED from_swing)
    (in_scope CLEARED (done_as (AtCleared g) (in_scope ADDED (done_as (AtAdded g) (slides_ways g))))) m
cleared_leads g m on is at = (
  λ minus.
      at_time _ refl refl refl refl refl refl
      (time ∙ sym (stays_above period g.s.voice.vib_time
      (let l = leb-true 128 (m.own VIB_TIME) minus in omega (arith, time, l)))),
  λ plus.
      let low : m.own VIB_TIME < 128 = leb-false 128 (m.own VIB_TIME) plus in
      listed PERIODS g.s.voice.param period
      (on.row.period (on.keeps.calculates (λ e. absurd (omega (arith, e, is))))) at.y
      (λ b e. (
        λ before.
            let early : m.own VIB_TIME < b = leb-false b (m.own VIB_TIME) (not-true _ before) in
            record {
              cleared = at_time _ refl refl refl refl refl refl
                  (time ∙ sym (stays_before period g.s.voice.vib_time (omega (arith, early, e, time))));
              carry = not-true _ before;
            },
        λ later.
            let from : b ≤ m.own VIB_TIME = leb-true b (m.own VIB_TIME) (not-false _ later) in (
              λ same.
                  let equal : m.own VIB_TIME ≡ b =
                  compared_is (m.own VIB_TIME) b (omega (arith, low)) (omega (arith, from, low)) same in
                  at_time _ refl refl refl refl refl refl
                  (time ∙ sym (stays_before period g.s.voice.vib_time (omega (arith, equal, e, time)))),
              λ other.
                  let apart : m.own VIB_TIME ≢ b = over_is (m.own VIB_TIME) b (omega (arith, from, low)) other in
                  at_time _ refl refl refl refl refl refl
                  (turned_round (m.own VIB_TIME) (omega (arith, low))
                  ∙ (ap (λ n. 255 - n) time
                  ∙ sym (turns_back period g.s.voice.vib_time (omega (arith, low, time))
                  (omega (arith, from, apart, e, time))))),
            ),
      )),
)
  where
    period : ℕ
    period = period_of g.look g.s.voice

    time : m.own VIB_TIME ≡ g.s.voice.vib_time
    time = at.tells.done.fields.vib_time (on.common.swings (on.keeps.swings is))

    at_time : (n : VoiceDesk) → n.own ≡ m.own → n.shared ≡ m.shared → n.sid ≡ m.sid →
        n.slide_low ≡ m.slide_low →
        n.slide_high ≡ m.slide_high → n.y ≡ m.y → n.a ≡ turned (period_of g.look g.s.voice) g.s.voice.vib_time →
        AtCleared g n
    at_time n own shared sid low high y a =
        let has = at.has (λ e. absurd (omega (arith, e, is))) in record {
          tells = tells_over g g.s.voice m n own shared sid low high at.tells;
          y = y ∙ at.y;
          has = record { low = rw low has.low; high = rw high has.high; small = has.small };
          a = a;
        }

-- ---- the swing

added_leads : (g : Running) (m : VoiceDesk) → Stands g → g.command ≡ 4 → AtAdded g m →
    Leads g.r (rest_of ADDED from_swing) (slides_ways g) m
added_leads g m on is at = (
  λ kept.
      listed SPEED_LEFTS g.s.voice.param left on.row.left at.cleared.y
      (λ b e. (
        λ plain.
            plain_on _ refl refl refl refl refl at.cleared.y refl
            (let l = leb-false 128 b (not-true _ plain) in omega (arith, l, e)),
        λ minus.
            let high : 128 ≤ left = (let l = leb-true 128 b (not-false _ minus) in omega (arith, l, e)) in (
              λ even.
                  record {
                    time = time;
                    speed = speed_of g.look g.s.voice;
                    tells = swung _ refl refl refl refl refl;
                    y = at.cleared.y;
                    carry = not-true _ even;
                    has = record { low = has.low; high = has.high; small = has.small };
                    is = swings_up_by_slide_is g.command g.look g.s.voice is (ap (λ n. nat_eq (n % 2) 1) (sym next)
                        ∙ not-true _ even) high;
                    passes = four_passes;
                    climbs = climb_kept kept;
                    rises = rise_kept;
                  },
              λ not_even. (
                λ odd.
                    record {
                      time = time;
                      speed = speed_of g.look g.s.voice;
                      tells = swung _ refl refl refl refl refl;
                      y = at.cleared.y;
                      carry = odd;
                      has = record { low = has.low; high = has.high; small = has.small };
                      is = swings_down_by_slide_is g.command g.look g.s.voice is
                          (ap (λ n. nat_eq (n % 2) 1) (sym next) ∙ odd) high;
                      passes = four_passes;
                      drops = drop_kept kept;
                      sinks = sink_kept;
                    },
                λ lost. both_ways _ lost (not-false _ not_even),
              ),
            ),
      )),
  λ out.
      plain_on _ refl refl refl refl refl at.cleared.y refl
      (plain_left out),
)
  where
    left : ℕ
    left = (g.look.row Speed g.s.voice.param).left

    right : ℕ
    right = (g.look.row Speed g.s.voice.param).right

    time : ℕ
    time = time_of g.look g.s.voice

    has : HasSpeed g (speed_of g.look g.s.voice) m
    has = at.cleared.has

    swings : (g.r.layout.holds VIBRATO || g.r.layout.holds INSTRUMENT_VIBRATO) ≡ true
    swings = on.keeps.swings is

    off : (z : Bool) → z ≡ false → one_if z ≡ 0
    off z e = rw e refl

    next : (m.a + 2 + one_if m.c) % 256 ≡ time
    next = (let a = at.cleared.a in let c = off m.c at.carry in omega (arith, a, c))

    third_of_three : (a b c : Bool) → c ≡ true → (a || b || c) ≡ true
    third_of_three true b c e = refl
    third_of_three false true c e = refl
    third_of_three false false c e = e

    one_of_four : (a b c d : Bool) → (c || d) ≡ true → (a || b || c || d) ≡ true
    one_of_four true b c d e = refl
    one_of_four false true c d e = refl
    one_of_four false false c d e = e

    four_passes : arrives g.command g.look g.s.voice ≡ false
    four_passes = other_passes g.command g.look g.s.voice (λ e. omega (arith, e, is))

    climb_kept : g.r.layout.holds NOTE_DEPENDENT ≡ true → g.r.layout.holds CLIMB ≡ true
    climb_kept kept =
        on.common.climb (third_of_three (g.r.layout.holds PORTA_UP) (g.r.layout.holds TONE_PORTA)
        (g.r.layout.holds NOTE_DEPENDENT) kept)

    drop_kept : g.r.layout.holds NOTE_DEPENDENT ≡ true → g.r.layout.holds DROP ≡ true
    drop_kept kept =
        on.common.drop (third_of_three (g.r.layout.holds PORTA_DOWN) (g.r.layout.holds TONE_PORTA)
        (g.r.layout.holds NOTE_DEPENDENT) kept)

    rise_kept : g.r.layout.holds RISE ≡ true
    rise_kept =
        on.common.rise (one_of_four (g.r.layout.holds PORTA_UP) (g.r.layout.holds TONE_PORTA) (g.r.layout.holds VIBRATO)
        (g.r.layout.holds INSTRUMENT_VIBRATO) swings)

    sink_kept : g.r.layout.holds SINK ≡ true
    sink_kept =
        on.common.sink (one_of_four (g.r.layout.holds PORTA_DOWN) (g.r.layout.holds TONE_PORTA)
        (g.r.layout.holds VIBRATO)
        (g.r.layout.holds INSTRUMENT_VIBRATO) swings)

    plain_left : g.r.layout.holds NOTE_DEPENDENT ≡ false → left < 128
    plain_left out =
        elim (cases_lt left 128) [
          | inl low ↦ low
          | inr high ↦ absurd (both_ways _ out (on.keeps.calculates (λ e. absurd (omega (arith, e, is))) high))
        ]

    swung : (n : VoiceDesk) → n.own ≡ put m.own VIB_TIME ((m.a + 2 + one_if m.c) % 256) → n.shared ≡ m.shared →
        n.sid ≡ m.sid → n.slide_low ≡ m.slide_low → n.slide_high ≡ m.slide_high →
        Tells g (set_at time g.s.voice.freq g.s.voice) n
    swung n own shared sid low high =
        let swung_time : g.r.layout.holds SWINGS ≡ true → (m.a + 2 + one_if m.c) % 256 ≡ time = λ kept. next in
        let fields : Fields g.r.layout.holds (set_at time g.s.voice.freq g.s.voice)
        (tempo_of (g.r.voice + 1) g.s.common) (put m.own VIB_TIME ((m.a + 2 + one_if m.c) % 256)) =
        assumption (swung_time, at.cleared.tells.done.fields) in
        let song : SameSong (put m.own VIB_TIME ((m.a + 2 + one_if m.c) % 256)) g.d.own =
        assumption at.cleared.tells.done.song in
        own_tells g g.s.voice (set_at time g.s.voice.freq g.s.voice) m n shared sid low high (rw own fields)
        (rw own song)
        at.cleared.tells

    right_is : left < 128 → speed_of g.look g.s.voice % 256 ≡ right
    right_is low =
        let s = plain_speed g.look g.s.voice.param g.s.voice.last_note low in
        let l = on.row.right_byte in
        omega (arith, s, l)

    plain_on : (n : VoiceDesk) → n.own ≡ put m.own VIB_TIME ((m.a + 2 + one_if m.c) % 256) → n.shared ≡ m.shared →
        n.sid ≡ m.sid → n.slide_low ≡ m.slide_low → n.slide_high ≡ m.slide_high → n.y ≡ g.s.voice.param →
        n.c ≡ nat_eq ((m.a + 2 + one_if m.c) % 256 % 2) 1 → left < 128 →
        (not n.c ≡ true → AtRises g n) × (not n.c ≡ false → (n.c ≡ true → AtFalls g n) × (n.c ≡ false → ⊥))
    plain_on n own shared sid low high y c plain = (
      λ even.
          record {
            time = time;
            word = g.s.voice.freq;
            byte = right;
            tells = swung n own shared sid low high;
            y = y;
            carry = not-true n.c even;
            small = on.small;
            few = on.row.right_byte;
            low = subst (IsSlide g.r SLIDES_LOW g.s.voice.param n.slide_low) (right_is plain) (rw low has.low);
            is = swings_up_is g.command g.look g.s.voice is
                (ap (λ n. nat_eq (n % 2) 1) (sym next) ∙ (sym c ∙ not-true n.c even))
                plain;
            passes = four_passes;
            kept = rise_kept;
          },
      λ not_even. (
        λ odd.
            record {
              time = time;
              word = g.s.voice.freq;
              byte = right;
              tells = swung n own shared sid low high;
              y = y;
              carry = odd;
              small = on.small;
              few = on.row.right_byte;
              low = subst (IsSlide g.r SLIDES_LOW g.s.voice.param n.slide_low) (right_is plain) (rw low has.low);
              is = swings_down_is g.command g.look g.s.voice is
                  (ap (λ n. nat_eq (n % 2) 1) (sym next) ∙ (sym c ∙ odd)) plain;
              passes = four_passes;
              kept = sink_kept;
            },
        λ lost. both_ways n.c lost (not-false n.c not_even),
      ),
    )

pub swing_leads : (g : Running) (m : VoiceDesk) → Stands g → AtNamed g m → Leads g.r from_swing (up_ways g) m
swing_leads g m on at = (
  λ kept. (
    λ less.
        let to : g.command ≤ 3 =
        (let l = leb-false 4 m.a (not-true _ less) in let a = at.a in omega (arith, l, a)) in
        up_leads g (a_compared 4 m) on to (named_over g m (a_compared 4 m) refl refl refl refl refl refl refl at),
    λ not_less.
        let is : g.command ≡ 4 =
        (let l = leb-true 4 m.a (not-false _ not_less) in let a = at.a in let t = on.most in omega (arith, l, a, t)) in
        joined true g.r ADDED (body_of ADDED from_swing) (rest_of ADDED from_swing) (AtAdded g) (slides_ways g)
        (a_compared 4 m)
        (joined true g.r CLEARED (body_of CLEARED from_swing) (rest_of CLEARED from_swing) (AtCleared g)
        (in_scope ADDED (done_as (AtAdded g) (slides_ways g))) (a_compared 4 m)
        (cleared_leads g (a_compared 4 m) on is (named_over g m (a_compared 4 m) refl refl refl refl refl refl refl at))
        (λ n cleared. record {
          cleared = record {
            tells = tells_over g g.s.voice n _ refl refl refl refl refl cleared.tells;
            y = cleared.y;
            has = (let has = cleared.has in record { low = has.low; high = has.high; small = has.small });
            a = cleared.a;
          };
          carry = refl;
        }))
        (λ n added. added_leads g n on is added),
  ),
  λ out. up_leads g m on (not_four g.command on.most (λ e. both_ways _ out (on.common.swings (on.keeps.swings e)))) at,
)
  where
    not_four : (n : ℕ) → n ≤ 4 → n ≢ 4 → n ≤ 3
    not_four n most other = omega (arith, most, other)
