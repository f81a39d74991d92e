-- The orderlist is walked to the next play, and the voice has that play's pattern.
use Rattle.std.proofs.Common.{◌≡◌, ◌≢◌, ℕ, ℤ, zero, suc, ◌+◌, ◌/◌, ◌%◌, ◌<◌, Bool, true}
use Rattle.std.proofs.Common.{false, nat_eq}
use Rattle.std.proofs.Common.{List, length, get_or, refl, sym, ap, ◌∙◌, subst, arith}
use Rattle.std.proofs.lemmas.Bool.{leb-true, not-false, both_ways, eq-eqb, ne_eqb, eqb-true, eqb-false}
use Rattle.std.proofs.lemmas.List.Elements.{All-from_get_or}
use Rattle.song_model.specs.declared.orders.Order.{Order}
use Rattle.song_model.specs.declared.orders.OrderPlace.{OrderPlace}
use Rattle.song_model.specs.Endless.{IsEndless}
use Rattle.song_model.specs.Walk.{played}
use Rattle.song_model.specs.Places.{restarted, place_of}
use Rattle.play_model.specs.LookUps.{LookUps}
use Rattle.play_model.specs.State.{Playing}
use Rattle.scopes.specs.Desk.{Layout}
use Rattle.scopes.specs.Trees.{Tree}
use Rattle.player_memory.specs.declared.conditions.TheConstants.{REPEATS}
use Rattle.player_memory.specs.declared.labels.TheConstants.{REST, OFFSET, ORDER_LOW, ORDER_HIGH, ORDER_PLACE}
use Rattle.player_memory.specs.declared.labels.TheConstants.{TRANSPOSE, REPEAT}
use Rattle.player_memory.specs.declared.labels.TheConstants.{PATTERNS_LOW, PATTERNS_HIGH}
use Rattle.player_memory.specs.Fetching.{AreHalves, HasPattern, place_before, transpose_byte, IsAtPattern, WalkStands}
use Rattle.player_memory.specs.Fetching.{GoesOn, Repeats}
use Rattle.player_memory.specs.Fetching.{Walked, NotWalked, SongStands, AtEntry, InRun, InLastRun}
use Rattle.player_desk.proofs.Laws.{VoiceDesk, Reader, Ways, Leads, listed, done_as, in_scope, body_of, rest_of}
use Rattle.player_desk.proofs.Laws.{joined, indexed, loaded}
use Rattle.player_text.specs.declared.joints.TheConstants.{BEGINS}
use Rattle.player_text.specs.declared.walk.TheConstants.{PATTERN}
use Rattle.player_desk.proofs.Laws.{around_on}
use Rattle.entry_code.proofs.Laws.{InPlay}
use Rattle.fetch_code.proofs.Fetches.{AtBegun, next_play, LateWays, WalkLeads}
use Rattle.walk_code.proofs.Laws.{Arrives, arrives, begun, Begun}
use Rattle.walk_code.proofs.Laws.{OfByte, repeat_fine}
use Rattle.walk_code.proofs.Laws.{WalkGround, Walking, Fine, IsThere, begin_tree, behind}
use Rattle.walk_code.proofs.Laws.{loop_leads}
use Rattle.scopes.specs.declared.line.TheConstants.{OPEN}
use Rattle.scopes.specs.Meaning.{turns_in}

-- ---- where the walk stands behind a play

-- a play's place in front of the endmark is no other where the walk is restarted
same_place : (order : Order) (at : OrderPlace) → at.place < length order.entries → restarted order at ≡ at
same_place order at inside =
    let test : nat_eq at.place (length order.entries) ≡ false =
    ne_eqb at.place (length order.entries) (λ e. omega (arith, e, inside)) in
    rw test refl

stands_at : (layout : Layout) (order : Order) (n p : ℕ) (t : ℤ) (after : OrderPlace) (own : ℕ → ℕ) →
    IsEndless order →
    p < length order.entries → get_or order.entries p 0 < 0xD0 → restarted order after ≡ place_of order (n + 1) →
    HasPattern layout (played order n) own → own ORDER_PLACE ≡ p + 1 → own TRANSPOSE ≡ transpose_byte t →
    (rep : ℕ) →
    Arrives order (played order n) after p t rep → own REPEAT ≡ rep →
    (rep ≢ 0 → layout.holds REPEATS ≡ true) → InPlay layout order n own
stands_at layout order n p t after own endless inside low next pattern place transpose zero comes repeat kept = record {
  pattern = pattern;
  transpose = transpose ∙ sym (ap (λ step. transpose_byte step.transpose) comes.step_is);
  walk =
      GoesOn after next (ap (λ at. at.repeat) comes.after_is) (place ∙ sym (ap (λ at. at.place) comes.after_is))
      (transpose ∙ sym (ap (λ at. transpose_byte at.transpose) comes.after_is)) repeat;
}
stands_at layout order n p t after own endless inside low next pattern place transpose (suc rep) comes repeat kept =
    let there : OrderPlace = record { place = p; transpose = t; repeat = rep } in
    let here : place_of order (n + 1) ≡ there =
    sym next ∙ (ap (restarted order) comes.after_is ∙ same_place order there inside) in
    let begins = begun order endless (n + 1) there (same_place order there inside ∙ sym here) in
    let again = arrives order (played order (n + 1)) begins.after p t rep inside low begins.way in
    let same : played order n ≡ played order (n + 1) = comes.step_is ∙ sym again.step_is in record {
      pattern = pattern;
      transpose = transpose ∙ sym (ap (λ step. transpose_byte step.transpose) comes.step_is);
      walk =
          Repeats (kept (λ e. omega (arith, e)))
          (subst (λ at. IsAtPattern order at.place) (sym here) (record { inside = inside; low = low }))
          (subst (λ step. HasPattern layout step own) same pattern)
          (place ∙ ap (λ at. at.place + 1) (sym here)) (transpose ∙ ap (λ at. transpose_byte at.transpose) (sym here))
          (repeat ∙ (omega arith ∙ ap (λ at. at.repeat + 1) (sym here)));
    }

-- a repeat asks for its code
kept_for : (r : Reader) (rep : ℕ) → Fine r rep → rep ≢ 0 → r.layout.holds REPEATS ≡ true
kept_for r rep fine some = by (r.layout.holds REPEATS) refl
  where
    by : (z : Bool) → r.layout.holds REPEATS ≡ z → r.layout.holds REPEATS ≡ true
    by true e = e
    by false e = absurd (some (fine.none e))

-- ---- the pattern is found

found_leads : (r : Reader) (look : LookUps) (packed : ℕ → List ℕ) (order : Order) (s : Playing) (place : ℕ)
    (looks : ℕ → ℕ) (d b : VoiceDesk) (after : OrderPlace) (ways : Ways) (m : VoiceDesk) →
    WalkGround r order place looks →
    restarted order after ≡ place_of order (next_play s.voice b.own + 1) →
    IsThere r s order (played order (next_play s.voice b.own)) after d b m →
    Leads r (rest_of PATTERN begin_tree) (in_scope BEGINS (done_as (AtBegun r look packed order s d b) ways)) m
found_leads r look packed order s place looks d b after ways m ground next at =
    let n = next_play s.voice b.own in
    let number : m.a ≡ (played order n).pattern = at.a ∙ sym (ap (λ step. step.pattern) at.comes.step_is) in
    listed PATTERNS_HIGH (played order n).pattern (place_before r.layout (played order n).pattern / 256) (ground.high n)
    number
    (λ h e.
    listed PATTERNS_LOW (played order n).pattern (place_before r.layout (played order n).pattern % 256) (ground.low n)
    number
    (λ l f. record {
      fields = assumption at.walking.fields;
      around = around_on refl refl at.walking.around;
      order_low = at.walking.order_low;
      order_high = at.walking.order_high;
      rest_is = at.walking.rest_is;
      play = stands_at r.layout order n at.p at.t after _ ground.endless at.inside at.low next
          (record { low_is = f; high_is = e }) at.y at.transpose at.rep at.comes at.repeat (kept_for r at.rep at.fine);
    }))

-- ---- from the play's place on

abbrev order_tree : Tree
order_tree = behind begin_tree

order_leads : (r : Reader) (look : LookUps) (packed : ℕ → List ℕ) (order : Order) (s : Playing) (place : ℕ)
    (looks : ℕ → ℕ) (d b : VoiceDesk) (ways : Ways) (k : VoiceDesk) (at : OrderPlace) → WalkGround r order place looks →
    Walking r s d b k → AreHalves (d.own ORDER_LOW) (d.own ORDER_HIGH) place →
    restarted order at ≡ place_of order (next_play s.voice b.own) → at.repeat ≡ 0 → k.own ORDER_PLACE ≡ at.place →
    k.own TRANSPOSE ≡ transpose_byte at.transpose → k.own REPEAT ≡ 0 →
    Leads r order_tree (in_scope BEGINS (done_as (AtBegun r look packed order s d b) ways)) k
order_leads r look packed order s place looks d b ways k at ground walking halves is none place_is transpose repeat =
    joined true r PATTERN (body_of PATTERN begin_tree) (rest_of PATTERN begin_tree)
    (IsThere r s order (played order n) way.after d b)
    (in_scope BEGINS (done_as (AtBegun r look packed order s d b) ways)) there
    (loop_leads r s order place looks ground (played order n) way.after d b
    (in_scope BEGINS (done_as (AtBegun r look packed order s d b) ways)) (turns_in r.layout.open_turns OPEN) there
    (record {
      p = at.place;
      t = at.transpose;
      rep = at.repeat;
      walks = record {
        walking = record {
          fields = walking.fields;
          around = around_on refl refl walking.around;
          order_low = walking.order_low;
          order_high = walking.order_high;
          rest_is = walking.rest_is;
        };
        pointer = record {
          low_is = walking.order_low ∙ halves.low_is;
          high_is = walking.order_high ∙ halves.high_is;
        };
        y = place_is;
        transpose = transpose;
        repeat = repeat ∙ sym none;
      };
      way = way.way;
      fine = record { small = omega (arith, none); none = λ out. none };
      looks_left = ground.looks_few at.place way.way.before;
    }))
    (λ m found. found_leads r look packed order s place looks d b way.after ways m ground way.next.next found)
  where
    n : ℕ
    n = next_play s.voice b.own

    way : Begun order n at
    way = begun order ground.endless n at is

    -- the pointer is the orderlist's address, and Y the place
    there : VoiceDesk
    there = indexed (k.own ORDER_PLACE)
        (record (loaded (k.own ORDER_HIGH) k) { low = k.own ORDER_LOW; high = k.own ORDER_HIGH })

-- ---- a repeat, or none

-- where the walk stands before the next play
walk_of : (r : Reader) (look : LookUps) (packed : ℕ → List ℕ) (order : Order) (s : Playing) (b : VoiceDesk) →
    b.own OFFSET ≡ 0 → SongStands r.layout look packed order s.voice b.own →
    WalkStands r.layout order (next_play s.voice b.own) b.own
walk_of r look packed order s b through (AtEntry none (Walked some first pattern transpose walk entries)) =
    absurd (omega (arith, through, some))
walk_of r look packed order s b through (AtEntry none (NotWalked none_left first walk)) =
    let test : nat_eq (b.own REST) 0 ≡ true = eq-eqb (b.own REST) 0 none in
    let is : next_play s.voice b.own ≡ s.voice.plays = rw test refl in
    subst (λ n. WalkStands r.layout order n b.own) (sym is) walk
walk_of r look packed order s b through (InRun some rests inside (Walked least first pattern transpose walk entries)) =
    absurd (omega (arith, through, least))
walk_of r look packed order s b through (InRun some rests inside (NotWalked none_left first walk)) =
    (let begun = rests.begun in absurd (omega (arith, begun, first)))
walk_of r look packed order s b through
    (InLastRun some rests last (Walked least first pattern transpose walk entries)) =
    absurd (omega (arith, through, least))
walk_of r look packed order s b through (InLastRun some rests last (NotWalked none_left first walk)) =
    let test : nat_eq (b.own REST) 0 ≡ false = ne_eqb (b.own REST) 0 some in
    let is : next_play s.voice b.own ≡ s.voice.plays + 1 = rw test refl in
    subst (λ n. WalkStands r.layout order n b.own) (sym is) walk

-- a repeat at a play's place is at most 15
repeat_small : (r : Reader) (order : Order) (place : ℕ) (looks : ℕ → ℕ) → WalkGround r order place looks →
    (n : ℕ) →
    (place_of order n).repeat < 16
repeat_small r order place looks ground n =
    repeat_fine (λ rep. rep < 16) (record { none = omega arith; less = λ rep few. omega (arith, few) }) order
    (All-from_get_or (OfByte (λ rep. rep < 16)) order.entries 0 (λ i inside from below. omega (arith, from, below))) n

begins_leads : (r : Reader) (look : LookUps) (packed : ℕ → List ℕ) (order : Order) (s : Playing) (place : ℕ)
    (looks : ℕ → ℕ) (d b : VoiceDesk) (ways : Ways) → WalkGround r order place looks → Walking r s d b b →
    AreHalves (d.own ORDER_LOW) (d.own ORDER_HIGH) place →
    WalkStands r.layout order (next_play s.voice b.own) b.own →
    Leads r begin_tree (in_scope BEGINS (done_as (AtBegun r look packed order s d b) ways)) b
begins_leads r look packed order s place looks d b ways ground walking halves
    (GoesOn at is none place_is transpose repeat) = (
      λ kept. (
        λ zero.
            order_leads r look packed order s place looks d b ways (loaded (b.own REPEAT) b) at ground
            (record {
              fields = walking.fields;
              around = around_on refl refl walking.around;
              order_low = walking.order_low;
              order_high = walking.order_high;
              rest_is = walking.rest_is;
            }) halves is none place_is transpose repeat,
        λ some. absurd (eqb-false (b.own REPEAT) 0 some repeat),
      ),
      λ out. order_leads r look packed order s place looks d b ways b at ground walking halves is none place_is
          transpose
          repeat,
    )
begins_leads r look packed order s place looks d b ways ground walking halves
    (Repeats held at pattern place_is transpose repeat) = (
      λ kept. (
        λ zero. (let none = eqb-true (b.own REPEAT) 0 zero in absurd (omega (arith, none, repeat))),
        λ some. (
          λ plus. record {
            fields = assumption walking.fields;
            around = around_on refl refl walking.around;
            order_low = walking.order_low;
            order_high = walking.order_high;
            rest_is = walking.rest_is;
            play = stands_at r.layout order n there.place there.transpose way.after _ ground.endless at.inside at.low
                way.next.next (record { low_is = pattern.low_is; high_is = pattern.high_is }) place_is transpose
                there.repeat
                (arrives order (played order n) way.after there.place there.transpose there.repeat at.inside at.low
                way.way)
                fewer (λ any. held);
          },
          λ minus. (let high = leb-true 128 ((b.own REPEAT + 255) % 256) (not-false _ minus) in
              absurd (omega (arith, high, fewer, small))),
        ),
      ),
      λ out. absurd (both_ways (r.layout.holds REPEATS) out held),
    )
  where
    n : ℕ
    n = next_play s.voice b.own

    there : OrderPlace
    there = place_of order n

    small : there.repeat < 16
    small = repeat_small r order place looks ground n

    way : Begun order n there
    way = begun order ground.endless n there (same_place order there at.inside)

    fewer : (b.own REPEAT + 255) % 256 ≡ there.repeat
    fewer = omega (arith, repeat, small)

-- the walk
pub walk_leads : (r : Reader) (look : LookUps) (packed : ℕ → List ℕ) (order : Order) (s : Playing) (place : ℕ)
    (looks : ℕ → ℕ) (d : VoiceDesk) → WalkGround r order place looks →
    AreHalves (d.own ORDER_LOW) (d.own ORDER_HIGH) place → WalkLeads r look packed order s d
walk_leads r look packed order s place looks d ground halves b at =
    begins_leads r look packed order s place looks d b (LateWays r look packed order s d) ground
    (record {
      fields = at.waiting.stands.fields;
      around = at.waiting.stands.around;
      order_low = at.waiting.stands.order_low;
      order_high = at.waiting.stands.order_high;
      rest_is = refl;
    }) halves (walk_of r look packed order s b at.offset at.waiting.stands.song)
