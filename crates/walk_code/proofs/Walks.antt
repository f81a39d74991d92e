-- The orderlist is walked to the next play.
use Rattle.std.proofs.Common.{◌≡◌, ℕ, ℤ, pos, ◌-ℤ◌, zero, suc, ◌+◌, ◌-◌, ◌*◌}
use Rattle.std.proofs.Common.{◌%◌, ◌<◌, ◌≤◌, true, false}
use Rattle.std.proofs.Common.{nat_eq, nat_le, nat_lt}
use Rattle.std.proofs.Common.{[], ◌∷◌, length, get_or, inl, inr, refl, ap, ◌∙◌, subst, arith}
use Rattle.std.proofs.lemmas.Bool.{leb-true, leb-false, not-true, not-false, both_ways, cases_lt, lt-ltb}
use Rattle.std.proofs.lemmas.Bool.{le-ltb, le-leb, lt-leb}
use Rattle.cpu6502.specs.Registers.{one_if}
use Rattle.code_runs.specs.Runs.{put}
use Rattle.song_model.specs.declared.orders.Order.{Order}
use Rattle.song_model.specs.declared.orders.OrderPlace.{OrderPlace}
use Rattle.song_model.specs.declared.orders.Step.{Step}
use Rattle.song_model.specs.Walk.{transpose_after, repeat_after}
use Rattle.play_model.specs.State.{Playing}
use Rattle.play_model.specs.TickStep.{tempo_of}
use Rattle.player_memory.specs.declared.conditions.TheConstants.{REPEATS}
use Rattle.player_memory.specs.declared.labels.TheConstants.{REST, ORDER_LOW, ORDER_HIGH, TRANSPOSE, REPEAT}
use Rattle.player_memory.specs.Fetching.{AreHalves, transpose_byte}
use Rattle.player_desk.proofs.Laws.{VoiceDesk, Reader, Ways, Fields, Leads, TurnsLead, Leading, Reads}
use Rattle.player_desk.proofs.Laws.{done_as, in_scope, again_as, indexed, loaded, compared_is, over_is}
use Rattle.player_text.specs.declared.walk.TheConstants.{PATTERN}
use Rattle.player_desk.proofs.Laws.{around_on}
use Rattle.walk_code.proofs.Ways.{Way, way_on, way_round, arrives}
use Rattle.walk_code.proofs.WalkGrounds.{order_byte, in_front, behind_all, transpose_is, turn_tree}
use Rattle.walk_code.proofs.WalkGrounds.{passed_tree, round_tree, WalkGround, Walking, Fine, IsOn, IsThere}
use Rattle.walk_code.proofs.WalkGrounds.{walks_on, reads_byte}

-- ---- a turn

-- A is a byte of the orderlist, from $D0 on, and Y the place behind it; the carry is on
record AtByte (r : Reader) (s : Playing) (place : ℕ) (d b m : VoiceDesk) (p byte : ℕ) (t : ℤ) (rep : ℕ) : Type 0 where
  walking : Walking r s d b m
  pointer : AreHalves m.low m.high place
  y : m.y ≡ p + 1
  transpose : m.own TRANSPOSE ≡ transpose_byte t
  repeat : m.own REPEAT ≡ rep
  a : m.a ≡ byte
  carry : m.c ≡ true

-- at the endmark the walk goes on at the restart position
round_leads : (r : Reader) (s : Playing) (order : Order) (place : ℕ) (looks : ℕ → ℕ) →
    WalkGround r order place looks →
    (step : Step) (after : OrderPlace) (d b : VoiceDesk) (n : ℕ) (Q : VoiceDesk → Type 0) (ways : Ways) (m : VoiceDesk)
    (t : ℤ) (rep : ℕ) → ((k : VoiceDesk) → IsOn r s order place step after d b looks n k → Q k) →
    AtByte r s place d b m (length order.entries) 0xFF t rep → Way order step after (length order.entries) t rep →
    Fine r rep → looks (length order.entries) < suc n → Leads r round_tree (again_as Q ways) m
round_leads r s order place looks ground step after d b n Q ways m t rep on at way fine left =
    let reads = reads_byte r order place looks ground m.low m.high m.y (length order.entries + 1) at.pointer at.y
    (omega arith) in
    let is : r.before ((m.low + 256 * m.high + m.y) % 65536) ≡ order.restart =
    reads.is ∙ behind_all order.entries (0xFF ∷ order.restart ∷ []) (length order.entries + 1) 1 refl in
    let round = ground.looks_round in (
      reads.found,
      (
        λ carry.
            on _ (record {
              p = order.restart;
              t = t;
              rep = rep;
              walks = record {
                walking = walks_on r s d b m _ refl refl refl at.walking;
                pointer = at.pointer;
                y = is;
                transpose = at.transpose;
                repeat = at.repeat;
              };
              way = way_round order step after t rep ground.endless way;
              fine = fine;
              looks_left = omega (arith, round, left);
            }),
        λ lost. both_ways m.c lost at.carry,
      ),
    )

-- A has been compared
abbrev compared : ℕ → VoiceDesk → VoiceDesk
compared number m = record m {
  c = nat_le number m.a;
  z = nat_eq ((m.a + (256 - number)) % 256) 0;
  n = nat_le 128 ((m.a + (256 - number)) % 256);
}

-- the endmark
end_leads : (r : Reader) (s : Playing) (order : Order) (place : ℕ) (looks : ℕ → ℕ) → WalkGround r order place looks →
    (step : Step) (after : OrderPlace) (d b : VoiceDesk) (n : ℕ) (Q : VoiceDesk → Type 0) (ways : Ways) (m : VoiceDesk)
    (t : ℤ) (rep : ℕ) → ((k : VoiceDesk) → IsOn r s order place step after d b looks n k → Q k) →
    AtByte r s place d b m (length order.entries) 0xFF t rep → Way order step after (length order.entries) t rep →
    Fine r rep → looks (length order.entries) < suc n → Leads r passed_tree (again_as Q ways) m
end_leads r s order place looks ground step after d b n Q ways m t rep on at way fine left =
    let acc = at.a in (
      λ kept. (
        λ same.
            round_leads r s order place looks ground step after d b n Q ways (compared 0xFF m) t rep on
            (record {
              walking = walks_on r s d b m _ refl refl refl at.walking;
              pointer = at.pointer;
              y = at.y;
              transpose = at.transpose;
              repeat = at.repeat;
              a = at.a;
              carry = le-leb 0xFF m.a (omega (arith, acc));
            }) way fine left,
        λ other. absurd (over_is m.a 0xFF (omega arith) other acc),
      ),
      λ out. round_leads r s order place looks ground step after d b n Q ways m t rep on at way fine left,
    )

-- a transpose
transpose_leads : (r : Reader) (s : Playing) (order : Order) (place : ℕ) (looks : ℕ → ℕ) →
    WalkGround r order place looks → (step : Step) (after : OrderPlace) (d b : VoiceDesk) (n : ℕ)
    (Q : VoiceDesk → Type 0) (ways : Ways) (m : VoiceDesk) (p : ℕ) (t : ℤ) (rep : ℕ) →
    ((k : VoiceDesk) → IsOn r s order place step after d b looks n k → Q k) → p < length order.entries →
    0xE0 ≤ get_or order.entries p 0 → AtByte r s place d b m p (get_or order.entries p 0) t rep →
    Way order step after p t rep → Fine r rep → looks p < suc n → Leads r passed_tree (again_as Q ways) m
transpose_leads r s order place looks ground step after d b n Q ways m p t rep on inside high at way fine left =
    let acc = at.a in
    let below = ground.each p inside in
    let byte = get_or order.entries p 0 in
    let isnt_repeat : nat_lt byte 0xE0 ≡ false = le-ltb byte 0xE0 high in
    let isnt_pattern : nat_lt byte 0xD0 ≡ false = le-ltb byte 0xD0 (omega (arith, high)) in
    let looks_on = ground.looks_on p inside (omega (arith, high)) in
    let transpose_next : transpose_after byte t ≡ pos byte -ℤ pos 0xF0 = rw isnt_repeat refl in
    let repeat_next : repeat_after byte rep ≡ rep = rw (isnt_pattern, isnt_repeat) refl in
    let next : Way order step after (p + 1) (pos byte -ℤ pos 0xF0) rep =
    subst (λ u. Way order step after (p + 1) u rep) transpose_next
    (subst (λ x. Way order step after (p + 1) (transpose_after byte t) x) repeat_next
    (way_on order step after p t rep ground.endless inside (omega (arith, high)) way)) in (
      λ kept. (
        λ same. (let is = compared_is m.a 0xFF (omega (arith, acc, below)) (omega arith) same in
            absurd (omega (arith, is, acc, below))),
        λ other.
            let no_carry : nat_le 0xFF m.a ≡ false = lt-leb 0xFF m.a (omega (arith, acc, below)) in
            let sum : (m.a + 16 + one_if (nat_le 0xFF m.a)) % 256 ≡ transpose_byte (pos byte -ℤ pos 0xF0) =
            ap (λ c. (m.a + 16 + one_if c) % 256) no_carry
            ∙ (ap (λ a. (a + 16 + 0) % 256) acc ∙ transpose_is byte (omega (arith, below))) in
            on _ (record {
              p = p + 1;
              t = pos byte -ℤ pos 0xF0;
              rep = rep;
              walks = record {
                walking = record {
                  fields = assumption at.walking.fields;
                  around = around_on refl refl at.walking.around;
                  order_low = at.walking.order_low;
                  order_high = at.walking.order_high;
                  rest_is = at.walking.rest_is;
                };
                pointer = at.pointer;
                y = at.y;
                transpose = sum;
                repeat = at.repeat;
              };
              way = next;
              fine = fine;
              looks_left = omega (arith, looks_on, left);
            }),
      ),
      λ out. (let low = ground.transposes out p inside in absurd (omega (arith, low, high))),
    )

-- a repeat
repeat_leads : (r : Reader) (s : Playing) (order : Order) (place : ℕ) (looks : ℕ → ℕ) →
    WalkGround r order place looks → (step : Step) (after : OrderPlace) (d b : VoiceDesk) (n : ℕ)
    (m k : VoiceDesk) (p : ℕ) (t : ℤ) (rep : ℕ) → p < length order.entries →
    0xD0 ≤ get_or order.entries p 0 → get_or order.entries p 0 < 0xE0 → r.layout.holds REPEATS ≡ true →
    AtByte r s place d b m p (get_or order.entries p 0) t rep →
    Way order step after p t rep → looks p < suc n →
    k.own ≡ put m.own REPEAT ((m.a + 48 + one_if (nat_le 0xE0 m.a)) % 256) → k.shared ≡ m.shared → k.sid ≡ m.sid →
    k.low ≡ m.low → k.high ≡ m.high → k.y ≡ m.y → IsOn r s order place step after d b looks n k
repeat_leads r s order place looks ground step after d b n m k p t rep inside from below kept at way left own shared sid
    low high y =
    let acc = at.a in
    let byte = get_or order.entries p 0 in
    let is_repeat : nat_lt byte 0xE0 ≡ true = lt-ltb byte 0xE0 below in
    let isnt_pattern : nat_lt byte 0xD0 ≡ false = le-ltb byte 0xD0 from in
    let transpose_next : transpose_after byte t ≡ t = rw is_repeat refl in
    let repeat_next : repeat_after byte rep ≡ byte - 0xD0 = rw (isnt_pattern, is_repeat) refl in
    let next : Way order step after (p + 1) t (byte - 0xD0) =
    subst (λ u. Way order step after (p + 1) u (byte - 0xD0)) transpose_next
    (subst (λ x. Way order step after (p + 1) (transpose_after byte t) x) repeat_next
    (way_on order step after p t rep ground.endless inside from way)) in
    let looks_on = ground.looks_on p inside from in
    let no_carry : nat_le 0xE0 m.a ≡ false = lt-leb 0xE0 m.a (omega (arith, acc, below)) in
    let sum : (m.a + 48 + one_if (nat_le 0xE0 m.a)) % 256 ≡ byte - 0xD0 =
    ap (λ c. (m.a + 48 + one_if c) % 256) no_carry ∙ omega (arith, acc, below, from) in
    let fields : Fields r.layout.holds s.voice (tempo_of (r.voice + 1) s.common)
    (put m.own REPEAT ((m.a + 48 + one_if (nat_le 0xE0 m.a)) % 256)) = assumption at.walking.fields in record {
      p = p + 1;
      t = t;
      rep = byte - 0xD0;
      walks = record {
        walking = record {
          fields = rw own fields;
          around = around_on shared sid at.walking.around;
          order_low = ap (λ f. f ORDER_LOW) own ∙ at.walking.order_low;
          order_high = ap (λ f. f ORDER_HIGH) own ∙ at.walking.order_high;
          rest_is = ap (λ f. f REST) own ∙ at.walking.rest_is;
        };
        pointer = record { low_is = low ∙ at.pointer.low_is; high_is = high ∙ at.pointer.high_is };
        y = y ∙ at.y;
        transpose = ap (λ f. f TRANSPOSE) own ∙ at.transpose;
        repeat = ap (λ f. f REPEAT) own ∙ sum;
      };
      way = next;
      fine = record {
        small = omega (arith, below);
        none = λ out. absurd (both_ways (r.layout.holds REPEATS) out kept);
      };
      looks_left = omega (arith, looks_on, left);
    }

-- one turn
turn_leads : (r : Reader) (s : Playing) (order : Order) (place : ℕ) (looks : ℕ → ℕ) →
    WalkGround r order place looks → (step : Step) (after : OrderPlace) (d b : VoiceDesk) (n : ℕ)
    (Q : VoiceDesk → Type 0) (ways : Ways) (m : VoiceDesk) →
    ((k : VoiceDesk) → IsOn r s order place step after d b looks n k → Q k) →
    IsOn r s order place step after d b looks (suc n) m →
    Leads r turn_tree
    (again_as Q (in_scope PATTERN (done_as (IsThere r s order step after d b) ways))) m
turn_leads r s order place looks ground step after d b n Q ways m on at =
    elim (cases_lt at.p (length order.entries)) [
      | inl inside ↦ inner inside
      | inr past ↦ (let most = at.way.before in let h = past in ended (omega (arith, most, h)))
    ]
  where
    begins : Reads r ((m.low + 256 * m.high + m.y) % 65536) (order_byte order at.p)
    begins =
        let before = at.way.before in
        reads_byte r order place looks ground m.low m.high m.y at.p at.walks.pointer at.walks.y (omega (arith, before))

    byte : ℕ
    byte = r.before ((m.low + 256 * m.high + m.y) % 65536)

    -- the byte is loaded, and Y goes on
    seen : VoiceDesk
    seen = record (indexed ((m.y + 1) % 256) (loaded byte m)) { a = byte }

    here : (k : VoiceDesk) (number : ℕ) → k.own ≡ m.own → k.shared ≡ m.shared → k.sid ≡ m.sid →
        k.low ≡ m.low →
        k.high ≡ m.high → k.y ≡ (m.y + 1) % 256 → k.a ≡ byte → k.c ≡ true → byte ≡ number →
        AtByte r s place d b k at.p number at.t at.rep
    here k number own shared sid low high y a c is =
        let most = ground.most in
        let before = at.way.before in
        let place_is = at.walks.y in record {
          walking = walks_on r s d b m k own shared sid at.walks.walking;
          pointer = record { low_is = low ∙ at.walks.pointer.low_is; high_is = high ∙ at.walks.pointer.high_is };
          y = y ∙ omega (arith, most, before, place_is);
          transpose = ap (λ f. f TRANSPOSE) own ∙ at.walks.transpose;
          repeat = ap (λ f. f REPEAT) own ∙ at.walks.repeat;
          a = a ∙ is;
          carry = c;
        }

    ended : at.p ≡ length order.entries →
        Leads r turn_tree (again_as Q (in_scope PATTERN (done_as (IsThere r s order step after d b) ways))) m
    ended e =
        let is : byte ≡ 0xFF = begins.is ∙ behind_all order.entries (0xFF ∷ order.restart ∷ []) at.p 0
        (omega (arith, e)) in
        let way : Way order step after (length order.entries) at.t at.rep =
        subst (λ q. Way order step after q at.t at.rep) e at.way in
        let left : looks (length order.entries) < suc n = subst (λ q. looks q < suc n) e at.looks_left in
        let from : (k : VoiceDesk) → AtByte r s place d b k at.p 0xFF at.t at.rep →
        AtByte r s place d b k (length order.entries) 0xFF at.t at.rep =
        λ k byte. subst (λ q. AtByte r s place d b k q 0xFF at.t at.rep) e byte in (
          begins.found,
          (
            λ off. (let low = leb-false 0xD0 byte (not-true _ off) in absurd (omega (arith, low, is))),
            λ carry. (
              λ kept. (
                λ above.
                    end_leads r s order place looks ground step after d b n Q
                    (in_scope PATTERN (done_as (IsThere r s order step after d b) ways)) (compared 0xE0 seen) at.t
                    at.rep on
                    (from (compared 0xE0 seen) (here (compared 0xE0 seen) 0xFF refl refl refl refl refl refl refl
                    above is))
                    way at.fine left,
                λ none. (let low = leb-false 0xE0 byte none in absurd (omega (arith, low, is))),
              ),
              λ out.
                  end_leads r s order place looks ground step after d b n Q
                  (in_scope PATTERN (done_as (IsThere r s order step after d b) ways)) (compared 0xD0 seen) at.t
                  at.rep on
                  (from (compared 0xD0 seen)
                  (here (compared 0xD0 seen) 0xFF refl refl refl refl refl refl refl (not-false _ carry) is)) way
                  at.fine
                  left,
            ),
          ),
        )

    inner : at.p < length order.entries →
        Leads r turn_tree (again_as Q (in_scope PATTERN (done_as (IsThere r s order step after d b) ways))) m
    inner inside =
        let entry : ℕ = get_or order.entries at.p 0 in
        let is : byte ≡ get_or order.entries at.p 0 =
        begins.is ∙ in_front order.entries (0xFF ∷ order.restart ∷ []) at.p inside in (
          begins.found,
          (
            λ off.
                let under = leb-false 0xD0 byte (not-true _ off) in
                let low : get_or order.entries at.p 0 < 0xD0 = omega (arith, under, is) in
                let most = ground.most in
                let place_is = at.walks.y in record {
                  p = at.p;
                  t = at.t;
                  rep = at.rep;
                  walking = walks_on r s d b m _ refl refl refl at.walks.walking;
                  y = omega (arith, place_is, inside, most);
                  transpose = at.walks.transpose;
                  repeat = at.walks.repeat;
                  a = is;
                  fine = at.fine;
                  inside = inside;
                  low = low;
                  comes = arrives order step after at.p at.t at.rep inside low at.way;
                },
            λ carry.
                let over = leb-true 0xD0 byte (not-false _ carry) in
                let from : 0xD0 ≤ get_or order.entries at.p 0 = omega (arith, over, is) in (
                  λ kept. (
                    λ above.
                        let past = leb-true 0xE0 byte above in
                        transpose_leads r s order place looks ground step after d b n Q
                        (in_scope PATTERN (done_as (IsThere r s order step after d b) ways)) (compared 0xE0 seen) at.p
                        at.t
                        at.rep on inside (omega (arith, past, is))
                        (here (compared 0xE0 seen) (get_or order.entries at.p 0) refl refl refl refl refl refl refl
                        above
                        is) at.way at.fine at.looks_left,
                    λ none.
                        let under = leb-false 0xE0 byte none in
                        let below : get_or order.entries at.p 0 < 0xE0 = omega (arith, under, is) in (
                          λ sum.
                              on _
                              (repeat_leads r s order place looks ground step after d b n (compared 0xD0 seen) _ at.p
                              at.t
                              at.rep inside from below kept
                              (here (compared 0xD0 seen) (get_or order.entries at.p 0) refl refl refl refl refl refl
                              refl
                              (not-false _ carry) is) at.way at.looks_left refl refl refl refl refl refl),
                          λ lost.
                              let small = leb-false 256 (byte + 48 + one_if (nat_le 0xE0 byte)) lost in
                              absurd (omega (arith, small, over)),
                        ),
                  ),
                  λ out.
                      let past = ground.repeats out at.p inside from in
                      transpose_leads r s order place looks ground step after d b n Q
                      (in_scope PATTERN (done_as (IsThere r s order step after d b) ways)) (compared 0xD0 seen) at.p
                      at.t
                      at.rep on inside past
                      (here (compared 0xD0 seen) (get_or order.entries at.p 0) refl refl refl refl refl refl refl
                      (not-false _ carry) is) at.way at.fine at.looks_left,
                ),
          ),
        )

-- ---- the loop

pub loop_leads : (r : Reader) (s : Playing) (order : Order) (place : ℕ) (looks : ℕ → ℕ) →
    WalkGround r order place looks → (step : Step) (after : OrderPlace) (d b : VoiceDesk) (ways : Ways) (n : ℕ)
    (m : VoiceDesk) → IsOn r s order place step after d b looks n m →
    TurnsLead n (Leading true r turn_tree) (in_scope PATTERN (done_as (IsThere r s order step after d b) ways)) m
loop_leads r s order place looks ground step after d b ways zero m on =
    (let left = on.looks_left in absurd (omega (arith, left)))
loop_leads r s order place looks ground step after d b ways (suc n) m on =
    turn_leads r s order place looks ground step after d b n
    (TurnsLead n (Leading true r turn_tree) (in_scope PATTERN (done_as (IsThere r s order step after d b) ways))) ways m
    (λ k next. loop_leads r s order place looks ground step after d b ways n k next) on
