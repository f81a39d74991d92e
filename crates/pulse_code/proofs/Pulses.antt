-- What the code of the pulse step leaves.
use Rattle.std.proofs.Common.{◌≡◌, ◌≢◌, ℕ, ◌+◌, ◌*◌, ◌/◌, ◌%◌, ◌<◌, ◌≤◌, Bool, true}
use Rattle.std.proofs.Common.{false, nat_eq, inl, inr}
use Rattle.std.proofs.Common.{refl, sym, ap, ◌∙◌, subst, arith}
use Rattle.std.proofs.lemmas.Bool.{leb-true, leb-false, not-true, not-false, eqb-true, eqb-false, both_ways, eq-eqb}
use Rattle.std.proofs.lemmas.Bool.{ne_eqb}
use Rattle.std.proofs.lemmas.Bool.Decides.{eqb_tells}
use Rattle.code_runs.specs.Runs.{put}
use Rattle.song_model.specs.declared.tables.TableRow.{TableRow}
use Rattle.song_model.specs.declared.tables.TableName.TheVariants.{Pulse}
use Rattle.play_model.specs.LookUps.{LookUps}
use Rattle.play_model.specs.Wrap.{byte_minus}
use Rattle.play_model.specs.State.{Voice, Playing}
use Rattle.play_model.specs.TickStep.{tempo_of}
use Rattle.play_model.specs.Helpers.{next_row}
use Rattle.play_model.specs.PulseStep.{pulse_step, pulse_row, pulse_slide, pulse_moved}
use Rattle.player_memory.specs.declared.labels.TheConstants.{PULSE_POINTER, PULSE_TIME, PULSE_LOW, PULSE_HIGH}
use Rattle.player_memory.specs.declared.labels.TheConstants.{PULSE_LEFTS, PULSE_RIGHTS, NEXT_PULSE_LEFTS}
use Rattle.player_memory.specs.declared.conditions.TheConstants.{PULSE_TABLE}
use Rattle.player_desk.proofs.Laws.{VoiceDesk, Reader, Ways, Leads, done_as, in_scope, body_of, rest_of, joined}
use Rattle.player_desk.proofs.Laws.{indexed, ends}
use Rattle.player_desk.proofs.Laws.{Fields, SameSong, Lent, Done, own_done, done_over, done_by, Reads, listed, place_at}
use Rattle.player_text.specs.declared.pulse.TheConstants.{NEXT, MOVES, MOVED}
use Rattle.pulse_code.specs.PulseBlock.{pulse_tree}
use Rattle.player_memory.specs.Playing.{with_voice}
use Rattle.pulse_code.proofs.Widths.{IsWidth, risen, risen_over, fallen, fallen_under}
use Rattle.pulse_code.proofs.PulseRows.{step_none, step_some, row_sets, row_stops, row_begins, row_runs, slid}
use Rattle.pulse_code.proofs.PulseRows.{slide_ends, slide_stays}

-- ---- what the code stands on

-- a row of the pulse table, and the sides of the row behind it
pub record RowAt (r : Reader) (look : LookUps) (p : ℕ) : Type 0 where
  pub left : Reads r (place_at r PULSE_LEFTS p) (look.row Pulse p).left
  pub right : Reads r (place_at r PULSE_RIGHTS p) (look.row Pulse p).right
  pub left_byte : (look.row Pulse p).left < 256
  pub right_byte : (look.row Pulse p).right < 256

pub record NextAt (r : Reader) (look : LookUps) (p : ℕ) : Type 0 where
  pub left : Reads r (place_at r NEXT_PULSE_LEFTS p) (look.row Pulse (p + 1)).left
  pub right : Reads r (place_at r PULSE_RIGHTS (p + 1)) (look.row Pulse (p + 1)).right
  pub left_byte : (look.row Pulse (p + 1)).left < 256
  pub below : p + 1 < 256

pub record PulseGround (r : Reader) (look : LookUps) (p time : ℕ) : Type 0 where
  pub row : p ≢ 0 → RowAt r look p
  pub next : p ≢ 0 → (look.row Pulse p).left ≢ 0 → NextAt r look p
  pub runs : p ≢ 0 → time ≢ 0 → (look.row Pulse p).left ≢ 0

-- ---- widths

-- a width's bytes, and what it is where the code isn't kept
record Wide (holds : ℕ → Bool) (low high width : ℕ) : Type 0 where
  low_is : holds PULSE_TABLE ≡ true → low ≡ width % 256
  none_low : holds PULSE_TABLE ≡ false → width % 256 ≡ 0
  high_is : holds PULSE_TABLE ≡ true → high % 16 ≡ width / 256
  none_high : holds PULSE_TABLE ≡ false → width / 256 ≡ 0

-- where it is kept
wide : {low high width : ℕ} (holds : ℕ → Bool) → holds PULSE_TABLE ≡ true → IsWidth low high width →
    Wide holds low high width
wide holds kept is = record {
  low_is = λ on. is.low_is;
  none_low = λ off. absurd (both_ways (holds PULSE_TABLE) off kept);
  high_is = λ on. is.high_is;
  none_high = λ off. absurd (both_ways (holds PULSE_TABLE) off kept);
}

-- ---- what holds on the way

-- this voice stands, and Y is the row
record Here (r : Reader) (s : Playing) (handed : Lent) (d : VoiceDesk) (v : Voice) (m : VoiceDesk) : Type 0 where
  done : Done r.layout.holds r.voice (with_voice v s) handed d m
  y : m.y ≡ s.voice.pulse_ptr

-- a frame of the row, which has this time left
record AtMoves (r : Reader) (look : LookUps) (s : Playing) (handed : Lent) (d m : VoiceDesk) : Type 0 where
  time : ℕ
  here : Here r s handed d (record s.voice { pulse_time = time }) m
  some : time ≢ 0
  small : time < 256
  goes : (look.row Pulse s.voice.pulse_ptr).left ≢ 0
  is : pulse_row look (look.row Pulse s.voice.pulse_ptr) s.voice
      ≡ pulse_slide look (look.row Pulse s.voice.pulse_ptr) time s.voice

record AtMoved (r : Reader) (look : LookUps) (s : Playing) (handed : Lent) (d m : VoiceDesk) : Type 0 where
  time : ℕ
  here : Here r s handed d
      (record s.voice {
        pulse_time = time;
        pulse = pulse_moved s.voice.pulse (look.row Pulse s.voice.pulse_ptr).right;
      }) m
  some : time ≢ 0
  small : time < 256
  goes : (look.row Pulse s.voice.pulse_ptr).left ≢ 0
  is : pulse_row look (look.row Pulse s.voice.pulse_ptr) s.voice
      ≡ pulse_slide look (look.row Pulse s.voice.pulse_ptr) time s.voice

-- the program goes on to its next row
record AtNext (r : Reader) (look : LookUps) (s : Playing) (handed : Lent) (d m : VoiceDesk) : Type 0 where
  v : Voice
  here : Here r s handed d v m
  goes : (look.row Pulse s.voice.pulse_ptr).left ≢ 0
  is : pulse_row look (look.row Pulse s.voice.pulse_ptr) s.voice
      ≡ record v { pulse_ptr = next_row look Pulse s.voice.pulse_ptr }

-- ---- the block

abbrev Ended : Reader → LookUps → Playing → Lent → VoiceDesk → VoiceDesk → Type 0
Ended r look s handed d m = Done r.layout.holds r.voice (with_voice (pulse_step look s.voice) s) handed d m

moves_leads : (r : Reader) (look : LookUps) (s : Playing) (handed : Lent) (d m : VoiceDesk) →
    r.layout.holds PULSE_TABLE ≡ true → RowAt r look s.voice.pulse_ptr → s.voice.pulse_ptr ≢ 0 →
    (s.voice.pulse_time ≢ 0 → (look.row Pulse s.voice.pulse_ptr).left ≢ 0) → s.voice.pulse_time < 256 →
    Here r s handed d s.voice m →
    Leads r (body_of MOVES pulse_tree)
    (in_scope MOVES (done_as (AtMoves r look s handed d)
    (in_scope NEXT (done_as (AtNext r look s handed d) (in_scope 0 (ends (Ended r look s handed d))))))) m
moves_leads r look s handed d m kept row some stays few here = (
  λ runs.
      let on : s.voice.pulse_time ≢ 0 =
      λ e. eqb-false (m.own PULSE_TIME) 0 (not-true _ runs) (here.done.fields.pulse_time ∙ e) in record {
        time = s.voice.pulse_time;
        here = record { done = done_over r.layout.holds r.voice s handed d m _ refl refl refl here.done; y = here.y };
        some = on;
        small = few;
        goes = stays on;
        is = row_runs look line s.voice on;
      },
  λ over.
      let none : s.voice.pulse_time ≡ 0 = sym here.done.fields.pulse_time ∙ eqb-true (m.own PULSE_TIME) 0
      (not-false _ over) in
      listed PULSE_LEFTS s.voice.pulse_ptr line.left row.left here.y
      (λ b e. (
        λ zero.
            done_by r.layout.holds r.voice s (with_voice (pulse_step look s.voice) s) handed d _
            (ap (λ v. with_voice v s)
            (step_some look s.voice some ∙ row_stops look line s.voice none (sym e ∙ eqb-true b 0 zero)))
            (done_over r.layout.holds r.voice s handed d m _ refl refl refl here.done),
        λ not_zero. (
          λ plus.
              let low : line.left < 0x80 = (let z = leb-false 128 b (not-true _ plus) in omega (arith, z, e)) in
              let left : line.left ≢ 0 = λ z. eqb-false b 0 not_zero (e ∙ z) in record {
                time = line.left;
                here = record {
                  done =
                      own_done r.layout.holds r.voice s _ handed d m _ refl refl refl (assumption (e, here.done.fields))
                      (assumption here.done.song) here.done;
                  y = here.y;
                };
                some = left;
                small = row.left_byte;
                goes = left;
                is = row_begins look line s.voice none left low;
              },
          λ minus.
              let high : 0x80 ≤ line.left = (let z = leb-true 128 b (not-false _ minus) in omega (arith, z, e)) in
              listed PULSE_RIGHTS s.voice.pulse_ptr line.right row.right here.y
              (λ c f.
              let w : IsWidth c b (256 * (line.left % 16) + line.right) = record {
                low_is = (let l = row.right_byte in omega (arith, f, l));
                high_is = (let l = row.right_byte in omega (arith, e, l));
              } in record {
                v = record s.voice { pulse = 256 * (line.left % 16) + line.right };
                here = record {
                  done =
                      own_done r.layout.holds r.voice s _ handed d m _ refl refl refl
                      (assumption (wide r.layout.holds kept w, here.done.fields)) (assumption here.done.song) here.done;
                  y = here.y;
                };
                goes = λ z. omega (arith, high, z);
                is = row_sets look line s.voice none high;
              }),
        ),
      )),
)
  where
    line : TableRow
    line = look.row Pulse s.voice.pulse_ptr

moved_leads : (r : Reader) (look : LookUps) (s : Playing) (handed : Lent) (d : VoiceDesk) (ways : Ways) →
    r.layout.holds PULSE_TABLE ≡ true → RowAt r look s.voice.pulse_ptr → s.voice.pulse < 4096 → (m : VoiceDesk) →
    AtMoves r look s handed d m →
    Leads r (body_of MOVED pulse_tree) (in_scope MOVED (done_as (AtMoved r look s handed d) ways)) m
moved_leads r look s handed d ways kept row small m at =
    listed PULSE_RIGHTS s.voice.pulse_ptr line.right row.right at.here.y
    (λ b e. (
      λ falls.
          let from : 0x80 ≤ line.right = (let z = leb-true 128 b falls in omega (arith, z, e)) in (
            λ carry.
                let over : 256 ≤ b + low + 0 = leb-true 256 (b + low + 0) carry in
                let w : IsWidth ((b + low + 0) % 256) high after =
                subst (λ a. IsWidth ((a + low + 0) % 256) high after) (sym e)
                (fallen low high s.voice.pulse line.right small from row.right_byte (omega (arith, over, e)) before) in
                on _ refl refl at.here.y (assumption (wide r.layout.holds kept w, at.here.done.fields))
                (assumption at.here.done.song),
            λ none.
                let under : b + low + 0 < 256 = leb-false 256 (b + low + 0) none in
                let w : IsWidth ((b + low + 0) % 256) ((high + 255) % 256) after =
                subst (λ a. IsWidth ((a + low + 0) % 256) ((high + 255) % 256) after) (sym e)
                (fallen_under low high s.voice.pulse line.right small from row.right_byte (omega (arith, under, e))
                before) in
                on _ refl refl at.here.y (assumption (wide r.layout.holds kept w, at.here.done.fields))
                (assumption at.here.done.song),
          ),
      λ rises.
          let byte : line.right < 0x80 = (let z = leb-false 128 b rises in omega (arith, z, e)) in (
            λ none.
                let under : b + low + 0 < 256 = leb-false 256 (b + low + 0) (not-true _ none) in
                let w : IsWidth ((b + low + 0) % 256) high after =
                subst (λ a. IsWidth ((a + low + 0) % 256) high after) (sym e)
                (risen low high s.voice.pulse line.right small byte (omega (arith, under, e)) before) in
                on _ refl refl at.here.y (assumption (wide r.layout.holds kept w, at.here.done.fields))
                (assumption at.here.done.song),
            λ carry.
                let over : 256 ≤ b + low + 0 = leb-true 256 (b + low + 0) (not-false _ carry) in
                let w : IsWidth ((b + low + 0) % 256) ((high + 1) % 256) after =
                subst (λ a. IsWidth ((a + low + 0) % 256) ((high + 1) % 256) after) (sym e)
                (risen_over low high s.voice.pulse line.right small byte (omega (arith, over, e)) before) in (
                  λ still.
                      on _ refl refl at.here.y (assumption (wide r.layout.holds kept w, at.here.done.fields))
                      (assumption at.here.done.song),
                  λ lost. both_ways _ lost (not-false _ carry),
                ),
          ),
    ))
  where
    line : TableRow
    line = look.row Pulse s.voice.pulse_ptr

    low : ℕ
    low = m.own PULSE_LOW

    high : ℕ
    high = m.own PULSE_HIGH

    after : ℕ
    after = pulse_moved s.voice.pulse line.right

    before : IsWidth low high s.voice.pulse
    before = record { low_is = at.here.done.fields.pulse_low kept; high_is = at.here.done.fields.pulse_high kept }

    v : Voice
    v = record s.voice { pulse_time = at.time; pulse = after }

    on : (n : VoiceDesk) → n.shared ≡ m.shared → n.sid ≡ m.sid → n.y ≡ s.voice.pulse_ptr →
        Fields r.layout.holds v (tempo_of (r.voice + 1) s.common) n.own → SameSong n.own d.own →
        AtMoved r look s handed d n
    on n shared sid y fields song = record {
      time = at.time;
      here = record {
        done = own_done r.layout.holds r.voice (with_voice (record s.voice { pulse_time = at.time }) s) (with_voice v s)
            handed d m n shared sid refl fields song at.here.done;
        y = y;
      };
      some = at.some;
      small = at.small;
      goes = at.goes;
      is = at.is;
    }

-- the time is one less
timed_leads : (r : Reader) (look : LookUps) (s : Playing) (handed : Lent) (d m : VoiceDesk) → s.voice.pulse_ptr ≢ 0 →
    AtMoved r look s handed d m →
    Leads r (rest_of MOVED pulse_tree)
    (in_scope NEXT (done_as (AtNext r look s handed d) (in_scope 0 (ends (Ended r look s handed d))))) m
timed_leads r look s handed d m some at = (
  λ runs.
      let goes : nat_eq left 0 ≡ false = ne_eqb left 0
      (λ e. eqb-false ((m.own PULSE_TIME + 255) % 256) 0 (not-true _ runs) (one ∙ e)) in
      done_by r.layout.holds r.voice (with_voice (slid after at.time s.voice) s) _ handed d _
      (ap (λ v. with_voice v s) (step_some look s.voice some ∙ (at.is ∙ slide_stays look line at.time s.voice goes)))
      (own_done r.layout.holds r.voice _ (with_voice (slid after at.time s.voice) s) handed d m _ refl refl refl
      (assumption (one, at.here.done.fields)) (assumption at.here.done.song) at.here.done),
  λ over.
      let ends : nat_eq left 0 ≡ true = eq-eqb left 0
      (sym one ∙ eqb-true ((m.own PULSE_TIME + 255) % 256) 0 (not-false _ over)) in record {
        v = slid after at.time s.voice;
        here = record {
          done =
              own_done r.layout.holds r.voice _ (with_voice (slid after at.time s.voice) s) handed d m _ refl refl refl
              (assumption (one, at.here.done.fields)) (assumption at.here.done.song) at.here.done;
          y = at.here.y;
        };
        goes = at.goes;
        is = at.is ∙ slide_ends look line at.time s.voice ends;
      },
)
  where
    line : TableRow
    line = look.row Pulse s.voice.pulse_ptr

    after : ℕ
    after = pulse_moved s.voice.pulse line.right

    left : ℕ
    left = byte_minus at.time 1

    one : (m.own PULSE_TIME + 255) % 256 ≡ left
    one = (let t = at.here.done.fields.pulse_time in omega (arith, t))

-- the row to which it goes on
jumps_to : (look : LookUps) (p : ℕ) → (look.row Pulse (p + 1)).left ≡ 0xFF →
    next_row look Pulse p ≡ (look.row Pulse (p + 1)).right
unfolding next_row
jumps_to look p e = rw e refl

steps_to : (look : LookUps) (p : ℕ) → (look.row Pulse (p + 1)).left ≢ 0xFF → next_row look Pulse p ≡ (p + 1) % 256
unfolding next_row
steps_to look p other = (let z = ne_eqb (look.row Pulse (p + 1)).left 0xFF other in rw z refl)

-- the program goes on
next_leads : (r : Reader) (look : LookUps) (s : Playing) (handed : Lent) (d m : VoiceDesk) → s.voice.pulse_ptr ≢ 0 →
    NextAt r look s.voice.pulse_ptr → AtNext r look s handed d m →
    Leads r (rest_of NEXT pulse_tree) (in_scope 0 (ends (Ended r look s handed d))) m
next_leads r look s handed d m some next at =
    listed NEXT_PULSE_LEFTS s.voice.pulse_ptr following.left next.left at.here.y
    (λ b e. (
      λ goes.
          let other : following.left ≢ 0xFF = λ z.
          (let f = leb-false 255 b (not-true _ goes) in omega (arith, f, e, z)) in
          on _ ((m.y + 1) % 256) refl refl refl
          (ap (λ y. (y + 1) % 256) at.here.y ∙ sym (steps_to look s.voice.pulse_ptr other)),
      λ jumps.
          let last : following.left ≡ 0xFF =
          (let f = leb-true 255 b (not-false _ jumps) in let l = next.left_byte in omega (arith, f, e, l)) in
          listed PULSE_RIGHTS (s.voice.pulse_ptr + 1) following.right next.right
          (ap (λ y. (y + 1) % 256) at.here.y ∙ (let l = next.below in omega (arith, l)))
          (λ c f. on _ c refl refl refl (f ∙ sym (jumps_to look s.voice.pulse_ptr last))),
    ))
  where
    following : TableRow
    following = look.row Pulse (s.voice.pulse_ptr + 1)

    on : (n : VoiceDesk) (p : ℕ) → n.shared ≡ m.shared → n.sid ≡ m.sid → n.own ≡ put m.own PULSE_POINTER p →
        p ≡ next_row look Pulse s.voice.pulse_ptr → Ended r look s handed d n
    on n p shared sid own is =
        let fields : Fields r.layout.holds (record at.v { pulse_ptr = next_row look Pulse s.voice.pulse_ptr })
        (tempo_of (r.voice + 1) s.common) (put m.own PULSE_POINTER p) = assumption (is, at.here.done.fields) in
        let song : SameSong (put m.own PULSE_POINTER p) d.own = assumption at.here.done.song in
        done_by r.layout.holds r.voice
        (with_voice (record at.v { pulse_ptr = next_row look Pulse s.voice.pulse_ptr }) s) _ handed d n
        (ap (λ v. with_voice v s) (step_some look s.voice some ∙ at.is))
        (own_done r.layout.holds r.voice _ _ handed d m n shared sid refl (rw own fields) (rw own song) at.here.done)

-- ---- the law

-- On the desk of a voice whose pulse program is found, the code leaves what the rule says; where the code isn't kept
-- the voice has no program.
pub pulse_leads : (r : Reader) (look : LookUps) (s : Playing) (handed : Lent) (d m : VoiceDesk) →
    PulseGround r look s.voice.pulse_ptr s.voice.pulse_time → s.voice.pulse < 4096 → s.voice.pulse_time < 256 →
    (s.voice.pulse_ptr ≢ 0 → r.layout.holds PULSE_TABLE ≡ true) → Done r.layout.holds r.voice s handed d m →
    Leads r pulse_tree (ends (Ended r look s handed d)) m
pulse_leads r look s handed d m ground small few keeps done = (
  λ kept. (
    λ zero. idle _ refl refl refl (sym done.fields.pulse_ptr ∙ eqb-true (m.own PULSE_POINTER) 0 zero),
    λ not_zero.
        let some : s.voice.pulse_ptr ≢ 0 =
        λ e. eqb-false (m.own PULSE_POINTER) 0 not_zero (done.fields.pulse_ptr ∙ e) in
        joined true r NEXT (body_of NEXT pulse_tree) (rest_of NEXT pulse_tree) (AtNext r look s handed d) last
        (indexed (m.own PULSE_POINTER) m)
        (joined true r MOVES (body_of MOVES pulse_tree) (rest_of MOVES pulse_tree) (AtMoves r look s handed d) goes
        (indexed (m.own PULSE_POINTER) m)
        (moves_leads r look s handed d (indexed (m.own PULSE_POINTER) m) kept (ground.row some) some (ground.runs some)
        few
        (record {
          done = done_over r.layout.holds r.voice s handed d m _ refl refl refl done;
          y = done.fields.pulse_ptr;
        }))
        (λ n moves.
        joined true r MOVED (body_of MOVED pulse_tree) (rest_of MOVED pulse_tree) (AtMoved r look s handed d) goes n
        (moved_leads r look s handed d goes kept (ground.row some) small n moves)
        (λ k moved. timed_leads r look s handed d k some moved)))
        (λ n next. next_leads r look s handed d n some (ground.next some next.goes) next),
  ),
  λ out.
      elim (eqb_tells s.voice.pulse_ptr 0) [
        | inl none ↦ idle m refl refl refl none.1
        | inr some ↦ absurd (both_ways (r.layout.holds PULSE_TABLE) out (keeps some.1))
      ],
)
  where
    last : Ways
    last = in_scope 0 (ends (Ended r look s handed d))

    goes : Ways
    goes = in_scope NEXT (done_as (AtNext r look s handed d) last)

    idle : (n : VoiceDesk) → n.own ≡ m.own → n.shared ≡ m.shared → n.sid ≡ m.sid → s.voice.pulse_ptr ≡ 0 →
        Ended r look s handed d n
    idle n own shared sid none =
        done_by r.layout.holds r.voice s _ handed d n (ap (λ v. with_voice v s) (step_none look s.voice none))
        (done_over r.layout.holds r.voice s handed d m n own shared sid done)
