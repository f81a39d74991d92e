-- What the code of the wave step leaves.
use Rattle.std.proofs.Common.{◌≡◌, ◌≢◌, ℕ, ◌+◌, ◌-◌, ◌%◌, ◌<◌, ◌≤◌, true, false, bit_and}
use Rattle.std.proofs.Common.{inl, inr, refl, sym, ap, ◌∙◌, arith}
use Rattle.std.proofs.lemmas.Bool.{leb-true, leb-false, not-true, not-false, eqb-true, eqb-false, both_ways, lt-leb}
use Rattle.std.proofs.lemmas.Bool.{cases_lt}
use Rattle.std.proofs.lemmas.Bool.Decides.{eqb_tells}
use Rattle.cpu6502.specs.Registers.{one_if}
use Rattle.code_runs.specs.Runs.{put}
use Rattle.song_model.specs.declared.tables.TableRow.{TableRow}
use Rattle.song_model.specs.declared.tables.TableName.TheVariants.{Wave}
use Rattle.scopes.specs.Trees.{Tree, ThenTree, ScopeTree}
use Rattle.play_model.specs.LookUps.{LookUps}
use Rattle.play_model.specs.Wrap.{byte_plus}
use Rattle.play_model.specs.State.{Playing}
use Rattle.play_model.specs.TickStep.{tempo_of}
use Rattle.play_model.specs.Helpers.{next_row}
use Rattle.play_model.specs.WaveStep.{Waved, wave_step, right_done, wave_note, with_note, is_wave_command}
use Rattle.player_memory.specs.declared.conditions.TheConstants.{WAVE_TABLE, WAVE_COMMAND, WAVE_DELAY, SPECIAL_ROW}
use Rattle.player_memory.specs.declared.labels.TheConstants.{NOTE, WAVE, WAVE_POINTER, WAVE_TIME}
use Rattle.player_memory.specs.declared.labels.TheConstants.{WAVE_LEFTS, NEXT_WAVE_LEFTS, WAVE_RIGHTS, NEXT_WAVE_RIGHTS}
use Rattle.player_desk.proofs.Laws.{VoiceDesk, Reader, Ways, Leads, done_as, in_scope, body_of, rest_of, joined, loaded}
use Rattle.player_desk.proofs.Laws.{indexed, Fields, SameSong, Lent, Done, own_done, done_over, done_by, listed}
use Rattle.command_code.proofs.Laws.{behind}
use Rattle.wave_code.specs.WaveBlock.{wave_tree, its_row, begun, KeepsWave}
use Rattle.player_memory.specs.Forms.{stored_left, stored_right}
use Rattle.wave_code.proofs.WaveRows.{step_none, step_some, row_waits, row_over, row_wave, row_low, row_command}
use Rattle.wave_code.proofs.WaveRows.{right_kept, right_note, note_relative, note_own, begun_note, is_no_command}
use Rattle.wave_code.proofs.WaveRows.{is_a_command}
use Rattle.wave_code.proofs.WaveRows.{jumps_to, steps_to, held, moved, begun_delay, begun_wave, begun_low}
use Rattle.wave_code.proofs.WaveRows.{begun_command}
use Rattle.wave_code.proofs.StoredRows.{Kind, Delay, Sound, LowSound, Command, kind_of, is_jump_byte, is_jump_stored}
use Rattle.wave_code.proofs.StoredRows.{high_left, low_left, below_last, below, stored_command, stored_note}
use Rattle.wave_code.proofs.StoredRows.{stored_as_is, low_four, low_seven}
use Rattle.wave_code.proofs.WaveGrounds.{RowAt, NextAt, WaveGround, AtEnd, AtPitch, wave_ways, AtNext, AtMoved}

-- ---- the scopes, by their names

abbrev IDLE : ℕ
IDLE = 0

abbrev NEXT : ℕ
NEXT = 1

abbrev SOUNDING : ℕ
SOUNDING = 2

abbrev OVER : ℕ
OVER = 3

abbrev MOVED : ℕ
MOVED = 4

abbrev FIXED : ℕ
FIXED = 6

-- the lines that set the waveform, behind those for special rows
abbrev set_tree : Tree
set_tree = behind (body_of NEXT wave_tree)

abbrev its_ways : Reader → LookUps → Playing → Lent → VoiceDesk → Ways
its_ways r look s handed d = in_scope IDLE (wave_ways r look s handed d)

-- ---- the right side

right_leads : (r : Reader) (look : LookUps) (s : Playing) (handed : Lent) (d m : VoiceDesk) →
    RowAt r look s.voice.wave_ptr → (its_row look s.voice).left < 0xF0 → AtMoved r look s handed d m →
    Leads r (ThenTree (ScopeTree FIXED (body_of FIXED wave_tree)) (rest_of FIXED wave_tree))
    (its_ways r look s handed d) m
right_leads r look s handed d m at low here =
    listed WAVE_RIGHTS s.voice.wave_ptr (stored_right row) at.right here.y
    (λ b e.
    let is : b ≡ (row.right + 0x80) % 256 = e ∙ stored_note row low in (
      λ zero.
          let none : b ≡ 0 = eqb-true b 0 zero in
          let kept : row.right ≡ 0x80 = omega (arith, none, is, byte) in
          let w = here.row low ∙ right_kept row (begun look s) low kept in record {
            runs = ap (λ (w : Waved). w.effect) w;
            done =
                done_by r.layout.holds r.voice (begun look s) _ handed d _ (ap (λ (w : Waved). w.playing) w)
                (done_over r.layout.holds r.voice (begun look s) handed d m _ refl refl refl here.done);
          },
      λ some.
          let other : row.right ≢ 0x80 = λ k. eqb-false b 0 some (omega (arith, k, is)) in (
            λ plus.
                let small : b < 128 = leb-false 128 b (not-true _ plus) in
                let high : 0x80 ≤ row.right = omega (arith, small, is, byte) in
                on _ refl refl refl other
                (omega (arith, is, high, byte) ∙ sym (note_own row.right (begun look s).voice.note high)),
            λ minus.
                let large : 128 ≤ b = leb-true 128 b (not-false _ minus) in
                let below : row.right < 0x80 = omega (arith, large, is, byte) in
                on _ refl refl refl other
                (low_seven ((b + m.own NOTE + one_if m.c) % 256) (omega arith)
                ∙ (sum b (one_if m.c) is (ap one_if here.carry)
                ∙ sym (note_relative row.right (begun look s).voice.note below))),
          ),
    ))
  where
    row : TableRow
    row = its_row look s.voice

    byte : row.right < 256
    byte = at.right_byte

    sum : (b one : ℕ) → b ≡ (row.right + 0x80) % 256 → one ≡ 0 →
        (b + m.own NOTE + one) % 256 % 128 ≡ (row.right + (begun look s).voice.note) % 128
    sum b one is none = (let n = here.done.fields.note in omega (arith, is, none, n))

    on : (n : VoiceDesk) → n.own ≡ m.own → n.shared ≡ m.shared → n.sid ≡ m.sid → row.right ≢ 0x80 →
        n.a ≡ wave_note row.right (begun look s).voice.note → AtPitch r look s handed d n
    on n own shared sid other note =
        let w = here.row low ∙ right_note row (begun look s) low other in record {
          rests = ap (λ (w : Waved). w.effect) w;
          none = is_no_command row low;
          note = record {
            number = note ∙ ap (wave_note row.right) (begun_note look s low);
            sets = ap (λ (w : Waved). w.playing) w ∙ ap
                (λ x. record (begun look s) { voice = with_note x (begun look s).voice }) (sym note);
          };
          done = done_over r.layout.holds r.voice (begun look s) handed d m n own shared sid here.done;
        }

-- ---- a command, which is left for the lines behind

command_leads : (r : Reader) (look : LookUps) (s : Playing) (handed : Lent) (d m : VoiceDesk) →
    s.voice.wave_ptr ≢ 0 → RowAt r look s.voice.wave_ptr → (its_row look s.voice).left ≢ 0xFF →
    KeepsWave r.layout look s.voice → AtMoved r look s handed d m →
    Leads r (rest_of MOVED wave_tree) (its_ways r look s handed d) m
command_leads r look s handed d m some at no_jump keeps here = (
  λ kept.
      listed WAVE_LEFTS s.voice.wave_ptr (stored_left row.left) at.left here.y
      (λ b e. (
        λ high.
            let from : 0xF0 ≤ row.left = high_left row.left b e (leb-true 240 b high) in
            let as_is : b ≡ row.left = e ∙ stored_command row.left from in
            let is : is_wave_command row ≡ true = is_a_command row from (below row.left from (few b e as_is) no_jump) in
            record {
              rests = ap (λ (w : Waved). w.effect)
                  (step_some look s some ∙ row_command look row s from (below row.left from (few b e as_is) no_jump));
              is = is;
              command = record { left = as_is; row = here.y };
              done = done_over r.layout.holds r.voice (begun look s) handed d m _ refl refl refl here.done;
            },
        λ not_high.
            right_leads r look s handed d _ at (low_left row.left b e (leb-false 240 b not_high))
            (record {
              done = done_over r.layout.holds r.voice (begun look s) handed d m _ refl refl refl here.done;
              y = here.y;
              carry = not_high;
              row = here.row;
            }),
      )),
  λ out. right_leads r look s handed d m at (no_command out) here,
)
  where
    row : TableRow
    row = its_row look s.voice

    few : (b : ℕ) → b ≡ stored_left row.left → b ≡ row.left → row.left < 256
    few b e as_is = (let l = at.left_byte in omega (arith, l, e, as_is))

    no_command : r.layout.holds WAVE_COMMAND ≡ false → row.left < 0xF0
    no_command out =
        elim (cases_lt row.left 0xF0) [
          | inl low ↦ low
          | inr from ↦
              absurd (both_ways (r.layout.holds WAVE_COMMAND) out
              (keeps.command some
              (is_a_command row from (below row.left from
              (few (stored_left row.left) refl (stored_command row.left from)) no_jump))))
        ]

-- ---- the program goes on

moved_leads : (r : Reader) (look : LookUps) (s : Playing) (handed : Lent) (d : VoiceDesk) →
    NextAt r look s.voice.wave_ptr → (m : VoiceDesk) → AtNext r look s handed d m →
    Leads r (body_of MOVED wave_tree)
    (in_scope MOVED (done_as (AtMoved r look s handed d) (its_ways r look s handed d))) m
moved_leads r look s handed d next m at =
    listed NEXT_WAVE_LEFTS s.voice.wave_ptr (stored_left following.left) next.left at.y
    (λ b e. (
      λ goes.
          let few : b < 256 = (let l = next.left_byte in omega (arith, l, e)) in
          let under = below_last b few (not-true _ goes) in
          let other : following.left ≢ 0xFF = λ z.
          (let f = is_jump_stored following.left b e z in omega (arith, f, under)) in
          on _ ((m.own WAVE_POINTER + 1) % 256) refl refl refl refl
          (ap (λ y. (y + 1) % 256) at.done.fields.wave_ptr ∙ sym (steps_to look s.voice.wave_ptr other))
          (lt-leb 255 b under),
      λ jumps.
          let same : b ≡ 255 = (let z = eqb-true ((b + 1) % 256) 0 (not-false _ jumps) in let l = next.left_byte in
          omega (arith, z, l, e)) in
          let last : following.left ≡ 0xFF = is_jump_byte following.left b e same in
          listed NEXT_WAVE_RIGHTS s.voice.wave_ptr (stored_right following) next.right at.y
          (λ c f. (
            λ off.
                on _ c refl refl refl refl
                (f ∙ (stored_as_is following (omega (arith, last)) ∙ sym (jumps_to look s.voice.wave_ptr last))) refl,
            λ never. both_ways true never refl,
          )),
    ))
  where
    following : TableRow
    following = look.row Wave (s.voice.wave_ptr + 1)

    on : (n : VoiceDesk) (p : ℕ) → n.shared ≡ m.shared → n.sid ≡ m.sid → n.y ≡ m.y →
        n.own ≡ put m.own WAVE_POINTER p → p ≡ next_row look Wave s.voice.wave_ptr → n.c ≡ false →
        AtMoved r look s handed d n
    on n p shared sid y own is carry =
        let fields : Fields r.layout.holds (moved look at.wave s).voice (tempo_of (r.voice + 1) s.common)
        (put m.own WAVE_POINTER p) =
        assumption (is, at.done.fields) in
        let song : SameSong (put m.own WAVE_POINTER p) d.own = assumption at.done.song in record {
          done =
              done_by r.layout.holds r.voice (moved look at.wave s) (begun look s) handed d n at.is
              (own_done r.layout.holds r.voice (held at.wave s) _ handed d m n shared sid refl (rw own fields)
              (rw own song) at.done);
          y = y ∙ at.y;
          carry = carry;
          row = at.row;
        }

-- ---- the left side

abbrev next_ways : Reader → LookUps → Playing → Lent → VoiceDesk → Ways
next_ways r look s handed d = in_scope NEXT (done_as (AtNext r look s handed d) (its_ways r look s handed d))

-- this waveform stands there
at_next : (r : Reader) (look : LookUps) (s : Playing) (handed : Lent) (d m n : VoiceDesk) (wave : ℕ) →
    Done r.layout.holds r.voice s handed d m → m.y ≡ s.voice.wave_ptr → n.shared ≡ m.shared → n.sid ≡ m.sid →
    n.y ≡ m.y →
    Fields r.layout.holds (held wave s).voice (tempo_of (r.voice + 1) s.common) n.own → SameSong n.own d.own →
    begun look s ≡ moved look wave s →
    ((its_row look s.voice).left < 0xF0 → wave_step look s ≡ right_done (its_row look s.voice) (begun look s)) →
    AtNext r look s handed d n
at_next r look s handed d m n wave done y shared sid same fields song is row = record {
  wave = wave;
  done = own_done r.layout.holds r.voice s (held wave s) handed d m n shared sid refl fields song done;
  y = same ∙ y;
  is = is;
  row = row;
}

-- a delay, of which A is the byte
over_leads : (r : Reader) (look : LookUps) (s : Playing) (handed : Lent) (d m : VoiceDesk) →
    r.layout.holds WAVE_DELAY ≡ true → s.voice.wave_ptr ≢ 0 → (its_row look s.voice).left < 0x10 →
    s.voice.wave_time ≤ (its_row look s.voice).left →
    m.a ≡ 0xE0 + (its_row look s.voice).left → m.y ≡ s.voice.wave_ptr → Done r.layout.holds r.voice s handed d m →
    Leads r (ThenTree (ScopeTree OVER (body_of OVER wave_tree)) (rest_of OVER wave_tree))
    (in_scope SOUNDING
    (done_as (Leads r set_tree (next_ways r look s handed d)) (next_ways r look s handed d))) m
over_leads r look s handed d m kept some low passed a y done = (
  λ same.
      let z = eqb-true ((bit_and m.a 0x0F + (256 - m.own WAVE_TIME)) % 256) 0 same in
      let over : s.voice.wave_time ≡ row.left = omega (arith, z, time, left, low, passed) in (
        λ on.
            at_next r look s handed d m _ s.voice.wave done y refl refl refl (assumption done.fields)
            (assumption done.song) (begun_delay look s low)
            (λ few.
            step_some look s some
            ∙ (row_over look row s low over ∙ ap (right_done row) (sym (begun_delay look s low)))),
        λ never. absurd (both_ways true never refl),
      ),
  λ other.
      let apart : s.voice.wave_time ≢ row.left =
      λ e. eqb-false ((bit_and m.a 0x0F + (256 - m.own WAVE_TIME)) % 256) 0 other (omega (arith, e, time, left, low))
      in (
        λ waits.
            let w = step_some look s some ∙ row_waits look row s low apart in
            let more = λ (on : r.layout.holds WAVE_DELAY ≡ true). next_time in record {
              runs = ap (λ (w : Waved). w.effect) w;
              done =
                  done_by r.layout.holds r.voice
                  (record s { voice = record s.voice { wave_time = byte_plus s.voice.wave_time 1 } }) _ handed d _
                  (ap (λ (w : Waved). w.playing) w)
                  (own_done r.layout.holds r.voice s _ handed d m _ refl refl refl (assumption (more, done.fields))
                  (assumption done.song) done);
            },
        λ round.
            let z = eqb-true ((m.own WAVE_TIME + 1) % 256) 0 (not-false _ round) in omega (arith, z, time, passed, low),
      ),
)
  where
    row : TableRow
    row = its_row look s.voice

    time : m.own WAVE_TIME ≡ s.voice.wave_time
    time = done.fields.wave_time kept

    next_time : (m.own WAVE_TIME + 1) % 256 ≡ byte_plus s.voice.wave_time 1
    next_time = omega (arith, time)

    left : bit_and m.a 0x0F ≡ row.left
    left = low_four m.a (omega (arith, a, low)) ∙ omega (arith, a, low)

-- of a row that is no delay no time has passed
fresh : (r : Reader) (look : LookUps) (s : Playing) {handed : Lent} {d : VoiceDesk} (m : VoiceDesk) →
    Done r.layout.holds r.voice s handed d m → WaveGround r look s.voice.wave_ptr s.voice.wave_time →
    s.voice.wave_ptr ≢ 0 → 0x10 ≤ (its_row look s.voice).left → r.layout.holds WAVE_DELAY ≡ true →
    m.own WAVE_TIME ≡ 0
fresh r look s m done ground some from on = done.fields.wave_time on ∙ ground.fresh some from

next_leads : (r : Reader) (look : LookUps) (s : Playing) (handed : Lent) (d m : VoiceDesk) →
    s.voice.wave_ptr ≢ 0 → WaveGround r look s.voice.wave_ptr s.voice.wave_time → KeepsWave r.layout look s.voice →
    Kind (its_row look s.voice).left m.a → m.y ≡ s.voice.wave_ptr → Done r.layout.holds r.voice s handed d m →
    Leads r (body_of NEXT wave_tree) (next_ways r look s handed d) m
next_leads r look s handed d m some ground keeps (Delay low is) y done = (
  λ special. (
    λ under. (let l = leb-false 224 m.a (not-true _ under) in absurd (omega (arith, l, is))),
    λ above. (
      λ kept. (
        λ high. (let l = leb-true 240 m.a high in absurd (omega (arith, l, is, low))),
        λ not_high. (
          λ kept_delay.
              over_leads r look s handed d m kept_delay some low (ground.delay some low) is y done,
          λ out. absurd (both_ways (r.layout.holds WAVE_DELAY) out (keeps.delay some low)),
        ),
      ),
      λ none. (
        λ kept_delay.
            over_leads r look s handed d m kept_delay some low (ground.delay some low) is y done,
        λ out. absurd (both_ways (r.layout.holds WAVE_DELAY) out (keeps.delay some low)),
      ),
    ),
  ),
  λ out. absurd (both_ways (r.layout.holds SPECIAL_ROW) out (keeps.shared.delay (keeps.delay some low))),
)
next_leads r look s handed d m some ground keeps (Sound from to is) y done = (
  λ special. (
    λ under. sounds _ refl refl refl refl refl,
    λ above. (let l = leb-true 224 m.a (not-false _ above) in absurd (omega (arith, l, is, to))),
  ),
  λ out. sounds _ refl refl refl refl refl,
)
  where
    row : TableRow
    row = its_row look s.voice

    sounds : (n : VoiceDesk) → n.own ≡ put m.own WAVE m.a → n.shared ≡ m.shared → n.sid ≡ m.sid → n.y ≡ m.y →
        n.a ≡ m.a → AtNext r look s handed d n
    sounds n own shared sid same a =
        let none = fresh r look s m done ground some from in
        at_next r look s handed d m n row.left done y shared sid same (rw own (assumption (is, none, done.fields)))
        (rw own (assumption done.song)) (begun_wave look s from to)
        (λ few.
        step_some look s some ∙ (row_wave look row s from to ∙ ap (right_done row) (sym (begun_wave look s from to))))
next_leads r look s handed d m some ground keeps (LowSound from to is) y done = (
  λ special. (
    λ under. sounds _ refl refl refl refl refl,
    λ above. (let l = leb-true 224 m.a (not-false _ above) in absurd (omega (arith, l, is, to, from))),
  ),
  λ out. sounds _ refl refl refl refl refl,
)
  where
    row : TableRow
    row = its_row look s.voice

    sounds : (n : VoiceDesk) → n.own ≡ put m.own WAVE m.a → n.shared ≡ m.shared → n.sid ≡ m.sid → n.y ≡ m.y →
        n.a ≡ m.a → AtNext r look s handed d n
    sounds n own shared sid same a =
        let none = fresh r look s m done ground some (omega (arith, from)) in
        at_next r look s handed d m n (row.left - 0xE0) done y shared sid same
        (rw own (assumption (is, none, done.fields))) (rw own (assumption done.song)) (begun_low look s from to)
        (λ few.
        step_some look s some ∙ (row_low look row s from to ∙ ap (right_done row) (sym (begun_low look s from to))))
next_leads r look s handed d m some ground keeps (Command from is) y done = (
  λ special. (
    λ under. (let l = leb-false 224 m.a (not-true _ under) in absurd (omega (arith, l, is, from))),
    λ above. (
      λ kept. (
        λ high.
            let none = fresh r look s m done ground some (omega (arith, from)) in
            at_next r look s handed d m _ s.voice.wave done y refl refl refl (assumption (none, done.fields))
            (assumption done.song) (begun_command look s command)
            (λ few. absurd (omega (arith, few, from))),
        λ not_high. (let l = leb-false 240 m.a not_high in absurd (omega (arith, l, is, from))),
      ),
      λ out. absurd (both_ways (r.layout.holds WAVE_COMMAND) out (keeps.command some command)),
    ),
  ),
  λ out. absurd (both_ways (r.layout.holds SPECIAL_ROW) out (keeps.shared.command (keeps.command some command))),
)
  where
    row : TableRow
    row = its_row look s.voice

    few : row.left < 256
    few =
        let as_is = stored_command row.left from in
        let l = (ground.row some).left_byte in omega (arith, l, as_is)

    command : is_wave_command row ≡ true
    command = is_a_command row from (below row.left from few (ground.no_jump some))

-- ---- the law

-- On the desk of a voice whose wave program is found, the code leads to where the wave step leaves the voice: to the
-- block's end where the effect may run, and else out, where a note is set or a command done.
pub wave_leads : (r : Reader) (look : LookUps) (s : Playing) (handed : Lent) (d m : VoiceDesk) →
    WaveGround r look s.voice.wave_ptr s.voice.wave_time → KeepsWave r.layout look s.voice →
    Done r.layout.holds r.voice s handed d m → Leads r wave_tree (wave_ways r look s handed d) m
wave_leads r look s handed d m ground keeps done = (
  λ kept. (
    λ zero. idle _ refl refl refl (sym done.fields.wave_ptr ∙ eqb-true (m.own WAVE_POINTER) 0 zero),
    λ not_zero.
        let some : s.voice.wave_ptr ≢ 0 =
        λ e. eqb-false (m.own WAVE_POINTER) 0 not_zero (done.fields.wave_ptr ∙ e) in
        listed WAVE_LEFTS s.voice.wave_ptr (stored_left (its_row look s.voice).left) (ground.row some).left
        done.fields.wave_ptr
        (λ b e.
        joined true r NEXT (body_of NEXT wave_tree) (rest_of NEXT wave_tree) (AtNext r look s handed d)
        (its_ways r look s handed d) (loaded b (indexed (m.own WAVE_POINTER) m))
        (next_leads r look s handed d (loaded b (indexed (m.own WAVE_POINTER) m)) some ground keeps
        (kind_of (its_row look s.voice).left b e) done.fields.wave_ptr
        (done_over r.layout.holds r.voice s handed d m _ refl refl refl done))
        (λ n next.
        joined true r MOVED (body_of MOVED wave_tree) (rest_of MOVED wave_tree) (AtMoved r look s handed d)
        (its_ways r look s handed d) n (moved_leads r look s handed d (ground.next some) n next)
        (λ k here. command_leads r look s handed d k some (ground.row some) (ground.no_jump some) keeps here))),
  ),
  λ out.
      elim (eqb_tells s.voice.wave_ptr 0) [
        | inl none ↦ idle m refl refl refl none.1
        | inr some ↦ absurd (both_ways (r.layout.holds WAVE_TABLE) out (keeps.table some.1))
      ],
)
  where
    idle : (n : VoiceDesk) → n.own ≡ m.own → n.shared ≡ m.shared → n.sid ≡ m.sid → s.voice.wave_ptr ≡ 0 →
        AtEnd r look s handed d n
    idle n own shared sid none =
        let w = step_none look s none in record {
          runs = ap (λ (w : Waved). w.effect) w;
          done =
              done_by r.layout.holds r.voice s _ handed d n (ap (λ (w : Waved). w.playing) w)
              (done_over r.layout.holds r.voice s handed d m n own shared sid done);
        }
