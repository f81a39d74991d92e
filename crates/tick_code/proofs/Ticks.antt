-- The law of the tick step's code: it leaves what the rule says, at each of its ways out.
use Rattle.std.proofs.Common.{◌≡◌, ℕ, ◌+◌, ◌%◌, ◌<◌, true, false, nat_eq, nat_le}
use Rattle.std.proofs.Common.{refl, sym, ap, ◌∙◌, subst, arith}
use Rattle.std.proofs.lemmas.Bool.{not-true, not-false, leb-true, eqb-true}
use Rattle.code_runs.specs.Runs.{put}
use Rattle.play_model.specs.LookUps.{LookUps}
use Rattle.play_model.specs.Wrap.{byte_minus}
use Rattle.play_model.specs.State.{Playing}
use Rattle.play_model.specs.TickStep.{Ticked, between_rows, at_row, tick_step}
use Rattle.player_memory.specs.Rooms.{IsRoom}
use Rattle.player_memory.specs.declared.labels.TheConstants.{TICK, TEMPO}
use Rattle.player_desk.proofs.Laws.{VoiceDesk, Reader, Ways, Leads, done_as, in_scope, body_of, rest_of, joined, loaded}
use Rattle.player_desk.proofs.Laws.{Lent, Done, own_done, done_over, done_by}
use Rattle.player_text.specs.declared.joints.TheConstants.{TICKED}
use Rattle.player_text.specs.declared.tick.TheConstants.{AT_ROW, RUNS}
use Rattle.tick_code.specs.TickBlock.{tick_tree, KeepsTick, IsRowDone}
use Rattle.tick_code.proofs.TickGrounds.{TickGround, ways_of, tick_ways}
use Rattle.tick_code.proofs.AtRows.{row_leads}
use Rattle.tick_code.proofs.Between.{past_is, counts_is, reload_leads}

-- the tick is one less
abbrev less : Playing → Playing
less s = record s { voice = record s.voice { tick = byte_minus s.voice.tick 1 } }

between_is : (channel : ℕ) (look : LookUps) (s : Playing) → nat_eq (byte_minus s.voice.tick 1) 0 ≡ false →
    record { playing = between_rows channel (less s); started = false } ≡ tick_step channel look s
unfolding tick_step
between_is channel look s apart = rw apart refl

row_is : (channel : ℕ) (look : LookUps) (s : Playing) → nat_eq (byte_minus s.voice.tick 1) 0 ≡ true →
    at_row channel look (look.instrument s.voice.instrument) (less s) ≡ tick_step channel look s
unfolding tick_step
row_is channel look s now = rw now refl

-- the row is done
record AtRow (r : Reader) (s : Playing) (handed : Lent) (d m : VoiceDesk) : Type 0 where
  now : nat_eq (byte_minus s.voice.tick 1) 0 ≡ true
  done : Done r.layout.holds r.voice (less s) handed d m

-- the tick has been counted
record AtRuns (r : Reader) (s : Playing) (handed : Lent) (d m : VoiceDesk) : Type 0 where
  apart : nat_eq (byte_minus s.voice.tick 1) 0 ≡ false
  done : Done r.layout.holds r.voice (between_rows (r.voice + 1) (less s)) handed d m

runs_lead : (r : Reader) (look : LookUps) (s : Playing) (handed : Lent) (d : VoiceDesk) (ways : Ways) (m : VoiceDesk) →
    r.voice < 3 → IsRoom r.layout r.rows → KeepsTick r.layout (r.voice + 1) look s →
    Done r.layout.holds r.voice s handed d m →
    Leads r (body_of RUNS tick_tree)
    (in_scope RUNS (done_as (AtRuns r s handed d) (in_scope AT_ROW (done_as (AtRow r s handed d) ways)))) m
runs_lead r look s handed d ways m few room keeps done = (
  λ zero. record { now = ap (λ n. nat_eq n 0) (sym tick) ∙ zero; done = counted _ refl refl refl },
  λ not_zero. (
    λ plus. record {
      apart = ap (λ n. nat_eq n 0) (sym tick) ∙ not_zero;
      done =
          done_by r.layout.holds r.voice (less s) _ handed d _
          (sym (counts_is (r.voice + 1) (less s) (ap (λ n. nat_le 128 n) (sym tick) ∙ not-true _ plus)))
          (counted _ refl refl refl);
    },
    λ minus.
        let past : nat_le 128 (byte_minus s.voice.tick 1) ≡ true =
        ap (λ n. nat_le 128 n) (sym tick) ∙ not-false _ minus in
        reload_leads r (less s) handed d goal (AtRuns r s handed d) (loaded (down.own TEMPO) down) few room
        (keeps.length (leb-true 128 (byte_minus s.voice.tick 1) past)) done.fields.tempo_is
        (λ n behind. record {
          apart = ap (λ n. nat_eq n 0) (sym tick) ∙ not_zero;
          done = done_by r.layout.holds r.voice _ _ handed d n (sym (past_is (r.voice + 1) (less s) past)) behind;
        }) (counted _ refl refl refl),
  ),
)
  where
    tick : (m.own TICK + 255) % 256 ≡ byte_minus s.voice.tick 1
    tick = (let t = done.fields.tick in omega (arith, t))

    down : VoiceDesk
    down = record m { own = put m.own TICK ((m.own TICK + 255) % 256) }

    goal : Ways
    goal = in_scope RUNS (done_as (AtRuns r s handed d) (in_scope AT_ROW (done_as (AtRow r s handed d) ways)))

    counted : (n : VoiceDesk) → n.own ≡ put m.own TICK ((m.own TICK + 255) % 256) → n.shared ≡ m.shared →
        n.sid ≡ m.sid → Done r.layout.holds r.voice (less s) handed d n
    counted n own shared sid =
        done_over r.layout.holds r.voice (less s) handed d down n own shared sid
        (own_done r.layout.holds r.voice s (less s) handed d m down refl refl refl (assumption (tick, done.fields))
        (assumption done.song) done)

-- ---- the law

-- From the desk of a voice that is playing, the code leads to where the tick step leaves the voice and what the voices
-- share: to the block's end where no note has started, and out of the voice's step where one has.
pub tick_leads : (r : Reader) (look : LookUps) (s : Playing) (handed : Lent) (d m : VoiceDesk) → r.voice < 3 →
    IsRoom r.layout r.rows → TickGround r look s → KeepsTick r.layout (r.voice + 1) look s →
    Done r.layout.holds r.voice s handed d m →
    Leads r tick_tree (tick_ways r look s handed d) m
tick_leads r look s handed d m few room ground keeps done =
    joined true r AT_ROW (body_of AT_ROW tick_tree) (rest_of AT_ROW tick_tree) (AtRow r s handed d) goal m
    (joined true r RUNS (body_of RUNS tick_tree) (rest_of RUNS tick_tree) (AtRuns r s handed d)
    (in_scope AT_ROW (done_as (AtRow r s handed d) goal)) m (runs_lead r look s handed d goal m few room keeps done)
    (λ n runs.
    let is = between_is (r.voice + 1) look s runs.apart in record {
      is = ap (λ (t : Ticked). t.started) (sym is);
      done = done_by r.layout.holds r.voice _ _ handed d n (ap (λ (t : Ticked). t.playing) (sym is)) runs.done;
    }))
    (λ n row.
    let now : IsRowDone s = eqb-true (byte_minus s.voice.tick 1) 0 row.now in
    subst (λ t. Leads r (rest_of AT_ROW tick_tree) (in_scope TICKED (ways_of r t handed d)) n)
    (row_is (r.voice + 1) look s row.now)
    (row_leads r look (less s) handed d n few ground.command_byte ground.param_byte (ground.instrument now)
    (keeps.command now) (keeps.row now) (keeps.tempo now) (keeps.instrument now) keeps.shared (ground.speed now)
    row.done))
  where
    goal : Ways
    goal = in_scope TICKED (tick_ways r look s handed d)
