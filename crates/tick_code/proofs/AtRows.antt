-- What the code does at a row.
use Rattle.std.proofs.Common.{◌≡◌, ◌≢◌, ℕ, ◌+◌, ◌%◌, ◌<◌, true, not, nat_eq, bit_and}
use Rattle.std.proofs.Common.{refl, sym, ap, ◌∙◌}
use Rattle.std.proofs.lemmas.Bool.{not-true, not-false, eqb-true}
use Rattle.code_runs.specs.Runs.{put}
use Rattle.song_model.specs.declared.instruments.Instrument.{Instrument}
use Rattle.play_model.specs.LookUps.{LookUps}
use Rattle.play_model.specs.State.{Playing}
use Rattle.play_model.specs.TickStep.{Ticked, note_started, gate_timer_set, row_command, note_ended, at_row}
use Rattle.scopes.specs.Trees.{Tree}
use Rattle.player_memory.specs.declared.conditions.TheConstants.{OWN_TIMER}
use Rattle.player_memory.specs.declared.labels.TheConstants.{INSTRUMENT, GATE_TIMER, GATE_TIMERS, NEW_NOTE}
use Rattle.player_desk.proofs.Laws.{VoiceDesk, Reader, Ways, Leads, done_as, in_scope, body_of, rest_of, joined}
use Rattle.player_desk.proofs.Laws.{goes_on, loaded, indexed, Lent, Done, own_done, done_over, done_by, listed}
use Rattle.player_text.specs.declared.joints.TheConstants.{TICKED, TAKEN, DONE}
use Rattle.player_text.specs.declared.tick.TheConstants.{AT_ROW}
use Rattle.player_memory.specs.Commands.{KeepsTempo}
use Rattle.player_memory.specs.FactLines.{KeepsShared}
use Rattle.tick_code.specs.TickBlock.{tick_tree, KeepsCommand, KeepsRow, KeepsInstrument}
use Rattle.tick_code.proofs.Pieces.{first_of, behind}
use Rattle.tick_code.proofs.TickDesks.{Ticking, cleared, low_six, not_held}
use Rattle.tick_code.proofs.TickGrounds.{InstrumentAt, SpeedAt, ways_of}
use Rattle.tick_code.proofs.NoteRules.{note_row, command_row, starts, starts_same, cleared_same}
use Rattle.tick_code.proofs.OnceChain.{Ended}
use Rattle.tick_code.proofs.RowCommands.{command_leads}
use Rattle.tick_code.proofs.NoteStarts.{AtCommand, note_leads}

-- ---- whether a note has started

-- from a state whose row has been done, where the note that waits tells whether it has started
end_leads : (r : Reader) (x : Playing) (t : Ticked) (handed : Lent) (d m : VoiceDesk) →
    nat_eq x.voice.new_note 0 ≡ not t.started → cleared x ≡ t.playing → Done r.layout.holds r.voice x handed d m →
    Leads r (rest_of DONE tick_tree) (in_scope TICKED (ways_of r t handed d)) m
end_leads r x t handed d m note is done = (
  λ zero. record {
    is = not-true t.started (sym shown ∙ zero);
    done =
        done_by r.layout.holds r.voice x t.playing handed d _
        (sym is ∙ cleared_same x (sym done.fields.new_note ∙ eqb-true (m.own NEW_NOTE) 0 zero))
        (done_over r.layout.holds r.voice x handed d m _ refl refl refl done);
  },
  λ not_zero. record {
    is = not-false t.started (sym shown ∙ not_zero);
    done =
        done_by r.layout.holds r.voice (cleared x) t.playing handed d _ (sym is)
        (own_done r.layout.holds r.voice x (cleared x) handed d m _ refl refl refl (assumption done.fields)
        (assumption done.song) done);
  },
)
  where
    shown : nat_eq (m.own NEW_NOTE) 0 ≡ not t.started
    shown = ap (λ n. nat_eq n 0) done.fields.new_note ∙ note

-- ---- the row

abbrev timer_tree : Tree
timer_tree = behind (rest_of AT_ROW tick_tree)

-- the gateoff timer is set, where the lines for it are kept
timer_leads : (r : Reader) (look : LookUps) (number : ℕ) (s : Playing) (handed : Lent) (d : VoiceDesk)
    (ways : Ways) (m : VoiceDesk) → InstrumentAt r look number → Ticking number r s handed d m →
    Leads r (first_of timer_tree)
    (done_as (Ticking number r (gate_timer_set (look.instrument number) s) handed d) ways) m
timer_leads r look number s handed d ways m ground at = (
  λ kept.
      listed GATE_TIMERS number i.gate_timer (ground.gate_timer kept) at.y_is
      (λ b e.
      let six : bit_and b 0x3F ≡ i.gate_timer % 64 =
      ap (λ k. bit_and k 0x3F) e ∙ low_six i.gate_timer ground.gate_timer_byte in
      record {
        done =
            own_done r.layout.holds r.voice s (gate_timer_set i s) handed d m _ refl refl refl
            (assumption (six, done.fields)) (assumption done.song) done;
        y_is = at.y_is;
      }),
  λ out. record {
    done =
        own_done r.layout.holds r.voice s (gate_timer_set i s) handed d m _ refl refl refl
        (assumption (not_held r OWN_TIMER (m.own GATE_TIMER) (i.gate_timer % 64) out, done.fields))
        (assumption done.song) done;
    y_is = at.y_is;
  },
)
  where
    i : Instrument
    i = look.instrument number

    done : Done r.layout.holds r.voice s handed d m
    done = at.done

pub row_leads : (r : Reader) (look : LookUps) (s : Playing) (handed : Lent) (d m : VoiceDesk) → r.voice < 3 →
    s.voice.new_command < 256 → s.voice.new_param < 256 → InstrumentAt r look s.voice.instrument →
    KeepsCommand r.layout s.voice.new_command s.voice.new_param → KeepsRow r.layout s.voice.new_command →
    KeepsTempo r.layout s.voice.new_command s.voice.new_param →
    KeepsInstrument r.layout (look.instrument s.voice.instrument) s.voice.vib_delay → KeepsShared r.layout →
    (s.voice.new_command ≡ 0xE → s.voice.new_param ≢ 0 → SpeedAt r look s.voice.new_param) →
    Done r.layout.holds r.voice s handed d m →
    Leads r (rest_of AT_ROW tick_tree)
    (in_scope TICKED
    (ways_of r (at_row (r.voice + 1) look (look.instrument s.voice.instrument) s) handed d)) m
unfolding at_row
row_leads r look s handed d m voice few small ground keeps row tempo instrument shared sides done =
    goes_on true r (first_of timer_tree) (behind timer_tree) (Ticking number r timed handed d) goal
    (indexed (m.own INSTRUMENT) m)
    (timer_leads r look number s handed d goal (indexed (m.own INSTRUMENT) m) ground (record {
      done = done_over r.layout.holds r.voice s handed d m _ refl refl refl done;
      y_is = done.fields.instrument;
    }))
    (λ set at.
    joined true r TAKEN (body_of TAKEN tick_tree) (rest_of TAKEN tick_tree) (AtCommand r look number timed handed d)
    goal set
    (note_leads r look number timed handed d goal set ground instrument row shared few at)
    (λ k at.
    joined true r DONE (body_of DONE tick_tree) (rest_of DONE tick_tree) (Ended r look i c p at.u handed d) goal k
    (command_leads r look number c p at.u handed d goal k voice few small ground keeps row tempo instrument.vibrato
    shared sides at.command_is at.param_is at.here)
    (λ l done.
    end_leads r (row_command (r.voice + 1) look i c p at.u) after handed d l
    (note_of at.u at.note)
    at.is done)))
  where
    number : ℕ
    number = s.voice.instrument

    i : Instrument
    i = look.instrument number

    c : ℕ
    c = s.voice.new_command

    p : ℕ
    p = s.voice.new_param

    timed : Playing
    timed = gate_timer_set i s

    after : Ticked
    after = note_ended (row_command (r.voice + 1) look i c p (note_started i timed))

    goal : Ways
    goal = in_scope TICKED (ways_of r after handed d)

    same : starts (row_command (r.voice + 1) look i c p (note_started i timed)) ≡ starts timed
    same =
        starts_same (note_started i timed) (row_command (r.voice + 1) look i c p (note_started i timed))
        (command_row (r.voice + 1) look i c p (note_started i timed))
        ∙ starts_same timed (note_started i timed) (note_row i timed)

    note_of : (u : Playing) → nat_eq u.voice.new_note 0 ≡ not (starts timed) →
        nat_eq (row_command (r.voice + 1) look i c p u).voice.new_note 0
        ≡ not (starts (row_command (r.voice + 1) look i c p (note_started i timed)))
    note_of u e =
        ap (λ n. nat_eq n 0) (command_row (r.voice + 1) look i c p u).new_note ∙ (e ∙ ap not (sym same))
