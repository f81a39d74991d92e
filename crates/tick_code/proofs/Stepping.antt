-- The code of the tick step in memory.
use Rattle.std.proofs.Common.{◌≡◌, ◌≢◌, ℕ, ◌+◌, ◌<◌, ◌≤◌, Bool, true, false, nat_eq, refl}
use Rattle.std.proofs.Common.{sym, ap, ◌∙◌, arith}
use Rattle.std.proofs.lemmas.Bool.{both_ways}
use Rattle.play_model.specs.LookUps.{LookUps}
use Rattle.play_model.specs.TickStep.{Ticked, tick_step}
use Rattle.scopes.specs.Desk.{Desk, Layout}
use Rattle.scopes.specs.Trees.{Tree}
use Rattle.scopes.specs.Meaning.{Ran, each_one, ran}
use Rattle.player_memory.specs.declared.labels.TheConstants.{ADS, SRS, WAVES, PULSES, FILTERS, VIBRATOS, DELAYS}
use Rattle.player_memory.specs.declared.labels.TheConstants.{GATE_TIMERS, FIRST_WAVES, SPEED_LEFTS, SPEED_RIGHTS}
use Rattle.player_memory.specs.declared.labels.TheConstants.{ONE_WAVE}
use Rattle.player_memory.specs.Rooms.{IsRoom, MayUse}
use Rattle.player_memory.specs.Playing.{IsAtVoice, there}
use Rattle.player_desk.proofs.Laws.{VoiceDesk, Reader, Ways, Leads, ends, leaves, leads_on, Done as IsDone}
use Rattle.player_desk.proofs.Laws.{reader_of, voice_desk, lent_of, finds, finds_alone, begins, leaves_slides, plays_so}
use Rattle.player_desk.proofs.Laws.{ends_still, leaves_still}
use Rattle.player_desk.proofs.VoiceDesks.{Either}
use Rattle.player_text.specs.declared.joints.TheConstants.{SOUNDS}
use Rattle.tick_code.specs.TickBlock.{tick_tree, HasInstrument, HasTickLists, HasOneWave, way_of, Ticks}
use Rattle.tick_code.specs.TickBlock.{TickBlockSteps}
use Rattle.tick_code.proofs.TickGrounds.{InstrumentAt, SpeedAt, TickGround, TickDone, ways_of}
use Rattle.tick_code.proofs.Ticks.{tick_leads}

-- ---- both ways

ticks : (layout : Layout) (rows voice : ℕ) (tree : Tree) (desk : Desk) (t : Ticked) →
    leaves_slides tree ≡ true → IsRoom layout rows →
    MayUse layout rows → voice < 3 → IsAtVoice voice desk →
    Leads (reader_of layout rows voice desk) tree
    (ways_of (reader_of layout rows voice desk) t (lent_of layout desk) (voice_desk layout voice desk))
    (voice_desk layout voice desk) → (b : Bool) → t.started ≡ b →
    Ticks layout rows voice desk (ran each_one layout tree desk) t
ticks layout rows voice tree desk t stores room uses few at leads b e = by_way b e
  where
    r : Reader
    r = reader_of layout rows voice desk

    d : VoiceDesk
    d = voice_desk layout voice desk

    run : Ran
    run = ran each_one layout tree desk

    ways : Ways
    ways = ways_of r t (lent_of layout desk) d

    Q : VoiceDesk → Type 0
    Q = IsDone layout.holds voice t.playing (lent_of layout desk) d

    ended : t.started ≡ false → (z : Bool) (m : VoiceDesk) →
        Either z (TickDone r t true (lent_of layout desk) d m) ⊥ → ⊥
    ended e true m done = both_ways t.started e done.is
    ended e false m none = none

    left : (z : Bool) (m : VoiceDesk) → Either z (TickDone r t true (lent_of layout desk) d m) ⊥ → Either z (Q m) ⊥
    left true m done = done.done
    left false m none = none

    by_way : (b : Bool) → t.started ≡ b → Ticks layout rows voice desk run t
    by_way false e =
        let went = ends_still layout rows voice tree desk Q stores room uses few at
        (leads_on true r tree ways (ends Q) d
        (record {
          done = λ m done. done.done;
          left = λ name m q. ended e (nat_eq name SOUNDS) m q;
          again = λ m q. q;
        }) leads) in
        record {
          way = went.way ∙ ap way_of (sym e);
          plays = plays_so layout rows voice desk Q (there run) t.playing went.came (λ m q. q);
        }
    by_way true e =
        let went = leaves_still SOUNDS layout rows voice tree desk Q stores room uses few at
        (leads_on true r tree ways (leaves SOUNDS Q) d
        (record {
          done = λ m done. absurd (both_ways t.started done.is e);
          left = λ name m q. left (nat_eq name SOUNDS) m q;
          again = λ m q. q;
        }) leads) in
        record {
          way = went.way ∙ ap way_of (sym e);
          plays = plays_so layout rows voice desk Q (there run) t.playing went.came (λ m q. q);
        }

-- ---- the lists

instrument_at : (layout : Layout) (rows voice : ℕ) (look : LookUps) (desk : Desk) (number : ℕ) →
    HasInstrument layout rows desk.at look number → HasOneWave layout rows desk.at (look.instrument number) →
    InstrumentAt (reader_of layout rows voice desk) look number
instrument_at layout rows voice look desk number has one_wave = record {
  ad = finds layout rows voice desk ADS number _ has.ad;
  sr = finds layout rows voice desk SRS number _ has.sr;
  wave = finds layout rows voice desk WAVES number _ has.wave;
  pulse = λ kept. finds layout rows voice desk PULSES number _ (has.pulse kept);
  filter = λ kept. finds layout rows voice desk FILTERS number _ (has.filter kept);
  vibrato = λ kept. finds layout rows voice desk VIBRATOS number _ (has.vibrato kept);
  delay = λ kept. finds layout rows voice desk DELAYS number _ (has.delay kept);
  gate_timer = λ kept. finds layout rows voice desk GATE_TIMERS number _ (has.gate_timer kept);
  first_wave = λ kept. finds layout rows voice desk FIRST_WAVES number _ (has.first_wave kept);
  one_wave = λ out. finds_alone layout rows voice desk ONE_WAVE _ (one_wave out);
  gate_timer_byte = has.gate_timer_byte;
}

speed_at : (layout : Layout) (rows voice instruments speeds : ℕ) (look : LookUps) (desk : Desk) (p : ℕ) →
    HasTickLists layout rows desk.at look instruments speeds → p ≢ 0 → p ≤ speeds →
    SpeedAt (reader_of layout rows voice desk) look p
speed_at layout rows voice instruments speeds look desk p has some few = record {
  left = finds layout rows voice desk SPEED_LEFTS p _ (has.speed.each p (omega (arith, some)) few).left;
  right = finds layout rows voice desk SPEED_RIGHTS p _ (has.speed.each p (omega (arith, some)) few).right;
}

-- ---- the clause

pub tick_block_steps : TickBlockSteps
tick_block_steps layout rows voice instruments speeds look s desk room uses has few at playing on keeps one_wave =
    ticks layout rows voice tick_tree desk (tick_step (voice + 1) look s) refl room uses few at
    (tick_leads (reader_of layout rows voice desk) look s (lent_of layout desk) (voice_desk layout voice desk)
    (voice_desk layout voice desk) few room ground keeps (begins layout voice desk s playing))
    (tick_step (voice + 1) look s).started refl
  where
    ground : TickGround (reader_of layout rows voice desk) look s
    ground = record {
      instrument = λ now. instrument_at layout rows voice look desk s.voice.instrument
          (has.instrument s.voice.instrument on.from on.to) (one_wave now);
      speed = λ now is some. speed_at layout rows voice instruments speeds look desk s.voice.new_param has some
          (on.speed is);
      command_byte = on.command;
      param_byte = on.param;
    }
