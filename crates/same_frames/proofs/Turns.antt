-- What a voice does in its turn over the other look-ups, the song's voice does in its turn.
use Rattle.std.proofs.Common.{◌≡◌, ◌≢◌, ℕ, ◌+◌, ◌%◌, ◌≤◌, refl, sym, ap, ◌∙◌, inl}
use Rattle.std.proofs.Common.{inr, subst, arith}
use Rattle.std.proofs.lemmas.Bool.{eq-eqb, eqb-true}
use Rattle.song_model.specs.declared.orders.Order.{Order}
use Rattle.song_model.specs.declared.tables.TableRow.{TableRow}
use Rattle.song_model.specs.declared.tables.TableName.TheVariants.{Wave, Pulse}
use Rattle.song_model.specs.declared.songs.Song.{Song}
use Rattle.song_model.specs.LookUp.{table_row}
use Rattle.song_model.specs.Pointers.{command_table}
use Rattle.play_model.specs.declared.options.Options.{Options}
use Rattle.play_model.specs.LookUps.{LookUps, look_ups_of}
use Rattle.play_model.specs.State.{Voice, Playing}
use Rattle.play_model.specs.TickStep.{tempo_of, tick_step}
use Rattle.play_model.specs.WaveStep.{wave_step}
use Rattle.play_model.specs.Frame.{effect_done}
use Rattle.play_model.specs.Safe.{IsSafePointer}
use Rattle.play_model.specs.Uses.{Turn, DoesRow, LoadsTempo, GoesOn, HasWaveProgram, MeetsWaveCommand, DoesWave}
use Rattle.play_model.specs.Uses.{DoesEffect, DoesRunning, MeetsVibrato, HasPulseProgram, Slides, DoesOnce, AsksSpeed}
use Rattle.play_model.specs.Uses.{for_slide, for_vibrato, AsksFunkTempo, by_values, by_tempo, by_length}
use Rattle.safe_states.specs.SafeLaws.{VoiceRulesKeepSafe}
use Rattle.safe_states.proofs.Laws.{CanBePlayed, is_step}
use Rattle.same_frames.specs.Maps.{Maps, moved_pointer}
use Rattle.same_frames.specs.Agreement.{Agrees}
use Rattle.same_frames.specs.Alike.{VoicesAreAlike, PlayingsAreAlike}
use Rattle.same_frames.proofs.Slides.{IsSpeedFor}
use Rattle.same_frames.proofs.Agreed.{speed_alike}
use Rattle.same_frames.proofs.Reading.{wave_alike}
use Rattle.same_frames.proofs.Rules.{running_points, tick_alike, wave_step_alike}
use Rattle.same_frames.proofs.Steps.{effect_done_alike}

-- a voice of a channel at its step, over these look-ups
abbrev pub turn_at : ℕ → Options → LookUps → Playing → Turn
turn_at channel o look s = record { channel = channel; options = o; look = look; start = s }

-- a number whose new number isn't 0 isn't 0 either
pub some_before : (to : ℕ → ℕ) (p q : ℕ) → to 0 ≡ 0 → q ≡ to p → q ≢ 0 → p ≢ 0
some_before to p q nothing is some none = some (is ∙ ap to none ∙ nothing)

pub speed_some : (look other : LookUps) (d e : ℕ) → IsSpeedFor look other d e → e ≢ 0 → d ≢ 0
speed_some look other d e s some none = some (eqb-true e 0 (s.none ∙ eq-eqb d 0 none))

pub speed_none : (look other : LookUps) (d e : ℕ) → IsSpeedFor look other d e → e ≡ 0 → d ≡ 0
speed_none look other d e s none = eqb-true d 0 (sym s.none ∙ eq-eqb e 0 none)

module _ (maps : Maps) (song : Song) (other : LookUps) (order : Order) (play : CanBePlayed song)
    (a : Agrees maps song other) (rules : VoiceRulesKeepSafe song order) (channel : ℕ) (o : Options) (s t : Playing)
    (q : PlayingsAreAlike maps song order s t) where
  abbrev mine : Turn
  mine = turn_at channel o (look_ups_of song) s

  abbrev its : Turn
  its = turn_at channel o other t

  -- ---- the tick step

  -- the song's row has the command too, with a parameter that this one stands for
  pub record RowAlike (c e : ℕ) : Type 0 where
    pub param : ℕ
    pub does : DoesRow mine c param
    pub stands_for : c ≢ 0 → e ≡ moved_pointer maps (command_table c) param

  same_tick : t.voice.tick ≡ s.voice.tick
  same_tick = ap (λ (v : Voice). v.tick) q.voice.moved

  same_command : t.voice.new_command ≡ s.voice.new_command
  same_command = ap (λ (v : Voice). v.new_command) q.voice.moved

  pub row_alike : (c e : ℕ) → DoesRow its c e → RowAlike c e
  row_alike c e h =
      let command : s.voice.new_command ≡ c = sym same_command ∙ h.command_is in
      record {
        param = s.voice.new_param;
        does = record { now = rw (← same_tick) h.now; command_is = command; param_is = refl };
        stands_for = λ some. sym h.param_is ∙ (rw command at q.voice.waiting) some;
      }

  pub loads_alike : (tempo : ℕ) → LoadsTempo its tempo → LoadsTempo mine tempo
  loads_alike tempo h = record {
    past = rw (← same_tick) h.past;
    tempo_is = sym (ap (tempo_of channel) q.common.moved) ∙ h.tempo_is;
  }

  pub record GoesOnAlike (u : Playing) : Type 0 where
    pub start : Playing
    pub goes_on : GoesOn mine start
    pub alike : PlayingsAreAlike maps song order start u

  pub goes_on_alike : (u : Playing) → GoesOn its u → GoesOnAlike u
  goes_on_alike u g =
      let ticks = tick_alike maps song other order channel s t a rules q in
      record {
        start = (tick_step channel (look_ups_of song) s).playing;
        goes_on = record { waits = sym ticks.started ∙ g.waits; left = refl };
        alike = subst (PlayingsAreAlike maps song order (tick_step channel (look_ups_of song) s).playing) g.left
            ticks.playing;
      }

  -- ---- the wave step

  pub record WaveAlike (e : ℕ) : Type 0 where
    pub p : ℕ
    pub program : HasWaveProgram mine p
    pub stands_for : e ≡ maps.row Wave p
    pub safe : IsSafePointer song Wave p

  pub wave_program_alike : (e : ℕ) → HasWaveProgram its e → WaveAlike e
  wave_program_alike e h =
      let g = goes_on_alike h.s h.goes_on in
      let is : e ≡ maps.row Wave g.start.voice.wave_ptr =
      sym h.ptr ∙ ap (λ (v : Voice). v.wave_ptr) g.alike.voice.moved in
      record {
        p = g.start.voice.wave_ptr;
        program = record {
          s = g.start;
          goes_on = g.goes_on;
          ptr = refl;
          some = some_before (maps.row Wave) g.start.voice.wave_ptr e (a.rows Wave).nothing is h.some;
        };
        stands_for = is;
        safe = g.alike.voice.safe.wave;
      }

  -- the song's program is at a row with the same left side
  pub record MeetsAlike (beyond : TableRow) : Type 0 where
    pub row : TableRow
    pub meets : MeetsWaveCommand mine row
    pub left : beyond.left ≡ row.left
    pub speed : 0xF1 ≤ row.left → row.left ≤ 0xF4 → IsSpeedFor (look_ups_of song) other row.right beyond.right

  pub meets_alike : (beyond : TableRow) → MeetsWaveCommand its beyond → MeetsAlike beyond
  meets_alike beyond m =
      let w = wave_program_alike m.p m.program in
      let row = table_row song Wave w.p in
      let r = wave_alike maps song other w.p play a (is_step song Wave w.p w.safe w.program.some) in
      let there : other.row Wave (maps.row Wave w.p) ≡ beyond = ap (other.row Wave) (sym w.stands_for) ∙ m.row_is in
      let left : beyond.left ≡ row.left = sym (ap (λ (x : TableRow). x.left) there) ∙ r.left in
      record {
        row = row;
        meets = record {
          p = w.p;
          program = w.program;
          row_is = refl;
          is_command = rw (← left) m.is_command;
        };
        left = left;
        speed = λ low high. rw there at (r.speed low high);
      }

  pub record DoesWaveAlike (c e : ℕ) : Type 0 where
    pub param : ℕ
    pub does : DoesWave mine c param
    pub speed : 1 ≤ c → c ≤ 4 → IsSpeedFor (look_ups_of song) other param e

  at_least : (left c : ℕ) → left ≡ 0xF0 + c → 1 ≤ c → 0xF1 ≤ left
  at_least left c is low = omega arith

  at_most : (left c : ℕ) → left ≡ 0xF0 + c → c ≤ 4 → left ≤ 0xF4
  at_most left c is high = omega arith

  pub does_wave_alike : (c e : ℕ) → DoesWave its c e → DoesWaveAlike c e
  does_wave_alike c e h =
      let m = meets_alike h.row h.meets in
      let is : m.row.left ≡ 0xF0 + c = sym m.left ∙ h.command_is in
      record {
        param = m.row.right;
        does = record { row = m.row; meets = m.meets; command_is = is; param_is = refl };
        speed = λ low high.
            subst (IsSpeedFor (look_ups_of song) other m.row.right) h.param_is
            (m.speed (at_least m.row.left c is low) (at_most m.row.left c is high));
      }

  -- ---- the effect step

  pub record EffectAlike (w : Voice) : Type 0 where
    pub voice : Voice
    pub does : DoesEffect mine voice
    pub alike : VoicesAreAlike maps song order voice w

  pub does_effect_alike : (w : Voice) → DoesEffect its w → EffectAlike w
  does_effect_alike w h =
      let g = goes_on_alike h.s h.goes_on in
      let waves = wave_step_alike maps song other order g.start h.s play a rules g.alike in
      let v = (wave_step (look_ups_of song) g.start).playing.voice in
      let alike : VoicesAreAlike maps song order v w =
      subst (VoicesAreAlike maps song order v) h.voice_is waves.playing.voice in
      record {
        voice = v;
        does = record {
          s = g.start;
          goes_on = g.goes_on;
          runs = sym waves.effect ∙ h.runs;
          voice_is = refl;
          kept = rw (← ap (λ (x : Voice). x.tick) alike.moved) h.kept;
        };
        alike = alike;
      }

  pub record RunningAlike (c e : ℕ) : Type 0 where
    pub param : ℕ
    pub does : DoesRunning mine c param
    pub speed : IsSpeedFor (look_ups_of song) other param e

  running_speed : (v w : Voice) → VoicesAreAlike maps song order v w →
      IsSpeedFor (look_ups_of song) other v.param w.param
  running_speed v w q =
      rw (ap (λ (x : Voice). x.param) q.moved)
      (speed_alike maps song other a v.param (running_points song v.command v.param q.safe.running))

  pub running_alike : (c e : ℕ) → DoesRunning its c e → RunningAlike c e
  running_alike c e h =
      let x = does_effect_alike h.v h.effect in
      record {
        param = x.voice.param;
        does = record {
          v = x.voice;
          effect = x.does;
          command_is = sym (ap (λ (v : Voice). v.command) x.alike.moved) ∙ h.command_is;
          param_is = refl;
        };
        speed =
            subst (IsSpeedFor (look_ups_of song) other x.voice.param) h.param_is (running_speed x.voice h.v x.alike);
      }

  pub record VibratoAlike (e delay : ℕ) : Type 0 where
    pub param : ℕ
    pub meets : MeetsVibrato mine param delay
    pub speed : IsSpeedFor (look_ups_of song) other param e

  pub vibrato_alike : (e delay : ℕ) → MeetsVibrato its e delay → VibratoAlike e delay
  vibrato_alike e delay h =
      let x = does_effect_alike h.v h.effect in
      let speed =
      subst (IsSpeedFor (look_ups_of song) other x.voice.param) h.param_is (running_speed x.voice h.v x.alike) in
      record {
        param = x.voice.param;
        meets = record {
          v = x.voice;
          effect = x.does;
          command_is = sym (ap (λ (v : Voice). v.command) x.alike.moved) ∙ h.command_is;
          param_is = refl;
          delay_is = sym (ap (λ (v : Voice). v.vib_delay) x.alike.moved) ∙ h.delay_is;
          some = speed_some (look_ups_of song) other x.voice.param e speed h.some;
          begun = h.begun;
        };
        speed = speed;
      }

  -- ---- the pulse step

  pub pulse_program_alike : (e : ℕ) → HasPulseProgram its e → (p : ℕ) × HasPulseProgram mine p
  pulse_program_alike e h =
      let g = goes_on_alike h.s h.goes_on in
      let waves = wave_step_alike maps song other order g.start h.s play a rules g.alike in
      let done =
      (effect_done_alike maps song other order play a rules o (wave_step (look_ups_of song) g.start)
      (wave_step other h.s) waves).voice in
      let v = (effect_done o (look_ups_of song) (wave_step (look_ups_of song) g.start)).voice in
      let alike : VoicesAreAlike maps song order v h.v = subst (VoicesAreAlike maps song order v) h.voice_is done in
      let ticks : h.v.tick ≡ v.tick = ap (λ (x : Voice). x.tick) alike.moved in
      let timers : h.v.gate_timer ≡ v.gate_timer = ap (λ (x : Voice). x.gate_timer) alike.moved in
      let rows : h.v.row ≡ v.row = ap (λ (x : Voice). x.row) alike.moved in
      let is : e ≡ maps.row Pulse v.pulse_ptr = sym h.ptr ∙ ap (λ (x : Voice). x.pulse_ptr) alike.moved in (
        v.pulse_ptr,
        record {
          s = g.start;
          goes_on = g.goes_on;
          v = v;
          voice_is = refl;
          kept = rw (← ticks) (rw (← timers) (rw (← rows) h.kept));
          ptr = refl;
          some = some_before (maps.row Pulse) v.pulse_ptr e (a.rows Pulse).nothing is h.some;
        },
      )

  -- ---- commands of several places

  pub record SlidesAlike (c e : ℕ) : Type 0 where
    pub param : ℕ
    pub slides : Slides mine c param
    pub speed : IsSpeedFor (look_ups_of song) other param e

  pub slides_alike : (c e : ℕ) → 1 ≤ c → c ≤ 4 → Slides its c e → SlidesAlike c e
  slides_alike c e low high (inl h) =
      let w = does_wave_alike c e h in
      record { param = w.param; slides = inl w.does; speed = w.speed low high }
  slides_alike c e low high (inr h) =
      let r = running_alike c e h in
      record { param = r.param; slides = inr r.does; speed = r.speed }

  pub once_alike : (c e : ℕ) → DoesOnce its c e → (d : ℕ) × DoesOnce mine c d
  once_alike c e (inl h) = (let r = row_alike c e h in (r.param, inl r.does))
  once_alike c e (inr h) = (let w = does_wave_alike c e h in (w.param, inr w.does))

  pub record AsksAlike (e : ℕ) : Type 0 where
    pub param : ℕ
    pub asks : AsksSpeed mine param
    pub speed : IsSpeedFor (look_ups_of song) other param e

  pub asks_alike : (e : ℕ) → AsksSpeed its e → AsksAlike e
  asks_alike e (for_slide c low high h) =
      let x = slides_alike c e low high h in
      record { param = x.param; asks = for_slide c low high x.slides; speed = x.speed }
  asks_alike e (for_vibrato h) =
      let x = vibrato_alike e 1 h in
      record { param = x.param; asks = for_vibrato x.meets; speed = x.speed }

  no_table : (c e d : ℕ) → c ≡ 0xF → (c ≢ 0 → e ≡ moved_pointer maps (command_table c) d) → e ≡ d
  no_table c e d is h = rw is at (h (λ z. omega arith))

  pub funk_alike : AsksFunkTempo its → AsksFunkTempo mine
  funk_alike (by_values e h) = (let r = row_alike 0xE e h in by_values r.param r.does)
  funk_alike (by_tempo e h low) =
      let r = row_alike 0xF e h in
      by_tempo r.param r.does (rw (no_table 0xF e r.param refl r.stands_for) at low)
  funk_alike (by_length tempo h low) = by_length tempo (loads_alike tempo h) low

  pub tempo_alike : (e : ℕ) → DoesRow its 0xF e → 3 ≤ e % 128 → (d : ℕ) × DoesRow mine 0xF d × 3 ≤ d % 128
  tempo_alike e h some =
      let r = row_alike 0xF e h in
      (r.param, r.does, rw (no_table 0xF e r.param refl r.stands_for) at some)
