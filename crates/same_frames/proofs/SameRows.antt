-- Voices that play the same rows in other patterns go on alike.
use Rattle.std.specs.Prelude.{ℤ, not, ◌==◌, ◌&&◌}
use Rattle.std.proofs.Common.{◌≡◌, ◌≢◌, ℕ, zero, suc, ◌+◌, ◌<◌, ◌≤◌, false, length, refl, ap, sym, ◌∙◌}
use Rattle.std.proofs.Common.{subst, arith}
use Rattle.std.proofs.lemmas.Bool.{cond_both, eqb-false}
use Rattle.song_model.specs.declared.rows.Row.{Row}
use Rattle.song_model.specs.declared.instruments.Instrument.{Instrument}
use Rattle.song_model.specs.declared.orders.Order.{Order}
use Rattle.song_model.specs.declared.tables.TableName.{TableName}
use Rattle.song_model.specs.declared.tables.TableName.TheVariants.{Wave, Pulse, Speed}
use Rattle.song_model.specs.Walk.{played}
use Rattle.play_model.specs.declared.options.Options.{Options}
use Rattle.play_model.specs.LookUps.{LookUps}
use Rattle.play_model.specs.Wrap.{byte_plus}
use Rattle.play_model.specs.State.{Voice, Common, Playing}
use Rattle.play_model.specs.TickStep.{Ticked, tick_step}
use Rattle.play_model.specs.WaveStep.{Waved, wave_step}
use Rattle.play_model.specs.EffectStep.{effect_step}
use Rattle.play_model.specs.PulseStep.{pulse_step}
use Rattle.play_model.specs.Helpers.{next_row}
use Rattle.play_model.specs.FetchRow.{row_taken, row_moved, row_done, fetch_row}
use Rattle.play_model.specs.Frame.{effect_done, pulse_left_out, pulse_done, row_fetched, after_tick, voice_step}
use Rattle.same_frames.specs.Maps.{same_numbers}
use Rattle.same_frames.specs.SameRows.{Place, rows_there, row_there, next_place, place_of_row, HasPatternLengths}
use Rattle.same_frames.specs.SameRows.{PlaysSameRows, HasSameParts}
use Rattle.same_frames.proofs.Choices.{choice_moved, choice_related}
use Rattle.same_frames.proofs.Moved.{Held, held_of, put, same_pointer}
use Rattle.same_frames.proofs.Slides.{IsSpeedFor}
use Rattle.same_frames.proofs.Ticks.{same_param, tick_moved}
use Rattle.same_frames.proofs.Waves.{wave_moved, effect_moved}
use Rattle.same_frames.proofs.Programs.{GoesOnFor, pulse_moved_lem}
use Rattle.same_frames.proofs.Rules.{tick_holds, wave_holds, effect_holds, pulse_holds}
use Rattle.same_frames.proofs.Fetched.{after_taken, done_holds, keyed_holds}

-- ---- a voice at another place

abbrev place_of : Voice → Place
place_of v = record { plays = v.plays; row = v.row }

abbrev held_at : Place → Held → Held
held_at p h = record h { plays = p.plays; row = p.row }

-- the voice at this place, and a playing whose voice is there
abbrev placed : Place → Voice → Voice
placed p v = record v { plays = p.plays; row = p.row }

abbrev placed_playing : Place → Playing → Playing
placed_playing p s = record s { voice = placed p s.voice }

abbrev placed_waved : Place → Waved → Waved
placed_waved p w = record w { playing = placed_playing p w.playing }

abbrev placed_ticked : Place → Ticked → Ticked
placed_ticked p t = record t { playing = placed_playing p t.playing }

-- where nothing that is held changes, a voice at this place is one that holds what another one did
held_on : (p : Place) (h : Held) (v : Voice) → held_of v ≡ h → put same_numbers (held_at p h) v ≡ placed p v
held_on p h v e = subst (λ (x : Held). put same_numbers (held_at p x) v ≡ placed p v) e refl

module _ (look other : LookUps) (parts : HasSameParts look other) where
  -- the speeds are the same, and so are the programs of tables
  speed_there : (d : ℕ) → IsSpeedFor look other d d
  speed_there d = record { row = parts.row Speed d; none = refl }

  pub next_there : (name : TableName) (p : ℕ) → GoesOnFor same_numbers look other name p
  unfolding next_row
  next_there name p = rw (parts.row name (p + 1)) refl

  -- ---- the rules between two fetches

  tick_placed : (p : Place) (channel : ℕ) (s : Playing) →
      tick_step channel other (placed_playing p s) ≡ placed_ticked p (tick_step channel look s)
  tick_placed p channel s =
      tick_moved same_numbers (held_at p (held_of s.voice)) channel look other s refl (record {
        instrument = record { moved = rw (parts.instrument s.voice.instrument) refl };
        begins = record { pulse = refl; filter = refl };
        command = refl;
        param = record {
          is = (same_param look s.voice.new_command s.voice.new_param).is;
          lengths = λ e. speed_there s.voice.new_param;
        };
      })
      ∙ ap (λ (v : Voice). record (tick_step channel look s) {
        playing = record (tick_step channel look s).playing { voice = v };
      }) (held_on p (held_of s.voice) (tick_step channel look s).playing.voice (tick_holds channel look s))

  wave_placed : (p : Place) (s : Playing) → wave_step other (placed_playing p s) ≡ placed_waved p (wave_step look s)
  wave_placed p s =
      wave_moved same_numbers (held_at p (held_of s.voice)) look other s refl refl (λ some. record {
        left = rw (parts.row Wave s.voice.wave_ptr) refl;
        right = rw (parts.row Wave s.voice.wave_ptr) (sym (same_pointer _ _));
        next = next_there Wave s.voice.wave_ptr;
        speed = λ low high. rw (parts.row Wave s.voice.wave_ptr) (speed_there _);
      })
      ∙ ap (λ (v : Voice). record (wave_step look s) {
        playing = record (wave_step look s).playing { voice = v };
      }) (held_on p (held_of s.voice) (wave_step look s).playing.voice (wave_holds look s))

  effect_placed : (p : Place) (v : Voice) → effect_step other (placed p v) ≡ placed p (effect_step look v)
  effect_placed p v =
      effect_moved same_numbers (held_at p (held_of v)) look other v (speed_there v.param)
      ∙ held_on p (held_of v) (effect_step look v) (effect_holds look v)

  pulse_placed : (p : Place) (v : Voice) → pulse_step other (placed p v) ≡ placed p (pulse_step look v)
  pulse_placed p v =
      pulse_moved_lem same_numbers (held_at p (held_of v)) look other v refl
      (λ some. record { row = parts.row Pulse v.pulse_ptr; next = λ goes. next_there Pulse v.pulse_ptr })
      ∙ held_on p (held_of v) (pulse_step look v) (pulse_holds look v)

  -- ---- the row that is fetched

  -- where the patterns have this row and this transpose at both places
  row_placed : (p : Place) (row : Row) (transpose : ℤ) (v : Voice) →
      row_done other row transpose (placed p v) ≡ placed p (row_done look row transpose v)
  row_placed p row transpose v =
      let taken = row_taken row v in
      let keyed = keyed_holds row.note taken in
      after_taken same_numbers (held_at p (held_of taken)) look other row.note transpose taken
      (sym (ap (λ (h : Held). h.new_command) keyed))
      (λ z. ap (λ (i : Instrument). i.gate_timer) (parts.instrument taken.instrument)
      ∙ ap (λ (h : Held). (look.instrument h.instrument).gate_timer) (sym keyed))
      ∙ held_on p (held_of taken) (row_done look row transpose v) (done_holds look row transpose v)

-- ---- places go on

abbrev IsInside : LookUps → Order → Place → Type 0
IsInside look order p = p.row < length (rows_there look order p)

next_inside : (look : LookUps) (order : Order) (p : Place) → HasPatternLengths look order → IsInside look order p →
    IsInside look order (next_place look order p)
next_inside look order p lengths inside =
    cond_both (p.row + 1 == length (rows_there look order p)) _ _ (IsInside look order)
    (λ z. first (length (look.rows (played order (p.plays + 1)).pattern)) (lengths (p.plays + 1)).least)
    (λ z. further p.row (length (rows_there look order p)) inside z)
  where
    first : (rows : ℕ) → 1 ≤ rows → 0 < rows
    first rows least = omega arith

    further : (row rows : ℕ) → row < rows → (row + 1 == rows) ≡ false → row + 1 < rows
    further row rows inside z = let n : row + 1 ≢ rows = eqb-false (row + 1) rows z in omega arith

row_inside : (look : LookUps) (order : Order) → HasPatternLengths look order → (n : ℕ) →
    IsInside look order (place_of_row look order n)
row_inside look order lengths zero = from_one (length (look.rows (played order 0).pattern)) (lengths 0).least
  where
    from_one : (rows : ℕ) → 1 ≤ rows → 0 < rows
    from_one rows least = omega arith
row_inside look order lengths (suc n) =
    next_inside look order (place_of_row look order n) lengths (row_inside look order lengths n)

next_byte : (row rows : ℕ) → row < rows → rows ≤ 128 → byte_plus row 1 ≡ row + 1
next_byte row rows inside most = omega arith

-- a voice that is there goes on to the place behind it
moved_on : (look : LookUps) (order : Order) (p : Place) (v : Voice) → HasPatternLengths look order →
    IsInside look order p →
    row_moved (length (rows_there look order p)) (placed p v) ≡ placed (next_place look order p) v
moved_on look order p v lengths inside =
    let rows = length (rows_there look order p) in
    let next : byte_plus p.row 1 ≡ p.row + 1 = next_byte p.row rows inside (lengths p.plays).most in
    choice_moved (λ (q : Place). placed q v) (p.row + 1 == rows) (byte_plus p.row 1 == rows) _ _ _ _ (rw next refl)
    (λ z. refl) (λ z. rw next refl)

-- ---- two voices at the same row of all that they play

pub record VoicesArePlaced (look other : LookUps) (order beyond : Order) (v w : Voice) : Type 0 where
  pub rows_before : ℕ
  pub place : place_of v ≡ place_of_row look order rows_before
  pub is : w ≡ placed (place_of_row other beyond rows_before) v

pub record PlayingsArePlaced (look other : LookUps) (order beyond : Order) (s t : Playing) : Type 0 where
  pub voice : VoicesArePlaced look other order beyond s.voice t.voice
  pub common : t.common ≡ s.common

module _ (look other : LookUps) (order beyond : Order) (parts : HasSameParts look other)
    (same : PlaysSameRows look other order beyond) where
  abbrev Placed : Voice → Voice → Type 0
  Placed v w = VoicesArePlaced look other order beyond v w

  abbrev Played : Playing → Playing → Type 0
  Played s t = PlayingsArePlaced look other order beyond s t

  abbrev mine : ℕ → Place
  mine n = place_of_row look order n

  abbrev theirs : ℕ → Place
  theirs n = place_of_row other beyond n

  -- a rule that leaves the voice where it is, wherever that is
  stays : (v w v1 w1 : Voice) → (q : Placed v w) → held_of v1 ≡ held_of v →
      w1 ≡ placed (theirs q.rows_before) v1 → Placed v1 w1
  stays v w v1 w1 q holds is = record {
    rows_before = q.rows_before;
    place = ap (λ (h : Held). record { plays = h.plays; row = h.row }) holds ∙ q.place;
    is = is;
  }

  -- the row that is fetched at both places, and the place behind it
  fetch_same : (v w : Voice) → Placed v w → Placed (fetch_row look order v) (fetch_row other beyond w)
  unfolding fetch_row
  fetch_same v w q =
      let n = q.rows_before in
      let p = mine n in
      let r = theirs n in
      let step = played order p.plays in
      let row = row_there look order p in
      let done = row_done look row step.transpose v in
      let at : place_of done ≡ p =
      ap (λ (h : Held). record { plays = h.plays; row = h.row }) (done_holds look row step.transpose v) ∙ q.place in
      let here : fetch_row look order v ≡ row_moved (length (rows_there look order p)) done =
      ap (λ (x : Place). row_moved (length (rows_there look order x))
      (row_done look (row_there look order x) (played order x.plays).transpose v)) q.place in
      let itself : done ≡ placed p done = ap (λ (x : Place). placed x done) at in
      let on : fetch_row look order v ≡ placed (mine (suc n)) done =
      here ∙ ap (row_moved (length (rows_there look order p))) itself
      ∙ moved_on look order p done same.lengths (row_inside look order same.lengths n) in
      let there : fetch_row other beyond w ≡ row_moved (length (rows_there other beyond r)) (placed r done) =
      ap (fetch_row other beyond) q.is
      ∙ ap (λ (x : Row). row_moved (length (rows_there other beyond r))
      (row_done other x (played beyond r.plays).transpose (placed r v))) (same.row n)
      ∙ ap (λ (t : ℤ). row_moved (length (rows_there other beyond r)) (row_done other row t (placed r v)))
      (same.transpose n)
      ∙ ap (row_moved (length (rows_there other beyond r))) (row_placed look other parts r row step.transpose v) in
      record {
        rows_before = suc n;
        place = ap place_of on;
        is = there ∙ moved_on other beyond r done same.other_lengths (row_inside other beyond same.other_lengths n)
            ∙ ap (placed (theirs (suc n))) (sym on);
      }

  -- ---- the steps of a voice

  same_tick : (v w : Voice) → Placed v w → w.tick ≡ v.tick
  same_tick v w q = ap (λ (x : Voice). x.tick) q.is

  same_timer : (v w : Voice) → Placed v w → w.gate_timer ≡ v.gate_timer
  same_timer v w q = ap (λ (x : Voice). x.gate_timer) q.is

  -- the other playing, written out
  playing_is : (s t : Playing) → (q : Played s t) → t ≡ placed_playing (theirs q.voice.rows_before) s
  playing_is s t q =
      ap (λ (v : Voice). record { voice = v; common = t.common }) q.voice.is
      ∙ ap (λ (c : Common). record { voice = placed (theirs q.voice.rows_before) s.voice; common = c }) q.common

  with_voices : (s t : Playing) (v w : Voice) → Played s t → Placed v w →
      Played (record s { voice = v }) (record t { voice = w })
  with_voices s t v w q h = record { voice = h; common = q.common }

  effect_same : (o : Options) (w u : Waved) → Played w.playing u.playing → u.effect ≡ w.effect →
      Played (effect_done o look w) (effect_done o other u)
  effect_same o w u q runs =
      choice_related Played (w.effect && not (o.skip_effects && (w.playing.voice.tick == 0)))
      (u.effect && not (o.skip_effects && (u.playing.voice.tick == 0))) _ w.playing _ u.playing
      (rw runs (rw (same_tick w.playing.voice u.playing.voice q.voice) refl))
      (λ z. with_voices w.playing u.playing _ _ q
      (stays w.playing.voice u.playing.voice _ _ q.voice (effect_holds look w.playing.voice)
      (ap (effect_step other) q.voice.is
      ∙ effect_placed look other parts (theirs q.voice.rows_before) w.playing.voice)))
      (λ z. q)

  pulse_same : (o : Options) (s t : Playing) → o.skip_first ≡ false → Played s t →
      Played (pulse_done o look s) (pulse_done o other t)
  pulse_same o s t kept q =
      choice_related Played (pulse_left_out o s.voice) (pulse_left_out o t.voice) s _ t _
      (rw kept (rw (same_tick s.voice t.voice q.voice) (rw (same_timer s.voice t.voice q.voice) refl)))
      (λ z. q)
      (λ z. with_voices s t _ _ q
      (stays s.voice t.voice _ _ q.voice (pulse_holds look s.voice)
      (ap (pulse_step other) q.voice.is ∙ pulse_placed look other parts (theirs q.voice.rows_before) s.voice)))

  row_same : (s t : Playing) → Played s t → Played (row_fetched look order s) (row_fetched other beyond t)
  row_same s t q =
      choice_related Played (s.voice.tick == s.voice.gate_timer) (t.voice.tick == t.voice.gate_timer) _ s _ t
      (rw (same_tick s.voice t.voice q.voice) (rw (same_timer s.voice t.voice q.voice) refl))
      (λ z. with_voices s t _ _ q (fetch_same s.voice t.voice q.voice))
      (λ z. q)

  -- a step that leaves the voice where it is, and what the voices share alike
  goes_on : (s t s1 t1 : Playing) → (q : Played s t) → held_of s1.voice ≡ held_of s.voice →
      t1 ≡ placed_playing (theirs q.voice.rows_before) s1 → Played s1 t1
  goes_on s t s1 t1 q holds is = record {
    voice = stays s.voice t.voice s1.voice t1.voice q.voice holds (ap (λ (x : Playing). x.voice) is);
    common = ap (λ (x : Playing). x.common) is;
  }

  after_tick_same : (o : Options) (x y : Ticked) → o.skip_first ≡ false → Played x.playing y.playing →
      y.started ≡ x.started → Played (after_tick o look order x) (after_tick o other beyond y)
  after_tick_same o x y kept q started =
      let w = wave_step look x.playing in
      let u = wave_step other y.playing in
      let is : u ≡ placed_waved (theirs q.voice.rows_before) w =
      ap (wave_step other) (playing_is x.playing y.playing q)
      ∙ wave_placed look other parts (theirs q.voice.rows_before) x.playing in
      let waved : Played w.playing u.playing =
      goes_on x.playing y.playing w.playing u.playing q (wave_holds look x.playing)
      (ap (λ (z : Waved). z.playing) is) in
      choice_related Played x.started y.started x.playing _ y.playing _ started (λ z. q)
      (λ z. row_same (pulse_done o look (effect_done o look w)) (pulse_done o other (effect_done o other u))
      (pulse_same o (effect_done o look w) (effect_done o other u) kept
      (effect_same o w u waved (ap (λ (z : Waved). z.effect) is))))

  pub voice_same : (channel : ℕ) (o : Options) (s t : Playing) → o.skip_first ≡ false → Played s t →
      Played (voice_step channel o look order s) (voice_step channel o other beyond t)
  unfolding voice_step
  voice_same channel o s t kept q =
      let x = tick_step channel look s in
      let y = tick_step channel other t in
      let is : y ≡ placed_ticked (theirs q.voice.rows_before) x =
      ap (tick_step channel other) (playing_is s t q)
      ∙ tick_placed look other parts (theirs q.voice.rows_before) channel s in
      after_tick_same o x y kept
      (goes_on s t x.playing y.playing q (tick_holds channel look s) (ap (λ (z : Ticked). z.playing) is))
      (ap (λ (z : Ticked). z.started) is)
