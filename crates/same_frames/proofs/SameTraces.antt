-- Frames of voices that play the same rows in other patterns leave the same in the registers.
use Rattle.std.specs.Prelude.{◌==◌}
use Rattle.std.proofs.Common.{◌≡◌, ℕ, zero, suc, ◌+◌, Bool, true, false, cond, refl, ap, ◌∙◌}
use Rattle.song_model.specs.declared.orders.Order.{Order}
use Rattle.song_model.specs.declared.orders.Subtune.{Subtune}
use Rattle.song_model.specs.declared.tables.TableName.TheVariants.{Filter}
use Rattle.song_model.specs.LookUp.{order_of}
use Rattle.play_model.specs.declared.options.Options.{Options}
use Rattle.play_model.specs.LookUps.{LookUps}
use Rattle.play_model.specs.State.{Voice, Playing, FrameState, start_state, playing_of, with_playing}
use Rattle.play_model.specs.FilterStep.{filter_step}
use Rattle.play_model.specs.Frame.{voice_step, voice_registers, filter_done, voice_done, voices_done, frame_of}
use Rattle.play_model.specs.Used.{IsChannel}
use Rattle.same_frames.specs.Maps.{same_numbers}
use Rattle.same_frames.specs.FrameLaws.{state_after_of, trace_of}
use Rattle.same_frames.specs.SameRows.{HasSameParts, SubtunePlaysSameRows, SameRowsPlayTheSame}
use Rattle.same_frames.proofs.Programs.{filter_moved}
use Rattle.same_frames.proofs.SameRows.{VoicesArePlaced, PlayingsArePlaced, next_there, voice_same}
use Rattle.same_frames.proofs.Frames.{chosen_order, is_first, is_second, is_third}

pub record StatesArePlaced (look other : LookUps) (subtune beyond : Subtune) (x y : FrameState) : Type 0 where
  pub common : y.common ≡ x.common
  pub one : VoicesArePlaced look other (order_of 1 subtune) (order_of 1 beyond) x.one y.one
  pub two : VoicesArePlaced look other (order_of 2 subtune) (order_of 2 beyond) x.two y.two
  pub three : VoicesArePlaced look other (order_of 3 subtune) (order_of 3 beyond) x.three y.three

module _ (look other : LookUps) (subtune beyond : Subtune) (parts : HasSameParts look other)
    (same : SubtunePlaysSameRows look other subtune beyond) (o : Options) (kept : o.skip_first ≡ false) where
  abbrev States : FrameState → FrameState → Type 0
  States x y = StatesArePlaced look other subtune beyond x y

  abbrev On : ℕ → Playing → Playing → Type 0
  On channel s t = PlayingsArePlaced look other (order_of channel subtune) (order_of channel beyond) s t

  playing_placed : (channel : ℕ) (x y : FrameState) → States x y → On channel (playing_of channel x) (playing_of channel y)
  playing_placed channel x y q = record { voice = each (channel == 1) (channel == 2); common = q.common }
    where
      each : (first second : Bool) →
          VoicesArePlaced look other (chosen_order subtune first second) (chosen_order beyond first second)
          (cond first x.one (cond second x.two x.three)) (cond first y.one (cond second y.two y.three))
      each true second = q.one
      each false true = q.two
      each false false = q.three

  put_back : (channel : ℕ) (s t : Playing) (x y : FrameState) → On channel s t → States x y →
      States (with_playing channel s x) (with_playing channel t y)
  put_back channel s t x y p q = each (channel == 1) (channel == 2) p.voice
    where
      each : (first second : Bool) →
          VoicesArePlaced look other (chosen_order subtune first second) (chosen_order beyond first second)
          s.voice t.voice →
          States (cond first (record x { one = s.voice; common = s.common })
          (cond second (record x { two = s.voice; common = s.common }) (record x { three = s.voice; common = s.common })))
          (cond first (record y { one = t.voice; common = t.common })
          (cond second (record y { two = t.voice; common = t.common }) (record y { three = t.voice; common = t.common })))
      each true second v = record { common = p.common; one = v; two = q.two; three = q.three }
      each false true v = record { common = p.common; one = q.one; two = v; three = q.three }
      each false false v = record { common = p.common; one = q.one; two = q.two; three = v }

  done_same : (channel : ℕ) (x y : FrameState) → IsChannel channel → States x y →
      States (voice_done channel o look subtune x) (voice_done channel o other beyond y)
  done_same channel x y is q =
      put_back channel (voice_step channel o look (order_of channel subtune) (playing_of channel x))
      (voice_step channel o other (order_of channel beyond) (playing_of channel y)) x y
      (voice_same look other (order_of channel subtune) (order_of channel beyond) parts (same channel is) channel o
      (playing_of channel x) (playing_of channel y) kept (playing_placed channel x y q)) q

  filter_same : (x y : FrameState) → States x y → States (filter_done look x) (filter_done other y)
  filter_same x y q = record {
    common = ap (filter_step other) q.common
        ∙ filter_moved same_numbers look other x.common refl
        (λ some. record {
          row = parts.row Filter x.common.filter_ptr;
          next = next_there look other parts Filter x.common.filter_ptr;
          left = rw (parts.row Filter (x.common.filter_ptr + 1)) refl;
          right = λ is. rw (parts.row Filter (x.common.filter_ptr + 1)) refl;
          past = λ is. next_there look other parts Filter (x.common.filter_ptr + 1);
        });
    one = q.one;
    two = q.two;
    three = q.three;
  }

  -- a place shows in no register
  voice_shows : (order others : Order) (v w : Voice) → VoicesArePlaced look other order others v w →
      voice_registers w ≡ voice_registers v
  unfolding voice_registers
  voice_shows order others v w q = ap voice_registers q.is

  all_same : (x y : FrameState) → States x y → States (voices_done o look subtune x) (voices_done o other beyond y)
  all_same x y q =
      done_same 3 (voice_done 2 o look subtune (voice_done 1 o look subtune x))
      (voice_done 2 o other beyond (voice_done 1 o other beyond y)) is_third
      (done_same 2 (voice_done 1 o look subtune x) (voice_done 1 o other beyond y) is_second
      (done_same 1 x y is_first q))

  frame_state : (x y : FrameState) → States x y → States (frame_of o look subtune x).state (frame_of o other beyond y).state
  unfolding frame_of
  frame_state x y q = all_same (filter_done look x) (filter_done other y) (filter_same x y q)

  frame_shows : (x y : FrameState) → States x y →
      (frame_of o other beyond y).registers ≡ (frame_of o look subtune x).registers
  unfolding frame_of
  frame_shows x y q =
      let f = filter_same x y q in
      let s = all_same (filter_done look x) (filter_done other y) f in
      rw (voice_shows _ _ _ _ s.one)
      (rw (voice_shows _ _ _ _ s.two)
      (rw (voice_shows _ _ _ _ s.three) (rw f.common refl)))

  states_same : (n : ℕ) → States (state_after_of o look subtune n) (state_after_of o other beyond n)
  unfolding state_after_of
  states_same zero = record { common = refl; one = begun; two = begun; three = begun }
    where
      begun : {order others : Order} → VoicesArePlaced look other order others (start_state o).one (start_state o).one
      begun = record { rows_before = 0; place = refl; is = refl }
  states_same (suc n) =
      frame_state (state_after_of o look subtune n) (state_after_of o other beyond n) (states_same n)

  traces_same : (i : ℕ) → trace_of o other beyond i ≡ trace_of o look subtune i
  traces_same zero = refl
  traces_same (suc n) =
      frame_shows (state_after_of o look subtune n) (state_after_of o other beyond n) (states_same n)

pub same_rows_lem : SameRowsPlayTheSame
same_rows_lem o look other subtune beyond i kept parts same =
    traces_same look other subtune beyond parts same o kept i
