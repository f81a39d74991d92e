-- The tick step of two voices that may differ in the instrument with which they began.
use Rattle.std.specs.Prelude.{nat_le, ◌==◌, ◌%◌}
use Rattle.std.proofs.Common.{◌≡◌, ℕ, ◌⊎◌, false, refl, sym, ap, ◌∙◌, subst, inl, inr}
use Rattle.std.proofs.lemmas.Bool.{eq-eqb}
use Rattle.song_model.specs.declared.orders.Order.{Order}
use Rattle.song_model.specs.declared.instruments.Instrument.{Instrument}
use Rattle.song_model.specs.Pointers.{command_table}
use Rattle.play_model.specs.LookUps.{LookUps}
use Rattle.play_model.specs.Wrap.{byte_minus}
use Rattle.play_model.specs.State.{Voice, Playing}
use Rattle.play_model.specs.Helpers.{do_command}
use Rattle.play_model.specs.TickStep.{Ticked, tempo_of, reloaded, between_rows, note_taken, first_wave_set, sound_begun}
use Rattle.play_model.specs.TickStep.{taken, note_started, funk_tempo, tempo_set, row_command, note_ended}
use Rattle.play_model.specs.TickStep.{gate_timer_set, at_row, tick_step}
use Rattle.same_frames.specs.Maps.{same_numbers}
use Rattle.same_frames.specs.Begins.{timer_of}
use Rattle.same_frames.proofs.Choices.{choice_related, both}
use Rattle.same_frames.proofs.Moved.{Held, held_of, put_playing, same_pointer}
use Rattle.same_frames.proofs.Slides.{command_moved}
use Rattle.same_frames.proofs.Ticks.{between_moved, sound_moved, at_row_moved, same_param}
use Rattle.same_frames.proofs.Runs.{Runs, runs_of, IsRunning, chosen, do_command_runs}
use Rattle.same_frames.proofs.Begun.{playing_aside, PlayingsBegun, aside_held, aside_again, still_unnamed, go_on, playing_is}

abbrev runs_in : Playing → Runs
runs_in s = runs_of s.voice

pub record TicksBegun (look : LookUps) (order : Order) (i j : ℕ) (t u : Ticked) : Type 0 where
  pub playing : PlayingsBegun look order i j t.playing u.playing
  pub started : u.started ≡ t.started

-- ---- between rows

between_holds : (channel : ℕ) (s : Playing) → held_of (between_rows channel s).voice ≡ held_of s.voice
between_holds channel s =
    ap (λ (x : Playing). held_of x.voice) (between_moved same_numbers (held_of s.voice) channel s)

between_runs : (channel : ℕ) (s : Playing) → runs_in (between_rows channel s) ≡ runs_in s
unfolding between_rows
between_runs channel s =
    chosen runs_in (runs_in s) (nat_le 0x80 s.voice.tick) (reloaded channel (tempo_of channel s.common) s) s
    (chosen runs_in (runs_in s) (nat_le 2 (tempo_of channel s.common)) _ _ refl refl) refl

between_begun : (look : LookUps) (order : Order) (i j channel : ℕ) (s t : Playing) →
    PlayingsBegun look order i j s t →
    PlayingsBegun look order i j (between_rows channel s) (between_rows channel t)
between_begun look order i j channel s t q =
    let a = q.voice.instrument in
    let p = q.voice.param in
    let is : between_rows channel t
    ≡ put_playing same_numbers (aside_held a p (held_of s.voice)) (between_rows channel s) =
    ap (between_rows channel) (playing_is look order i j s t q)
    ∙ between_moved same_numbers (aside_held a p (held_of s.voice)) channel s in
    record {
      voice =
          go_on look order i j s.voice t.voice (between_rows channel s).voice (between_rows channel t).voice q.voice
          (between_holds channel s) (between_runs channel s)
          (ap (λ (x : Playing). x.voice) is
          ∙ aside_again a p (between_rows channel s).voice s.voice (between_holds channel s));
      common = ap (λ (x : Playing). x.common) is;
    }

-- ---- at a row

-- the other playing has this instrument, and the same parameter where something runs with it
record RowBegun (a : ℕ) (s t : Playing) : Type 0 where
  param : ℕ
  is : t ≡ playing_aside a param s
  runs : IsRunning (runs_in s) → param ≡ s.voice.param

timer_begun : (a : ℕ) (m n : Instrument) (s t : Playing) → n.gate_timer % 64 ≡ m.gate_timer % 64 → RowBegun a s t →
    RowBegun a (gate_timer_set m s) (gate_timer_set n t)
timer_begun a m n s t same q = record {
  param = q.param;
  is =
      ap (gate_timer_set n) q.is
      ∙ ap (λ (timer : ℕ). playing_aside a q.param (record s { voice = record s.voice { gate_timer = timer } })) same;
  runs = q.runs;
}

-- the note starts with the same instrument

first_wave_runs : (wave : ℕ) (v : Voice) → runs_of (first_wave_set wave v) ≡ runs_of v
first_wave_runs wave v =
    chosen runs_of (runs_of v) (nat_le 0xFE wave) _ _ refl (chosen runs_of (runs_of v) (wave == 0) v _ refl refl)

sound_runs : (m : Instrument) (s : Playing) → runs_in (sound_begun m s) ≡ runs_in s
sound_runs m s = first_wave_runs m.first_wave s.voice

sound_holds : (m : Instrument) (s : Playing) → held_of (sound_begun m s).voice ≡ held_of s.voice
sound_holds m s =
    ap (λ (x : Playing). held_of x.voice)
    (sound_moved same_numbers (held_of s.voice) m s (record { pulse = refl; filter = refl }))

again : (a p : ℕ) (s x : Playing) → held_of x.voice ≡ held_of s.voice →
    put_playing same_numbers (aside_held a p (held_of s.voice)) x ≡ playing_aside a p x
again a p s x e =
    ap (λ (v : Voice). record { voice = v; common = x.common }) (aside_again a p x.voice s.voice e)

sound_aside : (a p : ℕ) (m : Instrument) (s : Playing) →
    sound_begun m (playing_aside a p s) ≡ playing_aside a p (sound_begun m s)
sound_aside a p m s =
    sound_moved same_numbers (aside_held a p (held_of s.voice)) m s (record { pulse = refl; filter = refl })
    ∙ again a p s (sound_begun m s) (sound_holds m s)

taken_begun : (a : ℕ) (m : Instrument) (s t : Playing) → RowBegun a s t → RowBegun a (taken m s) (taken m t)
taken_begun a m s t q =
    choice_related (RowBegun a) (s.voice.new_command == 3) (t.voice.new_command == 3) mine (sound_begun m mine) its
    (sound_begun m its)
    (ap (λ (x : Playing). x.voice.new_command == 3) q.is)
    (λ z. record { param = m.vibrato; is = is; runs = λ r. refl })
    (λ z. record {
      param = m.vibrato;
      is = ap (sound_begun m) is ∙ sound_aside a m.vibrato m mine;
      runs = λ r. sym (ap (λ (x : Runs). x.param) (sound_runs m mine));
    })
  where
    mine : Playing
    mine = record s { voice = note_taken m s.voice }

    its : Playing
    its = record t { voice = note_taken m t.voice }

    is : its ≡ playing_aside a m.vibrato mine
    is = ap (λ (x : Playing). record x { voice = note_taken m x.voice }) q.is

note_begun : (a : ℕ) (m : Instrument) (s t : Playing) → RowBegun a s t →
    RowBegun a (note_started m s) (note_started m t)
unfolding note_started
note_begun a m s t q =
    choice_related (RowBegun a) (s.voice.new_note == 0) (t.voice.new_note == 0) s (taken m s) t (taken m t)
    (ap (λ (x : Playing). x.voice.new_note == 0) q.is) (λ z. q) (λ z. taken_begun a m s t q)

-- no note waits
no_note : (m : Instrument) (s : Playing) → s.voice.new_note ≡ 0 → note_started m s ≡ s
unfolding note_started
no_note m s none = let test = eq-eqb s.voice.new_note 0 none in rw test refl

-- the row's command

do_command_holds : (c d : ℕ) (s : Playing) → held_of (do_command c d s).voice ≡ held_of s.voice
do_command_holds c d s =
    ap (λ (x : Playing). held_of x.voice)
    (command_moved same_numbers (held_of s.voice) c d d s refl (sym (same_pointer (command_table c) d)))

do_command_aside : (a p c d : ℕ) (s : Playing) →
    do_command c d (playing_aside a p s) ≡ playing_aside a p (do_command c d s)
do_command_aside a p c d s =
    command_moved same_numbers (aside_held a p (held_of s.voice)) c d d s refl (sym (same_pointer (command_table c) d))
    ∙ again a p s (do_command c d s) (do_command_holds c d s)

command_begun : (a channel : ℕ) (look : LookUps) (m n : Instrument) (c d : ℕ) (s t : Playing) →
    (n ≡ m) ⊎ (s.voice.vib_delay ≡ 0) → RowBegun a s t →
    RowBegun a (row_command channel look m c d s) (row_command channel look n c d t)
unfolding row_command
command_begun a channel look m n c d s t same q =
    both R (c == 0) _ _ _ _ (λ z. record {
      param = n.vibrato;
      is = ap (λ (x : Playing). record x { voice = record x.voice { command = 0; param = n.vibrato } }) q.is;
      runs = λ r. elim r [
        | inl some ↦ absurd (some refl)
        | inr delay ↦ elim same [ inl e ↦ ap (λ (x : Instrument). x.vibrato) e | inr none ↦ absurd (delay none) ]
      ];
    })
    (λ z. both R (nat_le c 2) _ _ _ _ (λ z. record {
      param = d;
      is = ap (λ (x : Playing). record x { voice = record x.voice { vib_time = 0; command = c; param = d } }) q.is;
      runs = λ r. refl;
    })
    (λ z. both R (nat_le c 4) _ _ _ _ (λ z. record {
      param = d;
      is = ap (λ (x : Playing). record x { voice = record x.voice { command = c; param = d } }) q.is;
      runs = λ r. refl;
    })
    (λ z. both R (c == 8) _ _ _ _ (λ z. record {
      param = q.param;
      is = ap (λ (x : Playing). record x { voice = record x.voice { wave_ptr = d; wave_time = 0 } }) q.is;
      runs = q.runs;
    })
    (λ z. both R (c == 0xE) _ _ _ _ (λ z. record {
      param = q.param;
      is = ap (λ (x : Playing). record x { common = funk_tempo look d x.common }) q.is;
      runs = q.runs;
    })
    (λ z. both R (c == 0xF) _ _ _ _ (λ z. record {
      param = q.param;
      is = ap (λ (x : Playing). record x { common = tempo_set channel d x.common }) q.is;
      runs = q.runs;
    })
    (λ z. record {
      param = q.param;
      is = ap (do_command c d) q.is ∙ do_command_aside a q.param c d s;
      runs =
          subst (λ (r : Runs). IsRunning r → q.param ≡ r.param) (sym (do_command_runs c d s)) q.runs;
    }))))))
  where
    R : Playing → Playing → Type 0
    R = RowBegun a

command_delay : (channel : ℕ) (look : LookUps) (m : Instrument) (c d : ℕ) (s : Playing) →
    (row_command channel look m c d s).voice.vib_delay ≡ s.voice.vib_delay
unfolding row_command
command_delay channel look m c d s =
    chosen f r (c == 0) _ _ refl
    (chosen f r (nat_le c 2) _ _ refl
    (chosen f r (nat_le c 4) _ _ refl
    (chosen f r (c == 8) _ _ refl
    (chosen f r (c == 0xE) _ _ refl
    (chosen f r (c == 0xF) _ (do_command c d s) refl (ap (λ (x : Runs). x.delay) (do_command_runs c d s)))))))
  where
    f : Playing → ℕ
    f x = x.voice.vib_delay

    r : ℕ
    r = s.voice.vib_delay

-- ---- the whole step

at_row_holds : (channel : ℕ) (look : LookUps) (m : Instrument) (s : Playing) →
    held_of (at_row channel look m s).playing.voice ≡ held_of s.voice
at_row_holds channel look m s =
    ap (λ (x : Ticked). held_of x.playing.voice)
    (at_row_moved same_numbers (held_of s.voice) channel look look m s refl (record { pulse = refl; filter = refl }) refl
    (same_param look s.voice.new_command s.voice.new_param))

-- the state behind the row's command
abbrev commanded : ℕ → LookUps → Instrument → ℕ → ℕ → Playing → Playing
commanded channel look m c d s = row_command channel look m c d (note_started m (gate_timer_set m s))

-- the same instrument
named_row : (a channel : ℕ) (look : LookUps) (m n : Instrument) (c d : ℕ) (s t : Playing) → n ≡ m → RowBegun a s t →
    RowBegun a (commanded channel look m c d s) (commanded channel look n c d t)
named_row a channel look m n c d s t same q =
    subst (λ (x : Instrument). RowBegun a (commanded channel look m c d s) (commanded channel look x c d t)) (sym same)
    (command_begun a channel look m m c d _ _ (inl refl)
    (note_begun a m (gate_timer_set m s) (gate_timer_set m t) (timer_begun a m m s t refl q)))

-- no note waits, and no vibrato is on its way
unnamed_row : (a channel : ℕ) (look : LookUps) (m n : Instrument) (c d : ℕ) (s t : Playing) →
    n.gate_timer % 64 ≡ m.gate_timer % 64 → s.voice.new_note ≡ 0 → s.voice.vib_delay ≡ 0 → RowBegun a s t →
    RowBegun a (commanded channel look m c d s) (commanded channel look n c d t)
unnamed_row a channel look m n c d s t timer note delay q =
    let mine = gate_timer_set m s in
    let its = gate_timer_set n t in
    let its_note : t.voice.new_note ≡ 0 = ap (λ (x : Playing). x.voice.new_note) q.is ∙ note in
    rw (no_note m mine note)
    (rw (no_note n its its_note)
    (command_begun a channel look m n c d mine its (inr delay) (timer_begun a m n s t timer q)))

module _ (look : LookUps) (order : Order) (i j : ℕ) (timer : timer_of look j ≡ timer_of look i) where
  -- the voice's row, with its own command
  row_begun : (channel : ℕ) (s t : Playing) (q : PlayingsBegun look order i j s t) →
      RowBegun q.voice.instrument
      (commanded channel look (look.instrument s.voice.instrument) s.voice.new_command s.voice.new_param s)
      (commanded channel look (look.instrument t.voice.instrument) s.voice.new_command s.voice.new_param t)
  row_begun channel s t q =
      let a = q.voice.instrument in
      let is_a : t.voice.instrument ≡ a = ap (λ (v : Voice). v.instrument) q.voice.is in
      let first : RowBegun a s t = record {
        param = q.voice.param;
        is = playing_is look order i j s t q;
        runs = q.voice.may.runs;
      } in
      elim q.voice.may.held [
        | inl e ↦ named_row a channel look _ _ _ _ s t (ap look.instrument (is_a ∙ e)) first
        | inr u ↦ unnamed_row a channel look _ _ _ _ s t
            (ap (timer_of look) (is_a ∙ u.its) ∙ timer ∙ sym (ap (timer_of look) u.mine)) u.no_note u.no_delay first
      ]

  at_row_begun : (channel : ℕ) (s t : Playing) → PlayingsBegun look order i j s t →
      TicksBegun look order i j (at_row channel look (look.instrument s.voice.instrument) s)
      (at_row channel look (look.instrument t.voice.instrument) t)
  unfolding at_row
  at_row_begun channel s t q =
      let m = look.instrument s.voice.instrument in
      let n = look.instrument t.voice.instrument in
      let c = s.voice.new_command in
      let d = s.voice.new_param in
      let row = row_begun channel s t q in
      let a = q.voice.instrument in
      let mine = commanded channel look m c d s in
      let its : commanded channel look n t.voice.new_command t.voice.new_param t ≡ playing_aside a row.param mine =
      ap (λ (x : ℕ). commanded channel look n x t.voice.new_param t) (ap (λ (v : Voice). v.new_command) q.voice.is)
      ∙ ap (λ (x : ℕ). commanded channel look n c x t) (ap (λ (v : Voice). v.new_param) q.voice.is) ∙ row.is in
      let holds = at_row_holds channel look m s in
      record {
        playing = record {
          voice = record {
            instrument = a;
            param = row.param;
            is = ap (λ (x : Playing). (note_ended x).playing.voice) its;
            may = record {
              runs = row.runs;
              held = elim q.voice.may.held [
                | inl e ↦ inl (e ∙ sym (ap (λ (h : Held). h.instrument) holds))
                | inr u ↦ inr (still_unnamed look order i j (held_of s.voice) _ (runs_of s.voice) _ a holds refl
                    (command_delay channel look m c d (note_started m (gate_timer_set m s))
                    ∙ ap (λ (x : Playing). x.voice.vib_delay) (no_note m (gate_timer_set m s) u.no_note) ∙ u.no_delay) u)
              ];
            };
          };
          common = ap (λ (x : Playing). (note_ended x).playing.common) its;
        };
        started = ap (λ (x : Playing). (note_ended x).started) its;
      }

  counted : (s t : Playing) → PlayingsBegun look order i j s t →
      PlayingsBegun look order i j (record s { voice = record s.voice { tick = byte_minus s.voice.tick 1 } })
      (record t { voice = record t.voice { tick = byte_minus t.voice.tick 1 } })
  counted s t q = record {
    voice =
        go_on look order i j s.voice t.voice _ _ q.voice refl refl
        (ap (λ (v : Voice). record v { tick = byte_minus v.tick 1 }) q.voice.is);
    common = q.common;
  }

  pub tick_begun : (channel : ℕ) (s t : Playing) → PlayingsBegun look order i j s t →
      TicksBegun look order i j (tick_step channel look s) (tick_step channel look t)
  unfolding tick_step
  tick_begun channel s t q =
      let mine = record s { voice = record s.voice { tick = byte_minus s.voice.tick 1 } } in
      let its = record t { voice = record t.voice { tick = byte_minus t.voice.tick 1 } } in
      let next = counted s t q in
      choice_related (TicksBegun look order i j) (mine.voice.tick == 0) (its.voice.tick == 0) _
      (record { playing = between_rows channel mine; started = false }) _
      (record { playing = between_rows channel its; started = false })
      (ap (λ (v : Voice). v.tick == 0) next.voice.is)
      (λ z. at_row_begun channel mine its next)
      (λ z. record { playing = between_begun look order i j channel mine its next; started = refl })
