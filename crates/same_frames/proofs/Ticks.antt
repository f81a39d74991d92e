-- The tick step with other numbers for instruments and for the rows of tables, over any two look-ups.
use Rattle.std.specs.Prelude.{nat_le, ◌==◌, ◌&&◌, if◌then◌else◌}
use Rattle.std.proofs.Common.{◌≡◌, ◌≢◌, ℕ, ◌-◌, ◌≤◌, false, Some, refl, sym, ap, ◌∙◌, arith}
use Rattle.std.proofs.lemmas.Bool.{eqb-true, eqb-false, leb-true}
use Rattle.std.proofs.lemmas.Bool.Decides.{nat_tests}
use Rattle.song_model.specs.declared.instruments.Instrument.{Instrument}
use Rattle.song_model.specs.declared.tables.TableName.TheVariants.{Pulse, Filter, Speed}
use Rattle.song_model.specs.Pointers.{command_table}
use Rattle.play_model.specs.LookUps.{LookUps}
use Rattle.play_model.specs.Wrap.{byte_minus}
use Rattle.play_model.specs.State.{Voice, Common, Playing}
use Rattle.play_model.specs.TickStep.{tempo_of, with_tempo, with_all_tempos, reloaded, between_rows, note_taken}
use Rattle.play_model.specs.TickStep.{first_wave_set, programs_begun, sound_begun, taken, note_started, funk_set}
use Rattle.play_model.specs.TickStep.{funk_tempo, tempo_set, row_command, note_ended, gate_timer_set, at_row, tick_step}
use Rattle.same_frames.specs.Maps.{Maps, same_numbers, moved_pointer, moved_instrument, IsInstrumentFor}
use Rattle.same_frames.specs.Alike.{moved_common}
use Rattle.same_frames.proofs.Choices.{choice_moved, same_choice, both}
use Rattle.same_frames.proofs.Moved.{Held, held_of, put, put_playing, put_ticked, PlayingMoved, same_pointer}
use Rattle.same_frames.proofs.Slides.{IsSpeedFor, same_speed, command_moved}

-- ---- tempos

tempo_moved : (maps : Maps) (channel tempo : ℕ) (c : Common) →
    with_tempo channel tempo (moved_common maps c) ≡ moved_common maps (with_tempo channel tempo c)
tempo_moved maps channel tempo c =
    same_choice (moved_common maps) (channel == 1) _ _ _ _ (λ z. refl)
    (λ z. same_choice (moved_common maps) (channel == 2) _ _ _ _ (λ z. refl) (λ z. refl))

funk_moved : (maps : Maps) (look other : LookUps) (d e : ℕ) (c : Common) → IsSpeedFor look other d e →
    funk_tempo other e (moved_common maps c) ≡ moved_common maps (funk_tempo look d c)
funk_moved maps look other d e c s =
    ap (with_all_tempos 0)
    (choice_moved (moved_common maps) (d == 0) (e == 0) c (funk_set (look.row Speed d) c) (moved_common maps c)
    (funk_set (other.row Speed e) (moved_common maps c)) s.none (λ z. refl) (λ z. rw s.row refl))

tempos_moved : (maps : Maps) (channel d : ℕ) (c : Common) →
    tempo_set channel d (moved_common maps c) ≡ moved_common maps (tempo_set channel d c)
tempos_moved maps channel d c =
    same_choice (moved_common maps) (nat_le d 1) _ _ _ _ (λ z. refl)
    (λ z. same_choice (moved_common maps) (nat_le 0x03 d && nat_le d 0x7F) _ _ _ _ (λ z. refl)
    (λ z. same_choice (moved_common maps) (nat_le 0x83 d) _ c _ (moved_common maps c)
    (λ z. tempo_moved maps channel (d - 0x81) c) (λ z. refl)))

-- ---- between rows

reloaded_moved : (maps : Maps) (h : Held) (channel tempo : ℕ) (s : Playing) →
    reloaded channel tempo (put_playing maps h s) ≡ put_playing maps h (reloaded channel tempo s)
reloaded_moved maps h channel tempo s =
    same_choice (put_playing maps h) (nat_le 2 tempo) _ _ _ _ (λ z. refl)
    (λ z. ap (λ (c : Common). record {
      voice = record (put maps h s.voice) { tick = if tempo == 0 then s.common.funk_one else s.common.funk_two };
      common = c;
    }) (tempo_moved maps channel (1 - tempo) s.common))

pub between_moved : (maps : Maps) (h : Held) (channel : ℕ) (s : Playing) →
    between_rows channel (put_playing maps h s) ≡ put_playing maps h (between_rows channel s)
unfolding between_rows
between_moved maps h channel s =
    same_choice (put_playing maps h) (nat_le 0x80 s.voice.tick) (reloaded channel (tempo_of channel s.common) s) s
    (reloaded channel (tempo_of channel s.common) (put_playing maps h s)) (put_playing maps h s)
    (λ z. reloaded_moved maps h channel (tempo_of channel s.common) s) (λ z. refl)

-- ---- a note that starts

-- the instrument has programs under both numbers, or under none
pub record BeginsFor (maps : Maps) (i : Instrument) : Type 0 where
  pub pulse : (maps.row Pulse i.pulse == 0) ≡ (i.pulse == 0)
  pub filter : (maps.row Filter i.filter == 0) ≡ (i.filter == 0)

first_wave_moved : (maps : Maps) (h : Held) (wave : ℕ) (v : Voice) →
    first_wave_set wave (put maps h v) ≡ put maps h (first_wave_set wave v)
first_wave_moved maps h wave v =
    same_choice (put maps h) (nat_le 0xFE wave) _ _ _ _ (λ z. refl)
    (λ z. same_choice (put maps h) (wave == 0) v _ (put maps h v) _ (λ z. refl) (λ z. refl))

programs_moved : (maps : Maps) (h : Held) (i : Instrument) (s : Playing) → BeginsFor maps i →
    programs_begun (moved_instrument maps i) (put_playing maps h s) ≡ put_playing maps h (programs_begun i s)
programs_moved maps h i s b =
    rw (choice_moved (maps.row Pulse) (i.pulse == 0) (maps.row Pulse i.pulse == 0) s.voice.pulse_ptr i.pulse
    (maps.row Pulse s.voice.pulse_ptr) (maps.row Pulse i.pulse) b.pulse (λ z. refl) (λ z. refl))
    (rw (choice_moved (maps.row Filter) (i.filter == 0) (maps.row Filter i.filter == 0) s.common.filter_ptr i.filter
    (maps.row Filter s.common.filter_ptr) (maps.row Filter i.filter) b.filter (λ z. refl) (λ z. refl))
    (rw b.pulse (rw b.filter refl)))

pub sound_moved : (maps : Maps) (h : Held) (i : Instrument) (s : Playing) → BeginsFor maps i →
    sound_begun (moved_instrument maps i) (put_playing maps h s) ≡ put_playing maps h (sound_begun i s)
sound_moved maps h i s b =
    ap (λ (v : Voice). programs_begun (moved_instrument maps i)
    (record { voice = v; common = moved_common maps s.common })) (first_wave_moved maps h i.first_wave s.voice)
    ∙ programs_moved maps h i (record s { voice = first_wave_set i.first_wave s.voice }) b

-- with the speeds under their new numbers
abbrev pub sped : Maps → Held → Held
sped maps h = record h { running = maps.row Speed }

started_moved : (maps : Maps) (h : Held) (i : Instrument) (s : Playing) → BeginsFor maps i →
    h.new_command ≡ s.voice.new_command →
    note_started (moved_instrument maps i) (put_playing maps (sped maps h) s) ≡ put_playing maps (sped maps h) (note_started i s)
unfolding note_started
started_moved maps h i s b is =
    same_choice f (s.voice.new_note == 0) s (taken i s) (put_playing maps (sped maps h) s)
    (taken (moved_instrument maps i) (put_playing maps (sped maps h) s)) (λ z. refl)
    (λ z. choice_moved f (s.voice.new_command == 3) (h.new_command == 3)
    (record s { voice = note_taken i s.voice }) (sound_begun i (record s { voice = note_taken i s.voice })) _ _
    (rw is refl) (λ z. refl) (λ z. sound_moved maps (sped maps h) i (record s { voice = note_taken i s.voice }) b))
  where
    f : Playing → Playing
    f = put_playing maps (sped maps h)

-- ---- the row's command

-- what a row's parameter stands for, and that the two row lengths of a funk tempo are the same
pub record IsRowParam (maps : Maps) (look other : LookUps) (c d e : ℕ) : Type 0 where
  pub is : c ≢ 0 → e ≡ moved_pointer maps (command_table c) d
  pub lengths : c ≡ 0xE → IsSpeedFor look other d e

pub slides_point : (c : ℕ) → c ≢ 0 → c ≤ 4 → command_table c ≡ Some Speed
slides_point c some most = grind (arith, nat_tests)

two_is_low : (c : ℕ) → c ≤ 2 → c ≤ 4
two_is_low c h = omega arith

row_commands_moved : (maps : Maps) (h : Held) (channel : ℕ) (look other : LookUps) (i : Instrument) (c d e : ℕ)
    (s : Playing) → maps.row Filter 0 ≡ 0 → IsRowParam maps look other c d e →
    PlayingMoved maps (sped maps h) (row_command channel look i c d s)
    (row_command channel other (moved_instrument maps i) c e (put_playing maps (sped maps h) s))
unfolding row_command
row_commands_moved maps h channel look other i c d e s nothing p =
    both R (c == 0) _ _ _ _ (λ z. record { is = refl })
    (λ z. let some = eqb-false c 0 z in
    both R (nat_le c 2) _ _ _ _
    (λ z. record { is = rw (slide_is some (two_is_low c (leb-true c 2 z))) refl })
    (λ z. both R (nat_le c 4) _ _ _ _ (λ z. record { is = rw (slide_is some (leb-true c 4 z)) refl })
    (λ z. both R (c == 8) _ _ _ _ (λ z. record { is = rw (by_command some 8 (eqb-true c 8 z)) refl })
    (λ z. both R (c == 0xE) _ _ _ _
    (λ z. common _ _ (funk_moved maps look other d e s.common (p.lengths (eqb-true c 0xE z))))
    (λ z. both R (c == 0xF) _ _ _ _
    (λ z. common _ _ (tempos_by (by_command some 0xF (eqb-true c 0xF z))))
    (λ z. record { is = command_moved maps (sped maps h) c d e s nothing (p.is some) }))))))
  where
    R : Playing → Playing → Type 0
    R = PlayingMoved maps (sped maps h)

    common : (x y : Common) → y ≡ moved_common maps x →
        PlayingMoved maps (sped maps h) (record s { common = x }) (record { voice = put maps (sped maps h) s.voice; common = y })
    common x y is = record { is = ap (λ (x : Common). record { voice = put maps (sped maps h) s.voice; common = x }) is }

    tempos_by : e ≡ d →
        tempo_set channel e (moved_common maps s.common) ≡ moved_common maps (tempo_set channel d s.common)
    tempos_by is =
        ap (λ (n : ℕ). tempo_set channel n (moved_common maps s.common)) is ∙ tempos_moved maps channel d s.common

    slide_is : c ≢ 0 → c ≤ 4 → e ≡ maps.row Speed d
    slide_is some most = rw (slides_point c some most) at (p.is some)

    by_command : c ≢ 0 → (n : ℕ) → c ≡ n → e ≡ moved_pointer maps (command_table n) d
    by_command some n is_n = rw is_n at (p.is some)

row_command_moved : (maps : Maps) (h : Held) (channel : ℕ) (look other : LookUps) (i : Instrument) (c d e : ℕ)
    (s : Playing) → maps.row Filter 0 ≡ 0 → IsRowParam maps look other c d e →
    row_command channel other (moved_instrument maps i) c e (put_playing maps (sped maps h) s)
    ≡ put_playing maps (sped maps h) (row_command channel look i c d s)
row_command_moved maps h channel look other i c d e s nothing p =
    (row_commands_moved maps h channel look other i c d e s nothing p).is

-- ---- the whole step

-- with no new numbers: what is held stays
pub same_param : (look : LookUps) (c d : ℕ) → IsRowParam same_numbers look look c d d
same_param look c d = record {
  is = λ some. rw (same_pointer (command_table c) d) refl;
  lengths = λ e. same_speed look d;
}

started_holds : (i : Instrument) (s : Playing) → held_of (note_started i s).voice ≡ held_of s.voice
started_holds i s =
    ap (λ (p : Playing). held_of p.voice)
    (started_moved same_numbers (held_of s.voice) i s (record { pulse = refl; filter = refl }) refl)

command_holds : (channel : ℕ) (look : LookUps) (i : Instrument) (c d : ℕ) (s : Playing) →
    held_of (row_command channel look i c d s).voice ≡ held_of s.voice
command_holds channel look i c d s =
    ap (λ (p : Playing). held_of p.voice)
    (row_command_moved same_numbers (held_of s.voice) channel look look i c d d s refl (same_param look c d))

ended_moved : (maps : Maps) (h : Held) (s : Playing) → h.new_command ≡ s.voice.new_command →
    note_ended (put_playing maps (sped maps h) s) ≡ put_ticked maps (sped maps h) (note_ended s)
ended_moved maps h s is = rw is refl

pub at_row_moved : (maps : Maps) (h : Held) (channel : ℕ) (look other : LookUps) (i : Instrument) (s : Playing) →
    maps.row Filter 0 ≡ 0 → BeginsFor maps i → h.new_command ≡ s.voice.new_command →
    IsRowParam maps look other s.voice.new_command s.voice.new_param h.new_param →
    at_row channel other (moved_instrument maps i) (put_playing maps (sped maps h) s) ≡ put_ticked maps (sped maps h) (at_row channel look i s)
unfolding at_row
at_row_moved maps h channel look other i s nothing b is p =
    let c = s.voice.new_command in
    let d = s.voice.new_param in
    let timed = gate_timer_set i s in
    let started = note_started i timed in
    let done = row_command channel look i c d started in
    let j = moved_instrument maps i in
    ap (λ (x : Playing). note_ended (row_command channel other j h.new_command h.new_param x))
    (started_moved maps h i timed b is)
    ∙ ap (λ (n : ℕ). note_ended (row_command channel other j n h.new_param (put_playing maps (sped maps h) started))) is
    ∙ ap note_ended (row_command_moved maps h channel look other i c d h.new_param started nothing p)
    ∙ ended_moved maps h done
    (is ∙ ap (λ (x : Held). x.new_command)
    (sym (command_holds channel look i c d started ∙ started_holds i timed)))

-- an instrument that stands for it does the same, whatever its name is
named_alike : (maps : Maps) (channel : ℕ) (other : LookUps) (i j : Instrument) (s : Playing) →
    IsInstrumentFor maps i j →
    at_row channel other j s ≡ at_row channel other (moved_instrument maps i) s
unfolding at_row note_started row_command
named_alike maps channel other i j s h = ap (λ (n : Instrument). at_row channel other n s) h.moved

-- what the tick step meets, where the voice holds this in the other look-ups
pub record IsTickFor (maps : Maps) (look other : LookUps) (h : Held) (v : Voice) : Type 0 where
  pub instrument : IsInstrumentFor maps (look.instrument v.instrument) (other.instrument h.instrument)
  pub begins : BeginsFor maps (look.instrument v.instrument)
  pub command : h.new_command ≡ v.new_command
  pub param : IsRowParam maps look other v.new_command v.new_param h.new_param

pub tick_moved : (maps : Maps) (h : Held) (channel : ℕ) (look other : LookUps) (s : Playing) →
    maps.row Filter 0 ≡ 0 → IsTickFor maps look other h s.voice →
    tick_step channel other (put_playing maps (sped maps h) s) ≡ put_ticked maps (sped maps h) (tick_step channel look s)
unfolding tick_step
tick_moved maps h channel look other s nothing t =
    let next = record s { voice = record s.voice { tick = byte_minus s.voice.tick 1 } } in
    let i = look.instrument s.voice.instrument in
    same_choice (put_ticked maps (sped maps h)) (byte_minus s.voice.tick 1 == 0) (at_row channel look i next)
    (record { playing = between_rows channel next; started = false })
    (at_row channel other (other.instrument h.instrument) (put_playing maps (sped maps h) next))
    (record { playing = between_rows channel (put_playing maps (sped maps h) next); started = false })
    (λ z. named_alike maps channel other i (other.instrument h.instrument) (put_playing maps (sped maps h) next) t.instrument
    ∙ at_row_moved maps h channel look other i next nothing t.begins t.command t.param)
    (λ z. rw (between_moved maps (sped maps h) channel next) refl)
