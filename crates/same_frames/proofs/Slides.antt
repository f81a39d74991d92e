-- Slides, vibratos and commands with other numbers for the rows of tables, over any two look-ups.
use Rattle.std.specs.Prelude.{◌==◌, ◌||◌, nat_le, if◌then◌else◌}
use Rattle.std.proofs.Common.{◌≡◌, ℕ, refl}
use Rattle.std.proofs.lemmas.Bool.{eqb-true}
use Rattle.song_model.specs.declared.tables.TableName.TheVariants.{Filter, Speed}
use Rattle.song_model.specs.Pointers.{command_table}
use Rattle.play_model.specs.LookUps.{LookUps}
use Rattle.play_model.specs.Wrap.{distance}
use Rattle.play_model.specs.Freq.{freq, slide}
use Rattle.play_model.specs.State.{Voice, Playing}
use Rattle.play_model.specs.Helpers.{porta_up, porta_down, at_target, towards, tone, vibrato, do_command}
use Rattle.same_frames.specs.Maps.{Maps, moved_pointer}
use Rattle.same_frames.proofs.Choices.{choice_moved, same_choice, both}
use Rattle.same_frames.proofs.Moved.{Held, put, put_playing, PlayingMoved}

-- the other number names the same speed, and both or neither name none
pub record IsSpeedFor (look other : LookUps) (d e : ℕ) : Type 0 where
  pub row : other.row Speed e ≡ look.row Speed d
  pub none : (e == 0) ≡ (d == 0)

pub same_speed : (look : LookUps) (d : ℕ) → IsSpeedFor look look d d
same_speed look d = record { row = refl; none = refl }

slide_same : (look other : LookUps) (d e last : ℕ) → IsSpeedFor look other d e → slide other e last ≡ slide look d last
unfolding slide
slide_same look other d e last s = rw s.row refl

pub up_moved : (maps : Maps) (h : Held) (look other : LookUps) (d e : ℕ) (v : Voice) → IsSpeedFor look other d e →
    porta_up other e (put maps h v) ≡ put maps h (porta_up look d v)
unfolding porta_up
up_moved maps h look other d e v s = rw (slide_same look other d e v.last_note s) refl

pub down_moved : (maps : Maps) (h : Held) (look other : LookUps) (d e : ℕ) (v : Voice) → IsSpeedFor look other d e →
    porta_down other e (put maps h v) ≡ put maps h (porta_down look d v)
unfolding porta_down
down_moved maps h look other d e v s = rw (slide_same look other d e v.last_note s) refl

pub tone_moved : (maps : Maps) (h : Held) (look other : LookUps) (d e : ℕ) (v : Voice) → IsSpeedFor look other d e →
    tone other e (put maps h v) ≡ put maps h (tone look d v)
unfolding tone
tone_moved maps h look other d e v s =
    let step = slide look d v.last_note in
    rw (slide_same look other d e v.last_note s)
    (choice_moved (put maps h) ((d == 0) || nat_le (distance v.freq (freq v.note)) step)
    ((e == 0) || nat_le (distance v.freq (freq v.note)) step) (at_target (freq v.note) v)
    (towards (freq v.note) step v) (at_target (freq v.note) (put maps h v)) (towards (freq v.note) step (put maps h v))
    (rw s.none refl) (λ z. refl) (λ z. refl))

pub vibrato_moved : (maps : Maps) (h : Held) (look other : LookUps) (d e : ℕ) (v : Voice) → IsSpeedFor look other d e →
    vibrato other e (put maps h v) ≡ put maps h (vibrato look d v)
unfolding vibrato
vibrato_moved maps h look other d e v s = rw (slide_same look other d e v.last_note s) (rw s.row refl)

-- ---- the commands that rows and the wave table share

-- the filter's program stops, or stays
filter_stopped : (maps : Maps) (d p : ℕ) → maps.row Filter 0 ≡ 0 →
    (if d == 0 then 0 else maps.row Filter p) ≡ maps.row Filter (if d == 0 then 0 else p)
filter_stopped maps d p nothing =
    same_choice (maps.row Filter) (d == 0) 0 p 0 (maps.row Filter p) (λ z. rw nothing refl) (λ z. refl)

commands_moved : (maps : Maps) (h : Held) (c d e : ℕ) (s : Playing) → maps.row Filter 0 ≡ 0 →
    e ≡ moved_pointer maps (command_table c) d →
    PlayingMoved maps h (do_command c d s) (do_command c e (put_playing maps h s))
unfolding do_command
commands_moved maps h c d e s nothing is =
    both R (c == 5) _ _ _ _ (λ z. record { is = rw (by_command 5 (eqb-true c 5 z)) refl })
    (λ z. both R (c == 6) _ _ _ _ (λ z. record { is = rw (by_command 6 (eqb-true c 6 z)) refl })
    (λ z. both R (c == 7) _ _ _ _ (λ z. record { is = rw (by_command 7 (eqb-true c 7 z)) refl })
    (λ z. both R (c == 9) _ _ _ _ (λ z. record { is = rw (by_command 9 (eqb-true c 9 z)) refl })
    (λ z. both R (c == 0xA) _ _ _ _ (λ z. record { is = rw (by_command 0xA (eqb-true c 0xA z)) refl })
    (λ z. both R (c == 0xB) _ _ _ _ (λ z. record {
      is = rw (by_command 0xB (eqb-true c 0xB z)) (rw (filter_stopped maps d s.common.filter_ptr nothing) refl);
    })
    (λ z. both R (c == 0xC) _ _ _ _ (λ z. record { is = rw (by_command 0xC (eqb-true c 0xC z)) refl })
    (λ z. both R (c == 0xD) _ _ _ _ (λ z. record { is = rw (by_command 0xD (eqb-true c 0xD z)) refl })
    (λ z. record { is = refl }))))))))
  where
    R : Playing → Playing → Type 0
    R = PlayingMoved maps h

    by_command : (n : ℕ) → c ≡ n → e ≡ moved_pointer maps (command_table n) d
    by_command n is_n = rw is_n at is

pub command_moved : (maps : Maps) (h : Held) (c d e : ℕ) (s : Playing) → maps.row Filter 0 ≡ 0 →
    e ≡ moved_pointer maps (command_table c) d →
    do_command c e (put_playing maps h s) ≡ put_playing maps h (do_command c d s)
command_moved maps h c d e s nothing is = (commands_moved maps h c d e s nothing is).is
