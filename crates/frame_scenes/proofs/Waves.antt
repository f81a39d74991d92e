-- The wave step is ready.
use Rattle.std.proofs.Common.{◌≡◌, ◌≢◌, ℕ, ◌+◌, ◌%◌, ◌<◌, ◌≤◌, ◌&&◌, not, Bool, true, false, length, nat_eq, nat_lt}
use Rattle.std.proofs.Common.{if◌then◌else◌, inl, inr, refl, sym, ap, ◌∙◌, subst, arith}
use Rattle.std.proofs.lemmas.Bool.{and_parts, both_ways, eqb-false, eq-eqb, ne_eqb, leb-true}
use Rattle.song_model.specs.declared.features.Feature.TheVariants.{WaveTable, WaveCommand}
use Rattle.song_model.specs.declared.songs.Song.{Song}
use Rattle.song_model.specs.declared.tables.TableName.TheVariants.{Wave, Speed}
use Rattle.song_model.specs.declared.tables.TableRow.{TableRow}
use Rattle.song_facts.specs.declared.facts.Fact.TheVariants.{WaveDelay}
use Rattle.play_model.specs.declared.options.Options.{Options}
use Rattle.play_model.specs.LookUps.{LookUps}
use Rattle.play_model.specs.State.{FrameState, Playing}
use Rattle.play_model.specs.Reached.{IsStep, IsPointer}
use Rattle.play_model.specs.WaveStep.{wave_step, wave_note, is_wave_command}
use Rattle.play_model.specs.Uses.{GoesOn, HasWaveProgram, MeetsWaveCommand, DoesWave}
use Rattle.safe_states.proofs.Laws.{is_step}
use Rattle.asked_numbers.specs.Numbers.{IsAskedNumber}
use Rattle.kept_notes.specs.NoteLaws.{LooksUpAsked}
use Rattle.packed_form.specs.declared.packed_songs.PackedSong.{PackedSong}
use Rattle.packed_form.specs.Unpacked.{unpacked_song}
use Rattle.scopes.specs.Desk.{Layout}
use Rattle.scopes.specs.Meaning.{Done, Left}
use Rattle.player_memory.specs.Holds.{look_of}
use Rattle.player_text.specs.declared.joints.TheConstants.{COMMANDED, PITCHED}
use Rattle.wave_code.specs.WaveBlock.{IsOnWave, KeepsWave, its_row, begun}
use Rattle.wave_code.specs.CommandBlock.{lent_out}
use Rattle.slide_code.specs.SlideBlock.{IsNote}
use Rattle.voice_code.specs.VoiceBlock.{IsMoved, MeetsNumber, MeetsCommand, WaveIsReady, its_command, its_param}
use Rattle.frame_code.specs.FrameBlock.{counts_of}
use Rattle.frame_scenes.proofs.Turns.{AtTurn, IsFine, its_turn, in_turn, scene_facts}
use Rattle.frame_scenes.proofs.Programs.{next_stored, speed_stored, wave_points}
use Rattle.frame_scenes.proofs.LookedUp.{looks_up, asked_in, looks_within}
use Rattle.frame_scenes.proofs.Ticks.{once_kept}
use Rattle.frame_scenes.proofs.Moves.{note_sounds, slides_kept}

-- ---- the program

pub on_wave : (layout : Layout) (packed : PackedSong) (song : Song) (o : Options) (k voice : ℕ) (x : FrameState)
    (at : ℕ → ℕ) (s : Playing) → AtTurn layout packed song o k voice x at → IsFine packed k voice s →
    IsOnWave (look_of packed) (length packed.wave) s.voice
on_wave layout packed song o k voice x at s turn fine = record {
  next = λ some.
      next_stored (unpacked_song packed) Wave s.voice.wave_ptr turn.scene.stands.complete.playable (λ e. (cc))
      (step some) refl;
  no_jump = λ some. eqb-false _ 0xFF (step some).no_jump;
  delay = λ some. (fine.safe.voice.wave_time some).delay;
  time = λ some. (fine.safe.voice.wave_time some).other;
}
  where
    step : s.voice.wave_ptr ≢ 0 → IsStep (unpacked_song packed) Wave s.voice.wave_ptr
    step some = is_step (unpacked_song packed) Wave s.voice.wave_ptr fine.safe.voice.wave some

has_program : (packed : PackedSong) (o : Options) (k voice : ℕ) (x : FrameState) (s : Playing) →
    GoesOn (its_turn packed o k voice x) s → s.voice.wave_ptr ≢ 0 →
    HasWaveProgram (its_turn packed o k voice x) s.voice.wave_ptr
has_program packed o k voice x s goes some = record { s = s; goes_on = goes; ptr = refl; some = some }

meets_row : (packed : PackedSong) (o : Options) (k voice : ℕ) (x : FrameState) (s : Playing) →
    GoesOn (its_turn packed o k voice x) s → s.voice.wave_ptr ≢ 0 →
    is_wave_command (its_row (look_of packed) s.voice) ≡ true →
    MeetsWaveCommand (its_turn packed o k voice x) (its_row (look_of packed) s.voice)
meets_row packed o k voice x s goes some command = record {
  p = s.voice.wave_ptr;
  program = has_program packed o k voice x s goes some;
  row_is = refl;
  is_command = command;
}

wave_kept : (layout : Layout) (packed : PackedSong) (song : Song) (o : Options) (k voice : ℕ) (x : FrameState)
    (at : ℕ → ℕ) (s : Playing) → AtTurn layout packed song o k voice x at →
    GoesOn (its_turn packed o k voice x) s → IsFine packed k voice s → KeepsWave layout (look_of packed) s.voice
wave_kept layout packed song o k voice x at s turn goes fine = record {
  table = λ some.
      turn.scene.used WaveTable
      (in_turn packed o k voice x _ turn.few (s.voice.wave_ptr, has_program packed o k voice x s goes some));
  command = λ some command.
      turn.scene.used WaveCommand
      (in_turn packed o k voice x _ turn.few
      (its_row (look_of packed) s.voice, meets_row packed o k voice x s goes some command));
  delay = λ some low.
      (scene_facts turn) WaveDelay (record {
        p = s.voice.wave_ptr;
        reached = (is_step (unpacked_song packed) Wave s.voice.wave_ptr fine.safe.voice.wave some).reached;
        is_such = low;
      });
  shared = turn.scene.shared;
}

-- ---- a row that is a command

-- the program is on a row, which is one
pub record IsMet (look : LookUps) (s : Playing) : Type 0 where
  pub some : s.voice.wave_ptr ≢ 0
  pub command : is_wave_command (its_row look s.voice) ≡ true

chosen : (effect command : Bool) →
    (if effect then Done else if command then Left COMMANDED else Left PITCHED) ≡ Left COMMANDED → command ≡ true
chosen true command e = absurd (cc)
chosen false true e = refl
chosen false false e = let same : PITCHED ≡ COMMANDED = cc in absurd (omega (arith, same))

met : (look : LookUps) (s : Playing) → MeetsCommand look s → IsMet look s
unfolding wave_step
met look s meets = record {
  some = λ at_zero. absurd (stopped at_zero);
  command = chosen (wave_step look s).effect (is_wave_command (its_row look s.voice)) meets;
}
  where
    stopped : s.voice.wave_ptr ≡ 0 → ⊥
    stopped e = let way = rw e at meets in absurd (cc)

-- its command
record IsCommand (look : LookUps) (s : Playing) : Type 0 where
  is : (its_row look s.voice).left ≡ 0xF0 + its_command look s.voice

command_is : (look : LookUps) (s : Playing) → IsMet look s → IsCommand look s
command_is look s is =
    let from = leb-true 0xF0 (its_row look s.voice).left (and_parts _ _ is.command).0 in
    record { is = omega (arith, from) }

does_wave : (packed : PackedSong) (o : Options) (k voice : ℕ) (x : FrameState) (s : Playing) →
    GoesOn (its_turn packed o k voice x) s → IsMet (look_of packed) s →
    DoesWave (its_turn packed o k voice x) (its_command (look_of packed) s.voice) (its_param (look_of packed) s.voice)
does_wave packed o k voice x s goes is = record {
  row = its_row (look_of packed) s.voice;
  meets = meets_row packed o k voice x s goes is.some is.command;
  command_is = (command_is (look_of packed) s is).is;
  param_is = refl;
}

-- the program goes on in front of it, and nothing else
begun_frequency : (look : LookUps) (s : Playing) → IsMet look s →
    ((begun look s).voice.freq ≡ s.voice.freq) × ((begun look s).voice.note ≡ s.voice.note)
    × ((begun look s).voice.last_note ≡ s.voice.last_note)
begun_frequency look s is = let e = is.command in (rw e refl, rw e refl, rw e refl)

lent_moves : (layout : Layout) (packed : PackedSong) (song : Song) (o : Options) (k voice : ℕ) (x : FrameState)
    (at : ℕ → ℕ) (s : Playing) → AtTurn layout packed song o k voice x at →
    GoesOn (its_turn packed o k voice x) s → IsFine packed k voice s → IsMet (look_of packed) s →
    1 ≤ its_command (look_of packed) s.voice → its_command (look_of packed) s.voice ≤ 4 →
    IsMoved layout (look_of packed) (counts_of packed) (its_command (look_of packed) s.voice)
    (lent_out (its_command (look_of packed) s.voice) (its_param (look_of packed) s.voice)
    (begun (look_of packed) s)).voice
lent_moves layout packed song o k voice x at s turn goes fine is least most =
    let same = begun_frequency (look_of packed) s is in record {
      param = speed_stored packed song (its_param (look_of packed) s.voice) turn.scene.stands points;
      frequency = subst (λ n. n < 65536) (sym same.0) fine.range.voice.freq;
      note = subst (λ n. IsNote n) (sym same.1) (note_sounds s.voice.note fine.safe.voice.note);
      looks =
          looks_within packed song command
          (lent_out command (its_param (look_of packed) s.voice) (begun (look_of packed) s)).voice turn.scene.stands
          points
          (λ three.
          subst (λ n. IsAskedNumber (unpacked_song packed) (n % 128)) (sym same.1)
          (asked.wave_slide is.some (left is ∙ ap (λ n. 0xF0 + n) three)))
          (λ has. subst (IsAskedNumber (unpacked_song packed)) (sym same.2) (asked.half_tone_from has))
          (λ has.
          subst (λ n. IsAskedNumber (unpacked_song packed) (n + 1)) (sym same.2) (asked.half_tone_to has));
      keeps =
          slides_kept layout packed song o k voice x at command
          (lent_out command (its_param (look_of packed) s.voice) (begun (look_of packed) s)).voice turn least most
          (inl (does_wave packed o k voice x s goes is));
    }
  where
    command : ℕ
    command = its_command (look_of packed) s.voice

    left : IsMet (look_of packed) s → (its_row (look_of packed) s.voice).left ≡ 0xF0 + command
    left is = (command_is (look_of packed) s is).is

    points : its_param (look_of packed) s.voice ≢ 0 →
        IsPointer (unpacked_song packed) Speed (its_param (look_of packed) s.voice)
    points =
        wave_points (unpacked_song packed) s.voice.wave_ptr command
        (is_step (unpacked_song packed) Wave s.voice.wave_ptr fine.safe.voice.wave is.some).reached (left is) least most

    asked : LooksUpAsked (unpacked_song packed) s.voice
    asked = looks_up packed k voice s fine

-- ---- a row that sets a number

-- the program is on a row, which is no command, and keeps no number
record IsSet (look : LookUps) (s : Playing) : Type 0 where
  some : s.voice.wave_ptr ≢ 0
  plain : is_wave_command (its_row look s.voice) ≡ false
  sets : (its_row look s.voice).right ≢ 0x80

noted : (effect command : Bool) →
    (if effect then Done else if command then Left COMMANDED else Left PITCHED) ≡ Left PITCHED →
    (effect ≡ false) × (command ≡ false)
noted true command e = absurd (cc)
noted false true e = let same : COMMANDED ≡ PITCHED = cc in absurd (omega (arith, same))
noted false false e = (refl, refl)

-- of a row that keeps the number the effect runs
kept_runs : (look : LookUps) (s : Playing) → s.voice.wave_ptr ≢ 0 → is_wave_command (its_row look s.voice) ≡ false →
    (its_row look s.voice).right ≡ 0x80 → (wave_step look s).effect ≡ true
unfolding wave_step
kept_runs look s some plain kept = by_wait (nat_lt row.left 0x10 && not (nat_eq s.voice.wave_time row.left)) refl
  where
    row : TableRow
    row = its_row look s.voice

    on : nat_eq s.voice.wave_ptr 0 ≡ false
    on = ne_eqb s.voice.wave_ptr 0 some

    same : nat_eq row.right 0x80 ≡ true
    same = eq-eqb row.right 0x80 kept

    by_wait : (z : Bool) → (nat_lt row.left 0x10 && not (nat_eq s.voice.wave_time row.left)) ≡ z →
        (wave_step look s).effect ≡ true
    by_wait true e = rw (on, e) refl
    by_wait false e = rw (on, e, plain, same) refl

is_set : (look : LookUps) (s : Playing) → MeetsNumber look s → IsSet look s
unfolding wave_step
is_set look s meets = record {
  some = some;
  plain = both.1;
  sets = λ kept. both_ways (wave_step look s).effect both.0 (kept_runs look s some both.1 kept);
}
  where
    both : ((wave_step look s).effect ≡ false) × (is_wave_command (its_row look s.voice) ≡ false)
    both = noted (wave_step look s).effect (is_wave_command (its_row look s.voice)) meets

    some : s.voice.wave_ptr ≢ 0
    some at_zero = let way = rw at_zero at meets in absurd (cc)

-- ---- the step

pub wave_ready : (layout : Layout) (packed : PackedSong) (song : Song) (o : Options) (k voice : ℕ) (x : FrameState)
    (at : ℕ → ℕ) (s : Playing) → AtTurn layout packed song o k voice x at →
    GoesOn (its_turn packed o k voice x) s → IsFine packed k voice s →
    WaveIsReady layout (look_of packed) (counts_of packed) s
wave_ready layout packed song o k voice x at s turn goes fine = record {
  on = on_wave layout packed song o k voice x at s turn fine;
  keeps = keeps;
  number = λ meets.
      let is = is_set (look_of packed) s meets in
      asked_in packed song (wave_note (its_row (look_of packed) s.voice).right s.voice.note) turn.scene.stands
      ((looks_up packed k voice s fine).row is.some is.plain is.sets);
  once = λ meets once.
      let is = met (look_of packed) s meets in record {
        commands = keeps.command is.some is.command;
        lines =
            once_kept layout packed song o k voice x at turn (its_command (look_of packed) s.voice)
            (its_param (look_of packed) s.voice) (inr (does_wave packed o k voice x s goes is));
        shared = turn.scene.shared;
      };
  lent = λ meets least most.
      lent_moves layout packed song o k voice x at s turn goes fine (met (look_of packed) s meets) least most;
}
  where
    keeps : KeepsWave layout (look_of packed) s.voice
    keeps = wave_kept layout packed song o k voice x at s turn goes fine
