-- The code of the wave step in memory.
use Rattle.std.proofs.Common.{◌≡◌, ◌≢◌, ℕ, ◌+◌, ◌%◌, ◌<◌, ◌≤◌, Bool, true, false}
use Rattle.std.proofs.Common.{nat_eq, refl, sym, ap, ◌∙◌, subst}
use Rattle.std.proofs.Common.{arith}
use Rattle.std.proofs.lemmas.Bool.{both_ways}
use Rattle.song_model.specs.declared.tables.TableName.TheVariants.{Wave}
use Rattle.play_model.specs.LookUps.{LookUps}
use Rattle.play_model.specs.State.{Playing}
use Rattle.play_model.specs.WaveStep.{wave_step, is_wave_command}
use Rattle.scopes.specs.Desk.{Desk, Layout}
use Rattle.scopes.specs.Meaning.{Outcome, Done, Left, each_one, ran}
use Rattle.player_memory.specs.declared.labels.TheConstants.{WAVE_LEFTS, NEXT_WAVE_LEFTS, WAVE_RIGHTS, NEXT_WAVE_RIGHTS}
use Rattle.player_memory.specs.Rooms.{IsRoom, MayUse}
use Rattle.player_memory.specs.Playing.{place_in, IsAtVoice, Plays}
use Rattle.player_text.specs.declared.joints.TheConstants.{PITCHED, COMMANDED}
use Rattle.player_desk.proofs.Laws.{VoiceDesk, Reader, Lent, Leads, leaves, leads_on, Reads}
use Rattle.player_desk.proofs.Laws.{ends, ends_still}
use Rattle.player_desk.proofs.Laws.{leaves_still, plays_so, reader_of, voice_desk, lent_of, finds, begins}
use Rattle.player_desk.proofs.VoiceDesks.{Either}
use Rattle.wave_code.specs.WaveBlock.{wave_tree, its_row, begun, way_of, state_of}
use Rattle.player_memory.specs.Forms.{stored_left, stored_right}
use Rattle.wave_code.specs.WaveBlock.{HasWaveTable, HasNote, Waves, WaveBlockSteps}
use Rattle.player_memory.specs.Playing.{there}
use Rattle.wave_code.proofs.WaveGrounds.{RowAt, NextAt, WaveGround, AtEnd, AtPitch, AtCommand, wave_ways}
use Rattle.wave_code.proofs.Waves.{wave_leads}

-- ---- the three ways

-- outcomes by numbers
abbrev number_of : Outcome → ℕ
number_of (Left name) = name + 1
number_of outcome = 0

way_end : (look : LookUps) (s : Playing) → (wave_step look s).effect ≡ true → way_of look s ≡ Done
way_end look s e = rw e refl

way_command : (look : LookUps) (s : Playing) → (wave_step look s).effect ≡ false →
    is_wave_command (its_row look s.voice) ≡ true → way_of look s ≡ Left COMMANDED
way_command look s e f = rw (e, f) refl

way_pitch : (look : LookUps) (s : Playing) → (wave_step look s).effect ≡ false →
    is_wave_command (its_row look s.voice) ≡ false → way_of look s ≡ Left PITCHED
way_pitch look s e f = rw (e, f) refl

state_end : (look : LookUps) (s : Playing) → (wave_step look s).effect ≡ true →
    state_of look s ≡ (wave_step look s).playing
state_end look s e = rw e refl

state_begun : (look : LookUps) (s : Playing) → (wave_step look s).effect ≡ false → state_of look s ≡ begun look s
state_begun look s e = rw e refl

ways_end : (layout : Layout) (rows voice : ℕ) (look : LookUps) (s : Playing) (desk : Desk) → IsRoom layout rows →
    MayUse layout rows → voice < 3 → IsAtVoice voice desk →
    Leads (reader_of layout rows voice desk) wave_tree
    (wave_ways (reader_of layout rows voice desk) look s (lent_of layout desk) (voice_desk layout voice desk))
    (voice_desk layout voice desk) →
    (wave_step look s).effect ≡ true → Waves layout rows voice desk (ran each_one layout wave_tree desk) look s
ways_end layout rows voice look s desk room uses few at leads runs =
    let Q = AtEnd r look s handed d in
    let went = ends_still layout rows voice wave_tree desk Q refl room uses few at
    (leads_on true r wave_tree (wave_ways r look s handed d) (ends Q) d
    (record {
      done = λ m q. q;
      left = λ name m q. none (nat_eq name PITCHED) (nat_eq name COMMANDED) m q;
      again = λ m q. q;
    }) leads) in
    let plays = plays_so layout rows voice desk Q (there (ran each_one layout wave_tree desk))
    (wave_step look s).playing went.came (λ m q. q.done) in
    record {
      way = went.way ∙ sym (way_end look s runs);
      plays = subst (Plays layout rows voice desk (there (ran each_one layout wave_tree desk)))
          (sym (state_end look s runs)) plays;
      note = λ e. (let n = ap number_of (sym (way_end look s runs) ∙ e) in absurd (omega (arith, n)));
      command = λ e. (let n = ap number_of (sym (way_end look s runs) ∙ e) in absurd (omega (arith, n)));
    }
  where
    r : Reader
    r = reader_of layout rows voice desk

    d : VoiceDesk
    d = voice_desk layout voice desk

    handed : Lent
    handed = lent_of layout desk

    none : (x y : Bool) (m : VoiceDesk) →
        Either x (AtPitch r look s handed d m) (Either y (AtCommand r look s handed d m) ⊥) → ⊥
    none true y m q = both_ways (wave_step look s).effect q.rests runs
    none false true m q = both_ways (wave_step look s).effect q.rests runs
    none false false m q = q

ways_pitch : (layout : Layout) (rows voice : ℕ) (look : LookUps) (s : Playing) (desk : Desk) → IsRoom layout rows →
    MayUse layout rows → voice < 3 → IsAtVoice voice desk →
    Leads (reader_of layout rows voice desk) wave_tree
    (wave_ways (reader_of layout rows voice desk) look s (lent_of layout desk) (voice_desk layout voice desk))
    (voice_desk layout voice desk) →
    (wave_step look s).effect ≡ false → is_wave_command (its_row look s.voice) ≡ false →
    Waves layout rows voice desk (ran each_one layout wave_tree desk) look s
ways_pitch layout rows voice look s desk room uses few at leads rests note_row =
    let Q = AtPitch r look s handed d in
    let went = leaves_still PITCHED layout rows voice wave_tree desk Q refl room uses few at
    (leads_on true r wave_tree (wave_ways r look s handed d) (leaves PITCHED Q) d
    (record {
      done = λ m q. both_ways (wave_step look s).effect rests q.runs;
      left = λ name m q. on (nat_eq name PITCHED) (nat_eq name COMMANDED) m q;
      again = λ m q. q;
    }) leads) in
    let plays = plays_so layout rows voice desk Q (there (ran each_one layout wave_tree desk))
    (begun look s) went.came (λ m q. q.done) in
    record {
      way = went.way ∙ sym (way_pitch look s rests note_row);
      plays = subst (Plays layout rows voice desk (there (ran each_one layout wave_tree desk)))
          (sym (state_begun look s rests)) plays;
      note = λ e. subst (HasNote look s) (sym went.came.shows.a) went.came.holds.1.note;
      command = λ e. (let n = ap number_of (sym (way_pitch look s rests note_row) ∙ e) in absurd (omega (arith, n)));
    }
  where
    r : Reader
    r = reader_of layout rows voice desk

    d : VoiceDesk
    d = voice_desk layout voice desk

    handed : Lent
    handed = lent_of layout desk

    on : (x y : Bool) (m : VoiceDesk) →
        Either x (AtPitch r look s handed d m) (Either y (AtCommand r look s handed d m) ⊥) →
        Either x (AtPitch r look s handed d m) ⊥
    on true y m q = q
    on false true m q = both_ways (is_wave_command (its_row look s.voice)) note_row q.is
    on false false m q = q

ways_command : (layout : Layout) (rows voice : ℕ) (look : LookUps) (s : Playing) (desk : Desk) → IsRoom layout rows →
    MayUse layout rows → voice < 3 → IsAtVoice voice desk →
    Leads (reader_of layout rows voice desk) wave_tree
    (wave_ways (reader_of layout rows voice desk) look s (lent_of layout desk) (voice_desk layout voice desk))
    (voice_desk layout voice desk) →
    (wave_step look s).effect ≡ false → is_wave_command (its_row look s.voice) ≡ true →
    Waves layout rows voice desk (ran each_one layout wave_tree desk) look s
ways_command layout rows voice look s desk room uses few at leads rests is =
    let Q = AtCommand r look s handed d in
    let went = leaves_still COMMANDED layout rows voice wave_tree desk Q refl room uses few at
    (leads_on true r wave_tree (wave_ways r look s handed d) (leaves COMMANDED Q) d
    (record {
      done = λ m q. both_ways (wave_step look s).effect rests q.runs;
      left = λ name m q. on (nat_eq name PITCHED) (nat_eq name COMMANDED) m q;
      again = λ m q. q;
    }) leads) in
    let plays = plays_so layout rows voice desk Q (there (ran each_one layout wave_tree desk))
    (begun look s) went.came (λ m q. q.done) in
    record {
      way = went.way ∙ sym (way_command look s rests is);
      plays = subst (Plays layout rows voice desk (there (ran each_one layout wave_tree desk)))
          (sym (state_begun look s rests)) plays;
      note = λ e. (let n = ap number_of (sym (way_command look s rests is) ∙ e) in absurd (omega (arith, n)));
      command = λ e. record {
        left = went.came.shows.a ∙ went.came.holds.1.command.left;
        row = went.came.shows.y ∙ went.came.holds.1.command.row;
      };
    }
  where
    r : Reader
    r = reader_of layout rows voice desk

    d : VoiceDesk
    d = voice_desk layout voice desk

    handed : Lent
    handed = lent_of layout desk

    on : (x y : Bool) (m : VoiceDesk) →
        Either x (AtPitch r look s handed d m) (Either y (AtCommand r look s handed d m) ⊥) →
        Either y (AtCommand r look s handed d m) ⊥
    on true y m q = absurd (both_ways (is_wave_command (its_row look s.voice)) q.none is)
    on false true m q = q
    on false false m q = q

-- ---- the lists

row_at : (layout : Layout) (rows voice count : ℕ) (look : LookUps) (desk : Desk) (p : ℕ) →
    HasWaveTable layout rows desk.at look count → p ≢ 0 → p ≤ count → RowAt (reader_of layout rows voice desk) look p
row_at layout rows voice count look desk p has some few =
    let row = has.table.each p (omega (arith, some)) few in record {
      left = finds layout rows voice desk WAVE_LEFTS p _ row.left;
      right = finds layout rows voice desk WAVE_RIGHTS p _ row.right;
      left_byte = row.left_byte;
      right_byte = has.bytes p (omega (arith, some)) few;
    }

next_place : (layout : Layout) (next label p : ℕ) → layout.address next ≡ layout.address label + 1 →
    place_in layout label (p + 1) ≡ place_in layout next p
next_place layout next label p e = rw e (ap (λ n. n % 65536) (omega arith))

next_at : (layout : Layout) (rows voice count : ℕ) (look : LookUps) (desk : Desk) (p : ℕ) →
    HasWaveTable layout rows desk.at look count → p < count → NextAt (reader_of layout rows voice desk) look p
next_at layout rows voice count look desk p has few =
    let row = has.table.each (p + 1) (omega arith) (omega (arith, few)) in record {
      left = subst (λ place. Reads (reader_of layout rows voice desk) place (stored_left (look.row Wave (p + 1)).left))
          (next_place layout NEXT_WAVE_LEFTS WAVE_LEFTS p has.next_left)
          (finds layout rows voice desk WAVE_LEFTS (p + 1) _ row.left);
      right = subst (λ place. Reads (reader_of layout rows voice desk) place (stored_right (look.row Wave (p + 1))))
          (next_place layout NEXT_WAVE_RIGHTS WAVE_RIGHTS p has.next_right)
          (finds layout rows voice desk WAVE_RIGHTS (p + 1) _ row.right);
      left_byte = row.left_byte;
    }

-- ---- the clause

pub wave_block_steps : WaveBlockSteps
wave_block_steps layout rows voice count look s desk room uses has few at playing on keeps =
    whichever (wave_step look s).effect (is_wave_command (its_row look s.voice)) refl refl
  where
    r : Reader
    r = reader_of layout rows voice desk

    d : VoiceDesk
    d = voice_desk layout voice desk

    ground : WaveGround r look s.voice.wave_ptr s.voice.wave_time
    ground = record {
      row = λ some.
          row_at layout rows voice count look desk s.voice.wave_ptr has some
          (let l = on.next some in omega (arith, l));
      next = λ some. next_at layout rows voice count look desk s.voice.wave_ptr has (on.next some);
      no_jump = on.no_jump;
      delay = on.delay;
      fresh = on.time;
    }

    leads : Leads r wave_tree (wave_ways r look s (lent_of layout desk) d) d
    leads = wave_leads r look s (lent_of layout desk) d d ground keeps (begins layout voice desk s playing)

    whichever : (x y : Bool) → (wave_step look s).effect ≡ x → is_wave_command (its_row look s.voice) ≡ y →
        Waves layout rows voice desk (ran each_one layout wave_tree desk) look s
    whichever true y e f = ways_end layout rows voice look s desk room uses few at leads e
    whichever false true e f = ways_command layout rows voice look s desk room uses few at leads e f
    whichever false false e f = ways_pitch layout rows voice look s desk room uses few at leads e f
