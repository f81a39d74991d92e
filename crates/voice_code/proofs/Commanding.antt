-- A command of the wave table, done once or lent; and the whole way from the tick step to the effect's end.
use Rattle.std.proofs.Common.{◌≡◌, ◌≢◌, ℕ, ◌≤◌, Bool, true, false, nat_le, inl, inr, refl, sym}
use Rattle.std.proofs.Common.{◌∙◌, subst, arith}
use Rattle.std.proofs.lemmas.Bool.{le-leb, cases_lt}
use Rattle.song_model.specs.declared.tables.TableRow.{TableRow}
use Rattle.play_model.specs.declared.options.Options.{Options}
use Rattle.play_model.specs.LookUps.{LookUps}
use Rattle.play_model.specs.State.{Playing}
use Rattle.play_model.specs.WaveStep.{is_wave_command, wave_command, wave_step}
use Rattle.play_model.specs.Frame.{effect_done as effect_rule}
use Rattle.scopes.specs.Desk.{Desk, Layout}
use Rattle.scopes.specs.Meaning.{Done, Left, Ran, each_one, ran}
use Rattle.player_memory.specs.declared.labels.TheConstants.{WAVE_RIGHTS}
use Rattle.player_memory.specs.Playing.{IsListed, with_voice, there}
use Rattle.player_text.specs.declared.joints.TheConstants.{EFFECTED, PITCHED, RUNNING, COMMANDED}
use Rattle.pitch_code.specs.PitchBlock.{pitch_tree}
use Rattle.wave_code.specs.WaveBlock.{wave_tree, HasWaveTable, IsOnWave, its_row, begun, way_of, state_of, Waves}
use Rattle.wave_code.specs.WaveBlock.{HasCommand}
use Rattle.player_memory.specs.Forms.{stored_right}
use Rattle.wave_code.specs.EffectBlock.{effect_begun_tree}
use Rattle.wave_code.specs.CommandBlock.{command_row_tree, lent_out, IsAtCommand, IsOnce, Commands, Lends}
use Rattle.wave_code.proofs.Laws.{wave_block_steps, command_block_does, command_block_lends}
use Rattle.slide_code.specs.SlideBlock.{slide_tree, moved_by}
use Rattle.slide_code.proofs.Laws.{commands_move, lent_keep}
use Rattle.voice_code.specs.VoiceBlock.{Counts, its_command, its_param, MeetsCommand, WaveIsReady}
use Rattle.voice_code.proofs.Joining.{Comes, here}
use Rattle.voice_code.proofs.Ways.{command_leaves, effect_over}
use Rattle.voice_code.proofs.Stages.{Stage, NoneLent, stage_of, stage_then, none_stays, plain_of}
use Rattle.voice_code.proofs.Rules.{IsCommand, is_command, effect_rests}
use Rattle.voice_code.proofs.Effects.{Ground, moves}
use Rattle.voice_code.proofs.Waving.{Tables, tables_stay, Scene, runs_tree, AsItIs, WithLent, Effected, noted, effected}

-- ---- where the command stands

right_is : (row : TableRow) → 0xF0 ≤ row.left → stored_right row ≡ row.right
right_is row from = (let command : nat_le 0xF0 row.left ≡ true = le-leb 0xF0 row.left from in rw command refl)

-- the row's parameter is listed
listed : (layout : Layout) (rows : ℕ) (look : LookUps) (counts : Counts) (s : Playing) (at : ℕ → ℕ) →
    HasWaveTable layout rows at look counts.waves → IsOnWave look counts.waves s.voice → IsCommand look s →
    IsListed layout rows at WAVE_RIGHTS s.voice.wave_ptr (its_param look s.voice)
listed layout rows look counts s at has on is =
    let below = on.next is.some in
    let some = is.some in
    subst (IsListed layout rows at WAVE_RIGHTS s.voice.wave_ptr) (right_is (its_row look s.voice) is.from)
    (has.table.each s.voice.wave_ptr (omega (arith, some)) (omega (arith, below))).right

at_command : (layout : Layout) (rows : ℕ) (look : LookUps) (counts : Counts) (s : Playing) (mid : Desk) →
    HasWaveTable layout rows mid.at look counts.waves → IsOnWave look counts.waves s.voice → IsCommand look s →
    HasCommand look s mid.cpu.a mid.cpu.y → NoneLent layout mid →
    IsAtCommand layout rows mid s.voice.wave_ptr (its_command look s.voice) (its_param look s.voice)
at_command layout rows look counts s mid has on is command none =
    let from = is.from in
    let to = is.to in
    let below = on.next is.some in
    let some = is.some in record {
      a = command.left ∙ omega (arith, from);
      y = command.row;
      few = omega (arith, from, to);
      listed = listed layout rows look counts s mid.at has on is;
      byte = has.bytes s.voice.wave_ptr (omega (arith, some)) (omega (arith, below));
      lent = none;
    }

-- ---- it is done

once : (layout : Layout) (rows voice : ℕ) (look : LookUps) (desk mid : Desk) (b : Playing) (number c d : ℕ)
    (t : Playing) → Ground layout rows voice → Comes layout wave_tree desk (Left COMMANDED) mid →
    Stage layout rows voice look desk mid b → NoneLent layout mid →
    Commands layout rows voice mid (ran each_one layout command_row_tree mid) (wave_command look c d b) →
    t ≡ wave_command look c d b → Effected layout rows voice look desk t
once layout rows voice look desk mid b number c d t ground comes stage none does is =
    let run = ran each_one layout command_row_tree mid in
    let final = stage_then layout rows voice look desk mid run.desk b _ stage
    (stage_of layout rows voice look mid (there run) _ does.plays) in record {
      after = run.desk;
      comes = effect_over layout runs_tree slide_tree pitch_tree desk run.desk
          (command_leaves layout wave_tree effect_begun_tree command_row_tree desk mid EFFECTED run.desk comes
          (here layout command_row_tree mid (Left EFFECTED) does.way));
      is_left = AsItIs (subst (Stage layout rows voice look desk run.desk) (sym is) final)
          (none_stays layout rows voice mid (there run) _ does.plays.but_slides none);
    }

-- it is lent, and moves the frequency
lent_stage : (layout : Layout) (rows voice : ℕ) (look : LookUps) (mid : Desk) (run : Ran) (c d : ℕ) (b : Playing) →
    Lends layout rows voice mid run c d b → Stage layout rows voice look mid run.desk (lent_out c d b)
lent_stage layout rows voice look mid run c d b lends = record {
  at_voice = lends.at_voice;
  plays = lends.plays;
  song = lends.song;
  stays = lends.stays;
  slides = plain_of layout rows look mid.at run.desk.at lends.slides;
}

lent : (layout : Layout) (rows voice : ℕ) (look : LookUps) (counts : Counts) (desk mid : Desk) (s t : Playing) →
    Ground layout rows voice → Tables layout rows desk.at look counts → WaveIsReady layout look counts s →
    MeetsCommand look s → Comes layout wave_tree desk (Left COMMANDED) mid →
    Stage layout rows voice look desk mid (begun look s) → 1 ≤ its_command look s.voice →
    its_command look s.voice ≤ 4 →
    Lends layout rows voice mid (ran each_one layout command_row_tree mid) (its_command look s.voice)
    (its_param look s.voice) (begun look s) →
    t ≡ wave_command look (its_command look s.voice) (its_param look s.voice) (begun look s) → s.voice.wave_ptr ≢ 0 →
    is_wave_command (its_row look s.voice) ≡ true → Effected layout rows voice look desk t
lent layout rows voice look counts desk mid s t ground tables ready meets comes stage least most lends is some command =
    let c = its_command look s.voice in
    let d = its_param look s.voice in
    let b = begun look s in
    let run = ran each_one layout command_row_tree mid in
    let there_stage = stage_then layout rows voice look desk mid run.desk b (lent_out c d b) stage
    (lent_stage layout rows voice look mid run c d b lends) in
    let there_tables = tables_stay layout rows voice look counts desk run.desk (lent_out c d b) there_stage tables in
    let moved = moves layout rows voice look counts c (lent_out c d b) runs_tree desk run.desk ground
    (command_leaves layout wave_tree effect_begun_tree command_row_tree desk mid RUNNING run.desk comes
    (here layout command_row_tree mid (Left RUNNING) lends.way))
    (record {
      a = lends.a;
      least = least;
      most = most;
      its = inl refl;
      moved = ready.lent meets least most;
      at_voice = there_stage.at_voice;
      plays = there_stage.plays;
      tones = there_tables.tones;
      speeds = there_tables.speeds;
    }) in record {
      after = moved.after;
      comes = moved.comes;
      is_left = WithLent (with_voice (moved_by c look (lent_out c d b).voice) (lent_out c d b)) b.voice.command
          b.voice.param
          (stage_then layout rows voice look desk run.desk moved.after (lent_out c d b) _ there_stage moved.stage)
          (moved.one b.voice.command b.voice.param
          (record { lent = lends.lent; command_is = lends.kept_command; param_is = lends.kept_param }))
          (ready.keeps.command some command) (sym ((commands_move look).lent c d b least most) ∙ sym is);
    }

commanded : (layout : Layout) (rows voice : ℕ) (look : LookUps) (counts : Counts) (o : Options) (s : Playing)
    (desk mid : Desk) → Ground layout rows voice → Scene layout rows voice look counts o s desk →
    MeetsCommand look s → is_wave_command (its_row look s.voice) ≡ true →
    Comes layout wave_tree desk (Left COMMANDED) mid → Stage layout rows voice look desk mid (begun look s) →
    NoneLent layout mid → HasCommand look s mid.cpu.a mid.cpu.y →
    Effected layout rows voice look desk (effect_rule o look (wave_step look s))
commanded layout rows voice look counts o s desk mid ground scene meets command comes stage none has =
    elim (cases_lt (its_command look s.voice) 1) [
      | inl zero ↦ (let l = zero in done_once (inl (omega (arith, l))))
      | inr some ↦ elim (cases_lt (its_command look s.voice) 5) [
        | inl few ↦ (let l = few in lends some (omega (arith, l)))
        | inr more ↦ done_once (inr more)
      ]
    ]
  where
    is : IsCommand look s
    is = is_command look s meets

    rule : effect_rule o look (wave_step look s)
        ≡ wave_command look (its_command look s.voice) (its_param look s.voice) (begun look s)
    rule = effect_rests o look (wave_step look s) is.rests ∙ is.leaves

    tables : Tables layout rows mid.at look counts
    tables = tables_stay layout rows voice look counts desk mid (begun look s) stage scene.tables

    at_it : IsAtCommand layout rows mid s.voice.wave_ptr (its_command look s.voice) (its_param look s.voice)
    at_it = at_command layout rows look counts s mid tables.waves scene.wave.on is has none

    done_once : IsOnce (its_command look s.voice) →
        Effected layout rows voice look desk (effect_rule o look (wave_step look s))
    done_once which =
        once layout rows voice look desk mid (begun look s) s.voice.wave_ptr (its_command look s.voice)
        (its_param look s.voice) _ ground comes stage none
        (command_block_does layout rows voice s.voice.wave_ptr (its_command look s.voice) (its_param look s.voice) look
        (begun look s) mid ground.room ground.uses ground.few stage.at_voice stage.plays at_it which
        (scene.wave.once meets which)) rule

    lends : 1 ≤ its_command look s.voice → its_command look s.voice ≤ 4 →
        Effected layout rows voice look desk (effect_rule o look (wave_step look s))
    lends least most =
        lent layout rows voice look counts desk mid s _ ground scene.tables scene.wave meets comes stage least most
        (command_block_lends layout rows voice s.voice.wave_ptr (its_command look s.voice) (its_param look s.voice)
        (begun look s) mid ground.room ground.uses ground.few stage.at_voice stage.plays at_it least most
        (scene.wave.keeps.command is.some command)
        (lent_keep layout ground.common (scene.wave.keeps.command is.some command))) rule is.some command

-- ---- the wave step, and what follows it

pub waves : (layout : Layout) (rows voice : ℕ) (look : LookUps) (counts : Counts) (o : Options) (s : Playing)
    (desk : Desk) → Ground layout rows voice → Scene layout rows voice look counts o s desk →
    Effected layout rows voice look desk (effect_rule o look (wave_step look s))
waves layout rows voice look counts o s desk ground scene =
    by_way (wave_step look s).effect (is_wave_command (its_row look s.voice)) refl refl
  where
    run : Ran
    run = ran each_one layout wave_tree desk

    does : Waves layout rows voice desk run look s
    does =
        wave_block_steps layout rows voice counts.waves look s desk ground.room ground.uses scene.tables.waves ground.few
        scene.at_voice scene.plays scene.wave.on scene.wave.keeps

    stage : Stage layout rows voice look desk run.desk (state_of look s)
    stage = stage_of layout rows voice look desk (there run) _ does.plays

    none : NoneLent layout run.desk
    none = none_stays layout rows voice desk (there run) _ does.plays.but_slides scene.none

    behind : (t : Playing) → state_of look s ≡ t → Stage layout rows voice look desk run.desk t
    behind t is = subst (Stage layout rows voice look desk run.desk) is stage

    by_way : (effect command : Bool) → (wave_step look s).effect ≡ effect →
        is_wave_command (its_row look s.voice) ≡ command →
        Effected layout rows voice look desk (effect_rule o look (wave_step look s))
    by_way true command e c =
        effected layout rows voice look counts o desk run.desk (wave_step look s) ground scene.options scene.tables
        (scene.effect e) e (here layout wave_tree desk Done (does.way ∙ rw e refl))
        (behind (wave_step look s).playing (rw e refl)) none
    by_way false true e c =
        (let way : way_of look s ≡ Left COMMANDED = rw (e, c) refl in
        commanded layout rows voice look counts o s desk run.desk ground scene way c
        (here layout wave_tree desk (Left COMMANDED) (does.way ∙ way)) (behind (begun look s) (rw e refl)) none
        (does.command way))
    by_way false false e c =
        (let way : way_of look s ≡ Left PITCHED = rw (e, c) refl in
        noted layout rows voice counts.numbers look desk run.desk (begun look s) _ ground scene.tables.tones
        (rw (does.note way).number (scene.wave.number way))
        (here layout wave_tree desk (Left PITCHED) (does.way ∙ way)) (behind (begun look s) (rw e refl)) none
        (effect_rests o look (wave_step look s) e ∙ (does.note way).sets))
