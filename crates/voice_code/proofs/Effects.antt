-- An effect runs: the block that moves the frequency, and the note where it arrives.
use Rattle.std.proofs.Common.{◌≡◌, ℕ, ◌<◌, ◌≤◌, Bool, true, false, refl, sym, ◌∙◌, subst}
use Rattle.std.proofs.lemmas.Bool.{and_parts, eqb-true}
use Rattle.play_model.specs.LookUps.{LookUps}
use Rattle.play_model.specs.State.{Playing}
use Rattle.asked_numbers.specs.Range.{IsInRange}
use Rattle.scopes.specs.Desk.{Desk, Layout}
use Rattle.scopes.specs.Trees.{Tree, ScopeTree}
use Rattle.scopes.specs.Meaning.{Done, Left, Ran, each_one, ran}
use Rattle.player_memory.specs.Rooms.{IsRoom, MayUse}
use Rattle.player_memory.specs.Playing.{IsPlaying, IsAtVoice, with_voice, there}
use Rattle.player_text.specs.declared.joints.TheConstants.{EFFECTED, RUNNING}
use Rattle.slide_code.specs.SlideBlock.{slide_tree, moved_by, arrives, left_by, IsOf, HasHalfTones, HasSpeeds}
use Rattle.slide_code.specs.SlideBlock.{KeepsCommon, SetsNote, Slides}
use Rattle.slide_code.proofs.Laws.{slide_block_steps}
use Rattle.pitch_code.specs.PitchBlock.{pitch_tree}
use Rattle.pitch_code.proofs.Laws.{pitch_block_sets}
use Rattle.voice_code.specs.VoiceBlock.{Counts, IsMoved}
use Rattle.voice_code.proofs.Joining.{Comes, here}
use Rattle.voice_code.proofs.Ways.{effecting, effect_done, effect_arrived}
use Rattle.voice_code.proofs.Lists.{tones_stay}
use Rattle.voice_code.proofs.Stages.{Stage, NoneLent, OneLent, stage_of, stage_of_most, stage_then, none_stays, one_stays}
use Rattle.voice_code.proofs.Stages.{lists_of}

-- what the voice's code stands on, wherever it is
pub record Ground (layout : Layout) (rows voice : ℕ) : Type 0 where
  pub room : IsRoom layout rows
  pub uses : MayUse layout rows
  pub few : voice < 3
  pub common : KeepsCommon layout

-- the code has come to where the effect is done, with a voice in this state; and what was lent still is
pub record Moves (layout : Layout) (rows voice : ℕ) (look : LookUps) (runs : Tree) (desk mid : Desk) (s : Playing)
    : Type 0 where
  pub after : Desk
  pub comes : Comes layout (ScopeTree EFFECTED (effecting runs slide_tree pitch_tree)) desk Done after
  pub stage : Stage layout rows voice look mid after s
  pub none : NoneLent layout mid → NoneLent layout after
  pub one : (command param : ℕ) → OneLent layout mid command param → OneLent layout after command param

-- a command runs, and A is it
pub record Runs (layout : Layout) (rows voice : ℕ) (look : LookUps) (counts : Counts) (command : ℕ) (s : Playing)
    (mid : Desk) : Type 0 where
  pub a : mid.cpu.a ≡ command
  pub least : 1 ≤ command
  pub most : command ≤ 4
  pub its : IsOf command s.voice.command
  pub moved : IsMoved layout look counts command s.voice
  pub at_voice : IsAtVoice voice mid
  pub plays : IsPlaying layout voice s mid.at
  pub tones : HasHalfTones layout rows mid.at counts.numbers
  pub speeds : HasSpeeds layout rows mid.at look counts.speeds

slides : (layout : Layout) (rows voice : ℕ) (look : LookUps) (counts : Counts) (command : ℕ) (s : Playing)
    (mid : Desk) → Ground layout rows voice → Runs layout rows voice look counts command s mid →
    Slides layout rows voice mid (ran each_one layout slide_tree mid) command look s
slides layout rows voice look counts command s mid ground runs =
    slide_block_steps layout rows voice counts.speeds command counts.numbers look s mid ground.room ground.uses
    runs.tones runs.speeds
    ground.few runs.at_voice runs.plays (record {
      a = runs.a;
      least = runs.least;
      most = runs.most;
      its = runs.its;
      param = runs.moved.param;
      frequency = runs.moved.frequency;
      note = runs.moved.note;
    }) runs.moved.looks runs.moved.keeps ground.common

-- command 3 alone arrives at a note
arrives_by_three : (command : ℕ) (look : LookUps) (s : Playing) → arrives command look s.voice ≡ true → command ≡ 3
arrives_by_three command look s e = eqb-true command 3 (and_parts _ _ e).0

pub moves : (layout : Layout) (rows voice : ℕ) (look : LookUps) (counts : Counts) (command : ℕ) (s : Playing)
    (tree : Tree) (desk mid : Desk) → Ground layout rows voice → Comes layout tree desk (Left RUNNING) mid →
    Runs layout rows voice look counts command s mid →
    Moves layout rows voice look tree desk mid (with_voice (moved_by command look s.voice) s)
moves layout rows voice look counts command s tree desk mid ground comes runs =
    by_note (arrives command look s.voice) refl
  where
    run : Ran
    run = ran each_one layout slide_tree mid

    does : Slides layout rows voice mid run command look s
    does = slides layout rows voice look counts command s mid ground runs

    plain : Stage layout rows voice look mid run.desk (with_voice (left_by command look s.voice) s)
    plain = stage_of_most layout rows voice look mid (there run) _ does.plays does.slides

    by_note : (note : Bool) → arrives command look s.voice ≡ note →
        Moves layout rows voice look tree desk mid (with_voice (moved_by command look s.voice) s)
    by_note false e =
        let left : left_by command look s.voice ≡ moved_by command look s.voice = rw e refl in
        let way : run.outcome ≡ Left EFFECTED = does.way ∙ rw e refl in record {
          after = run.desk;
          comes = effect_done layout tree slide_tree pitch_tree desk mid run.desk comes
              (here layout slide_tree mid (Left EFFECTED) way);
          stage = subst (λ v. Stage layout rows voice look mid run.desk (with_voice v s)) left plain;
          none = none_stays layout rows voice mid (there run) _ does.plays;
          one = λ its param. one_stays layout rows voice mid (there run) _ its param does.plays;
        }
    by_note true e =
        let left : left_by command look s.voice ≡ s.voice = rw e refl in
        let way : run.outcome ≡ Done = does.way ∙ rw e refl in
        let set : SetsNote command look s.voice run.desk.cpu.a = does.note e in
        let there_stage : Stage layout rows voice look mid run.desk (with_voice s.voice s) =
        subst (λ v. Stage layout rows voice look mid run.desk (with_voice v s)) left plain in
        let inside : IsInRange counts.numbers run.desk.cpu.a =
        rw set.number (runs.moved.looks.target (arrives_by_three command look s e)) in
        let tones = tones_stay layout rows look mid.at run.desk.at counts.numbers
        (lists_of layout rows voice look mid run.desk _ there_stage) runs.tones in
        let note = pitch_block_sets layout rows voice counts.numbers s run.desk ground.room ground.uses
        tones.frequencies inside ground.few there_stage.at_voice there_stage.plays in
        let last = ran each_one layout pitch_tree run.desk in
        let final = stage_then layout rows voice look mid run.desk last.desk _ _ there_stage
        (stage_of layout rows voice look run.desk last _ note) in record {
          after = last.desk;
          comes = effect_arrived layout tree slide_tree pitch_tree desk mid run.desk last.desk comes
              (here layout slide_tree mid Done way) (here layout pitch_tree run.desk Done note.but_slides.ends);
          stage = subst (λ v. Stage layout rows voice look mid last.desk (with_voice v s)) (sym set.is) final;
          none = λ none.
              none_stays layout rows voice run.desk last _ note.but_slides
              (none_stays layout rows voice mid (there run) _ does.plays none);
          one = λ its param one.
              one_stays layout rows voice run.desk last _ its param note.but_slides
              (one_stays layout rows voice mid (there run) _ its param does.plays one);
        }
