-- What the blocks of a voice's step have left so far, one behind the other.
use Rattle.std.proofs.Common.{◌≡◌, ℕ, ◌<◌, true, List, [], ◌∷◌, refl, ◌∙◌, arith}
use Rattle.song_model.specs.declared.tables.TableName.TheVariants.{Speed}
use Rattle.play_model.specs.LookUps.{LookUps}
use Rattle.play_model.specs.State.{Playing}
use Rattle.scopes.specs.Desk.{Desk, Layout}
use Rattle.scopes.specs.Meaning.{Ran}
use Rattle.player_memory.specs.declared.conditions.TheConstants.{NOTE_DEPENDENT}
use Rattle.player_memory.specs.declared.labels.TheConstants.{LENT, KEPT_COMMAND, KEPT_PARAM}
use Rattle.player_memory.specs.declared.variables.TheConstants.{SONG_BYTES}
use Rattle.player_memory.specs.Playing.{own_at, shared_at, IsPlaying, IsAtVoice, AreSame, SlidesStay, OthersStay}
use Rattle.player_memory.specs.Playing.{AllSlidesStay, PlaysButSlides, Plays}
use Rattle.voice_code.proofs.Lists.{ListsStay}

-- ---- one memory behind another

pub others_then : (layout : Layout) (rows voice : ℕ) (one two three : ℕ → ℕ) → OthersStay layout rows voice one two →
    OthersStay layout rows voice two three → OthersStay layout rows voice one three
others_then layout rows voice one two three first second = record {
  others = λ its label few other is not_tempo.
      second.others its label few other is not_tempo ∙ first.others its label few other is not_tempo;
  registers = λ register few. second.registers register few ∙ first.registers register few;
  elsewhere = λ place away. second.elsewhere place away ∙ first.elsewhere place away;
}

same_then : (labels : List ℕ) (one two three : ℕ → ℕ) → AreSame labels two one → AreSame labels three two →
    AreSame labels three one
same_then [] one two three first second = tt
same_then (label ∷ labels) one two three first second =
    (second.0 ∙ first.0, same_then labels one two three first.1 second.1)

-- each byte is as it was
pub same_as : (labels : List ℕ) (one : ℕ → ℕ) → AreSame labels one one
same_as [] one = tt
same_as (label ∷ labels) one = (refl, same_as labels one)

-- the slides that aren't calculated are as before
abbrev pub PlainSlidesStay : Layout → ℕ → LookUps → (ℕ → ℕ) → (ℕ → ℕ) → Type 0
PlainSlidesStay layout rows look one two =
    layout.holds NOTE_DEPENDENT ≡ true → (row : ℕ) → row < rows → (look.row Speed row).left < 128 →
    SlidesStay layout row one two

pub plain_then : (layout : Layout) (rows : ℕ) (look : LookUps) (one two three : ℕ → ℕ) →
    PlainSlidesStay layout rows look two one → PlainSlidesStay layout rows look three two →
    PlainSlidesStay layout rows look three one
plain_then layout rows look one two three first second kept row few plain =
    let before = first kept row few plain in
    let behind = second kept row few plain in
    record { low = behind.low ∙ before.low; high = behind.high ∙ before.high }

pub plain_of : (layout : Layout) (rows : ℕ) (look : LookUps) (one two : ℕ → ℕ) → AllSlidesStay layout rows two one →
    PlainSlidesStay layout rows look two one
plain_of layout rows look one two all kept row few plain = all kept row few

-- ---- a stage

-- The blocks so far have left a voice in this state, from a desk before them. Where it is in its song they have left,
-- and the other voices, the registers, what is elsewhere, and the slides that aren't calculated.
pub record Stage (layout : Layout) (rows voice : ℕ) (look : LookUps) (before after : Desk) (s : Playing) : Type 0 where
  pub at_voice : IsAtVoice voice after
  pub plays : IsPlaying layout voice s after.at
  pub song : AreSame SONG_BYTES (own_at layout after.at voice) (own_at layout before.at voice)
  pub stays : OthersStay layout rows voice before.at after.at
  pub slides : PlainSlidesStay layout rows look after.at before.at

-- no command is lent, or this one is, and the voice has these own ones meanwhile
abbrev pub NoneLent : Layout → Desk → Type 0
NoneLent layout desk = shared_at layout desk.at LENT ≡ 0

pub record OneLent (layout : Layout) (desk : Desk) (command param : ℕ) : Type 0 where
  pub lent : shared_at layout desk.at LENT ≡ 1
  pub command_is : shared_at layout desk.at KEPT_COMMAND ≡ command
  pub param_is : shared_at layout desk.at KEPT_PARAM ≡ param

pub begins_at : (layout : Layout) (rows voice : ℕ) (look : LookUps) (desk : Desk) (s : Playing) →
    IsAtVoice voice desk → IsPlaying layout voice s desk.at → Stage layout rows voice look desk desk s
begins_at layout rows voice look desk s at plays = record {
  at_voice = at;
  plays = plays;
  song = same_as SONG_BYTES (own_at layout desk.at voice);
  stays = record {
    others = λ its label few other is not_tempo. refl;
    registers = λ register few. refl;
    elsewhere = λ place away. refl;
  };
  slides = λ kept row few plain. record { low = refl; high = refl };
}

-- one stage behind another
pub stage_then : (layout : Layout) (rows voice : ℕ) (look : LookUps) (one two three : Desk) (s t : Playing) →
    Stage layout rows voice look one two s → Stage layout rows voice look two three t →
    Stage layout rows voice look one three t
stage_then layout rows voice look one two three s t first second = record {
  at_voice = second.at_voice;
  plays = second.plays;
  song = same_then SONG_BYTES (own_at layout one.at voice) (own_at layout two.at voice) (own_at layout three.at voice)
      first.song second.song;
  stays = others_then layout rows voice one.at two.at three.at first.stays second.stays;
  slides = plain_then layout rows look one.at two.at three.at first.slides second.slides;
}

-- what a block leaves is a stage, and so is what one leaves that calculates slides
pub stage_of_most : (layout : Layout) (rows voice : ℕ) (look : LookUps) (before : Desk) (run : Ran) (t : Playing) →
    PlaysButSlides layout rows voice before run t → PlainSlidesStay layout rows look run.desk.at before.at →
    Stage layout rows voice look before run.desk t
stage_of_most layout rows voice look before run t plays slides = record {
  at_voice = plays.at_voice;
  plays = plays.plays;
  song = plays.song;
  stays = plays.stays;
  slides = slides;
}

pub stage_of : (layout : Layout) (rows voice : ℕ) (look : LookUps) (before : Desk) (run : Ran) (t : Playing) →
    Plays layout rows voice before run t → Stage layout rows voice look before run.desk t
stage_of layout rows voice look before run t plays =
    stage_of_most layout rows voice look before run t plays.but_slides
    (plain_of layout rows look before.at run.desk.at plays.slides)

-- they leave what is lent
pub none_stays : (layout : Layout) (rows voice : ℕ) (before : Desk) (run : Ran) (t : Playing) →
    PlaysButSlides layout rows voice before run t → NoneLent layout before → NoneLent layout run.desk
none_stays layout rows voice before run t plays none = plays.lent ∙ none

pub one_stays : (layout : Layout) (rows voice : ℕ) (before : Desk) (run : Ran) (t : Playing) (command param : ℕ) →
    PlaysButSlides layout rows voice before run t → OneLent layout before command param →
    OneLent layout run.desk command param
one_stays layout rows voice before run t command param plays one =
    let e = one.lent in
    let kept = plays.kept (λ none. omega (arith, e, none)) in record {
      lent = plays.lent ∙ one.lent;
      command_is = kept.0 ∙ one.command_is;
      param_is = kept.1.0 ∙ one.param_is;
    }

-- and the lists
pub lists_of : (layout : Layout) (rows voice : ℕ) (look : LookUps) (before after : Desk) (s : Playing) →
    Stage layout rows voice look before after s → ListsStay layout rows look before.at after.at
lists_of layout rows voice look before after s stage =
    record { elsewhere = λ place away reads. stage.stays.elsewhere place away; slides = stage.slides }
