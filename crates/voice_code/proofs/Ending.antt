-- What a voice's step has left when its registers are written, and what is left behind that.
use Rattle.std.proofs.Common.{◌≡◌, ℕ, ◌+◌, ◌*◌, ◌<◌, ◌≤◌, ◌⊎◌, true, List, inl, inr}
use Rattle.std.proofs.Common.{refl, ◌∙◌, arith}
use Rattle.song_model.specs.declared.orders.Order.{Order}
use Rattle.play_model.specs.LookUps.{LookUps}
use Rattle.play_model.specs.State.{Playing}
use Rattle.play_model.specs.Frame.{voice_registers}
use Rattle.scopes.specs.Desk.{Desk, Layout}
use Rattle.scopes.specs.Meaning.{Ran, each_one, ran}
use Rattle.player_memory.specs.declared.labels.TheConstants.{LENT, SLIDES_LOW, SLIDES_HIGH}
use Rattle.player_memory.specs.declared.labels.TheConstants.{REST, OFFSET, PATTERN_LOW, PATTERN_HIGH, ORDER_LOW}
use Rattle.player_memory.specs.declared.labels.TheConstants.{ORDER_HIGH, ORDER_PLACE, TRANSPOSE, REPEAT}
use Rattle.player_memory.specs.declared.variables.TheConstants.{SONG_BYTES}
use Rattle.player_memory.specs.Labels.{is_own}
use Rattle.player_memory.specs.Rooms.{IsRoom, MayUse}
use Rattle.player_memory.specs.Playing.{own_at, IsPlaying, IsAtVoice, AreSame, OthersStay}
use Rattle.player_desk.proofs.Laws.{SameVariables, playing_stays, own_below}
use Rattle.player_memory.specs.Fetching.{IsInSong}
use Rattle.register_code.specs.RegisterBlock.{register_tree, registers_of, Sounds}
use Rattle.register_code.proofs.Laws.{register_block_writes}
use Rattle.voice_code.specs.VoiceBlock.{VoicePlays}
use Rattle.voice_code.proofs.Stages.{NoneLent, PlainSlidesStay}
use Rattle.voice_code.proofs.SongLists.{in_song_stays}

-- before the registers: the voice is in this state and in its song, and all else is left
pub record Played (layout : Layout) (rows voice label : ℕ) (look : LookUps) (packed : ℕ → List ℕ) (order : Order)
    (before after : Desk) (s : Playing) : Type 0 where
  pub at_voice : IsAtVoice voice after
  pub plays : IsPlaying layout voice s after.at
  pub song : IsInSong layout label look packed order s.voice (own_at layout after.at voice)
  pub none : NoneLent layout after
  pub stays : OthersStay layout rows voice before.at after.at
  pub slides : PlainSlidesStay layout rows look after.at before.at

-- ---- memories that differ from $D000 on alone

abbrev SameBelow : (ℕ → ℕ) → (ℕ → ℕ) → Type 0
SameBelow one two = (place : ℕ) → place < 0xD000 → two place ≡ one place

variables_same : (layout : Layout) (rows : ℕ) (one two : ℕ → ℕ) → IsRoom layout rows → SameBelow one two →
    SameVariables layout one two
variables_same layout rows one two room same label few =
    same (layout.address label) (room.variables.to label few)

song_same : (layout : Layout) (one two : ℕ → ℕ) (voice : ℕ) → SameVariables layout one two → voice < 3 →
    AreSame SONG_BYTES (own_at layout two voice) (own_at layout one voice)
song_same layout one two voice same few = (
  byte REST refl,
  (
    byte OFFSET refl,
    (
      byte PATTERN_LOW refl,
      (
        byte PATTERN_HIGH refl,
        (
          byte ORDER_LOW refl,
          (byte ORDER_HIGH refl, (byte ORDER_PLACE refl, (byte TRANSPOSE refl, (byte REPEAT refl, tt)))),
        ),
      ),
    ),
  ),
)
  where
    byte : (label : ℕ) → is_own label ≡ true → own_at layout two voice label ≡ own_at layout one voice label
    byte label is = same (label + 7 * voice) (own_below label voice is few)

-- ---- the registers are written

slide_same : (layout : Layout) (rows row : ℕ) (one two : ℕ → ℕ) (label : ℕ) → SameBelow one two →
    layout.address label + rows ≤ 0xD000 → row < rows →
    two (layout.address label + row) ≡ one (layout.address label + row)
slide_same layout rows row one two label same to few = same (layout.address label + row) (omega (arith, to, few))

pub written : (layout : Layout) (rows voice label : ℕ) (look : LookUps) (packed : ℕ → List ℕ) (order : Order)
    (before mid : Desk) (s : Playing) → IsRoom layout rows → MayUse layout rows → voice < 3 →
    Played layout rows voice label look packed order before mid s →
    VoicePlays layout rows voice label look packed order before (ran each_one layout register_tree mid) s
written layout rows voice label look packed order before mid s room uses voices played = record {
  ends = does.ends;
  at_voice = does.at_voice;
  plays = playing_stays layout mid.at run.desk.at voice s variables voices played.plays;
  song = in_song_stays layout label look packed order s.voice s.voice (own_at layout mid.at voice)
      (own_at layout run.desk.at voice) refl (song_same layout mid.at run.desk.at voice variables voices)
      played.song;
  none_lent = variables LENT (omega arith) ∙ played.none;
  sounds = does.sounds;
  others = λ its other few apart is not_tempo.
      variables (other + 7 * its) (own_below other its is few) ∙ played.stays.others its other few apart is not_tempo;
  registers = λ register few apart.
      does.leaves (0xD400 + register) (outside register apart) ∙ played.stays.registers register few;
  slides = λ kept row few plain.
      let lists = room.slides kept in
      let old = played.slides kept row few plain in record {
        low = slide_same layout rows row mid.at run.desk.at SLIDES_LOW below lists.low.to few ∙ old.low;
        high = slide_same layout rows row mid.at run.desk.at SLIDES_HIGH below lists.high.to few ∙ old.high;
      };
  elsewhere = λ place away.
      let apart = away.registers in
      let three = voices in
      does.leaves place (by_side place three apart) ∙ played.stays.elsewhere place away;
}
  where
    run : Ran
    run = ran each_one layout register_tree mid

    does : Sounds voice mid run (voice_registers s.voice)
    does =
        register_block_writes layout rows voice s mid room uses voices played.at_voice played.plays

    below : SameBelow mid.at run.desk.at
    below place small = does.leaves place (inl (omega (arith, small)))

    variables : SameVariables layout mid.at run.desk.at
    variables = variables_same layout rows mid.at run.desk.at room below

    outside : (register : ℕ) → (register < 7 * voice) ⊎ (7 * voice + 7 ≤ register) →
        (0xD400 + register < registers_of voice) ⊎ (registers_of voice + 7 ≤ 0xD400 + register)
    outside register (inl low) = inl (omega (arith, low))
    outside register (inr high) = inr (omega (arith, high))

    by_side : (place : ℕ) → voice < 3 → (place < 0xD400) ⊎ (0xD419 ≤ place) →
        (place < registers_of voice) ⊎ (registers_of voice + 7 ≤ place)
    by_side place three (inl low) = inl (omega (arith, low))
    by_side place three (inr high) = inr (omega (arith, high, three))
