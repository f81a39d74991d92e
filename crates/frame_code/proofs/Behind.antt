-- Where a frame has come to behind its filter and so many of its voices, and how each part leads on.
use Rattle.std.proofs.Common.{◌≡◌, ◌⊎◌, ℕ, ◌+◌, ◌*◌, ◌-◌, ◌<◌, ◌≤◌, false, List}
use Rattle.std.proofs.Common.{slice_index, inl, inr}
use Rattle.std.proofs.Common.{refl, sym, ap, ◌∙◌, subst, arith}
use Rattle.std.proofs.lemmas.Bool.{cases_lt}
use Rattle.std.proofs.lemmas.Bool.Decides.{eqb_tells}
use Rattle.play_model.specs.State.{Common, FrameState, Playing, playing_of, with_playing}
use Rattle.play_model.specs.FilterStep.{filter_step}
use Rattle.play_model.specs.Frame.{voice_registers}
use Rattle.packed_form.specs.declared.packed_songs.PackedSong.{PackedSong}
use Rattle.scopes.specs.Desk.{Desk, Layout}
use Rattle.scopes.specs.Meaning.{Ran}
use Rattle.player_memory.specs.declared.labels.TheConstants.{LENT, TEMPO}
use Rattle.player_memory.specs.Rooms.{IsRoom}
use Rattle.player_memory.specs.Playing.{shared_at, IsPlaying, PlaysShared}
use Rattle.player_memory.specs.SongLists.{pattern_bytes, slide_rows}
use Rattle.player_memory.specs.Holds.{VoiceHolds, Holds, look_of, order_in, order_label}
use Rattle.player_desk.proofs.Laws.{SameVariables, playing_stays, own_below}
use Rattle.register_code.specs.RegisterBlock.{registers_of}
use Rattle.voice_code.specs.VoiceBlock.{VoicePlays}
use Rattle.frame_code.proofs.Leaving.{Leaves, leaves_then, StackAlone, stack_leaves}
use Rattle.frame_code.proofs.Holding.{TemposStand, other_holds}
use Rattle.frame_code.proofs.Turns.{turn_mine, turn_other, filter_leaves_tempos}

-- Memory holds this state, the registers of so many voices and of the filter are those of the frame, and what the frame
-- leaves is as it was at its beginning.
pub record Behind (layout : Layout) (packed : PackedSong) (k : ℕ) (start : ℕ → ℕ) (sounds : ℕ → ℕ) (count : ℕ)
    (x : FrameState) (desk : Desk) : Type 0 where
  pub voices : (voice : ℕ) → voice < 3 → VoiceHolds layout packed k voice x desk.at
  pub none_lent : shared_at layout desk.at LENT ≡ 0
  pub decimal : desk.cpu.d ≡ false
  pub registers : (register : ℕ) → register < 25 → (register < 7 * count) ⊎ (21 ≤ register) →
      desk.at (0xD400 + register) ≡ sounds register
  pub leaves : Leaves layout (slide_rows packed) (look_of packed) start desk.at

-- ---- the stack

variables_off : (layout : Layout) (rows : ℕ) (one two : ℕ → ℕ) → IsRoom layout rows → StackAlone one two →
    SameVariables layout one two
variables_off layout rows one two room same label below =
    same (layout.address label) (inr (room.variables.from label below))

-- another byte on the stack, and it has come to the same
pub stacked : (layout : Layout) (packed : PackedSong) (k : ℕ) (start : ℕ → ℕ) (sounds : ℕ → ℕ) (count : ℕ)
    (x : FrameState) (one two : Desk) → IsRoom layout (slide_rows packed) → StackAlone one.at two.at →
    two.cpu.d ≡ one.cpu.d → Behind layout packed k start sounds count x one →
    Behind layout packed k start sounds count x two
stacked layout packed k start sounds count x one two room same decimal behind = record {
  voices = λ voice few.
      let holds = behind.voices voice few in
      let plays : IsPlaying layout voice (playing_of (voice + 1) x) two.at =
      playing_stays layout one.at two.at voice _ variables few holds.plays in
      other_holds layout packed k voice x x x.common one.at two.at few refl
      (λ label own other. variables (label + 7 * voice) (own_below label voice own few)) plays.common plays.tempos
      holds;
  none_lent = variables LENT (omega arith) ∙ behind.none_lent;
  decimal = decimal ∙ behind.decimal;
  registers = λ register few known.
      same (0xD400 + register) (inr (omega arith)) ∙ behind.registers register few known;
  leaves = leaves_then layout (slide_rows packed) (look_of packed) start one.at two.at behind.leaves
      (stack_leaves layout (slide_rows packed) (look_of packed) one.at two.at room same);
}
  where
    variables : SameVariables layout one.at two.at
    variables = variables_off layout (slide_rows packed) one.at two.at room same

-- ---- the filter

pub filtered : (layout : Layout) (packed : PackedSong) (k : ℕ) (sounds : ℕ → ℕ) (x : FrameState) (desk : Desk)
    (run : Ran) (bytes : List ℕ) →
    ((number : ℕ) → number < 4 → sounds (21 + number) ≡ slice_index bytes number) →
    Holds layout packed k x desk.at →
    PlaysShared layout (slide_rows packed) desk run (filter_step (look_of packed) x.common) bytes →
    Behind layout packed k desk.at sounds 0 (record x { common = filter_step (look_of packed) x.common }) run.desk
filtered layout packed k sounds x desk run bytes last holds plays = record {
  voices = λ voice few.
      other_holds layout packed k voice x (record x { common = c }) c desk.at run.desk.at few refl
      (λ label own other. plays.voices voice label few own) plays.common tempos (holds.voices voice few);
  none_lent = plays.lent.0 ∙ holds.none_lent;
  decimal = plays.decimal;
  registers = registers;
  leaves = record {
    elsewhere = λ place away off. plays.elsewhere place away;
    slides = λ kept row few plain. plays.slides kept row few;
  };
}
  where
    c : Common
    c = filter_step (look_of packed) x.common

    tempos : TemposStand layout c run.desk.at
    tempos its few =
        plays.voices its TEMPO few refl ∙ (holds.voices its few).plays.tempos its few
        ∙ sym (filter_leaves_tempos (look_of packed) x.common (its + 1))

    registers : (register : ℕ) → register < 25 → (register < 0) ⊎ (21 ≤ register) →
        run.desk.at (0xD400 + register) ≡ sounds register
    registers register few (inl none) = absurd (omega (arith, none))
    registers register few (inr from) =
        let below : register - 21 < 4 = omega (arith, few, from) in
        let is : 21 + (register - 21) ≡ register = omega (arith, from) in
        subst (λ n. run.desk.at (0xD400 + n) ≡ sounds n) is
        (plays.last (register - 21) below ∙ sym (last (register - 21) below))

-- ---- a voice

pub voiced : (layout : Layout) (packed : PackedSong) (k : ℕ) (start : ℕ → ℕ) (sounds : ℕ → ℕ) (voice : ℕ)
    (x : FrameState) (s : Playing) (desk : Desk) (run : Ran) → voice < 3 →
    ((register : ℕ) → register < 7 →
    sounds (7 * voice + register) ≡ slice_index (voice_registers s.voice) register) →
    Behind layout packed k start sounds voice x desk →
    VoicePlays layout (slide_rows packed) voice (order_label k voice) (look_of packed) (pattern_bytes packed)
    (order_in packed k voice) desk run s →
    Behind layout packed k start sounds (voice + 1) (with_playing (voice + 1) s x) run.desk
voiced layout packed k start sounds voice x s desk run few heard behind plays = record {
  voices = voices;
  none_lent = plays.none_lent;
  decimal = plays.at_voice.decimal;
  registers = registers;
  leaves = leaves_then layout (slide_rows packed) (look_of packed) start desk.at run.desk.at behind.leaves (record {
    elsewhere = λ place away off. plays.elsewhere place away;
    slides = plays.slides;
  });
}
  where
    y : FrameState
    y = with_playing (voice + 1) s x

    mine : VoiceHolds layout packed k voice y run.desk.at
    mine = record {
      plays = rw (turn_mine voice s x few) plays.plays;
      song = rw (ap (λ (t : Playing). t.voice) (turn_mine voice s x few)) plays.song;
    }

    voices : (its : ℕ) → its < 3 → VoiceHolds layout packed k its y run.desk.at
    voices its below =
        elim (eqb_tells its voice) [
          | inl same ↦ subst (λ n. VoiceHolds layout packed k n y run.desk.at) (sym same.1) mine
          | inr other ↦
              other_holds layout packed k its x y s.common desk.at run.desk.at below
              (turn_other voice its s x few below other.1)
              (λ label own apart. plays.others its label below other.1 own apart) plays.plays.common
              plays.plays.tempos (behind.voices its below)
        ]

    before : (register : ℕ) → register < 25 → (register < 7 * voice) ⊎ (7 * voice + 7 ≤ register) →
        (register < 7 * voice) ⊎ (21 ≤ register) → run.desk.at (0xD400 + register) ≡ sounds register
    before register below apart known =
        plays.registers register (omega (arith, below)) apart ∙ behind.registers register below known

    here : (register : ℕ) → 7 * voice ≤ register → register < 7 * voice + 7 →
        run.desk.at (0xD400 + register) ≡ sounds register
    here register from to =
        let below : register - 7 * voice < 7 = omega (arith, from, to) in
        let is : 7 * voice + (register - 7 * voice) ≡ register = omega (arith, from) in
        let place : registers_of voice + (register - 7 * voice) ≡ 0xD400 + register = omega (arith, from) in
        ap run.desk.at (sym place) ∙ plays.sounds (register - 7 * voice) below
        ∙ sym (heard (register - 7 * voice) below) ∙ ap sounds is

    registers : (register : ℕ) → register < 25 → (register < 7 * (voice + 1)) ⊎ (21 ≤ register) →
        run.desk.at (0xD400 + register) ≡ sounds register
    registers register below (inr last) = before register below (inr (omega (arith, last, few))) (inr last)
    registers register below (inl first) =
        elim (cases_lt register (7 * voice)) [
          | inl low ↦ before register below (inl low) (inl low)
          | inr from ↦ here register from (omega (arith, first))
        ]
