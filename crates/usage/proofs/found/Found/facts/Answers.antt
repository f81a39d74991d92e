use Rattle.std.proofs.Common.{◌≡◌, ◌↔◌, true}
use Rattle.song_facts.specs.Facts.{is_among, HasFact}
use Rattle.song_facts.specs.declared.facts.Fact.TheVariants.{RowTone, RowSlide, RowOnce, FirstMask, Legato}
use Rattle.song_facts.specs.declared.facts.Fact.TheVariants.{NoHardRestart, WaveDelay, GateNote, NoteVibrato}
use Rattle.song_facts.specs.declared.facts.Fact.TheVariants.{VibratoDelay, NotePulse, NoteFilter}
use Rattle.song_facts.specs.declared.facts.Fact.TheVariants.{VoiceTempo, CommonTempo, FunkTurns, FunkChoice}
use Rattle.song_facts.specs.declared.facts.Fact.TheVariants.{OwnTimer, OwnWave, Subtunes, VoiceTwo, VoiceThree, FirstHolds}
use Rattle.usage.proofs.found.Found.facts.Goals as goal

pub returns : goal.returns
returns c = record {
  each = λ fact. elim fact as (λ f. (is_among _ f ≡ true) ↔ HasFact c.args.song.now f) [
    | RowTone ↦ c.has_tone.ensures
    | RowSlide ↦ c.has_slide.ensures
    | RowOnce ↦ c.has_once.ensures
    | FirstMask ↦ c.has_instrument.ensures
    | Legato ↦ c.has_instrument-2.ensures
    | NoHardRestart ↦ c.has_instrument-3.ensures
    | WaveDelay ↦ c.has_wave_delay.ensures
    | GateNote ↦ c.has_gate_note.ensures
    | NoteVibrato ↦ c.has_instrument-4.ensures
    | VibratoDelay ↦ c.has_instrument-5.ensures
    | NotePulse ↦ c.has_instrument-6.ensures
    | NoteFilter ↦ c.has_instrument-7.ensures
    | VoiceTempo ↦ c.has_voice_tempo.ensures
    | CommonTempo ↦ c.has_common_tempo.ensures
    | FunkTurns ↦ c.has_funk_turns.ensures
    | FunkChoice ↦ c.has_funk_choice.ensures
    | OwnTimer ↦ c.has_pair.ensures
    | OwnWave ↦ c.has_pair-2.ensures
    | Subtunes ↦ c.has_subtunes.ensures
    | VoiceTwo ↦ c.has_channel_row.ensures
    | VoiceThree ↦ c.has_channel_row-2.ensures
    | FirstHolds ↦ c.first_holds.ensures
  ];
}
