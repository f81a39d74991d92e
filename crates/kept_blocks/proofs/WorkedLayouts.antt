-- Which layouts keep a song's lines.
use Rattle.std.proofs.Common.{◌^◌, refl, sym, ◌∙◌, arith}
use Rattle.std.proofs.lemmas.Bool.{true≢false}
use Rattle.song_model.specs.declared.features.Feature.TheVariants.{Transpose, PortaUp, TonePorta, Cutoff}
use Rattle.song_model.specs.declared.features.Feature.TheVariants.{WaveCommand}
use Rattle.song_facts.specs.declared.facts.Fact.TheVariants.{RowOnce, GateNote, Legato, FirstHolds}
use Rattle.song_facts.specs.Facts.{no_facts}
use Rattle.play_model.specs.declared.options.Options.{Options}
use Rattle.play_model.specs.State.{no_options, at_speed}
use Rattle.scopes.specs.Desk.{Layout}
use Rattle.player_memory.specs.declared.conditions.TheConstants.{TONE_PORTA, VIBRATO}
use Rattle.slide_code.proofs.Laws.{lent_keep}
use Rattle.kept_lines.specs.Asked.{asked}
use Rattle.kept_lines.specs.KeptLines.{kept_set}
use Rattle.kept_lines.proofs.Laws.{sets_are_exact, asked_is_exact}
use Rattle.kept_blocks.proofs.Layouts.{sets_keep_their_lines}
use Rattle.kept_blocks.specs.WorkedLayouts.{LayoutsAreWorked, with_set, gate_noted}

pub layouts_are_worked : (layout : Layout) (options : Options) → LayoutsAreWorked layout options
layouts_are_worked layout options = record {
  its =
      sets_keep_their_lines (with_set layout (kept_set (asked (2 ^ VIBRATO) gate_noted) (at_speed 2))) (2 ^ VIBRATO)
      gate_noted (at_speed 2) (λ condition. refl);
  another = λ keeps.
      true≢false
      (sym (keeps.features_are TonePorta (omega arith))
      ∙ (sets_are_exact (asked (2 ^ VIBRATO) no_facts) no_options TONE_PORTA
      ∙ asked_is_exact (2 ^ VIBRATO) no_facts TONE_PORTA));
  feature = λ out keeps. true≢false (sym (keeps.features_are Transpose (omega arith)) ∙ out);
  fact = λ out keeps. true≢false (sym (keeps.facts_are GateNote refl) ∙ out);
  other_fact = λ on keeps. absurd (let none = keeps.facts_alone GateNote on in true≢false (sym none));
  common = λ out keeps. true≢false (sym (keeps.common.rise (rw (keeps.features_are PortaUp (omega arith)) refl)) ∙ out);
  shared = λ out keeps. true≢false (sym (keeps.shared.once (keeps.facts_are RowOnce refl)) ∙ out);
  held = λ out keeps. true≢false (sym (keeps.shared.legato (keeps.facts_are Legato refl)) ∙ out);
  first_holds = λ out keeps. true≢false (sym (keeps.facts_are FirstHolds refl) ∙ out);
  none_holds = λ on keeps. absurd (let none = keeps.facts_alone FirstHolds on in true≢false (sym none));
  special = λ out keeps. true≢false (sym (keeps.shared.command (keeps.features_are WaveCommand (omega arith))) ∙ out);
  runs = λ out keeps.
      true≢false (sym (lent_keep layout keeps.common (keeps.features_are WaveCommand (omega arith))) ∙ out);
  filter = λ out keeps. true≢false (sym (keeps.shared.cutoff (keeps.features_are Cutoff (omega arith))) ∙ out);
  effects = λ on keeps. true≢false (sym on ∙ keeps.options_are.effects);
  pulse = λ on keeps. true≢false (sym on ∙ keeps.options_are.pulse);
  first = λ on keeps. true≢false (sym on ∙ keeps.options_are.first);
  once = λ on keeps. true≢false (sym on ∙ keeps.timer);
  twice = λ out keeps. true≢false (sym keeps.timer ∙ out);
}
