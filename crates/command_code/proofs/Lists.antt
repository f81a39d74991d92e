-- The lines for commands 5 to 7 and 9 to $D, which a row and the wave table do alike, one after the other.
use Rattle.std.proofs.Common.{◌≡◌, ℕ, ◌+◌, ◌<◌, true, Some, refl, sym, subst, arith}
use Rattle.scopes.specs.Trees.{Tree, ThenTree}
use Rattle.play_model.specs.State.{Playing}
use Rattle.play_model.specs.Helpers.{do_command}
use Rattle.player_memory.specs.declared.conditions.TheConstants.{SET_AD, SET_SR, SET_WAVE, SET_PULSE_POINTER}
use Rattle.player_memory.specs.declared.conditions.TheConstants.{SET_FILTER_POINTER, SET_FILTER_CONTROL, SET_CUTOFF}
use Rattle.player_memory.specs.declared.conditions.TheConstants.{SET_VOLUME}
use Rattle.player_memory.specs.Commands.{condition_of_both}
use Rattle.player_memory.specs.FactLines.{KeepsShared}
use Rattle.player_text.specs.declared.commands.TheConstants.{AD_SET, SR_SET, WAVE_SET, PULSE_POINTER_SET}
use Rattle.player_text.specs.declared.commands.TheConstants.{FILTER_POINTER_SET, FILTER_CONTROL_SET, CUTOFF_SET}
use Rattle.player_text.specs.declared.commands.TheConstants.{VOLUME_SET}
use Rattle.player_desk.proofs.Laws.{VoiceDesk, Reader, Ways, Leads, Lent}
use Rattle.command_code.proofs.Lines.{lines_for, lines_of}
use Rattle.command_code.proofs.Links.{Before, Does, link}
use Rattle.command_code.proofs.Commands.{ad_does, sr_does, wave_does, pulse_pointer_does, filter_pointer_does}
use Rattle.command_code.proofs.Commands.{filter_control_does, cutoff_does, volume_does}

-- ---- their trees

abbrev from_wave : Tree → Tree
from_wave rest = ThenTree (lines_for SET_WAVE 7 (lines_of WAVE_SET)) rest

abbrev from_sr : Tree → Tree
from_sr rest = ThenTree (lines_for SET_SR 6 (lines_of SR_SET)) (from_wave rest)

abbrev pub from_ad_to_wave : Tree → Tree
from_ad_to_wave rest = ThenTree (lines_for SET_AD 5 (lines_of AD_SET)) (from_sr rest)

abbrev from_volume : Tree → Tree
from_volume rest = ThenTree (lines_for SET_VOLUME 0xD (lines_of VOLUME_SET)) rest

abbrev from_cutoff : Tree → Tree
from_cutoff rest = ThenTree (lines_for SET_CUTOFF 0xC (lines_of CUTOFF_SET)) (from_volume rest)

abbrev from_control : Tree → Tree
from_control rest = ThenTree (lines_for SET_FILTER_CONTROL 0xB (lines_of FILTER_CONTROL_SET)) (from_cutoff rest)

abbrev from_filter : Tree → Tree
from_filter rest = ThenTree (lines_for SET_FILTER_POINTER 0xA (lines_of FILTER_POINTER_SET)) (from_control rest)

abbrev pub from_pulse_to_volume : Tree → Tree
from_pulse_to_volume rest =
    ThenTree (lines_for SET_PULSE_POINTER 9 (lines_of PULSE_POINTER_SET)) (from_filter rest)

-- ---- what leads through them

-- Command and parameter are bytes; and where the command is one of these its lines are kept, and t is what the rule
-- leaves of u. The bytes of what sets the filter are kept with it.
pub record Ruled (r : Reader) (c p : ℕ) (u t : Playing) : Type 0 where
  pub few : c < 256
  pub small : p < 256
  pub kept : (condition : ℕ) → condition_of_both c ≡ Some condition → r.layout.holds condition ≡ true
  pub rule : (condition : ℕ) → condition_of_both c ≡ Some condition → do_command c p u ≡ t
  pub shared : KeepsShared r.layout

-- from before the lines for one of them to before those for the next
both_link : (r : Reader) (c p : ℕ) (u t : Playing) (handed : Lent) (d : VoiceDesk) (condition k : ℕ)
    (body rest : Tree) (ways : Ways) (m : VoiceDesk) → Ruled r c p u t → k < 256 →
    condition_of_both k ≡ Some condition →
    (r.layout.holds condition ≡ true → c ≡ k → do_command c p u ≡ t → Does r c p u t handed d body) →
    ((n : VoiceDesk) → Before (k + 1) r c p u t handed d n → Leads r rest ways n) → Before k r c p u t handed d m →
    Leads r (ThenTree (lines_for condition k body) rest) ways m
both_link r c p u t handed d condition k body rest ways m g low is does on at =
    link r c p u t handed d condition k body rest ways m g.few low (λ e. g.kept condition (there e))
    (λ e. does (g.kept condition (there e)) e (g.rule condition (there e))) on at
  where
    there : c ≡ k → condition_of_both c ≡ Some condition
    there e = subst (λ n. condition_of_both n ≡ Some condition) (sym e) is

-- commands 5 to 7
pub early_lead : (r : Reader) (c p : ℕ) (u t : Playing) (handed : Lent) (d : VoiceDesk) (rest : Tree) (ways : Ways)
    (m : VoiceDesk) → Ruled r c p u t → ((n : VoiceDesk) → Before 8 r c p u t handed d n → Leads r rest ways n) →
    Before 5 r c p u t handed d m → Leads r (from_ad_to_wave rest) ways m
early_lead r c p u t handed d rest ways m g on at =
    both_link r c p u t handed d SET_AD 5 (lines_of AD_SET) (from_sr rest) ways m g (omega arith) refl
    (λ kept. ad_does r c p u t handed d) at_sr at
  where
    at_wave : (n : VoiceDesk) → Before 7 r c p u t handed d n → Leads r (from_wave rest) ways n
    at_wave n at =
        both_link r c p u t handed d SET_WAVE 7 (lines_of WAVE_SET) rest ways n g (omega arith) refl
        (λ kept. wave_does r c p u t handed d) on at

    at_sr : (n : VoiceDesk) → Before 6 r c p u t handed d n → Leads r (from_sr rest) ways n
    at_sr n at =
        both_link r c p u t handed d SET_SR 6 (lines_of SR_SET) (from_wave rest) ways n g (omega arith) refl
        (λ kept. sr_does r c p u t handed d) at_wave at

-- commands 9 to $D
pub late_lead : (r : Reader) (c p : ℕ) (u t : Playing) (handed : Lent) (d : VoiceDesk) (rest : Tree) (ways : Ways)
    (m : VoiceDesk) → Ruled r c p u t → ((n : VoiceDesk) → Before 14 r c p u t handed d n → Leads r rest ways n) →
    Before 9 r c p u t handed d m → Leads r (from_pulse_to_volume rest) ways m
late_lead r c p u t handed d rest ways m g on at =
    both_link r c p u t handed d SET_PULSE_POINTER 9 (lines_of PULSE_POINTER_SET) (from_filter rest) ways m g
    (omega arith) refl (λ kept. pulse_pointer_does r c p u t handed d) at_filter_pointer at
  where
    at_volume : (n : VoiceDesk) → Before 13 r c p u t handed d n → Leads r (from_volume rest) ways n
    at_volume n at =
        both_link r c p u t handed d SET_VOLUME 0xD (lines_of VOLUME_SET) rest ways n g (omega arith) refl
        (volume_does r c p u t handed d) on at

    at_cutoff : (n : VoiceDesk) → Before 12 r c p u t handed d n → Leads r (from_cutoff rest) ways n
    at_cutoff n at =
        both_link r c p u t handed d SET_CUTOFF 0xC (lines_of CUTOFF_SET) (from_volume rest) ways n g (omega arith)
        refl (λ kept. cutoff_does r c p u t handed d (g.shared.cutoff kept)) at_volume at

    at_filter_control : (n : VoiceDesk) → Before 11 r c p u t handed d n → Leads r (from_control rest) ways n
    at_filter_control n at =
        both_link r c p u t handed d SET_FILTER_CONTROL 0xB (lines_of FILTER_CONTROL_SET) (from_cutoff rest) ways n g
        (omega arith) refl
        (λ kept. filter_control_does r c p u t handed d (g.shared.control kept) g.small) at_cutoff at

    at_filter_pointer : (n : VoiceDesk) → Before 10 r c p u t handed d n → Leads r (from_filter rest) ways n
    at_filter_pointer n at =
        both_link r c p u t handed d SET_FILTER_POINTER 0xA (lines_of FILTER_POINTER_SET) (from_control rest) ways n g
        (omega arith) refl (λ kept. filter_pointer_does r c p u t handed d) at_filter_control at
