-- Where something runs at a tick, the lines of the effect step are kept.
use Rattle.std.proofs.Common.{◌≡◌, ℕ, zero, suc, ◌≤◌, true, inl, inr, refl, arith}
use Rattle.std.proofs.lemmas.Bool.{or_left, or_right, or_cases}
use Rattle.std.proofs.lemmas.Bool.Decides.{eqb_tells}
use Rattle.play_model.specs.LookUps.{LookUps}
use Rattle.play_model.specs.State.{Voice}
use Rattle.scopes.specs.Desk.{Layout}
use Rattle.player_memory.specs.declared.conditions.TheConstants.{PORTA_UP, PORTA_DOWN, TONE_PORTA, TIE_NOTE, VIBRATO}
use Rattle.player_memory.specs.declared.conditions.TheConstants.{INSTRUMENT_VIBRATO, WAVE_COMMAND, EFFECTS}
use Rattle.slide_code.specs.SlideBlock.{KeepsSlide, KeepsCommon}

-- with any of the conditions that need them, here an instrument's vibrato and a command that is lent
vibrato_keeps : (layout : Layout) → KeepsCommon layout → layout.holds VIBRATO ≡ true → layout.holds EFFECTS ≡ true
vibrato_keeps layout common kept = common.effects (or_left _ _ (or_left _ _ (or_right _ _ kept)))

tie_keeps : (layout : Layout) → KeepsCommon layout → layout.holds TIE_NOTE ≡ true → layout.holds EFFECTS ≡ true
tie_keeps layout common kept = common.effects (or_left _ _ (or_left _ _ (or_left _ _ (or_right _ _ kept))))

tone_keeps : (layout : Layout) → KeepsCommon layout → layout.holds TONE_PORTA ≡ true → layout.holds EFFECTS ≡ true
tone_keeps layout common kept =
    common.effects (or_left _ _ (or_left _ _ (or_left _ _ (or_left _ _ (or_right _ _ kept)))))

down_keeps : (layout : Layout) → KeepsCommon layout → layout.holds PORTA_DOWN ≡ true → layout.holds EFFECTS ≡ true
down_keeps layout common kept =
    common.effects (or_left _ _ (or_left _ _ (or_left _ _ (or_left _ _ (or_left _ _ (or_right _ _ kept))))))

up_keeps : (layout : Layout) → KeepsCommon layout → layout.holds PORTA_UP ≡ true → layout.holds EFFECTS ≡ true
up_keeps layout common kept =
    common.effects (or_left _ _ (or_left _ _ (or_left _ _ (or_left _ _ (or_left _ _ (or_left _ _ kept))))))

pub instruments_keep : (layout : Layout) → KeepsCommon layout → layout.holds INSTRUMENT_VIBRATO ≡ true →
    layout.holds EFFECTS ≡ true
instruments_keep layout common kept = common.effects (or_left _ _ (or_right _ _ kept))

pub lent_keep : (layout : Layout) → KeepsCommon layout → layout.holds WAVE_COMMAND ≡ true →
    layout.holds EFFECTS ≡ true
lent_keep layout common kept = common.effects (or_right _ _ kept)

-- a command that runs
pub commands_keep : (layout : Layout) (look : LookUps) (command : ℕ) (v : Voice) → KeepsCommon layout →
    KeepsSlide layout look command v → 1 ≤ command → command ≤ 4 → layout.holds EFFECTS ≡ true
commands_keep layout look zero v common keeps least most = absurd (omega (arith, least))
commands_keep layout look (suc zero) v common keeps least most = up_keeps layout common (keeps.up refl)
commands_keep layout look (suc (suc zero)) v common keeps least most = down_keeps layout common (keeps.down refl)
commands_keep layout look (suc (suc (suc zero))) v common keeps least most =
    elim (eqb_tells v.param 0) [
      | inl none ↦ tie_keeps layout common (keeps.tie refl none.1)
      | inr some ↦ tone_keeps layout common (keeps.tone refl some.1)
    ]
commands_keep layout look (suc (suc (suc (suc zero)))) v common keeps least most =
    elim (or_cases (layout.holds VIBRATO) (layout.holds INSTRUMENT_VIBRATO) (keeps.swings refl)) [
      | inl kept ↦ vibrato_keeps layout common kept
      | inr kept ↦ instruments_keep layout common kept
    ]
commands_keep layout look (suc (suc (suc (suc (suc more))))) v common keeps least most = absurd (omega (arith, most))
