-- The block that tells whether a voice is run: it leaves memory as it is.
use Rattle.std.proofs.Common.{◌≡◌, ℕ, zero, suc, ◌*◌, ◌<◌, Bool, true, false, refl, ap, ◌∙◌, arith}
use Rattle.scopes.specs.Desk.{Desk, Layout}
use Rattle.scopes.specs.Trees.{Tree, tree_of}
use Rattle.scopes.specs.Meaning.{Outcome, Done, Left, Ran, each_one, ran}
use Rattle.player_memory.specs.declared.conditions.TheConstants.{FUNK_TEMPO, VOICE_TWO, VOICE_THREE}
use Rattle.player_memory.specs.FactLines.{is_run}
use Rattle.player_memory.specs.Playing.{IsAtVoice}
use Rattle.player_text.specs.declared.joints.TheConstants.{SOUNDS}
use Rattle.player_text.specs.declared.silence.TheConstants.{SILENCE}
use Rattle.voice_code.proofs.Joining.{Comes}

abbrev pub silence_tree : Tree
silence_tree = tree_of SILENCE.now

-- it ends, or leaves by a name, at a desk of the same voice with the same memory
pub record Told (layout : Layout) (voice : ℕ) (desk : Desk) (o : Outcome) : Type 0 where
  pub after : Desk
  pub comes : Comes layout silence_tree desk o after
  pub memory : after.at ≡ desk.at
  pub at_voice : IsAtVoice voice after

abbrev way_of : Bool → Outcome
way_of true = Done
way_of false = Left SOUNDS

-- what is seen of a run
abbrev seen : Ran → Outcome × (ℕ → ℕ) × ℕ × Bool
seen run = (run.outcome, run.desk.at, run.desk.cpu.x, run.desk.cpu.d)

-- it is so for each of the conditions and each voice
abbrev IsTold : Layout → ℕ → Desk → Type 0
IsTold layout voice desk =
    seen (ran each_one layout silence_tree desk)
    ≡ (way_of (is_run layout.holds voice), desk.at, desk.cpu.x, desk.cpu.d)

is_told : (layout : Layout) (voice : ℕ) (desk : Desk) (funk two three : Bool) → layout.holds FUNK_TEMPO ≡ funk →
    layout.holds VOICE_TWO ≡ two → layout.holds VOICE_THREE ≡ three → voice < 3 → desk.cpu.x ≡ 7 * voice →
    IsTold layout voice desk
is_told layout voice desk true two three f t h few x = rw f refl
is_told layout zero desk false true true f t h few x = rw (f, t, h, x) refl
is_told layout zero desk false true false f t h few x = rw (f, t, h, x) refl
is_told layout zero desk false false true f t h few x = rw (f, t, h, x) refl
is_told layout zero desk false false false f t h few x = rw (f, t, h, x) refl
is_told layout (suc zero) desk false true true f t h few x = rw (f, t, h, x) refl
is_told layout (suc zero) desk false true false f t h few x = rw (f, t, h, x) refl
is_told layout (suc zero) desk false false true f t h few x = rw (f, t, h, x) refl
is_told layout (suc zero) desk false false false f t h few x = rw (f, t, h, x) refl
is_told layout (suc (suc zero)) desk false true true f t h few x = rw (f, t, h, x) refl
is_told layout (suc (suc zero)) desk false true false f t h few x = rw (f, t, h, x) refl
is_told layout (suc (suc zero)) desk false false true f t h few x = rw (f, t, h, x) refl
is_told layout (suc (suc zero)) desk false false false f t h few x = rw (f, t, h, x) refl
is_told layout (suc (suc (suc more))) desk false two three f t h few x = absurd (omega (arith, few))

told : (layout : Layout) (voice : ℕ) (desk : Desk) (runs : Bool) → voice < 3 → IsAtVoice voice desk →
    is_run layout.holds voice ≡ runs → Told layout voice desk (way_of runs)
told layout voice desk runs few at is =
    let run = ran each_one layout silence_tree desk in
    let so = is_told layout voice desk _ _ _ refl refl refl few at.x in record {
      after = run.desk;
      comes = record { way = ap (λ s. s.0) so ∙ ap way_of is; desk_is = refl };
      memory = ap (λ s. s.1) so;
      at_voice = record { x = ap (λ s. s.2) so ∙ at.x; decimal = ap (λ s. s.3) so ∙ at.decimal };
    }

pub told_run : (layout : Layout) (voice : ℕ) (desk : Desk) → voice < 3 → IsAtVoice voice desk →
    is_run layout.holds voice ≡ true → Told layout voice desk Done
told_run layout voice desk few at runs = told layout voice desk true few at runs

pub told_rests : (layout : Layout) (voice : ℕ) (desk : Desk) → voice < 3 → IsAtVoice voice desk →
    is_run layout.holds voice ≡ false → Told layout voice desk (Left SOUNDS)
told_rests layout voice desk few at rests = told layout voice desk false few at rests
