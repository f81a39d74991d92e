-- The ways through a voice's step: from where its pieces come to, to where the whole does.
use Rattle.std.proofs.Common.{◌≡◌, ℕ, false, nat_eq, [], ◌∷◌, refl}
use Rattle.scopes.specs.Desk.{Desk, Layout}
use Rattle.scopes.specs.Trees.{Tree, NoneTree, ThenTree, ScopeTree}
use Rattle.scopes.specs.Meaning.{Outcome, Done, Left}
use Rattle.player_text.specs.declared.joints.TheConstants.{SOUNDS, TICKED, EFFECTED, PITCHED, RUNNING, COMMANDED, PULSED}
use Rattle.player_text.specs.Steps.{then_lines, all_of}
use Rattle.voice_code.proofs.Joining.{Comes, then_it, leaves_it, then_on, leaves_on, scope_ends, scope_left}
use Rattle.voice_code.proofs.Joining.{scope_passed}

-- nothing more
nothing : (layout : Layout) (desk : Desk) → Comes layout NoneTree desk Done desk
nothing layout desk = record { way = refl; desk_is = refl }

alone : (layout : Layout) (tree : Tree) (desk after : Desk) → Comes layout tree desk Done after →
    Comes layout (then_lines tree NoneTree) desk Done after
alone layout tree desk after comes = then_on layout tree NoneTree desk after Done after comes (nothing layout after)

-- ---- which effect runs

-- the wave step, then which effect runs; and a command of the wave table
abbrev pub waving : Tree → Tree → Tree
waving wave begun = all_of (wave ∷ begun ∷ [])

abbrev pub running : Tree → Tree → Tree → Tree
running wave begun command = all_of (ScopeTree COMMANDED (waving wave begun) ∷ command ∷ [])

-- the wave step leaves to a note
pub note_leaves : (layout : Layout) (wave begun command : Tree) (desk after : Desk) →
    Comes layout wave desk (Left PITCHED) after → Comes layout (running wave begun command) desk (Left PITCHED) after
note_leaves layout wave begun command desk after one =
    leaves_it layout (ScopeTree COMMANDED (waving wave begun)) (then_lines command NoneTree) desk PITCHED after
    (scope_passed layout COMMANDED PITCHED (waving wave begun) desk after refl
    (leaves_on layout wave (then_lines begun NoneTree) desk PITCHED after one))

-- it comes to its end, and behind it the code leaves by this name
pub effect_leaves : (layout : Layout) (wave begun command : Tree) (desk mid : Desk) (name : ℕ) (after : Desk) →
    nat_eq name COMMANDED ≡ false → Comes layout wave desk Done mid → Comes layout begun mid (Left name) after →
    Comes layout (running wave begun command) desk (Left name) after
effect_leaves layout wave begun command desk mid name after apart one two =
    leaves_it layout (ScopeTree COMMANDED (waving wave begun)) (then_lines command NoneTree) desk name after
    (scope_passed layout COMMANDED name (waving wave begun) desk after apart
    (then_on layout wave (then_lines begun NoneTree) desk mid (Left name) after one
    (leaves_on layout begun NoneTree mid name after two)))

-- it leaves to a command, and behind that the code leaves by this name
pub command_leaves : (layout : Layout) (wave begun command : Tree) (desk mid : Desk) (name : ℕ) (after : Desk) →
    Comes layout wave desk (Left COMMANDED) mid → Comes layout command mid (Left name) after →
    Comes layout (running wave begun command) desk (Left name) after
command_leaves layout wave begun command desk mid name after one two =
    then_it layout (ScopeTree COMMANDED (waving wave begun)) (then_lines command NoneTree) desk mid (Left name) after
    (scope_left layout COMMANDED (waving wave begun) desk mid
    (leaves_on layout wave (then_lines begun NoneTree) desk COMMANDED mid one))
    (leaves_on layout command NoneTree mid name after two)

-- ---- the effect

abbrev pub pitching : Tree → Tree → Tree
pitching runs effect = all_of (ScopeTree RUNNING runs ∷ effect ∷ [])

abbrev pub effecting : Tree → Tree → Tree → Tree
effecting runs effect pitch = all_of (ScopeTree PITCHED (pitching runs effect) ∷ pitch ∷ [])

-- no effect runs
pub effect_over : (layout : Layout) (runs effect pitch : Tree) (desk after : Desk) →
    Comes layout runs desk (Left EFFECTED) after →
    Comes layout (ScopeTree EFFECTED (effecting runs effect pitch)) desk Done after
effect_over layout runs effect pitch desk after one =
    scope_left layout EFFECTED (effecting runs effect pitch) desk after
    (leaves_it layout (ScopeTree PITCHED (pitching runs effect)) (then_lines pitch NoneTree) desk EFFECTED after
    (scope_passed layout PITCHED EFFECTED (pitching runs effect) desk after refl
    (leaves_it layout (ScopeTree RUNNING runs) (then_lines effect NoneTree) desk EFFECTED after
    (scope_passed layout RUNNING EFFECTED runs desk after refl one))))

-- a note is set at once
pub note_set : (layout : Layout) (runs effect pitch : Tree) (desk mid after : Desk) →
    Comes layout runs desk (Left PITCHED) mid → Comes layout pitch mid Done after →
    Comes layout (ScopeTree EFFECTED (effecting runs effect pitch)) desk Done after
note_set layout runs effect pitch desk mid after one two =
    scope_ends layout EFFECTED (effecting runs effect pitch) desk after
    (then_it layout (ScopeTree PITCHED (pitching runs effect)) (then_lines pitch NoneTree) desk mid Done after
    (scope_left layout PITCHED (pitching runs effect) desk mid
    (leaves_it layout (ScopeTree RUNNING runs) (then_lines effect NoneTree) desk PITCHED mid
    (scope_passed layout RUNNING PITCHED runs desk mid refl one)))
    (alone layout pitch mid after two))

-- an effect runs, and is done
pub effect_done : (layout : Layout) (runs effect pitch : Tree) (desk mid after : Desk) →
    Comes layout runs desk (Left RUNNING) mid → Comes layout effect mid (Left EFFECTED) after →
    Comes layout (ScopeTree EFFECTED (effecting runs effect pitch)) desk Done after
effect_done layout runs effect pitch desk mid after one two =
    scope_left layout EFFECTED (effecting runs effect pitch) desk after
    (leaves_it layout (ScopeTree PITCHED (pitching runs effect)) (then_lines pitch NoneTree) desk EFFECTED after
    (scope_passed layout PITCHED EFFECTED (pitching runs effect) desk after refl
    (then_it layout (ScopeTree RUNNING runs) (then_lines effect NoneTree) desk mid (Left EFFECTED) after
    (scope_left layout RUNNING runs desk mid one) (leaves_on layout effect NoneTree mid EFFECTED after two))))

-- it arrives at the note, which is set
pub effect_arrived : (layout : Layout) (runs effect pitch : Tree) (desk mid there after : Desk) →
    Comes layout runs desk (Left RUNNING) mid → Comes layout effect mid Done there →
    Comes layout pitch there Done after →
    Comes layout (ScopeTree EFFECTED (effecting runs effect pitch)) desk Done after
effect_arrived layout runs effect pitch desk mid there after one two three =
    scope_ends layout EFFECTED (effecting runs effect pitch) desk after
    (then_it layout (ScopeTree PITCHED (pitching runs effect)) (then_lines pitch NoneTree) desk there Done after
    (scope_ends layout PITCHED (pitching runs effect) desk there
    (then_it layout (ScopeTree RUNNING runs) (then_lines effect NoneTree) desk mid Done there
    (scope_left layout RUNNING runs desk mid one) (alone layout effect mid there two)))
    (alone layout pitch there after three))

-- ---- the voice

-- the tick, the effect, what is lent, the row, and the pulse; then the registers
abbrev pub sounding : Tree → Tree → Tree → Tree → Tree → Tree
sounding tick effects back fetch pulse =
    all_of (ScopeTree TICKED tick ∷ ScopeTree EFFECTED effects ∷ back ∷ ScopeTree PULSED fetch ∷ pulse ∷ [])

abbrev pub whole : Tree → Tree → Tree
whole sounds registers = all_of (ScopeTree SOUNDS sounds ∷ registers ∷ [])

-- a note has started
pub voice_started : (layout : Layout) (tick effects back fetch pulse registers : Tree) (desk mid after : Desk) →
    Comes layout (ScopeTree TICKED tick) desk (Left SOUNDS) mid → Comes layout registers mid Done after →
    Comes layout (whole (sounding tick effects back fetch pulse) registers) desk Done after
voice_started layout tick effects back fetch pulse registers desk mid after one two =
    then_it layout (ScopeTree SOUNDS (sounding tick effects back fetch pulse)) (then_lines registers NoneTree) desk mid
    Done after
    (scope_left layout SOUNDS (sounding tick effects back fetch pulse) desk mid
    (leaves_it layout (ScopeTree TICKED tick)
    (ThenTree (ScopeTree EFFECTED effects)
    (then_lines back (ThenTree (ScopeTree PULSED fetch) (then_lines pulse NoneTree)))) desk SOUNDS mid one))
    (alone layout registers mid after two)

-- where four of them have come to, up to the fetch
pub record Fetches (layout : Layout) (tick effects back fetch : Tree) (desk : Desk) (o : Outcome) (after : Desk)
    : Type 0 where
  pub ticked : Desk
  pub effected : Desk
  pub returned : Desk
  pub tick_comes : Comes layout (ScopeTree TICKED tick) desk Done ticked
  pub effects_come : Comes layout (ScopeTree EFFECTED effects) ticked Done effected
  pub back_comes : Comes layout back effected Done returned
  pub fetch_comes : Comes layout (ScopeTree PULSED fetch) returned o after

-- the pulse step is left out
pub voice_left_out : (layout : Layout) (tick effects back fetch pulse registers : Tree) (desk mid after : Desk) →
    Fetches layout tick effects back fetch desk (Left SOUNDS) mid → Comes layout registers mid Done after →
    Comes layout (whole (sounding tick effects back fetch pulse) registers) desk Done after
voice_left_out layout tick effects back fetch pulse registers desk mid after f two =
    then_it layout (ScopeTree SOUNDS (sounding tick effects back fetch pulse)) (then_lines registers NoneTree) desk mid
    Done after
    (scope_left layout SOUNDS (sounding tick effects back fetch pulse) desk mid
    (then_it layout (ScopeTree TICKED tick)
    (ThenTree (ScopeTree EFFECTED effects)
    (then_lines back (ThenTree (ScopeTree PULSED fetch) (then_lines pulse NoneTree)))) desk f.ticked (Left SOUNDS) mid
    f.tick_comes
    (then_it layout (ScopeTree EFFECTED effects)
    (then_lines back (ThenTree (ScopeTree PULSED fetch) (then_lines pulse NoneTree))) f.ticked f.effected (Left SOUNDS)
    mid f.effects_come
    (then_on layout back (ThenTree (ScopeTree PULSED fetch) (then_lines pulse NoneTree)) f.effected f.returned
    (Left SOUNDS) mid f.back_comes
    (leaves_it layout (ScopeTree PULSED fetch) (then_lines pulse NoneTree) f.returned SOUNDS mid f.fetch_comes)))))
    (alone layout registers mid after two)

-- the pulse step is done
pub voice_pulsed : (layout : Layout) (tick effects back fetch pulse registers : Tree) (desk mid there after : Desk) →
    Fetches layout tick effects back fetch desk Done mid → Comes layout pulse mid Done there →
    Comes layout registers there Done after →
    Comes layout (whole (sounding tick effects back fetch pulse) registers) desk Done after
voice_pulsed layout tick effects back fetch pulse registers desk mid there after f two three =
    then_it layout (ScopeTree SOUNDS (sounding tick effects back fetch pulse)) (then_lines registers NoneTree) desk there
    Done after
    (scope_ends layout SOUNDS (sounding tick effects back fetch pulse) desk there
    (then_it layout (ScopeTree TICKED tick)
    (ThenTree (ScopeTree EFFECTED effects)
    (then_lines back (ThenTree (ScopeTree PULSED fetch) (then_lines pulse NoneTree)))) desk f.ticked Done there
    f.tick_comes
    (then_it layout (ScopeTree EFFECTED effects)
    (then_lines back (ThenTree (ScopeTree PULSED fetch) (then_lines pulse NoneTree))) f.ticked f.effected Done there
    f.effects_come
    (then_on layout back (ThenTree (ScopeTree PULSED fetch) (then_lines pulse NoneTree)) f.effected f.returned Done
    there f.back_comes
    (then_it layout (ScopeTree PULSED fetch) (then_lines pulse NoneTree) f.returned mid Done there f.fetch_comes
    (alone layout pulse mid there two))))))
    (alone layout registers there after three)
