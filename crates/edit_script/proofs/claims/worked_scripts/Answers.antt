use Rattle.std.proofs.Common.{refl, inr}
use Rattle.edit_script.specs.declared.commands.Action.TheVariants as action
use Rattle.edit_script.specs.Spells.{empty, comment}
use Rattle.edit_script.specs.Scripts.{none, nothing, something}
use Rattle.edit_script.proofs.ActionLaws.{action_takes}
use Rattle.edit_script.proofs.OnTexts.{reading_texts}
use Rattle.edit_script.proofs.ScriptLaws.{is_bad_line, first_here, first_later}
use Rattle.edit_script.proofs.claims.worked_scripts.Goals as goal

pub returns-clause-counted : goal.returns-clause-counted
unfolding reading_texts
returns-clause-counted c =
    nothing (comment _ refl)
    (nothing (empty refl)
    (something _ (action_takes _ _ refl)
    (something _ (action_takes _ _ refl)
    (nothing (empty refl)
    (something _ (action_takes _ _ refl) none)))))

pub returns-clause-nothing : goal.returns-clause-nothing
unfolding reading_texts
returns-clause-nothing c = (none, nothing (empty refl) (nothing (empty refl) none), nothing (comment _ refl) none)

pub returns-clause-returns : goal.returns-clause-returns
unfolding reading_texts
returns-clause-returns c = (
  record {
    place = 1;
    counted = refl;
    first =
        first_later _ _ 0 (inr (action.Redo, action_takes _ _ refl)) (first_here _ _ (is_bad_line _ _ refl refl));
  },
  record { place = 0; counted = refl; first = first_here _ _ (is_bad_line _ _ refl refl) },
  nothing (comment _ refl) none,
  record { place = 0; counted = refl; first = first_here _ _ (is_bad_line _ _ refl refl) },
)

pub returns-clause-first : goal.returns-clause-first
unfolding reading_texts
returns-clause-first c =
    record {
      place = 1;
      counted = refl;
      first =
          first_later _ _ 0 (inr (action.Undo, action_takes _ _ refl)) (first_here _ _ (is_bad_line _ _ refl refl));
    }
