-- What is read of the texts, and what the commands make of the song.
use Rattle.std.proofs.Common.{ℕ, [], ◌∷◌, refl, inr}
use Rattle.song_model.specs.Silence.{empty_song}
use Rattle.edit_ops.specs.declared.edits.Edit.{Edit}
use Rattle.edit_ops.specs.declared.edits.Edit.TheVariants.{InsertTable, SetTable, SetPatternCount, SetInstrument, AddSubtune}
use Rattle.edit_history.specs.History.{History, begun}
use Rattle.edit_script.specs.declared.commands.Action.{Action}
use Rattle.edit_script.specs.declared.commands.Action.TheVariants as action
use Rattle.edit_script.specs.declared.commands.Command.{Command}
use Rattle.edit_script.specs.declared.kinds.RunKind.TheVariants as kind
use Rattle.edit_script.specs.Scripts.{none, something}
use Rattle.edit_script.specs.Edited.{no_script, not_done}
use Rattle.edit_script.proofs.ActionLaws.{action_takes}
use Rattle.edit_script.proofs.OnTexts.{reading_texts, running_edits}
use Rattle.edit_script.proofs.ScriptLaws.{is_bad_line, first_here, first_later}
use Rattle.edit_script.proofs.claims.worked_runs.Goals as goal

abbrev at : ℕ → Action → Command
at line what = record { line = line; action = what }

abbrev row : Edit
row = InsertTable 0 1 (record { left = 0x21; right = 0 })

abbrev row_at : ℕ → Command
row_at line = at line (action.Edit row)

abbrev stands : History
stands = record { first = empty_song; standing = row ∷ []; undone = [] }

abbrev undone : History
undone = record { first = empty_song; standing = []; undone = row ∷ [] }

abbrev added : History
added = record { first = empty_song; standing = AddSubtune ∷ []; undone = [] }

pub returns-clause-rows : goal.returns-clause-rows
unfolding reading_texts running_edits
returns-clause-rows c = (
  record {
    commands = row_at 1 ∷ [];
    is_script = something _ (action_takes _ _ refl) none;
    history = stands;
    done = refl;
    after_is = refl;
  },
  record {
    commands = row_at 1 ∷ at 2 action.Undo ∷ [];
    is_script = something _ (action_takes _ _ refl) (something _ (action_takes _ _ refl) none);
    history = undone;
    done = refl;
    after_is = refl;
  },
  record {
    commands = row_at 1 ∷ at 2 action.Undo ∷ at 3 action.Redo ∷ [];
    is_script = something _ (action_takes _ _ refl)
        (something _ (action_takes _ _ refl) (something _ (action_takes _ _ refl) none));
    history = stands;
    done = refl;
    after_is = refl;
  },
)

pub returns-clause-nothing : goal.returns-clause-nothing
unfolding reading_texts running_edits
returns-clause-nothing c = (
  not_done (row_at 1 ∷ at 2 action.Undo ∷ at 3 action.Undo ∷ [])
      (record { line = 3; kind = kind.NothingToUndo; before = undone })
      (something _ (action_takes _ _ refl)
      (something _ (action_takes _ _ refl) (something _ (action_takes _ _ refl) none)))
      refl refl refl,
  not_done (at 1 action.Redo ∷ [])
      (record { line = 1; kind = kind.NothingToRedo; before = begun empty_song })
      (something _ (action_takes _ _ refl) none)
      refl refl refl,
  not_done (row_at 1 ∷ at 2 action.Undo ∷ at 3 (action.Edit AddSubtune) ∷ at 4 action.Redo ∷ [])
      (record { line = 4; kind = kind.NothingToRedo; before = added })
      (something _ (action_takes _ _ refl)
      (something _ (action_takes _ _ refl)
      (something _ (action_takes _ _ refl) (something _ (action_takes _ _ refl) none))))
      refl refl refl,
)

pub returns-clause-reasons : goal.returns-clause-reasons
unfolding reading_texts running_edits
returns-clause-reasons c = (
  not_done (at 1 (action.Edit (SetTable 4 1 (record { left = 0; right = 0 }))) ∷ [])
      (record { line = 1; kind = kind.NoSuchPlace; before = begun empty_song })
      (something _ (action_takes _ _ refl) none)
      refl refl refl,
  not_done (at 1 (action.Edit (SetPatternCount 0xD1)) ∷ [])
      (record { line = 1; kind = kind.OutOfLimit; before = begun empty_song })
      (something _ (action_takes _ _ refl) none)
      refl refl refl,
  not_done (at 1 (action.Edit (SetInstrument 1 9 0)) ∷ [])
      (record { line = 1; kind = kind.BadValue; before = begun empty_song })
      (something _ (action_takes _ _ refl) none)
      refl refl refl,
  no_script
      (record {
        place = 1;
        counted = refl;
        first =
            first_later _ _ 0 (inr (action.Edit (SetTable 4 1 (record { left = 0; right = 0 })), action_takes _ _ refl))
            (first_here _ _ (is_bad_line _ _ refl refl));
      })
      refl,
)
