use Rattle.std.proofs.Common.{◌≡◌}
use Rattle.edit_script.specs.declared.forms.Keyword.TheVariants.{Row, RowInsert, RowDelete, PatternLength, PatternCopy}
use Rattle.edit_script.specs.declared.forms.Keyword.TheVariants.{PatternTranspose, Order, OrderInsert, OrderDelete}
use Rattle.edit_script.specs.declared.forms.Keyword.TheVariants.{OrderRestart, Instrument, InstrumentName, Table}
use Rattle.edit_script.specs.declared.forms.Keyword.TheVariants.{TableInsert, TableDelete, Text, SubtuneAdd}
use Rattle.edit_script.specs.declared.forms.Keyword.TheVariants.{SubtuneRemove, PatternCount, Undo, Redo}
use Rattle.edit_script.specs.Reading.{made, word_of}
use Rattle.edit_script.proofs.forms.form_of_text.Goals as goal

pub returns-in_default-clause-none : goal.returns-in_default-clause-none
unfolding word_of made
returns-in_default-clause-none c = λ keyword.
    elim keyword as (λ k. c.args.word.now ≡ word_of k → ⊥) [
      | Row ↦ c.in_default.not-row
      | RowInsert ↦ c.in_default.not-text
      | RowDelete ↦ c.in_default.not-text-2
      | PatternLength ↦ c.in_default.not-text-3
      | PatternCopy ↦ c.in_default.not-text-4
      | PatternTranspose ↦ c.in_default.not-text-5
      | Order ↦ c.in_default.not-order
      | OrderInsert ↦ c.in_default.not-text-6
      | OrderDelete ↦ c.in_default.not-text-7
      | OrderRestart ↦ c.in_default.not-text-8
      | Instrument ↦ c.in_default.not-instrument
      | InstrumentName ↦ c.in_default.not-text-9
      | Table ↦ c.in_default.not-table
      | TableInsert ↦ c.in_default.not-text-10
      | TableDelete ↦ c.in_default.not-text-11
      | Text ↦ c.in_default.not-text-12
      | SubtuneAdd ↦ c.in_default.not-text-13
      | SubtuneRemove ↦ c.in_default.not-text-14
      | PatternCount ↦ c.in_default.not-text-15
      | Undo ↦ c.in_default.not-undo
      | Redo ↦ c.in_default.not-redo
    ]
