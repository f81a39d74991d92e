use Rattle.std.proofs.Common.{refl}
use Rattle.song_model.specs.declared.tables.TableName.TheVariants.{Wave}
use Rattle.usage.proofs.KeptParts.{rows_kept, kept_parts}
use Rattle.usage.proofs.parts.parts_of.Goals as goal

pub facts-facts-requires-clause-wave : goal.facts-facts-requires-clause-wave
facts-facts-requires-clause-wave c =
    rows_kept c.args.song.now Wave (λ e. cc) c.requires.found.wave_rows c.requires.none c.row_marks-wave.ensures
    c.requires.found.wave.reached

pub returns : goal.returns
returns c =
    kept_parts c.args.song.now c.args.found.now _ c.requires.found c.requires.none c.copy_from_slice.ensures.after refl
    c.row_marks-wave.ensures
    c.row_marks.ensures c.row_marks-2.ensures refl refl refl refl c.features.ensures c.facts-facts.ensures
