use Rattle.std.proofs.Common.{ℕ, ◌<◌, sym, ◌∙◌, subst}
use Rattle.packing_rules.proofs.Laws.{kept_parts}
use Rattle.table_pack.specs.Programs.{programs_of}
use Rattle.song_pack.proofs.PackedTables.{marked_within, packed_table}
use Rattle.song_pack.proofs.programs.packed_programs.Goals as goal

pub renumber-requires : goal.renumber-requires
renumber-requires c p is =
    c.requires.stored p
    (kept_parts (programs_of c.args.table.now c.args.marks.now c.args.entries.now c.args.pulse) p
    (sym (c.merge_programs-merged.ensures.keep p) ∙ is)).reached

pub returns : goal.returns
returns c =
    packed_table (programs_of c.args.table.now c.args.marks.now c.args.entries.now c.args.pulse) c.in_ok-kept.kept.rows
    c.in_ok-rows.rows c.merge_programs-merged.result.keep c.merge_programs-merged.result.to c.in_ok-kept.kept.to
    c.one_after_other-to.result c.requires
    (λ p is. subst (λ (n : ℕ). p < n) c.told-marks (marked_within c.args.marks.now p is))
    c.merge_programs-merged.ensures.keep c.merge_programs-merged.ensures.to c.in_ok-kept.ensures
    c.one_after_other-to.ensures.both c.one_after_other-to.ensures.long c.in_ok-rows.ensures
