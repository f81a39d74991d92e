use Rattle.std.proofs.Common.{◌≤◌, List, length, refl, sym, subst}
use Rattle.song_model.specs.declared.tables.TableRow.{TableRow}
use Rattle.table_pack.specs.Programs.{AreSegments, AreEquals, IsTableOf, programs_of}
use Rattle.table_pack.proofs.Mapped.{staying, table_of, stored_begin}
use Rattle.table_pack.proofs.programs.merge_programs.Goals as goal

pub map_of-requires-clause-segments : goal.map_of-requires-clause-segments
map_of-requires-clause-segments c =
    let table = programs_of c.args.table.now c.args.marks.now c.args.entries.now c.args.pulse in
    let rows = c.as_slice-rows.ensures.items in
    let is : IsTableOf table c.as_slice-rows.result.now c.args.marks.now c.args.pulse =
    rw rows (table_of c.args.table.now c.args.marks.now c.args.entries.now c.args.pulse c.requires) in
    let are : AreSegments table c.as_slice-rows.result.now c.args.marks.now c.first_rows-firsts.result =
    c.first_rows-firsts.ensures table is in
    let equal : AreEquals table c.first_equals-equals.result = λ s begun.
    c.first_equals-equals.ensures table s are
    (λ k small. c.closed_segments-closed.ensures table k are (λ p. refl) small)
    (subst (λ (r : List TableRow). s ≤ length r) (sym rows) (stored_begin table s c.requires begun)) begun in
    staying table c.as_slice-rows.result.now c.args.marks.now c.first_rows-firsts.result c.first_equals-equals.result are
    equal

pub returns-clause-keep : goal.returns-clause-keep
returns-clause-keep c =
    let table = programs_of c.args.table.now c.args.marks.now c.args.entries.now c.args.pulse in
    let rows = c.as_slice-rows.ensures.items in
    let is : IsTableOf table c.as_slice-rows.result.now c.args.marks.now c.args.pulse =
    rw rows (table_of c.args.table.now c.args.marks.now c.args.entries.now c.args.pulse c.requires) in
    let are : AreSegments table c.as_slice-rows.result.now c.args.marks.now c.first_rows-firsts.result =
    c.first_rows-firsts.ensures table is in
    let equal : AreEquals table c.first_equals-equals.result = λ s begun.
    c.first_equals-equals.ensures table s are
    (λ k small. c.closed_segments-closed.ensures table k are (λ p. refl) small)
    (subst (λ (r : List TableRow). s ≤ length r) (sym rows) (stored_begin table s c.requires begun)) begun in
    (c.map_of.ensures table are equal).keep_is

pub returns-clause-to : goal.returns-clause-to
returns-clause-to c =
    let table = programs_of c.args.table.now c.args.marks.now c.args.entries.now c.args.pulse in
    let rows = c.as_slice-rows.ensures.items in
    let is : IsTableOf table c.as_slice-rows.result.now c.args.marks.now c.args.pulse =
    rw rows (table_of c.args.table.now c.args.marks.now c.args.entries.now c.args.pulse c.requires) in
    let are : AreSegments table c.as_slice-rows.result.now c.args.marks.now c.first_rows-firsts.result =
    c.first_rows-firsts.ensures table is in
    let equal : AreEquals table c.first_equals-equals.result = λ s begun.
    c.first_equals-equals.ensures table s are
    (λ k small. c.closed_segments-closed.ensures table k are (λ p. refl) small)
    (subst (λ (r : List TableRow). s ≤ length r) (sym rows) (stored_begin table s c.requires begun)) begun in
    (c.map_of.ensures table are equal).to_is
