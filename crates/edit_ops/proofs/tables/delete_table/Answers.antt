use Rattle.std.proofs.Common.{◌-◌, ◌<◌, ◌∙◌, length, ap, arith}
use Rattle.std.proofs.lemmas.List.Edits.{length-remove}
use Rattle.song_model.specs.declared.tables.TableName.{TableName}
use Rattle.song_model.specs.LookUp.{table_of}
use Rattle.edit_ops.specs.declared.shifts.Shift.TheVariants.{Down}
use Rattle.edit_ops.specs.Pointers.{shifted}
use Rattle.edit_ops.proofs.PointerLaws.{size_made}
use Rattle.edit_ops.proofs.TableLaws.{table_row_stands}
use Rattle.edit_ops.proofs.tables.delete_table.Goals as goal

pub removed-requires : goal.removed-requires
removed-requires c =
    let name = c.table_named-name.result in
    let song = c.args.song.now in
    let size = size_made name (shifted (Down c.args.number)) song c.in_ok-parts.parts c.table.result.now
    c.as_slice-stored.result.now c.in_ok-parts.ensures.moved c.table.ensures c.as_slice-stored.ensures.items
    ∙ ap (λ (n : TableName). length (table_of song n)) c.table_named-name.ensures in
    let stands = table_row_stands song c.args.table c.args.number c.requires in
    omega (arith, size, stands, c.from.ensures)

pub put_parts-requires-clause-limit : goal.put_parts-requires-clause-limit
put_parts-requires-clause-limit c =
    let name = c.table_named-name.result in
    let song = c.args.song.now in
    let size = size_made name (shifted (Down c.args.number)) song c.in_ok-parts.parts c.table.result.now
    c.as_slice-stored.result.now c.in_ok-parts.ensures.moved c.table.ensures c.as_slice-stored.ensures.items
    ∙ ap (λ (n : TableName). length (table_of song n)) c.table_named-name.ensures in
    let stands = table_row_stands song c.args.table c.args.number c.requires in
    let inside : c.from.result - 1 < length c.as_slice-stored.result.now = omega
    (arith, size, stands, c.from.ensures) in
    let n = length-remove c.as_slice-stored.result.now (c.from.result - 1) inside in
    omega (
      arith,
      n,
      ap length c.in_ok-rows.ensures,
      c.as_slice-stored.ensures.limit,
      ap length c.as_slice-stored.ensures.items,
    )
