use Rattle.std.proofs.Common.{false, List, sym, ◌∙◌, subst}
use Rattle.song_model.specs.declared.tables.TableRow.{TableRow}
use Rattle.packing_rules.specs.Renumbering.{wave_programs}
use Rattle.packing_rules.proofs.Laws.{playable_programs_are_whole}
use Rattle.table_pack.specs.Programs.{programs_of}
use Rattle.song_pack.specs.Numbers.{sets_of}
use Rattle.song_pack.specs.Programs.{IsPackedTable}
use Rattle.song_pack.proofs.StoredTables.{wave_number}
use Rattle.song_pack.proofs.MadeTables.{used_sets, no_speed_0, foreign_numbers, wave_rows_are, row_numbers}
use Rattle.song_pack.proofs.tables.packed_tables.Goals as goal

pub packed_programs-requires : goal.packed_programs-requires
packed_programs-requires c =
    (playable_programs_are_whole c.args.song.now (sets_of c.args.usage.now) c.requires.playable
    (used_sets c.args.song.now c.args.usage.now c.requires.parts)).2

pub packed_programs-requires-2 : goal.packed_programs-requires-2
packed_programs-requires-2 c =
    (playable_programs_are_whole c.args.song.now (sets_of c.args.usage.now) c.requires.playable
    (used_sets c.args.song.now c.args.usage.now c.requires.parts)).1

pub packed_programs-requires-3 : goal.packed_programs-requires-3
packed_programs-requires-3 c =
    let whole = (playable_programs_are_whole c.args.song.now (sets_of c.args.usage.now) c.requires.playable
    (used_sets c.args.song.now c.args.usage.now c.requires.parts)).0 in
    let others = foreign_numbers c.args.song.now (sets_of c.args.usage.now) _ c.in_ok-pulse.ensures.numbers
    c.in_ok-filter.ensures.numbers c.in_ok-speed.ensures.number in
    rw (wave_rows_are c.args.song.now (sets_of c.args.usage.now) _ c.in_ok-rows.rows others c.in_ok-rows.ensures) whole

pub returns : goal.returns
returns c =
    let used = sets_of c.args.usage.now in
    let others = foreign_numbers c.args.song.now used _ c.in_ok-pulse.ensures.numbers c.in_ok-filter.ensures.numbers
    c.in_ok-speed.ensures.number in
    let rows = wave_rows_are c.args.song.now used _ c.in_ok-rows.rows others c.in_ok-rows.ensures in
    let wave : IsPackedTable (wave_programs c.args.song.now used) c.in_ok-wave.wave.rows c.in_ok-wave.wave.to =
    subst (λ (all : List TableRow). IsPackedTable
    (programs_of all c.args.usage.now.wave c.args.usage.now.wave_pointers false)
    c.in_ok-wave.wave.rows c.in_ok-wave.wave.to) rows c.in_ok-wave.ensures in
    record {
      wave = wave.rows_are;
      pulse = c.in_ok-pulse.ensures.rows_are;
      filter = c.in_ok-filter.ensures.rows_are;
      speed = c.in_ok-speed.ensures.rows_are;
      numbers = row_numbers c.args.song.now used _
          (λ p. wave.numbers p ∙ sym (wave_number c.args.song.now used p)) others;
    }

pub packed_speeds-requires : goal.packed_speeds-requires
packed_speeds-requires c = no_speed_0 c.args.song.now c.args.usage.now c.requires.parts
