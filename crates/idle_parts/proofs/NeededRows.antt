-- The conditions of variables are needed, computed.
use Rattle.std.proofs.Common.{refl}
use Rattle.player_text.specs.declared.texts.Start.{Start}
use Rattle.variable_places.specs.Places.{voice_rows, shared_rows}
use Rattle.idle_parts.specs.NeededRows.{RowsAreNeeded}

pub rows_are_needed : (start : Start) → RowsAreNeeded start
unfolding voice_rows shared_rows
rows_are_needed start = record { voice = refl; shared = refl; other = refl; own = refl; row = refl }
