-- Rows of the wave table in their form.
use Rattle.std.proofs.Common.{refl}
use Rattle.player_memory.proofs.claims.worked_forms.Goals as goal

pub returns : goal.returns
returns c = record {
  no_delay = refl;
  longest = refl;
  first_wave = refl;
  last_wave = refl;
  silent = refl;
  low_wave = refl;
  command = refl;
  jump = refl;
  relative = refl;
  own_note = refl;
  parameter = refl;
  leads = refl;
}
