-- The code of the pulse step in memory.
use Rattle.std.proofs.Common.{◌≡◌, ◌≢◌, ℕ, ◌+◌, ◌%◌, ◌<◌, ◌≤◌, ap, subst, arith, refl}
use Rattle.song_model.specs.declared.tables.TableName.TheVariants.{Pulse}
use Rattle.play_model.specs.LookUps.{LookUps}
use Rattle.play_model.specs.PulseStep.{pulse_step}
use Rattle.scopes.specs.Desk.{Desk, Layout}
use Rattle.player_memory.specs.declared.labels.TheConstants.{PULSE_LEFTS, NEXT_PULSE_LEFTS, PULSE_RIGHTS}
use Rattle.player_memory.specs.Playing.{place_in}
use Rattle.player_desk.proofs.Laws.{Reads, reader_of, voice_desk, lent_of, finds, begins, plays}
use Rattle.pulse_code.specs.PulseBlock.{pulse_tree, HasPulseTable, PulseBlockSteps}
use Rattle.player_memory.specs.Playing.{with_voice}
use Rattle.pulse_code.proofs.Pulses.{RowAt, NextAt, PulseGround, pulse_leads}

row_at : (layout : Layout) (rows voice count : ℕ) (look : LookUps) (desk : Desk) (p : ℕ) →
    HasPulseTable layout rows desk.at look count → p ≢ 0 → p ≤ count →
    RowAt (reader_of layout rows voice desk) look p
row_at layout rows voice count look desk p has some few =
    let row = has.table.each p (omega (arith, some)) few in record {
      left = finds layout rows voice desk PULSE_LEFTS p _ row.left;
      right = finds layout rows voice desk PULSE_RIGHTS p _ row.right;
      left_byte = row.left_byte;
      right_byte = row.right_byte;
    }

next_place : (layout : Layout) (p : ℕ) → layout.address NEXT_PULSE_LEFTS ≡ layout.address PULSE_LEFTS + 1 →
    place_in layout PULSE_LEFTS (p + 1) ≡ place_in layout NEXT_PULSE_LEFTS p
next_place layout p e = rw e (ap (λ n. n % 65536) (omega arith))

next_at : (layout : Layout) (rows voice count : ℕ) (look : LookUps) (desk : Desk) (p : ℕ) →
    HasPulseTable layout rows desk.at look count → p < count → NextAt (reader_of layout rows voice desk) look p
next_at layout rows voice count look desk p has few =
    let row = has.table.each (p + 1) (omega arith) (omega (arith, few)) in record {
      left = subst (λ place. Reads (reader_of layout rows voice desk) place (look.row Pulse (p + 1)).left)
          (next_place layout p has.next) (finds layout rows voice desk PULSE_LEFTS (p + 1) _ row.left);
      right = finds layout rows voice desk PULSE_RIGHTS (p + 1) _ row.right;
      left_byte = row.left_byte;
      below = (let most = has.table.few in omega (arith, most, few));
    }

pub pulse_block_steps : PulseBlockSteps
pulse_block_steps layout rows voice count look s desk room uses has three at playing on kept =
    plays layout rows voice pulse_tree desk (with_voice (pulse_step look s.voice) s) refl room uses three at
    (pulse_leads (reader_of layout rows voice desk) look s (lent_of layout desk) (voice_desk layout voice desk)
    (voice_desk layout voice desk) ground on.width on.time kept (begins layout voice desk s playing))
  where
    ground : PulseGround (reader_of layout rows voice desk) look s.voice.pulse_ptr s.voice.pulse_time
    ground = record {
      row = λ some. row_at layout rows voice count look desk s.voice.pulse_ptr has some on.row;
      next = λ some goes. next_at layout rows voice count look desk s.voice.pulse_ptr has (on.next some goes);
      runs = on.runs;
    }
