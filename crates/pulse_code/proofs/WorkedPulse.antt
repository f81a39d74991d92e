-- The code of the pulse step, run; and what the law on it asks.
use Rattle.std.proofs.Common.{◌≡◌, ℕ, zero, suc, ◌+◌, ◌<◌, ◌≤◌, true, nat_le, nat_lt, refl, inl, inr, arith}
use Rattle.std.proofs.lemmas.Bool.{le-leb, lt-ltb}
use Rattle.play_model.specs.LookUps.{LookUps}
use Rattle.player_memory.specs.declared.labels.TheConstants.{PULSE_LEFTS, PULSE_RIGHTS}
use Rattle.player_memory.specs.Playing.{place_in, IsListed, IsRow}
use Rattle.pulse_code.specs.WorkedPulse.{worked_layout, worked_rows, PulsesAreWorked, RowsAreWorked}
use Rattle.player_memory.proofs.Laws.{off_variables}

pub pulses_are_worked : PulsesAreWorked
pulses_are_worked = record {
  sets = record { ends = refl; row_is = refl; time_is = refl; low_is = refl; high_is = refl; cost_is = refl };
  begins = record { ends = refl; row_is = refl; time_is = refl; low_is = refl; high_is = refl; cost_is = refl };
  goes_on = record { ends = refl; row_is = refl; time_is = refl; low_is = refl; high_is = refl; cost_is = refl };
  jumps = record { ends = refl; row_is = refl; time_is = refl; low_is = refl; high_is = refl; cost_is = refl };
  stops = record { ends = refl; row_is = refl; time_is = refl; low_is = refl; high_is = refl; cost_is = refl };
  has_none = record { ends = refl; row_is = refl; time_is = refl; low_is = refl; high_is = refl; cost_is = refl };
  not_kept = record { ends = refl; row_is = refl; time_is = refl; low_is = refl; high_is = refl; cost_is = refl };
}

reads_at : (place : ℕ) → nat_le 0x1000 place ≡ true → nat_lt place 0x1200 ≡ true →
    (worked_layout true).may_read place ≡ true
reads_at place from to = rw (from, to) refl

listed : (label number place byte : ℕ) → place_in (worked_layout true) label number ≡ place →
    worked_rows place ≡ byte → 0x1108 ≤ place → place < 0x1200 →
    IsListed (worked_layout true) 4 worked_rows label number byte
listed label number place byte is holds from to = record {
  elsewhere = rw is (record {
    variables = off_variables (worked_layout true) refl place (inr (omega (arith, from)));
    slides_low = λ kept. inr (omega (arith, from));
    slides_high = λ kept. inr (omega (arith, from));
    low = λ e. omega (arith, from, e);
    high = λ e. omega (arith, from, e);
    registers = inl (omega (arith, to));
  });
  reads = rw is (reads_at place (le-leb 0x1000 place (omega (arith, from))) (lt-ltb place 0x1200 to));
  is = rw is holds;
}

row_at : (number left right : ℕ) → 1 ≤ number → number ≤ 5 →
    place_in (worked_layout true) PULSE_LEFTS number ≡ 0x111F + number →
    place_in (worked_layout true) PULSE_RIGHTS number ≡ 0x112F + number → worked_rows (0x111F + number) ≡ left →
    worked_rows (0x112F + number) ≡ right → left < 256 → right < 256 →
    IsRow (worked_layout true) 4 worked_rows PULSE_LEFTS PULSE_RIGHTS number (record { left = left; right = right })
row_at number left right from to at_left at_right left_is right_is left_byte right_byte = record {
  left = listed PULSE_LEFTS number (0x111F + number) left at_left left_is (omega arith) (omega (arith, to));
  right = listed PULSE_RIGHTS number (0x112F + number) right at_right right_is (omega arith) (omega (arith, to));
  left_byte = left_byte;
  right_byte = right_byte;
}

each : (number : ℕ) → 1 ≤ number → number ≤ 5 →
    IsRow (worked_layout true) 4 worked_rows PULSE_LEFTS PULSE_RIGHTS number
    (record { left = worked_rows (0x111F + number); right = worked_rows (0x112F + number) })
each zero from to = absurd (omega (arith, from))
each (suc zero) from to = row_at 1 0x88 0x40 (omega arith) (omega arith) refl refl refl refl (omega arith) (omega arith)
each (suc (suc zero)) from to = row_at 2 2 0x30 (omega arith) (omega arith) refl refl refl refl (omega arith)
    (omega arith)
each (suc (suc (suc zero))) from to =
    row_at 3 1 0xF0 (omega arith) (omega arith) refl refl refl refl (omega arith) (omega arith)
each (suc (suc (suc (suc zero)))) from to =
    row_at 4 0xFF 1 (omega arith) (omega arith) refl refl refl refl (omega arith) (omega arith)
each (suc (suc (suc (suc (suc zero))))) from to =
    row_at 5 0 0 (omega arith) (omega arith) refl refl refl refl (omega arith) (omega arith)
each (suc (suc (suc (suc (suc (suc more)))))) from to = absurd (omega (arith, to))

pub rows_are_worked : (look : LookUps) → RowsAreWorked look
rows_are_worked look = record {
  table = record { table = record { few = omega arith; each = each }; next = refl };
  runs = record {
    row = omega arith;
    next = λ some goes. omega arith;
    runs = λ some time e. omega (arith, e);
    time = omega arith;
    width = omega arith;
  };
  stops = record {
    row = omega arith;
    next = λ some goes. absurd (goes refl);
    runs = λ some time. absurd (time refl);
    time = omega arith;
    width = omega arith;
  };
  has_none = record {
    row = omega arith;
    next = λ some. absurd (some refl);
    runs = λ some. absurd (some refl);
    time = omega arith;
    width = omega arith;
  };
  sixth = λ on. (let row = on.row in omega (arith, row));
  none_behind = λ on. (let next = on.next (λ e. omega (arith, e)) (λ e. omega (arith, e)) in omega (arith, next));
  stop_runs = λ on. on.runs (λ e. omega (arith, e)) (λ e. omega (arith, e)) refl;
  wide = λ on. (let width = on.width in omega (arith, width));
  long = λ on. (let time = on.time in omega (arith, time));
  other = λ has. (let byte = (has.table.each 4 (omega arith) (omega arith)).right.is in omega (arith, byte));
  label = λ has. (let next = has.next in omega (arith, next));
}
