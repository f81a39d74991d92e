-- The code of the wave step, run; and what the law on it asks.
use Rattle.std.proofs.Common.{◌≡◌, ℕ, zero, suc, ◌+◌, ◌<◌, ◌≤◌, true, nat_le, nat_lt, refl, sym}
use Rattle.std.proofs.Common.{inl, inr, arith}
use Rattle.std.proofs.lemmas.Bool.{le-leb, lt-ltb, both_ways}
use Rattle.play_model.specs.LookUps.{LookUps}
use Rattle.player_memory.specs.declared.labels.TheConstants.{WAVE_LEFTS, WAVE_RIGHTS}
use Rattle.player_memory.specs.Playing.{place_in, IsListed, IsRow}
use Rattle.wave_code.specs.WorkedWave.{its_rows, worked_layout, worked_rows, WavesAreWorked, RowsAreWorked}
use Rattle.player_memory.specs.Forms.{stored}
use Rattle.player_memory.proofs.Laws.{off_variables}

pub waves_are_worked : WavesAreWorked
waves_are_worked = record {
  sets = record {
    way_is = refl;
    row_is = refl;
    time_is = refl;
    wave_is = refl;
    a_is = refl;
    y_is = refl;
    cost_is =
        refl;
  };
  waits = record {
    way_is = refl;
    row_is = refl;
    time_is = refl;
    wave_is = refl;
    a_is = refl;
    y_is = refl;
    cost_is =
        refl;
  };
  is_over = record {
    way_is = refl;
    row_is = refl;
    time_is = refl;
    wave_is = refl;
    a_is = refl;
    y_is = refl;
    cost_is =
        refl;
  };
  keeps_note = record {
    way_is = refl;
    row_is = refl;
    time_is = refl;
    wave_is = refl;
    a_is = refl;
    y_is = refl;
    cost_is = refl;
  };
  commands = record {
    way_is = refl;
    row_is = refl;
    time_is = refl;
    wave_is = refl;
    a_is = refl;
    y_is = refl;
    cost_is
        = refl;
  };
  jumps = record {
    way_is = refl;
    row_is = refl;
    time_is = refl;
    wave_is = refl;
    a_is = refl;
    y_is = refl;
    cost_is =
        refl;
  };
  has_none = record {
    way_is = refl;
    row_is = refl;
    time_is = refl;
    wave_is = refl;
    a_is = refl;
    y_is = refl;
    cost_is
        = refl;
  };
  not_kept = record {
    way_is = refl;
    row_is = refl;
    time_is = refl;
    wave_is = refl;
    a_is = refl;
    y_is = refl;
    cost_is
        = refl;
  };
}

reads_at : (place : ℕ) → nat_le 0x1000 place ≡ true → nat_lt place 0x1200 ≡ true →
    (worked_layout true).may_read place ≡ true
reads_at place from to = rw (from, to) refl

listed : (label number place byte : ℕ) → place_in (worked_layout true) label number ≡ place →
    worked_rows place ≡ byte → 0x1108 ≤ place → place < 0x1200 →
    IsListed (worked_layout true) 4 worked_rows label number byte
listed label number place byte is holds from to = record {
  elsewhere = rw is (record {
    variables = off_variables (worked_layout true) refl place (inr (omega (arith, from)));
    slides_low = λ kept. inr (omega (arith, from));
    slides_high = λ kept. inr (omega (arith, from));
    low = λ e. omega (arith, from, e);
    high = λ e. omega (arith, from, e);
    registers = inl (omega (arith, to));
  });
  reads = rw is (reads_at place (le-leb 0x1000 place (omega (arith, from))) (lt-ltb place 0x1200 to));
  is = rw is holds;
}

row_at : (number left right : ℕ) → 1 ≤ number → number ≤ 6 →
    place_in (worked_layout true) WAVE_LEFTS number ≡ 0x111F + number →
    place_in (worked_layout true) WAVE_RIGHTS number ≡ 0x112F + number → worked_rows (0x111F + number) ≡ left →
    worked_rows (0x112F + number) ≡ right → left < 256 → right < 256 →
    IsRow (worked_layout true) 4 worked_rows WAVE_LEFTS WAVE_RIGHTS number (record { left = left; right = right })
row_at number left right from to at_left at_right left_is right_is left_byte right_byte = record {
  left = listed WAVE_LEFTS number (0x111F + number) left at_left left_is (omega arith) (omega (arith, to));
  right = listed WAVE_RIGHTS number (0x112F + number) right at_right right_is (omega arith) (omega (arith, to));
  left_byte = left_byte;
  right_byte = right_byte;
}

each : (number : ℕ) → 1 ≤ number → number ≤ 6 →
    IsRow (worked_layout true) 4 worked_rows WAVE_LEFTS WAVE_RIGHTS number (stored (its_rows number))
each zero from to = absurd (omega (arith, from))
each (suc zero) from to =
    row_at 1 0x41 0x80 (omega arith) (omega arith) refl refl refl refl (omega arith) (omega arith)
each (suc (suc zero)) from to =
    row_at 2 0xE3 0xC (omega arith) (omega arith) refl refl refl refl (omega arith) (omega arith)
each (suc (suc (suc zero))) from to =
    row_at 3 0x1 0x0 (omega arith) (omega arith) refl refl refl refl (omega arith) (omega arith)
each (suc (suc (suc (suc zero)))) from to =
    row_at 4 0xF5 0xA7 (omega arith) (omega arith) refl refl refl refl (omega arith) (omega arith)
each (suc (suc (suc (suc (suc zero))))) from to =
    row_at 5 0x11 0xFF (omega arith) (omega arith) refl refl refl refl (omega arith) (omega arith)
each (suc (suc (suc (suc (suc (suc zero)))))) from to =
    row_at 6 0xFF 0x2 (omega arith) (omega arith) refl refl refl refl (omega arith) (omega arith)
each (suc (suc (suc (suc (suc (suc (suc more))))))) from to = absurd (omega (arith, to))

bytes : (number : ℕ) → 1 ≤ number → number ≤ 6 → (its_rows number).right < 256
bytes zero from to = absurd (omega (arith, from))
bytes (suc zero) from to = omega arith
bytes (suc (suc zero)) from to = omega arith
bytes (suc (suc (suc zero))) from to = omega arith
bytes (suc (suc (suc (suc zero)))) from to = omega arith
bytes (suc (suc (suc (suc (suc zero))))) from to = omega arith
bytes (suc (suc (suc (suc (suc (suc zero)))))) from to = omega arith
bytes (suc (suc (suc (suc (suc (suc (suc more))))))) from to = absurd (omega (arith, to))

pub rows_are_worked : (look : LookUps) → RowsAreWorked look
rows_are_worked look = record {
  table = record {
    table = record { few = omega arith; each = each };
    bytes = bytes;
    next_left = refl;
    next_right = refl;
  };
  sets = record {
    next = λ some. omega arith;
    no_jump = λ some e. omega (arith, e);
    delay = λ some low. omega (arith, low);
    time = λ some from. refl;
  };
  waits = record {
    next = λ some. omega arith;
    no_jump = λ some e. omega (arith, e);
    delay = λ some low. omega arith;
    time = λ some from. absurd (omega (arith, from));
  };
  has_none = record {
    next = λ some. absurd (some refl);
    no_jump = λ some. absurd (some refl);
    delay = λ some. absurd (some refl);
    time = λ some. absurd (some refl);
  };
  kept = record {
    table = λ some. refl;
    command = λ some is. refl;
    delay = λ some low. refl;
    shared = record {
      tone = λ on. refl;
      slide = λ on. refl;
      once = λ on. refl;
      delay = λ on. refl;
      command = λ on. refl;
      legato = λ on. refl;
      soft = λ on. refl;
      filter = λ on. refl;
      control = λ on. refl;
      cutoff = λ on. refl;
    };
  };
  jump = λ on. on.no_jump (λ e. omega (arith, e)) refl;
  none_behind = λ on. (let next = on.next (λ e. omega (arith, e)) in omega (arith, next));
  long = λ on. (let time = on.delay (λ e. omega (arith, e)) (omega arith) in omega (arith, time));
  no_delay = λ on. (let time = on.time (λ e. omega (arith, e)) (omega arith) in omega (arith, time));
  not_kept = λ keeps. both_ways true (sym (keeps.table (λ e. omega (arith, e)))) refl;
  commands_not_kept = λ keeps. both_ways true (sym (keeps.command (λ e. omega (arith, e)) refl)) refl;
  delays_not_kept = λ keeps. both_ways true (sym (keeps.delay (λ e. omega (arith, e)) (omega arith))) refl;
  special_not_kept = λ keeps. both_ways true (sym (keeps.shared.delay refl)) refl;
  delay = λ has. (let byte = (has.table.each 2 (omega arith) (omega arith)).left.is in omega (arith, byte));
  low = λ has. (let byte = (has.table.each 3 (omega arith) (omega arith)).left.is in omega (arith, byte));
  note = λ has. (let byte = (has.table.each 1 (omega arith) (omega arith)).right.is in omega (arith, byte));
  param = λ has. (let byte = (has.table.each 4 (omega arith) (omega arith)).right.is in omega (arith, byte));
  label = λ has. (let next = has.next_left in omega (arith, next));
  right_label = λ has. (let next = has.next_right in omega (arith, next));
}
