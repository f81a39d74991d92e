-- Where the lines that store a byte which is kept under a condition change nothing else.
use Rattle.std.proofs.Common.{◌≡◌, ℕ, ◌+◌, ◌%◌, Bool, true, false, List, [], ◌∷◌, nat_eq, nat_le, if◌then◌else◌}
use Rattle.std.proofs.Common.{refl}
use Rattle.std.proofs.lemmas.Bool.{ne_eqb}
use Rattle.cpu6502.specs.declared.cpu.Cpu.{Cpu}
use Rattle.scopes.specs.declared.line.Operand.{Operand}
use Rattle.scopes.specs.declared.line.Operand.TheVariants.{Var, Own, Pointed}
use Rattle.scopes.specs.Desk.{Desk, Layout, operand_place}
use Rattle.scopes.specs.Trees.{Tree}
use Rattle.scopes.specs.Meaning.{Done, each_one, ran}
use Rattle.player_memory.specs.declared.conditions.TheConstants.{EFFECTS, SWINGS, NOTE_VIBRATO}
use Rattle.player_memory.specs.declared.conditions.TheConstants.{WAVE_DELAY, SKIP_FIRST, ROW_COMMAND}
use Rattle.player_memory.specs.declared.labels.TheConstants.{NEW_COMMAND, NEW_PARAM, COMMAND, PARAM, VIB_TIME}
use Rattle.player_memory.specs.declared.labels.TheConstants.{VIB_DELAY}
use Rattle.player_memory.specs.declared.labels.TheConstants.{LAST_NOTE, WAVE_TIME, VOLUME, FUNK_ONE, FUNK_TWO, VIBRATOS}
use Rattle.player_memory.specs.declared.labels.TheConstants.{TICK, KEPT_PARAM, GATE_TIMER, GATE_TIMERS}
use Rattle.player_text.specs.declared.tick.TheConstants.{NOTE_BEGUN, COMMAND_BEGUN}
use Rattle.player_text.specs.declared.fetch.TheConstants.{ENTRY_BEGUN}
use Rattle.idle_parts.specs.Idle.{Kept, Y, Carry, AreKept, part}
use Rattle.idle_parts.specs.KeptBytes.{MayReach, IdlesBut, NOTE_STORES, LeaveSame, StoresIdle}

-- where a note begins, whether a delay's time is kept, and whether its vibrato is read
note_command : (layout : Layout) (desk : Desk) → MayReach layout NOTE_STORES desk →
    layout.may_read ((layout.address VIBRATOS + desk.cpu.y) % 65536) ≡ true → (w : Bool) → layout.holds WAVE_DELAY ≡ w →
    (k : Bool) → layout.holds NOTE_VIBRATO ≡ k →
    IdlesBut layout NOTE_STORES (part EFFECTS 0 NOTE_BEGUN.now) desk (Y ∷ Carry ∷ [])
note_command layout desk may vibrato true delay true kept =
    let time : layout.may_write ((layout.address WAVE_TIME + desk.cpu.x) % 65536) ≡ true = may.0.1 in
    let command : layout.may_write ((layout.address COMMAND + desk.cpu.x) % 65536) ≡ true = may.1.0.1 in
    let param : layout.may_write ((layout.address PARAM + desk.cpu.x) % 65536) ≡ true = may.1.1.0.1 in
    record {
      ends = rw (delay, time, command, kept, vibrato, param) refl;
      stays = λ place away. (
          let t = ne_eqb place ((layout.address WAVE_TIME + desk.cpu.x) % 65536) away.0 in
          let c = ne_eqb place ((layout.address COMMAND + desk.cpu.x) % 65536) away.1.0 in
          let p = ne_eqb place ((layout.address PARAM + desk.cpu.x) % 65536) away.1.1.0 in
          rw (delay, time, command, kept, vibrato, param, t, c, p) refl);
      x = rw (delay, time, command, kept, vibrato, param) refl;
      decimal = rw (delay, time, command, kept, vibrato, param) refl;
      kept_are = rw (delay, time, command, kept, vibrato, param) (refl, (refl, tt));
    }
note_command layout desk may vibrato true delay false kept =
    let time : layout.may_write ((layout.address WAVE_TIME + desk.cpu.x) % 65536) ≡ true = may.0.1 in
    let command : layout.may_write ((layout.address COMMAND + desk.cpu.x) % 65536) ≡ true = may.1.0.1 in
    let param : layout.may_write ((layout.address PARAM + desk.cpu.x) % 65536) ≡ true = may.1.1.0.1 in
    record {
      ends = rw (delay, time, command, kept, param) refl;
      stays = λ place away. (
          let t = ne_eqb place ((layout.address WAVE_TIME + desk.cpu.x) % 65536) away.0 in
          let c = ne_eqb place ((layout.address COMMAND + desk.cpu.x) % 65536) away.1.0 in
          let p = ne_eqb place ((layout.address PARAM + desk.cpu.x) % 65536) away.1.1.0 in
          rw (delay, time, command, kept, param, t, c, p) refl);
      x = rw (delay, time, command, kept, param) refl;
      decimal = rw (delay, time, command, kept, param) refl;
      kept_are = rw (delay, time, command, kept, param) (refl, (refl, tt));
    }
note_command layout desk may vibrato false delay true kept =
    let command : layout.may_write ((layout.address COMMAND + desk.cpu.x) % 65536) ≡ true = may.1.0.1 in
    let param : layout.may_write ((layout.address PARAM + desk.cpu.x) % 65536) ≡ true = may.1.1.0.1 in
    record {
      ends = rw (delay, command, kept, vibrato, param) refl;
      stays = λ place away. (
          let c = ne_eqb place ((layout.address COMMAND + desk.cpu.x) % 65536) away.1.0 in
          let p = ne_eqb place ((layout.address PARAM + desk.cpu.x) % 65536) away.1.1.0 in
          rw (delay, command, kept, vibrato, param, c, p) refl);
      x = rw (delay, command, kept, vibrato, param) refl;
      decimal = rw (delay, command, kept, vibrato, param) refl;
      kept_are = rw (delay, command, kept, vibrato, param) (refl, (refl, tt));
    }
note_command layout desk may vibrato false delay false kept =
    let command : layout.may_write ((layout.address COMMAND + desk.cpu.x) % 65536) ≡ true = may.1.0.1 in
    let param : layout.may_write ((layout.address PARAM + desk.cpu.x) % 65536) ≡ true = may.1.1.0.1 in
    record {
      ends = rw (delay, command, kept, param) refl;
      stays = λ place away. (
          let c = ne_eqb place ((layout.address COMMAND + desk.cpu.x) % 65536) away.1.0 in
          let p = ne_eqb place ((layout.address PARAM + desk.cpu.x) % 65536) away.1.1.0 in
          rw (delay, command, kept, param, c, p) refl);
      x = rw (delay, command, kept, param) refl;
      decimal = rw (delay, command, kept, param) refl;
      kept_are = rw (delay, command, kept, param) (refl, (refl, tt));
    }

-- its other side, the same
note_other : (layout : Layout) (desk : Desk) → MayReach layout (Own WAVE_TIME ∷ []) desk → (w : Bool) →
    layout.holds WAVE_DELAY ≡ w →
    IdlesBut layout (Own WAVE_TIME ∷ []) (part EFFECTS 1 NOTE_BEGUN.now) desk (Y ∷ Carry ∷ [])
note_other layout desk may true delay =
    let time : layout.may_write ((layout.address WAVE_TIME + desk.cpu.x) % 65536) ≡ true = may.0.1 in
    record {
      ends = rw (delay, time) refl;
      stays = λ place away. (
          let t = ne_eqb place ((layout.address WAVE_TIME + desk.cpu.x) % 65536) away.0 in
          rw (delay, time, t) refl);
      x = rw (delay, time) refl;
      decimal = rw (delay, time) refl;
      kept_are = rw (delay, time) (refl, (refl, tt));
    }
note_other layout desk may false delay = record {
  ends = rw delay refl;
  stays = λ place away. rw delay refl;
  x = rw delay refl;
  decimal = rw delay refl;
  kept_are = rw delay (refl, (refl, tt));
}

-- both leave the same but the command and its parameter
note_sides : (layout : Layout) (desk : Desk) → MayReach layout NOTE_STORES desk →
    layout.may_read ((layout.address VIBRATOS + desk.cpu.y) % 65536) ≡ true → (w : Bool) → layout.holds WAVE_DELAY ≡ w →
    (k : Bool) → layout.holds NOTE_VIBRATO ≡ k →
    LeaveSame layout (Own COMMAND ∷ Own PARAM ∷ []) (part EFFECTS 0 NOTE_BEGUN.now) (part EFFECTS 1 NOTE_BEGUN.now) desk
note_sides layout desk may vibrato true delay true kept place away =
    let time : layout.may_write ((layout.address WAVE_TIME + desk.cpu.x) % 65536) ≡ true = may.0.1 in
    let command : layout.may_write ((layout.address COMMAND + desk.cpu.x) % 65536) ≡ true = may.1.0.1 in
    let param : layout.may_write ((layout.address PARAM + desk.cpu.x) % 65536) ≡ true = may.1.1.0.1 in
    let c = ne_eqb place ((layout.address COMMAND + desk.cpu.x) % 65536) away.0 in
    let p = ne_eqb place ((layout.address PARAM + desk.cpu.x) % 65536) away.1.0 in
    rw (delay, time, command, kept, vibrato, param, c, p) refl
note_sides layout desk may vibrato true delay false kept place away =
    let time : layout.may_write ((layout.address WAVE_TIME + desk.cpu.x) % 65536) ≡ true = may.0.1 in
    let command : layout.may_write ((layout.address COMMAND + desk.cpu.x) % 65536) ≡ true = may.1.0.1 in
    let param : layout.may_write ((layout.address PARAM + desk.cpu.x) % 65536) ≡ true = may.1.1.0.1 in
    let c = ne_eqb place ((layout.address COMMAND + desk.cpu.x) % 65536) away.0 in
    let p = ne_eqb place ((layout.address PARAM + desk.cpu.x) % 65536) away.1.0 in
    rw (delay, time, command, kept, param, c, p) refl
note_sides layout desk may vibrato false delay true kept place away =
    let command : layout.may_write ((layout.address COMMAND + desk.cpu.x) % 65536) ≡ true = may.1.0.1 in
    let param : layout.may_write ((layout.address PARAM + desk.cpu.x) % 65536) ≡ true = may.1.1.0.1 in
    let c = ne_eqb place ((layout.address COMMAND + desk.cpu.x) % 65536) away.0 in
    let p = ne_eqb place ((layout.address PARAM + desk.cpu.x) % 65536) away.1.0 in
    rw (delay, command, kept, vibrato, param, c, p) refl
note_sides layout desk may vibrato false delay false kept place away =
    let command : layout.may_write ((layout.address COMMAND + desk.cpu.x) % 65536) ≡ true = may.1.0.1 in
    let param : layout.may_write ((layout.address PARAM + desk.cpu.x) % 65536) ≡ true = may.1.1.0.1 in
    let c = ne_eqb place ((layout.address COMMAND + desk.cpu.x) % 65536) away.0 in
    let p = ne_eqb place ((layout.address PARAM + desk.cpu.x) % 65536) away.1.0 in
    rw (delay, command, kept, param, c, p) refl

-- where a row has no command, the same
row_command : (layout : Layout) (desk : Desk) → MayReach layout (Own COMMAND ∷ []) desk →
    layout.may_read ((layout.address VIBRATOS + desk.cpu.y) % 65536) ≡ true → (k : Bool) →
    layout.holds NOTE_VIBRATO ≡ k →
    IdlesBut layout (Own COMMAND ∷ []) (part EFFECTS 1 COMMAND_BEGUN.now) desk (Y ∷ Carry ∷ [])
row_command layout desk may vibrato true kept =
    let command : layout.may_write ((layout.address COMMAND + desk.cpu.x) % 65536) ≡ true = may.0.1 in
    record {
      ends = rw (command, kept, vibrato) refl;
      stays = λ place away. (
          let c = ne_eqb place ((layout.address COMMAND + desk.cpu.x) % 65536) away.0 in
          rw (command, kept, vibrato, c) refl);
      x = rw (command, kept, vibrato) refl;
      decimal = rw (command, kept, vibrato) refl;
      kept_are = rw (command, kept, vibrato) (refl, (refl, tt));
    }
row_command layout desk may vibrato false kept =
    let command : layout.may_write ((layout.address COMMAND + desk.cpu.x) % 65536) ≡ true = may.0.1 in
    record {
      ends = rw (command, kept) refl;
      stays = λ place away. (
          let c = ne_eqb place ((layout.address COMMAND + desk.cpu.x) % 65536) away.0 in
          rw (command, kept, c) refl);
      x = rw (command, kept) refl;
      decimal = rw (command, kept) refl;
      kept_are = rw (command, kept) (refl, (refl, tt));
    }

-- a slide's time, from 3 up or not
slide_time : (layout : Layout) (desk : Desk) → MayReach layout (Own VIB_TIME ∷ []) desk → (k : Bool) →
    nat_le 3 desk.cpu.a ≡ k → IdlesBut layout (Own VIB_TIME ∷ []) (part SWINGS 0 COMMAND_BEGUN.now) desk (Y ∷ [])
slide_time layout desk may true three =
    record {
      ends = rw three refl;
      stays = λ place away. rw three refl;
      x = rw three refl;
      decimal = rw three refl;
      kept_are = rw three (refl, tt);
    }
slide_time layout desk may false three =
    let writes : layout.may_write ((layout.address VIB_TIME + desk.cpu.x) % 65536) ≡ true = may.0.1 in
    record {
      ends = rw (three, writes) refl;
      stays = λ place away. (
          let apart = ne_eqb place ((layout.address VIB_TIME + desk.cpu.x) % 65536) away.0 in
          rw (three, writes, apart) refl);
      x = rw (three, writes) refl;
      decimal = rw (three, writes) refl;
      kept_are = rw (three, writes) (refl, tt);
    }

-- whether an entry is its pattern's first: behind it the tick is remembered, or its offset
first_row : (layout : Layout) (desk : Desk) → MayReach layout (Var KEPT_PARAM ∷ []) desk →
    layout.may_read ((layout.address TICK + desk.cpu.x) % 65536) ≡ true → (z : Bool) →
    nat_eq ((desk.cpu.y + 255) % 256) 0 ≡ z →
    IdlesBut layout (Var KEPT_PARAM ∷ []) (part SKIP_FIRST 0 ENTRY_BEGUN.now) desk (Y ∷ [])
first_row layout desk may tick true zero =
    let writes : layout.may_write (layout.address KEPT_PARAM) ≡ true = may.0.1 in
    record {
      ends = rw (writes, zero, tick) refl;
      stays = λ place away. (
          let apart = ne_eqb place (layout.address KEPT_PARAM) away.0 in
          rw (writes, zero, tick, apart) refl);
      x = rw (writes, zero, tick) refl;
      decimal = rw (writes, zero, tick) refl;
      kept_are = rw (writes, zero, tick) (refl, tt);
    }
first_row layout desk may tick false zero =
    let writes : layout.may_write (layout.address KEPT_PARAM) ≡ true = may.0.1 in
    record {
      ends = rw (writes, zero) refl;
      stays = λ place away. (
          let apart = ne_eqb place (layout.address KEPT_PARAM) away.0 in
          rw (writes, zero, apart) refl);
      x = rw (writes, zero) refl;
      decimal = rw (writes, zero) refl;
      kept_are = rw (writes, zero) (refl, tt);
    }

-- the first one has no command
no_command : (layout : Layout) (desk : Desk) → MayReach layout (Own NEW_COMMAND ∷ []) desk → (z : Bool) →
    nat_eq ((desk.cpu.y + 255) % 256) 0 ≡ z →
    IdlesBut layout (Own NEW_COMMAND ∷ []) (part ROW_COMMAND 0 ENTRY_BEGUN.now) desk (Y ∷ [])
no_command layout desk may true zero =
    let writes : layout.may_write ((layout.address NEW_COMMAND + desk.cpu.x) % 65536) ≡ true = may.0.1 in
    record {
      ends = rw (zero, writes) refl;
      stays = λ place away. (
          let apart = ne_eqb place ((layout.address NEW_COMMAND + desk.cpu.x) % 65536) away.0 in
          rw (zero, writes, apart) refl);
      x = rw (zero, writes) refl;
      decimal = rw (zero, writes) refl;
      kept_are = rw (zero, writes) (refl, tt);
    }
no_command layout desk may false zero = record {
  ends = rw zero refl;
  stays = λ place away. rw zero refl;
  x = rw zero refl;
  decimal = rw zero refl;
  kept_are = rw zero (refl, tt);
}

-- the registers where A has been loaded with a number below 128
abbrev loaded : ℕ → Cpu → Cpu
loaded number cpu = record cpu { a = number; z = nat_eq number 0; n = false }

-- lines that come to their end with one byte stored change nothing else
stored_one : {layout : Layout} {one : Operand} {body : Tree} {desk : Desk} {kept : List Kept} (cpu : Cpu)
    (byte steps : ℕ) →
    ran each_one layout body desk
    ≡ record {
      outcome = Done;
      desk = record {
        cpu = cpu;
        at = λ place. if nat_eq place (operand_place layout one desk) then byte else desk.at place;
      };
      cost = steps;
    } → cpu.x ≡ desk.cpu.x → cpu.d ≡ desk.cpu.d → AreKept kept desk.cpu cpu →
    IdlesBut layout (one ∷ []) body desk kept
stored_one {layout = layout} {one = one} {desk = desk} cpu byte steps is x decimal kept_are = record {
  ends = rw is refl;
  stays = λ place away. (
      let apart = ne_eqb place (operand_place layout one desk) away.0 in
      rw (is, apart) refl);
  x = rw is x;
  decimal = rw is decimal;
  kept_are = rw is kept_are;
}

pub stores_idle : StoresIdle
stores_idle = record {
  timer = λ layout desk may listed. (
      let writes : layout.may_write ((layout.address GATE_TIMER + desk.cpu.x) % 65536) ≡ true = may.0.1 in
      let reads : layout.may_read ((layout.address GATE_TIMERS + desk.cpu.y) % 65536) ≡ true = listed in
      record {
        ends = rw (reads, writes) refl;
        stays = λ place away. (
            let apart = ne_eqb place ((layout.address GATE_TIMER + desk.cpu.x) % 65536) away.0 in
            rw (reads, writes, apart) refl);
        x = rw (reads, writes) refl;
        decimal = rw (reads, writes) refl;
        kept_are = rw (reads, writes) (refl, (refl, tt));
      });
  note_time = λ layout desk may. (
      let writes : layout.may_write ((layout.address WAVE_TIME + desk.cpu.x) % 65536) ≡ true = may.0.1 in
      stored_one desk.cpu desk.cpu.a 1 (rw writes refl) refl refl (refl, (refl, (refl, tt))));
  other_time = λ layout desk may. (
      let writes : layout.may_write ((layout.address WAVE_TIME + desk.cpu.x) % 65536) ≡ true = may.0.1 in
      stored_one (loaded 0 desk.cpu) 0 2 (rw writes refl) refl refl (refl, (refl, tt)));
  note_command = λ layout desk may vibrato. note_command layout desk may vibrato _ refl _ refl;
  note_other = λ layout desk may. note_other layout desk may _ refl;
  note_sides = λ layout desk may vibrato. note_sides layout desk may vibrato _ refl _ refl;
  set_time = λ layout desk may. (
      let writes : layout.may_write ((layout.address WAVE_TIME + desk.cpu.x) % 65536) ≡ true = may.0.1 in
      stored_one (loaded 0 desk.cpu) 0 2 (rw writes refl) refl refl (refl, (refl, tt)));
  last_note = λ layout desk may. (
      let writes : layout.may_write ((layout.address LAST_NOTE + desk.cpu.x) % 65536) ≡ true = may.0.1 in
      stored_one desk.cpu desk.cpu.a 1 (rw writes refl) refl refl (refl, (refl, (refl, tt))));
  swing = λ layout desk may. (
      let writes : layout.may_write ((layout.address VIB_TIME + desk.cpu.x) % 65536) ≡ true = may.0.1 in
      stored_one (loaded 0 desk.cpu) 0 2 (rw writes refl) refl refl (refl, (refl, tt)));
  first_row = λ layout desk may tick. first_row layout desk may tick _ refl;
  no_command = λ layout desk may. no_command layout desk may _ refl;
  command = λ layout desk may. (
      let writes : layout.may_write ((layout.address NEW_COMMAND + desk.cpu.x) % 65536) ≡ true = may.0.1 in
      record {
        ends = rw writes refl;
        stays = λ place away. (
            let apart = ne_eqb place ((layout.address NEW_COMMAND + desk.cpu.x) % 65536) away.0 in
            rw (writes, apart) refl);
        x = rw writes refl;
        decimal = rw writes refl;
        kept_are = rw writes (refl, (refl, tt));
      });
  param = λ layout desk may pointed. (
      let writes : layout.may_write ((layout.address NEW_PARAM + desk.cpu.x) % 65536) ≡ true = may.0.1 in
      let reads : layout.may_read (operand_place layout Pointed desk) ≡ true = pointed in
      record {
        ends = rw (reads, writes) refl;
        stays = λ place away. (
            let apart = ne_eqb place ((layout.address NEW_PARAM + desk.cpu.x) % 65536) away.0 in
            rw (reads, writes, apart) refl);
        x = rw (reads, writes) refl;
        decimal = rw (reads, writes) refl;
        kept_are = rw (reads, writes) (refl, (refl, tt));
      });
  slide = λ layout desk may. slide_time layout desk may _ refl;
  row_command = λ layout desk may vibrato. row_command layout desk may vibrato _ refl;
  row_param = λ layout desk may. (
      let writes : layout.may_write ((layout.address PARAM + desk.cpu.x) % 65536) ≡ true = may.0.1 in
      stored_one desk.cpu desk.cpu.a 1 (rw writes refl) refl refl (refl, (refl, (refl, tt))));
  volume = λ layout desk may. (
      let writes : layout.may_write (layout.address VOLUME) ≡ true = may.0.1 in
      stored_one (loaded 15 desk.cpu) 15 2 (rw writes refl) refl refl (refl, (refl, tt)));
  funk_one = λ number layout desk may. (
      let writes : layout.may_write (layout.address FUNK_ONE) ≡ true = may.0.1 in
      record {
        ends = rw writes refl;
        stays = λ place away. (
            let apart = ne_eqb place (layout.address FUNK_ONE) away.0 in
            rw (writes, apart) refl);
        x = rw writes refl;
        decimal = rw writes refl;
        kept_are = rw writes (refl, (refl, tt));
      });
  delay = λ layout desk may. (
      let writes : layout.may_write ((layout.address VIB_DELAY + desk.cpu.x) % 65536) ≡ true = may.0.1 in
      let sees : layout.may_read ((layout.address VIB_DELAY + desk.cpu.x) % 65536) ≡ true = may.0.0 in
      record {
        ends = rw (sees, writes) refl;
        stays = λ place away. (
            let apart = ne_eqb place ((layout.address VIB_DELAY + desk.cpu.x) % 65536) away.0 in
            rw (sees, writes, apart) refl);
        x = rw (sees, writes) refl;
        decimal = rw (sees, writes) refl;
        kept_are = rw (sees, writes) (refl, (refl, (refl, tt)));
      });
  funk_two = λ layout desk may. (
      let writes : layout.may_write (layout.address FUNK_TWO) ≡ true = may.0.1 in
      stored_one desk.cpu desk.cpu.a 1 (rw writes refl) refl refl (refl, (refl, (refl, tt))));
}
