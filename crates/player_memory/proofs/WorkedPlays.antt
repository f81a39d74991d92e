-- Memory that holds a voice that is playing, and lists in it, worked.
use Rattle.std.proofs.Common.{◌≡◌, ◌≢◌, ◌⊎◌, ℕ, zero, suc, ◌+◌, ◌*◌, ◌%◌, ◌<◌}
use Rattle.std.proofs.Common.{◌≤◌, Bool, true, false, not, nat_eq, nat_le, nat_lt, refl, subst, sym, ap, inl, inr}
use Rattle.std.proofs.Common.{arith}
use Rattle.std.proofs.lemmas.Bool.{eqb-false, ltb-true, le-leb, lt-ltb, not-true, and_parts, agree_below}
use Rattle.std.proofs.lemmas.Bool.{agree_below_at, both_ways}
use Rattle.code_runs.specs.Runs.{put}
use Rattle.code_runs.proofs.Laws.{put_other}
use Rattle.scopes.specs.Meaning.{Outcome, Done, Again}
use Rattle.player_memory.specs.declared.labels.TheConstants.{TICK, LENT, KEPT_COMMAND, KEPT_PARAM}
use Rattle.player_memory.specs.declared.labels.TheConstants.{PULSE_LEFTS, PULSE_RIGHTS}
use Rattle.player_memory.specs.declared.variables.TheConstants.{VOICE_BYTES, COMMON_BYTES, SONG_BYTES}
use Rattle.player_memory.specs.Labels.{is_own}
use Rattle.player_memory.specs.Rooms.{IsElsewhere}
use Rattle.player_memory.specs.Playing.{own_at, shared_at, place_in, IsListed, IsRow, OthersStay}
use Rattle.player_memory.specs.WorkedMemory.{at_1000, everywhere}
use Rattle.player_memory.proofs.Standing.{are_held, are_shared, are_tempos, playing_in, have_same, are_same}
use Rattle.player_memory.proofs.WorkedMemory.{neither, is_laid}
use Rattle.player_memory.proofs.WorkedRooms.{behind_slides, off_variables}
use Rattle.player_memory.specs.WorkedPlays.{PlaysWith, beginning, its_memory, PlaysAreWorked, with_lists, far_lists}
use Rattle.player_memory.specs.WorkedPlays.{PlaysWith, its_lists, its_rows, ListsAreWorked}

-- ---- a voice

abbrev is_again : Outcome → Bool
is_again Again = true
is_again _ = false

-- a byte that may change: what isn't there is as before
record IsFree (place : ℕ) : Type 0 where
  variables : agree_below (λ l. not (nat_eq (at_1000.address l) place)) (λ _. true) 113 ≡ true
  registers : (place < 0xD400) ⊎ (0xD419 ≤ place)
  not_elsewhere : ¬ IsElsewhere at_1000 4 place

own_apart : (place label its : ℕ) → IsFree place → its < 3 → is_own label ≡ true →
    at_1000.address (label + 7 * its) ≢ place
own_apart place label its free three own =
    let below = ltb-true label 90 (and_parts (nat_lt label 90) (nat_lt (label % 21) 7) own).0 in
    let no = agree_below_at (λ l. not (nat_eq (at_1000.address l) place)) (λ _. true) 113 (label + 7 * its)
    free.variables
    (omega (arith, below, three)) in
    eqb-false (at_1000.address (label + 7 * its)) place (not-true _ no)

register_apart : (place register : ℕ) → (place < 0xD400) ⊎ (0xD419 ≤ place) → register ≤ 24 →
    0xD400 + register ≢ place
register_apart place register (inl low) few e = omega (arith, low, e)
register_apart place register (inr high) few e = omega (arith, high, few, e)

-- memory with the same bytes in it
still : (at : ℕ → ℕ) → are_held everywhere VOICE_BYTES beginning.voice 5 (own_at at_1000 at 1) ≡ true →
    are_shared everywhere COMMON_BYTES beginning.common (shared_at at_1000 at) ≡ true →
    are_tempos at_1000 at beginning.common ≡ true →
    have_same SONG_BYTES (own_at at_1000 at 1) (own_at at_1000 its_memory 1) ≡ true →
    shared_at at_1000 at LENT ≡ 0 → shared_at at_1000 at KEPT_COMMAND ≡ 0 → shared_at at_1000 at KEPT_PARAM ≡ 0 →
    OthersStay at_1000 4 1 its_memory at → PlaysWith at
still at own common tempos song lent command param stays = record {
  ends = refl;
  at_voice = record { x = refl; decimal = refl };
  plays = playing_in at_1000 1 beginning at own common tempos;
  song = are_same SONG_BYTES (own_at at_1000 at 1) (own_at at_1000 its_memory 1) song;
  lent = lent;
  kept = λ some. (command, (param, tt));
  stays = stays;
}

pub plays_are_worked : PlaysAreWorked
plays_are_worked = record {
  fully = record { but_slides = same; slides = λ kept row few. record { low = refl; high = refl } };
  low_slide = λ plays. (let byte = (plays.slides refl 3 (omega arith)).low in omega (arith, byte));
  high_slide = λ plays. (let byte = (plays.slides refl 3 (omega arith)).high in omega (arith, byte));
  not_fully = λ plays. (let byte = plays.but_slides.plays.common.1.1.1.1.1.0.0 refl in omega (arith, byte));
  same = same;
  pointer = still (put its_memory 0xFC 1) refl refl refl refl refl
      refl refl (record {
        others = λ its label few other is tempo. put_other its_memory 0xFC 1 _
            (own_apart 0xFC label its pointer_free few is);
        registers = λ register few. put_other its_memory 0xFC 1 _
            (register_apart 0xFC register (inl (omega arith)) few);
        elsewhere = λ place away. put_other its_memory 0xFC 1 place (λ e. away.low e);
      });
  slide = still (put its_memory 0x1103 1) refl refl refl refl refl
      refl refl (record {
        others = λ its label few other is tempo. put_other its_memory 0x1103 1 _
            (own_apart 0x1103 label its slide_free few is);
        registers = λ register few. put_other its_memory 0x1103 1 _
            (register_apart 0x1103 register (inl (omega arith)) few);
        elsewhere = λ place away. put_other its_memory 0x1103 1 place
            (λ e. slide_free.not_elsewhere (subst (IsElsewhere at_1000 4) e away));
      });
  not_ended = λ plays. both_ways (is_again Done) refl (ap is_again (sym plays.ends));
  other_x = λ plays. (let x = plays.at_voice.x in omega (arith, x));
  decimal = λ plays. both_ways true plays.at_voice.decimal refl;
  own = λ plays. (let byte = plays.plays.own.0 in omega (arith, byte));
  common = λ plays. (let byte = plays.plays.common.1.1.1.1.1.0.0 refl in omega (arith, byte));
  tempo = λ plays. (let byte = plays.plays.tempos 2 (omega arith) in omega (arith, byte));
  song = λ plays. (let byte = plays.song.0 in omega (arith, byte));
  last_common = λ plays. (let byte = plays.plays.common.1.1.1.1.1.1.1.0 refl in omega (arith, byte));
  last_song = λ plays. (let byte = plays.song.1.1.1.1.1.1.1.1.0 in omega (arith, byte));
  lent = λ plays. (let byte = plays.lent in omega (arith, byte));
  kept_command = λ plays. (let byte = (plays.kept (λ e. omega (arith, e))).0 in omega (arith, byte));
  kept_param = λ plays. (let byte = (plays.kept (λ e. omega (arith, e))).1.0 in omega (arith, byte));
  first_voice = λ plays. (let byte = plays.stays.others 0 23 (omega arith) (λ e. omega (arith, e)) refl
      (λ e. omega (arith, e)) in omega (arith, byte));
  third_voice = λ plays. (let byte = plays.stays.others 2 23 (omega arith) (λ e. omega (arith, e)) refl
      (λ e. omega (arith, e)) in omega (arith, byte));
  first_register = λ plays. (let byte = plays.stays.registers 0 (omega arith) in omega (arith, byte));
  last_register = λ plays. (let byte = plays.stays.registers 24 (omega arith) in omega (arith, byte));
  elsewhere = λ plays. (let byte = plays.stays.elsewhere 0x2000 far in omega (arith, byte));
}
  where
    same : PlaysWith its_memory
    same = still its_memory refl refl refl refl refl refl refl
        (record {
          others = λ its label few other is tempo. refl;
          registers = λ register few. refl;
          elsewhere = λ place away. refl;
        })

    far : IsElsewhere at_1000 4 0x2000
    far = behind_slides at_1000 is_laid 0x2000 (omega arith) (omega arith)

    pointer_free : IsFree 0xFC
    pointer_free = record { variables = refl; registers = inl (omega arith); not_elsewhere = λ away. away.low refl }

    slide_free : IsFree 0x1103
    slide_free = record {
      variables = refl;
      registers = inl (omega arith);
      not_elsewhere = λ away. neither (λ l. omega (arith, l)) (λ l. omega (arith, l)) (away.slides_low refl);
    }

-- ---- lists

reads_at : (place : ℕ) → nat_le 0x1000 place ≡ true → nat_lt place 0x1200 ≡ true → with_lists.may_read place ≡ true
reads_at place from to = rw (from, to) refl

listed : (label number place byte : ℕ) → place_in with_lists label number ≡ place → its_lists place ≡ byte →
    0x1108 ≤ place → place < 0x1200 → IsListed with_lists 4 its_lists label number byte
listed label number place byte is holds from to = record {
  elsewhere = rw is (record {
    variables = off_variables with_lists refl place (inr (omega (arith, from)));
    slides_low = λ kept. inr (omega (arith, from));
    slides_high = λ kept. inr (omega (arith, from));
    low = λ e. omega (arith, from, e);
    high = λ e. omega (arith, from, e);
    registers = inl (omega (arith, to));
  });
  reads = rw is (reads_at place (le-leb 0x1000 place (omega (arith, from))) (lt-ltb place 0x1200 to));
  is = rw is holds;
}

its_row : (number : ℕ) → 1 ≤ number → number ≤ 2 → IsRow with_lists 4 its_lists PULSE_LEFTS PULSE_RIGHTS number
    (its_rows number)
its_row zero from to = absurd (omega (arith, from))
its_row (suc zero) from to = record {
  left = listed PULSE_LEFTS 1 0x1120 0x88 refl refl (omega arith) (omega arith);
  right = listed PULSE_RIGHTS 1 0x1130 0x40 refl refl (omega arith) (omega arith);
  left_byte = omega arith;
  right_byte = omega arith;
}
its_row (suc (suc zero)) from to = record {
  left = listed PULSE_LEFTS 2 0x1121 0x7F refl refl (omega arith) (omega arith);
  right = listed PULSE_RIGHTS 2 0x1131 2 refl refl (omega arith) (omega arith);
  left_byte = omega arith;
  right_byte = omega arith;
}
its_row (suc (suc (suc more))) from to = absurd (omega (arith, to))

full_listed : (label base number : ℕ) → far_lists.address label ≡ base → 0x2000 ≤ base → base ≤ 0x2100 →
    number ≤ 255 → IsListed far_lists 4 (λ place. 0) label number 0
full_listed label base number is from below to = record {
  elsewhere = rw (is, place) (record {
    variables = off_variables far_lists refl (base + number) (inr (omega (arith, from)));
    slides_low = λ kept. inr (omega (arith, from));
    slides_high = λ kept. inr (omega (arith, from));
    low = λ e. omega (arith, from, e);
    high = λ e. omega (arith, from, e);
    registers = inl (omega (arith, to, below));
  });
  reads = refl;
  is = refl;
}
  where
    place : (base + number) % 65536 ≡ base + number
    place = omega (arith, to, below)

pub lists_are_worked : ListsAreWorked
lists_are_worked = record {
  table = record { few = omega arith; each = its_row };
  full = record {
    few = omega arith;
    each = λ number from to. record {
      left = full_listed PULSE_LEFTS 0x2000 number refl (omega arith) (omega arith) to;
      right = full_listed PULSE_RIGHTS 0x2100 number refl (omega arith) (omega arith) to;
      left_byte = omega arith;
      right_byte = omega arith;
    };
  };
  too_many = λ table. (let few = table.few in omega (arith, few));
  third = λ table. (let byte = (table.each 3 (omega arith) (omega arith)).left.is in omega (arith, byte));
  first_left = λ table. (let byte = (table.each 1 (omega arith) (omega arith)).left.is in omega (arith, byte));
  last_right = λ table. (let byte = (table.each 2 (omega arith) (omega arith)).right.is in omega (arith, byte));
  unread = λ listed. both_ways false refl listed.reads;
  variable = λ listed. listed.elsewhere.variables (TICK + 7) (omega arith) refl;
  over = record {
    elsewhere = record {
      variables = λ label few e. omega (arith, e);
      slides_low = λ kept. inl (omega arith);
      slides_high = λ kept. inl (omega arith);
      low = λ e. omega (arith, e);
      high = λ e. omega (arith, e);
      registers = inl (omega arith);
    };
    reads = refl;
    is = refl;
  };
}
