-- Memory in which a voice is in its song, so that the law on the code that fetches a row speaks of it, and what it
-- leaves there; and what is no such memory, or isn't left.
use Rattle.std.specs.Prelude.{[], ◌∷◌, ◌≡◌, ℕ, ◌+◌, ◌&&◌, true, false, not, nat_eq, if◌then◌else◌}
use Rattle.code_runs.specs.Runs.{put}
use Rattle.song_model.specs.declared.orders.Order.{Order}
use Rattle.play_model.specs.LookUps.{LookUps}
use Rattle.play_model.specs.State.{Voice, Playing, start_voice, start_common}
use Rattle.scopes.specs.Desk.{Layout}
use Rattle.scopes.specs.Meaning.{Done, Left, Ran}
use Rattle.player_memory.specs.declared.conditions.TheConstants.{LEGATO}
use Rattle.player_memory.specs.declared.labels.TheConstants.{TICK, NEW_NOTE, OFFSET, ORDER_LOW, ORDER_HIGH, LENT}
use Rattle.player_memory.specs.declared.labels.TheConstants.{ORDERS, GATE_TIMER, ONE_TIMER}
use Rattle.player_memory.specs.Rooms.{IsRoom, MayUse}
use Rattle.player_memory.specs.Playing.{own_at, shared_at, IsPlaying, IsAtVoice}
use Rattle.player_memory.specs.WorkedFetching.{its_rows, its_packed}
use Rattle.player_memory.specs.WorkedPlays.{its_desk}
use Rattle.player_text.specs.declared.joints.TheConstants.{SOUNDS}
use Rattle.fetch_code.specs.FetchBlock.{IsKept, HasOrderlist, HasRows, KeepsNext, left_out, Fetches}
use Rattle.player_memory.specs.Fetching.{IsInSong}
use Rattle.worked_blocks.specs.WorkedFetches.{laid, one_timed, its_order, at_start, at_first, in_run, at_note, with_own}
use Rattle.worked_blocks.specs.WorkedFetches.{with_one_timer, in_order, at_held, fetched}

-- ---- what the law asks

-- the pattern's rows, and this gateoff timer; it is 2 where no other is said
abbrev pub timed_up : ℕ → LookUps → LookUps
timed_up timer look = record look {
  instrument = λ number. record (look.instrument number) { gate_timer = timer };
  rows = λ number. its_rows;
}

abbrev pub looked_up : LookUps → LookUps
looked_up = timed_up 2

-- the voice at this row of its first play, which is due
abbrev pub on_row : ℕ → Voice
on_row row = record start_voice { row = row; tick = 2; gate_timer = 2 }

abbrev pub on : ℕ → Playing
on row = record { voice = on_row row; common = start_common 1 }

abbrev pub IsSung : LookUps → ℕ → (ℕ → ℕ) → Type 0
IsSung look row at =
    IsInSong (laid false) ORDERS (looked_up look) its_packed its_order (on_row row) (own_at (laid false) at 1)

abbrev pub HasOrderIn : Layout → (ℕ → ℕ) → Order → Type 0
HasOrderIn layout at order = HasOrderlist layout 4 at ORDERS order

abbrev pub HasRowsIn : (ℕ → ℕ) → LookUps → Voice → Type 0
HasRowsIn at look v = HasRows (laid false) 4 at look its_packed its_order v

-- so at the note in another layout: such as one in which the one timer of all instruments stands in the voice's own
-- byte, or one in which the code may not read it
abbrev pub HasNoteIn : Layout → (ℕ → ℕ) → LookUps → Type 0
HasNoteIn layout at look = HasRows layout 4 at (looked_up look) its_packed its_order (on_row 2)

abbrev pub own_timed : Layout
own_timed = record one_timed {
  address = λ label. one_timed.address (if nat_eq label ONE_TIMER then GATE_TIMER + 7 else label);
}

abbrev pub unread_timed : Layout
unread_timed = record one_timed { may_read = λ place. (laid false).may_read place && not (nat_eq place 0x1128) }

-- with such a timer, and these numbers from which on instruments hold the gate and the envelope, where the instruments
-- stand in order
abbrev pub HasHeldIn : Layout → ℕ → ℕ → ℕ → LookUps → Type 0
HasHeldIn layout timer gate envelope look =
    HasRows layout 4 (at_held timer gate envelope) (timed_up timer look) its_packed its_order (on_row 2)

-- where the code may not read the first of the two
abbrev pub unread_gate : Layout
unread_gate = record in_order { may_read = λ place. (laid false).may_read place && not (nat_eq place 0x1129) }

-- nothing is kept that stands under a condition
abbrev pub bare : Layout
bare = record (laid false) { holds = λ condition. false }

-- a next row with this note and command, of an instrument with this gateoff timer; and whether what it asks for is kept
abbrev pub with_next : ℕ → ℕ → ℕ → LookUps → LookUps
with_next note command timer look = record look {
  instrument = λ number. record (look.instrument number) { gate_timer = timer };
  rows = λ number. (record { note = note; instrument = 1; command = command; param = 0 }) ∷ [];
}

abbrev pub KeepsRowIn : Layout → LookUps → ℕ → ℕ → ℕ → Type 0
KeepsRowIn layout look note command timer =
    KeepsNext layout (with_next note command timer look) its_order (on_row 0)

-- a layout in which the orderlist stands behind the end of memory
abbrev pub far : Layout
far = record (laid false) { address = λ label. 0x11130 }

-- all that is asked is there: before the first walk, at each row of the pattern, and at its end
pub record GroundsAreWorked (look : LookUps) : Type 0 where
  pub room : IsRoom (laid false) 4
  pub uses : MayUse (laid false) 4
  pub at_voice : IsAtVoice 1 (its_desk 7 false (at_note 2))
  pub playing : IsPlaying (laid false) 1 (on 2) (at_note 2)
  pub none_lent : shared_at (laid false) (at_note 2) LENT ≡ 0
  pub start : IsSung look 0 (at_start 2)
  pub first : IsSung look 0 (at_first 2)
  pub run : IsSung look 1 (in_run 2)
  pub note : IsSung look 2 (at_note 2)
  pub orderlist : HasOrderIn (laid false) (at_note 2) its_order
  pub rows : HasRowsIn (at_note 2) (looked_up look) (on_row 2)
  pub one_timer : HasNoteIn one_timed (with_one_timer 2 (at_note 2)) look
  -- an instrument that holds its gate, its envelope, or nothing is told by its number, 1
  pub gate : HasHeldIn in_order 0x42 1 1 look
  pub envelope : HasHeldIn in_order 0x82 2 1 look
  pub neither : HasHeldIn in_order 0x3F 2 2 look

-- ---- what it refuses

pub record OthersAreDenied (look : LookUps) : Type 0 where
  -- the endmark is no entry, and a transpose and a repeat are none without their code; each number of a pattern is
  pub endmark : ¬ IsKept (laid true) 0xFF
  pub transpose : ¬ IsKept bare 0xE0
  pub repeat : ¬ IsKept bare 0xDF
  pub number : IsKept bare 0xCF
  -- the orderlist is in memory, with its endmark and its restart position, which is that of an entry
  pub address : ¬ HasOrderIn far (at_note 2) its_order
  pub last_byte : ¬ HasOrderIn (laid false) (put (at_note 2) 0x1134 1) its_order
  pub end_byte : ¬ HasOrderIn (laid false) (put (at_note 2) 0x1133 0) its_order
  pub restart : ¬ HasOrderIn (laid false) (put (at_note 2) 0x1134 3) (record its_order { restart = 3 })
  pub not_kept : ¬ HasOrderIn bare (at_note 2) its_order
  -- the pattern stands at its place, with its bytes, which spell its rows; and so does the gateoff timer, a byte
  pub pattern : ¬ HasRowsIn (put (at_note 2) 0x1141 0x61) (looked_up look) (on_row 2)
  pub low : ¬ HasRowsIn (put (at_note 2) 0x1110 0x40) (looked_up look) (on_row 2)
  pub high : ¬ HasRowsIn (put (at_note 2) 0x1118 0x12) (looked_up look) (on_row 2)
  pub spells : ¬ HasRowsIn (at_note 2) (record (looked_up look) { rows = λ number. [] }) (on_row 2)
  pub timer : ¬ HasRowsIn (put (at_note 2) 0x1121 3) (looked_up look) (on_row 2)
  pub timer_byte : ¬ HasRowsIn (put (at_note 2) 0x1121 256) (record (looked_up look) {
    instrument = λ number. record (look.instrument number) { gate_timer = 256 };
  }) (on_row 2)
  -- where one stands alone it is the voice's, and the code may read it and leaves it
  pub other_timer : ¬ HasNoteIn one_timed (with_one_timer 3 (at_note 2)) look
  pub own_timer : ¬ HasNoteIn own_timed (at_note 2) look
  pub unread_timer : ¬ HasNoteIn unread_timed (with_one_timer 2 (at_note 2)) look
  -- where the instruments are in order, the numbers tell what it holds, and the code may read them; where they aren't,
  -- its timer does
  pub gate_behind : ¬ HasHeldIn in_order 0x42 2 1 look
  pub gate_from : ¬ HasHeldIn in_order 0x82 1 1 look
  pub envelope_behind : ¬ HasHeldIn in_order 0x82 2 2 look
  pub envelope_from : ¬ HasHeldIn in_order 0x3F 2 1 look
  pub unread_gate_from : ¬ HasHeldIn unread_gate 0x3F 2 2 look
  pub by_timer : ¬ HasRows (laid false) 4 (at_held 0x42 2 2) (timed_up 0x82 look) its_packed its_order (on_row 2)
  -- a plain note of a plain instrument asks for nothing; keyoff, keyon, a slide to the note, and an instrument that
  -- leaves the gate or the envelope as it is ask for their lines
  pub plain : KeepsRowIn bare look 0x90 0 0x3F
  pub key_off : ¬ KeepsRowIn bare look 0xBE 0 0x3F
  pub key_on : ¬ KeepsRowIn bare look 0xBF 0 0x3F
  pub tone : ¬ KeepsRowIn bare look 0x90 3 0x3F
  pub legato : ¬ KeepsRowIn bare look 0x90 0 0x42
  pub soft : ¬ KeepsRowIn bare look 0x90 0 0x82
  pub shared : ¬ KeepsRowIn (record bare { holds = λ condition. nat_eq condition LEGATO }) look 0x90 0 0x42
  -- what is read of the voice are bytes
  pub tick : ¬ HasRowsIn (at_note 2) (looked_up look) (record (on_row 2) { tick = 256 })
  pub gate_timer : ¬ HasRowsIn (at_note 2) (looked_up look) (record (on_row 2) { gate_timer = 256 })
  pub command : ¬ HasRowsIn (at_note 2) (looked_up look) (record (on_row 2) { new_command = 256 })
  -- the voice has its orderlist, and is at its entry
  pub order_low : ¬ IsSung look 2 (with_own ORDER_LOW 0x31 (at_note 2))
  pub order_high : ¬ IsSung look 2 (with_own ORDER_HIGH 0x12 (at_note 2))
  pub entry : ¬ IsSung look 2 (with_own OFFSET 1 (at_note 2))
  -- an option leaves out the pulse step in its frame alone, and only where it is kept
  pub at_fetch : left_out (laid true) (on_row 2) ≡ true
  pub not_asked : left_out (laid false) (on_row 2) ≡ false
  pub between : left_out (laid true) (record (on_row 0) { tick = 0 }) ≡ true
  pub later : left_out (laid true) (record (on_row 0) { tick = 1 }) ≡ false
  pub within : left_out (laid true) (record (on_row 1) { tick = 0 }) ≡ false

-- ---- what it leaves

-- the note waits, two half tones up, the gate is shut, and the next play is on
abbrev pub noted : Playing
noted = record {
  voice = record (on_row 0) { plays = 1; new_note = 0x62; ad = 0x0F };
  common = start_common 1;
}

-- the note is fetched, and this is left
abbrev pub LeavesNote : LookUps → Ran → Type 0
LeavesNote look run =
    Fetches (laid false) 4 1 ORDERS (looked_up look) its_packed its_order (its_desk 7 false (at_note 2)) run Done noted

abbrev pub note_run : Ran
note_run = fetched false (at_note 2)

-- with another byte
abbrev pub with_byte : ℕ → ℕ → Ran
with_byte place byte = record note_run { desk = record note_run.desk { at = put note_run.desk.at place byte } }

abbrev pub with_other : ℕ → ℕ → Ran
with_other label byte = with_byte (0x1006 + label) byte

pub record LeavingIsWorked (look : LookUps) : Type 0 where
  pub note : LeavesNote look note_run
  pub passed : ¬ LeavesNote look (record note_run { outcome = Left SOUNDS })
  pub other_x : ¬ LeavesNote look (record note_run {
    desk = record note_run.desk { cpu = record note_run.desk.cpu { x = 0 } };
  })
  pub other_note : ¬ LeavesNote look (with_other (NEW_NOTE + 7) 0x60)
  pub order : ¬ LeavesNote look (with_other (ORDER_LOW + 7) 0)
  pub song : ¬ LeavesNote look (with_other (OFFSET + 7) 2)
  pub lent : ¬ LeavesNote look (with_other LENT 1)
  pub other_voice : ¬ LeavesNote look (with_other TICK 1)
  pub register : ¬ LeavesNote look (with_byte 0xD404 1)
  pub elsewhere : ¬ LeavesNote look (with_byte 0x2000 1)
  pub slide : ¬ LeavesNote look (with_byte 0x1107 1)
