-- The filter step worked by hand, in a room at $1000 with a table of four rows: what the clause on the code asks is met
-- there, and what it promises refuses a run that differs in one thing alone.
use Rattle.std.specs.Prelude.{ℕ, ◌+◌, ◌-◌, ◌&&◌, ◌||◌, ◌==◌, Bool, true, false, nat_lt, List, []}
use Rattle.std.specs.Prelude.{◌∷◌, slice_index}
use Rattle.std.specs.Prelude.{if◌then◌else◌}
use Rattle.code_runs.specs.Runs.{put}
use Rattle.song_model.specs.declared.tables.TableRow.{TableRow}
use Rattle.song_model.specs.LookUp.{zero_instrument}
use Rattle.play_model.specs.LookUps.{LookUps}
use Rattle.play_model.specs.State.{Common, start_common}
use Rattle.scopes.specs.Desk.{Desk, Layout}
use Rattle.scopes.specs.Meaning.{Outcome, Done, Stuck, each_one, ended, ran}
use Rattle.player_memory.specs.declared.conditions.TheConstants.{FILTER_TABLE, FILTER_USED, SET_VOLUME}
use Rattle.player_memory.specs.declared.conditions.TheConstants.{NOTE_DEPENDENT}
use Rattle.player_memory.specs.declared.labels.TheConstants.{VARIABLES, SLIDES_LOW, SLIDES_HIGH, FILTER_LEFTS}
use Rattle.player_memory.specs.declared.labels.TheConstants.{NEXT_FILTER_LEFTS}
use Rattle.player_memory.specs.declared.variables.Kept.{Kept}
use Rattle.player_memory.specs.declared.variables.CommonByte.{CommonByte}
use Rattle.player_memory.specs.declared.variables.TheConstants.{COMMON_BYTES}
use Rattle.player_memory.specs.FactLines.{KeepsShared}
use Rattle.player_memory.specs.Rooms.{IsRoom, MayUse}
use Rattle.player_memory.specs.Variables.{common_byte, CommonBytesStand}
use Rattle.player_memory.specs.Playing.{shared_at, PlaysShared}
use Rattle.filter_code.specs.FilterBlock.{filter_tree, IsOnFilterRow, HasFilterTable}

-- ---- where it is worked

-- the variables are at $1000, the slides at $1200 and $1280, and the sides of the filter table at $1300 and $1400
abbrev pub address_of : ℕ → ℕ
address_of label =
    if nat_lt label VARIABLES then 0x1000 + label
    else if label == SLIDES_LOW then 0x1200
    else if label == SLIDES_HIGH then 0x1280
    else if label == FILTER_LEFTS then 0x12FF
    else if label == NEXT_FILTER_LEFTS then 0x1300
    else 0x13FF

-- by the conditions under which code is kept
abbrev pub site_with : (ℕ → Bool) → Layout
site_with holds = record {
  address = address_of;
  pointer = 0xFB;
  holds = holds;
  open_turns = 255;
  may_read = λ place. true;
  may_write = λ place. true;
}

-- the filter is used, and the volume set: where the code of the filter table is kept, and where it isn't
abbrev pub site : Bool → Layout
site kept =
    site_with (λ condition. condition == NOTE_DEPENDENT || condition == FILTER_USED || condition == SET_VOLUME
    || kept && condition == FILTER_TABLE)

-- neither is
abbrev pub bare : Layout
bare = site_with (λ condition. condition == NOTE_DEPENDENT)

-- the program sets the kind $10, the control $F1 and the cutoff $40, raises it by $10 in two frames, and goes back
abbrev pub lefts : List ℕ
lefts = 0x90 ∷ 0x00 ∷ 0x02 ∷ 0xFF ∷ []

abbrev pub rights : List ℕ
rights = 0xF1 ∷ 0x40 ∷ 0x10 ∷ 0x01 ∷ []

abbrev pub row_at : ℕ → TableRow
row_at number = record { left = slice_index (0 ∷ lefts) number; right = slice_index (0 ∷ rights) number }

abbrev pub look : LookUps
look = record { instrument = λ number. zero_instrument; row = λ name number. row_at number; rows = λ number. [] }

-- what the voices share, with the volume 15
abbrev pub state : ℕ → ℕ → ℕ → ℕ → ℕ → Common
state pointer time kind control cutoff = record (start_common 1) {
  filter_ptr = pointer;
  filter_time = time;
  filter_type = kind;
  filter_control = control;
  cutoff = cutoff;
}

abbrev pub byte_in : List (ℕ × CommonByte × Kept) → Common → ℕ → ℕ
byte_in [] c label = 0
byte_in (row ∷ rows) c label = if row.0 == label then common_byte row.1 c else byte_in rows c label

abbrev pub memory : Common → ℕ → ℕ
memory c place =
    if nat_lt place 0x1300 then byte_in COMMON_BYTES c (place - 0x1000)
    else if nat_lt place 0x1400 then slice_index lefts (place - 0x1300)
    else slice_index rights (place - 0x1400)

abbrev pub desk : Common → Desk
desk c = record {
  cpu = record { a = 7; x = 200; y = 9; sp = 240; pc = 0; n = true; v = true; d = false; i = true; z = true; c = true };
  at = memory c;
}

-- ---- frames

-- from one state the code comes to another, with the cutoff, the control, and the kind with the volume in the registers
pub record IsWorked (kept : Bool) (c after : Common) (bytes : List ℕ) : Type 0 where
  pub on : IsOnFilterRow look 4 c
  pub stands : CommonBytesStand (site kept).holds c (shared_at (site kept) (desk c).at)
  pub plays : PlaysShared (site kept) 2 (desk c) (ran each_one (site kept) filter_tree (desk c)) after bytes

-- bytes that aren't the state's, where nothing sets the filter or the volume
abbrev pub others : Common
others = record (state 0 0 0x10 0xF1 0x40) { volume = 9 }

pub record FiltersAreWorked : Type 0 where
  pub room : (kept : Bool) → IsRoom (site kept) 2
  pub uses : (kept : Bool) → MayUse (site kept) 2
  pub table : (kept : Bool) (c : Common) → HasFilterTable (site kept) 2 (desk c).at look 4
  pub shared : (kept : Bool) → KeepsShared (site kept)
  -- two rows that belong together
  pub sets : IsWorked true (state 1 0 0 0 0) (state 3 0 0x10 0xF1 0x40) (0 ∷ 0x40 ∷ 0xF1 ∷ 0x1F ∷ [])
  -- a slide, and its last frame: behind it the program jumps
  pub slides : IsWorked true (state 3 0 0x10 0xF1 0x40) (state 3 1 0x10 0xF1 0x50) (0 ∷ 0x50 ∷ 0xF1 ∷ 0x1F ∷ [])
  pub jumps : IsWorked true (state 3 1 0x10 0xF1 0x50) (state 1 0 0x10 0xF1 0x60) (0 ∷ 0x60 ∷ 0xF1 ∷ 0x1F ∷ [])
  -- a cutoff alone
  pub cuts : IsWorked true (state 2 0 0x20 0xF2 0x50) (state 3 0 0x20 0xF2 0x40) (0 ∷ 0x40 ∷ 0xF2 ∷ 0x2F ∷ [])
  -- no program, and no code for one
  pub stays : IsWorked false (state 0 0 0x10 0xF1 0x40) (state 0 0 0x10 0xF1 0x40) (0 ∷ 0x40 ∷ 0xF1 ∷ 0x1F ∷ [])
  -- no filter, and the volume 15, whatever the bytes are that no line reads
  pub none_stands : CommonBytesStand bare.holds (state 0 0 0 0 0) (shared_at bare (desk others).at)
  pub none : PlaysShared bare 2 (desk others) (ran each_one bare filter_tree (desk others)) (state 0 0 0 0 0)
      (0 ∷ 0 ∷ 0 ∷ 0x0F ∷ [])

-- ---- rows

-- A program may be on the last row but one, of a pair on the last but two; and no program asks for no table.
pub record RowsAreWorked : Type 0 where
  pub last_but_one : IsOnFilterRow look 4 (state 3 0 0 0 0)
  pub last : IsOnFilterRow look 4 (state 4 0 0 0 0) → ⊥
  pub pair : IsOnFilterRow look 3 (state 1 0 0 0 0)
  pub half_a_pair : IsOnFilterRow look 2 (state 1 0 0 0 0) → ⊥
  pub none : IsOnFilterRow look 0 (state 0 0 0 0 0)

-- ---- runs

-- the memory behind the last of the frames above
abbrev pub right : ℕ → ℕ
right = put (put (put (put (memory (state 0 0 0x10 0xF1 0x40)) 0xD415 0) 0xD416 0x40) 0xD417 0xF1) 0xD418 0x1F

abbrev pub behind_with : Bool → (ℕ → ℕ) → Desk
behind_with decimal at = record { cpu = record (desk (state 0 0 0x10 0xF1 0x40)).cpu { d = decimal }; at = at }

-- a run from that state plays it
abbrev pub Accepts : Outcome → Desk → Type 0
Accepts outcome behind =
    PlaysShared (site false) 2 (desk (state 0 0 0x10 0xF1 0x40)) (ended outcome behind 0) (state 0 0 0x10 0xF1 0x40)
    (0 ∷ 0x40 ∷ 0xF1 ∷ 0x1F ∷ [])

-- one that leaves one byte more than there should be
abbrev pub Refuses : ℕ → Type 0
Refuses place = Accepts Done (behind_with false (put right place (right place + 1))) → ⊥

pub record RunsAreRefused : Type 0 where
  pub accepted : Accepts Done (behind_with false right)
  pub stuck : Accepts Stuck (behind_with false right) → ⊥
  pub decimal : Accepts Done (behind_with true right) → ⊥
  -- the cutoff, its register, and the first and the last of the four
  pub common : Refuses 0x106A
  pub cutoff : Refuses 0xD416
  pub first : Refuses 0xD415
  pub last : Refuses 0xD418
  -- whether a command is lent, and which
  pub lent : Refuses 0x106C
  pub command : Refuses 0x106D
  pub param : Refuses 0x106E
  -- the first voice's tick, the second one's tempo and the third one's note
  pub voice_one : Refuses 0x1017
  pub voice_two : Refuses 0x1060
  pub voice_three : Refuses 0x1028
  -- the last register of the third voice
  pub register : Refuses 0xD414
  -- a slide's bytes
  pub slide_low : Refuses 0x1201
  pub slide_high : Refuses 0x1280
  -- what stands before the variables and behind them, beside the pointer, and behind the registers
  pub before : Refuses 0x0FFF
  pub behind : Refuses 0x1071
  pub zero_page : Refuses 0xFD
  pub behind_registers : Refuses 0xD419
