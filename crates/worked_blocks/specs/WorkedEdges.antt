-- Orderlists and packed patterns that just stand in memory, and such as just don't, each for one thing alone.
use Rattle.std.specs.Prelude.{ℕ, ◌-◌, ◌/◌, ◌%◌, Bool, true, false, not, nat_eq, if◌then◌else◌}
use Rattle.std.specs.Prelude.{List, [], ◌∷◌, ◌++◌, replicate, slice_index}
use Rattle.code_runs.specs.Runs.{put}
use Rattle.song_model.specs.declared.orders.Order.{Order}
use Rattle.song_model.specs.declared.rows.Row.{Row}
use Rattle.play_model.specs.LookUps.{LookUps}
use Rattle.packed_form.specs.declared.entries.Entry.{Entry}
use Rattle.packed_form.specs.declared.entries.EntryKind.TheVariants.{NamedNote}
use Rattle.packed_form.specs.Entries.{no_command, rows_from}
use Rattle.packed_form.specs.PackedSpells.{text_of}
use Rattle.scopes.specs.Desk.{Layout}
use Rattle.player_memory.specs.declared.labels.TheConstants.{PATTERNS}
use Rattle.player_memory.specs.Fetching.{IsPattern}
use Rattle.player_memory.specs.WorkedFetching.{its_rows, its_packed}
use Rattle.worked_blocks.specs.WorkedFetches.{laid}
use Rattle.worked_blocks.specs.WorkedGrounds.{HasOrderIn}

-- pattern 0 stands at this place, and code may read where it is told
abbrev pub with_pattern : ℕ → (ℕ → Bool) → Layout
with_pattern first reads = record (laid false) {
  address = λ label. if nat_eq label PATTERNS then first else (laid false).address label;
  open_turns = 255;
  may_read = reads;
}

abbrev pub anywhere : ℕ → Bool
anywhere place = true

-- these bytes one behind the other from a place on
abbrev pub bytes_from : ℕ → List ℕ → ℕ → ℕ
bytes_from first bytes place = slice_index bytes (place - first)

-- ---- orderlists

-- the orderlist at $1130, with its endmark and its restart position
abbrev pub order_there : Order → ℕ → ℕ
order_there order = bytes_from 0x1130 (order.entries ++ 0xFF ∷ order.restart ∷ [])

abbrev pub IsThere : Order → Type 0
IsThere order = HasOrderIn (with_pattern 0x1140 anywhere) (order_there order) order

-- pattern 0 so many times
abbrev pub zeros : ℕ → Order
zeros count = record { entries = replicate count 0; restart = 0 }

-- 254 entries are as many as there may be; and a pattern stands behind the restart position, to which a walk comes
pub record OrdersAreWorked : Type 0 where
  pub most : IsThere (zeros 254)
  pub long : ¬ IsThere (zeros 255)
  pub walks : ¬ IsThere (record { entries = 0 ∷ 0xF2 ∷ []; restart = 1 })

-- ---- patterns

-- the bytes of pattern 0 from a place on, and the place before it in its lists
abbrev pub pattern_there : ℕ → List ℕ → ℕ → ℕ
pattern_there first bytes =
    put (put (bytes_from (first % 65536) bytes) 0x1110 ((first - 1) % 256)) 0x1118 ((first - 1) / 256)

abbrev pub IsAt : LookUps → (ℕ → Bool) → ℕ → List ℕ → List Row → Type 0
IsAt look reads first bytes rows =
    IsPattern (with_pattern first reads) 4 (pattern_there first bytes) (record look { rows = λ number. rows }) 0 bytes

-- the worked pattern
abbrev pub ItIsAt : LookUps → ℕ → Type 0
ItIsAt look first = IsAt look anywhere first (its_packed 0) its_rows

-- 64 notes with a command, of which the first has this instrument and the others instrument 1: with an instrument a
-- note has four bytes
abbrev pub named : ℕ → Entry
named instrument = record { instrument = instrument; kind = NamedNote (record { number = 1; param = 1 }) 0x60 }

abbrev pub filled : ℕ → List Entry
filled instrument = named instrument ∷ replicate 63 (named 1)

abbrev pub IsFilled : LookUps → ℕ → Type 0
IsFilled look instrument =
    IsAt look anywhere 0x1140 (text_of (filled instrument)) (rows_from no_command (filled instrument))

pub record PatternsAreWorked (look : LookUps) : Type 0 where
  -- 256 bytes are as many as there may be
  pub most : IsFilled look 0
  pub few : ¬ IsFilled look 1
  -- its place has one before it, and is at most the one behind the last
  pub least : ItIsAt look 1
  pub from : ¬ ItIsAt look 0
  pub last : ItIsAt look 0x10000
  pub to : ¬ ItIsAt look 0x10001
  -- the place before it is no slide, and one that code may read
  pub behind : ItIsAt look 0x1109
  pub before : ¬ ItIsAt look 0x1108
  pub reads_before : ¬ IsAt look (λ place. not (nat_eq place 0x1108)) 0x1109 (its_packed 0) its_rows

pub record EdgesAreWorked (look : LookUps) : Type 0 where
  pub orders : OrdersAreWorked
  pub patterns : PatternsAreWorked look
