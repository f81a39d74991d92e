-- What the step stands on, from orderlists and packed patterns that stand in memory.
use Rattle.std.proofs.Common.{◌≡◌, ℕ, ◌+◌, ◌/◌, ◌%◌, ◌<◌, List, [], ◌∷◌, ◌++◌, length}
use Rattle.std.proofs.Common.{length-append}
use Rattle.std.proofs.Common.{get_or, refl, subst, arith}
use Rattle.song_model.specs.declared.orders.Order.{Order}
use Rattle.play_model.specs.LookUps.{LookUps}
use Rattle.scopes.specs.Desk.{Desk, Layout}
use Rattle.player_memory.specs.declared.labels.TheConstants.{PATTERNS, PATTERNS_LOW, PATTERNS_HIGH}
use Rattle.player_memory.specs.Fetching.{AreListed, IsOrderlist, IsPattern, place_before}
use Rattle.player_desk.proofs.Laws.{Reads, reader_of, finds, place_at}
use Rattle.entry_code.proofs.Laws.{PatternAt}
use Rattle.walk_code.proofs.Laws.{order_byte}

-- a byte of what stands under a label
byte_at : (layout : Layout) (rows voice : ℕ) (desk : Desk) (label place : ℕ) (bytes : List ℕ) →
    AreListed layout rows desk.at label bytes → layout.address label ≡ place → (i : ℕ) → i < length bytes →
    Reads (reader_of layout rows voice desk) ((place + i) % 65536) (get_or bytes i 0)
byte_at layout rows voice desk label place bytes listed is i inside =
    subst (λ n. Reads (reader_of layout rows voice desk) ((n + i) % 65536) (get_or bytes i 0)) is
    (finds layout rows voice desk label i (get_or bytes i 0) (listed i inside))

-- a packed pattern is found
pub pattern_at : (layout : Layout) (rows voice : ℕ) (desk : Desk) (look : LookUps) (number : ℕ) (bytes : List ℕ) →
    IsPattern layout rows desk.at look number bytes →
    PatternAt (reader_of layout rows voice desk) (place_before layout number) bytes
pattern_at layout rows voice desk look number bytes is =
    let from = is.from in
    let to = is.to in record {
      few = is.few;
      small = omega (arith, from, to);
      each = byte_at layout rows voice desk (PATTERNS + number) (place_before layout number + 1) bytes is.listed
          (omega (arith, from));
      before = record { elsewhere = is.before; reads = is.reads_before };
    }

-- and so are the bytes of the place before it
pub low_at : (layout : Layout) (rows voice : ℕ) (desk : Desk) (look : LookUps) (number : ℕ) (bytes : List ℕ) →
    IsPattern layout rows desk.at look number bytes →
    Reads (reader_of layout rows voice desk) (place_at (reader_of layout rows voice desk) PATTERNS_LOW number)
    (place_before layout number % 256)
low_at layout rows voice desk look number bytes is = finds layout rows voice desk PATTERNS_LOW number _ is.low

pub high_at : (layout : Layout) (rows voice : ℕ) (desk : Desk) (look : LookUps) (number : ℕ) (bytes : List ℕ) →
    IsPattern layout rows desk.at look number bytes →
    Reads (reader_of layout rows voice desk) (place_at (reader_of layout rows voice desk) PATTERNS_HIGH number)
    (place_before layout number / 256)
high_at layout rows voice desk look number bytes is = finds layout rows voice desk PATTERNS_HIGH number _ is.high

-- an orderlist is
pub order_at : (layout : Layout) (rows voice : ℕ) (desk : Desk) (label : ℕ) (order : Order) →
    IsOrderlist layout rows desk.at label order → (i : ℕ) → i < length order.entries + 2 →
    Reads (reader_of layout rows voice desk) ((layout.address label + i) % 65536) (order_byte order i)
order_at layout rows voice desk label order is i inside =
    let size = length-append order.entries (0xFF ∷ order.restart ∷ []) in
    byte_at layout rows voice desk label (layout.address label) (order.entries ++ 0xFF ∷ order.restart ∷ []) is refl i
    (omega (arith, size, inside))
