-- Orderlists and packed patterns at the edges of memory and of their lengths, worked.
use Rattle.std.proofs.Common.{◌≡◌, ◌≢◌, ℕ, suc, ◌+◌, ◌-◌, ◌/◌, ◌%◌, ◌<◌, ◌≤◌}
use Rattle.std.proofs.Common.{Bool, true, List, [], ◌∷◌, ◌++◌, length, replicate, slice_index, inl, inr}
use Rattle.std.proofs.Common.{refl, sym, ap, ◌∙◌, arith}
use Rattle.std.proofs.lemmas.Bool.{both_ways, cases_lt}
use Rattle.std.proofs.lemmas.List.{drop-replicate}
use Rattle.std.proofs.lemmas.List.Elements.{All-cons, All-replicate, All-get_or}
use Rattle.code_runs.specs.Runs.{put}
use Rattle.code_runs.proofs.Laws.{put_other}
use Rattle.song_model.specs.declared.rows.Row.{Row}
use Rattle.play_model.specs.LookUps.{LookUps}
use Rattle.packed_form.specs.Entries.{IsEntry, no_command, rows_from}
use Rattle.packed_form.specs.PackedSpells.{PackedSpells, text_of}
use Rattle.packed_form.specs.WalkCount.{looks_from}
use Rattle.player_memory.specs.declared.labels.TheConstants.{ORDERS, PATTERNS}
use Rattle.player_memory.specs.Rooms.{IsElsewhere}
use Rattle.player_memory.specs.Playing.{place_in}
use Rattle.player_memory.specs.Fetching.{AreListed}
use Rattle.player_memory.specs.WorkedFetching.{its_rows, its_packed}
use Rattle.player_memory.proofs.Laws.{IsLaid, behind_slides}
use Rattle.fetch_code.specs.FetchBlock.{IsKept}
use Rattle.worked_blocks.specs.WorkedEdges.{with_pattern, anywhere, bytes_from, IsThere, zeros}
use Rattle.worked_blocks.specs.WorkedEdges.{IsAt, ItIsAt, named, filled, IsFilled, OrdersAreWorked}
use Rattle.worked_blocks.specs.WorkedEdges.{PatternsAreWorked, EdgesAreWorked}
use Rattle.worked_blocks.proofs.WorkedGrounds.{its_spelling}
use Rattle.player_memory.proofs.Laws.{off_variables}

laid : (first : ℕ) (reads : ℕ → Bool) → IsLaid (with_pattern first reads)
laid first reads = record { variables = refl; low = refl; high = refl; pointer = refl }

-- ---- orderlists

-- bytes from $1130 on are listed, up to $2000
order_listed : (bytes : List ℕ) → length bytes ≤ 0xED0 →
    AreListed (with_pattern 0x1140 anywhere) 4 (bytes_from 0x1130 bytes) ORDERS bytes
order_listed bytes fit number few =
    let place : (0x1130 + number) % 65536 ≡ 0x1130 + number = omega (arith, few, fit) in
    let offset : (0x1130 + number) % 65536 - 0x1130 ≡ number = omega (arith, few, fit) in record {
      elsewhere = behind_slides (with_pattern 0x1140 anywhere) (laid 0x1140 anywhere) ((0x1130 + number) % 65536)
          (omega (arith, place)) (omega (arith, place, few, fit));
      reads = refl;
      is = ap (slice_index bytes) offset;
    }

-- a pattern's number stands at each place but the endmark's
no_looks : (count place : ℕ) → place < count → looks_from (zeros count) place ≡ 0
unfolding looks_from
no_looks count place few =
    let more : count - place ≡ suc (count - place - 1) = omega (arith, few) in
    rw (drop-replicate {X = ℕ} place count 0, more) refl

most : IsThere (zeros 254)
unfolding looks_from
most = record {
  address = omega arith;
  stands = order_listed ((zeros 254).entries ++ 0xFF ∷ 0 ∷ []) (omega arith);
  endless = record { restart = omega arith; pattern = (0, 0, omega arith, refl, omega arith) };
  few = omega arith;
  each = All-replicate (IsKept (with_pattern 0x1140 anywhere)) 254 0
      (record { below = omega arith; transpose = λ none. omega arith; repeat = λ none. inl (omega arith) });
  walks = record {
    goes_on = record {
      pattern = λ place few low. no_looks 254 place few;
      other = λ place few high.
          (let low = All-get_or (λ b. b < 0xD0) (zeros 254).entries place 0 few
          (All-replicate (λ b. b < 0xD0) 254 0 (omega arith)) in absurd (omega (arith, low, high)));
      endmark = refl;
    };
    within = λ place few. elim (cases_lt place 254) [
      | inl inside ↦ (let none = no_looks 254 place inside in omega (arith, none))
      | inr past ↦ (let e : place ≡ 254 = omega (arith, few, past) in rw e (omega arith))
    ];
  };
}

no_walk : ¬ IsThere (record { entries = 0 ∷ 0xF2 ∷ []; restart = 1 })
unfolding looks_from
no_walk there = (let looks = there.walks.goes_on.endmark in omega (arith, looks))

orders_are_worked : OrdersAreWorked
orders_are_worked = record {
  most = most;
  long = λ there. (let few = there.few in omega (arith, few));
  walks = no_walk;
}

-- ---- patterns

-- a byte of the pattern at a place is what the code leaves, and none of the lists of places
record IsClear (first : ℕ) (place : ℕ) : Type 0 where
  elsewhere : IsElsewhere (with_pattern first anywhere) 4 place
  low : place ≢ 0x1110
  high : place ≢ 0x1118

pattern_stands : (look : LookUps) (first : ℕ) (bytes : List ℕ) (rows : List Row) → PackedSpells bytes rows →
    length bytes ≤ 256 → 1 ≤ first → first ≤ 65536 → first % 65536 + length bytes ≤ 65536 →
    ((number : ℕ) → number < length bytes → IsClear first (first % 65536 + number)) →
    IsElsewhere (with_pattern first anywhere) 4 (first - 1) → IsAt look anywhere first bytes rows
pattern_stands look first bytes rows spells few from to fit clear before = record {
  spells = spells;
  few = few;
  listed = λ number inside.
      (let place : place_in (with_pattern first anywhere) PATTERNS number ≡ first % 65536 + number =
      omega (arith, inside, fit) in
      let offset : first % 65536 + number - first % 65536 ≡ number = omega arith in
      let c = clear number inside in record {
        elsewhere = rw place c.elsewhere;
        reads = refl;
        is = rw place (put_other (put (bytes_from (first % 65536) bytes) 0x1110 ((first - 1) % 256)) 0x1118
            ((first - 1) / 256) (first % 65536 + number) c.high
            ∙ (put_other (bytes_from (first % 65536) bytes) 0x1110 ((first - 1) % 256) (first % 65536 + number) c.low
            ∙ ap (slice_index bytes) offset));
      });
  from = from;
  to = to;
  low = record {
    elsewhere = behind_slides (with_pattern first anywhere) (laid first anywhere) 0x1110 (omega arith) (omega arith);
    reads = refl;
    is = refl;
  };
  high = record {
    elsewhere = behind_slides (with_pattern first anywhere) (laid first anywhere) 0x1118 (omega arith) (omega arith);
    reads = refl;
    is = refl;
  };
  before = before;
  reads_before = refl;
}

-- what code leaves: places in page 0 below the pointer, behind the slides, and at the end of memory
below_pointer : (first place : ℕ) → place < 0xFC → IsElsewhere (with_pattern first anywhere) 4 place
below_pointer first place few = record {
  variables = off_variables (with_pattern first anywhere) refl place (inl (omega (arith, few)));
  slides_low = λ kept. inl (omega (arith, few));
  slides_high = λ kept. inl (omega (arith, few));
  low = λ e. omega (arith, few, e);
  high = λ e. omega (arith, few, e);
  registers = inl (omega (arith, few));
}

last_place : (first : ℕ) → IsElsewhere (with_pattern first anywhere) 4 0xFFFF
last_place first = record {
  variables = off_variables (with_pattern first anywhere) refl 0xFFFF (inr (omega arith));
  slides_low = λ kept. inr (omega arith);
  slides_high = λ kept. inr (omega arith);
  low = λ e. omega (arith, e);
  high = λ e. omega (arith, e);
  registers = inr (omega arith);
}

clear_low : (first place : ℕ) → place < 0xFC → IsClear first place
clear_low first place few = record {
  elsewhere = below_pointer first place few;
  low = λ e. omega (arith, few, e);
  high = λ e. omega (arith, few, e);
}

behind : (first place : ℕ) → 0x1108 ≤ place → place < 0xD400 → IsElsewhere (with_pattern first anywhere) 4 place
behind first place from to = behind_slides (with_pattern first anywhere) (laid first anywhere) place from to

least : (look : LookUps) → ItIsAt look 1
least look =
    pattern_stands look 1 (its_packed 0) its_rows its_spelling (omega arith) (omega arith) (omega arith) (omega arith)
    (λ number few. clear_low 1 (1 + number) (omega (arith, few))) (below_pointer 1 0 (omega arith))

last : (look : LookUps) → ItIsAt look 0x10000
last look =
    pattern_stands look 0x10000 (its_packed 0) its_rows its_spelling (omega arith) (omega arith) (omega arith)
    (omega arith) (λ number few. clear_low 0x10000 (0 + number) (omega (arith, few))) (last_place 0x10000)

just_behind : (look : LookUps) → ItIsAt look 0x1109
just_behind look =
    pattern_stands look 0x1109 (its_packed 0) its_rows its_spelling (omega arith) (omega arith) (omega arith)
    (omega arith)
    (λ number few. record {
      elsewhere = behind 0x1109 (0x1109 + number) (omega arith) (omega (arith, few));
      low = λ e. omega (arith, few, e);
      high = λ e. omega (arith, few, e);
    }) (behind 0x1109 0x1108 (omega arith) (omega arith))

named_is : (instrument : ℕ) → instrument ≤ 0x3F → IsEntry (named instrument)
named_is instrument few = record {
  instrument = few;
  kind = (
    record { number = omega arith; param = omega arith; bare = λ none. omega (arith, none) },
    record { from = omega arith; to = omega arith },
  );
}

filled_spelling : PackedSpells (text_of (filled 0)) (rows_from no_command (filled 0))
filled_spelling = record {
  entries = filled 0;
  each = All-cons IsEntry (named 0) (replicate 63 (named 1)) (named_is 0 (omega arith))
      (All-replicate IsEntry 63 (named 1) (named_is 1 (omega arith)));
  text = refl;
  are = refl;
  count = record { least = omega arith; most = omega arith };
}

full : (look : LookUps) → IsFilled look 0
full look =
    pattern_stands look 0x1140 (text_of (filled 0)) (rows_from no_command (filled 0)) filled_spelling (omega arith)
    (omega arith) (omega arith) (omega arith)
    (λ number few. record {
      elsewhere = behind 0x1140 (0x1140 + number) (omega arith) (omega (arith, few));
      low = λ e. omega (arith, e);
      high = λ e. omega (arith, e);
    }) (behind 0x1140 0x113F (omega arith) (omega arith))

on_slide : (look : LookUps) → ¬ ItIsAt look 0x1108
on_slide look is = elim (is.before.slides_high refl) [
  | inl low ↦ (let l = low in omega (arith, l))
  | inr high ↦ (let l = high in omega (arith, l))
]

patterns_are_worked : (look : LookUps) → PatternsAreWorked look
patterns_are_worked look = record {
  most = full look;
  few = λ is. (let few = is.few in omega (arith, few));
  least = least look;
  from = λ is. (let from = is.from in omega (arith, from));
  last = last look;
  to = λ is. (let to = is.to in omega (arith, to));
  behind = just_behind look;
  before = on_slide look;
  reads_before = λ is. both_ways true (sym is.reads_before) refl;
}

pub edges_are_worked : (look : LookUps) → EdgesAreWorked look
edges_are_worked look = record { orders = orders_are_worked; patterns = patterns_are_worked look }
