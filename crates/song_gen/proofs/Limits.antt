-- The limits of rows, patterns, orderlists and instruments that are drawn.
use Rattle.std.proofs.Common.{◌≡◌, ℕ, ◌+◌, ◌*◌, ◌%◌, ◌<◌, ◌≤◌, ◌==◌, ◌&&◌, nat_lt}
use Rattle.std.proofs.Common.{Bool, true, false, if◌then◌else◌, List, [], ◌∷◌, length, map, replicate, All}
use Rattle.std.proofs.Common.{refl, ◌∙◌, arith}
use Rattle.std.specs.List.{range_with_len, list_all}
use Rattle.std.proofs.Math.Nat.{mod-lt}
use Rattle.std.proofs.lemmas.Bool.{and_parts, ltb-true}
use Rattle.std.proofs.lemmas.List.{length-map, length-replicate}
use Rattle.std.proofs.lemmas.List.FromFn.{length-range_with_len}
use Rattle.std.proofs.lemmas.List.Elements.{All-nil, All-cons, All-map, All-replicate}
use Rattle.song_model.specs.declared.rows.Row.{Row}
use Rattle.song_model.specs.Silence.{rest_row}
use Rattle.song_model.specs.declared.tables.TableRow.{TableRow}
use Rattle.song_model.specs.Basics.{IsByte, KeepsLimit}
use Rattle.song_model.specs.Limits.{IsText, IsOrder, IsSubtune, IsInstrument, IsTableRow, IsTable}
use Rattle.song_model.specs.PatternLimits.{IsRow, IsPattern}
use Rattle.song_model.specs.OrderLimits.{AreEntries}
use Rattle.song_gen.specs.Draws.{after, draw}
use Rattle.song_gen.specs.GeneratedSong.{wave_rows, pulse_rows, filter_rows, speed_rows, instrument_from}
use Rattle.song_gen.specs.GeneratedSong.{instruments_from, keyoff_row, row_from, behind_rows, pattern_from}
use Rattle.song_gen.specs.GeneratedSong.{patterns_from, order_from, subtune_from, subtunes_from, behind_instruments}
use Rattle.song_gen.specs.GeneratedSong.{behind_patterns, generated_song}
use Rattle.song_gen.specs.GeneratedLaws.{GeneratedSongsKeepLimits}

-- ---- draws

rest_small : (x limit : ℕ) → 0 < limit → x % limit < limit
rest_small x limit some = mod-lt x some

pub draw_small : (x n limit : ℕ) → 0 < limit → draw x n limit < limit
unfolding draw
draw_small x n limit some = rest_small _ limit some

-- ---- rows

-- a row that names an instrument up to 4, and of the commands up to 4 one with a parameter up to 3
pub record IsDrawnRow (row : Row) : Type 0 where
  pub is : IsRow row
  pub instrument : row.instrument ≤ 4
  pub command : row.command ≤ 4
  pub param : row.param ≤ 3

drawn_by : (a b c : Bool) (note instrument command param : ℕ) → note < 48 → instrument < 4 → command < 4 → param < 3 →
    IsDrawnRow (
    if a then rest_row
    else if b then record { note = 0x78 + note; instrument = 1 + instrument; command = 0; param = 0 }
    else if c then record { note = 0xBD; instrument = 0; command = 1 + command; param = 1 + param }
    else keyoff_row
    )
drawn_by true b c note instrument command param n i k p = record {
  is = record {
    note_from = omega arith;
    note_to = omega arith;
    instrument = omega arith;
    command = omega arith;
    param = omega arith;
  };
  instrument = omega arith;
  command = omega arith;
  param = omega arith;
}
drawn_by false true c note instrument command param n i k p = record {
  is = record {
    note_from = omega (arith, n);
    note_to = omega (arith, n);
    instrument = omega (arith, i);
    command = omega arith;
    param = omega arith;
  };
  instrument = omega (arith, i);
  command = omega arith;
  param = omega arith;
}
drawn_by false false true note instrument command param n i k p = record {
  is = record {
    note_from = omega arith;
    note_to = omega arith;
    instrument = omega arith;
    command = omega (arith, k);
    param = omega (arith, p);
  };
  instrument = omega arith;
  command = omega (arith, k);
  param = omega (arith, p);
}
drawn_by false false false note instrument command param n i k p = record {
  is = record {
    note_from = omega arith;
    note_to = omega arith;
    instrument = omega arith;
    command = omega arith;
    param = omega arith;
  };
  instrument = omega arith;
  command = omega arith;
  param = omega arith;
}

pub rows_are_drawn : (y : ℕ) → IsDrawnRow (row_from y)
unfolding row_from
rows_are_drawn y =
    drawn_by (draw y 0 4 == 0) (draw y 0 4 == 1) (draw y 0 4 == 2) (draw y 1 48) (draw y 2 4) (draw y 1 4) (draw y 2 3)
    (draw_small y 1 48 (omega arith)) (draw_small y 2 4 (omega arith)) (draw_small y 1 4 (omega arith))
    (draw_small y 2 3 (omega arith))

-- ---- patterns

pub pattern_length : (y : ℕ) → length (pattern_from y) ≡ 32
unfolding pattern_from
pattern_length y =
    length-map (range_with_len 0 32) (λ j. row_from (behind_rows y j)) ∙ length-range_with_len 0 32

pub pattern_rows : (P : Row → Type 0) → ((y : ℕ) → P (row_from y)) → (y : ℕ) → All P (pattern_from y)
unfolding pattern_from
pattern_rows P each y =
    All-map P (λ j. row_from (behind_rows y j)) (range_with_len 0 32) (λ i d inside. each (behind_rows y _))

pub pattern_limits : (y : ℕ) → IsPattern (pattern_from y)
pattern_limits y = record {
  count = (let e = pattern_length y in record { least = omega (arith, e); most = omega (arith, e) });
  each = pattern_rows IsRow (λ z. (rows_are_drawn z).is) y;
}

-- ---- orderlists

-- a transpose, or the number of one of a hundred patterns
pub data IsDrawnEntry (byte : ℕ) : Type 0 where
  transpose : 0xF0 ≤ byte → byte < 0xF8 → IsDrawnEntry byte
  pattern : byte < 100 → IsDrawnEntry byte

pub order_length : (y : ℕ) → length (order_from y).entries ≡ 49
unfolding order_from
order_length y =
    let e = length-map (range_with_len 1 48) (λ n. draw y n 100) ∙ length-range_with_len 1 48 in omega (arith, e)

pub entries_are_drawn : (y : ℕ) → All IsDrawnEntry (order_from y).entries
unfolding order_from
entries_are_drawn y =
    All-cons IsDrawnEntry (0xF0 + draw y 0 8) (map (λ n. draw y n 100) (range_with_len 1 48))
    (let few = draw_small y 0 8 (omega arith) in transpose (omega arith) (omega (arith, few)))
    (All-map IsDrawnEntry (λ n. draw y n 100) (range_with_len 1 48)
    (λ i d inside. pattern (draw_small y _ 100 (omega arith))))

entry_below : (byte : ℕ) → IsDrawnEntry byte → byte < 255
entry_below byte (transpose from to) = omega (arith, to)
entry_below byte (pattern few) = omega (arith, few)

pub entries_limits : (y : ℕ) → AreEntries (order_from y).entries
entries_limits y = record {
  count = (let e = order_length y in omega (arith, e));
  each = λ i d inside. entry_below _ (entries_are_drawn y i d inside);
}

pub restart_below : (y : ℕ) → (order_from y).restart < 49
unfolding order_from
restart_below y = draw_small y 49 49 (omega arith)

-- ---- the song

text_limits : (n : ℕ) → IsText n (replicate n 0)
text_limits n = record { count = length-replicate n 0; each = All-replicate IsByte n 0 (omega arith) }

instrument_limits : (y n : ℕ) → n < 5 → IsInstrument (instrument_from y n)
instrument_limits y n few = record {
  ad = draw_small y 0 256 (omega arith);
  sr = draw_small y 1 256 (omega arith);
  wave = first_wave (n % 2 == 1);
  pulse = omega arith;
  filter = first_filter (n == 1);
  vibrato = omega (arith, few);
  vibrato_delay = (let small = draw_small y 2 16 (omega arith) in omega (arith, small));
  gate_timer = omega arith;
  first_wave = omega arith;
  name = text_limits 16;
}
  where
    first_wave : (odd : Bool) → (if odd then 1 else 6) < 256
    first_wave true = omega arith
    first_wave false = omega arith

    first_filter : (first : Bool) → (if first then 1 else 0) < 256
    first_filter true = omega arith
    first_filter false = omega arith

all_four : {X : Type 0} (P : X → Type 0) (a b c d : X) → P a → P b → P c → P d → All P (a ∷ b ∷ c ∷ d ∷ [])
all_four P a b c d one two three four =
    All-cons P a (b ∷ c ∷ d ∷ []) one
    (All-cons P b (c ∷ d ∷ []) two (All-cons P c (d ∷ []) three (All-cons P d [] four (All-nil P))))

instruments_limits : (x : ℕ) → KeepsLimit 63 IsInstrument (instruments_from x)
unfolding instruments_from
instruments_limits x = record {
  count = (let e = length-map (range_with_len 0 4) (λ k. instrument_from (after x (3 * k)) (k + 1)) ∙ length-range_with_len 0 4 in omega (arith, e));
  each = all_four IsInstrument _ _ _ _ (instrument_limits (after x (3 * 0)) 1 (omega arith))
      (instrument_limits (after x (3 * 1)) 2 (omega arith)) (instrument_limits (after x (3 * 2)) 3 (omega arith))
      (instrument_limits (after x (3 * 3)) 4 (omega arith));
}

order_limits : (y : ℕ) → IsOrder (order_from y)
order_limits y = record {
  entries = entries_limits y;
  restart = (let small = restart_below y in omega (arith, small));
}

subtunes_limits : (y : ℕ) → KeepsLimit 32 IsSubtune (subtunes_from y)
unfolding subtunes_from
subtunes_limits y = record {
  count = (let e = length-map (range_with_len 0 8) (λ s. subtune_from (after y (150 * s))) ∙ length-range_with_len 0 8 in omega (arith, e));
  each = All-map IsSubtune (λ s. subtune_from (after y (150 * s))) (range_with_len 0 8)
      (λ i d inside. record {
        one = order_limits (after y (150 * _));
        two = order_limits (after (after y (150 * _)) 50);
        three = order_limits (after (after y (150 * _)) 100);
      });
}

patterns_limits : (y : ℕ) → KeepsLimit 208 IsPattern (patterns_from y)
unfolding patterns_from
patterns_limits y = record {
  count = (let e = length-map (range_with_len 0 100) (λ p. pattern_from (behind_rows y (32 * p))) ∙ length-range_with_len 0 100 in omega (arith, e));
  each = All-map IsPattern (λ p. pattern_from (behind_rows y (32 * p))) (range_with_len 0 100)
      (λ i d inside. pattern_limits (behind_rows y (32 * _)));
}

-- rows of bytes
abbrev are_byte_rows : List TableRow → Bool
are_byte_rows rows = list_all (λ (row : TableRow). nat_lt row.left 256 && nat_lt row.right 256) rows

table_limits : (rows : List TableRow) → length rows ≤ 255 → are_byte_rows rows ≡ true → IsTable rows
table_limits rows few bytes = record { count = few; each = each_row rows bytes }
  where
    each_row : (rows : List TableRow) → are_byte_rows rows ≡ true → All IsTableRow rows
    each_row [] e = All-nil IsTableRow
    each_row (row ∷ rows) e =
        let parts = and_parts (nat_lt row.left 256 && nat_lt row.right 256) (are_byte_rows rows) e in
        let sides = and_parts (nat_lt row.left 256) (nat_lt row.right 256) parts.0 in
        All-cons IsTableRow row rows
        (record { left = ltb-true row.left 256 sides.0; right = ltb-true row.right 256 sides.1 })
        (each_row rows parts.1)

pub generated_songs_keep_limits : GeneratedSongsKeepLimits
unfolding generated_song
generated_songs_keep_limits x = record {
  name = text_limits 32;
  author = text_limits 32;
  copyright = text_limits 32;
  subtunes = subtunes_limits (behind_patterns x);
  instruments = instruments_limits x;
  wave = table_limits wave_rows (omega arith) refl;
  pulse = table_limits pulse_rows (omega arith) refl;
  filter = table_limits filter_rows (omega arith) refl;
  speed = table_limits speed_rows (omega arith) refl;
  patterns = patterns_limits (behind_instruments x);
}
