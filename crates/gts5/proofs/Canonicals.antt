-- The laws of the format: one song or one fault, and what the canonical spelling spells.
use Rattle.std.proofs.Common.{◌≡◌, ℕ, ◌≤◌, List, [], ◌∷◌, ◌++◌, length, map, codes, None}
use Rattle.std.proofs.Common.{Result, Ok, Err, refl, sym, ap, ◌∙◌, append_assoc, arith}
use Rattle.std.specs.Prelude.{MatchOption}
use Rattle.std.specs.List.{All, flat_map}
use Rattle.std.proofs.lemmas.List.{append-nil, length-append, length-map}
use Rattle.base.proofs.Laws.{regroup6, length-flat_map-le, length-flat_map-same}
use Rattle.song_model.specs.declared.rows.Row.{Row}
use Rattle.song_model.specs.declared.orders.Order.{Order}
use Rattle.song_model.specs.declared.orders.Subtune.{Subtune}
use Rattle.song_model.specs.declared.instruments.Instrument.{Instrument}
use Rattle.song_model.specs.declared.tables.TableRow.{TableRow}
use Rattle.song_model.specs.declared.songs.Song.{Song}
use Rattle.song_model.specs.Basics.{IsByte}
use Rattle.song_model.specs.Limits.{KeepsLimits, IsOrder, IsSubtune, IsInstrument, IsTable}
use Rattle.song_model.specs.PatternLimits.{IsPattern}
use Rattle.song_model.specs.Canonical.{canonical, order_text, subtune_text, subtunes_text, instrument_text}
use Rattle.song_model.specs.Canonical.{instruments_text, table_text, tables_text, row_text, end_row_text, pattern_text}
use Rattle.song_model.specs.Canonical.{patterns_text, texts_text}
use Rattle.gts5.specs.declared.faults.SongFault.{SongFault}
use Rattle.gts5.specs.Faults.{fault_in, fault_of}
use Rattle.gts5.specs.Reading.{song_of}
use Rattle.gts5.specs.Spells.{SpellsOrder, SpellsSubtune, SpellsPattern, Spells}
use Rattle.gts5.specs.FormatLaws.{SpellsOnly, SpellsNone, OneSongOrOneFault, CanonicalIsSpelled, CanonicalHasNoFault}
use Rattle.gts5.specs.FormatLaws.{CanonicalIsShort}
use Rattle.gts5.proofs.Takes.{ok_is, text_each}
use Rattle.gts5.proofs.SameFaults.{same_fault}
use Rattle.gts5.proofs.Whole.{song_takes, song_again}

-- ---- one song or one fault

pub spells_once : (bytes : List ℕ) (a b : Song) → Spells bytes a → Spells bytes b → a ≡ b
spells_once bytes a b p q =
    let one = song_again bytes a p in
    let two = song_again bytes b q in
    cc

pub spells_has_no_fault : (bytes : List ℕ) (song : Song) → Spells bytes song → fault_of bytes ≡ None
spells_has_no_fault bytes song spells = same_fault bytes ∙ ap fault_in (song_again bytes song spells)

-- two readings of one text are one
same_song : (bytes : List ℕ) (song other : Song) → song_of bytes ≡ Ok song → Spells bytes other → other ≡ song
same_song bytes song other read spelled = ok_is other song (sym (song_again bytes other spelled) ∙ read)

cases_song : (bytes : List ℕ) → All IsByte bytes → (r : Result Song SongFault) → song_of bytes ≡ r →
    MatchOption (fault_in r) ((song : Song) × SpellsOnly bytes song) (λ fault. SpellsNone bytes)
cases_song bytes are (Ok song) e = (
  song,
  record { spelled = song_takes bytes song are e; only = λ other spelled. same_song bytes song other e spelled },
)
cases_song bytes are (Err fault) e = λ song spelled. let read = song_again bytes song spelled in cc

pub one_or_other : OneSongOrOneFault
one_or_other bytes are = rw (same_fault bytes) (cases_song bytes are (song_of bytes) refl)

-- ---- the canonical spelling

order_spells : (order : Order) → IsOrder order → SpellsOrder order (order_text order)
order_spells order is = record {
  ignored = [];
  entries = is.entries.each;
  parts = ap (λ (k : ℕ). k ∷ (order.entries ++ 0xFF ∷ order.restart ∷ [])) (omega arith);
}

subtune_spells : (subtune : Subtune) → IsSubtune subtune → SpellsSubtune subtune (subtune_text subtune)
subtune_spells subtune is = record {
  one = order_text subtune.one;
  two = order_text subtune.two;
  three = order_text subtune.three;
  parts = append_assoc (order_text subtune.one) (order_text subtune.two) (order_text subtune.three);
  spells_one = order_spells subtune.one is.one;
  spells_two = order_spells subtune.two is.two;
  spells_three = order_spells subtune.three is.three;
}

pattern_spells : (rows : List Row) → IsPattern rows → SpellsPattern rows (pattern_text rows)
pattern_spells rows is = record {
  more = 0;
  ignored = 0 ∷ 0 ∷ 0 ∷ [];
  each = is.each;
  ignored_rows = refl;
  parts = ap (λ (k : ℕ). k ∷ (flat_map row_text rows ++ end_row_text)) (omega arith);
}

canonical_spells : (song : Song) → KeepsLimits song → Spells (canonical song) song
unfolding canonical
canonical_spells song within = record {
  limits = within;
  subtunes = flat_map subtune_text song.subtunes;
  patterns = flat_map pattern_text song.patterns;
  ignored = [];
  parts = regroup6 (codes "GTS5") (texts_text song) (subtunes_text song.subtunes) (instruments_text song.instruments)
      (tables_text song) (patterns_text song.patterns)
      ∙ ap (λ (t : List ℕ). codes "GTS5"
      ++ (texts_text song
      ++ (subtunes_text song.subtunes
      ++ (instruments_text song.instruments ++ (tables_text song ++ (length song.patterns ∷ t))))))
      (sym (append-nil (flat_map pattern_text song.patterns)));
  spells_subtunes = text_each subtune_text SpellsSubtune IsSubtune subtune_spells song.subtunes within.subtunes.each;
  spells_patterns = text_each pattern_text SpellsPattern IsPattern pattern_spells song.patterns within.patterns.each;
}

pub canonical_is_spelled : CanonicalIsSpelled
canonical_is_spelled song within =
    let spelled = canonical_spells song within in
    record {
      spelled = spelled;
      only = λ other also. same_song (canonical song) song other (song_again (canonical song) song spelled) also;
    }

pub canonical_has_no_fault : CanonicalHasNoFault
canonical_has_no_fault song within = same_fault (canonical song)
    ∙ ap fault_in (song_again (canonical song) song (canonical_spells song within))

-- ---- its length

order_short : (order : Order) → IsOrder order → length (order_text order) ≤ 257
order_short order is = let count = is.entries.count in
    omega (arith, length-append order.entries (0xFF ∷ order.restart ∷ []))

subtune_short : (subtune : Subtune) → IsSubtune subtune → length (subtune_text subtune) ≤ 771
subtune_short s is =
    omega (
      arith,
      length-append (order_text s.one ++ order_text s.two) (order_text s.three),
      length-append (order_text s.one) (order_text s.two),
      order_short s.one is.one,
      order_short s.two is.two,
      order_short s.three is.three,
    )

instrument_short : (i : Instrument) → IsInstrument i → length (instrument_text i) ≤ 25
instrument_short i is = let name = is.name.count in omega arith

table_short : (rows : List TableRow) → IsTable rows → length (table_text rows) ≤ 511
table_short rows is =
    let count = is.count in
    omega (
      arith,
      length-append (map (λ row. row.left) rows) (map (λ row. row.right) rows),
      length-map rows (λ row. row.left),
      length-map rows (λ row. row.right),
    )

pattern_short : (rows : List Row) → IsPattern rows → length (pattern_text rows) ≤ 517
pattern_short rows is = let most = is.count.most in
    omega (
      arith,
      length-append (flat_map row_text rows) end_row_text,
      length-flat_map-same row_text 4 (λ row. refl) rows,
    )

sum_short : (a b c d e f : List ℕ) → length a ≡ 4 → length b ≡ 96 → length c ≤ 24673 → length d ≤ 1576 →
    length e ≤ 2044 → length f ≤ 107537 → length (((((a ++ b) ++ c) ++ d) ++ e) ++ f) ≤ 262144
sum_short a b c d e f = λ la lb lc ld le lf. simp length-append (omega arith)

texts_length : (song : Song) → KeepsLimits song → length (texts_text song) ≡ 96
texts_length song within =
    omega (
      arith,
      length-append (song.name ++ song.author) song.copyright,
      length-append song.name song.author,
      within.name.count,
      within.author.count,
      within.copyright.count,
    )

tables_short : (song : Song) → KeepsLimits song → length (tables_text song) ≤ 2044
tables_short song within =
    omega (
      arith,
      length-append (table_text song.wave ++ table_text song.pulse ++ table_text song.filter) (table_text song.speed),
      length-append (table_text song.wave ++ table_text song.pulse) (table_text song.filter),
      length-append (table_text song.wave) (table_text song.pulse),
      table_short song.wave within.wave,
      table_short song.pulse within.pulse,
      table_short song.filter within.filter,
      table_short song.speed within.speed,
    )

pub canonical_is_short : CanonicalIsShort
unfolding canonical
canonical_is_short song within =
    let subtunes = length-flat_map-le subtune_text IsSubtune 771 subtune_short song.subtunes within.subtunes.each in
    let subtune_count = within.subtunes.count in
    let instruments = length-flat_map-le instrument_text IsInstrument 25 instrument_short song.instruments
    within.instruments.each in
    let instrument_count = within.instruments.count in
    let patterns = length-flat_map-le pattern_text IsPattern 517 pattern_short song.patterns within.patterns.each in
    let pattern_count = within.patterns.count in
    sum_short (codes "GTS5") (texts_text song) (subtunes_text song.subtunes) (instruments_text song.instruments)
    (tables_text song) (patterns_text song.patterns)
    refl (texts_length song within) (omega arith) (omega arith) (tables_short song within) (omega arith)
