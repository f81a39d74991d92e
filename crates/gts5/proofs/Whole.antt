-- A song that is read is the one that is spelled, and one that is spelled is read.
use Rattle.std.proofs.Common.{◌≡◌, ◌≢◌, ◌⊎◌, ℕ, ◌≤◌, Bool, true, false, cond, List, ◌∷◌}
use Rattle.std.proofs.Common.{◌++◌, length, take, drop, codes, Some, Result, Ok, Err, refl, sym, ap, subst}
use Rattle.std.proofs.Common.{◌∙◌, append_assoc, arith, inl, inr, take-append-drop}
use Rattle.std.specs.Prelude.{IfOk, IfErr}
use Rattle.std.specs.List.{All, flat_map}
use Rattle.std.specs.Str.{bytes_eq}
use Rattle.std.proofs.lemmas.List.Elements.{All-drop}
use Rattle.std.proofs.lemmas.Slice.Eq.{bytes_eq-Decides}
use Rattle.base.proofs.Laws.{regroup4}
use Rattle.song_model.specs.declared.rows.Row.{Row}
use Rattle.song_model.specs.declared.orders.Subtune.{Subtune}
use Rattle.song_model.specs.declared.instruments.Instrument.{Instrument}
use Rattle.song_model.specs.declared.songs.Song.{Song}
use Rattle.song_model.specs.Basics.{IsByte, KeepsLimit}
use Rattle.song_model.specs.Limits.{IsSubtune, IsInstrument}
use Rattle.song_model.specs.PatternLimits.{IsPattern}
use Rattle.song_model.specs.Canonical.{texts_text, instruments_text, instrument_text, tables_text, table_text}
use Rattle.gts5.specs.declared.faults.SongFault.{SongFault}
use Rattle.gts5.specs.declared.faults.SongFault.TheVariants.{NotGts5, Truncated, OutOfLimit, BadOrder, BadRow, NoMemory}
use Rattle.gts5.specs.declared.tables.Tables.{Tables}
use Rattle.gts5.specs.declared.texts.Texts.{Texts}
use Rattle.gts5.specs.Faults.{after_magic, fault_in, fault_of}
use Rattle.gts5.specs.Reading.{texts_at, each_at, count_at, subtune_at, subtunes_at, instrument_at, instruments_at}
use Rattle.gts5.specs.Reading.{tables_at, pattern_at, patterns_at, song_of}
use Rattle.gts5.specs.Spells.{SpellsEach, SpellsSubtune, SpellsPattern, Spells}
use Rattle.gts5.specs.Gives.{Gives, IsAnswer}
use Rattle.gts5.proofs.Takes.{bind_ok, ok_is, Takes, TakesCount, AreMany, count_takes, count_again, each_takes}
use Rattle.gts5.proofs.Takes.{each_again, each_text, text_each}
use Rattle.gts5.proofs.SameFaults.{same_fault}
use Rattle.gts5.proofs.OrderPieces.{subtune_takes, subtune_again}
use Rattle.gts5.proofs.FieldPieces.{texts_take, texts_again, IsInstrumentText, instrument_takes, instrument_again}
use Rattle.gts5.proofs.FieldPieces.{tables_take, tables_again}
use Rattle.gts5.proofs.PatternPieces.{pattern_takes, pattern_again}

-- ---- the magic

magic_ok : (b : Bool) (x y : List ℕ) (fault : SongFault) → cond b (Ok x) (Err fault) ≡ Ok y → (b ≡ true) × (x ≡ y)
magic_ok true x y fault e = (refl, ok_is x y e)
magic_ok false x y fault e = absurd cc

magic_takes : (bytes rest : List ℕ) → All IsByte bytes → after_magic bytes ≡ Ok rest →
    (bytes ≡ codes "GTS5" ++ rest) × All IsByte rest
unfolding after_magic
magic_takes bytes rest are e =
    let g = magic_ok (bytes_eq (take 4 bytes) (codes "GTS5")) (drop 4 bytes) rest NotGts5 e in
    let front : take 4 bytes ≡ codes "GTS5" = (bytes_eq-Decides (take 4 bytes) (codes "GTS5")).0 g.0 in (
      sym (take-append-drop 4 bytes) ∙ ap (λ (t : List ℕ). t ++ drop 4 bytes) front
          ∙ ap (λ (t : List ℕ). codes "GTS5" ++ t) g.1,
      subst (All IsByte) g.1 (All-drop IsByte 4 bytes are),
    )

magic_again : (rest : List ℕ) → after_magic (codes "GTS5" ++ rest) ≡ Ok rest
unfolding after_magic
magic_again rest = refl

-- ---- counted pieces

record TakesMany {X : Type 0} (Spelled : X → List ℕ → Type 0) (limit : ℕ) (Within : X → Type 0) (bytes : List ℕ)
    (items : List X) (rest : List ℕ) : Type 0 where
  pub text : List ℕ
  pub spelled : SpellsEach Spelled items text
  pub within : KeepsLimit limit Within items
  pub parts : bytes ≡ length items ∷ (text ++ rest)
  pub left : All IsByte rest

many : {X : Type 0} (Spelled : X → List ℕ → Type 0) (limit : ℕ) (Within : X → Type 0) (bytes : List ℕ) (n : ℕ)
    (after : List ℕ) (items : List X) (rest : List ℕ)
    → TakesCount bytes n after → n ≤ limit → Takes (SpellsEach Spelled) (AreMany Within n) after items rest →
    TakesMany Spelled limit Within bytes items rest
many Spelled limit Within bytes n after items rest count small pieces =
    let number = pieces.within.number in
    record {
      text = pieces.piece;
      spelled = pieces.spelled;
      within = record { count = omega arith; each = pieces.within.each };
      parts = count.parts ∙ ap (λ (t : List ℕ). n ∷ t) pieces.parts ∙ ap (λ (k : ℕ). k ∷ (pieces.piece ++ rest))
          (sym number);
      left = pieces.left;
    }

subtunes_take : (total : ℕ) (bytes : List ℕ) (x : List Subtune × List ℕ) → All IsByte bytes →
    subtunes_at total bytes ≡ Ok x → TakesMany SpellsSubtune 32 IsSubtune bytes x.0 x.1
unfolding subtunes_at
subtunes_take total bytes x are e =
    let a = bind_ok (count_at total 32 bytes) (λ count. each_at (subtune_at total) count.0 count.1) x e in
    let count = count_takes total 32 bytes a.0 are a.1 in
    many SpellsSubtune 32 IsSubtune bytes a.0.0 a.0.1 x.0 x.1 count.0 count.1
    (each_takes (subtune_at total) SpellsSubtune IsSubtune (subtune_takes total) a.0.0 a.0.1 x count.0.left a.2)

instruments_take : (total : ℕ) (bytes : List ℕ) (x : List Instrument × List ℕ) → All IsByte bytes →
    instruments_at total bytes ≡ Ok x → TakesMany IsInstrumentText 63 IsInstrument bytes x.0 x.1
unfolding instruments_at
instruments_take total bytes x are e =
    let a = bind_ok (count_at total 63 bytes) (λ count. each_at (instrument_at total) count.0 count.1) x e in
    let count = count_takes total 63 bytes a.0 are a.1 in
    many IsInstrumentText 63 IsInstrument bytes a.0.0 a.0.1 x.0 x.1 count.0 count.1
    (each_takes (instrument_at total) IsInstrumentText IsInstrument (instrument_takes total) a.0.0 a.0.1 x count.0.left
    a.2)

patterns_take : (total : ℕ) (bytes : List ℕ) (x : List (List Row) × List ℕ) → All IsByte bytes →
    patterns_at total bytes ≡ Ok x → TakesMany SpellsPattern 208 IsPattern bytes x.0 x.1
unfolding patterns_at
patterns_take total bytes x are e =
    let a = bind_ok (count_at total 208 bytes) (λ count. each_at (pattern_at total) count.0 count.1) x e in
    let count = count_takes total 208 bytes a.0 are a.1 in
    many SpellsPattern 208 IsPattern bytes a.0.0 a.0.1 x.0 x.1 count.0 count.1
    (each_takes (pattern_at total) SpellsPattern IsPattern (pattern_takes total) a.0.0 a.0.1 x count.0.left a.2)

subtunes_again : (total : ℕ) (items : List Subtune) (text rest : List ℕ) → KeepsLimit 32 IsSubtune items →
    SpellsEach SpellsSubtune items text → subtunes_at total (length items ∷ (text ++ rest)) ≡ Ok (items, rest)
unfolding subtunes_at
subtunes_again total items text rest within spelled =
    rw (count_again total 32 (length items) (text ++ rest) within.count)
    (each_again (subtune_at total) SpellsSubtune IsSubtune (λ x piece more is. subtune_again total x piece more) items
    text rest within.each spelled)

instrument_piece : (total : ℕ) (x : Instrument) (piece rest : List ℕ) → IsInstrument x → piece ≡ instrument_text x →
    instrument_at total (piece ++ rest) ≡ Ok (x, rest)
instrument_piece total x piece rest is e = ap (λ (t : List ℕ). instrument_at total (t ++ rest)) e
    ∙ instrument_again total x rest is

instruments_again : (total : ℕ) (items : List Instrument) (rest : List ℕ) → KeepsLimit 63 IsInstrument items →
    instruments_at total (instruments_text items ++ rest) ≡ Ok (items, rest)
unfolding instruments_at
instruments_again total items rest within =
    rw (count_again total 63 (length items) (flat_map instrument_text items ++ rest) within.count)
    (each_again (instrument_at total) IsInstrumentText IsInstrument (instrument_piece total) items
    (flat_map instrument_text items) rest within.each
    (text_each instrument_text IsInstrumentText IsInstrument (λ x is. refl) items within.each))

patterns_again : (total : ℕ) (items : List (List Row)) (text rest : List ℕ) → KeepsLimit 208 IsPattern items →
    SpellsEach SpellsPattern items text → patterns_at total (length items ∷ (text ++ rest)) ≡ Ok (items, rest)
unfolding patterns_at
patterns_again total items text rest within spelled =
    rw (count_again total 208 (length items) (text ++ rest) within.count)
    (each_again (pattern_at total) SpellsPattern IsPattern (λ x piece more is. pattern_again total x piece more is)
    items text rest within.each spelled)

-- ---- the song

abbrev made_of : Texts → List Subtune → List Instrument → Tables → List (List Row) → Song
made_of texts subtunes instruments tables patterns = record {
  name = texts.name;
  author = texts.author;
  copyright = texts.copyright;
  subtunes = subtunes;
  instruments = instruments;
  wave = tables.wave;
  pulse = tables.pulse;
  filter = tables.filter;
  speed = tables.speed;
  patterns = patterns;
}

three_texts : (a b c d : List ℕ) → (a ++ (b ++ c)) ++ d ≡ ((a ++ b) ++ c) ++ d
three_texts a b c d = simp append_assoc

four_texts : (a b c d e : List ℕ) → (a ++ (b ++ (c ++ d))) ++ e ≡ (((a ++ b) ++ c) ++ d) ++ e
four_texts a b c d e = simp append_assoc

pub song_takes : (bytes : List ℕ) (song : Song) → All IsByte bytes → song_of bytes ≡ Ok song → Spells bytes song
unfolding song_of
song_takes bytes song are e =
    let total = length bytes in
    let a = bind_ok (after_magic bytes) _ song e in
    let b = bind_ok (texts_at total a.0) _ song a.2 in
    let c = bind_ok (subtunes_at total b.0.1) _ song b.2 in
    let d = bind_ok (instruments_at total c.0.1) _ song c.2 in
    let f = bind_ok (tables_at total d.0.1) _ song d.2 in
    let g = bind_ok (patterns_at total f.0.1) _ song f.2 in
    let magic = magic_takes bytes a.0 are a.1 in
    let texts = texts_take total a.0 b.0 magic.1 b.1 in
    let subtunes = subtunes_take total b.0.1 c.0 texts.left c.1 in
    let instruments = instruments_take total c.0.1 d.0 subtunes.left d.1 in
    let tables = tables_take total d.0.1 f.0 instruments.left f.1 in
    let patterns = patterns_take total f.0.1 g.0 tables.left g.1 in
    let t = b.0.0 in
    let q = f.0.0 in
    let made = made_of t c.0.0 d.0.0 q g.0.0 in
    let texts_are : a.0 ≡ texts_text made ++ b.0.1 = texts.parts ∙ ap (λ (p : List ℕ). p ++ b.0.1) texts.spelled
    ∙ three_texts t.name t.author t.copyright b.0.1 in
    let instruments_are : c.0.1 ≡ instruments_text made.instruments ++ d.0.1 =
    instruments.parts ∙ ap (λ (p : List ℕ). length d.0.0 ∷ (p ++ d.0.1))
    (each_text instrument_text d.0.0 instruments.text instruments.spelled) in
    let tables_are : d.0.1 ≡ tables_text made ++ f.0.1 = tables.parts ∙ ap (λ (p : List ℕ). p ++ f.0.1) tables.spelled
    ∙ four_texts (table_text q.wave) (table_text q.pulse) (table_text q.filter) (table_text q.speed) f.0.1 in
    subst (Spells bytes) (ok_is made song g.2) (record {
      limits = record {
        name = texts.within.name;
        author = texts.within.author;
        copyright = texts.within.copyright;
        subtunes = subtunes.within;
        instruments = instruments.within;
        wave = tables.within.wave;
        pulse = tables.within.pulse;
        filter = tables.within.filter;
        speed = tables.within.speed;
        patterns = patterns.within;
      };
      subtunes = subtunes.text;
      patterns = patterns.text;
      ignored = g.0.1;
      parts = magic.0 ∙ ap (λ (p : List ℕ). codes "GTS5" ++ p)
          (texts_are ∙ ap (λ (p : List ℕ). texts_text made ++ p)
          (subtunes.parts ∙ ap (λ (p : List ℕ). length c.0.0 ∷ (subtunes.text ++ p))
          (instruments_are ∙ ap (λ (p : List ℕ). instruments_text made.instruments ++ p)
          (tables_are ∙ ap (λ (p : List ℕ). tables_text made ++ p) patterns.parts))));
      spells_subtunes = subtunes.spelled;
      spells_patterns = patterns.spelled;
    })

pub song_again : (bytes : List ℕ) (song : Song) → Spells bytes song → song_of bytes ≡ Ok song
unfolding song_of
song_again bytes song spelled =
    let total = length bytes in
    let within = spelled.limits in
    let texts : Texts = record { name = song.name; author = song.author; copyright = song.copyright } in
    let tables : Tables = record { wave = song.wave; pulse = song.pulse; filter = song.filter; speed = song.speed } in
    let r5 = length song.patterns ∷ (spelled.patterns ++ spelled.ignored) in
    let r4 = tables_text song ++ r5 in
    let r3 = instruments_text song.instruments ++ r4 in
    let r2 = length song.subtunes ∷ (spelled.subtunes ++ r3) in
    let r1 = texts_text song ++ r2 in
    let magic : after_magic bytes ≡ Ok r1 = ap after_magic spelled.parts ∙ magic_again r1 in
    let first : texts_at total r1 ≡ Ok (texts, r2) = ap (texts_at total) (simp append_assoc)
    ∙ texts_again total texts r2 (record { name = within.name; author = within.author; copyright = within.copyright })
    in
    let second : subtunes_at total r2 ≡ Ok (song.subtunes, r3) =
    subtunes_again total song.subtunes spelled.subtunes r3 within.subtunes spelled.spells_subtunes in
    let third : instruments_at total r3 ≡ Ok (song.instruments, r4) =
    instruments_again total song.instruments r4 within.instruments in
    let fourth : tables_at total r4 ≡ Ok (tables, r5) =
    ap (tables_at total)
    (sym (four_texts (table_text song.wave) (table_text song.pulse) (table_text song.filter) (table_text song.speed) r5)
    ∙ regroup4 (table_text song.wave) (table_text song.pulse) (table_text song.filter) (table_text song.speed) r5)
    ∙ tables_again total tables r5 in
    let fifth : patterns_at total r5 ≡ Ok (song.patterns, spelled.ignored) =
    patterns_again total song.patterns spelled.patterns spelled.ignored within.patterns spelled.spells_patterns in
    rw (magic, first, second, third, fourth, fifth) refl

-- ---- what the reader's clauses say

memory_or_not : (fault : SongFault) → (fault ≡ NoMemory) ⊎ (fault ≢ NoMemory)
memory_or_not NoMemory = inl refl
memory_or_not NotGts5 = inr (λ e. cc)
memory_or_not (Truncated n) = inr (λ e. cc)
memory_or_not (OutOfLimit n) = inr (λ e. cc)
memory_or_not (BadOrder n) = inr (λ e. cc)
memory_or_not (BadRow n) = inr (λ e. cc)

abbrev GivesSong : Result Song SongFault → List ℕ → Type 0
GivesSong r bytes = Gives (λ song. song) r (song_of bytes)

pub is_found : (bytes : List ℕ) (r : Result Song SongFault) → All IsByte bytes → GivesSong r bytes →
    IfOk r (Spells bytes)
is_found bytes (Ok song) are given = song_takes bytes song are given
is_found bytes (Err fault) are given = tt

pub is_answer : (bytes : List ℕ) (r wanted : Result Song SongFault) → GivesSong r bytes → song_of bytes ≡ wanted →
    IsAnswer r wanted
is_answer bytes (Ok song) wanted given e = inl (sym given ∙ e)
is_answer bytes (Err fault) wanted given e =
    elim (memory_or_not fault) [
      | inl memory ↦ inr (ap Err memory)
      | inr other ↦ inl (sym (given other) ∙ e)
    ]

pub is_fault : (bytes : List ℕ) (r : Result Song SongFault) → GivesSong r bytes →
    IfErr r (λ fault. (fault ≡ NoMemory) ⊎ (fault_of bytes ≡ Some fault))
is_fault bytes (Ok song) given = tt
is_fault bytes (Err fault) given =
    elim (memory_or_not fault) [
      | inl memory ↦ inl memory
      | inr other ↦ inr (same_fault bytes ∙ ap fault_in (given other))
    ]

fault_is : (r : Result Song SongFault) (fault : SongFault) → fault_in r ≡ Some fault → r ≡ Err fault
fault_is (Ok song) fault e = absurd cc
fault_is (Err other) fault e = cc

pub faults : (bytes : List ℕ) (fault : SongFault) → fault_of bytes ≡ Some fault → song_of bytes ≡ Err fault
faults bytes fault e = fault_is (song_of bytes) fault (sym (same_fault bytes) ∙ e)
