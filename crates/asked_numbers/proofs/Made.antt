-- What songs like the one of one note ask for.
use Rattle.std.specs.Prelude.{◌==◌}
use Rattle.std.proofs.Common.{◌≡◌, ◌≢◌, ℕ, ℤ, pos, ◌-ℤ◌, ◌%◌, ◌<◌, ◌≤◌, ◌⊎◌, Bool, true, false, cond, List, [], ◌∷◌}
use Rattle.std.proofs.Common.{All, Contains, Some, None, inl, inr, sym, arith}
use Rattle.std.proofs.lemmas.Bool.{cond_both}
use Rattle.std.proofs.lemmas.Bool.Decides.{nat_tests}
use Rattle.std.proofs.lemmas.List.Elements.{All-nil, All-contains, All-filter}
use Rattle.base.proofs.Laws.{same_some, All-get_or_any}
use Rattle.song_model.specs.declared.rows.Row.{Row}
use Rattle.song_model.specs.declared.orders.Order.{Order}
use Rattle.song_model.specs.declared.orders.Subtune.{Subtune}
use Rattle.song_model.specs.declared.instruments.Instrument.{Instrument}
use Rattle.song_model.specs.declared.tables.TableRow.{TableRow}
use Rattle.song_model.specs.declared.tables.TableName.TheVariants.{Wave}
use Rattle.song_model.specs.declared.songs.Song.{Song}
use Rattle.song_model.specs.Endless.{IsPatternByte}
use Rattle.song_model.specs.LookUp.{zero_table_row, numbered, instrument_at, table_row, table_of, pattern_at}
use Rattle.song_model.specs.LookUp.{is_playable_subtune, playable_subtunes}
use Rattle.song_model.specs.Pointers.{command_table}
use Rattle.play_model.specs.Wrap.{byte_minus}
use Rattle.play_model.specs.WaveStep.{is_wave_command, wave_note}
use Rattle.play_model.specs.FetchRow.{is_note, transposed}
use Rattle.play_model.specs.Used.{IsPlayedOrder, IsUsedRow, IsUsedInstrument}
use Rattle.play_model.specs.Reached.{is_jump, led_to, of_instrument, of_row, IsPlayedPointer, IsReached, played}
use Rattle.play_model.specs.Reached.{pointed, led}
use Rattle.play_model.specs.Features.{HasRow, IsAny, HasNoteSpeed}
use Rattle.play_model.specs.WorkedSongs.{sides, one_note}
use Rattle.play_model.proofs.Laws.{no_wave_pointer}
use Rattle.asked_numbers.specs.Numbers.{IsTransposeOf, IsPlayedNote, AsksBeforeNotes, IsSoundingNote, SetsNumber}
use Rattle.asked_numbers.specs.Numbers.{SlidesToNote, IsSoundedNumber, of_wave_row, of_slide, IsAskedNumber, sounded}
use Rattle.asked_numbers.specs.Numbers.{half_tone_from, half_tone_to}

-- ---- the notes that orderlists play

-- each orderlist of a subtune is such
pub record EachOrder (IsSuch : Order → Type 0) (subtune : Subtune) : Type 0 where
  pub one : IsSuch subtune.one
  pub two : IsSuch subtune.two
  pub three : IsSuch subtune.three

played_is : (song : Song) (IsSuch : Order → Type 0) → All (EachOrder IsSuch) song.subtunes → (order : Order) →
    IsPlayedOrder song order → IsSuch order
played_is song IsSuch all order o =
    let each = All-contains (EachOrder IsSuch) (playable_subtunes song) o.subtune
    (All-filter is_playable_subtune (EachOrder IsSuch) song.subtunes all) o.playable in
    rw o.order_is (by_channel (o.channel == 1) (o.channel == 2) each)
  where
    by_channel : (first second : Bool) → EachOrder IsSuch o.subtune →
        IsSuch (cond first o.subtune.one (cond second o.subtune.two o.subtune.three))
    by_channel true second each = each.one
    by_channel false true each = each.two
    by_channel false false each = each.three

-- an entry sets such a transpose, where it sets one
abbrev pub SetsSuch : (ℤ → Type 0) → ℕ → Type 0
SetsSuch IsShift byte = 0xE0 ≤ byte → IsShift (pos byte -ℤ pos 0xF0)

-- a row's note is such, where it has one
abbrev pub HasSuch : (ℕ → Type 0) → Row → Type 0
HasSuch IsSuch row = is_note row.note ≡ true → IsSuch row.note

-- an entry names a pattern of such notes, where it names one
abbrev pub NamesSuch : Song → (ℕ → Type 0) → ℕ → Type 0
NamesSuch song IsSuch byte = IsPatternByte byte → All (HasSuch IsSuch) (pattern_at song byte)

-- an orderlist whose patterns have such notes, and that has such transposes
pub record Plays (song : Song) (IsSuch : ℕ → Type 0) (IsShift : ℤ → Type 0) (order : Order) : Type 0 where
  pub none : IsShift (pos 0)
  pub sets : All (SetsSuch IsShift) order.entries
  pub rows : All (NamesSuch song IsSuch) order.entries

-- so what an orderlist plays are these notes
abbrev pub PlaysAlone : Song → (ℕ → Type 0) → Order → Type 0
PlaysAlone song IsNote order =
    (pattern : ℕ) → Contains order.entries pattern → IsPatternByte pattern →
    (row : Row) → Contains (pattern_at song pattern) row → is_note row.note ≡ true → (transpose : ℤ) →
    IsTransposeOf order transpose → IsNote (byte_minus (transposed row.note transpose) 0x60)

pub plays_alone : (song : Song) (IsNote IsSuch : ℕ → Type 0) (IsShift : ℤ → Type 0) (order : Order) →
    ((note : ℕ) (transpose : ℤ) → IsSuch note → IsShift transpose →
    IsNote (byte_minus (transposed note transpose) 0x60)) →
    Plays song IsSuch IsShift order → PlaysAlone song IsNote order
plays_alone song IsNote IsSuch IsShift order makes plays pattern entry is_pattern row has sounds transpose by =
    makes row.note transpose
    (All-contains (HasSuch IsSuch) (pattern_at song pattern) row
    (All-contains (NamesSuch song IsSuch) order.entries pattern plays.rows entry is_pattern) has sounds)
    (shift by)
  where
    shift : IsTransposeOf order transpose → IsShift transpose
    shift (inl none) = rw none plays.none
    shift (inr set) = rw set.sets (All-contains (SetsSuch IsShift) order.entries set.byte plays.sets set.entry set.from)

pub played_notes : (song : Song) (IsNote : ℕ → Type 0) → All (EachOrder (PlaysAlone song IsNote)) song.subtunes →
    (note : ℕ) → IsPlayedNote song note → IsNote note
played_notes song IsNote all note p =
    rw p.note_is
    (played_is song (PlaysAlone song IsNote) all p.order p.played p.pattern p.entry p.is_pattern p.row p.has p.plays
    p.transpose p.by)

-- ---- half tones

each_row : (IsSuch : TableRow → Type 0) (rows : List TableRow) (p : ℕ) → IsSuch zero_table_row → All IsSuch rows →
    IsSuch (numbered rows p zero_table_row)
each_row IsSuch rows p none all =
    cond_both (p == 0) zero_table_row _ IsSuch (λ h. none)
    (λ h. All-get_or_any IsSuch rows _ zero_table_row none all)

-- a left side below $80 is a speed
abbrev pub IsPlainSpeed : TableRow → Type 0
IsPlainSpeed row = row.left < 0x80

pub no_note_speed : (song : Song) → All IsPlainSpeed song.speed → ¬ HasNoteSpeed song
unfolding table_row
no_note_speed song all has =
    let plain = each_row IsPlainSpeed song.speed has.p (omega arith) all in
    let from = has.from_note in omega (arith, plain, from)

pub sounds_alone : (song : Song) (n : ℕ) → ¬ HasNoteSpeed song → IsAskedNumber song n → IsSoundedNumber song n
sounds_alone song n none (sounded h) = h
sounds_alone song n none (half_tone_from depends last) = absurd (none depends)
sounds_alone song n none (half_tone_to last depends before is) = absurd (none depends)

-- ---- what songs of one instrument and one row of the wave table ask for

-- a song like that of one note
abbrev pub made : List Subtune → Instrument → ℕ → ℕ → ℕ → List TableRow → List (List Row) → Song
made subtunes instrument left right to speed patterns = record one_note {
  subtunes = subtunes;
  instruments = instrument ∷ [];
  wave = sides left right ∷ sides 0xFF to ∷ [];
  speed = speed;
  patterns = patterns;
}

-- a row names no instrument but the first, and has no command but this one
pub record IsTame (command : ℕ) (row : Row) : Type 0 where
  pub instrument : row.instrument ≤ 1
  pub command_is : (row.command ≡ 0) ⊎ (row.command ≡ command)
  pub begins : row.command ≡ 8 → row.param ≡ 1

-- the wave program begins at its first row, and a jump behind that goes nowhere else
pub record IsShort (instrument : Instrument) (left right to : ℕ) : Type 0 where
  pub begins : instrument.wave ≤ 1
  pub goes : is_jump Wave (sides left right) ≡ false
  pub near : to ≤ 1

-- a number of such a note, by the row of the wave table or by a slide
pub data Heard (left right command : ℕ) (IsNote : ℕ → Type 0) (n : ℕ) : Type 0 where
  by_row : (note : ℕ) → IsNote note → is_wave_command (sides left right) ≡ false → right ≢ 0x80 →
      n ≡ wave_note right note → Heard left right command IsNote n
  by_slide : (note : ℕ) → IsNote note → (command ≡ 3) ⊎ (left ≡ 0xF3) → n ≡ note % 128 →
      Heard left right command IsNote n

wave_is_begun : (command : ℕ) → command_table command ≡ Some Wave → command ≡ 8
wave_is_begun command e = grind (arith, nat_tests)

jumps_back : (to p : ℕ) → to ≤ 1 → cond (to == 0) None (Some to) ≡ Some p → p ≡ 1
jumps_back to p most e = grind (arith, nat_tests)

module _ (subtunes : List Subtune) (instrument : Instrument) (left right to : ℕ) (speed : List TableRow)
    (patterns : List (List Row)) (command : ℕ) (tame : All (All (IsTame command)) patterns)
    (short : IsShort instrument left right to) where
  abbrev song : Song
  song = made subtunes instrument left right to speed patterns

  pub used_tame : (row : Row) → IsUsedRow song row → IsTame command row
  unfolding pattern_at
  used_tame row used =
      All-contains (IsTame command) (pattern_at song used.pattern) row
      (All-get_or_any (All (IsTame command)) patterns used.pattern [] (All-nil (IsTame command)) tame) used.has

  pub only_first : (i : ℕ) → IsUsedInstrument song i → i ≡ 1
  only_first i (inl first) = first
  only_first i (inr named) =
      let most = (used_tame named.row named.used).instrument in
      let names = named.names in
      let some = named.some in omega (arith, most, names, some)

  has_command : (c : ℕ) → HasRow song c IsAny → c ≢ 0 → c ≡ command
  has_command c has some = elim ((used_tame has.row has.used).command_is) [
    | inl none ↦ absurd (let is = has.command_is in some (omega (arith, none, is)))
    | inr is ↦ (let same = has.command_is in omega (arith, is, same))
  ]

  pointer_is : (p : ℕ) → IsPlayedPointer song Wave p → p ≡ 1
  unfolding instrument_at
  pointer_is p (of_instrument i used is some) =
      let first = only_first i used in
      let wave : instrument.wave ≡ p = rw first at is in
      let most = short.begins in omega (arith, wave, most, some)
  pointer_is p (of_row row used table is some) =
      let one = (used_tame row used).begins (wave_is_begun row.command table) in omega (arith, one, is)

  led_is : (q p : ℕ) → (q ≡ 1) ⊎ (q ≡ 2) → led_to Wave (table_of song Wave) q ≡ Some p → (p ≡ 1) ⊎ (p ≡ 2)
  led_is q p (inl first) goes =
      let next : Some 2 ≡ Some p = rw (first, short.goes) at goes in inr (sym (same_some 2 p next))
  led_is q p (inr second) goes =
      let next : cond (to == 0) None (Some to) ≡ Some p = rw second at goes in inl (jumps_back to p short.near next)

  reached_is : (p : ℕ) → IsReached song Wave p → (p ≡ 1) ⊎ (p ≡ 2)
  reached_is p (played pointer) = inl (pointer_is p pointer)
  reached_is p (pointed r reached pointer) = absurd (no_wave_pointer (table_row song Wave r).left pointer.table)
  reached_is p (led q reached goes) = led_is q p (reached_is q reached) goes

  sets_is : (p : ℕ) → SetsNumber song p → p ≡ 1
  unfolding table_row
  sets_is p sets = elim (reached_is p sets.step.reached) [
    | inl first ↦ first
    | inr second ↦ (let no : true ≡ false = rw second at sets.step.no_jump in absurd cc)
  ]

  slides_is : SlidesToNote song → (command ≡ 3) ⊎ (left ≡ 0xF3)
  unfolding table_row
  slides_is (inl has) = inl (sym (has_command 3 has (λ e. omega (arith, e))))
  slides_is (inr has) = elim (reached_is has.p has.reached) [
    | inl first ↦ inr (rw first at has.command_is)
    | inr second ↦ (let no : 0xFF ≡ 0xF3 = rw second at has.command_is in absurd (omega (arith, no)))
  ]

  pub starts_is : AsksBeforeNotes song → (command ≡ 3) ⊎ (command ≡ 8)
  starts_is (inl has) = inl (sym (has_command 3 has (λ e. omega (arith, e))))
  starts_is (inr has) = inr (sym (has_command 8 has (λ e. omega (arith, e))))

  pub heard : (IsNote : ℕ → Type 0) → ((note : ℕ) → IsSoundingNote song note → IsNote note) → (n : ℕ) →
      IsSoundedNumber song n → Heard left right command IsNote n
  unfolding table_row
  heard IsNote notes n (of_wave_row p note sets sounds is) =
      let first = sets_is p sets in
      by_row note (notes note sounds) (rw first at sets.no_command) (rw first at sets.sets) (rw first at is)
  heard IsNote notes n (of_slide note slides sounds is) = by_slide note (notes note sounds) (slides_is slides) is
