-- The numbers that rows of the wave table set in small songs, worked out by hand.
use Rattle.std.proofs.Common.{◌≡◌, ◌≢◌, ℕ, pos, ◌≤◌, ◌⊎◌, true, false, List, [], ◌∷◌, Some, None, All, Contains, inl}
use Rattle.std.proofs.Common.{inr, refl, sym, ◌∙◌, ap, arith}
use Rattle.std.proofs.lemmas.Bool.{both_ways}
use Rattle.std.proofs.lemmas.List.Elements.{All-nil, All-cons}
use Rattle.song_model.specs.declared.rows.Row.{Row}
use Rattle.song_model.specs.declared.instruments.Instrument.{Instrument}
use Rattle.song_model.specs.declared.tables.TableRow.{TableRow}
use Rattle.song_model.specs.declared.tables.TableName.TheVariants.{Wave}
use Rattle.song_model.specs.declared.songs.Song.{Song}
use Rattle.song_model.specs.LookUp.{instrument_at, table_row, pattern_at}
use Rattle.play_model.specs.WaveStep.{is_wave_command, wave_note}
use Rattle.play_model.specs.Used.{IsUsedRow}
use Rattle.play_model.specs.Reached.{is_jump, of_instrument, of_row, IsReached, IsPlayedPointer, played, pointed, led}
use Rattle.play_model.specs.WorkedSongs.{row, sides, plucked, one_note, with_instrument}
use Rattle.asked_numbers.specs.Numbers.{IsSoundingNote, of_pattern, of_start, of_wave_row, of_slide, IsSoundedNumber}
use Rattle.asked_numbers.specs.Numbers.{IsAskedNumber, sounded}
use Rattle.asked_numbers.specs.WorkedNumbers.{AsksFor, with_wave, WaveRowsAreWorked}
use Rattle.asked_numbers.proofs.Made.{IsPlainSpeed, no_note_speed, sounds_alone, made, IsShort, Heard, by_row, by_slide}
use Rattle.asked_numbers.proofs.Made.{only_first, used_tame, starts_is, heard}
use Rattle.asked_numbers.proofs.Tunes.{keyed_has, rest_has, plays_one, its_note, rests_one, tunes, note_alone, one_tame}
use Rattle.asked_numbers.proofs.WorkedNotes.{exactly, its_short, its_sets}

-- the song of one note with this instrument, this first row of its wave table and this speed
abbrev pub with_programs : Instrument → ℕ → ℕ → ℕ → List TableRow → Song
with_programs instrument left right to speed =
    made one_note.subtunes instrument left right to speed one_note.patterns

abbrev Is48 : ℕ → Type 0
Is48 note = note ≡ 48

module _ (instrument : Instrument) (left right to : ℕ) (speed : List TableRow) where
  abbrev pub song_of : Song
  song_of = with_programs instrument left right to speed

  pub plays_one_note : IsSoundingNote song_of 48
  unfolding pattern_at
  plays_one_note =
      of_pattern (its_note song_of (0 ∷ []) (1 ∷ []) 0 (row 0x90 1 0 0) (pos 0)
      (0, omega arith, refl) (0, omega arith, refl) (omega arith) (0, omega arith, refl) refl (inl refl))

  pub plays_no_other : IsShort instrument left right to → (note : ℕ) → IsSoundingNote song_of note → note ≡ 48
  unfolding pattern_at
  plays_no_other short note (of_pattern is_played) =
      tunes song_of Is48 (λ is. rest_has 0 0) (0 ∷ []) (1 ∷ []) refl
      (note_alone song_of Is48 refl (0 ∷ []) (plays_one song_of (λ n. n ≡ 0x90) 0 (omega arith) (λ is. keyed_has 0x90)))
      (rests_one song_of Is48 (λ is. rest_has 0 0)) note is_played
  plays_no_other short note (of_start none asks) =
      elim (starts_is one_note.subtunes instrument left right to speed one_note.patterns 0 one_tame short asks) [
        | inl slide ↦ absurd (omega (arith, slide))
        | inr wave ↦ absurd (omega (arith, wave))
      ]

  heard_48 : IsShort instrument left right to → (n : ℕ) → IsSoundedNumber song_of n → Heard left right 0 Is48 n
  heard_48 short =
      heard one_note.subtunes instrument left right to speed one_note.patterns 0 one_tame short Is48
      (plays_no_other short)

  -- a row that sets a number, and slides to none
  pub record SetsOne (number : ℕ) : Type 0 where
    pub begins : instrument.wave ≡ 1
    pub short : IsShort instrument left right to
    pub plain : is_wave_command (sides left right) ≡ false
    pub sets : right ≢ 0x80
    pub slides_not : left ≢ 0xF3
    pub is : wave_note right 48 ≡ number

  pub sounds_number : (number : ℕ) → SetsOne number → IsSoundedNumber song_of number
  unfolding table_row
  sounds_number number s =
      of_wave_row 1 48
      (its_sets instrument left right to one_note.subtunes speed one_note.patterns s.begins s.short.goes s.plain s.sets)
      plays_one_note (sym s.is)

  pub sounds_no_other : (number : ℕ) → SetsOne number → (n : ℕ) → IsSoundedNumber song_of n → n ≡ number
  sounds_no_other number s n sounds = by (heard_48 s.short n sounds)
    where
      by : Heard left right 0 Is48 n → n ≡ number
      by (by_row note is plain sets e) = e ∙ ap (wave_note right) is ∙ s.is
      by (by_slide note is (inl slides) e) = absurd (omega (arith, slides))
      by (by_slide note is (inr slides) e) = absurd (s.slides_not slides)

  pub asks_number : (number : ℕ) → SetsOne number → All IsPlainSpeed speed → AsksFor song_of (number ∷ [])
  asks_number number s plain =
      exactly song_of (number ∷ [])
      (All-cons (IsAskedNumber song_of) number [] (sounded (sounds_number number s))
      (All-nil (IsAskedNumber song_of)))
      (λ n asked. let is = sounds_no_other number s n (sounds_alone song_of n (no_note_speed song_of plain) asked) in
      (0, omega arith, sym is))

  -- a row that sets none, nor slides
  asks_none : IsShort instrument left right to → All IsPlainSpeed speed → left ≢ 0xF3 →
      (is_wave_command (sides left right) ≡ true) ⊎ (right ≡ 0x80) → AsksFor song_of []
  asks_none short plain slides_not keeps =
      exactly song_of [] (All-nil (IsAskedNumber song_of))
      (λ n asked. absurd (by n keeps
      (heard_48 short n (sounds_alone song_of n (no_note_speed song_of plain) asked))))
    where
      by : (n : ℕ) → (is_wave_command (sides left right) ≡ true) ⊎ (right ≡ 0x80) → Heard left right 0 Is48 n → ⊥
      by n (inl command) (by_row note is plain sets e) = both_ways (is_wave_command (sides left right)) plain command
      by n (inr kept) (by_row note is plain sets e) = sets kept
      by n keeps (by_slide note is (inl slides) e) = absurd (omega (arith, slides))
      by n keeps (by_slide note is (inr slides) e) = slides_not slides

-- ---- the song of one note

one_sets : SetsOne plucked 0x41 0 0 [] 48
one_sets = record {
  begins = refl;
  short = its_short;
  plain = refl;
  sets = λ e. omega (arith, e);
  slides_not = λ e. omega (arith, e);
  is = refl;
}

-- its note sounds alone, and so does its number
pub its_note_sounds : IsSoundingNote one_note 48
its_note_sounds = plays_one_note plucked 0x41 0 0 []

pub its_note_alone : (note : ℕ) → IsSoundingNote one_note note → note ≡ 48
its_note_alone note h = plays_no_other plucked 0x41 0 0 [] its_short note h

pub its_number_sounds : IsSoundedNumber one_note 48
its_number_sounds = sounds_number plucked 0x41 0 0 [] 48 one_sets

pub its_number_alone : (n : ℕ) → IsSoundedNumber one_note n → n ≡ 48
its_number_alone n h = sounds_no_other plucked 0x41 0 0 [] 48 one_sets n h

-- ---- rows

-- the first row goes on to the jump
pub goes_on : (left right to : ℕ) → is_jump Wave (sides left right) ≡ false → to ≤ 1 → IsShort plucked left right to
goes_on left right to goes near = record { begins = omega arith; goes = goes; near = near }

pub wave_row : (left right to number : ℕ) → is_jump Wave (sides left right) ≡ false → to ≤ 1 →
    is_wave_command (sides left right) ≡ false → right ≢ 0x80 → left ≢ 0xF3 → wave_note right 48 ≡ number →
    AsksFor (with_wave left right to) (number ∷ [])
wave_row left right to number goes near plain sets slides_not is =
    asks_number plucked left right to [] number (record {
      begins = refl;
      short = goes_on left right to goes near;
      plain = plain;
      sets = sets;
      slides_not = slides_not;
      is = is;
    }) (All-nil IsPlainSpeed)

slide : AsksFor (with_wave 0xF3 0x0C 0) (48 ∷ [])
unfolding instrument_at table_row
slide =
    exactly song (48 ∷ [])
    (All-cons (IsAskedNumber song) 48 []
    (sounded (of_slide 48 (inr (record {
      p = 1;
      reached = played (of_instrument 1 (inl refl) refl (λ e. omega (arith, e)));
      command_is = refl;
      is_meant = tt;
    })) (plays_one_note plucked 0xF3 0x0C 0 []) refl))
    (All-nil (IsAskedNumber song)))
    (λ n asked. only n (heard_48 plucked 0xF3 0x0C 0 [] (goes_on 0xF3 0x0C 0 refl (omega arith)) n
    (sounds_alone song n (no_note_speed song (All-nil IsPlainSpeed)) asked)))
  where
    song : Song
    song = with_wave 0xF3 0x0C 0

    only : (n : ℕ) → Heard 0xF3 0x0C 0 Is48 n → Contains (48 ∷ []) n
    only n (by_row note is plain sets e) = absurd cc
    only n (by_slide note is slides e) = rw (e, is) (0, omega arith, refl)

-- a song that begins no wave program, nor slides
not_reached : AsksFor (with_instrument (record plucked { wave = 0 }) one_note) []
unfolding instrument_at table_row
not_reached =
    exactly song [] (All-nil (IsAskedNumber song))
    (λ n asked. absurd (nothing n (sounds_alone song n (no_note_speed song (All-nil IsPlainSpeed)) asked)))
  where
    silent : Instrument
    silent = record plucked { wave = 0 }

    song : Song
    song = with_programs silent 0x41 0 0 []

    short : IsShort silent 0x41 0 0
    short = record { begins = omega arith; goes = refl; near = omega arith }

    no_command : (r : Row) → IsUsedRow song r → r.command ≡ 0
    no_command r used =
        elim ((used_tame one_note.subtunes silent 0x41 0 0 [] one_note.patterns 0 one_tame short r used).command_is) [
          | inl none ↦ none
          | inr none ↦ none
        ]

    none_pointed : (p : ℕ) → ¬ IsPlayedPointer song Wave p
    none_pointed p (of_instrument i used is some) =
        let first = only_first one_note.subtunes silent 0x41 0 0 [] one_note.patterns 0 one_tame short i used in
        let none : 0 ≡ p = rw first at is in some (sym none)
    none_pointed p (of_row r used table is some) =
        let none = no_command r used in
        let no : None ≡ Some Wave = rw none at table in absurd cc

    none_reached : (p : ℕ) → ¬ IsReached song Wave p
    none_reached p (played pointer) = none_pointed p pointer
    none_reached p (pointed r reached pointer) = none_reached r reached
    none_reached p (led q reached goes) = none_reached q reached

    nothing : (n : ℕ) → ¬ IsSoundedNumber song n
    nothing n (of_wave_row p note sets sounds is) = none_reached p sets.step.reached
    nothing n (of_slide note (inl has) sounds is) =
        let none = no_command has.row has.used in
        let three = has.command_is in omega (arith, none, three)
    nothing n (of_slide note (inr has) sounds is) = none_reached has.p has.reached

pub wave_rows : WaveRowsAreWorked
wave_rows = record {
  added = wave_row 0x41 0x0C 0 60 refl (omega arith) refl (λ e. omega (arith, e)) (λ e. omega (arith, e)) refl;
  own = wave_row 0x41 0x8C 0 12 refl (omega arith) refl (λ e. omega (arith, e)) (λ e. omega (arith, e)) refl;
  delay = wave_row 0x0F 0x0C 0 60 refl (omega arith) refl (λ e. omega (arith, e)) (λ e. omega (arith, e)) refl;
  kept =
      asks_none plucked 0x41 0x80 0 [] (goes_on 0x41 0x80 0 refl (omega arith)) (All-nil IsPlainSpeed)
      (λ e. omega (arith, e)) (inr refl);
  command =
      asks_none plucked 0xF5 0x0C 0 [] (goes_on 0xF5 0x0C 0 refl (omega arith)) (All-nil IsPlainSpeed)
      (λ e. omega (arith, e)) (inl refl);
  slide = slide;
  jump = wave_row 0x41 0 1 48 refl (omega arith) refl (λ e. omega (arith, e)) (λ e. omega (arith, e)) refl;
  not_reached = not_reached;
}
