-- What a voice of a small song keeps and looks up, worked out by hand.
use Rattle.std.proofs.Common.{◌≡◌, ◌≢◌, ◌≤◌, ℕ, ◌%◌, List, [], ◌∷◌, All, refl, sym, inl, inr, arith}
use Rattle.std.proofs.lemmas.List.Elements.{All-nil, All-cons, All-contains}
use Rattle.base.proofs.Laws.{All-get_or_any}
use Rattle.song_model.specs.declared.rows.Row.{Row}
use Rattle.song_model.specs.declared.instruments.Instrument.{Instrument}
use Rattle.song_model.specs.declared.songs.Song.{Song}
use Rattle.song_model.specs.LookUp.{instrument_at, table_row, pattern_at}
use Rattle.song_model.specs.Silence.{rest_row}
use Rattle.play_model.specs.Freq.{freq}
use Rattle.play_model.specs.Used.{IsUsedInstrument}
use Rattle.play_model.specs.WorkedSongs.{row, rests, plucked, one_note}
use Rattle.asked_numbers.specs.Numbers.{IsPlayedNote, of_pattern, of_start, IsSoundingNote}
use Rattle.asked_numbers.specs.Numbers.{IsLastNumber, IsAskedNumber, sounded, half_tone_from, half_tone_to}
use Rattle.kept_notes.specs.Voices.{IsKeptNote, sounding, silent, IsUsedTimer, KeepsNotes}
use Rattle.asked_numbers.specs.WorkedNumbers.{AsksFor, with_wave, with_speed}
use Rattle.kept_notes.specs.WorkedVoices.{timed, KeptNotesAreWorked, KeptTimersAreWorked}
use Rattle.kept_notes.specs.WorkedVoices.{KeptStatesAreWorked, LookUpsAreWorked, VoicesAreWorked}
use Rattle.kept_notes.proofs.Frames.{voice_starts}
use Rattle.asked_numbers.proofs.Laws.{its_note_sounds, its_note_alone, its_number_sounds, its_number_alone}
use Rattle.asked_numbers.proofs.Laws.{speed_depends, numbers_are_worked}

-- ---- the song of one note

-- its note is played, since note 0 isn't
of_its_pattern : (note : ℕ) → note ≢ 0 → IsSoundingNote one_note note → IsPlayedNote one_note note
of_its_pattern note some (of_pattern h) = h
of_its_pattern note some (of_start zero_is asks) = absurd (some zero_is)

not_kept : (note wave_ptr command : ℕ) → note ≢ 48 → (note ≡ 0 → wave_ptr ≡ 0 → command ≡ 3) →
    ¬ IsKeptNote one_note note wave_ptr command
not_kept note wave_ptr command differs asks (sounding h) = differs (its_note_alone note h)
not_kept note wave_ptr command differs asks (silent zero_is stopped quiet) = quiet (asks zero_is stopped)

kept : KeptNotesAreWorked
kept = record {
  start = voice_starts one_note;
  sounding = record {
    note = sounding its_note_sounds;
    new_note = λ some. of_its_pattern 48 (λ e. omega (arith, e)) its_note_sounds;
    last = inr its_number_sounds;
    timer = inl (refl, refl);
  };
  note = λ q. not_kept 49 0 0 (λ e. omega (arith, e)) (λ e stopped. absurd (omega (arith, e))) q.note;
  program = λ q. not_kept 0 1 0 (λ e. omega (arith, e)) (λ e stopped. absurd (omega (arith, stopped))) q.note;
  slide = λ q. not_kept 0 0 3 (λ e. omega (arith, e)) (λ e stopped. refl) q.note;
  new_note = λ q.
      (let no = its_note_alone 49 (of_pattern (q.new_note (λ e. omega (arith, e)))) in omega (arith, no));
  last = λ q. no_last q.last;
}
  where
    no_last : ¬ IsLastNumber one_note 49
    no_last (inl none) = omega (arith, none)
    no_last (inr h) = (let no = its_number_alone 49 h in omega (arith, no))

-- ---- the timers of songs whose rows name the first instrument alone

-- the song of one note with these instruments
abbrev with_instruments : List Instrument → Song
with_instruments instruments = record one_note { instruments = instruments }

abbrev NamesFirst : Row → Type 0
NamesFirst row = row.instrument ≤ 1

rows_name_first : All (All NamesFirst) one_note.patterns
rows_name_first =
    All-cons (All NamesFirst) (row 0x90 1 0 0 ∷ row 0xBE 0 0 0 ∷ []) (rests 1 ∷ [])
    (All-cons NamesFirst (row 0x90 1 0 0) (row 0xBE 0 0 0 ∷ []) (omega arith)
    (All-cons NamesFirst (row 0xBE 0 0 0) [] (omega arith) (All-nil NamesFirst)))
    (All-cons (All NamesFirst) (rests 1) []
    (All-cons NamesFirst rest_row [] (omega arith) (All-nil NamesFirst)) (All-nil (All NamesFirst)))

only_first : (instruments : List Instrument) (i : ℕ) → IsUsedInstrument (with_instruments instruments) i → i ≡ 1
unfolding pattern_at
only_first instruments i (inl first) = first
only_first instruments i (inr named) =
    let rows = pattern_at one_note named.used.pattern in
    let most : NamesFirst named.row =
    All-contains NamesFirst rows named.row
    (All-get_or_any (All NamesFirst) one_note.patterns named.used.pattern [] (All-nil NamesFirst) rows_name_first)
    named.used.has in
    let names = named.names in
    let some = named.some in omega (arith, most, names, some)

timer_alone : (first : Instrument) (others : List Instrument) (timer : ℕ) →
    IsUsedTimer (with_instruments (first ∷ others)) timer → timer ≡ first.gate_timer % 64
unfolding instrument_at
timer_alone first others timer is = rw (only_first (first ∷ others) is.instrument is.used) at is.is

no_timer : (first : Instrument) (others : List Instrument) (tick timer : ℕ) → (tick ≡ 1 → timer ≢ 0) →
    timer ≢ first.gate_timer % 64 → ¬ KeepsNotes (with_instruments (first ∷ others)) (timed tick timer)
no_timer first others tick timer later differs q = elim q.timer [
  | inl before ↦ later before.0 before.1
  | inr used ↦ differs (timer_alone first others timer used)
]

its_timer : (first : Instrument) (tick : ℕ) →
    KeepsNotes (with_instruments (first ∷ [])) (timed tick (first.gate_timer % 64))
unfolding instrument_at
its_timer first tick = record {
  note = silent refl refl (λ e. omega (arith, e));
  new_note = λ some. absurd (some refl);
  last = inl refl;
  timer = inr (record { instrument = 1; used = inl refl; is = refl });
}

timers : KeptTimersAreWorked
timers = record {
  its = its_timer plucked 2;
  begins = kept.start;
  before_row = no_timer plucked [] 1 3 (λ now e. omega (arith, e)) (λ e. omega (arith, e));
  at_row = no_timer plucked [] 0 3 (λ now e. omega (arith, e)) (λ e. omega (arith, e));
  behind_row = no_timer plucked [] 2 3 (λ now e. omega (arith, e)) (λ e. omega (arith, e));
  zero = no_timer plucked [] 2 0 (λ now e. omega (arith, now)) (λ e. omega (arith, e));
  low_bits = its_timer (record plucked { gate_timer = 0x42 }) 2;
  all_bits =
      no_timer (record plucked { gate_timer = 0x42 }) [] 2 0x42 (λ now e. omega (arith, e)) (λ e. omega (arith, e));
  not_used =
      no_timer plucked (record plucked { gate_timer = 3 } ∷ []) 2 3 (λ now e. omega (arith, e)) (λ e. omega (arith, e));
}

-- ---- states

states : KeptStatesAreWorked
states = record {
  start = record { one = kept.start; two = kept.start; three = kept.start };
  one = λ q. kept.note q.one;
  two = λ q. kept.note q.two;
  three = λ q. kept.note q.three;
}

-- ---- what is looked up

-- a number that isn't among those that the song asks for
not_asked : (song : Song) (numbers : List ℕ) (n : ℕ) → AsksFor song numbers → All (λ m. m ≢ n) numbers →
    ¬ IsAskedNumber song n
not_asked song numbers n asks differ asked = All-contains (λ m. m ≢ n) numbers n differ ((asks n).0 asked) refl

one_asks : (n : ℕ) → n ≢ 48 → ¬ IsAskedNumber one_note n
one_asks n differs =
    not_asked one_note (48 ∷ []) n numbers_are_worked.notes.one
    (All-cons (λ m. m ≢ n) 48 [] (λ e. differs (sym e)) (All-nil (λ m. m ≢ n)))

slide_asks : ¬ IsAskedNumber (with_wave 0xF3 0x0C 0) 49
slide_asks =
    not_asked (with_wave 0xF3 0x0C 0) (48 ∷ []) 49 numbers_are_worked.wave_rows.slide
    (All-cons (λ m. m ≢ 49) 48 [] (λ e. omega (arith, e)) (All-nil (λ m. m ≢ 49)))

-- with the depth of a half tone 0, 1, 48 and 49 are asked for alone
swung_asks : (n : ℕ) → 0 ≢ n → 1 ≢ n → 48 ≢ n → 49 ≢ n → ¬ IsAskedNumber (with_speed 0x80) n
swung_asks n a b c d =
    not_asked (with_speed 0x80) (0 ∷ 1 ∷ 48 ∷ 49 ∷ []) n numbers_are_worked.half_tones.from_note
    (All-cons (λ m. m ≢ n) 0 (1 ∷ 48 ∷ 49 ∷ []) a (All-cons (λ m. m ≢ n) 1 (48 ∷ 49 ∷ []) b
    (All-cons (λ m. m ≢ n) 48 (49 ∷ []) c (All-cons (λ m. m ≢ n) 49 [] d (All-nil (λ m. m ≢ n))))))

one_asked : IsAskedNumber one_note 48
one_asked = sounded its_number_sounds

look_ups : LookUpsAreWorked
unfolding freq instrument_at table_row
look_ups = record {
  its = record {
    row = λ some plain sets. one_asked;
    wave_slide = λ some left. absurd (omega (arith, left));
    slide = λ e. absurd (omega (arith, e));
    target = refl;
    half_tone_from = λ depends. half_tone_from depends (inr its_number_sounds);
    half_tone_to = λ depends. half_tone_to 48 depends (inr its_number_sounds) refl;
  };
  row = λ q. one_asks 49 (λ e. omega (arith, e)) (q.row (λ e. omega (arith, e)) refl (λ e. omega (arith, e)));
  wave_slide = λ q. slide_asks (q.wave_slide (λ e. omega (arith, e)) refl);
  slide = λ q. one_asks 49 (λ e. omega (arith, e)) (q.slide refl);
  target = λ q. (let e = q.target in omega (arith, e));
  half_tone_from = λ q.
      swung_asks 47 (λ e. omega (arith, e)) (λ e. omega (arith, e)) (λ e. omega (arith, e)) (λ e. omega (arith, e))
      (q.half_tone_from speed_depends);
  half_tone_to = λ q.
      swung_asks 50 (λ e. omega (arith, e)) (λ e. omega (arith, e)) (λ e. omega (arith, e)) (λ e. omega (arith, e))
      (q.half_tone_to speed_depends);
}

pub voices_are_worked : VoicesAreWorked
voices_are_worked = record { kept = kept; timers = timers; states = states; look_ups = look_ups }
