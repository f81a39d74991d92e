-- The parts of the code, and the images of two small songs.
use Rattle.std.proofs.Common.{◌≡◌, ℕ, ◌+◌, ◌^◌, length, true, refl, ap, ◌∙◌}
use Rattle.play_model.specs.declared.options.Options.{Options}
use Rattle.play_model.specs.State.{no_options}
use Rattle.play_model.specs.WorkedRuns.{all_left_out}
use Rattle.song_facts.specs.declared.facts.Facts.{Facts}
use Rattle.song_facts.specs.Facts.{no_facts}
use Rattle.asked_numbers.specs.declared.range.NumberRange.{NumberRange}
use Rattle.packed_form.specs.declared.packed_songs.PackedSong.{PackedSong}
use Rattle.kept_lines.specs.Asked.{asked, asked_by}
use Rattle.kept_lines.specs.KeptLines.{kept_set}
use Rattle.variable_places.specs.Places.{voice_rows, shared_rows, asks, has_byte, voice_labels, other_labels}
use Rattle.variable_places.specs.Places.{free_places, funk_place, variable_count}
use Rattle.image_parts.specs.CodeParts.{code_length}
use Rattle.image_parts.specs.Lengths.{slide_bytes, read_of, frequency_bytes, image_length}
use Rattle.image_parts.specs.WorkedLengths.{IsPackedSilence, IsPlayedNote}
use Rattle.image_parts.specs.WorkedLengths.{PartsAreMeasured, FrequenciesAreMeasured, SilencesAreMeasured}
use Rattle.image_parts.specs.WorkedLengths.{NotesAreMeasured, ReadBytesAreMeasured}

pub frequencies_are_measured : FrequenciesAreMeasured
frequencies_are_measured = record { long = refl; just_long = refl; short = refl; all = refl; last = refl; none = refl }

pub read_bytes_are_measured : ReadBytesAreMeasured
read_bytes_are_measured = record {
  none = refl;
  each = refl;
  own = refl;
  numbers = refl;
  two_numbers = refl;
  timers = refl;
  timers_alone = refl;
  subtunes = refl;
  both = refl;
  all = refl;
  in_order = refl;
  others = refl;
}

pub parts_are_measured : PartsAreMeasured
unfolding kept_set voice_rows shared_rows asks has_byte voice_labels other_labels free_places funk_place variable_count
parts_are_measured = record {
  features = refl;
  options = refl;
  common = refl;
  facts = refl;
  common_facts = refl;
  no_more = refl;
  rest = refl;
  least_rest = refl;
  most_rest = refl;
  whole = refl;
  in_order = refl;
  longest = refl;
  no_fact = refl;
  no_feature = refl;
  bare = refl;
  bare_rest = refl;
  ntsc = refl;
  no_others = refl;
  alone = refl;
  alone_facts = refl;
  two_turns = refl;
  three_turns = refl;
  two_and_three = refl;
  swings = refl;
  slide_common = refl;
  once_common = refl;
  legato_common = refl;
  soft_common = refl;
  first_legato = refl;
  first_soft = refl;
  filters = refl;
  runs = refl;
  effects = refl;
  slide_effects = refl;
  at_rows = refl;
  turns = refl;
  choice = refl;
  tempos = refl;
  no_tempos = refl;
  delay = refl;
  delay_common = refl;
  no_slides = refl;
  slides = refl;
}

-- ---- images

-- what songs ask for
asked_same : (packed : PackedSong) (features : ℕ) (facts : Facts) → packed.features.0 ≡ features →
    packed.facts ≡ facts → asked_by packed ≡ asked features facts
asked_same packed features facts e f = rw (e, f) refl

silence_asked : asked 0 (record no_facts { first_mask = true }) ≡ 2 ^ 37
unfolding asked
silence_asked = refl

note_asked : asked 0x402000 (record no_facts { gate_note = true; note_pulse = true }) ≡ 0x402000 + 2 ^ 41 + 2 ^ 44
unfolding asked
note_asked = refl

silence_asks : (packed : PackedSong) → IsPackedSilence packed → asked_by packed ≡ 2 ^ 37
silence_asks packed is =
    asked_same packed 0 (record no_facts { first_mask = true }) is.features is.facts ∙ silence_asked

note_asks : (packed : PackedSong) → IsPlayedNote packed → asked_by packed ≡ 0x402000 + 2 ^ 41 + 2 ^ 44
note_asks packed is =
    asked_same packed 0x402000 (record no_facts { gate_note = true; note_pulse = true }) is.features is.facts
    ∙ note_asked

-- how long their code is
silence_with_none : code_length (2 ^ 37) no_options ≡ 465
unfolding kept_set voice_rows shared_rows asks has_byte voice_labels other_labels free_places funk_place variable_count
silence_with_none = refl

silence_with_all : code_length (2 ^ 37) (all_left_out 4) ≡ 521
unfolding kept_set voice_rows shared_rows asks has_byte voice_labels other_labels free_places funk_place variable_count
silence_with_all = refl

note_with_none : code_length (0x402000 + 2 ^ 41 + 2 ^ 44) no_options ≡ 635
unfolding kept_set voice_rows shared_rows asks has_byte voice_labels other_labels free_places funk_place variable_count
note_with_none = refl

note_with_all : code_length (0x402000 + 2 ^ 41 + 2 ^ 44) (all_left_out 4) ≡ 691
unfolding kept_set voice_rows shared_rows asks has_byte voice_labels other_labels free_places funk_place variable_count
note_with_all = refl

-- an image has these bytes, those that are read of the packed song, those of its slides, and those of its frequencies
all_of : (packed : PackedSong) (o : Options) (set own slides frequencies code : ℕ) → asked_by packed ≡ set →
    read_of packed ≡ own → slide_bytes set (length packed.speed) ≡ slides →
    frequency_bytes packed.numbers own ≡ frequencies → code_length set o ≡ code →
    image_length packed o ≡ own + slides + frequencies + code
all_of packed o set own slides frequencies code asks owns slide listed is = rw (owns, asks, slide, listed, is) refl

silence_size : (packed : PackedSong) → IsPackedSilence packed → read_of packed ≡ 18
silence_size packed is =
    rw (silence_asks packed is, is.subtunes, is.patterns, is.instruments, is.wave, is.pulse, is.filter, is.speed) refl

note_size : (packed : PackedSong) → IsPlayedNote packed → read_of packed ≡ 33
note_size packed is =
    let l = is.lists in
    rw (note_asks packed is, l.subtunes, l.patterns, l.instruments, l.wave, l.pulse, l.filter, l.speed) refl

silence_lists : (packed : PackedSong) → IsPackedSilence packed → frequency_bytes packed.numbers 18 ≡ 0
silence_lists packed is = ap (λ (range : NumberRange). frequency_bytes range 18) is.numbers

note_lists : (packed : PackedSong) → IsPlayedNote packed → frequency_bytes packed.numbers 33 ≡ 15
note_lists packed is = ap (λ (range : NumberRange). frequency_bytes range 33) is.numbers

pub silences_are_measured : SilencesAreMeasured
silences_are_measured packed is = record {
  with_none =
      all_of packed no_options (2 ^ 37) 18 0 0 465 (silence_asks packed is) (silence_size packed is) refl
      (silence_lists packed is) silence_with_none;
  with_all =
      all_of packed (all_left_out 4) (2 ^ 37) 18 0 0 521 (silence_asks packed is) (silence_size packed is) refl
      (silence_lists packed is) silence_with_all;
}

pub notes_are_measured : NotesAreMeasured
notes_are_measured packed is = record {
  with_none =
      all_of packed no_options (0x402000 + 2 ^ 41 + 2 ^ 44) 33 0 15 635 (note_asks packed is) (note_size packed is)
      refl
      (note_lists packed is) note_with_none;
  with_all =
      all_of packed (all_left_out 4) (0x402000 + 2 ^ 41 + 2 ^ 44) 33 0 15 691 (note_asks packed is)
      (note_size packed is) refl
      (note_lists packed is) note_with_all;
}
