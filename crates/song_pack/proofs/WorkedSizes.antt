-- The size of a packed song, and that of a song of one note, computed.
use Rattle.std.proofs.Common.{◌≡◌, ℕ, ◌≤◌, [], ◌∷◌, refl, sym, ◌∙◌, arith}
use Rattle.song_model.specs.LookUp.{table_row, pattern_at, instrument_at}
use Rattle.play_model.specs.WorkedSongs.{one_note}
use Rattle.packed_form.specs.declared.packed_songs.PackedSong.{PackedSong}
use Rattle.packed_form.specs.PackedText.{packed_text}
use Rattle.packed_form.specs.Sizes.{packed_song_size}
use Rattle.packed_form.specs.WorkedUnpacked.{IsPackedNote}
use Rattle.packing_rules.specs.Segments.{first_row, is_closed, are_equal, first_equal, keeps, stand_in}
use Rattle.packing_rules.specs.Renumbering.{speed_rows, speed_number, table_number, instruments_in_order}
use Rattle.packing_rules.specs.Renumbering.{instrument_number, pattern_text, pattern_texts}
use Rattle.packing_rules.specs.SongSizes.{data_size, packed_size}
use Rattle.packing_rules.specs.WorkedSizes.{note_sets}
use Rattle.song_pack.specs.SizeLaws.{third_pattern, PackedSizesAreWithin, NotesHaveTheirSize}

pub packed_sizes_are_within : PackedSizesAreWithin
packed_sizes_are_within packed song used has = has.within

note_size : (packed : PackedSong) → IsPackedNote packed → packed_song_size packed ≡ 42
note_size packed is =
    rw (is.subtunes, is.patterns, is.instruments, is.wave, is.pulse, is.filter, is.speed) refl

size_of_both : packed_size one_note (note_sets (0 ∷ 1 ∷ [])) ≡ 42
unfolding packed_text first_row is_closed are_equal first_equal keeps stand_in speed_rows speed_number table_number
    instruments_in_order instrument_number instrument_at pattern_text pattern_texts data_size packed_size table_row
    pattern_at
size_of_both = refl

data_of_both : data_size one_note (note_sets (0 ∷ 1 ∷ [])) ≡ 42
unfolding packed_text first_row is_closed are_equal first_equal keeps stand_in speed_rows speed_number table_number
    instruments_in_order instrument_number instrument_at pattern_text pattern_texts data_size packed_size table_row
    pattern_at
data_of_both = refl

size_of_one : packed_size one_note (note_sets (0 ∷ [])) ≡ 38
unfolding packed_text first_row is_closed are_equal first_equal keeps stand_in speed_rows speed_number table_number
    instruments_in_order instrument_number instrument_at pattern_text pattern_texts data_size packed_size table_row
    pattern_at
size_of_one = refl

data_of_third : data_size third_pattern (note_sets (0 ∷ 1 ∷ 2 ∷ [])) ≡ 46
unfolding packed_text first_row is_closed are_equal first_equal keeps stand_in speed_rows speed_number table_number
    instruments_in_order instrument_number instrument_at pattern_text pattern_texts data_size packed_size table_row
    pattern_at
data_of_third = refl

size_of_third : packed_size third_pattern (note_sets (0 ∷ 1 ∷ 2 ∷ [])) ≡ 46
unfolding packed_text first_row is_closed are_equal first_equal keeps stand_in speed_rows speed_number table_number
    instruments_in_order instrument_number instrument_at pattern_text pattern_texts data_size packed_size table_row
    pattern_at
size_of_third = refl

alike : (a b : ℕ) → a ≡ 42 → b ≡ 42 → a ≤ b
alike a b e f = omega (arith, e, f)

fits : (a b : ℕ) → a ≡ 42 → b ≡ 46 → a ≤ b
fits a b e f = omega (arith, e, f)

differs : (a : ℕ) → a ≡ 42 → a ≡ 38 → ⊥
differs a e f = omega (arith, e, f)

differs_too : (a : ℕ) → a ≡ 42 → a ≡ 46 → ⊥
differs_too a e f = omega (arith, e, f)

pub notes_have_their_size : NotesHaveTheirSize
notes_have_their_size packed is = record {
  both = record {
    is = note_size packed is ∙ sym size_of_both;
    within = alike _ _ (note_size packed is) data_of_both;
  };
  one = λ h. differs _ (note_size packed is) (h.is ∙ size_of_one);
  within_third = fits _ _ (note_size packed is) data_of_third;
  third = λ h. differs_too _ (note_size packed is) (h.is ∙ size_of_third);
}
