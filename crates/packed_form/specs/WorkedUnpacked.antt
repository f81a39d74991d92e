-- A packed song read as a song, worked out by hand.
use Rattle.std.specs.Prelude.{◌≡◌, [], ◌∷◌, ◌++◌, replicate}
use Rattle.play_model.specs.State.{no_options, start_state}
use Rattle.play_model.specs.WorkedSongs.{sides, row, one_note}
use Rattle.packed_form.specs.declared.packed_songs.PackedSubtune.{PackedSubtune}
use Rattle.packed_form.specs.declared.packed_songs.PackedInstrument.{PackedInstrument}
use Rattle.packed_form.specs.declared.packed_songs.PackedSong.{PackedSong}
use Rattle.packed_form.specs.Sizes.{packed_song_size}
use Rattle.packed_form.specs.Unpacked.{unpacked_order, unpacked_pattern, unpacked_song, packed_frame}

-- the first $FF ends the entries, and the byte after it is the restart position, also where it is $FF
pub record OrdersAreUnpacked : Type 0 where
  pub transposed : unpacked_order (0xF2 ∷ 1 ∷ 0xFF ∷ 1 ∷ []) ≡ record { entries = 0xF2 ∷ 1 ∷ []; restart = 1 }
  pub ended : unpacked_order (0 ∷ 0xFF ∷ 0xFF ∷ []) ≡ record { entries = 0 ∷ []; restart = 0xFF }

-- a command runs on, and bytes without an end spell no rows
pub record PatternsAreUnpacked : Type 0 where
  pub running : unpacked_pattern (0x02 ∷ 0x41 ∷ 0x03 ∷ 0x90 ∷ 0xC1 ∷ 0x00 ∷ [])
      ≡ row 0x90 2 1 3 ∷ row 0xBD 0 1 3 ∷ row 0xBD 0 1 3 ∷ []
  pub endless : unpacked_pattern (0x90 ∷ []) ≡ []

-- ---- a song of one note

-- patterns 0 and 1, each again and again
abbrev pub note_subtune : PackedSubtune
note_subtune = record { one = 0 ∷ 0xFF ∷ 0 ∷ []; two = 1 ∷ 0xFF ∷ 0 ∷ []; three = 1 ∷ 0xFF ∷ 0 ∷ [] }

-- attack 0, decay 9, sustain 10, release 0; wave and pulse program 1; a gateoff timer of 2, a first waveform of 9
abbrev pub note_instrument : PackedInstrument
note_instrument = record { bytes = 0x09 ∷ 0xA0 ∷ 1 ∷ 1 ∷ 0 ∷ 0 ∷ 0 ∷ 2 ∷ 0x09 ∷ [] }

pub record IsPackedNote (packed : PackedSong) : Type 0 where
  pub subtunes : packed.subtunes ≡ note_subtune ∷ []
  -- a note with instrument 1 and a keyoff; a rest
  pub patterns : packed.patterns ≡ (0x01 ∷ 0x90 ∷ 0xBE ∷ 0x00 ∷ []) ∷ (0xC0 ∷ 0x00 ∷ []) ∷ []
  pub instruments : packed.instruments ≡ note_instrument ∷ []
  pub wave : packed.wave ≡ sides 0x41 0 ∷ sides 0xFF 0 ∷ []
  pub pulse : packed.pulse ≡ sides 0x88 0 ∷ sides 0xFF 0 ∷ []
  pub filter : packed.filter ≡ []
  pub speed : packed.speed ≡ []

-- it is the song that it was made of, and has 42 bytes; its first frame sets the volume alone
pub record NoteIsUnpacked (packed : PackedSong) : Type 0 where
  pub song : unpacked_song packed ≡ one_note
  pub size : packed_song_size packed ≡ 42
  pub frame : (packed_frame packed 0 no_options (start_state no_options)).registers ≡ replicate 24 0 ++ 0x0F ∷ []

abbrev pub PackedNotesAreUnpacked : Type 0
PackedNotesAreUnpacked = (packed : PackedSong) → IsPackedNote packed → NoteIsUnpacked packed
