-- The room of an image that is worked by hand.
use Rattle.std.proofs.Common.{◌≡◌, ℕ, ◌+◌, ◌<◌, ◌≤◌, refl, sym, arith}
use Rattle.play_model.specs.State.{no_options}
use Rattle.packed_form.specs.declared.packed_songs.PackedSong.{PackedSong}
use Rattle.image_parts.specs.Lengths.{image_length}
use Rattle.image_parts.specs.WorkedLengths.{IsPlayedNote}
use Rattle.image_parts.proofs.Laws.{notes_are_measured}
use Rattle.player_build.specs.WorkedRoom.{NotesHaveRoom}

note_length : (packed : PackedSong) → IsPlayedNote packed → image_length packed no_options ≡ 683
note_length packed is = (notes_are_measured packed is).with_none

-- how far an image of this length comes
fits : (address size length : ℕ) → size ≡ length → length ≡ 683 → address + 683 ≤ 0xD000 → 0xD000 < address + size → ⊥
fits address size length a b low high = omega (arith, a, b, low, high)

other : (size length : ℕ) → size ≡ 684 → size ≡ length → length ≡ 683 → ⊥
other size length a b c = omega (arith, a, b, c)

pub notes_have_room : NotesHaveRoom
notes_have_room packed is =
    let long = note_length packed is in record {
      just = λ large. fits 0xCD55 683 _ large.size_is long (omega arith) large.passes;
      past = record { size_is = sym long; passes = omega arith };
      last_page = λ large. fits 0xCD00 683 _ large.size_is long (omega arith) large.passes;
      next_page = record { size_is = sym long; passes = omega arith };
      other_length = λ large. other 684 _ refl large.size_is long;
    }
