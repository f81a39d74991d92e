-- An image takes the bytes that its parts and its lists do.
use Rattle.std.proofs.Common.{◌≡◌, ℕ, ◌+◌, ◌*◌, Bool, true, false, if◌then◌else◌, length, ap, arith}
use Rattle.play_model.specs.declared.options.Options.{Options}
use Rattle.packed_form.specs.declared.packed_songs.PackedSong.{PackedSong}
use Rattle.player_memory.specs.declared.conditions.TheConstants.{NOTE_DEPENDENT}
use Rattle.player_memory.specs.Gaps.{gap_in}
use Rattle.player_memory.specs.SongLists.{bytes_in_front, gap_size}
use Rattle.kept_lines.specs.Asked.{is_in, asked_by}
use Rattle.kept_lines.proofs.Laws.{sets_are_exact}
use Rattle.image_parts.specs.Lengths.{read_of, image_length}
use Rattle.image_parts.proofs.Laws.{code_takes_its_parts, front_is}
use Rattle.player_image.specs.Images.{image_holds, image_size}

sum : (holds keeps : Bool) (code parts read front rows gap listed own : ℕ) → holds ≡ keeps → parts ≡ code →
    2 + read ≡ front → own ≡ gap + 2 * listed →
    code + (front + 3 * (if holds then rows + 1 else 0) + gap + 2 * listed)
    ≡ read + (if keeps then 3 * (rows + 1) else 0) + own + (parts + 2)
sum true true code parts read front rows gap listed own e f g h = omega (arith, f, g, h)
sum false false code parts read front rows gap listed own e f g h = omega (arith, f, g, h)
sum true false code parts read front rows gap listed own e f g h = absurd (cc)
sum false true code parts read front rows gap listed own e f g h = absurd (cc)

pub size_is_length : (packed : PackedSong) (o : Options) → image_size packed o ≡ image_length packed o
size_is_length packed o =
    sum (image_holds packed o NOTE_DEPENDENT) (is_in (asked_by packed) NOTE_DEPENDENT) _ _ (read_of packed)
    (bytes_in_front packed) (length packed.speed) (gap_size packed) packed.numbers.count _
    (sets_are_exact (asked_by packed) o NOTE_DEPENDENT) (code_takes_its_parts (asked_by packed) o) (front_is packed)
    (ap (λ (front : ℕ). gap_in packed.numbers front + 2 * packed.numbers.count) (front_is packed))
