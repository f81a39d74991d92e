-- Listings that aren't of the small song.
use Rattle.std.proofs.Common.{◌≡◌, ℕ, ◌-◌, inr, Bool, true, false, List, [], ◌∷◌, ◌++◌}
use Rattle.std.proofs.Common.{get_or, take, drop, nat_eq, refl, ap, ◌∙◌, arith}
use Rattle.std.proofs.lemmas.Bool.{eqb-false, eqb-true}
use Rattle.std.proofs.lemmas.List.{take-append-drop, append-nil}
use Rattle.song_model.specs.LookUp.{instrument_at}
use Rattle.play_model.specs.Freq.{freq}
use Rattle.packed_form.specs.declared.packed_songs.PackedSong.{PackedSong}
use Rattle.asm6502.specs.declared.lines.Item.{Item}
use Rattle.asm6502.specs.declared.lines.Item.TheVariants.{Label, Code, Bytes}
use Rattle.asm6502.specs.declared.lines.Line.{Line}
use Rattle.asm6502.specs.Lines.{size_of}
use Rattle.player_memory.specs.declared.labels.TheConstants.{SPEED_RIGHTS, SLIDES_LOW}
use Rattle.song_lists.specs.declared.marks.Mark.{Mark}
use Rattle.song_lists.specs.Marks.{marked}
use Rattle.song_lists.specs.DataLists.{frequency_lows, frequency_highs, fields_before, data_bytes, HasLines}
use Rattle.song_lists.specs.ListLaws.{lists_size, IsListLabel}
use Rattle.song_lists.specs.WorkedLists.{IsSmallSong, plain_bytes, kept_bytes, plain_lines, kept_lines}
use Rattle.song_lists.specs.WorkedLists.{plain_lines_with, kept_lines_with, last_lines, last_lines_with}
use Rattle.song_lists.specs.WorkedLists.{frequency_bytes}
use Rattle.song_lists.specs.WorkedLists.{IsSmallSongWith, all_read, delay_read, from}
use Rattle.song_lists.specs.WorkedLists.{OtherListingsAreNot, OtherListingsAre}
use Rattle.song_lists.proofs.Naming.{times_named, item_names, named_once}
use Rattle.song_lists.proofs.DataLines.{lines_take_size, list_labels_are_named}
use Rattle.song_lists.proofs.WorkedLists.{plain_bytes_are, kept_bytes_are, one_subtune_is}

-- ---- the bytes of lines

abbrev bytes_of : Item → List ℕ
bytes_of (Label label) = []
bytes_of (Code mnemonic mode operand) = []
bytes_of (Bytes bytes) = bytes

abbrev bytes_in : List Line → List ℕ
bytes_in [] = []
bytes_in (line ∷ lines) = bytes_of line.item ++ bytes_in lines

marked_bytes : (from : ℕ) (marks : List Mark) (bytes : List ℕ) → bytes_in (marked from marks bytes) ≡ bytes
marked_bytes from [] bytes = append-nil bytes
marked_bytes from (mark ∷ marks) bytes =
    ap (λ (rest : List ℕ). take (mark.place - from) bytes ++ rest)
    (marked_bytes mark.place marks (drop (mark.place - from) bytes))
    ∙ take-append-drop (mark.place - from) bytes

-- a byte that isn't the song's
other_byte : (dependent : Bool) (packed : PackedSong) (start k byte : ℕ) (lines : List Line) →
    get_or (data_bytes dependent packed start) k 0 ≡ byte → nat_eq (get_or (bytes_in lines) k 0) byte ≡ false →
    ¬ HasLines dependent packed start lines
other_byte dependent packed start k byte lines is other has =
    let same : bytes_in lines ≡ data_bytes dependent packed start =
    ap bytes_in has.are ∙ marked_bytes 0 has.marks (data_bytes dependent packed start) in
    eqb-false (get_or (bytes_in lines) k 0) byte other (ap (λ (bytes : List ℕ). get_or bytes k 0) same ∙ is)

-- another size
other_size : (dependent : Bool) (packed : PackedSong) (start size : ℕ) (lines : List Line) →
    lists_size dependent packed ≡ size → nat_eq (size_of lines) size ≡ false → ¬ HasLines dependent packed start lines
other_size dependent packed start size lines is other has =
    eqb-false (size_of lines) size other ((lines_take_size dependent packed start lines has).0 ∙ is)

-- a label that isn't named
unnamed : (dependent : Bool) (packed : PackedSong) (start label : ℕ) (lines : List Line) → IsListLabel label →
    nat_eq (times_named label lines) 0 ≡ true → ¬ HasLines dependent packed start lines
unnamed dependent packed start label lines is none has =
    let there = list_labels_are_named dependent packed start lines label has is in
    let some = named_once there.front there.line there.back label (item_names there.line.item label there.names) in
    let all : times_named label lines ≡ times_named label (there.front ++ there.line ∷ there.back) =
    ap (times_named label) there.split in
    let never = eqb-true (times_named label lines) 0 none in
    omega arith

-- ---- the song's sizes and bytes

pub plain_size : (packed : PackedSong) → IsSmallSong packed → lists_size false packed ≡ 59
plain_size packed is =
    rw (is.subtunes, is.patterns, is.instruments, is.wave, is.pulse, is.filter, is.speed, is.facts, is.numbers) refl

pub kept_size : (packed : PackedSong) → IsSmallSong packed → lists_size true packed ≡ 65
kept_size packed is =
    rw (is.subtunes, is.patterns, is.instruments, is.wave, is.pulse, is.filter, is.speed, is.facts, is.numbers) refl

elsewhere_byte : (packed : PackedSong) → IsSmallSong packed → get_or (data_bytes false packed 0x1FCE) 32 0 ≡ 0xF6
unfolding frequency_lows frequency_highs freq fields_before instrument_at
elsewhere_byte packed is =
    rw (is.subtunes, is.patterns, is.instruments, is.wave, is.pulse, is.filter, is.speed, is.facts) refl

plain_byte : (packed : PackedSong) (k : ℕ) → IsSmallSong packed →
    get_or (data_bytes false packed 0x1FCD) k 0 ≡ get_or plain_bytes k 0
plain_byte packed k is = ap (λ (bytes : List ℕ). get_or bytes k 0) (plain_bytes_are packed is)

kept_byte : (packed : PackedSong) (k : ℕ) → IsSmallSong packed →
    get_or (data_bytes true packed 0x1FC7) k 0 ≡ get_or kept_bytes k 0
kept_byte packed k is = ap (λ (bytes : List ℕ). get_or bytes k 0) (kept_bytes_are packed is)

front_size : (packed : PackedSong) → IsSmallSongWith all_read (from 57 2) packed → lists_size false packed ≡ 61
front_size packed is =
    rw (is.subtunes, is.patterns, is.instruments, is.wave, is.pulse, is.filter, is.speed, is.facts, is.numbers) refl

fields_size : (packed : PackedSong) → IsSmallSongWith delay_read (from 36 3) packed → lists_size false packed ≡ 51
fields_size packed is =
    rw (is.subtunes, is.patterns, is.instruments, is.wave, is.pulse, is.filter, is.speed, is.facts, is.numbers) refl

other_listings_are_not : (packed : PackedSong) → IsSmallSong packed → OtherListingsAreNot packed
other_listings_are_not packed is = record {
  without = other_size true packed 0x1FCD 65 plain_lines (kept_size packed is) refl;
  with_speeds = other_size false packed 0x1FC7 59 kept_lines (plain_size packed is) refl;
  elsewhere = other_byte false packed 0x1FCE 32 0xF6 plain_lines (elsewhere_byte packed is) refl;
  delay = other_byte false packed 0x1FCD 4 0xE2
      (plain_lines_with SLIDES_LOW (last_lines_with 0x02 0xFF 0x02 0x02 0xFF frequency_bytes))
      (plain_byte packed 4 is) refl;
  no_vibrato = other_byte false packed 0x1FCD 26 0xFF
      (plain_lines_with SLIDES_LOW (last_lines_with 0xE2 0x00 0x02 0x02 0xFF frequency_bytes))
      (plain_byte packed 26 is) refl;
  timer = other_byte false packed 0x1FCD 30 0x02
      (plain_lines_with SLIDES_LOW (last_lines_with 0xE2 0xFF 0x82 0x02 0xFF frequency_bytes))
      (plain_byte packed 30 is) refl;
  envelope = other_byte false packed 0x1FCD 31 0x02
      (plain_lines_with SLIDES_LOW (last_lines_with 0xE2 0xFF 0x02 0x03 0xFF frequency_bytes))
      (plain_byte packed 31 is) refl;
  pattern = other_byte false packed 0x1FCD 38 0xFF
      (plain_lines_with SLIDES_LOW (last_lines_with 0xE2 0xFF 0x02 0x02 0x00 frequency_bytes))
      (plain_byte packed 38 is) refl;
  period = other_byte true packed 0x1FC7 9 0x03 (kept_lines_with 0x83) (kept_byte packed 9 is) refl;
  late = other_byte false packed 0x1FCD 53 0xB4
      (plain_lines_with SLIDES_LOW
      (last_lines_with 0xE2 0xFF 0x02 0x02 0xFF (0x38 ∷ 0xC4 ∷ 0x59 ∷ 0x09 ∷ 0x09 ∷ 0x0A ∷ [])))
      (plain_byte packed 53 is) refl;
  short = other_size false packed 0x1FCD 59
      (plain_lines_with SLIDES_LOW (last_lines_with 0xE2 0xFF 0x02 0x02 0xFF (0xB4 ∷ 0x38 ∷ 0x08 ∷ 0x09 ∷ [])))
      (plain_size packed is) refl;
  label = unnamed false packed 0x1FCD SLIDES_LOW (plain_lines_with SPEED_RIGHTS last_lines)
      (inr (omega arith, omega arith)) refl;
}

pub other_listings_are : OtherListingsAre
other_listings_are = record {
  small = other_listings_are_not;
  gap = λ packed is. other_size false packed 0x1FCD 61
      (plain_lines_with SLIDES_LOW (last_lines_with 0xE2 0xFF 0x02 0x02 0xFF (0x46 ∷ 0x04 ∷ 0x1D ∷ 0x1F ∷ [])))
      (front_size packed is) refl;
  fields = λ packed is. other_size false packed 0x1FCD 51 plain_lines (fields_size packed is) refl;
  addresses = λ packed is. other_size false packed 0x1FCD 53 plain_lines (one_subtune_is packed is).size refl;
}
