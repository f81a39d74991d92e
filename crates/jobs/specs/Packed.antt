-- The files that `pack` may write: a raw file, or a PSID v2 file, of an image that plays the song.
use Rattle.std.specs.Prelude.{◌≡◌, ℕ, ◌+◌, ◌*◌, ◌/◌, ◌%◌, ◌≤◌, List, ◌∷◌, Bool}
use Rattle.std.specs.Prelude.{true, false, if◌then◌else◌, nat_eq, length}
use Rattle.base.specs.Bytes.{AreBytes}
use Rattle.song_model.specs.declared.tables.TableName.TheVariants.{Speed}
use Rattle.song_model.specs.declared.songs.Song.{Song}
use Rattle.song_model.specs.LookUp.{playable_subtunes}
use Rattle.play_model.specs.declared.options.Options.{Options}
use Rattle.play_model.specs.declared.options.System.{System}
use Rattle.play_model.specs.declared.options.System.TheVariants.{Pal, Ntsc}
use Rattle.asked_numbers.specs.declared.range.NumberRange.{NumberRange}
use Rattle.asked_numbers.specs.Range.{IsNumberRange}
use Rattle.packing_rules.specs.UsedSets.{UsedSets, AreUsedSets}
use Rattle.packing_rules.specs.Renumbering.{speed_rows}
use Rattle.kept_lines.specs.Asked.{Asks}
use Rattle.image_parts.specs.CodeParts.{code_length}
use Rattle.image_parts.specs.Lengths.{slide_bytes, frequency_bytes}
use Rattle.cut_pack.specs.Chosen.{IsPackedFor}
use Rattle.player_bound.specs.Programs.{Blocks}
use Rattle.player_bound.specs.BoundLaws.{KeepsBounds}
use Rattle.jobs.specs.SongPrograms.{HasProgram}
use Rattle.song_costs.specs.Kinds.{read_data}
use Rattle.command_line.specs.declared.chip.Chip.{Chip}
use Rattle.command_line.specs.declared.chip.Chip.TheVariants.{Mos6581, Mos8580}
use Rattle.psid.specs.declared.header.Header.{Header}
use Rattle.psid.specs.Format.{psid_bytes}
use Rattle.faithful.specs.Faithful.{IsFaithful}
use Rattle.faithful.specs.Histories.{PlaysAlways}
use Rattle.faithful.specs.Isolation.{IsIsolated}

-- a raw file: the address, low byte first, and the image
abbrev pub raw_file : ℕ → List ℕ → List ℕ
raw_file address image = (address % 256) ∷ (address / 256) ∷ image

-- what calls play: at speed 1 the vertical blank, for all songs of a file; else the timer
abbrev pub caller_bits : ℕ → ℕ
caller_bits speed = if nat_eq speed 1 then 0 else 0xFFFFFFFF

-- the system and the SID, as the PSID description numbers them
abbrev pub system_number : System → ℕ
system_number Pal = 1
system_number Ntsc = 2

abbrev pub chip_number : Chip → ℕ
chip_number Mos6581 = 1
chip_number Mos8580 = 2

-- the flags: in bits 2 and 3 the system, in bits 4 and 5 the SID
abbrev pub flags_of : System → Chip → ℕ
flags_of system chip = 4 * system_number system + 16 * chip_number chip

-- the header of a song's PSID file: init at the image's address, play three bytes after it, the playable subtunes, of
-- which the first begins, what calls play, the song's texts, the system and the SID
abbrev pub song_header : Song → ℕ → Options → Chip → Header
song_header song address options chip = record {
  init = address;
  play = address + 3;
  songs = length (playable_subtunes song);
  start_song = 1;
  speed = caller_bits options.speed;
  name = song.name;
  author = song.author;
  released = song.copyright;
  flags = flags_of options.system chip;
}

-- a PSID file: that header, the address and the image
abbrev pub psid_file : Song → ℕ → List ℕ → Options → Chip → List ℕ
psid_file song address image options chip = psid_bytes (song_header song address options chip) address image

-- the file of an image, in one format or the other
abbrev pub packed_file : Bool → Song → ℕ → List ℕ → Options → Chip → List ℕ
packed_file true song address image options chip = psid_file song address image options chip
packed_file false song address image options chip = raw_file address image

-- a packed file of a song, played with these options and made for this SID: the file of an image that ends at or below
-- $D000 and plays the song
pub record IsPackedFile (psid : Bool) (address zero_page : ℕ) (song : Song) (options : Options) (chip : Chip)
    (file : List ℕ) : Type 0 where
  pub image : List ℕ
  pub bytes : AreBytes image
  pub holds : file ≡ packed_file psid song address image options chip
  pub below : address + length image ≤ 0xD000
  pub faithful : IsFaithful image address zero_page song options

-- how many bytes the image of a song has that is packed as it is: those that are read of its packed data, with those that
-- stand for all of its instruments, those of the slides and periods of calculated speeds, those of the frequencies of the
-- numbers that it asks for, with the gap in front of them, and those of the player's parts that its features, its facts
-- and the options want
pub record IsLengthOf (song : Song) (options : Options) (count : ℕ) : Type 0 where
  pub used : UsedSets
  pub asked : ℕ
  pub numbers : NumberRange
  pub are_used : AreUsedSets song used
  pub asks : Asks song asked
  pub are_numbers : IsNumberRange song numbers
  pub count_is : count
      ≡ read_data song used asked + slide_bytes asked (length (speed_rows song (used.pointers Speed)))
      + frequency_bytes numbers (read_data song used asked) + code_length asked options

-- and how many the image of any song has: those of the song that is packed for it
pub record IsImageLength (song : Song) (options : Options) (count : ℕ) : Type 0 where
  pub chosen : Song
  pub is_for : IsPackedFor options song chosen
  pub length_is : IsLengthOf chosen options count

-- a file that `pack` writes: a packed file, of an image that is as long as that, and that plays the song after any calls,
-- from the first init on each by the image's bytes alone; and no call of it takes more clock cycles than the numbers say
-- that are admitted for the song's program
pub record IsWrittenFile (psid : Bool) (address zero_page : ℕ) (song : Song) (options : Options) (chip : Chip)
    (file : List ℕ) : Type 0 where
  pub packed : IsPackedFile psid address zero_page song options chip file
  pub size : IsImageLength song options (length packed.image)
  pub always : PlaysAlways packed.image address zero_page song options
  pub isolated : IsIsolated packed.image address song
  pub bounded : (b : Blocks) → HasProgram song options b → KeepsBounds packed.image address song b
