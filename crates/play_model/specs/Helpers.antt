-- What several rules of a frame have in common: the next row of a program, the slides, the vibrato,
-- and the commands that rows and the wave table share.
use Rattle.std.specs.Prelude.{ℕ, ◌+◌, ◌-◌, ◌%◌, ◌&&◌, ◌||◌, ◌==◌, if◌then◌else◌, nat_lt, nat_le}
use Rattle.song_model.specs.declared.tables.TableRow.{TableRow}
use Rattle.song_model.specs.declared.tables.TableName.{TableName}
use Rattle.song_model.specs.declared.tables.TableName.TheVariants.{Speed}
use Rattle.play_model.specs.LookUps.{LookUps}
use Rattle.play_model.specs.Wrap.{byte_plus, freq_plus, freq_minus, distance}
use Rattle.play_model.specs.Freq.{freq, slide}
use Rattle.play_model.specs.State.{Voice, Playing}

-- after row p: row p + 1, but where that is a jump (left side $FF) the row that the jump names
abbrev pub row_after : TableRow → ℕ → ℕ
row_after following p = if following.left == 0xFF then following.right else byte_plus p 1

unfoldable pub next_row : LookUps → TableName → ℕ → ℕ
next_row look name p = row_after (look.row name (p + 1)) p

-- the frequency rises by the speed
unfoldable pub porta_up : LookUps → ℕ → Voice → Voice
porta_up look d v = record v { freq = freq_plus v.freq (slide look d v.last_note) }

-- the frequency falls by the speed
unfoldable pub porta_down : LookUps → ℕ → Voice → Voice
porta_down look d v = record v { freq = freq_minus v.freq (slide look d v.last_note) }

-- the note's own frequency
abbrev pub at_target : ℕ → Voice → Voice
at_target target v = record v { freq = target; vib_time = 0; last_note = v.note % 128 }

-- towards the target by this much
abbrev pub towards : ℕ → ℕ → Voice → Voice
towards target step v =
    record v { freq = if nat_lt v.freq target then freq_plus v.freq step else freq_minus v.freq step }

abbrev pub tone_by : ℕ → ℕ → ℕ → Voice → Voice
tone_by d target step v =
    if (d == 0) || nat_le (distance v.freq target) step then at_target target v
    else towards target step v

-- a slide that ends at the note, and with parameter 0 the note at once
unfoldable pub tone : LookUps → ℕ → Voice → Voice
tone look d v = tone_by d (freq v.note) (slide look d v.last_note) v

-- past the period the time turns round; it goes in steps of 2, and odd numbers are the way down
abbrev pub turned : ℕ → ℕ → ℕ
turned period time = if nat_lt time 128 && nat_lt period time then 255 - time else time

abbrev pub swung : ℕ → ℕ → Voice → Voice
swung time depth v = record v {
  vib_time = time;
  freq = if time % 2 == 1 then freq_minus v.freq depth else freq_plus v.freq depth;
}

-- the depth of a vibrato: the right side, or with a left side of $80 or more the slide at the last note
abbrev pub depth_of : LookUps → ℕ → TableRow → ℕ → ℕ
depth_of look d row last = if nat_lt row.left 0x80 then row.right else slide look d last

unfoldable pub vibrato : LookUps → ℕ → Voice → Voice
vibrato look d v =
    swung (byte_plus (turned ((look.row Speed d).left % 128) v.vib_time) 2)
    (depth_of look d (look.row Speed d) v.last_note) v

-- the commands that rows and the wave table share; another number does nothing
unfoldable pub do_command : ℕ → ℕ → Playing → Playing
do_command c d s =
    if c == 5 then record s { voice = record s.voice { ad = d } }
    else if c == 6 then record s { voice = record s.voice { sr = d } }
    else if c == 7 then record s { voice = record s.voice { wave = d } }
    else if c == 9 then record s { voice = record s.voice { pulse_ptr = d; pulse_time = 0 } }
    else if c == 0xA then record s { common = record s.common { filter_ptr = d; filter_time = 0 } }
    else if c == 0xB then record s {
      common = record s.common {
        filter_control = d;
        filter_ptr = if d == 0 then 0 else s.common.filter_ptr;
      };
    }
    else if c == 0xC then record s { common = record s.common { cutoff = d } }
    else if c == 0xD then record s { common = record s.common { volume = if nat_lt d 0x10 then d else s.common.volume } }
    else s
