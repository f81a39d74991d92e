-- Packed patterns that are short enough, or too long; and what is no scene, for each of its parts alone.
use Rattle.std.specs.Prelude.{◌≡◌, ◌≢◌, ℕ, ◌%◌, ◌≤◌, true, false, [], ◌∷◌, length}
use Rattle.std.specs.Prelude.{replicate, Contains}
use Rattle.song_model.specs.declared.songs.Song.{Song}
use Rattle.song_model.specs.LookUp.{playable_subtunes}
use Rattle.play_model.specs.declared.options.Options.{Options}
use Rattle.play_model.specs.Freq.{freq}
use Rattle.play_model.specs.State.{FrameState}
use Rattle.asked_numbers.specs.Numbers.{IsLastNumber}
use Rattle.asked_numbers.specs.Range.{IsInRange}
use Rattle.kept_notes.specs.Voices.{IsUsedTimer}
use Rattle.silent_voices.specs.Mute.{IsSilentChannel}
use Rattle.packed_form.specs.declared.packed_songs.PackedSong.{PackedSong}
use Rattle.packed_form.specs.Unpacked.{unpacked_song}
use Rattle.packed_form.specs.Holders.{AreInOrder}
use Rattle.scopes.specs.Desk.{Layout}
use Rattle.player_memory.specs.declared.conditions.TheConstants.{FILTER_TABLE, PORTA_UP, RISE, SKIP_PULSE}
use Rattle.player_memory.specs.declared.conditions.TheConstants.{ROW_ONCE, GATE_NOTE, ROW_COMMAND}
use Rattle.player_memory.specs.declared.labels.TheConstants.{FREQUENCY_LOWS}
use Rattle.player_memory.specs.Playing.{place_in}
use Rattle.frame_scenes.specs.FrameScenes.{KeepsPatternLimits, Scene}

-- a song with a pattern of 256 bytes, and one with a byte more
pub record PatternLimitsAreWorked (packed : PackedSong) : Type 0 where
  pub longest : KeepsPatternLimits (record packed { patterns = replicate 256 0xBD ∷ [] })
  pub longer : ¬ KeepsPatternLimits (record packed { patterns = replicate 257 0xBD ∷ [] })

-- It is no scene where the song plays more subtunes than the packed song has, or fewer; where instruments don't stand
-- in the order of what they hold before their notes, and the first holds no more than another; where a packed pattern
-- has 257 bytes; where the pointer stands at the processor's port; where the frequency of a number that the song asks
-- for isn't in its list; where the filter has a program, or the pulse step is to be left out, or a frequency is slid
-- up, or an orderlist's pattern has a keyoff, or rows have a command, and the lines for that aren't kept; where those
-- for a keyoff are, and the song has none; behind the last subtune; where a note sounds that no song comes to, or a
-- voice's last number is none of this song, or the gateoff timer, which isn't 0, is none of it; where the second voice
-- has an envelope, and its channel nothing to play; and where a frequency is no word.
pub record NoScenesAreWorked (layout : Layout) (packed : PackedSong) (song : Song) (o : Options) (k : ℕ)
    (x : FrameState) (at : ℕ → ℕ) : Type 0 where
  pub stands : length packed.subtunes ≢ length (playable_subtunes song) → ¬ Scene layout packed song o k x at
  pub order : packed.facts.first_holds ≡ false → ¬ AreInOrder packed.instruments → ¬ Scene layout packed song o k x at
  pub short : Contains packed.patterns (replicate 257 0xBD) → ¬ Scene layout packed song o k x at
  pub laid : layout.pointer ≡ 1 → ¬ Scene layout packed song o k x at
  pub has : (n : ℕ) → IsInRange packed.numbers n → at (place_in layout FREQUENCY_LOWS n) ≢ freq n % 256 →
      ¬ Scene layout packed song o k x at
  pub used : x.common.filter_ptr ≢ 0 → layout.holds FILTER_TABLE ≡ false → ¬ Scene layout packed song o k x at
  pub facts : packed.facts.gate_note ≡ true → layout.holds GATE_NOTE ≡ false → ¬ Scene layout packed song o k x at
  pub alone : packed.facts.gate_note ≡ false → layout.holds GATE_NOTE ≡ true → ¬ Scene layout packed song o k x at
  pub shared : layout.holds ROW_ONCE ≡ true → layout.holds ROW_COMMAND ≡ false → ¬ Scene layout packed song o k x at
  pub options : o.skip_pulse ≡ true → layout.holds SKIP_PULSE ≡ false → ¬ Scene layout packed song o k x at
  pub common : layout.holds PORTA_UP ≡ true → layout.holds RISE ≡ false → ¬ Scene layout packed song o k x at
  pub below : length packed.subtunes ≤ k → ¬ Scene layout packed song o k x at
  pub safe : x.one.note ≡ 200 → ¬ Scene layout packed song o k x at
  pub notes : ¬ IsLastNumber (unpacked_song packed) x.one.last_note → ¬ Scene layout packed song o k x at
  pub timer : x.one.gate_timer ≢ 0 → ¬ IsUsedTimer (unpacked_song packed) x.one.gate_timer →
      ¬ Scene layout packed song o k x at
  pub mute : IsSilentChannel (unpacked_song packed) 2 → x.two.ad ≢ 0 → ¬ Scene layout packed song o k x at
  pub range : x.one.freq ≡ 65536 → ¬ Scene layout packed song o k x at

abbrev pub NoneAreScenes : Type 0
NoneAreScenes =
    (layout : Layout) (packed : PackedSong) (song : Song) (o : Options) (k : ℕ) (x : FrameState) (at : ℕ → ℕ) →
    NoScenesAreWorked layout packed song o k x at
