-- The limits of a whole song, from the GoatTracker 2 readme's format.
use Rattle.std.specs.Prelude.{◌≡◌, ℕ, List, length, All}
use Rattle.song_model.specs.declared.orders.Order.{Order}
use Rattle.song_model.specs.declared.orders.Subtune.{Subtune}
use Rattle.song_model.specs.declared.instruments.Instrument.{Instrument}
use Rattle.song_model.specs.declared.tables.TableRow.{TableRow}
use Rattle.song_model.specs.declared.songs.Song.{Song}
use Rattle.song_model.specs.declared.orders.TheConstants.{MOST_SUBTUNES}
use Rattle.song_model.specs.declared.instruments.TheConstants.{MOST_INSTRUMENTS}
use Rattle.song_model.specs.declared.tables.TheConstants.{MOST_TABLE_ROWS}
use Rattle.song_model.specs.declared.patterns.TheConstants.{MOST_PATTERNS}
use Rattle.song_model.specs.Basics.{IsByte, KeepsLimit}
use Rattle.song_model.specs.PatternLimits.{IsPattern}
use Rattle.song_model.specs.OrderLimits.{AreEntries}

-- a text of n bytes
pub record IsText (n : ℕ) (text : List ℕ) : Type 0 where
  pub count : length text ≡ n
  pub each : All IsByte text

pub record IsOrder (order : Order) : Type 0 where
  pub entries : AreEntries order.entries
  pub restart : IsByte order.restart

pub record IsSubtune (subtune : Subtune) : Type 0 where
  pub one : IsOrder subtune.one
  pub two : IsOrder subtune.two
  pub three : IsOrder subtune.three

pub record IsInstrument (instrument : Instrument) : Type 0 where
  pub ad : IsByte instrument.ad
  pub sr : IsByte instrument.sr
  pub wave : IsByte instrument.wave
  pub pulse : IsByte instrument.pulse
  pub filter : IsByte instrument.filter
  pub vibrato : IsByte instrument.vibrato
  pub vibrato_delay : IsByte instrument.vibrato_delay
  pub gate_timer : IsByte instrument.gate_timer
  pub first_wave : IsByte instrument.first_wave
  pub name : IsText 16 instrument.name

pub record IsTableRow (row : TableRow) : Type 0 where
  pub left : IsByte row.left
  pub right : IsByte row.right

abbrev pub IsTable : List TableRow → Type 0
IsTable rows = KeepsLimit MOST_TABLE_ROWS IsTableRow rows

-- each part of the song is within its limits and ranges
pub record KeepsLimits (song : Song) : Type 0 where
  pub name : IsText 32 song.name
  pub author : IsText 32 song.author
  pub copyright : IsText 32 song.copyright
  pub subtunes : KeepsLimit MOST_SUBTUNES IsSubtune song.subtunes
  pub instruments : KeepsLimit MOST_INSTRUMENTS IsInstrument song.instruments
  pub wave : IsTable song.wave
  pub pulse : IsTable song.pulse
  pub filter : IsTable song.filter
  pub speed : IsTable song.speed
  pub patterns : KeepsLimit MOST_PATTERNS IsPattern song.patterns
