-- Where the pointers of a playable song lead: to rows that programs stay at.
use Rattle.std.proofs.Common.{◌≡◌, ◌≢◌, ℕ, ◌+◌, false, Some, refl, ◌∙◌, inl, inr}
use Rattle.std.proofs.lemmas.Bool.{cases_eq}
use Rattle.song_model.specs.declared.tables.TableRow.{TableRow}
use Rattle.song_model.specs.declared.tables.TableName.{TableName}
use Rattle.song_model.specs.declared.tables.TableName.TheVariants.{Wave, Filter}
use Rattle.song_model.specs.declared.songs.Song.{Song}
use Rattle.song_model.specs.Limits.{KeepsLimits}
use Rattle.song_model.specs.LookUp.{table_row, instrument_at}
use Rattle.song_model.specs.Pointers.{instrument_pointer, command_table, wave_row_table}
use Rattle.play_model.specs.LookUps.{look_ups_of}
use Rattle.play_model.specs.Helpers.{next_row}
use Rattle.play_model.specs.Used.{IsUsedInstrument}
use Rattle.play_model.specs.Reached.{is_jump, is_last, row_led_to, of_instrument, of_row, IsReached, played, pointed}
use Rattle.play_model.specs.Reached.{led, IsPointer, of_played, of_wave_row, IsStep}
use Rattle.play_model.specs.Playable.{HasPrograms, IsPlayable}
use Rattle.play_model.specs.Features.{HasPointer}
use Rattle.play_model.specs.Safe.{IsSafePointer, IsSafeTime, HasCommand}
use Rattle.play_model.proofs.Laws.{whole_lem, stays_lem, led_by}

-- a song within its limits that can be played
pub record CanBePlayed (song : Song) : Type 0 where
  pub limits : KeepsLimits song
  pub playable : IsPlayable song

-- ---- where a program begins

pub stopped : (song : Song) (name : TableName) → IsSafePointer song name 0
stopped song name = inl refl

pub from_pointer : (song : Song) (name : TableName) (p : ℕ) → CanBePlayed song → (p ≢ 0 → IsPointer song name p) →
    IsSafePointer song name p
from_pointer song name p play points = elim (cases_eq p 0) [
  | inl none ↦ inl none
  | inr some ↦ inr ((whole_lem song play.playable).pointer name p (points some))
]

pub from_instrument : (song : Song) (name : TableName) (i : ℕ) → CanBePlayed song → IsUsedInstrument song i →
    IsSafePointer song name (instrument_pointer name (instrument_at song i))
from_instrument song name i play used =
    from_pointer song name (instrument_pointer name (instrument_at song i)) play
    (λ some. of_played (of_instrument i used refl some))

pub row_pointer : (song : Song) (name : TableName) (command param : ℕ) → HasCommand song command param →
    command_table command ≡ Some name → param ≢ 0 → IsPointer song name param
row_pointer song name command param h table some =
    of_played (of_row h.row h.used (rw h.command_is table) h.param_is some)

pub from_row : (song : Song) (name : TableName) (command param : ℕ) → CanBePlayed song →
    HasCommand song command param → command_table command ≡ Some name → IsSafePointer song name param
from_row song name command param play h table =
    from_pointer song name param play (row_pointer song name command param h table)

pub wave_pointer : (song : Song) (name : TableName) (r : ℕ) → IsReached song Wave r →
    wave_row_table (table_row song Wave r).left ≡ Some name → (table_row song Wave r).right ≢ 0 →
    IsPointer song name (table_row song Wave r).right
wave_pointer song name r reached table some =
    of_wave_row r reached (record { table = table; right = refl; some = some })

pub from_wave_row : (song : Song) (name : TableName) (r : ℕ) → CanBePlayed song → IsReached song Wave r →
    wave_row_table (table_row song Wave r).left ≡ Some name →
    IsSafePointer song name (table_row song Wave r).right
from_wave_row song name r play reached table =
    from_pointer song name (table_row song Wave r).right play (wave_pointer song name r reached table)

-- a time of 0 asks nothing
pub no_time : (song : Song) (name : TableName) (p : ℕ) → IsSafeTime song name p 0
no_time song name p some passes = absurd (passes refl)

-- ---- where a program goes on

pub goes_on : (song : Song) (name : TableName) (p : ℕ) → CanBePlayed song → HasPrograms name → IsStep song name p →
    is_last name (table_row song name p) ≡ false → IsSafePointer song name (next_row (look_ups_of song) name p)
goes_on song name p play programs s more = stays_lem song name p play.limits play.playable programs s more

-- a program that is somewhere is at a step
pub is_step : (song : Song) (name : TableName) (p : ℕ) → IsSafePointer song name p → p ≢ 0 → IsStep song name p
is_step song name p (inl none) some = absurd (some none)
is_step song name p (inr step) some = step

-- ---- a table with a reached row has a pointer into it

pub has_pointer : (song : Song) (name : TableName) (p : ℕ) → IsReached song name p → HasPointer song name
has_pointer song name p (played x) = record { p = p; pointer = of_played x }
has_pointer song name p (pointed r h w) = record { p = p; pointer = of_wave_row r h w }
has_pointer song name p (led r h e) = has_pointer song name r h

-- ---- the row after a filter's step

led_filter : (song : Song) (p : ℕ) → CanBePlayed song → IsStep song Filter p → IsReached song Filter (p + 1)
led_filter song p play s =
    let here = (whole_lem song play.playable).row Filter p (λ e. (cc)) s.reached in
    led p s.reached (led_by song Filter p here.first here.last ∙ leads (table_row song Filter p) s.no_jump)
  where
    leads : (row : TableRow) → is_jump Filter row ≡ false → row_led_to Filter row p ≡ Some (p + 1)
    leads row other = rw other refl

no_left_no_jump : (row : TableRow) → row.left ≡ 0 → is_jump Filter row ≡ false
no_left_no_jump row e = rw e refl

-- a row $00 after a step of a filter program is a step
pub following_step : (song : Song) (p : ℕ) → CanBePlayed song → IsStep song Filter p →
    (table_row song Filter (p + 1)).left ≡ 0 → IsStep song Filter (p + 1)
following_step song p play s e =
    record { reached = led_filter song p play s; no_jump = no_left_no_jump (table_row song Filter (p + 1)) e }
