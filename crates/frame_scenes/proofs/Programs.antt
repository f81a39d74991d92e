-- The programs and the speeds that a safe state of a packed song is on: which rows these are.
use Rattle.std.proofs.Common.{◌≡◌, ◌≢◌, ℕ, zero, suc, ◌+◌, ◌<◌, ◌≤◌, false, length, Some, inl, inr}
use Rattle.std.proofs.Common.{refl, ◌∙◌, arith}
use Rattle.std.proofs.lemmas.Bool.{cases_eq}
use Rattle.song_model.specs.declared.songs.Song.{Song}
use Rattle.song_model.specs.declared.tables.TableName.{TableName}
use Rattle.song_model.specs.declared.tables.TableName.TheVariants.{Wave, Filter, Speed}
use Rattle.song_model.specs.declared.tables.TableRow.{TableRow}
use Rattle.song_model.specs.LookUp.{IsNumbered, table_of, table_row}
use Rattle.song_model.specs.Pointers.{command_table, wave_row_table}
use Rattle.play_model.specs.Reached.{is_jump, is_last, row_led_to, IsReached, led, IsStep, IsPointer}
use Rattle.play_model.specs.Reached.{of_instrument, of_row, of_played, of_wave_row}
use Rattle.play_model.specs.Playable.{HasPrograms, IsPlayable}
use Rattle.play_model.specs.Safe.{HasCommand, IsSafeWaiting, IsSafeRunning, none}
use Rattle.play_model.specs.Safe.{of_row as row_waits, of_instrument as of_vibrato}
use Rattle.play_model.proofs.Laws.{whole_lem, led_by}
use Rattle.packed_form.specs.declared.packed_songs.PackedSong.{PackedSong}
use Rattle.packed_form.specs.Unpacked.{unpacked_song}
use Rattle.packed_form.specs.StandsFor.{StandsFor}

-- ---- programs

-- the row of a step is stored
pub step_stored : (song : Song) (name : TableName) (p : ℕ) → IsPlayable song → HasPrograms name → IsStep song name p →
    IsNumbered (table_of song name) p
step_stored song name p playable programs step = (whole_lem song playable).row name p programs step.reached

leads : (name : TableName) (row : TableRow) (p : ℕ) → is_jump name row ≡ false → is_last name row ≡ false →
    row_led_to name row p ≡ Some (p + 1)
leads name row p other last = rw (other, last) refl

-- and behind it another, unless the program ends there
pub next_stored : (song : Song) (name : TableName) (p : ℕ) → IsPlayable song → HasPrograms name → IsStep song name p →
    is_last name (table_row song name p) ≡ false → p < length (table_of song name)
next_stored song name p playable programs step more =
    let here = step_stored song name p playable programs step in
    let there = (whole_lem song playable).row name (p + 1) programs
    (led p step.reached (led_by song name p here.first here.last
    ∙ leads name (table_row song name p) p step.no_jump more)) in
    let last = there.last in
    omega (arith, last)

-- a filter's row $00 behind a step is a step
pub following_step : (song : Song) (p : ℕ) → IsPlayable song → IsStep song Filter p →
    (table_row song Filter (p + 1)).left ≡ 0 → IsStep song Filter (p + 1)
following_step song p playable step zero_left =
    let here = step_stored song Filter p playable (λ e. (cc)) step in record {
      reached =
          led p step.reached (led_by song Filter p here.first here.last
          ∙ leads Filter (table_row song Filter p) p step.no_jump refl);
      no_jump = no_jump (table_row song Filter (p + 1)) zero_left;
    }
  where
    no_jump : (row : TableRow) → row.left ≡ 0 → is_jump Filter row ≡ false
    no_jump row e = rw e refl

-- ---- speeds

-- a speed that is pointed at, or none, is one of the table's rows
pub speed_stored : (packed : PackedSong) (song : Song) (p : ℕ) → StandsFor packed song →
    (p ≢ 0 → IsPointer (unpacked_song packed) Speed p) → p ≤ length packed.speed
speed_stored packed song p stands points = elim (cases_eq p 0) [
  | inl at_zero ↦ let e = at_zero in omega (arith, e)
  | inr some ↦ (stands.complete.speeds p (points some)).last
]

row_points : (song : Song) (command param : ℕ) → HasCommand song command param → command_table command ≡ Some Speed →
    param ≢ 0 → IsPointer song Speed param
row_points song command param h table some =
    of_played (of_row h.row h.used (rw h.command_is table) h.param_is some)

-- the fetched row, with a funk tempo
pub waiting_points : (song : Song) (command param : ℕ) → IsSafeWaiting song command param → command ≡ 0xE →
    param ≢ 0 → IsPointer song Speed param
waiting_points song command param none e some = absurd (some refl)
waiting_points song command param (row_waits h) e some = row_points song command param h (rw e refl) some

slides : (command : ℕ) → 1 ≤ command → command ≤ 4 → command_table command ≡ Some Speed
slides zero least most = absurd (omega (arith, least))
slides (suc zero) least most = refl
slides (suc (suc zero)) least most = refl
slides (suc (suc (suc zero))) least most = refl
slides (suc (suc (suc (suc zero)))) least most = refl
slides (suc (suc (suc (suc (suc command))))) least most = absurd (omega (arith, most))

-- what runs
pub running_points : (song : Song) (command param : ℕ) → IsSafeRunning song command param → param ≢ 0 →
    IsPointer song Speed param
running_points song command param none some = absurd (some refl)
running_points song command param (of_vibrato i used) some = of_played (of_instrument i used refl some)
running_points song command param (row_waits least most h) some =
    row_points song command param h (slides command least most) some

pub running_most : (song : Song) (command param : ℕ) → IsSafeRunning song command param → command ≤ 4
running_most song command param none = omega arith
running_most song command param (of_vibrato i used) = omega arith
running_most song command param (row_waits least most h) = most

-- a row of the wave table that slides
wave_slides : (left c : ℕ) → left ≡ 0xF0 + c → 1 ≤ c → c ≤ 4 → wave_row_table left ≡ Some Speed
wave_slides left zero e least most = absurd (omega (arith, least))
wave_slides left (suc zero) e least most = rw e refl
wave_slides left (suc (suc zero)) e least most = rw e refl
wave_slides left (suc (suc (suc zero))) e least most = rw e refl
wave_slides left (suc (suc (suc (suc zero)))) e least most = rw e refl
wave_slides left (suc (suc (suc (suc (suc c))))) e least most = absurd (omega (arith, most))

pub wave_points : (song : Song) (p c : ℕ) → IsReached song Wave p → (table_row song Wave p).left ≡ 0xF0 + c →
    1 ≤ c → c ≤ 4 → (table_row song Wave p).right ≢ 0 → IsPointer song Speed (table_row song Wave p).right
wave_points song p c reached left least most some =
    of_wave_row p reached (record {
      table = wave_slides (table_row song Wave p).left c left least most;
      right = refl;
      some = some;
    })
