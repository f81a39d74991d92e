-- What a safe state of a complete song names is stored.
use Rattle.std.proofs.Common.{◌≡◌, ◌≢◌, ℕ, ◌+◌, ◌≤◌, Some, refl, ◌∙◌, ap, arith}
use Rattle.std.proofs.lemmas.Bool.Decides.{nat_tests}
use Rattle.song_model.specs.declared.orders.Order.{Order}
use Rattle.song_model.specs.declared.songs.Song.{Song}
use Rattle.song_model.specs.declared.tables.TableName.{TableName}
use Rattle.song_model.specs.declared.tables.TableName.TheVariants.{Wave, Pulse, Filter, Speed}
use Rattle.song_model.specs.Limits.{KeepsLimits}
use Rattle.song_model.specs.LookUp.{IsNumbered, table_of, table_row, instrument_at, order_of}
use Rattle.song_model.specs.Pointers.{command_table}
use Rattle.song_model.specs.Walk.{played}
use Rattle.song_model.proofs.Laws.{plays_are_patterns_lem}
use Rattle.play_model.specs.State.{Voice}
use Rattle.play_model.specs.Frame.{subtune_at}
use Rattle.play_model.specs.Used.{IsPlayedOrder}
use Rattle.play_model.specs.Reached.{IsReached, of_instrument as pointer_of_instrument, of_row as pointer_of_row}
use Rattle.play_model.specs.Reached.{played as by_playing, pointed}
use Rattle.play_model.specs.Playable.{HasPrograms}
use Rattle.play_model.specs.Safe.{IsSafePointer, IsSafeVoice, HasCommand, IsSafeWaiting, none, of_instrument, of_row}
use Rattle.play_model.specs.Safe.{IsSafeRunning}
use Rattle.play_model.proofs.Laws.{closed_lem, whole_lem}
use Rattle.safe_states.proofs.Laws.{is_step, is_played}
use Rattle.same_frames.proofs.Laws.{after_reached}
use Rattle.packed_form.specs.StandsFor.{IsComplete}
use Rattle.song_pack.specs.StoredLaws.{FindsRows, VoiceFindsAll, CompleteSongsFindAll}

-- each reached row is stored
row_stored : (song : Song) → IsComplete song → (name : TableName) (p : ℕ) → IsReached song name p →
    IsNumbered (table_of song name) p
row_stored song complete Wave p is = (whole_lem song complete.playable).row Wave p (λ e. cc) is
row_stored song complete Pulse p is = (whole_lem song complete.playable).row Pulse p (λ e. cc) is
row_stored song complete Filter p is = (whole_lem song complete.playable).row Filter p (λ e. cc) is
row_stored song complete Speed p is = complete.speeds p (((closed_lem song).speed p).0 is)

-- ---- programs

finds_rows : (song : Song) → KeepsLimits song → IsComplete song → (name : TableName) → HasPrograms name → (p : ℕ) →
    IsSafePointer song name p → FindsRows song name p
finds_rows song limits complete name programs p safe = record {
  here = λ some. row_stored song complete name p (is_step song name p safe some).reached;
  next = λ some more.
      row_stored song complete name (p + 1)
      (after_reached song name p (record { limits = limits; playable = complete.playable }) programs
      (is_step song name p safe some) more);
}

-- ---- what waits and what runs

command_stored : (song : Song) → IsComplete song → (command param : ℕ) → HasCommand song command param →
    (name : TableName) → command_table command ≡ Some name → param ≢ 0 → IsNumbered (table_of song name) param
command_stored song complete command param has name is some =
    row_stored song complete name param
    (by_playing (pointer_of_row has.row has.used (ap command_table has.command_is ∙ is) has.param_is some))

waiting_stored : (song : Song) → IsComplete song → (command param : ℕ) → IsSafeWaiting song command param →
    (name : TableName) → command_table command ≡ Some name → param ≢ 0 → IsNumbered (table_of song name) param
waiting_stored song complete command param none name is some = absurd (some refl)
waiting_stored song complete command param (of_row has) name is some =
    command_stored song complete command param has name is some

slide_table : (command : ℕ) → 1 ≤ command → command ≤ 4 → command_table command ≡ Some Speed
slide_table command low high = grind (arith, nat_tests)

running_stored : (song : Song) → IsComplete song → (command param : ℕ) → IsSafeRunning song command param →
    param ≢ 0 → IsNumbered song.speed param
running_stored song complete command param none some = absurd (some refl)
running_stored song complete command param (of_instrument i used) some =
    row_stored song complete Speed (instrument_at song i).vibrato (by_playing (pointer_of_instrument i used refl some))
running_stored song complete command param (of_row low high has) some =
    command_stored song complete command param has Speed (slide_table command low high) some

-- ---- states

voice_finds : (song : Song) → KeepsLimits song → IsComplete song → (order : Order) (v : Voice) →
    IsPlayedOrder song order → IsSafeVoice song order v → VoiceFindsAll song order v
voice_finds song limits complete order v o safe =
    let plays = plays_are_patterns_lem order v.plays ((whole_lem song complete.playable).order order o) in
    record {
      instrument = complete.instruments v.instrument safe.instrument;
      wave = finds_rows song limits complete Wave (λ e. cc) v.wave_ptr safe.wave;
      pulse = finds_rows song limits complete Pulse (λ e. cc) v.pulse_ptr safe.pulse;
      pointed = λ name on table some.
          row_stored song complete name (table_row song Wave v.wave_ptr).right
          (pointed v.wave_ptr (is_step song Wave v.wave_ptr safe.wave on).reached
          (record { table = table; right = refl; some = some }));
      waiting = waiting_stored song complete v.new_command v.new_param safe.waiting;
      running = running_stored song complete v.command v.param safe.running;
      pattern = (whole_lem song complete.playable).pattern (played order v.plays).pattern
          (record {
            byte = record { order = order; played = o; entry = plays.entry };
            is_pattern = plays.pattern;
          });
      row = safe.row;
    }

pub complete_songs_find_all : CompleteSongsFindAll
complete_songs_find_all song limits complete = record {
  voice = voice_finds song limits complete;
  common = λ c safe. finds_rows song limits complete Filter (λ e. cc) c.filter_ptr safe.filter;
  state = λ k x low safe. record {
    filter = finds_rows song limits complete Filter (λ e. cc) x.common.filter_ptr safe.common.filter;
    one = voice_finds song limits complete (order_of 1 (subtune_at song k)) x.one
        (is_played song k 1 low (record { first = omega arith; last = omega arith })) safe.one;
    two = voice_finds song limits complete (order_of 2 (subtune_at song k)) x.two
        (is_played song k 2 low (record { first = omega arith; last = omega arith })) safe.two;
    three = voice_finds song limits complete (order_of 3 (subtune_at song k)) x.three
        (is_played song k 3 low (record { first = omega arith; last = omega arith })) safe.three;
  };
}
