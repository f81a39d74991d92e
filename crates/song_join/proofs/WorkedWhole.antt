-- The worked joins that are whole, and those that aren't.
use Rattle.std.proofs.Common.{◌≡◌, ℕ, List, length, take, get_or, refl, ap, arith, lit<, lit≤}
use Rattle.song_model.specs.declared.tables.TableRow.{TableRow}
use Rattle.song_model.specs.declared.tables.TableName.{TableName}
use Rattle.song_model.specs.declared.tables.TableName.TheVariants.{Wave, Pulse, Filter, Speed}
use Rattle.song_model.specs.Walk.{prefix_of, cycle_of, played}
use Rattle.song_model.specs.LookUp.{zero_instrument, zero_table_row, table_of, playable_subtune, instrument_at}
use Rattle.song_model.specs.LookUp.{table_row, pattern_at}
use Rattle.play_model.specs.Freq.{freq, half_tone, slide}
use Rattle.play_model.specs.Helpers.{next_row, porta_up, porta_down, tone, vibrato, do_command}
use Rattle.play_model.specs.FilterStep.{filter_step}
use Rattle.play_model.specs.TickStep.{between_rows, note_started, row_command, at_row, tick_step}
use Rattle.play_model.specs.WaveStep.{wave_command, wave_step}
use Rattle.play_model.specs.EffectStep.{effect_step}
use Rattle.play_model.specs.PulseStep.{pulse_step}
use Rattle.play_model.specs.FetchRow.{fetch_row}
use Rattle.play_model.specs.Frame.{voice_step, voice_registers, filter_registers, frame_of, state_after_with}
use Rattle.play_model.specs.State.{no_options}
use Rattle.play_model.specs.declared.unplayable.Unplayable.TheVariants.{NoSubtune}
use Rattle.song_join.specs.Numbers.{new_numbers}
use Rattle.song_join.specs.Joined.{joined}
use Rattle.song_join.specs.WorkedJoins.{first_song, both_songs}
use Rattle.song_join.specs.JoinLaws.{IsWholeJoin}
use Rattle.song_join.specs.WorkedJoinable.{still_song}
use Rattle.song_join.specs.WorkedWhole.{BeginningsAreKept, BothArePlayed, JoinsAreWhole, SongsAreJoinable}
use Rattle.song_join.proofs.Whole.{joined_songs_are_whole_lem}
use Rattle.song_join.proofs.WorkedStill.{still_joinable}

first_right : List TableRow → ℕ
first_right rows = (get_or rows 0 zero_table_row).right

rows_first : (name : TableName) →
    take (length (table_of first_song name)) (table_of both_songs name) ≡ table_of first_song name
rows_first Wave = refl
rows_first Pulse = refl
rows_first Filter = refl
rows_first Speed = refl

pub beginnings_are_kept_lem : BeginningsAreKept
unfolding first_right
beginnings_are_kept_lem = record {
  both = record {
    name = refl;
    author = refl;
    copyright = refl;
    subtunes = refl;
    instruments = refl;
    rows = rows_first;
    patterns = refl;
  };
  name = λ b. let e : 0x44 ≡ 0x41 = ap (λ text. get_or text 0 0) b.name in omega arith;
  author = λ b. let e : 0x44 ≡ 0x42 = ap (λ text. get_or text 0 0) b.author in omega arith;
  copyright = λ b. let e : 0x44 ≡ 0x43 = ap (λ text. get_or text 0 0) b.copyright in omega arith;
  subtunes = λ b. let e : 0 ≡ 2 = ap (λ items. length items) b.subtunes in omega arith;
  instruments = λ b.
      let e : 0 ≡ 9 = ap (λ items. (get_or items 0 zero_instrument).ad) b.instruments in
      omega arith;
  wave = λ b. let e : 1 ≡ 0 = ap first_right (b.rows Wave) in omega arith;
  pulse = λ b. let e : 0 ≡ 2 = ap (λ rows. length rows) (b.rows Pulse) in omega arith;
  filter = λ b. let e : 0 ≡ 2 = ap (λ rows. length rows) (b.rows Filter) in omega arith;
  speed = λ b. let e : 0 ≡ 1 = ap (λ rows. length rows) (b.rows Speed) in omega arith;
  patterns = λ b. let e : 1 ≡ 2 = ap (λ items. length items) b.patterns in omega arith;
}

still_whole : IsWholeJoin (joined still_song still_song) still_song still_song
still_whole = joined_songs_are_whole_lem still_song still_song still_joinable

envelope : List ℕ → ℕ
envelope registers = get_or registers 5 0

pub both_are_played_lem : BothArePlayed
unfolding envelope joined new_numbers prefix_of cycle_of played playable_subtune instrument_at table_row pattern_at
    freq half_tone slide next_row porta_up porta_down tone vibrato do_command filter_step
    between_rows note_started row_command at_row tick_step wave_command wave_step effect_step
    pulse_step fetch_row voice_step voice_registers filter_registers frame_of state_after_with
both_are_played_lem = record {
  both = still_whole.plays;
  first_song = λ p.
      let e : 0x12 ≡ 0x09 =
      ap envelope (p.first_song no_options 0 7 (record { least = lit≤ tt; most = lit≤ tt }) (lit< tt)) in
      omega arith;
  second_song = λ p.
      let e : 0x12 ≡ 0x09 =
      ap envelope (p.second_song no_options 0 7 (record { least = lit≤ tt; most = lit≤ tt }) (lit< tt)) in
      omega arith;
  subtunes = λ p. let e : 1 ≡ 2 = ap (λ items. length items) p.subtunes in omega arith;
}

pub joins_are_whole_lem : JoinsAreWhole
unfolding joined new_numbers
joins_are_whole_lem = record {
  whole = still_whole;
  begins = λ w. let e : 1 ≡ 0 = ap (λ text. get_or text 0 0) w.begins.name in omega arith;
  limits = λ w. let e : 0 ≡ 32 = w.limits.name.count in omega arith;
  playable = λ w. w.playable NoSubtune refl;
  plays = λ w. let e : 1 ≡ 2 = ap (λ items. length items) w.plays.subtunes in omega arith;
}

pub songs_are_joinable_lem : SongsAreJoinable
unfolding instrument_at
songs_are_joinable_lem = record {
  all = still_joinable;
  first_limits = λ a. let e : 0 ≡ 32 = a.first_limits.name.count in omega arith;
  second_limits = λ a. let e : 0 ≡ 32 = a.second_limits.name.count in omega arith;
  first_plays = λ a. a.first_plays NoSubtune refl;
  second_plays = λ a. a.second_plays NoSubtune refl;
  can = λ a. let e : 0 ≡ 1 = a.can.timers in omega arith;
}
