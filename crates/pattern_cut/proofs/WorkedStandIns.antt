-- The small songs that stand in for others, and those that don't.
use Rattle.std.proofs.Common.{◌≡◌, ℕ, zero, suc, pos, ◌<◌, ◌≤◌, List, [], ◌∷◌, All, Some, Contains}
use Rattle.std.proofs.Common.{replicate, slice_get, get_or, inl, refl, sym, ap, ◌∙◌, subst, arith, lit<, lit≤}
use Rattle.std.proofs.lemmas.List.Elements.{All-nil, All-cons, All-replicate, All-head}
use Rattle.base.proofs.Laws.{same_some}
use Rattle.song_model.specs.declared.rows.Row.{Row}
use Rattle.song_model.specs.declared.orders.Order.{Order}
use Rattle.song_model.specs.declared.features.Feature.TheVariants.{Repeat}
use Rattle.song_model.specs.declared.tables.TableName.TheVariants.{Pulse}
use Rattle.song_model.specs.Basics.{IsByte}
use Rattle.song_model.specs.Limits.{IsOrder, IsSubtune, IsInstrument, IsTable, IsTableRow, KeepsLimits}
use Rattle.song_model.specs.PatternLimits.{IsRow, IsPattern}
use Rattle.song_model.specs.LookUp.{pattern_at, instrument_at, table_row, order_of, playable_subtune}
use Rattle.song_model.specs.Silence.{rest_row, order_of_zero}
use Rattle.song_model.specs.Silent.{IsSilentRow, IsSilentOrder, IsSilentSubtune}
use Rattle.song_model.specs.Walk.{prefix_of, cycle_of, played}
use Rattle.play_model.specs.declared.unplayable.Unplayable.TheVariants.{TableOverflow}
use Rattle.play_model.specs.Freq.{freq, half_tone, slide}
use Rattle.play_model.specs.Helpers.{next_row, porta_up, porta_down, tone, vibrato, do_command}
use Rattle.play_model.specs.FilterStep.{filter_step}
use Rattle.play_model.specs.TickStep.{between_rows, note_started, row_command, at_row, tick_step}
use Rattle.play_model.specs.WaveStep.{wave_command, wave_step}
use Rattle.play_model.specs.EffectStep.{effect_step}
use Rattle.play_model.specs.PulseStep.{pulse_step}
use Rattle.play_model.specs.FetchRow.{fetch_row}
use Rattle.play_model.specs.Frame.{voice_step, voice_registers, filter_registers, frame_of, state_after_with}
use Rattle.play_model.specs.State.{no_options}
use Rattle.play_model.specs.Used.{IsPlayedOrder, IsChannel}
use Rattle.play_model.specs.Reached.{IsPlayedPointer, of_instrument, played as of_pointer, led}
use Rattle.play_model.specs.Playable.{IsPlayable}
use Rattle.play_model.specs.Features.{HasFeature}
use Rattle.play_model.specs.WorkedSongs.{order, subtune, row, rests, one_note}
use Rattle.play_model.proofs.Laws.{silent_songs_can_be_played_lem}
use Rattle.song_facts.specs.declared.facts.Fact.TheVariants.{Subtunes}
use Rattle.asked_numbers.specs.Numbers.{IsAskedNumber, sounded, of_wave_row, of_pattern}
use Rattle.asked_numbers.proofs.Laws.{numbers_are_worked}
use Rattle.packed_form.specs.PackedText.{packed_text}
use Rattle.pattern_cut.specs.Pieces.{is_named, named, is_repeated}
use Rattle.pattern_cut.specs.declared.lengths.PieceLength.TheVariants.{Rows8}
use Rattle.pattern_cut.specs.CutSongs.{pieces_of, all_pieces, piece_numbers, cut_subtune, cut_with}
use Rattle.pattern_cut.specs.Choice.{weight, settled, settled_from, chosen_ways, cut_song}
use Rattle.pattern_cut.specs.WorkedPieces.{eights}
use Rattle.pattern_cut.specs.WorkedStandIns.{repeated_note, second_note, SameIsAsked, quiet_song, many_bars}
use Rattle.pattern_cut.specs.WorkedStandIns.{StandInsAreAsWorked, PatternStandInsAreAsWorked}
use Rattle.pattern_cut.proofs.Lists.{only}
use Rattle.pattern_cut.proofs.StandIns.{cut_songs_lem}

-- ---- features and numbers

channel_one : IsChannel 1
channel_one = record { first = lit≤ tt; last = lit≤ tt }

low_entry : (order : Order) → IsPlayedOrder one_note order → (byte : ℕ) → Contains order.entries byte → byte < 2
low_entry o is byte has =
    by_channel is.channel is.is_channel (is.order_is ∙ ap (order_of is.channel) (sym (only _ is.subtune is.playable)))
  where
    by_channel : (channel : ℕ) → IsChannel channel → o ≡ order_of channel (subtune (0 ∷ []) (1 ∷ []) (1 ∷ [])) →
        byte < 2
    by_channel zero is e = (let first = is.first in absurd (omega (arith, first)))
    by_channel (suc zero) is e =
        let low = only 0 byte (subst (λ (x : Order). Contains x.entries byte) e has) in
        omega (arith, low)
    by_channel (suc (suc zero)) is e =
        let low = only 1 byte (subst (λ (x : Order). Contains x.entries byte) e has) in
        omega (arith, low)
    by_channel (suc (suc (suc zero))) is e =
        let low = only 1 byte (subst (λ (x : Order). Contains x.entries byte) e has) in
        omega (arith, low)
    by_channel (suc (suc (suc (suc k)))) is e = (let last = is.last in absurd (omega (arith, last)))

no_repeat : ¬ HasFeature one_note Repeat
no_repeat has =
    let low = low_entry has.played.order has.played.played has.byte has.played.entry in
    let high = has.low in
    omega (arith, low, high)

its_repeat : HasFeature repeated_note Repeat
its_repeat = record {
  byte = 0xD0;
  played = record {
    order = order (0xD0 ∷ 0 ∷ []);
    played = record {
      subtune = subtune (0xD0 ∷ 0 ∷ []) (1 ∷ []) (1 ∷ []);
      playable = (0, lit< tt, refl);
      channel = 1;
      is_channel = channel_one;
      order_is = refl;
    };
    entry = (0, lit< tt, refl);
  };
  low = lit≤ tt;
  high = lit≤ tt;
}

-- its second note is half tone 50
second_asked : IsAskedNumber second_note 50
unfolding pattern_at instrument_at table_row
second_asked = sounded (of_wave_row 1 50 (record {
  step = record { reached = of_pointer (of_instrument 1 (inl refl) refl (λ e. omega (arith, e))); no_jump = refl };
  no_command = refl;
  sets = λ e. omega (arith, e);
}) (of_pattern (record {
  order = order (0 ∷ []);
  played = record {
    subtune = subtune (0 ∷ []) (1 ∷ []) (1 ∷ []);
    playable = (0, lit< tt, refl);
    channel = 1;
    is_channel = channel_one;
    order_is = refl;
  };
  pattern = 0;
  entry = (0, lit< tt, refl);
  is_pattern = lit< tt;
  row = row 0x92 0 0 0;
  has = (1, lit< tt, refl);
  plays = refl;
  transpose = pos 0;
  by = inl refl;
  note_is = refl;
})) refl)

not_asked : ¬ IsAskedNumber one_note 50
not_asked asked = (let e = only 48 50 ((numbers_are_worked.notes.one 50).0 asked) in omega (arith, e))

same_asked : SameIsAsked
same_asked = record {
  itself = record { features = λ f. (λ h. h, λ h. h); facts = λ f. (λ h. h, λ h. h); numbers = λ n. (λ h. h, λ h. h) };
  feature_more = λ q. no_repeat ((q.features Repeat).0 its_repeat);
  feature_less = λ q. no_repeat ((q.features Repeat).1 its_repeat);
  fact_more = λ q. let more : 1 < 1 = (q.facts Subtunes).0 (lit< tt) in omega (arith, more);
  fact_less = λ q. let more : 1 < 1 = (q.facts Subtunes).1 (lit< tt) in omega (arith, more);
  number_more = λ q. not_asked ((q.numbers 50).0 second_asked);
  number_less = λ q. not_asked ((q.numbers 50).1 second_asked);
}

-- ---- the quiet song keeps the limits and can be played

text_is : (n : ℕ) → All IsByte (replicate n 0)
text_is n = All-replicate IsByte n 0 (lit< tt)

order_is : IsOrder order_of_zero
order_is = record {
  entries = record { count = lit≤ tt; each = All-cons (λ b. b < 0xFF) 0 [] (lit< tt) (All-nil (λ b. b < 0xFF)) };
  restart = lit< tt;
}

row_is : IsRow rest_row
row_is = record {
  note_from = lit≤ tt;
  note_to = lit≤ tt;
  instrument = lit≤ tt;
  command = lit≤ tt;
  param = lit< tt;
}

pattern_is : IsPattern (rests 16)
pattern_is = record {
  count = record { least = lit≤ tt; most = lit≤ tt };
  each = All-replicate IsRow 16 rest_row row_is;
}

no_rows : IsTable []
no_rows = record { count = lit≤ tt; each = All-nil IsTableRow }

quiet_limits : KeepsLimits quiet_song
quiet_limits = record {
  name = record { count = refl; each = text_is 32 };
  author = record { count = refl; each = text_is 32 };
  copyright = record { count = refl; each = text_is 32 };
  subtunes = record {
    count = lit≤ tt;
    each = All-cons IsSubtune _ [] (record { one = order_is; two = order_is; three = order_is }) (All-nil IsSubtune);
  };
  instruments = record { count = lit≤ tt; each = All-nil IsInstrument };
  wave = no_rows;
  pulse = no_rows;
  filter = no_rows;
  speed = no_rows;
  patterns = record { count = lit≤ tt; each = All-cons IsPattern (rests 16) [] pattern_is (All-nil IsPattern) };
}

zero_is_silent : IsSilentOrder quiet_song.patterns order_of_zero
zero_is_silent = record {
  entry = lit< tt;
  plain = All-cons (λ b. b < 0xD0) 0 [] (lit< tt) (All-nil (λ b. b < 0xD0));
  stored = All-cons (λ b. b < 1) 0 [] (lit< tt) (All-nil (λ b. b < 1));
  restart = lit< tt;
  rows = λ byte rows has stored. rows_are byte rows (only 0 byte has) stored;
}
  where
    rows_are : (byte : ℕ) (rows : List Row) → 0 ≡ byte → slice_get quiet_song.patterns byte ≡ Some rows →
        All IsSilentRow rows
    rows_are byte rows zero_is stored =
        let first : Some (rests 16) ≡ Some rows = rw (sym zero_is) at stored in
        subst (λ (items : List Row). All IsSilentRow items) (same_some (rests 16) rows first)
        (All-replicate IsSilentRow 16 rest_row (record { note = refl; instrument = refl; command = refl }))

quiet_plays : IsPlayable quiet_song
quiet_plays = silent_songs_can_be_played_lem quiet_song (record {
  one_subtune = refl;
  subtunes = All-cons (IsSilentSubtune quiet_song.patterns) _ []
      (record { one = zero_is_silent; two = zero_is_silent; three = zero_is_silent })
      (All-nil (IsSilentSubtune quiet_song.patterns));
  instruments = refl;
  wave = refl;
  pulse = refl;
  filter = refl;
  speed = refl;
})

-- ---- songs that stand in

first_pulse : IsPlayedPointer (record one_note { pulse = (record { left = 0x88; right = 0 }) ∷ [] }) Pulse 1
unfolding instrument_at
first_pulse = of_instrument 1 (inl refl) refl (λ e. omega (arith, e))

-- register r of one call
byte_of : ℕ → List ℕ → ℕ
byte_of r registers = get_or registers r 0

-- 128 patterns in two pieces each are 256 entries
not_grown : ¬ KeepsLimits (cut_with many_bars eights)
unfolding is_named named is_repeated pieces_of all_pieces piece_numbers cut_with pattern_at
not_grown limits =
    let pieces = piece_numbers many_bars eights in
    let subtune = cut_subtune pieces (subtune (replicate 128 1) (0 ∷ []) (0 ∷ [])) in
    let count : 256 ≤ 254 = (All-head IsSubtune subtune [] limits.subtunes.each).one.entries.count in
    omega (arith, count)

stand_ins_worked : StandInsAreAsWorked
unfolding byte_of prefix_of cycle_of played playable_subtune instrument_at table_row pattern_at
    freq half_tone slide next_row porta_up porta_down tone vibrato do_command filter_step
    between_rows note_started row_command at_row tick_step wave_command wave_step effect_step
    pulse_step fetch_row voice_step voice_registers filter_registers frame_of state_after_with
    packed_text is_named named is_repeated pieces_of all_pieces piece_numbers cut_with weight settled
    settled_from chosen_ways cut_song
stand_ins_worked = record {
  cut = cut_songs_lem quiet_song (Rows8 ∷ []) quiet_limits quiet_plays refl;
  chosen = cut_songs_lem quiet_song (chosen_ways quiet_song) quiet_limits quiet_plays refl;
  limits = λ q. let count : 0 ≡ 32 = q.limits.name.count in omega (arith, count);
  playable = λ q. q.playable (TableOverflow Pulse 2) (record {
    programs = λ e. cc;
    reached = led 1 (of_pointer first_pulse) refl;
    above = lit< tt;
  });
  row_more = λ q.
      let e : 0x09 ≡ 0x0F = ap (byte_of 5) ((q.plays no_options refl).trace 0 17 (lit< tt)) in
      omega (arith, e);
  row_less = λ q.
      let e : 0x0F ≡ 0x09 = ap (byte_of 5) ((q.plays no_options refl).trace 0 17 (lit< tt)) in
      omega (arith, e);
  asks = λ q. no_repeat ((q.asks.features Repeat).0 its_repeat);
  grown = λ q. not_grown q.limits;
}

pub pattern_stand_ins_are_as_worked_lem : PatternStandInsAreAsWorked
pattern_stand_ins_are_as_worked_lem = record { asked = same_asked; stand_ins = stand_ins_worked }
