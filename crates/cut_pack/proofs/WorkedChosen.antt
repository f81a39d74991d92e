-- The small songs, computed.
use Rattle.std.proofs.Common.{◌≡◌, ℕ, ◌<◌, ◌≤◌, Bool, true, false, nat_le, List, [], ◌∷◌, length, get_or, sum_by}
use Rattle.std.proofs.Common.{bytes_eq, inl, refl, sym, ap, ◌∙◌, subst, arith, lit<}
use Rattle.std.specs.List.{list_all}
use Rattle.std.proofs.lemmas.Bool.{leb-true, true≢false}
use Rattle.song_model.specs.declared.tables.TableName.TheVariants.{Pulse}
use Rattle.song_model.specs.declared.songs.Song.{Song}
use Rattle.song_model.specs.Limits.{KeepsLimits}
use Rattle.song_model.specs.LookUp.{playable_subtune, instrument_at, table_row, pattern_at}
use Rattle.song_model.specs.Walk.{prefix_of, cycle_of, played}
use Rattle.play_model.specs.declared.options.Options.{Options}
use Rattle.play_model.specs.declared.unplayable.Unplayable.TheVariants.{TableOverflow}
use Rattle.play_model.specs.Freq.{freq, half_tone, slide}
use Rattle.play_model.specs.Helpers.{next_row, porta_up, porta_down, tone, vibrato, do_command}
use Rattle.play_model.specs.FilterStep.{filter_step}
use Rattle.play_model.specs.TickStep.{between_rows, note_started, row_command, at_row, tick_step}
use Rattle.play_model.specs.WaveStep.{wave_command, wave_step}
use Rattle.play_model.specs.EffectStep.{effect_step}
use Rattle.play_model.specs.PulseStep.{pulse_step}
use Rattle.play_model.specs.FetchRow.{fetch_row}
use Rattle.play_model.specs.Frame.{voice_step, voice_registers, filter_registers, frame_of, state_after_with}
use Rattle.play_model.specs.State.{no_options}
use Rattle.play_model.specs.Playable.{IsPlayable}
use Rattle.play_model.specs.Reached.{IsPlayedPointer, of_instrument, played as of_pointer, led}
use Rattle.play_model.specs.WorkedSongs.{one_note}
use Rattle.play_model.specs.WorkedRuns.{left_out, first_left_out, all_left_out}
use Rattle.packed_form.specs.declared.packed_songs.PackedSong.{PackedSong}
use Rattle.packed_form.specs.PackedText.{packed_text}
use Rattle.packed_form.specs.Sizes.{packed_song_size}
use Rattle.packed_form.specs.WorkedUnpacked.{IsPackedNote}
use Rattle.packing_rules.specs.Segments.{first_row, is_closed, are_equal, first_equal, keeps, stand_in}
use Rattle.packing_rules.specs.UsedSets.{UsedSets, AreUsedSets}
use Rattle.packing_rules.specs.Renumbering.{first_seen, speed_rows, speed_number, table_number, instruments_in_order}
use Rattle.packing_rules.specs.Renumbering.{instrument_number, pattern_text, pattern_texts}
use Rattle.packing_rules.specs.SongSizes.{packed_size}
use Rattle.packing_rules.proofs.Laws.{same_sets}
use Rattle.pattern_cut.specs.Pieces.{is_named, named, is_repeated}
use Rattle.pattern_cut.specs.CutSongs.{pieces_of, all_pieces, piece_numbers, cut_with}
use Rattle.pattern_cut.specs.Choice.{all_orders, weight, settled, settled_from, chosen_ways, cut_song}
use Rattle.pattern_cut.specs.WorkedPieces.{bar}
use Rattle.pattern_cut.specs.WorkedChoice.{voiced, two_bars, once_song, twice_song}
use Rattle.pattern_cut.specs.WorkedStandIns.{quiet_song}
use Rattle.pattern_cut.proofs.Laws.{pattern_choices_are_as_worked_lem, pattern_stand_ins_are_as_worked_lem}
use Rattle.song_pack.specs.Answers.{AreShort}
use Rattle.cut_pack.specs.Chosen.{IsShorter, IsPackedFor, in_pieces, as_it_is}
use Rattle.cut_pack.specs.Answers.{IsPackedOf}
use Rattle.cut_pack.specs.WorkedChosen.{marked, marked_twice, alike_song, three_alike, commanded, long_song}
use Rattle.cut_pack.specs.WorkedChosen.{sets_naming, SizeIs, SizesAreAsWorked, UsesAre, UsesAreAsWorked, CutsAreShorter}
use Rattle.cut_pack.specs.WorkedChosen.{LongOnesAreNot, IsPackedInPieces, IsPackedAsItIs, ChosenAreAsWorked}
use Rattle.cut_pack.specs.WorkedChosen.{ServingIsAsWorked, PackedOfIsAsWorked, PacksAreAsWorked, PackedCutsAreAsWorked}
use Rattle.cut_pack.specs.WorkedChosen.{ShorterOfIsAsWorked, PackedSongsAreAsWorked}
use Rattle.cut_pack.proofs.Chosen.{itself_serves, one_size as one_size_of, one_is_packed_lem}
use Rattle.cut_pack.proofs.Packed.{one_size}
use Rattle.cut_pack.proofs.WorkedSets.{passes, one_of, row_passes, rows_pass, plain_sets}

-- ---- the songs with their patterns cut

once_cut_is : cut_song once_song ≡ voiced (1 ∷ 1 ∷ []) (bar 0x90 ∷ [])
once_cut_is = pattern_choices_are_as_worked_lem.songs.cut

twice_cut_is : cut_song twice_song ≡ twice_song
twice_cut_is = pattern_choices_are_as_worked_lem.songs.whole

abbrev alike_cut : Song
alike_cut = voiced (1 ∷ 1 ∷ 2 ∷ 2 ∷ []) (marked 0 ∷ marked 1 ∷ [])

alike_cut_is : cut_song alike_song ≡ alike_cut
unfolding packed_text is_named named is_repeated pieces_of all_pieces piece_numbers cut_with pattern_at weight settled
    settled_from chosen_ways cut_song
alike_cut_is = refl

abbrev three_cut : Song
three_cut = voiced (1 ∷ 1 ∷ 2 ∷ 2 ∷ 3 ∷ 3 ∷ []) (marked 0 ∷ marked 1 ∷ marked 2 ∷ [])

three_cut_is : cut_song three_alike ≡ three_cut
unfolding packed_text is_named named is_repeated pieces_of all_pieces piece_numbers cut_with pattern_at weight settled
    settled_from chosen_ways cut_song
three_cut_is = refl

-- ---- what they use

once_uses : UsesAre once_song (1 ∷ [])
unfolding row_passes rows_pass pattern_at
once_uses = plain_sets (1 ∷ []) (two_bars ∷ []) (record { plays = refl; low = refl; rows = refl })

uses_worked : UsesAreAsWorked
unfolding row_passes rows_pass pattern_at
uses_worked = record {
  once = once_uses;
  once_cut = subst (λ s. UsesAre s (1 ∷ 1 ∷ [])) (sym once_cut_is)
      (plain_sets (1 ∷ 1 ∷ []) (bar 0x90 ∷ []) (record { plays = refl; low = refl; rows = refl }));
  twice = plain_sets (1 ∷ 1 ∷ []) (two_bars ∷ []) (record { plays = refl; low = refl; rows = refl });
  alike = plain_sets (1 ∷ 2 ∷ []) (marked_twice 0 ∷ marked_twice 1 ∷ [])
      (record { plays = refl; low = refl; rows = refl });
  alike_cut = subst (λ s. UsesAre s (1 ∷ 1 ∷ 2 ∷ 2 ∷ [])) (sym alike_cut_is)
      (plain_sets (1 ∷ 1 ∷ 2 ∷ 2 ∷ []) (marked 0 ∷ marked 1 ∷ []) (record { plays = refl; low = refl; rows = refl }));
  three = plain_sets (1 ∷ 2 ∷ 3 ∷ []) (marked_twice 0 ∷ marked_twice 1 ∷ marked_twice 2 ∷ [])
      (record { plays = refl; low = refl; rows = refl });
  three_cut = subst (λ s. UsesAre s (1 ∷ 1 ∷ 2 ∷ 2 ∷ 3 ∷ 3 ∷ [])) (sym three_cut_is)
      (plain_sets (1 ∷ 1 ∷ 2 ∷ 2 ∷ 3 ∷ 3 ∷ []) (marked 0 ∷ marked 1 ∷ marked 2 ∷ [])
      (record { plays = refl; low = refl; rows = refl }));
  short = plain_sets (1 ∷ []) (commanded 85 ∷ []) (record { plays = refl; low = refl; rows = refl });
  short_twice = plain_sets (1 ∷ 1 ∷ []) (commanded 85 ∷ []) (record { plays = refl; low = refl; rows = refl });
  long = plain_sets (1 ∷ []) (commanded 86 ∷ []) (record { plays = refl; low = refl; rows = refl });
  long_twice = plain_sets (1 ∷ 1 ∷ []) (commanded 86 ∷ []) (record { plays = refl; low = refl; rows = refl });
}

-- ---- their sizes

-- of the cut ones, written out
record CutSizes : Type 0 where
  once : SizeIs (voiced (1 ∷ 1 ∷ []) (bar 0x90 ∷ [])) (1 ∷ 1 ∷ []) 43
  alike : SizeIs alike_cut (1 ∷ 1 ∷ 2 ∷ 2 ∷ []) 45
  three : SizeIs three_cut (1 ∷ 1 ∷ 2 ∷ 2 ∷ 3 ∷ 3 ∷ []) 47

cut_sizes : CutSizes
unfolding packed_text first_row is_closed are_equal first_equal keeps stand_in speed_rows speed_number table_number
    instruments_in_order instrument_number instrument_at pattern_text pattern_texts packed_size table_row pattern_at
cut_sizes = record { once = refl; alike = refl; three = refl }

sizes_worked : SizesAreAsWorked
unfolding packed_text first_row is_closed are_equal first_equal keeps stand_in speed_rows speed_number table_number
    instruments_in_order instrument_number instrument_at pattern_text pattern_texts packed_size table_row pattern_at
sizes_worked = record {
  once = refl;
  once_cut = ap (λ s. packed_size s (sets_naming (1 ∷ 1 ∷ []))) once_cut_is ∙ cut_sizes.once;
  twice = refl;
  alike = refl;
  alike_cut = ap (λ s. packed_size s (sets_naming (1 ∷ 1 ∷ 2 ∷ 2 ∷ []))) alike_cut_is ∙ cut_sizes.alike;
  three = refl;
  three_cut = ap (λ s. packed_size s (sets_naming (1 ∷ 1 ∷ 2 ∷ 2 ∷ 3 ∷ 3 ∷ []))) three_cut_is ∙ cut_sizes.three;
  short = refl;
  short_twice = refl;
  long = refl;
  long_twice = refl;
}

-- ---- texts that may be packed

text_is_short : Song → UsedSets → ℕ → Bool
text_is_short song used p = nat_le (length (pattern_text song used p)) 256

are_short : (song : Song) (entries : List ℕ) → UsesAre song entries →
    list_all (text_is_short song (sets_naming entries)) (0 ∷ entries) ≡ true → AreShort song (sets_naming entries)
unfolding text_is_short
are_short song entries uses short p used =
    leb-true (length (pattern_text song (sets_naming entries) p)) 256
    (passes (text_is_short song (sets_naming entries)) (0 ∷ entries) p short
    (one_of (0 ∷ entries) p ((uses.patterns p).1 used)))

-- with whatever sets of used parts it has, a song with a text of 259 bytes isn't to be packed
long_text : length (pattern_text (long_song 86 (1 ∷ [])) (sets_naming (1 ∷ [])) 1) ≡ 259
unfolding packed_text first_row is_closed are_equal first_equal keeps stand_in speed_rows speed_number table_number
    instruments_in_order instrument_number instrument_at pattern_text table_row pattern_at
long_text = refl

not_short : (used : UsedSets) → AreUsedSets (long_song 86 (1 ∷ [])) used → ¬ AreShort (long_song 86 (1 ∷ [])) used
not_short used are short =
    let same = same_sets (long_song 86 (1 ∷ [])) used (sets_naming (1 ∷ [])) are uses_worked.long in
    let most = short 1 ((uses_worked.long.patterns 1).0 refl) in
    let text = ap (λ u. length (pattern_text (long_song 86 (1 ∷ [])) u 1)) same ∙ long_text in
    omega (arith, most, text)

-- ---- shorter songs

shorter : (song other : Song) (entries other_entries : List ℕ) (size other_size : ℕ) → UsesAre song entries →
    UsesAre other other_entries → SizeIs song entries size → SizeIs other other_entries other_size →
    AreShort other (sets_naming other_entries) → other_size < size → IsShorter song other
shorter song other entries other_entries size other_size uses other_uses is other_is short less = record {
  used = sets_naming entries;
  are_used = uses;
  other_used = sets_naming other_entries;
  are_other_used = other_uses;
  short = short;
  less = omega (arith, less, is, other_is);
}

not_shorter : (song other : Song) (entries other_entries : List ℕ) (size other_size : ℕ) → UsesAre song entries →
    UsesAre other other_entries → SizeIs song entries size → SizeIs other other_entries other_size →
    size ≤ other_size → ¬ IsShorter song other
not_shorter song other entries other_entries size other_size uses other_uses is other_is most shorter =
    let less = shorter.less in
    let one = one_size_of song shorter.used (sets_naming entries) shorter.are_used uses in
    let two = one_size_of other shorter.other_used (sets_naming other_entries) shorter.are_other_used other_uses in
    omega (arith, less, one, two, is, other_is, most)

once_short : AreShort once_song (sets_naming (1 ∷ []))
unfolding text_is_short packed_text first_row is_closed are_equal first_equal keeps stand_in speed_rows speed_number
    table_number instruments_in_order instrument_number instrument_at pattern_text table_row pattern_at
once_short = are_short once_song (1 ∷ []) once_uses refl

once_cut_short : AreShort (cut_song once_song) (sets_naming (1 ∷ 1 ∷ []))
unfolding text_is_short packed_text first_row is_closed are_equal first_equal keeps stand_in speed_rows speed_number
    table_number instruments_in_order instrument_number instrument_at pattern_text table_row pattern_at
once_cut_short =
    are_short (cut_song once_song) (1 ∷ 1 ∷ []) uses_worked.once_cut
    (ap (λ s. list_all (text_is_short s (sets_naming (1 ∷ 1 ∷ []))) (0 ∷ 1 ∷ 1 ∷ [])) once_cut_is ∙ are_below)
  where
    are_below : list_all (text_is_short (voiced (1 ∷ 1 ∷ []) (bar 0x90 ∷ [])) (sets_naming (1 ∷ 1 ∷ [])))
        (0 ∷ 1 ∷ 1 ∷ []) ≡ true
    are_below = refl

once_shorter : IsShorter once_song (cut_song once_song)
once_shorter =
    shorter once_song (cut_song once_song) (1 ∷ []) (1 ∷ 1 ∷ []) 44 43 once_uses uses_worked.once_cut sizes_worked.once
    sizes_worked.once_cut once_cut_short (lit< tt)

alike_longer : ¬ IsShorter alike_song (cut_song alike_song)
alike_longer =
    not_shorter alike_song (cut_song alike_song) (1 ∷ 2 ∷ []) (1 ∷ 1 ∷ 2 ∷ 2 ∷ []) 45 45 uses_worked.alike
    uses_worked.alike_cut sizes_worked.alike sizes_worked.alike_cut (omega arith)

three_longer : ¬ IsShorter three_alike (cut_song three_alike)
three_longer =
    not_shorter three_alike (cut_song three_alike) (1 ∷ 2 ∷ 3 ∷ []) (1 ∷ 1 ∷ 2 ∷ 2 ∷ 3 ∷ 3 ∷ []) 46 47 uses_worked.three
    uses_worked.three_cut sizes_worked.three sizes_worked.three_cut (omega arith)

twice_longer : ¬ IsShorter twice_song (cut_song twice_song)
twice_longer =
    subst (λ s. ¬ IsShorter twice_song s) (sym twice_cut_is)
    (not_shorter twice_song twice_song (1 ∷ 1 ∷ []) (1 ∷ 1 ∷ []) 45 45 uses_worked.twice uses_worked.twice
    sizes_worked.twice sizes_worked.twice (omega arith))

cuts_shorter : CutsAreShorter
cuts_shorter = record {
  once = once_shorter;
  twice_is = twice_cut_is;
  twice = twice_longer;
  alike_is = alike_cut_is;
  alike = alike_longer;
  three = three_longer;
}

short_texts : AreShort (long_song 85 (1 ∷ [])) (sets_naming (1 ∷ []))
unfolding text_is_short packed_text first_row is_closed are_equal first_equal keeps stand_in speed_rows speed_number
    table_number instruments_in_order instrument_number instrument_at pattern_text table_row pattern_at
short_texts = are_short (long_song 85 (1 ∷ [])) (1 ∷ []) uses_worked.short refl

long_ones : LongOnesAreNot
long_ones = record {
  short = shorter (long_song 85 (1 ∷ 1 ∷ [])) (long_song 85 (1 ∷ [])) (1 ∷ 1 ∷ []) (1 ∷ []) 295 294
      uses_worked.short_twice uses_worked.short sizes_worked.short_twice sizes_worked.short short_texts (lit< tt);
  long = λ q. not_short q.other_used q.are_other_used q.short;
  from_long = shorter (long_song 86 (1 ∷ [])) once_song (1 ∷ []) (1 ∷ []) 297 44 uses_worked.long once_uses
      sizes_worked.long sizes_worked.once once_short (lit< tt);
}

-- ---- the song that is packed

in_pieces_alone : (o : Options) (song : Song) → o.skip_first ≡ false → IsShorter song (cut_song song) →
    ¬ (song ≡ cut_song song) → IsPackedInPieces o song
in_pieces_alone o song kept shorter differs = record { cut = in_pieces kept refl shorter; whole = not_whole }
  where
    not_whole : ¬ IsPackedFor o song song
    not_whole (in_pieces kept' is shorter') = differs is
    not_whole (as_it_is is longer) = longer kept shorter

as_it_is_alone : (o : Options) (song : Song) → (o.skip_first ≡ false → ¬ IsShorter song (cut_song song)) →
    ¬ (cut_song song ≡ song) → IsPackedAsItIs o song
as_it_is_alone o song longer differs = record { whole = as_it_is refl longer; cut = not_cut }
  where
    not_cut : ¬ IsPackedFor o song (cut_song song)
    not_cut (in_pieces kept is shorter) = longer kept shorter
    not_cut (as_it_is is longer') = differs is

entry_count : Song → ℕ
entry_count song = sum_by (λ order. length order.entries) (all_orders song)

once_differs : ¬ (once_song ≡ cut_song once_song)
unfolding entry_count
once_differs e = (let count : 3 ≡ 4 = ap entry_count (e ∙ once_cut_is) in omega (arith, count))

alike_differs : ¬ (cut_song alike_song ≡ alike_song)
unfolding entry_count
alike_differs e = (let count : 6 ≡ 4 = ap entry_count (sym alike_cut_is ∙ e) in omega (arith, count))

three_differs : ¬ (cut_song three_alike ≡ three_alike)
unfolding entry_count
three_differs e = (let count : 8 ≡ 5 = ap entry_count (sym three_cut_is ∙ e) in omega (arith, count))

-- where the pulse step is left out between two patterns it isn't kept
not_kept : (P : Type 0) → true ≡ false → P
not_kept P kept = absurd (true≢false kept)

chosen_worked : ChosenAreAsWorked
chosen_worked = record {
  plain = in_pieces_alone no_options once_song refl once_shorter once_differs;
  others = in_pieces_alone (left_out true true 4) once_song refl once_shorter once_differs;
  ntsc = in_pieces_alone _ once_song refl once_shorter once_differs;
  first = as_it_is_alone (first_left_out 1) once_song (not_kept _) (λ e. once_differs (sym e));
  all = as_it_is_alone (all_left_out 4) once_song (not_kept _) (λ e. once_differs (sym e));
  alike = as_it_is_alone no_options alike_song (λ kept. alike_longer) alike_differs;
  three = as_it_is_alone (left_out true true 4) three_alike (λ kept. three_longer) three_differs;
  three_first = as_it_is_alone (first_left_out 1) three_alike (not_kept _) three_differs;
  twice = as_it_is refl (λ kept. twice_longer);
}

-- ---- songs that serve

quiet_is : cut_song quiet_song ≡ quiet_song
unfolding packed_text is_named named is_repeated pieces_of all_pieces piece_numbers cut_with pattern_at weight settled
    settled_from chosen_ways cut_song
quiet_is = refl

first_pulse : IsPlayedPointer (record one_note { pulse = (record { left = 0x88; right = 0 }) ∷ [] }) Pulse 1
unfolding instrument_at
first_pulse = of_instrument 1 (inl refl) refl (λ e. omega (arith, e))

-- register r of one call
byte_of : ℕ → List ℕ → ℕ
byte_of r registers = get_or registers r 0

serving_worked : ServingIsAsWorked
unfolding byte_of prefix_of cycle_of played playable_subtune instrument_at table_row pattern_at
    freq half_tone slide next_row porta_up porta_down tone vibrato do_command filter_step
    between_rows note_started row_command at_row tick_step wave_command wave_step effect_step
    pulse_step fetch_row voice_step voice_registers filter_registers frame_of state_after_with
serving_worked =
    let worked = pattern_stand_ins_are_as_worked_lem in
    let cut = worked.stand_ins.cut in
    let chosen = worked.stand_ins.chosen in
    record {
      cut = record {
        limits = cut.limits;
        playable = cut.playable;
        plays = cut.plays no_options refl;
        asks = cut.asks;
      };
      itself = itself_serves (all_left_out 4) quiet_song (subst KeepsLimits quiet_is chosen.limits)
          (subst IsPlayable quiet_is chosen.playable);
      limits = λ q. let count : 0 ≡ 32 = q.limits.name.count in omega (arith, count);
      playable = λ q. q.playable (TableOverflow Pulse 2) (record {
        programs = λ e. cc;
        reached = led 1 (of_pointer first_pulse) refl;
        above = lit< tt;
      });
      row_more = λ q.
          let e : 0x09 ≡ 0x0F = ap (byte_of 5) (q.plays.trace 0 17 (lit< tt)) in
          omega (arith, e);
      row_less = λ q.
          let e : 0x0F ≡ 0x09 = ap (byte_of 5) (q.plays.trace 0 17 (lit< tt)) in
          omega (arith, e);
      asks = λ q. worked.asked.feature_more q.asks;
      between = λ q.
          let e : 0xC0 ≡ 0xD0 = ap (byte_of 2) (q.plays.trace 0 21 (lit< tt)) in
          omega (arith, e);
    }

-- ---- answers

its_size : (packed : PackedSong) → IsPackedOf packed once_song → packed_song_size packed ≡ 44
its_size packed is = one_size once_song packed is (sets_naming (1 ∷ [])) once_uses ∙ sizes_worked.once

its_cut_size : (packed : PackedSong) → IsPackedOf packed (cut_song once_song) → packed_song_size packed ≡ 43
its_cut_size packed is =
    one_size (cut_song once_song) packed is (sets_naming (1 ∷ 1 ∷ [])) uses_worked.once_cut ∙ sizes_worked.once_cut

note_size : (packed : PackedSong) → IsPackedNote packed → packed_song_size packed ≡ 42
note_size packed is =
    rw (is.subtunes, is.patterns, is.instruments, is.wave, is.pulse, is.filter, is.speed) refl

its_texts : first_seen bytes_eq (pattern_texts once_song (sets_naming (1 ∷ [])))
    ≡ (0xC0 ∷ 0 ∷ []) ∷ (1 ∷ 0x90 ∷ 0xC6 ∷ 0x90 ∷ 0xC6 ∷ 0 ∷ []) ∷ []
unfolding packed_text first_row is_closed are_equal first_equal keeps stand_in speed_rows speed_number table_number
    instruments_in_order instrument_number instrument_at pattern_text pattern_texts table_row pattern_at
its_texts = refl

packed_worked : PackedOfIsAsWorked
packed_worked = record {
  whole = λ packed stands exact size. record {
    stands = stands;
    used = sets_naming (1 ∷ []);
    are_used = once_uses;
    exact = exact;
    size = size ∙ sym sizes_worked.once;
  };
  size = its_size;
  cut_size = its_cut_size;
  parts = λ packed is.
      is.exact.patterns
      ∙ ap (λ u. first_seen bytes_eq (pattern_texts once_song u))
      (same_sets once_song is.used (sets_naming (1 ∷ [])) is.are_used once_uses)
      ∙ its_texts;
  note = λ packed note is.
      let one = note_size packed note in
      let other = its_size packed is in
      omega (arith, one, other);
}

-- no packed song is that of both songs
one_of_both : (packed : PackedSong) → IsPackedOf packed once_song → IsPackedOf packed (cut_song once_song) → ⊥
one_of_both packed whole cut =
    let one = its_size packed whole in
    let other = its_cut_size packed cut in
    omega (arith, one, other)

answers_worked : PacksAreAsWorked
answers_worked = record {
  cut = λ packed is. record { chosen = cut_song once_song; is_for = chosen_worked.plain.cut; is = is };
  not_whole = λ packed is packs.
      let chosen = one_is_packed_lem no_options once_song packs.chosen (cut_song once_song) packs.is_for
      chosen_worked.plain.cut in
      one_of_both packed is (subst (IsPackedOf packed) chosen packs.is);
  whole = λ packed is. record { chosen = once_song; is_for = chosen_worked.first.whole; is = is };
  not_cut = λ packed is packs.
      let chosen = one_is_packed_lem (first_left_out 1) once_song packs.chosen once_song packs.is_for
      chosen_worked.first.whole in
      one_of_both packed (subst (IsPackedOf packed) chosen packs.is) is;
}

packed_cuts : PackedCutsAreAsWorked
packed_cuts = record {
  some = λ none. none (sets_naming (1 ∷ [])) once_uses once_short;
  none = not_short;
  not_long = λ packed is.
      not_short (sets_naming (1 ∷ [])) uses_worked.long (is.1 (sets_naming (1 ∷ [])) uses_worked.long);
}

of_two_worked : ShorterOfIsAsWorked
of_two_worked = record {
  none = λ whole. refl;
  equal = λ whole cut one other. rw (one, other) refl;
  more = λ whole cut one other. rw (one, other) refl;
  less = λ whole cut one other. rw (one, other) refl;
}

pub packed_songs_are_as_worked_lem : PackedSongsAreAsWorked
packed_songs_are_as_worked_lem = record {
  sizes = sizes_worked;
  uses = uses_worked;
  shorter = cuts_shorter;
  long = long_ones;
  chosen = chosen_worked;
  serving = serving_worked;
  packed = packed_worked;
  answers = answers_worked;
  cuts = packed_cuts;
  of_two = of_two_worked;
}
