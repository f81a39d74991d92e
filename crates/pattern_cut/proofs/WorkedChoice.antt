-- The small choices, computed.
use Rattle.std.proofs.Common.{refl}
use Rattle.song_model.specs.LookUp.{pattern_at}
use Rattle.packed_form.specs.PackedText.{packed_text}
use Rattle.pattern_cut.specs.Pieces.{is_named, named, is_repeated}
use Rattle.pattern_cut.specs.CutSongs.{pieces_of, all_pieces, piece_numbers, cut_with}
use Rattle.pattern_cut.specs.Choice.{weight, settled, settled_from, chosen_ways, cut_song}
use Rattle.pattern_cut.specs.WorkedChoice.{FitsAreAsWorked, PatternWeightsAreAsWorked, WeightsAreAsWorked}
use Rattle.pattern_cut.specs.WorkedChoice.{LightestAreAsWorked, SettledAreAsWorked, ChosenAreAsWorked}
use Rattle.pattern_cut.specs.WorkedChoice.{OneAfterTheOther, CutSongsAreAsWorked, StartsAreAsWorked, ChoiceIsGreedy}
use Rattle.pattern_cut.specs.WorkedChoice.{GrownStartsAreAsWorked, PatternChoicesAreAsWorked}

fits_worked : FitsAreAsWorked
fits_worked = record {
  patterns = refl;
  entries = refl;
  many = refl;
  one = refl;
  two = refl;
  three = refl;
  later = refl;
}

pattern_weights_worked : PatternWeightsAreAsWorked
unfolding packed_text
pattern_weights_worked = record { one = refl; two = refl; part = refl; rest = refl; longest = refl }

weights_worked : WeightsAreAsWorked
unfolding packed_text is_named named is_repeated pieces_of all_pieces piece_numbers cut_with pattern_at weight
weights_worked = record {
  note = refl;
  bars = refl;
  whole = refl;
  cut = refl;
  apart = refl;
  many = refl;
  long = refl;
  grown = refl;
  full = refl;
}

lightest_worked : LightestAreAsWorked
lightest_worked = record { alone = refl; first = refl; second = refl; last = refl }

settled_worked : SettledAreAsWorked
unfolding packed_text is_named named is_repeated pieces_of all_pieces piece_numbers cut_with pattern_at weight settled
settled_worked = record { cut = refl; same = refl; heavier = refl; longer = refl; short = refl }

in_turn : OneAfterTheOther
unfolding packed_text is_named named is_repeated pieces_of all_pieces piece_numbers cut_with pattern_at weight settled
    settled_from
in_turn = record { ascending = refl; not_again = refl }

chosen_worked : ChosenAreAsWorked
unfolding packed_text is_named named is_repeated pieces_of all_pieces piece_numbers cut_with pattern_at weight settled
    settled_from chosen_ways
chosen_worked = record {
  eight = refl;
  sixteen = refl;
  thirty_two = refl;
  sixty_four = refl;
  other = refl;
  twice = refl;
  repeated = refl;
}

songs_worked : CutSongsAreAsWorked
unfolding packed_text is_named named is_repeated pieces_of all_pieces piece_numbers cut_with pattern_at weight settled
    settled_from chosen_ways cut_song
songs_worked = record { cut = refl; whole = refl }

starts_worked : StartsAreAsWorked
unfolding packed_text is_named named is_repeated pieces_of all_pieces piece_numbers cut_with pattern_at weight settled
    settled_from chosen_ways cut_song
starts_worked = record {
  from_whole = refl;
  whole = refl;
  one = refl;
  both = refl;
  eight = refl;
  sixteen = refl;
  thirty_two = refl;
  sixty_four = refl;
  song = refl;
}

greedy : ChoiceIsGreedy
unfolding packed_text is_named named is_repeated pieces_of all_pieces piece_numbers cut_with pattern_at weight settled
    settled_from chosen_ways
greedy = record { chosen = refl; lighter = refl }

grown_worked : GrownStartsAreAsWorked
unfolding packed_text is_named named is_repeated pieces_of all_pieces piece_numbers cut_with pattern_at weight settled
    settled_from
grown_worked = record { all = refl; first = refl; first_whole = refl; from_eight = refl; from_whole = refl }

pub pattern_choices_are_as_worked_lem : PatternChoicesAreAsWorked
pattern_choices_are_as_worked_lem = record {
  fitting = fits_worked;
  patterns = pattern_weights_worked;
  weights = weights_worked;
  lightest = lightest_worked;
  settled = settled_worked;
  in_turn = in_turn;
  chosen = chosen_worked;
  songs = songs_worked;
  starts = starts_worked;
  greedy = greedy;
  grown = grown_worked;
}
