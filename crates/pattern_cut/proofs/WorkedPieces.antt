-- The small patterns in pieces, computed.
use Rattle.std.proofs.Common.{◌≡◌, refl, ap, arith, length}
use Rattle.song_model.specs.LookUp.{pattern_at}
use Rattle.pattern_cut.specs.Pieces.{is_named, named, is_repeated}
use Rattle.pattern_cut.specs.CutSongs.{pieces_of, all_pieces, piece_numbers, cut_with}
use Rattle.pattern_cut.specs.WorkedPieces.{SlicesAreAsWorked, RepeatsAreAsWorked, RestartsAreAsWorked, NamesAreAsWorked}
use Rattle.pattern_cut.specs.WorkedPieces.{RepeatedIsAsWorked, PiecesOfAreAsWorked, RowsAreCompared}
use Rattle.pattern_cut.specs.WorkedPieces.{AllPiecesAreAsWorked, BarsAreCut, PatternPiecesAreAsWorked}

slices_worked : SlicesAreAsWorked
slices_worked = record {
  lengths = refl;
  rest = refl;
  one_over = refl;
  full = refl;
  two = refl;
  whole = refl;
  longest = refl;
  none = refl;
  lost = λ e. let count : 2 ≡ 1 = ap length e in omega arith;
}

repeats_worked : RepeatsAreAsWorked
repeats_worked = record {
  repeated = refl;
  plain = refl;
  once = refl;
  used_up = refl;
  through = refl;
  taken_away = refl;
  last = refl;
  begun = refl;
}

restarts_worked : RestartsAreAsWorked
restarts_worked = record { at_end = refl; at_start = refl; once_at_end = refl; used_up = refl; both = refl }

names_worked : NamesAreAsWorked
unfolding is_named named
names_worked = record { ascending = refl; two = refl; not_played = refl; none = refl }

repeated_worked : RepeatedIsAsWorked
unfolding is_repeated
repeated_worked = refl

pieces_worked : PiecesOfAreAsWorked
unfolding is_repeated pieces_of pattern_at
pieces_worked = record { equal = refl; rest = refl; repeated = refl; own = refl; not_given = refl }

rows_compared : RowsAreCompared
rows_compared = record {
  same = refl;
  note = refl;
  instrument = refl;
  command = refl;
  param = refl;
  more = refl;
  less = refl;
}

all_worked : AllPiecesAreAsWorked
unfolding is_named named is_repeated pieces_of all_pieces piece_numbers pattern_at
all_worked = record { equal = refl; whole = refl; other = refl; numbers = refl; other_numbers = refl }

song_worked : BarsAreCut
unfolding is_named named is_repeated pieces_of all_pieces piece_numbers cut_with pattern_at
song_worked = refl

pub pattern_pieces_are_as_worked_lem : PatternPiecesAreAsWorked
pattern_pieces_are_as_worked_lem = record {
  slices = slices_worked;
  repeats = repeats_worked;
  restarts = restarts_worked;
  names = names_worked;
  repeated = repeated_worked;
  pieces = pieces_worked;
  compared = rows_compared;
  all = all_worked;
  song = song_worked;
}
