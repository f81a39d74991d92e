use Rattle.std.proofs.Common.{◌≡◌, length, get_or, ap, refl, arith}
use Rattle.song_chart.specs.Elements.{elements_text}
use Rattle.song_chart.proofs.OnPictures.{drawing}
use Rattle.song_chart.proofs.claims.worked_pictures.Goals as goal

pub returns-clause-elements : goal.returns-clause-elements
unfolding drawing
returns-clause-elements c = record {
  with_words = refl;
  empty = refl;
  closed = λ e. let long : 59 ≡ 52 = ap length e in omega (arith, long);
  in_order = λ e. let at : 120 ≡ 121 = ap (λ text. get_or text 6 0) e in omega (arith, at);
}

pub returns-clause-paths : goal.returns-clause-paths
unfolding drawing
returns-clause-paths c = record {
  none = refl;
  one = refl;
  most = refl;
  greatest = refl;
  means = refl;
  not_the_greatest = λ e. let at : 53 ≡ 51 = ap (λ text. get_or text 2 0) e in omega (arith, at);
  all_columns = λ e. let long : 24 ≡ 16 = ap length e in omega (arith, long);
  means_over_greatest = refl;
  not_exchanged = λ e. let at : 57 ≡ 48 = ap (λ text. get_or text 54 0) e in omega (arith, at);
}

pub returns-clause-marks : goal.returns-clause-marks
unfolding drawing
returns-clause-marks c = record {
  none = refl;
  first = refl;
  not_last = λ e. cc (e);
  no_mark = refl;
  mark = refl;
  at_left = refl;
  after_left = refl;
  before_right = refl;
  at_right = refl;
  no_numbers = refl;
  numbers = refl;
  one_word = refl;
  no_word = refl;
}

pub returns-clause-turns : goal.returns-clause-turns
unfolding drawing
returns-clause-turns c = record {
  at_start = refl;
  in_column = refl;
  not_before = λ e. let at : 54 ≡ 51 = ap (λ elements. get_or (elements_text elements) 10 0) e in omega (arith, at);
  at_end = refl;
  not_drawn = refl;
  no_again = refl;
}

pub returns-clause-whole : goal.returns-clause-whole
unfolding drawing
returns-clause-whole c = refl
