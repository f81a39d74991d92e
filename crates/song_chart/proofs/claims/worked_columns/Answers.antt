use Rattle.std.proofs.Common.{ℕ, ◌≤◌, [], ◌∷◌, lit≤, refl, arith}
use Rattle.std.proofs.lemmas.List.{length-replicate}
use Rattle.std.proofs.lemmas.List.Elements.{All-nil, All-cons, All-head}
use Rattle.song_chart.proofs.claims.worked_columns.Goals as goal

pub returns-clause-calls : goal.returns-clause-calls
returns-clause-calls c = record {
  none = record { few = lit≤ tt; short = All-nil (λ call. call ≤ 1400000) };
  most = record {
    few = lit≤ tt;
    short = All-cons (λ call. call ≤ 1400000) 0 (1400000 ∷ []) (lit≤ tt)
        (All-cons (λ call. call ≤ 1400000) 1400000 [] (lit≤ tt) (All-nil (λ call. call ≤ 1400000)));
  };
  not_longer = λ are. let low = All-head (λ call. call ≤ 1400000) 1400001 [] are.short in omega (arith, low);
  not_more = λ n more are.
      (let few = are.few in
      let long = length-replicate {A = ℕ} n 0 in
      omega (arith, few, long, more));
}

pub returns-clause-columns : goal.returns-clause-columns
returns-clause-columns c = record {
  none = refl;
  one = refl;
  pairs = refl;
  none_left_out = λ e. cc (e);
  with_the_rest = λ e. cc (e);
  in_order = λ e. cc (e);
  one_call_each = refl;
  two_calls_each = refl;
  not_one_each = λ e. cc (e);
  never_none = refl;
  few = refl;
  long = refl;
  most = refl;
}

pub returns-clause-cycles : goal.returns-clause-cycles
returns-clause-cycles c = record {
  greatest_of_none = refl;
  greatest_of_some = refl;
  of_a_column = refl;
  not_of_all = λ e. cc (e);
  mean_of_one = refl;
  mean_down = refl;
  not_up = λ e. cc (e);
  not_the_sum = λ e. cc (e);
}

pub returns-clause-scale : goal.returns-clause-scale
returns-clause-scale c = record {
  none = refl;
  just_one = refl;
  two = refl;
  not_one = λ e. cc (e);
  just_two = refl;
  five_lines = refl;
  just_before_last = refl;
  last = refl;
  most = refl;
  whole = refl;
  down = refl;
  not_up = λ e. omega (arith, e);
  small = refl;
  high = refl;
}

pub returns-clause-places : goal.returns-clause-places
returns-clause-places c = record {
  of_five = refl;
  of_none = refl;
  of_many = refl;
  of_one = refl;
  left = refl;
  first = refl;
  second = refl;
  right = refl;
  left_of_none = refl;
  to_none = refl;
  to_first = refl;
  to_second = refl;
  to_third = refl;
  not_before = λ e. cc (e);
  middle = refl;
  same_middle = refl;
}
