-- The worked blocks, computed by the checker.
use Rattle.std.proofs.Common.{refl}
use Rattle.scopes.specs.WorkedScopes.{ScopesAreWorked}

pub scopes_are_worked : ScopesAreWorked
scopes_are_worked = record {
  loops = record {
    left = refl;
    left_in = refl;
    once = refl;
    twice = refl;
    twice_in = refl;
    three_times = refl;
    ends = refl;
    too_often = refl;
  };
  open_loops = record {
    none = refl;
    two = refl;
    two_leave = refl;
    two_in = refl;
    too_often = refl;
    three = refl;
    most = refl;
    no_more = refl;
  };
  searches = record {
    found = refl;
    found_in = refl;
    missed = refl;
    missed_in = refl;
    ends = refl;
  };
  turns = record {
    sum = refl;
    sum_in = refl;
    ends = refl;
    again_on = refl;
    again_on_ends = refl;
  };
  scopes = record {
    outer = refl;
    outer_in = refl;
    inner = refl;
    inner_in = refl;
    neither = refl;
    innermost = refl;
    all = refl;
    all_in = refl;
    not_come_to = refl;
  };
  stuck = record {
    decimal = refl;
    not_closed = refl;
    end_too_many = refl;
    end_before_its_scope = refl;
  };
  places = record {
    x_unread = refl;
    y_unread = refl;
    count_unread = refl;
    entry_read = refl;
    pointed_read = refl;
    others_read = refl;
    pointer_read = refl;
    pointer_written = refl;
    shift_read = refl;
    shift_written = refl;
    register_written = refl;
    register_unread = refl;
    over_the_end = refl;
  };
  voices = record {
    first = refl;
    second = refl;
    second_alone = refl;
    first_wave = refl;
    second_wave = refl;
    third_wave = refl;
    in_all = refl;
    left = refl;
    left_in = refl;
  };
  far = record {
    below = refl;
    below_in = refl;
    at = refl;
    at_in = refl;
    on_below = refl;
    on_at = refl;
  };
  conditions = record {
    holds = refl;
    not = refl;
    holds_in = refl;
    not_in = refl;
    apart = refl;
    apart_in = refl;
  };
  reads = record {
    sum = refl;
    low = refl;
    high = refl;
  };
  stores = record {
    register = refl;
    low = refl;
    high = refl;
    doubled = refl;
    entry = refl;
    pointed = refl;
    all_in = refl;
  };
  prices = record {
    left = refl;
    halved = refl;
    sought = refl;
    risen = refl;
  };
}
