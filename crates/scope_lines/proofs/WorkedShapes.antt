-- The worked trees, computed by the checker.
use Rattle.std.proofs.Common.{refl}
use Rattle.scope_lines.specs.WorkedShapes.{ShapesAreWorked}

pub shapes_are_worked : ShapesAreWorked
shapes_are_worked = record {
  branches = record {
    forwards = refl;
    too_far = refl;
    backwards = refl;
    too_far_back = refl;
    over_lines_kept = refl;
    over_choice = refl;
    far = refl;
    far_back = refl;
  };
  names = record {
    unknown = refl;
    unknown_by_branch = refl;
    other_name = refl;
    behind_its_scope = refl;
    outer = refl;
    outer_by_branch = refl;
    no_loop = refl;
    no_loop_by_branch = refl;
    behind_its_loop = refl;
    in_a_scope = refl;
  };
  mnemonics = record {
    alone = refl;
    bytes = refl;
    others = refl;
    branch = refl;
    call = refl;
    own = refl;
    timer = refl;
  };
  forms = record {
    sought = refl;
    summed = refl;
    not_closed = refl;
    one_side = refl;
    other_side = refl;
    left = refl;
  };
  sets = record { first = refl; last = refl; other = refl; none = refl };
  instructions = record {
    shift = refl;
    no_operand = refl;
    return = refl;
    decimal = refl;
    jump = refl;
    stored_number = refl;
    x_by_x = refl;
    count_by_y = refl;
    by_pointer = refl;
    x_by_pointer = refl;
    byte = refl;
    no_byte = refl;
    register = refl;
    no_register = refl;
    own_register = refl;
    no_own_register = refl;
  };
  measures = record {
    sought = refl;
    sought_weighs = refl;
    sought_uses = refl;
    sought_uses_it = refl;
    summed = refl;
    summed_without = refl;
    summed_most = refl;
    summed_weighs = refl;
    summed_uses = refl;
  };
  operands = record {
    no_a = refl;
    a = refl;
    shift = refl;
    shift_of_a = refl;
    shift_of_byte = refl;
    rotation = refl;
    no_carry = refl;
    carry = refl;
    by_x = refl;
    by_known_x = refl;
    by_y = refl;
    by_pointer = refl;
    by_half = refl;
    by_both = refl;
    without_y = refl;
    half_read = refl;
    half_counted = refl;
    half_counted_on = refl;
    other_half = refl;
  };
  ways = record {
    test = refl;
    test_of_byte = refl;
    test_of_carry = refl;
    test_of_turn = refl;
    compared = refl;
    one_way = refl;
    each_way = refl;
    left_alone = refl;
    left_before = refl;
    left_from_within = refl;
    kept = refl;
    one_side = refl;
    both_sides = refl;
    other_side_never = refl;
    turns = refl;
    left_loop = refl;
  };
  blocks = record {
    sought = refl;
    sought_with_a = refl;
    y_behind = refl;
    x_behind = refl;
    summed = refl;
  };
}
