-- The rules on the shelf as one table: first document 01's starred rules, then orders that surprise, then the rules that pin each
-- clause of the definitions (docs/PINNED.md). Those in kernel form are a table of their own, in KernelRules,
-- and so are those with declarations, in DeclarationRules, where names stand as store words.
use Rattle.std.specs.Prelude.{List, [], ◌∷◌, ◌++◌}
use Rattle.language.specs.Rule.{Rule}
use Rattle.language.specs.StarredRules.{or_is_truth, and_stops, right_first, compound_reads_last, division, remainder, largest_sum, sum_overflows, index_last, index_beyond, index_negative, fall_through, default_falls, case_over_default, continue_in_do, worked_spent, worked_ends}
use Rattle.language.specs.SurprisingOrders.{value_before_index, store_needs_its_bounds, own_increment_lost, discarded_fault, index_before_operation, value_fault_first, case_past_others, before_first_mark, continue_to_step, break_leaves_switch, least_by_minus_one, remainder_by_minus_one, remainder_of_least_but_one, remainder_of_least_by_one, remainder_assigned_by_minus_one, element_remainder_by_minus_one, earlier_stores_stay}
use Rattle.language.specs.ArithmeticRules.{minus_value, minus_of_negative, minus_overflows, not_gives_bits, least_sum, sum_below_least, difference, difference_overflows, product, least_product, product_overflows, divisions, remainders, zero_by_zero, remainder_by_zero}
use Rattle.language.specs.ComparisonRules.{less, greater, less_or_equal, greater_or_equal, equal, not_equal, both_negative}
use Rattle.language.specs.ExpressionRules.{and_is_truth, and_right_false, or_stops, or_both_false, conditional_true, conditional_false, comma_left_first, assign_gives_value, second_array, second_array_length, index_assigns, compound_gives_new_value, compound_operators, compound_value_first, compound_reads_after_index, compound_overflows, prefix_gives_new_value, prefix_index_once, prefix_overflows, postfix_gives_old_value, postfix_index_once, postfix_overflows}
use Rattle.language.specs.StatementRules.{no_items, empty_and_blocks, if-true, if_false, if_else_true, if_else_false, switch_without_match, switch_ends_by_itself, switch_without_items, switch_without_marks, break_passes_marks, default_last, negative_case, selector_once, marks_of_inner_switch, break_leaves_inner_switch, break_in_block}
use Rattle.language.specs.LoopRules.{while_never, while_rounds, continue_in_while, break_in_while, break_leaves_inner_loop, do_once, do_rounds, break_in_do, continue_stays_in_inner_loop, continue_leaves_switch, for_without_parts, for_without_test, for_without_step, for_never, break_passes_step, continue_without_test, while_spent, for_spent}
use Rattle.language.specs.GuardedRules.{first_true_guard, second_guard_true, false_guard_stores, no_guard_true, guarded_if_without_arms, guarded_do_without_arms, guarded_do_never, greatest_common_divisor, guarded_do_from_its_first_arm, break_through_guarded_if, break_through_guarded_do, continue_through_guarded_if, continue_through_guarded_do, break_leaves_switch_around_guards, guard_faults, guard_faults_in_a_later_round, guarded_if_fails_in_guarded_do, guarded_do_spent}

abbrev pub starred_rules : List Rule
starred_rules =
    or_is_truth ∷
    and_stops ∷
    right_first ∷
    compound_reads_last ∷
    division ∷
    remainder ∷
    largest_sum ∷
    sum_overflows ∷
    index_last ∷
    index_beyond ∷
    index_negative ∷
    fall_through ∷
    default_falls ∷
    case_over_default ∷
    continue_in_do ∷
    worked_spent ∷
    worked_ends ∷
    []

abbrev pub surprising_orders : List Rule
surprising_orders =
    value_before_index ∷
    store_needs_its_bounds ∷
    own_increment_lost ∷
    discarded_fault ∷
    index_before_operation ∷
    value_fault_first ∷
    case_past_others ∷
    before_first_mark ∷
    continue_to_step ∷
    break_leaves_switch ∷
    least_by_minus_one ∷
    remainder_by_minus_one ∷
    remainder_of_least_but_one ∷
    remainder_of_least_by_one ∷
    remainder_assigned_by_minus_one ∷
    element_remainder_by_minus_one ∷
    earlier_stores_stay ∷
    []

abbrev pub arithmetic_rules : List Rule
arithmetic_rules =
    minus_value ∷
    minus_of_negative ∷
    minus_overflows ∷
    not_gives_bits ∷
    least_sum ∷
    sum_below_least ∷
    difference ∷
    difference_overflows ∷
    product ∷
    least_product ∷
    product_overflows ∷
    divisions ∷
    remainders ∷
    zero_by_zero ∷
    remainder_by_zero ∷
    []

abbrev pub comparison_rules : List Rule
comparison_rules =
    less ∷
    greater ∷
    less_or_equal ∷
    greater_or_equal ∷
    equal ∷
    not_equal ∷
    both_negative ∷
    []

abbrev pub expression_rules : List Rule
expression_rules =
    and_is_truth ∷
    and_right_false ∷
    or_stops ∷
    or_both_false ∷
    conditional_true ∷
    conditional_false ∷
    comma_left_first ∷
    assign_gives_value ∷
    second_array ∷
    second_array_length ∷
    index_assigns ∷
    compound_gives_new_value ∷
    compound_operators ∷
    compound_value_first ∷
    compound_reads_after_index ∷
    compound_overflows ∷
    prefix_gives_new_value ∷
    prefix_index_once ∷
    prefix_overflows ∷
    postfix_gives_old_value ∷
    postfix_index_once ∷
    postfix_overflows ∷
    []

abbrev pub statement_rules : List Rule
statement_rules =
    no_items ∷
    empty_and_blocks ∷
    if-true ∷
    if_false ∷
    if_else_true ∷
    if_else_false ∷
    switch_without_match ∷
    switch_ends_by_itself ∷
    switch_without_items ∷
    switch_without_marks ∷
    break_passes_marks ∷
    default_last ∷
    negative_case ∷
    selector_once ∷
    marks_of_inner_switch ∷
    break_leaves_inner_switch ∷
    break_in_block ∷
    []

abbrev pub loop_rules : List Rule
loop_rules =
    while_never ∷
    while_rounds ∷
    continue_in_while ∷
    break_in_while ∷
    break_leaves_inner_loop ∷
    do_once ∷
    do_rounds ∷
    break_in_do ∷
    continue_stays_in_inner_loop ∷
    continue_leaves_switch ∷
    for_without_parts ∷
    for_without_test ∷
    for_without_step ∷
    for_never ∷
    break_passes_step ∷
    continue_without_test ∷
    while_spent ∷
    for_spent ∷
    []

abbrev pub guarded_rules : List Rule
guarded_rules =
    first_true_guard ∷
    second_guard_true ∷
    false_guard_stores ∷
    no_guard_true ∷
    guarded_if_without_arms ∷
    guarded_do_without_arms ∷
    guarded_do_never ∷
    greatest_common_divisor ∷
    guarded_do_from_its_first_arm ∷
    break_through_guarded_if ∷
    break_through_guarded_do ∷
    continue_through_guarded_if ∷
    continue_through_guarded_do ∷
    break_leaves_switch_around_guards ∷
    guard_faults ∷
    guard_faults_in_a_later_round ∷
    guarded_if_fails_in_guarded_do ∷
    guarded_do_spent ∷
    []

abbrev pub table : List Rule
table = starred_rules ++ (surprising_orders ++ (arithmetic_rules ++ (comparison_rules ++ (expression_rules ++ (statement_rules ++ (loop_rules ++ guarded_rules))))))
