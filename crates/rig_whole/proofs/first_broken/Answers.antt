use Rattle.std.proofs.Common.{rules, arith, ◌≡◌, sym, ◌∙◌, refl, true}
use Rattle.laws.specs.All.{all_of}
use Rattle.laws.specs.First.{first_false}
use Rattle.laws.specs.Laws.First.{first_found, first_passed, first_last}
use Rattle.rig_tables.specs.Tests.{lines_rise_b}
use Rattle.rig_cycles.specs.Tests.{cycles_rise_b}
use Rattle.rig_whole.specs.Numbers.{rule_number, rule_report, some_rule}
use Rattle.rig_whole.specs.Tests.{shaped_tests, count_group, size_group, order_group, number_group, task_group, line_group, rest_group, from_sizes, from_orders, from_numbers, from_tasks, from_lines, from_rest, tests, first_broken}
use Rattle.rig_whole.specs.Laws.Whole.{Counted, counted, risen, Numbered, numbered, task_answer, line_answer}
use Rattle.rig_whole.proofs.first_broken.Goals as goal

pub returns-in_err-counts : goal.returns-in_err-counts
unfolding first_broken tests
returns-in_err-counts c =
    let told : rule_report c.from_residual.result ≡ rule_number c.in_err-counts.field-0.0 = search rules in
    told ∙ first_found 1 (count_group c.args.rig.now) (from_sizes c.args.rig.now c.args.cycles.now) (rule_number c.in_err-counts.field-0.0) (c.in_err-counts.ensures.first) (some_rule c.in_err-counts.field-0.0)

pub returns-in_err-sizes : goal.returns-in_err-sizes
unfolding first_broken tests
returns-in_err-sizes c =
    let few : Counted c.args.rig.now.tasks c.args.rig.now.flags c.args.rig.now.lines c.args.rig.now.rows = counted c.args.rig.now.tasks c.args.rig.now.flags c.args.rig.now.master c.args.rig.now.lines c.args.rig.now.rows 0 (c.in_ok-counts.ensures.first) refl in
    let past1 : first_broken c.args.rig.now c.args.cycles.now ≡ first_false 6 (from_sizes c.args.rig.now c.args.cycles.now) = first_passed 1 (count_group c.args.rig.now) (from_sizes c.args.rig.now c.args.cycles.now) 0 (c.in_ok-counts.ensures.first) refl (omega arith) in
    let told : rule_report c.from_residual-in_err-sizes.result ≡ rule_number c.in_err-sizes.field-0.0 = search rules in
    told ∙ first_found 6 (size_group c.args.rig.now) (from_orders c.args.rig.now c.args.cycles.now) (rule_number c.in_err-sizes.field-0.0) (c.in_err-sizes.ensures {u = tt}) (some_rule c.in_err-sizes.field-0.0) ∙ sym past1

pub returns-in_err-orders : goal.returns-in_err-orders
unfolding first_broken tests
returns-in_err-orders c =
    let few : Counted c.args.rig.now.tasks c.args.rig.now.flags c.args.rig.now.lines c.args.rig.now.rows = counted c.args.rig.now.tasks c.args.rig.now.flags c.args.rig.now.master c.args.rig.now.lines c.args.rig.now.rows 0 (c.in_ok-counts.ensures.first) refl in
    let past1 : first_broken c.args.rig.now c.args.cycles.now ≡ first_false 6 (from_sizes c.args.rig.now c.args.cycles.now) = first_passed 1 (count_group c.args.rig.now) (from_sizes c.args.rig.now c.args.cycles.now) 0 (c.in_ok-counts.ensures.first) refl (omega arith) in
    let past2 : first_broken c.args.rig.now c.args.cycles.now ≡ first_false 10 (from_orders c.args.rig.now c.args.cycles.now) = past1 ∙ first_passed 6 (size_group c.args.rig.now) (from_orders c.args.rig.now c.args.cycles.now) 0 (c.in_ok-sizes.ensures {u = tt}) refl (omega arith) in
    let told : rule_report c.from_residual-in_err-orders.result ≡ rule_number c.in_err-orders.field-0.0 = search rules in
    told ∙ first_found 10 (order_group c.args.rig.now c.args.cycles.now) (from_numbers c.args.rig.now c.args.cycles.now) (rule_number c.in_err-orders.field-0.0) (c.in_err-orders.ensures {u = tt}) (some_rule c.in_err-orders.field-0.0) ∙ sym past2

pub returns-in_err-numbers : goal.returns-in_err-numbers
unfolding first_broken tests
returns-in_err-numbers c =
    let few : Counted c.args.rig.now.tasks c.args.rig.now.flags c.args.rig.now.lines c.args.rig.now.rows = counted c.args.rig.now.tasks c.args.rig.now.flags c.args.rig.now.master c.args.rig.now.lines c.args.rig.now.rows 0 (c.in_ok-counts.ensures.first) refl in
    let rise : (lines_rise_b c.args.rig.now.lines c.args.rig.now.line_task c.args.rig.now.line_pos c.args.rig.now.line_flag ≡ true) × (cycles_rise_b c.args.cycles.now ≡ true) = risen c.args.rig.now.lines c.args.rig.now.line_task c.args.rig.now.line_pos c.args.rig.now.line_flag c.args.cycles.now 0 (c.in_ok-orders.ensures {u = tt}) refl in
    let past1 : first_broken c.args.rig.now c.args.cycles.now ≡ first_false 6 (from_sizes c.args.rig.now c.args.cycles.now) = first_passed 1 (count_group c.args.rig.now) (from_sizes c.args.rig.now c.args.cycles.now) 0 (c.in_ok-counts.ensures.first) refl (omega arith) in
    let past2 : first_broken c.args.rig.now c.args.cycles.now ≡ first_false 10 (from_orders c.args.rig.now c.args.cycles.now) = past1 ∙ first_passed 6 (size_group c.args.rig.now) (from_orders c.args.rig.now c.args.cycles.now) 0 (c.in_ok-sizes.ensures {u = tt}) refl (omega arith) in
    let past3 : first_broken c.args.rig.now c.args.cycles.now ≡ first_false 12 (from_numbers c.args.rig.now c.args.cycles.now) = past2 ∙ first_passed 10 (order_group c.args.rig.now c.args.cycles.now) (from_numbers c.args.rig.now c.args.cycles.now) 0 (c.in_ok-orders.ensures {u = tt}) refl (omega arith) in
    let told : rule_report c.from_residual-in_err-numbers.result ≡ rule_number c.in_err-numbers.field-0.0 = search rules in
    told ∙ first_found 12 (number_group c.args.rig.now c.args.cycles.now) (from_tasks c.args.rig.now c.args.cycles.now) (rule_number c.in_err-numbers.field-0.0) (c.in_err-numbers.ensures {u = tt}) (some_rule c.in_err-numbers.field-0.0) ∙ sym past3

pub returns-in_err-task_rules : goal.returns-in_err-task_rules
unfolding first_broken tests
returns-in_err-task_rules c =
    let few : Counted c.args.rig.now.tasks c.args.rig.now.flags c.args.rig.now.lines c.args.rig.now.rows = counted c.args.rig.now.tasks c.args.rig.now.flags c.args.rig.now.master c.args.rig.now.lines c.args.rig.now.rows 0 (c.in_ok-counts.ensures.first) refl in
    let rise : (lines_rise_b c.args.rig.now.lines c.args.rig.now.line_task c.args.rig.now.line_pos c.args.rig.now.line_flag ≡ true) × (cycles_rise_b c.args.cycles.now ≡ true) = risen c.args.rig.now.lines c.args.rig.now.line_task c.args.rig.now.line_pos c.args.rig.now.line_flag c.args.cycles.now 0 (c.in_ok-orders.ensures {u = tt}) refl in
    let inside : Numbered c.args.rig.now c.args.cycles.now = numbered c.args.rig.now c.args.cycles.now 0 few rise.0 (c.in_ok-numbers.ensures {u = tt}) refl in
    let past1 : first_broken c.args.rig.now c.args.cycles.now ≡ first_false 6 (from_sizes c.args.rig.now c.args.cycles.now) = first_passed 1 (count_group c.args.rig.now) (from_sizes c.args.rig.now c.args.cycles.now) 0 (c.in_ok-counts.ensures.first) refl (omega arith) in
    let past2 : first_broken c.args.rig.now c.args.cycles.now ≡ first_false 10 (from_orders c.args.rig.now c.args.cycles.now) = past1 ∙ first_passed 6 (size_group c.args.rig.now) (from_orders c.args.rig.now c.args.cycles.now) 0 (c.in_ok-sizes.ensures {u = tt}) refl (omega arith) in
    let past3 : first_broken c.args.rig.now c.args.cycles.now ≡ first_false 12 (from_numbers c.args.rig.now c.args.cycles.now) = past2 ∙ first_passed 10 (order_group c.args.rig.now c.args.cycles.now) (from_numbers c.args.rig.now c.args.cycles.now) 0 (c.in_ok-orders.ensures {u = tt}) refl (omega arith) in
    let past4 : first_broken c.args.rig.now c.args.cycles.now ≡ first_false 16 (from_tasks c.args.rig.now c.args.cycles.now) = past3 ∙ first_passed 12 (number_group c.args.rig.now c.args.cycles.now) (from_tasks c.args.rig.now c.args.cycles.now) 0 (c.in_ok-numbers.ensures {u = tt}) refl (omega arith) in
    let told : rule_report c.from_residual-in_err-task_rules.result ≡ rule_number c.in_err-task_rules.field-0.0 = search rules in
    told ∙ first_found 16 (task_group c.args.rig.now c.args.cycles.now) (from_lines c.args.rig.now c.args.cycles.now) (rule_number c.in_err-task_rules.field-0.0) (task_answer c.args.rig.now c.args.cycles.now inside c.minor_marks-minor.result c.minor_marks-minor.ensures (rule_number c.in_err-task_rules.field-0.0) (c.in_err-task_rules.ensures {u = tt})) (some_rule c.in_err-task_rules.field-0.0) ∙ sym past4

pub returns-in_err-line_rules : goal.returns-in_err-line_rules
unfolding first_broken tests
returns-in_err-line_rules c =
    let few : Counted c.args.rig.now.tasks c.args.rig.now.flags c.args.rig.now.lines c.args.rig.now.rows = counted c.args.rig.now.tasks c.args.rig.now.flags c.args.rig.now.master c.args.rig.now.lines c.args.rig.now.rows 0 (c.in_ok-counts.ensures.first) refl in
    let rise : (lines_rise_b c.args.rig.now.lines c.args.rig.now.line_task c.args.rig.now.line_pos c.args.rig.now.line_flag ≡ true) × (cycles_rise_b c.args.cycles.now ≡ true) = risen c.args.rig.now.lines c.args.rig.now.line_task c.args.rig.now.line_pos c.args.rig.now.line_flag c.args.cycles.now 0 (c.in_ok-orders.ensures {u = tt}) refl in
    let inside : Numbered c.args.rig.now c.args.cycles.now = numbered c.args.rig.now c.args.cycles.now 0 few rise.0 (c.in_ok-numbers.ensures {u = tt}) refl in
    let past1 : first_broken c.args.rig.now c.args.cycles.now ≡ first_false 6 (from_sizes c.args.rig.now c.args.cycles.now) = first_passed 1 (count_group c.args.rig.now) (from_sizes c.args.rig.now c.args.cycles.now) 0 (c.in_ok-counts.ensures.first) refl (omega arith) in
    let past2 : first_broken c.args.rig.now c.args.cycles.now ≡ first_false 10 (from_orders c.args.rig.now c.args.cycles.now) = past1 ∙ first_passed 6 (size_group c.args.rig.now) (from_orders c.args.rig.now c.args.cycles.now) 0 (c.in_ok-sizes.ensures {u = tt}) refl (omega arith) in
    let past3 : first_broken c.args.rig.now c.args.cycles.now ≡ first_false 12 (from_numbers c.args.rig.now c.args.cycles.now) = past2 ∙ first_passed 10 (order_group c.args.rig.now c.args.cycles.now) (from_numbers c.args.rig.now c.args.cycles.now) 0 (c.in_ok-orders.ensures {u = tt}) refl (omega arith) in
    let past4 : first_broken c.args.rig.now c.args.cycles.now ≡ first_false 16 (from_tasks c.args.rig.now c.args.cycles.now) = past3 ∙ first_passed 12 (number_group c.args.rig.now c.args.cycles.now) (from_tasks c.args.rig.now c.args.cycles.now) 0 (c.in_ok-numbers.ensures {u = tt}) refl (omega arith) in
    let past5 : first_broken c.args.rig.now c.args.cycles.now ≡ first_false 19 (from_lines c.args.rig.now c.args.cycles.now) = past4 ∙ first_passed 16 (task_group c.args.rig.now c.args.cycles.now) (from_lines c.args.rig.now c.args.cycles.now) 0 (task_answer c.args.rig.now c.args.cycles.now inside c.minor_marks-minor.result c.minor_marks-minor.ensures 0 (c.in_ok-task_rules.ensures {u = tt})) refl (omega arith) in
    let told : rule_report c.from_residual-in_err-line_rules.result ≡ rule_number c.in_err-line_rules.field-0.0 = search rules in
    told ∙ first_found 19 (line_group c.args.rig.now c.args.cycles.now) (from_rest c.args.rig.now) (rule_number c.in_err-line_rules.field-0.0) (line_answer c.args.rig.now c.args.cycles.now inside c.minor_marks-minor.result c.minor_marks-minor.ensures (rule_number c.in_err-line_rules.field-0.0) (c.in_err-line_rules.ensures {u = tt})) (some_rule c.in_err-line_rules.field-0.0) ∙ sym past5

pub sizes-requires : goal.sizes-requires
sizes-requires c =
    let few : Counted c.args.rig.now.tasks c.args.rig.now.flags c.args.rig.now.lines c.args.rig.now.rows = counted c.args.rig.now.tasks c.args.rig.now.flags c.args.rig.now.master c.args.rig.now.lines c.args.rig.now.rows 0 (c.in_ok-counts.ensures.first) refl in
    few.rows_le

pub orders-requires : goal.orders-requires
orders-requires c =
    let few : Counted c.args.rig.now.tasks c.args.rig.now.flags c.args.rig.now.lines c.args.rig.now.rows = counted c.args.rig.now.tasks c.args.rig.now.flags c.args.rig.now.master c.args.rig.now.lines c.args.rig.now.rows 0 (c.in_ok-counts.ensures.first) refl in
    few.lines_le

pub numbers-requires : goal.numbers-requires
numbers-requires c =
    let few : Counted c.args.rig.now.tasks c.args.rig.now.flags c.args.rig.now.lines c.args.rig.now.rows = counted c.args.rig.now.tasks c.args.rig.now.flags c.args.rig.now.master c.args.rig.now.lines c.args.rig.now.rows 0 (c.in_ok-counts.ensures.first) refl in
    let rise : (lines_rise_b c.args.rig.now.lines c.args.rig.now.line_task c.args.rig.now.line_pos c.args.rig.now.line_flag ≡ true) × (cycles_rise_b c.args.cycles.now ≡ true) = risen c.args.rig.now.lines c.args.rig.now.line_task c.args.rig.now.line_pos c.args.rig.now.line_flag c.args.cycles.now 0 (c.in_ok-orders.ensures {u = tt}) refl in
    (few.lines_le, rise.1)

pub minor_marks-minor-requires : goal.minor_marks-minor-requires
minor_marks-minor-requires c =
    let few : Counted c.args.rig.now.tasks c.args.rig.now.flags c.args.rig.now.lines c.args.rig.now.rows = counted c.args.rig.now.tasks c.args.rig.now.flags c.args.rig.now.master c.args.rig.now.lines c.args.rig.now.rows 0 (c.in_ok-counts.ensures.first) refl in
    let rise : (lines_rise_b c.args.rig.now.lines c.args.rig.now.line_task c.args.rig.now.line_pos c.args.rig.now.line_flag ≡ true) × (cycles_rise_b c.args.cycles.now ≡ true) = risen c.args.rig.now.lines c.args.rig.now.line_task c.args.rig.now.line_pos c.args.rig.now.line_flag c.args.cycles.now 0 (c.in_ok-orders.ensures {u = tt}) refl in
    let inside : Numbered c.args.rig.now c.args.cycles.now = numbered c.args.rig.now c.args.cycles.now 0 few rise.0 (c.in_ok-numbers.ensures {u = tt}) refl in
    (rise.1, inside.minor)

pub task_rules-requires : goal.task_rules-requires
task_rules-requires c =
    let few : Counted c.args.rig.now.tasks c.args.rig.now.flags c.args.rig.now.lines c.args.rig.now.rows = counted c.args.rig.now.tasks c.args.rig.now.flags c.args.rig.now.master c.args.rig.now.lines c.args.rig.now.rows 0 (c.in_ok-counts.ensures.first) refl in
    let rise : (lines_rise_b c.args.rig.now.lines c.args.rig.now.line_task c.args.rig.now.line_pos c.args.rig.now.line_flag ≡ true) × (cycles_rise_b c.args.cycles.now ≡ true) = risen c.args.rig.now.lines c.args.rig.now.line_task c.args.rig.now.line_pos c.args.rig.now.line_flag c.args.cycles.now 0 (c.in_ok-orders.ensures {u = tt}) refl in
    let inside : Numbered c.args.rig.now c.args.cycles.now = numbered c.args.rig.now c.args.cycles.now 0 few rise.0 (c.in_ok-numbers.ensures {u = tt}) refl in
    (few.some, (few.tasks_le, inside.activation))

pub line_rules-requires : goal.line_rules-requires
line_rules-requires c =
    let few : Counted c.args.rig.now.tasks c.args.rig.now.flags c.args.rig.now.lines c.args.rig.now.rows = counted c.args.rig.now.tasks c.args.rig.now.flags c.args.rig.now.master c.args.rig.now.lines c.args.rig.now.rows 0 (c.in_ok-counts.ensures.first) refl in
    let rise : (lines_rise_b c.args.rig.now.lines c.args.rig.now.line_task c.args.rig.now.line_pos c.args.rig.now.line_flag ≡ true) × (cycles_rise_b c.args.cycles.now ≡ true) = risen c.args.rig.now.lines c.args.rig.now.line_task c.args.rig.now.line_pos c.args.rig.now.line_flag c.args.cycles.now 0 (c.in_ok-orders.ensures {u = tt}) refl in
    let inside : Numbered c.args.rig.now c.args.cycles.now = numbered c.args.rig.now c.args.cycles.now 0 few rise.0 (c.in_ok-numbers.ensures {u = tt}) refl in
    (inside.fit, (inside.together, inside.ends))

pub rest_rules-requires : goal.rest_rules-requires
rest_rules-requires c =
    let few : Counted c.args.rig.now.tasks c.args.rig.now.flags c.args.rig.now.lines c.args.rig.now.rows = counted c.args.rig.now.tasks c.args.rig.now.flags c.args.rig.now.master c.args.rig.now.lines c.args.rig.now.rows 0 (c.in_ok-counts.ensures.first) refl in
    (few.lines_le, few.rows_le)

pub returns : goal.returns
unfolding first_broken tests
returns c =
    let few : Counted c.args.rig.now.tasks c.args.rig.now.flags c.args.rig.now.lines c.args.rig.now.rows = counted c.args.rig.now.tasks c.args.rig.now.flags c.args.rig.now.master c.args.rig.now.lines c.args.rig.now.rows 0 (c.in_ok-counts.ensures.first) refl in
    let rise : (lines_rise_b c.args.rig.now.lines c.args.rig.now.line_task c.args.rig.now.line_pos c.args.rig.now.line_flag ≡ true) × (cycles_rise_b c.args.cycles.now ≡ true) = risen c.args.rig.now.lines c.args.rig.now.line_task c.args.rig.now.line_pos c.args.rig.now.line_flag c.args.cycles.now 0 (c.in_ok-orders.ensures {u = tt}) refl in
    let inside : Numbered c.args.rig.now c.args.cycles.now = numbered c.args.rig.now c.args.cycles.now 0 few rise.0 (c.in_ok-numbers.ensures {u = tt}) refl in
    let past1 : first_broken c.args.rig.now c.args.cycles.now ≡ first_false 6 (from_sizes c.args.rig.now c.args.cycles.now) = first_passed 1 (count_group c.args.rig.now) (from_sizes c.args.rig.now c.args.cycles.now) 0 (c.in_ok-counts.ensures.first) refl (omega arith) in
    let past2 : first_broken c.args.rig.now c.args.cycles.now ≡ first_false 10 (from_orders c.args.rig.now c.args.cycles.now) = past1 ∙ first_passed 6 (size_group c.args.rig.now) (from_orders c.args.rig.now c.args.cycles.now) 0 (c.in_ok-sizes.ensures {u = tt}) refl (omega arith) in
    let past3 : first_broken c.args.rig.now c.args.cycles.now ≡ first_false 12 (from_numbers c.args.rig.now c.args.cycles.now) = past2 ∙ first_passed 10 (order_group c.args.rig.now c.args.cycles.now) (from_numbers c.args.rig.now c.args.cycles.now) 0 (c.in_ok-orders.ensures {u = tt}) refl (omega arith) in
    let past4 : first_broken c.args.rig.now c.args.cycles.now ≡ first_false 16 (from_tasks c.args.rig.now c.args.cycles.now) = past3 ∙ first_passed 12 (number_group c.args.rig.now c.args.cycles.now) (from_tasks c.args.rig.now c.args.cycles.now) 0 (c.in_ok-numbers.ensures {u = tt}) refl (omega arith) in
    let past5 : first_broken c.args.rig.now c.args.cycles.now ≡ first_false 19 (from_lines c.args.rig.now c.args.cycles.now) = past4 ∙ first_passed 16 (task_group c.args.rig.now c.args.cycles.now) (from_lines c.args.rig.now c.args.cycles.now) 0 (task_answer c.args.rig.now c.args.cycles.now inside c.minor_marks-minor.result c.minor_marks-minor.ensures 0 (c.in_ok-task_rules.ensures {u = tt})) refl (omega arith) in
    let past6 : first_broken c.args.rig.now c.args.cycles.now ≡ first_false 22 (from_rest c.args.rig.now) = past5 ∙ first_passed 19 (line_group c.args.rig.now c.args.cycles.now) (from_rest c.args.rig.now) 0 (line_answer c.args.rig.now c.args.cycles.now inside c.minor_marks-minor.result c.minor_marks-minor.ensures 0 (c.in_ok-line_rules.ensures {u = tt})) refl (omega arith) in
    let shape : all_of (shaped_tests c.args.rig.now) ≡ true = c.counts.ensures.shaped in
    c.rest_rules.ensures ∙ sym (first_last 22 (rest_group c.args.rig.now) (all_of (shaped_tests c.args.rig.now)) shape) ∙ sym past6
