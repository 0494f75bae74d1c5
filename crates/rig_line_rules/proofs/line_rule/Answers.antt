use mathlib.Core.Path.{sym, ◌∙◌}
use borrow.Author.Tests.{not-true, not-false}
use Rattle.rig_line_rules.specs.Laws.Rules.{rule_1, rule_2, rule_3, rule_4, rule_5, rule_none}
use Rattle.rig_line_rules.proofs.line_rule.Goals as goal

pub returns-then-not-none_above : goal.returns-then-not-none_above
returns-then-not-none_above c = rule_1 _ _ c.requires (sym c.none_above.ensures ∙ not-true _ c.if-not-none_above.true-raw)

pub returns-then-how_many-gt-LINES : goal.returns-then-how_many-gt-LINES
returns-then-how_many-gt-LINES c = rule_2 _ _ c.requires (sym c.none_above.ensures ∙ not-false _ c.if-not-none_above.false-raw) _ c.how_many.ensures.0 c.if-how_many-gt-LINES.true

pub returns-then-how_many-gt-ROWS : goal.returns-then-how_many-gt-ROWS
returns-then-how_many-gt-ROWS c = rule_3 _ _ c.requires (sym c.none_above.ensures ∙ not-false _ c.if-not-none_above.false-raw) _ c.how_many.ensures.0 c.if-how_many-gt-LINES.false _ c.how_many-2.ensures.0 c.if-how_many-gt-ROWS.true

pub returns-then-not-each_task : goal.returns-then-not-each_task
returns-then-not-each_task c = rule_4 _ _ c.requires (sym c.none_above.ensures ∙ not-false _ c.if-not-none_above.false-raw) _ c.how_many.ensures.0 c.if-how_many-gt-LINES.false _ c.how_many-2.ensures.0 c.if-how_many-gt-ROWS.false c.task_lines.result c.each_task.ensures.1 c.task_lines.ensures (sym c.each_task.ensures.0 ∙ not-true _ c.if-not-each_task.true-raw)

pub returns-then-not-few_flags : goal.returns-then-not-few_flags
returns-then-not-few_flags c = rule_5 _ _ c.requires (sym c.none_above.ensures ∙ not-false _ c.if-not-none_above.false-raw) _ c.how_many.ensures.0 c.if-how_many-gt-LINES.false _ c.how_many-2.ensures.0 c.if-how_many-gt-ROWS.false c.task_lines.result c.each_task.ensures.1 c.task_lines.ensures (sym c.each_task.ensures.0 ∙ not-false _ c.if-not-each_task.false-raw) c.flag_counts.result c.flag_counts.ensures (sym c.few_flags.ensures ∙ not-true _ c.if-not-few_flags.true-raw)

pub returns : goal.returns
returns c = rule_none _ _ c.requires (sym c.none_above.ensures ∙ not-false _ c.if-not-none_above.false-raw) _ c.how_many.ensures.0 c.if-how_many-gt-LINES.false _ c.how_many-2.ensures.0 c.if-how_many-gt-ROWS.false c.task_lines.result c.each_task.ensures.1 c.task_lines.ensures (sym c.each_task.ensures.0 ∙ not-false _ c.if-not-each_task.false-raw) c.flag_counts.result c.flag_counts.ensures (sym c.few_flags.ensures ∙ not-false _ c.if-not-few_flags.false-raw)
