-- The rules of the lines by their numbers.
use Rattle.std.specs.Prelude.{ℕ, Result, Ok, Err}
use Rattle.rig_line_rules.specs.declared.LineRule.{LineRule}
use Rattle.rig_line_rules.specs.declared.LineRule.TheVariants.{NumberAbove, TooManyLines, TooManyRows, TaskWithoutLine, TooManyFlags}

abbrev pub line_rule_number : LineRule → ℕ
line_rule_number NumberAbove = 1
line_rule_number TooManyLines = 2
line_rule_number TooManyRows = 3
line_rule_number TaskWithoutLine = 4
line_rule_number TooManyFlags = 5

-- the rule that is broken, 0 for none
abbrev pub line_rule_report : Result (Unit {0}) LineRule → ℕ
line_rule_report (Ok u) = 0
line_rule_report (Err r) = line_rule_number r
