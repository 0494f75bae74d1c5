use mathlib.Core.Path.{refl, ap, ◌∙◌}
use Rattle.rig_whole.specs.Numbers.{some_rule}
use Rattle.rig_line_rules.specs.Laws.Rules.{some_line_rule}
use Rattle.rig_build.specs.Read.{file_refused}
use Rattle.rig_build.specs.Laws.Answers.{whole_lines, whole_rows, whole_rig, whole_right}
use Rattle.rig_build.proofs.whole_of.Goals as goal

pub returns-in-Err : goal.returns-in-Err
returns-in-Err c = c.refused.ensures ∙ (ap (file_refused 4 0) c.number.ensures ∙ whole_lines _ _ c.in-Err.ensures (some_line_rule c.in-Err.rule))

pub rig_from-g-requires-clause-few : goal.rig_from-g-requires-clause-few
rig_from-g-requires-clause-few c = (whole_rows _ _ c.in_default.ensures refl, c.requires.few)

pub returns-in-Err-first_broken : goal.returns-in-Err-first_broken
returns-in-Err-first_broken c =
    c.refused-in-Err-first_broken.ensures
    ∙ whole_rig _ _ c.in_default.ensures refl _ c.rig_from-g.ensures _ c.table_from.ensures _ c.cycles_of-cycles.ensures _
    c.in-Err-first_broken.ensures (some_rule c.in-Err-first_broken.rule) _ c.behind.ensures

pub returns : goal.returns
returns c =
    c.taken.ensures
    ∙ whole_right _ _ c.in_default.ensures refl _ c.rig_from-g.ensures _ c.table_from.ensures _ c.cycles_of-cycles.ensures _ c.in_default-first_broken.ensures refl
