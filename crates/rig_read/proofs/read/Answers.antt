use mathlib.Core.Path.{sym, ◌∙◌}
use Rattle.rig_build.specs.Laws.Answers.{read_long, read_short}
use Rattle.rig_meaning.proofs.Reading.{read_computed_lem}
use Rattle.rig_read.proofs.read.Goals as goal

pub returns-then-s-gt-LONGEST : goal.returns-then-s-gt-LONGEST
returns-then-s-gt-LONGEST c = c.refused.ensures ∙ (read_long _ c.if-s-gt-LONGEST.true ∙ sym (read_computed_lem _))

pub returns : goal.returns
returns c = c.read_lines.ensures ∙ (read_short _ c.if-s-gt-LONGEST.false ∙ sym (read_computed_lem _))
