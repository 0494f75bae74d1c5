use mathlib.Core.Path.{◌∙◌}
use Rattle.text.specs.Split.{part}
use Rattle.rig_shapes.specs.Laws.{kind_start}
use Rattle.rig_shapes.proofs.fields.kind.Goals as goal

pub returns : goal.returns
unfolding part
returns c = c.kind_in.ensures ∙ kind_start c.args.line.now c.find-q.result c.find-q.ensures
