use Rattle.rig_lines.specs.declared.Kind.TheVariants.{Row}
use Rattle.rig_lines.specs.Kinds.{timed}
use Rattle.rig_lines.specs.Laws.Kind.{differs_yes, differs_no}
use Rattle.rig_line_sizes.proofs.on_time.Goals as goal

pub returns-then-ne : goal.returns-then-ne
unfolding timed
returns-then-ne c = rw (differs_yes c.args.kind Row _ c.ne.ensures c.if-ne.true, c.if-ne.true)

pub returns-then-is_period : goal.returns-then-is_period
unfolding timed
returns-then-is_period c = rw (differs_no c.args.kind Row _ c.ne.ensures c.if-ne.false, ← c.is_period.ensures, c.if-is_period.true)

pub returns-else-is_period : goal.returns-else-is_period
unfolding timed
returns-else-is_period c = rw (differs_no c.args.kind Row _ c.ne.ensures c.if-ne.false, ← c.is_period.ensures, c.if-is_period.false)
