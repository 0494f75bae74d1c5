use Rattle.rig_fill.specs.Laws.Tables.{Cycled}
use Rattle.rig_fill.proofs.table_from.Given as goal

abbrev pub invariant-loop-line : goal.invariant-loop-line
invariant-loop-line l = Cycled l.lines l.table l.inside l.line-index
