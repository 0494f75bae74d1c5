use Rattle.wiring_lines.specs.Laws.Lines.{top_as, top_none}
use Rattle.wiring_lines.proofs.put_top.Goals as goal

pub returns-then-table : goal.returns-then-table
returns-then-table c = top_as _ c.if-table.true _ _ _ c.put_header.ensures

pub returns : goal.returns
returns c = top_none _ c.if-table.false _
