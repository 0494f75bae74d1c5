use Rattle.wiring_lines.specs.Laws.Lines.{rest_cells, rest_more}
use Rattle.wiring_lines.proofs.put_rest.Goals as goal

pub returns-then-table : goal.returns-then-table
returns-then-table c = rest_cells _ _ _ _ _ _ _ c.if-table.true c.put_cells.ensures

pub returns : goal.returns
returns c = rest_more _ _ _ _ _ _ _ c.if-table.false c.put_words.ensures
