use Rattle.wiring_lines.specs.Laws.Lines.{cell_none, cell_some}
use native.Mathlib.Omega.{arith}
use Rattle.wiring_lines.proofs.put_cell.Goals as goal

pub returns-then-n-eq0 : goal.returns-then-n-eq0
returns-then-n-eq0 c = cell_none _ _ _ c.if-n-eq0.true (omega (arith, c.requires))

pub returns : goal.returns
returns c = cell_some _ _ _ _ _ c.if-n-eq0.false c.put_field.ensures
