use Rattle.wiring_lines.specs.Line.{cells_text}
use Rattle.wiring_lines.specs.Laws.Each.{telling_none, telling_room, telling_next, telling_all}
use Rattle.wiring_lines.specs.Laws.Lines.{cell_short}
use Rattle.wiring_lines.proofs.put_cells.Goals as goal

pub loop-n-init : goal.loop-n-init
loop-n-init c = telling_none _ _ _ _ _ c.requires

pub put_cell-p-requires : goal.put_cell-p-requires
put_cell-p-requires c = telling_room _ _ _ _ _ (λ k. cell_short _) _ _ _ c.loop-n.invariant c.loop-n-test.true

pub loop-n-preserved : goal.loop-n-preserved
loop-n-preserved c = telling_next _ _ _ _ _ (λ k. cell_short _) _ _ _ c.loop-n.invariant c.loop-n-test.true _ _ c.put_cell-p.ensures

pub shape_of-out : goal.shape_of-out
shape_of-out c = c.loop-n.invariant.wrote.size

pub returns : goal.returns
unfolding cells_text
returns c = telling_all _ _ _ _ _ _ _ _ c.loop-n.invariant c.loop-n-test.false
