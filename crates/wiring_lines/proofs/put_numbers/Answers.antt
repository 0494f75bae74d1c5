use Rattle.wiring_lines.specs.Line.{numbers_text}
use Rattle.wiring_lines.specs.Laws.Each.{telling_none, telling_room, telling_next, telling_all}
use Rattle.wiring_lines.specs.Laws.Lines.{field_short}
use Rattle.wiring_lines.proofs.put_numbers.Goals as goal

pub loop-cycle-init : goal.loop-cycle-init
loop-cycle-init c = telling_none _ _ _ _ _ c.requires

pub put_field-p-requires : goal.put_field-p-requires
put_field-p-requires c = telling_room _ _ _ _ _ field_short _ _ _ c.loop-cycle.invariant c.loop-cycle-test.true

pub loop-cycle-preserved : goal.loop-cycle-preserved
loop-cycle-preserved c = telling_next _ _ _ _ _ field_short _ _ _ c.loop-cycle.invariant c.loop-cycle-test.true _ _ c.put_field-p.ensures

pub shape_of-out : goal.shape_of-out
shape_of-out c = c.loop-cycle.invariant.wrote.size

pub returns : goal.returns
unfolding numbers_text
returns c = telling_all _ _ _ _ _ _ _ _ c.loop-cycle.invariant c.loop-cycle-test.false
