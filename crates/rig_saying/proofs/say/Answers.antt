use Rattle.rig_saying.specs.Laws.{said_right, said_refused, said_nothing}
use Rattle.rig_saying.proofs.say.Goals as goal

pub returns-then-out-lt-ROOM : goal.returns-then-out-lt-ROOM
returns-then-out-lt-ROOM c = said_nothing c.args.file.now c.args.out.now c.if-out-lt-ROOM.true

pub returns-then-a-eq0 : goal.returns-then-a-eq0
returns-then-a-eq0 c = said_right c.args.file.now c.args.out.now _ _ c.read-a.result c.read-a.ensures c.if-out-lt-ROOM.false c.if-a-eq0.true c.conditions_of-conditions.result c.conditions_of-conditions.ensures c.right.ensures

pub returns : goal.returns
returns c = said_refused c.args.file.now c.args.out.now _ _ c.read-a.result c.read-a.ensures c.if-out-lt-ROOM.false c.if-a-eq0.false c.refused.ensures
