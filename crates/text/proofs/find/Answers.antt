-- What was passed over is free of the byte: nothing at first, and one byte more each time.
use Rattle.std.proofs.Common.{arith}
use Rattle.text.specs.Laws.Parts.{free_turn, free_none}
use Rattle.text.proofs.find.Goals as goal

pub loop-i-init : goal.loop-i-init
loop-i-init c = (omega arith, omega arith, free_none _ _ _)

pub loop-i-preserved : goal.loop-i-preserved
loop-i-preserved c =
    let i = c.loop-i.invariant in
    (omega arith, omega arith, free_turn _ _ _ _ i.0 (omega arith) i.2 c.if-s-i.false)
