use native.Mathlib.Omega.{arith}
use Rattle.exec_family.specs.Laws.Leaving.{turned_start, turned_yes, turned_no, turned_done}
use Rattle.exec_family.proofs.desert.Goals as goal
use Rattle.exec_family.proofs.desert.Goals.{else-marks-t-eq1, then-marks-t-eq1}

pub loop-i-init : goal.loop-i-init
loop-i-init c = turned_start _ _ c.requires

pub loop-i-preserved : goal.loop-i-preserved
loop-i-preserved c =
    let d = c in
    let a = c.args in
    elim c.if-marks-t-eq1.branch [ then-marks-t-eq1 w ↦ rw w.l-is (turned_yes a.l.now a.marks.now d.loop-i.l d.loop-i.i d.loop-i.invariant w.if-marks-t-eq1.true w.leave.new.l w.leave.ensures) | else-marks-t-eq1 w ↦ rw w.l-is (turned_no a.l.now a.marks.now d.loop-i.l d.loop-i.i d.loop-i.invariant w.if-marks-t-eq1.false) ]

pub returns : goal.returns
returns c =
    let d = c in
    turned_done _ _ d.loop-i.l d.loop-i.i d.loop-i.invariant (omega arith)
