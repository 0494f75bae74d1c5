-- What is told lies inside the buffer.
use Rattle.std.proofs.Common.{arith, length-take}
use Rattle.wiring_sheet.specs.Laws.{told_fits}
use Rattle.wiring.proofs.main.Goals as goal

pub slice_bounds-out-end : goal.slice_bounds-out-end
slice_bounds-out-end c = told_fits _ _ _ _ _ _ c.tell-told.ensures

pub slice_bounds-write_all-end : goal.slice_bounds-write_all-end
slice_bounds-write_all-end c = simp length-take (omega (arith, told_fits _ _ _ _ _ _ c.tell-told.ensures))
