-- The rig lies inside the input.
use Rattle.std.proofs.Common.{arith, length-take}
use Rattle.wiring_sheet.specs.Laws.{end_fits}
use Rattle.wiring_sheet.proofs.tell.Goals as goal

pub slice_bounds-sheet-end : goal.slice_bounds-sheet-end
slice_bounds-sheet-end c = simp length-take (omega (arith, end_fits _ _ c.rig_end-end.ensures))

pub slice_bounds-sheet-end-then-eq : goal.slice_bounds-sheet-end-then-eq
slice_bounds-sheet-end-then-eq c = simp length-take (omega (arith, end_fits _ _ c.rig_end-end.ensures))
