use Prim.Native.Nat.{◌-◌, ◌≤◌}
use mathlib.Core.Path.{◌≡◌}
use mathlib.Core.List.{map}
use lib.ListN.{length, get_or}
use Rattle.decimal.specs.Decimal as D
use Rattle.rig_lines.specs.Line.{line_of}
use Rattle.rig_shapes.specs.Laws.{fields_from}
use Rattle.rig_shapes.proofs.fields.number.Given as goal

abbrev pub invariant-loop-p : goal.invariant-loop-p
invariant-loop-p l = (l.n ≡ length l.line) × (l.p ≤ length l.line) × (get_or (map D.number (fields_from l.line l.p)) l.left 0 ≡ get_or (line_of l.line).nums l.j 0)

abbrev pub decreases-loop-p : goal.decreases-loop-p
decreases-loop-p l = length l.line - l.p
