use mathlib.Core.Path.{◌≡◌}
use mathlib.Core.Bool.{true}
use Prim.Native.Nat.{◌*◌, ◌/◌, ◌≤◌}
use Rattle.laws.specs.All.{all}
use Rattle.rig_tables.specs.Tests.{minor_condition_one, marked}
use Rattle.rig_minor.proofs.minor_conditions.Given as goal

abbrev pub invariant-loop-four : goal.invariant-loop-four
invariant-loop-four l = (all (4 * l.four) (minor_condition_one l.rig.lines l.rig.latched l.rig.desired l.rig.line_task l.rig.line_pos l.rig.line_flag (marked l.flags)) ≡ true) × (l.four ≤ l.rig.lines / 4)
