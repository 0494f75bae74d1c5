use mathlib.Core.Path.{◌≡◌}
use Prim.Native.Nat.{◌≤◌, ◌-◌}
use Rattle.rig_tables.specs.Tests.{at}
use Rattle.rules.specs.Rig.{place_of}
use Rattle.exec_conditions.specs.Laws.Driving.{stored}
use Rattle.exec_conditions.proofs.drive.Given as goal

abbrev pub invariant-loop-k : goal.invariant-loop-k
invariant-loop-k s = (s.cond ≡ stored (at s.rig.line_flag) s.f (λ l. place_of (at s.rig.line_task l) (at s.rig.line_pos l)) (λ l. s.v) s.k s.initial.cond)
    × (s.named ≡ stored (at s.rig.line_flag) s.f (at s.rig.line_task) (λ l. 1) s.k s.initial.named)
    × (s.k ≤ s.n)

abbrev pub decreases-loop-k : goal.decreases-loop-k
decreases-loop-k l = l.n - l.k
