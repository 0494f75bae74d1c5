use mathlib.Core.Path.{◌≡◌}
use Rattle.rules.specs.Rig.{place_of}
use Rattle.exec_conditions.specs.Lines.{past}
use Rattle.exec_conditions.specs.Laws.Driving.{stored}
use Rattle.exec_conditions.proofs.drive_from.Given as goal

abbrev pub invariant-loop-i : goal.invariant-loop-i
invariant-loop-i s = (s.cond ≡ stored (past s.k s.rig.line_flag) s.f (λ l. place_of (past s.k s.rig.line_task l) (past s.k s.rig.line_pos l)) (λ l. s.v) s.i s.initial.cond)
    × (s.named ≡ stored (past s.k s.rig.line_flag) s.f (past s.k s.rig.line_task) (λ l. 1) s.i s.initial.named)
