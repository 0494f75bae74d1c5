use Prim.Native.Nat.{◌≤◌}
use mathlib.Core.Path.{◌≡◌}
use mathlib.Core.Bool.{true}
use Rattle.laws.specs.All.{all}
use Rattle.rig_lines.specs.File.{lines_of}
use Rattle.rig_suspects.specs.Suspects.{task_count_of, has_t_line}
use Rattle.rig_suspects.proofs.missing_task.Given as goal

abbrev pub invariant-loop-t : goal.invariant-loop-t
invariant-loop-t l = (l.n ≡ task_count_of (lines_of l.s)) × (l.t ≤ l.n) × (all l.t (has_t_line (lines_of l.s)) ≡ true)
