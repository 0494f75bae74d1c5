use Rattle.std.specs.Prelude.{◌≡◌, true}
use Rattle.laws.specs.All.{all}
use Rattle.rig_lines.specs.Whole.{number_under}
use Rattle.rig_held.specs.Held.{held_line}
use Rattle.rig_marks.proofs.line_under.Given as goal

abbrev pub invariant-loop-j : goal.invariant-loop-j
invariant-loop-j l = all l.j (number_under l.tasks l.flags (held_line l.line)) ≡ true
