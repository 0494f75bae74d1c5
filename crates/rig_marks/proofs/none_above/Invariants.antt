use Rattle.std.specs.Prelude.{◌≡◌, true, take}
use Rattle.rig_lines.specs.Whole.{every, line_under}
use Rattle.rig_held.specs.Held.{held}
use Rattle.rig_marks.proofs.none_above.Given as goal

abbrev pub invariant-loop-line : goal.invariant-loop-line
invariant-loop-line l = every (line_under l.tasks l.flags) (held (take l.line-index l.lines)) ≡ true
