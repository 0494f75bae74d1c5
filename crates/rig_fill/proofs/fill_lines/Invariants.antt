use Rattle.std.specs.Prelude.{◌≡◌, ◌≤◌, take}
use Rattle.rig_held.specs.Held.{held}
use Rattle.rig_lines.specs.Kinds.{kind_a}
use Rattle.rig_lines.specs.Whole.{number_of, is_kind, how_many}
use Rattle.rig_fill.specs.OfLines.{listed}
use Rattle.rig_fill.proofs.fill_lines.Given as goal

abbrev pub invariant-loop-line : goal.invariant-loop-line
invariant-loop-line l = (l.c ≤ l.line-index) × (l.c ≡ how_many (is_kind kind_a) (held (take l.line-index l.lines))) × (l.task ≡ listed (is_kind kind_a) (number_of 0) 0 l.initial.task (held (take l.line-index l.lines))) × (l.pos ≡ listed (is_kind kind_a) (number_of 1) 0 l.initial.pos (held (take l.line-index l.lines))) × (l.flag ≡ listed (is_kind kind_a) (number_of 2) 0 l.initial.flag (held (take l.line-index l.lines)))
