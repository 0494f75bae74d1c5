use Rattle.std.specs.Prelude.{◌≡◌, take}
use Rattle.rig_held.specs.Held.{held}
use Rattle.rig_lines.specs.Kinds.{kind_t}
use Rattle.rig_lines.specs.Whole.{number_of, is_kind}
use Rattle.rig_fill.specs.OfLines.{stored}
use Rattle.rig_filled.proofs.fill_tasks.Given as goal

abbrev pub invariant-loop-line : goal.invariant-loop-line
invariant-loop-line l = (l.controller ≡ stored (is_kind kind_t) (number_of 0) (number_of 1) l.initial.controller (held (take l.line-index l.lines))) × (l.priority ≡ stored (is_kind kind_t) (number_of 0) (number_of 2) l.initial.priority (held (take l.line-index l.lines))) × (l.privileged ≡ stored (is_kind kind_t) (number_of 0) (number_of 3) l.initial.privileged (held (take l.line-index l.lines))) × (l.activation ≡ stored (is_kind kind_t) (number_of 0) (number_of 4) l.initial.activation (held (take l.line-index l.lines)))
