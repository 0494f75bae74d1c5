use Rattle.std.specs.Prelude.{◌≡◌, ◌≤◌, take}
use Rattle.rig_lines.specs.Kind.{kind_number}
use Rattle.rig_lines.specs.Whole.{is_kind, how_many}
use Rattle.rig_held.specs.Held.{held}
use Rattle.rig_held.proofs.how_many.Given as goal

abbrev pub invariant-loop-line : goal.invariant-loop-line
invariant-loop-line l = (l.c ≤ l.line-index) × (l.c ≡ how_many (is_kind (kind_number l.kind)) (held (take l.line-index l.lines)))
