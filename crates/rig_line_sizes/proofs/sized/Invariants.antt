use Rattle.std.specs.Prelude.{◌≡◌, ◌≤◌, length, drop, take}
use Rattle.rig_lines.specs.Kind.{kind_number}
use Rattle.rig_lines.specs.Line.{fits}
use Rattle.rig_line_sizes.proofs.sized.Given as goal

abbrev pub invariant-loop-j : goal.invariant-loop-j
invariant-loop-j l = (l.m ≤ length l.v) × (fits (kind_number l.kind) l.j (drop l.j (take l.m l.v)) ≡ fits (kind_number l.kind) 0 (take l.m l.v))
