use Rattle.std.specs.Prelude.{◌-◌, length}
use Rattle.rig_lines.specs.Kind.{kind_number}
use Rattle.rig_read.proofs.Inv.{InLines, InFields}
use Rattle.rig_read.proofs.read_lines.Given as goal

abbrev pub invariant-fields : goal.invariant-fields
invariant-fields l = InFields l.s l.held l.n l.count l.prev l.at l.e l.q (kind_number l.kind) l.m l.v l.p l.f

abbrev pub invariant-lines : goal.invariant-lines
invariant-lines l = InLines l.s l.held l.n (length l.held) l.prev l.at

abbrev pub decreases-fields : goal.decreases-fields
decreases-fields l = l.e - l.p

abbrev pub decreases-lines : goal.decreases-lines
decreases-lines l = l.n - l.at
