use Rattle.std.specs.Prelude.{◌≡◌, ◌≤◌, length}
use Rattle.rig_held.specs.Held.{held, Begins}
use Rattle.rig_build.specs.Bytes.{lines_in, known}
use Rattle.rig_build.proofs.known_in.Given as goal

abbrev pub invariant-loop-i : goal.invariant-loop-i
invariant-loop-i l = (held l.held ≡ known (lines_in l.lines l.i)) × (length l.held ≤ l.i) × (1 ≤ l.i → Begins l.held)
