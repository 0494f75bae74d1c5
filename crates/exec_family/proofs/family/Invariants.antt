use mathlib.Core.Path.{◌≡◌}
use lib.ListN.{length, replicate}
use Rattle.laws.specs.Iter.{iter}
use Rattle.chains.specs.Held.{at}
use Rattle.rules.specs.Family.{mark_one}
use Rattle.exec_family.proofs.family.Given as goal

abbrev pub invariant-loop-i : goal.invariant-loop-i
invariant-loop-i l = (l.marks ≡ iter l.i (mark_one (at l.controller) l.t) (replicate 65 0)) × (length l.marks ≡ 65)
