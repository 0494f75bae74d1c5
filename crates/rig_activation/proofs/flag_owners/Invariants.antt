use mathlib.Core.Path.{◌≡◌}
use Prim.Native.Nat.{◌≤◌}
use lib.ListN.{replicate}
use Rattle.laws.specs.Iter.{iter}
use Rattle.laws.specs.Owners.{own_one}
use Rattle.rig_tables.specs.Tests.{at}
use Rattle.rig_activation.proofs.flag_owners.Given as goal

abbrev pub invariant-loop-t : goal.invariant-loop-t
invariant-loop-t l = (l.table ≡ iter l.t (own_one (at l.activation)) (replicate 129 0)) × (l.t ≤ 65)
