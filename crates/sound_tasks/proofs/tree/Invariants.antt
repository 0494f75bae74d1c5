use mathlib.Core.Path.{◌≡◌}
use mathlib.Core.Bool.{true}
use Prim.Native.Nat.{◌+◌, ◌≤◌}
use Rattle.laws.specs.All.{all}
use Rattle.sound_tables.specs.Tests.{tree_one}
use Rattle.sound_tasks.proofs.tree.Given as goal

abbrev pub invariant-loop-t : goal.invariant-loop-t
invariant-loop-t l = (all l.t (tree_one l.controller l.states) ≡ true) × (l.t ≤ l.many + 1)
