use mathlib.Core.Path.{◌≡◌}
use mathlib.Core.Bool.{true}
use Prim.Native.Nat.{◌+◌, ◌≤◌}
use Rattle.laws.specs.All.{all}
use Rattle.sound_tables.specs.Tests.{flag_of_one}
use Rattle.sound_tasks.proofs.flags.Given as goal

abbrev pub invariant-loop-t : goal.invariant-loop-t
invariant-loop-t l = (all l.t (flag_of_one l.activation l.states l.values) ≡ true) × (l.t ≤ l.many + 1)
