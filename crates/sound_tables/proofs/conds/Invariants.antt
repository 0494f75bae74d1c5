use Prim.Native.Nat.{◌≤◌}
use Rattle.laws.specs.All.{Passed}
use Rattle.sound_tables.specs.Tests.{cond_one}
use Rattle.sound_tables.proofs.conds.Given as goal

abbrev pub invariant-loop-i : goal.invariant-loop-i
invariant-loop-i l = Passed l.bad l.i (cond_one l.present l.conds) × (l.i ≤ 1040)
