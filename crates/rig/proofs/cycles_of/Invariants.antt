use mathlib.Core.Path.{◌≡◌}
use Prim.Native.Nat.{◌≤◌}
use mathlib.Core.List.{[]}
use lib.ListN.{length}
use Rattle.laws.specs.Mapped.{Mapped}
use Rattle.rig.specs.Forms.{cycle_of}
use Rattle.rig.proofs.cycles_of.Given as goal

abbrev pub invariant-loop-c : goal.invariant-loop-c
invariant-loop-c l = Mapped cycle_of [] l.table l.c l.cycles × ((length l.table ≡ 64) × (l.c ≤ 64))
