use mathlib.Core.Path.{◌≡◌}
use Prim.Native.Nat.{◌≤◌}
use lib.ListN.{length}
use Rattle.laws.specs.Mapped.{Mapped}
use Rattle.rig.specs.Rules.{no_cycle}
use Rattle.rig.specs.Forms.{cycle_flags}
use Rattle.rig.proofs.table_of.Given as goal

abbrev pub invariant-loop-c : goal.invariant-loop-c
invariant-loop-c l = Mapped cycle_flags no_cycle l.cycles l.c l.table × ((length l.cycles ≡ 64) × (l.c ≤ 64))
