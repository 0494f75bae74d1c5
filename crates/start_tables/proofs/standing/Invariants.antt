use mathlib.Core.Path.{◌≡◌}
use mathlib.Core.Bool.{true}
use lib.ListN.{replicate}
use Rattle.laws.specs.Bits.{bit}
use Rattle.laws.specs.Iter.{iter}
use Rattle.laws.specs.Stores.{store_one}
use Rattle.start_tests.specs.Tables.{stands_at}
use Rattle.start_tables.proofs.standing.Given as goal

abbrev pub invariant-loop-i : goal.invariant-loop-i
invariant-loop-i l = l.table ≡ iter l.i (store_one (λ k. true) (λ k. k) (λ k. bit (stands_at l.rig.present l.rig.desired l.cond k))) (replicate 1040 0)
