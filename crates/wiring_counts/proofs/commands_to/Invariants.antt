use Prim.Native.Nat.{◌≤◌}
use lib.ListN.{length}
use Rattle.wiring_counts.specs.Laws.{Counted}
use Rattle.wiring_counts.proofs.commands_to.Given as goal

abbrev pub invariant-loop-word : goal.invariant-loop-word
invariant-loop-word l = Counted l.address l.words l.n l.word-index × (l.n ≤ l.word-index) × (l.word-index ≤ length l.words)
