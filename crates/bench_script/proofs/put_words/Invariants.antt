use Prim.Native.Nat.{◌≤◌}
use lib.ListN.{length}
use Rattle.bench_script.specs.Laws.Written.{Listing}
use Rattle.bench_script.proofs.put_words.Given as goal

abbrev pub invariant-loop-w : goal.invariant-loop-w
invariant-loop-w l = Listing l.initial.out l.at l.words l.out l.p l.w-index × (l.w-index ≤ length l.words)
