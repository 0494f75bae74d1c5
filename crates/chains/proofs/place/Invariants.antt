-- `chains::place` meets its contract: the search goes through the chain from in front, up to the first later waking count.
use mathlib.Core.List.{List}
use Prim.Native.Nat.{ℕ, ◌≤◌}
use lib.ListN.{length}
use Rattle.chains.specs.Ops.{walk}
use Rattle.chains.specs.Held.{at, Held, Scan}
use Rattle.chains.proofs.place.Given as goal

-- the waking count is at most that of t
abbrev pub earlier : List ℕ → ℕ → ℕ → Type 0
earlier wake t a = at wake a ≤ at wake t

abbrev pub invariant-loop-v : goal.invariant-loop-v
invariant-loop-v l = (X : ℕ → List ℕ) → Held l.l X → Scan (earlier l.wake l.t) l.s l.u l.v (X l.s)

abbrev pub decreases-loop-v : goal.decreases-loop-v
decreases-loop-v l = length (walk (at l.l.next) 64 64 l.u)
