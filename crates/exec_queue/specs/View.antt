-- What the rules see of a minor cycle's list and of the queue.
use Rattle.std.specs.Prelude.{[], List, ◌∷◌, get_or, ℕ, zero, suc}
use Rattle.chains.specs.Held.{at}
use Rattle.rig.specs.Rules.{no_cycle}
use Rattle.rig.specs.declared.Cycle.{Cycle}
use Rattle.rules.specs.State.{Entry}
use Rattle.exec_queue.specs.declared.Queue.{Queue}

-- the flag at a place of a cycle's list
abbrev pub minor_of : List Cycle → ℕ → ℕ → ℕ
minor_of cycles c = at (get_or cycles c no_cycle).flags

-- the queue, the last queued first
unfoldable pub entries : List (ℕ × ℕ) → ℕ → List Entry
entries l zero = []
entries l (suc n) = record { flag = (get_or l n (0, 0)).0; value = (get_or l n (0, 0)).1 } ∷ entries l n

abbrev pub entries_of : Queue → List Entry
entries_of q = entries q.entries q.n
