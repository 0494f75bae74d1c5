-- What queueing a flag and taking the last off give.
use Rattle.std.specs.Prelude.{◌≡◌, [], ◌∷◌, ◌+◌, ◌≤◌, ℕ, Option, None, Some}
use Rattle.rules.specs.Serving.{push}
use Rattle.exec_queue.specs.declared.Queue.{Queue}
use Rattle.exec_queue.specs.View.{entries_of}

-- a flag and value are queued, and the queue has grown by at most one
pub record Pushed (q : Queue) (f v : ℕ) (r : Queue) : Type 0 where
  pub is : entries_of r ≡ push f v (entries_of q)
  pub more : r.n ≤ q.n + 1

-- the last queued is taken off; nothing is, of an empty queue
abbrev pub Popped : Queue → Option (ℕ × ℕ) → Queue → Type 0
Popped q None r = (entries_of q ≡ []) × (r ≡ q)
Popped q (Some e) r = (entries_of q ≡ (record { flag = e.0; value = e.1 } ∷ entries_of r)) × (q.n ≡ r.n + 1)
