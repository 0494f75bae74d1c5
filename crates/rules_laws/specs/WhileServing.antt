-- What a serving comes through, and what a call does.
use Rattle.std.specs.Prelude.{◌≢◌, List, ◌∷◌, ℕ}
use Rattle.rules.specs.Rig.{Rig}
use Rattle.rules.specs.State.{State, Work, Entry}
use Rattle.rules.specs.Serving.{serve_flag, serve}
use Rattle.rules.specs.Calls.{tested}

-- what is served first is taken off, again and again
pub data Reached (r : Rig) (w : Work) : Work → Type 0 where
  begin : Reached r w w
  onward : (s : State) (e : Entry) (q : List Entry) → Reached r w (record { now = s; queue = e ∷ q }) → Reached r w (serve_flag r e s q)

-- what was queued is served; and where the call ended a task t, L3: "once the queue is empty, that task is tested again" and "its flag is then
-- served on"
pub data Through (r : Rig) (t : ℕ) (w : Work) : Work → Type 0 where
  queued : (x : Work) → Reached r w x → Through r t w x
  afterwards : (x : Work) → t ≢ 0 → Reached r (tested r t (serve r w).now) x → Through r t w x
