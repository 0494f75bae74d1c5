-- What a wait asks, and what it gives: each the rule of its name.
use Rattle.std.specs.Prelude.{◌≡◌, ℕ, ◌<◌, ◌≤◌}
use Rattle.chains.specs.Held.{at, HoldsChains}
use Rattle.rules.specs.Waiting.{wait_on, wait_until_count}
use Rattle.exec_state.specs.View.{view_of}
use Rattle.exec_state.specs.declared.State.{State}

-- there is a running task, and it is in no chain
pub record MayWait (s : State) : Type 0 where
  pub sound : HoldsChains s.links
  pub some : 0 < s.running
  pub task : s.running ≤ 64
  pub idle : at s.links.on s.running ≡ 0

pub record WaitsOn (s : State) (f v : ℕ) (r : State) : Type 0 where
  pub is : view_of r ≡ wait_on (view_of s) f v
  pub sound : HoldsChains r.links

pub record WaitsUntil (s : State) (count : ℕ) (r : State) : Type 0 where
  pub is : view_of r ≡ wait_until_count (view_of s) count
  pub sound : HoldsChains r.links
