-- What serving a queue to its end leaves and tells.
use Rattle.std.specs.Prelude.{ℕ}
use Rattle.exec_state.specs.declared.State.{State}
use Rattle.exec_serving.specs.declared.Served.{Served}

-- a state, how many flags were served on the way to it, how many waiting tasks that made dispatchable, and how many inactive ones it
-- activated
pub record Done : Type 0 where
  pub st : State
  pub served : ℕ
  pub woken : ℕ
  pub activated : ℕ

-- the state, and beside it the numbers that are told
abbrev pub done_with : State → Served → Done
done_with s r = record { st = s; served = r.served; woken = r.woken; activated = r.activated }
