-- What a call has done before its queue is served.
use Rattle.exec_queue.specs.declared.Queue.{Queue}
use Rattle.exec_state.specs.declared.State.{State}

-- a state, and what is queued
pub record Work : Type 0 where
  pub st : State
  pub queue : Queue
