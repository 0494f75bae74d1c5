-- STARTS THAT CAME TOO SOON, COUNTED FROM THE HISTORY (L6). A task's number of overruns "equals the smaller of that stop and the number
-- counted from the history since the last schedule" (theorem counted_since, crate rules_laws; of the code's records: crate runs).
-- The history is read off the serving of each accepted call. What is counted looks at the flag, the conditions and the tasks' states:
-- neither at the numbers in the record, nor at how a service changes them.
use Rattle.std.specs.Prelude.{◌≡◌, cond, List, [], ◌∷◌, ℕ, zero, suc, ◌+◌, ◌<◌, eqb, length}
use Rattle.rules.specs.Rig.{Rig}
use Rattle.rules.specs.State.{State, Entry, Work, Done, state_of, active, on, blank}
use Rattle.rules.specs.Serving.{too_soon, serve_flag, inactives, serve}
use Rattle.rules.specs.Calls.{Call, schedule, cancel, terminate, finish, tick, wait_until, wait_for, latched, unlatched, signal, read_flag, read_block, write_block, next_waking, read_overruns, why_not, effect, ended, tested, scheduled, refusal, step, start}
use Rattle.rules.specs.Reasons.{MinorCycleFlag}

-- ---- one overrun, in words

-- task t has "that flag in a condition": an A line names both
abbrev pub InACondition : Rig → ℕ → ℕ → Type 0
InACondition r f t = (k : ℕ) × (k < r.lines) × (r.line_task k ≡ t) × (r.line_flag k ≡ f)

-- the service of flag f, with the state s before it, is "of a minor-cycle flag in one of its conditions with the task already active
-- before": task t's (that `too_soon` tests this: theorem too_soon_lem, crate rules_laws)
pub record TooSoon (r : Rig) (f : ℕ) (s : State) (t : ℕ) : Type 0 where
  pub minor : MinorCycleFlag r f
  pub named : InACondition r f t
  pub already : active (state_of s t) ≡ on

-- ---- the history

-- what happens: a task is scheduled; an entry is served, with the state before that
pub data Event : Type 0 where
  scheduling : ℕ → Event
  service : State → Entry → Event

-- what was served in a serving, each with the state before it; the latest stands first, and what happened before, h, behind
unfoldable pub serving_events : Rig → ℕ → State → List Entry → List Event → List Event
serving_events r zero s q h = h
serving_events r (suc k) s [] h = h
serving_events r (suc k) s (e ∷ q) h =
    let w = serve_flag r e s q in
    serving_events r k w.now w.queue (service s e ∷ h)

unfoldable pub serve_events : Rig → Work → List Event → List Event
serve_events r w h = serving_events r (length w.queue + inactives w.now.states) w.now w.queue h

-- what was served after a task was tested again
unfoldable pub again_events : Rig → ℕ → Done → List Event → List Event
again_events r zero d h = h
again_events r (suc t) d h = serve_events r (tested r (suc t) d.now) h

unfoldable pub scheduling_of : Call → List Event → List Event
scheduling_of (schedule t) h = scheduling t ∷ h
scheduling_of (cancel t) h = h
scheduling_of (terminate t) h = h
scheduling_of finish h = h
scheduling_of (tick buffer) h = h
scheduling_of (wait_until t) h = h
scheduling_of (wait_for n) h = h
scheduling_of (latched f v) h = h
scheduling_of (unlatched f v) h = h
scheduling_of (signal f v) h = h
scheduling_of (read_flag f) h = h
scheduling_of (read_block k area buffer) h = h
scheduling_of (write_block k area buffer) h = h
scheduling_of next_waking h = h
scheduling_of (read_overruns t) h = h
scheduling_of (why_not t d) h = h

-- an accepted call
unfoldable pub accepted_events : Rig → State → Call → List Event → List Event
accepted_events r s k h =
    let w = effect r s k in
    again_events r (ended s k) (serve r w) (serve_events r w (scheduling_of k h))

-- nothing happens by a refused call
unfoldable pub events_if : ℕ → Rig → State → Call → List Event → List Event
events_if zero r s k h = accepted_events r s k h
events_if (suc n) r s k h = h

unfoldable pub events_from : Rig → State → List Call → List Event → List Event
events_from r s [] h = h
events_from r s (k ∷ ks) h = events_from r (step r s k).next ks (events_if (refusal r s k) r s k h)

-- of a run from the start, by which task 1 is scheduled
unfoldable pub start_events : Rig → List Event
start_events r = serve_events r (scheduled r blank 1) (scheduling 1 ∷ [])

unfoldable pub events_of : Rig → List Call → List Event
events_of r ks = events_from r (start r) ks (start_events r)

-- ---- what is counted

-- "the number counted from the history since the last schedule" of task t
unfoldable pub overruns_counted : Rig → ℕ → List Event → ℕ
overruns_counted r t [] = 0
overruns_counted r t (scheduling u ∷ h) = cond (eqb u t) 0 (overruns_counted r t h)
overruns_counted r t (service s e ∷ h) = cond (too_soon r e.flag s t) (suc (overruns_counted r t h)) (overruns_counted r t h)
