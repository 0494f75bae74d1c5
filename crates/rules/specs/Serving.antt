-- SERVING: how a task is activated, and what serving the queued flags does.
use Rattle.std.specs.Prelude.{Bool, cond, ◌&&◌, List, [], ◌∷◌, ℕ, zero, suc, ◌+◌, eqb, ltb, length, set}
use Rattle.laws.specs.Iter.{iter}
use Rattle.laws.specs.Tables.{over}
use Rattle.rules.specs.Sizes.{most_tasks}
use Rattle.rules.specs.Rig.{Rig, is_minor}
use Rattle.rules.specs.State.{Chain, chain_of, with_chain, State, Entry, Work, Done, state_of, overruns_of, with_values, with_tables, with_chains, with_overruns, active, inactive, waiting, dispatchable, on}
use Rattle.rules.specs.Conditions.{relax, met, drive, names}

-- "queued"; activation flag 0 is none, and queues nothing
abbrev pub push : ℕ → ℕ → List Entry → List Entry
push zero v q = q
push (suc f) v q = record { flag = suc f; value = v } ∷ q

-- "Activate: dispatchable, unlatched conditions undesired again, its activation flag queued on."
unfoldable pub activate : Rig → ℕ → Work → Work
activate r t w =
    record {
      now =
          with_tables w.now
          (relax r.present r.latched r.desired t w.now.conds)
          (set w.now.states t dispatchable);
      queue = push (r.activation t) on w.queue;
    }

-- ---- L6: "Each task gains a number of overruns"

-- "services of a minor-cycle flag in one of its conditions with the task already active before": flag f is served, s is the state
-- before that service
unfoldable pub too_soon : Rig → ℕ → State → ℕ → Bool
too_soon r f s t =
    eqb (active (state_of s t)) on && (names r.lines r.line_task r.line_flag t f && is_minor r.minor f)

-- "It stops at 65,535."
unfoldable pub most_overruns : ℕ
most_overruns = 65535

unfoldable pub more_by_one : ℕ → ℕ
more_by_one n = cond (ltb n most_overruns) (suc n) n

-- of task i + 1: a service counts once, however many of its conditions have the flag
abbrev pub overrun_one : Rig → ℕ → State → ℕ → List ℕ → List ℕ
overrun_one r f s i l = cond (too_soon r f s (i + 1)) (set l (i + 1) (more_by_one (overruns_of s (i + 1)))) l

-- the numbers of all tasks after the service
unfoldable pub overrun : Rig → ℕ → State → List ℕ
overrun r f s = iter most_tasks (overrun_one r f s) s.overruns

-- ---- serving

-- "Serving: the last queued is taken off first. The flag takes the value; every condition with that flag takes it"; and those whose
-- start comes too soon are counted
unfoldable pub takes : Rig → Entry → State → State
takes r e s =
    with_overruns
    (with_values s
    (set s.flags e.flag e.value)
    (drive r.lines r.line_task r.line_pos r.line_flag e.flag e.value s.conds))
    (overrun r e.flag s)

-- "tasks waiting on that flag and value become dispatchable": all of a chain, which is then empty
unfoldable pub rouse : List ℕ → List ℕ → List ℕ
rouse [] states = states
rouse (t ∷ ts) states = rouse ts (set states t dispatchable)

unfoldable pub wake : Chain → State → State
wake c s = with_chains s (rouse (s.chains c) s.states) (with_chain s.chains c [])

-- "then, by rising number, each inactive task with that flag in a condition and all conditions as desired is activated"
unfoldable pub ready : Rig → ℕ → ℕ → State → Bool
ready r f t s = names r.lines r.line_task r.line_flag t f && met r.present r.desired t s.conds

unfoldable pub offer : Rig → ℕ → ℕ → Work → Work
offer r f t w = cond (eqb (state_of w.now t) inactive && ready r f t w.now) (activate r t w) w

abbrev pub offer_next : Rig → ℕ → ℕ → Work → Work
offer_next r f i w = offer r f (i + 1) w

-- tasks 1 to k
unfoldable pub offers : Rig → ℕ → ℕ → Work → Work
offers r f k w = iter k (offer_next r f) w

-- one flag is served, with q queued behind it
unfoldable pub serve_flag : Rig → Entry → State → List Entry → Work
serve_flag r e s q =
    offers r e.flag most_tasks (record { now = wake (chain_of e.flag e.value) (takes r e s); queue = q })

-- ---- L2: "Serving a flag must also answer how many waiting tasks it made dispatchable and how many it activated"

-- by the tasks' states before and after: how many were a, and are dispatchable
unfoldable pub made : ℕ → List ℕ → List ℕ → ℕ
made a [] after = 0
made a (x ∷ before) [] = 0
made a (x ∷ before) (y ∷ after) = cond (eqb x a && eqb y dispatchable) 1 0 + made a before after

-- "how many waiting tasks it made dispatchable": the service that led from s to w
abbrev pub woken_by : State → Work → ℕ
woken_by s w = made waiting s.states w.now.states

-- "and how many it activated": an inactive task becomes dispatchable by activation alone
abbrev pub activated_by : State → Work → ℕ
activated_by s w = made inactive s.states w.now.states

-- one service more: the numbers are "added over all services of a call"
abbrev pub another : ℕ → ℕ → Done → Done
another woken activated d =
    record { now = d.now; served = suc d.served; woken = woken + d.woken; activated = activated + d.activated }

-- nothing was served
abbrev pub unserved : State → Done
unserved s = record { now = s; served = 0; woken = 0; activated = 0 }

-- "This goes on until the queue is empty." The number k only bounds how many are served: `serve` gives one that never
-- cuts it short (theorems serve_nil and serve_cons).
unfoldable pub serving : Rig → ℕ → State → List Entry → Done
serving r zero s q = unserved s
serving r (suc k) s [] = unserved s
serving r (suc k) s (e ∷ q) =
    let w = serve_flag r e s q in
    another (woken_by s w) (activated_by s w) (serving r k w.now w.queue)

-- how many tasks are inactive
abbrev pub is_inactive : ℕ → ℕ
is_inactive zero = 0
is_inactive (suc zero) = 1
is_inactive (suc (suc n)) = 0

abbrev pub inactives : List ℕ → ℕ
inactives states = over is_inactive states

unfoldable pub serve : Rig → Work → Done
serve r w = serving r (length w.queue + inactives w.now.states) w.now w.queue
