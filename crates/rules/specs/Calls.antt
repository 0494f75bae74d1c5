-- THE CALLS: what each does, what each refuses, what each answers; steps, runs and the start.
use Rattle.std.specs.Prelude.{Bool, true, false, not, cond, ◌&&◌, ◌||◌, List, [], ◌∷◌, ℕ, zero, suc, ◌+◌, ◌%◌, leb, ltb, eqb, length, set}
use Rattle.laws.specs.Iter.{iter}
use Rattle.laws.specs.Put.{put}
use Rattle.rules.specs.Sizes.{minor_cycles, flags_a_cycle, tick_words}
use Rattle.rules.specs.Rig.{Rig, is_minor, not_plain}
use Rattle.rules.specs.State.{State, Entry, Work, Done, state_of, value_of, overruns_of, with_count, with_tables, with_chains, with_overruns, with_running, active, on, off, uninvoked, inactive, blank}
use Rattle.rules.specs.Conditions.{relax, met}
use Rattle.rules.specs.Serving.{push, activate, serve}
use Rattle.rules.specs.Waiting.{wait_on, wait_until_count, leave, wake_due}
use Rattle.rules.specs.Family.{family, cleared, deserted, offs}
use Rattle.rules.specs.Running.{dispatch}
use Rattle.rules.specs.Bus.{area_words, block_words, written, copied, bus_words}
use Rattle.rules.specs.NextWaking.{lowest_waking}
use Rattle.rules.specs.Starting.{most_links, lowest_blocking}

-- Every call that the paper has on a record, and the questions that customers asked for later. A value is 0 or 1; a list is what a
-- lent buffer holds.
--   tick: its buffer; read_block, write_block: row, area, the caller's buffer
--   next_waking: "When does the bench next wake someone?"
--   read_overruns: how many of a task's starts came too soon
--   why_not: "Why won't it start?", of a task and within how many links
pub data Call : Type 0 where
  schedule cancel terminate : ℕ → Call
  finish : Call
  tick : List ℕ → Call
  wait_until wait_for : ℕ → Call
  latched unlatched signal : ℕ → ℕ → Call
  read_flag : ℕ → Call
  read_block write_block : ℕ → List ℕ → List ℕ → Call
  next_waking : Call
  read_overruns : ℕ → Call
  why_not : ℕ → ℕ → Call

-- which calls are ticks
unfoldable pub is_tick : Call → Bool
is_tick (schedule t) = false
is_tick (cancel t) = false
is_tick (terminate t) = false
is_tick finish = false
is_tick (tick buffer) = true
is_tick (wait_until t) = false
is_tick (wait_for n) = false
is_tick (latched f v) = false
is_tick (unlatched f v) = false
is_tick (signal f v) = false
is_tick (read_flag f) = false
is_tick (read_block k area buffer) = false
is_tick (write_block k area buffer) = false
is_tick next_waking = false
is_tick (read_overruns t) = false
is_tick (why_not t d) = false

-- ---- what each call does before its queue is served

-- a state with nothing queued
abbrev pub quiet : State → Work
quiet s = record { now = s; queue = [] }

-- A task is tested: inactive, "if all conditions are as desired, none included, the task is activated"
unfoldable pub tested : Rig → ℕ → State → Work
tested r t s =
    cond (eqb (state_of s t) inactive && met r.present r.desired t s.conds) (activate r t (quiet s)) (quiet s)

-- "Schedule: unlatched conditions take the undesired value; inactive"; and of its overruns (L6): "Schedule sets it to 0; cancel,
-- terminate and finish keep it."
abbrev pub as_scheduled : Rig → State → ℕ → State
as_scheduled r s t =
    with_overruns
    (with_tables s (relax r.present r.latched r.desired t s.conds) (set s.states t inactive))
    (set s.overruns t 0)

-- ".. if all conditions are as desired, none included, the task is activated."
unfoldable pub scheduled : Rig → State → ℕ → Work
scheduled r s t = tested r t (as_scheduled r s t)

-- "Finish (the running task): inactive, activation flag queued off."
unfoldable pub finished : Rig → State → Work
finished r s =
    record {
      now = with_running (with_tables s s.conds (set s.states s.running inactive)) 0;
      queue = push (r.activation s.running) off [];
    }

-- "Terminate: the same for the named active task, taken out of any chain."
unfoldable pub terminated : Rig → State → ℕ → Work
terminated r s t =
    record {
      now = with_chains s (set s.states t inactive) (leave t s.chains);
      queue = push (r.activation t) off [];
    }

-- "Cancel: the named task and all its descendants become uninvoked and leave their chains; then activation flags of
-- those that were active are queued off, by rising task number."
unfoldable pub cancelled : Rig → State → ℕ → Work
cancelled r s t =
    let marks = family r.controller t in
    record {
      now = with_chains s (cleared marks s.states) (deserted marks s.chains);
      queue = offs r.activation marks s.states;
    }

-- "the M list of cycle (count modulo 64) is queued, each flag on, in file order"
abbrev pub queue_one : (ℕ → ℕ) → ℕ → List Entry → List Entry
queue_one flags i q = push (flags i) on q

unfoldable pub cycle_queue : (ℕ → ℕ) → List Entry
cycle_queue flags = iter flags_a_cycle (queue_one flags) []

-- "In this order: the count rises by one; tasks due at it become dispatchable; the M list .. is queued"
unfoldable pub ticked : Rig → State → Work
ticked r s =
    let count = suc s.count in
    record { now = wake_due (with_count s count); queue = cycle_queue (r.minor (count % minor_cycles)) }

unfoldable pub effect : Rig → State → Call → Work
effect r s (schedule t) = scheduled r s t
effect r s (cancel t) = cancelled r s t
effect r s (terminate t) = terminated r s t
effect r s finish = finished r s
effect r s (tick buffer) = ticked r s
-- "if the waking count is at or below the count, no wait; else waiting"
effect r s (wait_until t) = quiet (cond (leb t s.count) s (wait_until_count s t))
effect r s (wait_for n) = quiet (cond (leb (s.count + n) s.count) s (wait_until_count s (s.count + n)))
-- "Latched wait for a flag's value: no wait if it has it. Unlatched: always waits for the next service of that flag with
-- that value."
effect r s (latched f v) = quiet (cond (eqb (value_of s f) v) s (wait_on s f v))
effect r s (unlatched f v) = quiet (wait_on s f v)
-- "Signal: the flag and value are queued."
effect r s (signal f v) = record { now = s; queue = push f v [] }
effect r s (read_flag f) = quiet s
effect r s (read_block k area buffer) = quiet s
effect r s (write_block k area buffer) = quiet s
effect r s next_waking = quiet s
effect r s (read_overruns t) = quiet s
effect r s (why_not t d) = quiet s

-- ---- L3: what is queued is served, and "after finish and terminate" there is more

-- "that task": the one that finished, or was terminated; 0 for none
unfoldable pub ended : State → Call → ℕ
ended s (schedule t) = 0
ended s (cancel t) = 0
ended s (terminate t) = t
ended s finish = s.running
ended s (tick buffer) = 0
ended s (wait_until t) = 0
ended s (wait_for n) = 0
ended s (latched f v) = 0
ended s (unlatched f v) = 0
ended s (signal f v) = 0
ended s (read_flag f) = 0
ended s (read_block k area buffer) = 0
ended s (write_block k area buffer) = 0
ended s next_waking = 0
ended s (read_overruns t) = 0
ended s (why_not t d) = 0

-- a serving after another: their numbers are added
abbrev pub further : Done → Done → Done
further d e =
    record {
      now = e.now;
      served = d.served + e.served;
      woken = d.woken + e.woken;
      activated = d.activated + e.activated;
    }

-- "once the queue is empty, that task is tested again and activated if it is still inactive with all conditions as desired; its
-- flag is then served on." Once is enough: a serving makes nobody inactive, and leaves nobody inactive with all conditions as desired
-- who was not so before it (theorem nobody_left).
unfoldable pub again : Rig → ℕ → Done → Done
again r zero d = d
again r (suc t) d = further d (serve r (tested r (suc t) d.now))

unfoldable pub settled : Rig → State → Call → Done
settled r s k = again r (ended s k) (serve r (effect r s k))

-- ---- what each call refuses

-- a row of the refusal table: the number, and whether it is to be given
pub record Refusal : Type 0 where
  pub number : ℕ
  pub given : Bool

-- "the smallest number" of a table that rises: the first that is to be given; 0 for none
unfoldable pub decide : List Refusal → ℕ
decide [] = 0
decide (x ∷ xs) = cond x.given x.number (decide xs)

abbrev pub row : ℕ → Bool → Refusal
row n given = record { number = n; given = given }

-- 5: "any call on a record but the tick .., while no task is running"
abbrev pub nobody_runs : State → Bool
nobody_runs s = eqb s.running 0

-- 6: "no such task, flag or row": numbers run from 1
unfoldable pub no_such_one : ℕ → ℕ → Bool
no_such_one many n = eqb n 0 || ltb many n

-- 7: "caller is not the named task's controller". The caller is the running task.
abbrev pub not_controller : Rig → State → ℕ → Bool
not_controller r s t = not (eqb (r.controller t) s.running)

-- 8: "schedule of an invoked task, cancel of an uninvoked one, terminate of one not active"
abbrev pub is_uninvoked : State → ℕ → Bool
is_uninvoked s t = eqb (state_of s t) uninvoked

abbrev pub is_invoked : State → ℕ → Bool
is_invoked s t = not (is_uninvoked s t)

abbrev pub not_active : State → ℕ → Bool
not_active s t = eqb (active (state_of s t)) 0

-- and (L13) "if the task isn't inactive"
abbrev pub not_inactive : State → ℕ → Bool
not_inactive s t = not (eqb (state_of s t) inactive)

-- 9: "waking count above 2,147,483,647; tick at that count"
unfoldable pub last_count : ℕ
last_count = 2147483647

-- 10: "a lent buffer has not the length that this paper states for it": of a tick "at least 128 words"; the area "has
-- exactly 33 words a row; the caller's buffer has exactly the row's words"
unfoldable pub wrong_block : Rig → ℕ → List ℕ → List ℕ → Bool
wrong_block r k area buffer = not (eqb (length area) (area_words r)) || not (eqb (length buffer) (block_words r k))

-- the rows of the table that a call can meet, in the table's order (12, a record that is not sound, comes before them)
unfoldable pub refusals : Rig → State → Call → List Refusal
refusals r s (schedule t) =
    row 5 (nobody_runs s) ∷ row 6 (no_such_one r.tasks t) ∷ row 7 (not_controller r s t) ∷ row 8 (is_invoked s t) ∷ []
refusals r s (cancel t) =
    row 5 (nobody_runs s) ∷ row 6 (no_such_one r.tasks t) ∷ row 7 (not_controller r s t) ∷ row 8 (is_uninvoked s t) ∷ []
refusals r s (terminate t) =
    row 5 (nobody_runs s) ∷ row 6 (no_such_one r.tasks t) ∷ row 7 (not_controller r s t) ∷ row 8 (not_active s t) ∷ []
refusals r s finish = row 5 (nobody_runs s) ∷ []
refusals r s (tick buffer) = row 9 (leb last_count s.count) ∷ row 10 (ltb (length buffer) tick_words) ∷ []
refusals r s (wait_until t) = row 5 (nobody_runs s) ∷ row 9 (ltb last_count t) ∷ []
refusals r s (wait_for n) = row 5 (nobody_runs s) ∷ row 9 (ltb last_count (s.count + n)) ∷ []
refusals r s (latched f v) = row 5 (nobody_runs s) ∷ row 6 (no_such_one r.flags f) ∷ row 7 (is_minor r.minor f) ∷ []
refusals r s (unlatched f v) = row 5 (nobody_runs s) ∷ row 6 (no_such_one r.flags f) ∷ row 7 (is_minor r.minor f) ∷ []
refusals r s (signal f v) = row 5 (nobody_runs s) ∷ row 6 (no_such_one r.flags f) ∷ row 7 (not_plain r f) ∷ []
refusals r s (read_flag f) = row 5 (nobody_runs s) ∷ row 6 (no_such_one r.flags f) ∷ row 7 (is_minor r.minor f) ∷ []
refusals r s (read_block k area buffer) =
    row 5 (nobody_runs s) ∷ row 6 (no_such_one r.rows k) ∷ row 10 (wrong_block r k area buffer) ∷ []
refusals r s (write_block k area buffer) =
    row 5 (nobody_runs s) ∷ row 6 (no_such_one r.rows k) ∷ row 10 (wrong_block r k area buffer) ∷ []
-- "No running task is needed. Refusals: 12 alone."
refusals r s next_waking = []
-- "A call reads it for any task, with no running task needed. Refusals: 12, then 6."
refusals r s (read_overruns t) = row 6 (no_such_one r.tasks t) ∷ []
-- "It needs no running task. Refusals: 12, then 6, then 8 if the task isn't inactive, then 11 for d above 3."
refusals r s (why_not t d) = row 6 (no_such_one r.tasks t) ∷ row 8 (not_inactive s t) ∷ row 11 (ltb most_links d) ∷ []

unfoldable pub refusal : Rig → State → Call → ℕ
refusal r s k = decide (refusals r s k)

-- ---- what each call answers and writes

-- served: "the number of flags it served"; woken, activated (L2): "how many waiting tasks" the services "made dispatchable and how many"
-- they "activated"; words: how many bus words a tick wrote; value: of the flag that was read, or the number that a question is answered by
pub record Report : Type 0 where
  pub served : ℕ
  pub woken : ℕ
  pub activated : ℕ
  pub words : ℕ
  pub value : ℕ

-- code: 0 accepted, else the refusal's number
pub record Answer : Type 0 where
  pub code : ℕ
  pub report : Report

-- L2: "a refusal shows 0 and 0"
abbrev pub nothing : Report
nothing = record { served = 0; woken = 0; activated = 0; words = 0; value = 0 }

-- no flag was served, and this number is the answer
abbrev pub value_only : ℕ → Report
value_only n = record { served = 0; woken = 0; activated = 0; words = 0; value = n }

-- what is told of the flags that were served, and of what a call puts out beside that
abbrev pub reported : Done → ℕ → ℕ → Report
reported d words value = record { served = d.served; woken = d.woken; activated = d.activated; words = words; value = value }

-- the bus words of a tick that made the count
unfoldable pub words_at : Rig → ℕ → List ℕ
words_at r count = bus_words r.rows r.master r.row count

-- the buffer that a call may write, as it is lent
unfoldable pub lent : Call → List ℕ
lent (schedule t) = []
lent (cancel t) = []
lent (terminate t) = []
lent finish = []
lent (tick buffer) = buffer
lent (wait_until t) = []
lent (wait_for n) = []
lent (latched f v) = []
lent (unlatched f v) = []
lent (signal f v) = []
lent (read_flag f) = []
lent (read_block k area buffer) = buffer
lent (write_block k area buffer) = area
lent next_waking = []
lent (read_overruns t) = []
lent (why_not t d) = []

-- what an accepted call that left state s puts out beside the flags it served: how many bus words, the flag's value or a question's
-- answer, and what the lent buffer holds after it
pub record Output : Type 0 where
  pub words : ℕ
  pub value : ℕ
  pub lent : List ℕ

abbrev pub silent : Output
silent = record { words = 0; value = 0; lent = [] }

unfoldable pub output : Rig → State → Call → Output
output r s (schedule t) = silent
output r s (cancel t) = silent
output r s (terminate t) = silent
output r s finish = silent
-- "bus words are written and their number answered"; "words past those written stay"
output r s (tick buffer) =
    record { words = length (words_at r s.count); value = 0; lent = put buffer 0 (words_at r s.count) }
output r s (wait_until t) = silent
output r s (wait_for n) = silent
output r s (latched f v) = silent
output r s (unlatched f v) = silent
output r s (signal f v) = silent
output r s (read_flag f) = record { words = 0; value = value_of s f; lent = [] }
output r s (read_block k area buffer) = record { words = 0; value = 0; lent = copied k area buffer }
output r s (write_block k area buffer) = record { words = 0; value = 0; lent = written s.count k area buffer }
-- "the lowest waking count among tasks waiting on time", 0 for none
output r s next_waking = record { words = 0; value = lowest_waking s; lent = [] }
output r s (read_overruns t) = record { words = 0; value = overruns_of s t; lent = [] }
-- "yes, or the lowest condition that blocks"
output r s (why_not t d) = record { words = 0; value = lowest_blocking r s d t; lent = [] }

-- ---- a step, a run, the start

-- the state after the call, its answer, and what the buffer that it may write then holds
pub record Step : Type 0 where
  pub next : State
  pub answer : Answer
  pub lent : List ℕ

unfoldable pub accepted : Rig → State → Call → Step
accepted r s k =
    let d = settled r s k in
    let n = dispatch r d.now in
    let o = output r n k in
    record {
      next = n;
      answer = record { code = 0; report = reported d o.words o.value };
      lent = o.lent;
    }

-- "A refused call returns the record unchanged and writes nothing"
abbrev pub refused : ℕ → State → Call → Step
refused n s k = record { next = s; answer = record { code = n; report = nothing }; lent = lent k }

unfoldable pub after : ℕ → Rig → State → Call → Step
after zero r s k = accepted r s k
after (suc n) r s k = refused (suc n) s k

unfoldable pub step : Rig → State → Call → Step
step r s k = after (refusal r s k) r s k

unfoldable pub run : Rig → State → List Call → State
run r s [] = s
run r s (k ∷ ks) = run r (step r s k).next ks

-- "Start: count 0, flags and conditions off, all tasks uninvoked; then task 1 is scheduled."
unfoldable pub started : Rig → Done
started r = serve r (scheduled r blank 1)

unfoldable pub start : Rig → State
start r = dispatch r (started r).now
