-- DEMAND 3 OF THE CODE, said of the record: what holds of the record y to which any run ms led from the record x of an
-- accepted start, refused calls among the run; and of any call m that is then made on y. A reader follows the links himself:
-- `chain_at` goes from a chain's anchor (`anchor_of`, crate exec_family) by the next links, `back_at` by the previous ones (crate
-- chains, Read). The chains are those of `IsChain` (rules, Soundness): the time chain, and each flag's for on and for off.
use Rattle.std.specs.Prelude.{◌≡◌, ◌≢◌, ◌⊎◌, ◌↔◌, Bool, true, not, cond, ◌&&◌, List, [], ◌∷◌, ◌++◌, reverse, ℕ, suc, ◌+◌, ◌-◌, ◌/◌, ◌%◌, ◌≤◌, ◌<◌, min, eqb, length}
use Rattle.laws.specs.Bits.{bit}
use Rattle.laws.specs.Tables.{total, how_many}
use Rattle.laws.specs.Members.{In, Distinct}
use Rattle.laws.specs.Ordered.{Ordered}
use Rattle.chains.specs.Held.{at}
use Rattle.chains.specs.Read.{chain_at, back_at}
use Rattle.rules.specs.Sizes.{most_tasks, positions, minor_cycles, tick_words}
use Rattle.rules.specs.Rig.{Row, place_of}
use Rattle.rules.specs.State.{Chain, time_chain, chain_of, State, Entry, Work, state_of, inactive, waiting, dispatchable, on}
use Rattle.rules.specs.Serving.{most_overruns, made, serve}
use Rattle.rules.specs.Soundness.{IsChain}
use Rattle.rules.specs.Starting.{most_links}
use Rattle.rules.specs.Calls.{terminate, finish, tick, signal, effect, ended, run, start}
use Rattle.rules.specs.History.{Earlier, Sooner}
use Rattle.rules.specs.Overruns.{overruns_counted}
use Rattle.rules.specs.WhyNot as W
use Rattle.rules.specs.WhyNot.{HasCondition, CanStart, LowestBlocking, BySignal, ByTick, ByEnding}
use Rattle.rules.specs.Bus.{row_due, row_words, bus_words}
use Rattle.rules.specs.Frame.{due_in, commands_to, commands_in, times_a_frame, commands_a_frame}
use Rattle.rules_laws.specs.Activation.{ByService, ByTest}
use Rattle.rules_laws.specs.Heard.{WaitedOn, by_test}
use Rattle.rules_laws.specs.Heard as H
use Rattle.exec_family.specs.Anchors.{anchor_of}
use Rattle.exec.specs.Sound.{rig_in, view, SoundRecord}
use Rattle.runs.specs.Runs.{Made, MadeOn, calls_of, code_of, served_of, woken_of, activated_of, told_by, history_in, events_in, ticks_in, count_made, handed_out}
use Rattle.exec.specs.declared.Exec.{Exec}

-- the state of a task, and its waking count; who waits in a chain, read forward and backward
abbrev pub state_in : Exec → ℕ → ℕ
state_in y t = at y.st.state t

abbrev pub wake_in : Exec → ℕ → ℕ
wake_in y t = at y.st.wake t

-- L6: its number of overruns
abbrev pub overruns_in : Exec → ℕ → ℕ
overruns_in y t = at y.st.overruns t

abbrev pub forward_in : Exec → Chain → List ℕ
forward_in y c = chain_at y.st.links (anchor_of c)

abbrev pub backward_in : Exec → Chain → List ℕ
backward_in y c = back_at y.st.links (anchor_of c)

-- every record of a run: "A fresh record is sound and every call keeps it so: 12 never follows from an accepted start."
pub record Stands (x : Exec) (ms : List Made) (y : Exec) : Type 0 where
  pub sound : SoundRecord y
  pub never_12 : (m : Made) → MadeOn y m → code_of m.step ≢ 12
  -- the rig and its cycles are those of the start, and the record shows what the rules give after the same calls
  pub rig : y.rig ≡ x.rig
  pub cycles : y.cycles ≡ x.cycles
  pub shows : view y ≡ run (rig_in x) (start (rig_in x)) (calls_of ms)

-- "each wait chain read forward lists exactly the tasks that wait there, once each, in order, and backward the reverse"
pub record Chained (x : Exec) (ms : List Made) (y : Exec) : Type 0 where
  pub forward : (c : Chain) → IsChain c → forward_in y c ≡ (run (rig_in x) (start (rig_in x)) (calls_of ms)).chains c
  pub backward : (c : Chain) → IsChain c → backward_in y c ≡ reverse (forward_in y c)
  pub once : (c : Chain) → IsChain c → Distinct (forward_in y c)
  -- a task waits exactly when it is in a chain, and then in one alone
  pub waits :
      (t : ℕ) →
      (state_in y t ≡ waiting) ↔ ((c : Chain) × IsChain c × In t (forward_in y c) × ((d : Chain) → IsChain d → In t (forward_in y d) → d ≡ c))
  -- it is in the chain in which its last wait began
  pub lists : (t : ℕ) (c : Chain) → IsChain c → In t (forward_in y c) ↔ ((state_in y t ≡ waiting) × ((history_in x ms t).chain ≡ c))
  -- "Time chain order: waking count, then who began to wait earlier."
  pub time : Ordered (Sooner (history_in x ms)) (forward_in y time_chain)
  pub counts : (t : ℕ) → In t (forward_in y time_chain) → wake_in y t ≡ (history_in x ms t).count
  pub ahead : (t : ℕ) → In t (forward_in y time_chain) → y.st.count < wake_in y t
  -- "Each flag has a chain for on and one for off, in order of beginning."
  pub flags : (f v : ℕ) → IsChain (chain_of f v) → Ordered (Earlier (history_in x ms)) (forward_in y (chain_of f v))

-- "each activation flag is on exactly when its task is active": "Active is 2 or 3."
abbrev pub Activated : Exec → Type 0
Activated y =
    (t : ℕ) →
    at y.rig.activation t ≢ 0 →
    (at y.st.value (at y.rig.activation t) ≡ on) ↔ ((state_in y t ≡ waiting) ⊎ (state_in y t ≡ dispatchable))

-- "Each call answers with the number of flags it served, which is at most 79."
abbrev pub Bounded : Exec → Type 0
Bounded y = (m : Made) → MadeOn y m → served_of m.step ≤ 79

pub record Demand (x : Exec) (ms : List Made) (y : Exec) : Type 0 where
  pub stands : Stands x ms y
  pub chained : Chained x ms y
  pub activated : Activated y
  pub bounded : Bounded y

-- THE WAKING CLAUSE: task t has begun to wait for the count c, and y is a record after that
pub record Wakes (t c : ℕ) (y : Exec) : Type 0 where
  -- at a lower count it is waiting, so not dispatchable
  pub waits : y.st.count < c → state_in y t ≡ waiting
  -- the tick that makes the count c is accepted and leaves it dispatchable
  pub wakes :
      (m : Made) (buffer : List ℕ) → MadeOn y m → m.call ≡ tick buffer → tick_words ≤ length buffer → suc y.st.count ≡ c →
      (code_of m.step ≡ 0) × (m.step.exec.st.count ≡ c) × (state_in m.step.exec t ≡ dispatchable)

-- ---- WHEN DOES THE BENCH NEXT WAKE SOMEONE? The question m is asked of the record y.

-- "tasks waiting on time": waiting, and in the time chain
abbrev pub OnTime : Exec → ℕ → Type 0
OnTime y t = (state_in y t ≡ waiting) × In t (forward_in y time_chain)

-- "the lowest waking count among tasks waiting on time ..; none exactly when no task so waits"; 0 is none. It is never refused, since every
-- record of a run is sound, and the record is what it was.
pub record Told (y : Exec) (m : Made) : Type 0 where
  pub accepted : code_of m.step ≡ 0
  pub same : m.step.exec ≡ y
  pub none : (told_by m.step ≡ 0) ↔ ((t : ℕ) → OnTime y t → ⊥)
  pub some : told_by m.step ≢ 0 → (t : ℕ) × OnTime y t × (wake_in y t ≡ told_by m.step)
  pub lowest : (t : ℕ) → OnTime y t → told_by m.step ≤ wake_in y t

-- ---- L2: WHOM DID IT WAKE? The call m is made on the record y.

-- the state that it leaves to the serving, and what it has queued
abbrev pub leaves : Exec → Made → Work
leaves y m = effect (rig_in y) (view y) m.call

-- what it comes through: the services of what it has queued, and, L3, those after the test of the task that it ended
abbrev pub Comes : Exec → Made → Work → Type 0
Comes y m = H.Comes (rig_in y) (view y) m.call

-- L3: that task, "once the queue is empty .. still inactive with all conditions as desired": it is activated by no service, and not counted
abbrev pub ByTestIn : Exec → Made → ℕ → Type 0
ByTestIn y m = ByTest (rig_in y) (ended (view y) m.call) (leaves y m)

abbrev pub by_test_in : Exec → Made → ℕ
by_test_in y m = by_test (rig_in y) (ended (view y) m.call) (serve (rig_in y) (leaves y m)).now

-- "how many waiting tasks it made dispatchable and how many it activated, added over all services of a call": of an accepted call, from what it
-- leaves to the serving to the record that it hands back
pub record Hears (y : Exec) (m : Made) : Type 0 where
  -- woken is the number of tasks that were waiting and became dispatchable: exactly those who waited on the served flags' chains
  pub woken : woken_of m.step ≡ made waiting (leaves y m).now.states m.step.exec.st.state
  pub waited : (t : ℕ) → ((state_of (leaves y m).now t ≡ waiting) × (state_in m.step.exec t ≡ dispatchable)) ↔ WaitedOn (rig_in y) (Comes y m) t
  -- it served a flag on which so many waited with that value: it says at least so many
  pub least :
      (s : State) (e : Entry) (q : List Entry) → Comes y m (record { now = s; queue = e ∷ q }) →
      length (s.chains (chain_of e.flag e.value)) ≤ woken_of m.step
  -- activated is the number of tasks that were inactive and became dispatchable, each by a service; but whom the test activates is not counted
  pub activated : activated_of m.step + by_test_in y m ≡ made inactive (leaves y m).now.states m.step.exec.st.state
  pub called : (t : ℕ) → state_of (leaves y m).now t ≡ inactive → state_in m.step.exec t ≡ dispatchable → ByService (rig_in y) (Comes y m) t ⊎ ByTestIn y m t

pub record Heard (y : Exec) (m : Made) : Type 0 where
  pub hears : code_of m.step ≡ 0 → Hears y m
  -- "A signal should say whom it woke": its numbers are read off the record before it and the record after it
  pub signals :
      (f v : ℕ) → m.call ≡ signal f v → code_of m.step ≡ 0 →
      (woken_of m.step ≡ made waiting y.st.state m.step.exec.st.state)
      × (activated_of m.step ≡ made inactive y.st.state m.step.exec.st.state)
  -- "a refusal shows 0 and 0"
  pub refused : code_of m.step ≢ 0 → (woken_of m.step ≡ 0) × (activated_of m.step ≡ 0)
  -- no task is counted twice: together they are at most the rig's number of tasks
  pub few : woken_of m.step + activated_of m.step ≤ y.rig.tasks

-- ---- L3: TASKS THAT SHOULD RUN AGAIN DO

-- after every call "no task is left inactive with all its conditions as desired"
abbrev pub NobodyLeft : Exec → Type 0
NobodyLeft y =
    (t : ℕ) →
    state_in y t ≡ inactive →
    ((p : ℕ) → p < positions → at y.rig.present (place_of t p) ≡ 1 → at y.st.cond (place_of t p) ≡ at y.rig.desired (place_of t p)) →
    ⊥

-- a finish serves at most one flag more than the rig has tasks, a terminate as many as it has
pub record AtMost (y : Exec) (m : Made) : Type 0 where
  pub finishes : m.call ≡ finish → served_of m.step ≤ suc y.rig.tasks
  pub terminates : (t : ℕ) → m.call ≡ terminate t → served_of m.step ≤ y.rig.tasks

-- ---- L6: STARTS THAT CAME TOO SOON ARE COUNTED

pub record Overran (x : Exec) (ms : List Made) (y : Exec) : Type 0 where
  -- "equals the smaller of that stop and the number counted from the history since the last schedule"
  pub counts : (t : ℕ) → 1 ≤ t → t ≤ most_tasks → overruns_in y t ≡ min most_overruns (overruns_counted (rig_in x) t (events_in x ms))
  -- only tasks of the rig have one
  pub within : (t : ℕ) → overruns_in y t ≢ 0 → (1 ≤ t) × (t ≤ y.rig.tasks)

-- "A call reads it for any task, with no running task needed. Refusals: 12, then 6.": the question m about task t is asked of the record y, which
-- is what it was
pub record OverrunsTold (y : Exec) (t : ℕ) (m : Made) : Type 0 where
  pub same : m.step.exec ≡ y
  pub told : 1 ≤ t → t ≤ y.rig.tasks → (code_of m.step ≡ 0) × (told_by m.step ≡ overruns_in y t)
  pub refused : (t ≡ 0) ⊎ (y.rig.tasks < t) → code_of m.step ≡ 6

-- ---- L11: A STATEMENT FOR THE WIRING SHEET. Of the accepted ticks of the run ms from the start's record x.

-- row k, numbered from 1
abbrev pub row_in : Exec → ℕ → Row
row_in x k = (rig_in x).row (k - 1)

-- it is due at a tick: "A row is due when count modulo period equals phase", at the count that the tick made
abbrev pub due_at : Exec → ℕ → Made → Bool
due_at x k m = row_due (row_in x k) (count_made m)

-- the command words, at a tick, of so many rows: of those that are due
abbrev pub words_of_rows : Exec → ℕ → (ℕ → Row) → Made → List ℕ
words_of_rows x n rows m = bus_words n x.rig.master rows (count_made m)

-- "at the ticks at which it is due, and at no others, the row's command words stand at their place in the words that the tick wrote": behind those of
-- the rows before it, and before those of the rows behind it
abbrev pub HandsOut : Exec → ℕ → Made → Type 0
HandsOut x k m =
    handed_out m
    ≡ words_of_rows x (k - 1) (rig_in x).row m
    ++ (cond (due_at x k m) (row_words x.rig.master (row_in x k)) []
    ++ words_of_rows x (x.rig.rows - k) (λ (i : ℕ). (rig_in x).row (k + i)) m)

-- these stand in a row among the accepted ticks of the run
abbrev pub InARow : List Made → List Made → Type 0
InARow ms window = (before : List Made) × (behind : List Made) × (ticks_in ms ≡ before ++ (window ++ behind))

-- row k
pub record Wired (x : Exec) (ms : List Made) (k : ℕ) : Type 0 where
  -- "in any 64 accepted ticks in a row, a synchronous row of period p is due exactly 64/p times"
  pub times : (window : List Made) → InARow ms window → length window ≡ 64 → how_many (due_at x k) window ≡ 64 / (row_in x k).period
  -- "and p ticks lie from each to the next": from one at which it is due, past those at which it is not, to the next at which it is
  pub next :
      (m n : Made) (between : List Made) → InARow ms (m ∷ (between ++ n ∷ [])) →
      due_at x k m ≡ true → how_many (due_at x k) between ≡ 0 → due_at x k n ≡ true →
      length (between ++ n ∷ []) ≡ (row_in x k).period
  pub handed : (m : Made) → InARow ms (m ∷ []) → HandsOut x k m
  -- whom it speaks to when it is due: each of its ends but the master, once
  pub speaks :
      (address : ℕ) →
      commands_to address (row_words x.rig.master (row_in x k))
      ≡ bit (eqb (row_in x k).receiver address && not (eqb (row_in x k).receiver x.rig.master))
      + bit (eqb (row_in x k).sender address && not (eqb (row_in x k).sender x.rig.master))
  -- what the sheet says of it: how often in a frame, and in which cycles
  pub sheet : times_a_frame (row_in x k) ≡ 64 / (row_in x k).period
  pub cycles : (m : Made) → bit (due_at x k m) ≡ due_in (row_in x k) (count_made m % minor_cycles)

-- "how often a terminal is spoken to": in any 64 accepted ticks in a row as often as the sheet says of a frame, and at each tick as its cycle says
pub record SpokenTo (x : Exec) (ms : List Made) (address : ℕ) : Type 0 where
  pub times :
      (window : List Made) → InARow ms window → length window ≡ 64 →
      total (λ (m : Made). commands_to address (handed_out m)) window ≡ commands_a_frame x.rig.rows x.rig.master (rig_in x).row address
  pub cycles :
      (m : Made) → InARow ms (m ∷ []) →
      commands_to address (handed_out m) ≡ commands_in x.rig.rows x.rig.master (rig_in x).row address (count_made m % minor_cycles)

-- ---- L13: WHY WON'T IT START? The question m about task t, within d links, is asked of the record y, which is what it was.

pub record WhyTold (y : Exec) (t d : ℕ) (m : Made) : Type 0 where
  pub same : m.step.exec ≡ y
  -- "The answer is yes, or the lowest condition that blocks. .. It needs no running task."
  pub told :
      1 ≤ t → t ≤ y.rig.tasks → state_in y t ≡ inactive → d ≤ most_links →
      (code_of m.step ≡ 0) × LowestBlocking (rig_in y) (view y) d t (told_by m.step)
  -- "A larger d never turns a yes into a no."
  pub larger : code_of m.step ≡ 0 → told_by m.step ≡ positions → (e : ℕ) → d ≤ e → CanStart (rig_in y) (view y) e t
  -- after a yes at d = 0 there is, for each condition that does not stand, a call or tick that serves a flag which brings it there
  pub way :
      code_of m.step ≡ 0 → told_by m.step ≡ positions → d ≡ 0 → (p : ℕ) → HasCondition (rig_in y) t p → (W.Stands (rig_in y) (view y) t p → ⊥) →
      BySignal (rig_in y) t p ⊎ (ByTick (rig_in y) t p ⊎ ByEnding (rig_in y) (view y) t p)
  -- "Refusals: 12, then 6, then 8 if the task isn't inactive, then 11 for d above 3."
  pub six : (t ≡ 0) ⊎ (y.rig.tasks < t) → code_of m.step ≡ 6
  pub eight : 1 ≤ t → t ≤ y.rig.tasks → state_in y t ≢ inactive → code_of m.step ≡ 8
  pub eleven : 1 ≤ t → t ≤ y.rig.tasks → state_in y t ≡ inactive → most_links < d → code_of m.step ≡ 11
