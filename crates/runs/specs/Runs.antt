-- RUNS OF THE CODE: the calls that are made on a record one after the other, each with the step that it gave, refused calls
-- among them.
use Rattle.std.specs.Prelude.{◌≡◌, Bool, cond, ◌&&◌, List, [], ◌∷◌, ℕ, suc, ◌≤◌, eqb, take}
use Rattle.rig.specs.declared.Rig.{Rig}
use Rattle.rules.specs.Calls.{Call, is_tick}
use Rattle.rules.specs.Proper.{Proper}
use Rattle.rules.specs.History.{History, noted_if, never, until_count, begins}
use Rattle.rules.specs.Waking.{Struck}
use Rattle.rules.specs.Overruns.{Event, events_if, start_events}
use Rattle.exec.specs.Sound.{rig_in, view}
use Rattle.exec.specs.Call.{Meets, answer_of}
use Rattle.exec.specs.Starting.{Starts}
use Rattle.exec.specs.declared.Exec.{Exec}
use Rattle.exec.specs.declared.Step.{Step}

-- what a step answers: 0 accepted, else the refusal's number; "the number of flags it served"; L2: "how many waiting tasks it made
-- dispatchable and how many it activated"
abbrev pub code_of : Step → ℕ
code_of r = (answer_of r.answer).code

abbrev pub served_of : Step → ℕ
served_of r = (answer_of r.answer).report.served

abbrev pub woken_of : Step → ℕ
woken_of r = (answer_of r.answer).report.woken

abbrev pub activated_of : Step → ℕ
activated_of r = (answer_of r.answer).report.activated

-- how many bus words a tick wrote
abbrev pub words_of : Step → ℕ
words_of r = (answer_of r.answer).report.words

-- the number that a question is answered by
abbrev pub told_by : Step → ℕ
told_by r = (answer_of r.answer).report.value

-- a call as it was made: the call with what its lent buffers held, its step, and what the buffer that it may write held
-- after it
pub record Made : Type 0 where
  pub call : Call
  pub step : Step
  pub after : List ℕ

-- it was made on the record x: "values are 0 or 1", and the step is what every call owes
pub record MadeOn (x : Exec) (m : Made) : Type 0 where
  pub proper : Proper m.call
  pub meets : Meets x m.call m.step m.after

-- THE RUN ms leads from the record x to the record y: each call is made on the record that the one before it handed back
abbrev pub Ran : Exec → List Made → Exec → Type 0
Ran x [] y = x ≡ y
Ran x (m ∷ ms) y = MadeOn x m × Ran m.step.exec ms y

abbrev pub calls_of : List Made → List Call
calls_of [] = []
calls_of (m ∷ ms) = m.call ∷ calls_of ms

-- an accepted start of the rig g, with the table of its cycles, gave the record x
pub record AcceptedStart (g : Rig) (table : List (List ℕ)) (x : Exec) : Type 0 where
  pub begun : Step
  pub starts : Starts g table begun
  pub accepted : code_of begun ≡ 0
  pub gave : begun.exec ≡ x

-- ---- what is read off a run's own records and answers

-- the history of waits: of each task, when its last wait began, where, and for which count; the first call has number n
unfoldable pub noting : Exec → ℕ → List Made → History → History
noting x n [] h = h
noting x n (m ∷ ms) h = noting m.step.exec (suc n) ms (noted_if n (code_of m.step) (view x) m.call h)

-- of a run from the start on: the calls are numbered from 1, and at first nobody has waited
unfoldable pub history_in : Exec → List Made → History
history_in x ms = noting x 1 ms never

-- L6: the history of services: each that was served in the run, the latest first, with the state before it; and each schedule that was accepted
unfoldable pub happening : Exec → List Made → List Event → List Event
happening x [] h = h
happening x (m ∷ ms) h = happening m.step.exec ms (events_if (code_of m.step) (rig_in x) (view x) m.call h)

-- of a run from the start on, which schedules task 1
unfoldable pub events_in : Exec → List Made → List Event
events_in x ms = happening x ms (start_events (rig_in x))

-- task t is spared: no call of the run is accepted and terminates it, or cancels it, itself or through an ancestor
abbrev pub SparedIn : Exec → List Made → ℕ → Type 0
SparedIn x [] t = Unit {0}
SparedIn x (m ∷ ms) t = (Struck (rig_in x) (view x) m.call t → ⊥) × SparedIn m.step.exec ms t

-- no call of the run is accepted and begins a wait for a count below c
abbrev pub NoneSoonerIn : Exec → ℕ → List Made → Type 0
NoneSoonerIn x c [] = Unit {0}
NoneSoonerIn x c (m ∷ ms) = ((d : ℕ) → code_of m.step ≡ 0 → begins (view x) m.call ≡ until_count d → c ≤ d) × NoneSoonerIn m.step.exec c ms

-- L11: "the accepted ticks of the run in order"
abbrev pub is_accepted_tick : Made → Bool
is_accepted_tick m = is_tick m.call && eqb (code_of m.step) 0

unfoldable pub ticks_in : List Made → List Made
ticks_in [] = []
ticks_in (m ∷ ms) = cond (is_accepted_tick m) (m ∷ ticks_in ms) (ticks_in ms)

-- the count that a tick made, and "the words that the tick wrote": at the front of its buffer, as many as it answers
abbrev pub count_made : Made → ℕ
count_made m = m.step.exec.st.count

abbrev pub handed_out : Made → List ℕ
handed_out m = take (words_of m.step) m.after
