-- A TURN OF THE BENCH: a script line, the call that it asks for, and the line that is printed.
-- "It takes each answer apart and prints verb, answer (0 accepted), count, running task (0 none), then, if accepted, bus
-- words or the flag's value, tab-parted."
use Rattle.std.specs.Prelude.{◌≡◌, ◌⊎◌, Bool, List, ℕ, ◌+◌, ◌≤◌, ◌<◌, length, replicate}
use Rattle.rules.specs.Rig as G
use Rattle.rules.specs.State as S
use Rattle.rules.specs.Calls as R
use Rattle.exec.specs.Call.{bit, answer_of, Meets}
use Rattle.exec.specs.Call.{with_state}
use Rattle.exec.specs.declared.Exec.{Exec}
use Rattle.exec.specs.declared.Step.{Step}
pub use Rattle.bench_script.specs.Script.{letter_of}
use Rattle.bench_script.specs.Script.{said_of}
use Rattle.bench_script.specs.Output.{wrong_text, turn_room}
use Rattle.bench_show.specs.Shown.{words_lent, text_of}
use Rattle.put_text.specs.Wrote.{Wrote}
use Rattle.bench_script.specs.declared.Said.{Said}
use Rattle.bench_script.specs.declared.Said.TheVariants.{Schedule, Cancel, Terminate, Finish, Tick, Until, Cycles, Latched, Unlatched, Signal, Ask, NextWaking, Overruns, WhyNot, Wrong}
use Rattle.bench_turn.specs.declared.Turn.{Turn}

-- the call of a line, or that it is none; a tick is lent words of 0
pub data Asked : Type 0 where
  call : R.Call → Asked
  none : Asked

unfoldable pub asked_by : Said → Asked
asked_by (Schedule t) = call (R.schedule t)
asked_by (Cancel t) = call (R.cancel t)
asked_by (Terminate t) = call (R.terminate t)
asked_by Finish = call R.finish
asked_by Tick = call (R.tick (replicate words_lent 0))
asked_by (Until t) = call (R.wait_until t)
asked_by (Cycles n) = call (R.wait_for n)
asked_by (Latched f v) = call (R.latched f (bit v))
asked_by (Unlatched f v) = call (R.unlatched f (bit v))
asked_by (Signal f v) = call (R.signal f (bit v))
asked_by (Ask f) = call (R.read_flag f)
asked_by NextWaking = call R.next_waking
asked_by (Overruns t) = call (R.read_overruns t)
asked_by (WhyNot t d) = call (R.why_not t d)
asked_by Wrong = none

abbrev pub answer_text : ℕ → Step → List ℕ → List ℕ
answer_text verb s words = text_of verb (answer_of s.answer) s.exec.st.count s.exec.st.running words

-- the turn made a call: the record that the call handed back is the old one with the turn's state, and its line was written at `at`
pub record Answered (e : Exec) (verb : ℕ) (k : R.Call) (out : List ℕ) (at : ℕ) (r : Turn) (after : List ℕ) : Type 0 where
  pub step : Step
  pub words : List ℕ
  pub meets : Meets e k step words
  pub exec : step.exec ≡ with_state e r.st
  pub wrote : Wrote out at (answer_text verb step words) after r.at

-- "any other script line is refused by 1 and prints ? alone"
pub record Unasked (e : Exec) (out : List ℕ) (at : ℕ) (r : Turn) (after : List ℕ) : Type 0 where
  pub state : r.st ≡ e.st
  pub wrote : Wrote out at wrong_text after r.at

abbrev pub Takes : Exec → ℕ → Asked → List ℕ → ℕ → Turn → List ℕ → Type 0
Takes e verb (call k) out at r after = Answered e verb k out at r after
Takes e verb none out at r after = Unasked e out at r after

-- the turn of a line, with the panel's verbs on or off, where there is room for any turn's line; else nothing happens
pub record Turns (panel : Bool) (e : Exec) (line out : List ℕ) (at : ℕ) (r : Turn) (after : List ℕ) : Type 0 where
  pub is :
      ((at + turn_room ≤ length out) × Takes e (letter_of (said_of panel line)) (asked_by (said_of panel line)) out at r after)
      ⊎ ((length out < at + turn_room) × (r ≡ record { st = e.st; at = at }) × (after ≡ out))

-- ---- the same in the rules' words: what the line of a sound record's turn is, and the state after it

abbrev pub step_text : ℕ → R.Step → List ℕ
step_text verb s = text_of verb s.answer s.next.count s.next.running s.lent

unfoldable pub asked_text : G.Rig → S.State → ℕ → Asked → List ℕ
asked_text r s verb (call k) = step_text verb (R.step r s k)
asked_text r s verb none = wrong_text

unfoldable pub asked_next : G.Rig → S.State → Asked → S.State
asked_next r s (call k) = (R.step r s k).next
asked_next r s none = s

unfoldable pub turn_text : Bool → G.Rig → S.State → List ℕ → List ℕ
turn_text panel r s line = asked_text r s (letter_of (said_of panel line)) (asked_by (said_of panel line))

unfoldable pub turn_next : Bool → G.Rig → S.State → List ℕ → S.State
turn_next panel r s line = asked_next r s (asked_by (said_of panel line))
