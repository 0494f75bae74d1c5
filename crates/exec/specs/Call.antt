-- WHAT EVERY CALL OWES: refused by 12 exactly where the record is not sound; else what the rules' step gives, and a sound
-- record.
use Rattle.std.specs.Prelude.{◌≡◌, ◌≢◌, ◌⊎◌, List, ℕ}
use Rattle.rules.specs.Calls as R
pub use Rattle.laws.specs.Bits.{bit}
use Rattle.exec_refusals.specs.Numbers.{not_sound_no}
use Rattle.exec_state.specs.declared.State.{State}
use Rattle.exec.specs.Sound.{rig_in, view, SoundRecord}
use Rattle.exec.specs.declared.Exec.{Exec}
use Rattle.exec_outcome.specs.declared.Report.{Report}
use Rattle.exec.specs.declared.Step.{Step}
use Rattle.exec.specs.declared.Answer.{Answer}
use Rattle.exec.specs.declared.Answer.TheVariants.{Accepted, Refused}

abbrev pub report_of : Report → R.Report
report_of p = record { served = p.served; woken = p.woken; activated = p.activated; words = p.words; value = p.value }

-- the paper's number and values for each case of an answer
abbrev pub answer_of : Answer → R.Answer
answer_of (Accepted p) = record { code = 0; report = report_of p }
answer_of (Refused n) = record { code = n; report = R.nothing }

-- 0 is no refusal's number
abbrev pub ProperAnswer : Answer → Type 0
ProperAnswer (Accepted p) = Unit {0}
ProperAnswer (Refused n) = n ≢ 0

-- the record with another state
abbrev pub with_state : Exec → State → Exec
with_state x s = record { rig = x.rig; cycles = x.cycles; st = s }

-- the record as it was, and a refusal's number
abbrev pub refuse : Exec → ℕ → Step
refuse x n = record { exec = x; answer = Refused n }

-- "A refused call returns the record unchanged": this record, and an answer that gives this number and no values
pub record Refuses (x : Exec) (n : ℕ) (r : Step) : Type 0 where
  pub exec : r.exec ≡ x
  pub answer : answer_of r.answer ≡ record { code = n; report = R.nothing }

-- the rules' step: the state that the record shows, the answer, what the buffer that the call may write holds `after` it;
-- the rig and its cycles are kept, and the record is sound
pub record Follows (x : Exec) (k : R.Call) (r : Step) (after : List ℕ) : Type 0 where
  pub next : view r.exec ≡ (R.step (rig_in x) (view x) k).next
  pub answer : answer_of r.answer ≡ (R.step (rig_in x) (view x) k).answer
  pub lent : after ≡ (R.step (rig_in x) (view x) k).lent
  pub proper : ProperAnswer r.answer
  pub rig : r.exec.rig ≡ x.rig
  pub cycles : r.exec.cycles ≡ x.cycles
  pub sound : SoundRecord r.exec

-- "For a call, 12 comes first, then the smallest number. A refused call returns the record unchanged and writes nothing"
pub record Meets (x : Exec) (k : R.Call) (r : Step) (after : List ℕ) : Type 0 where
  pub is : (SoundRecord x × Follows x k r after) ⊎ ((SoundRecord x → ⊥) × Refuses x not_sound_no r × (after ≡ R.lent k))
