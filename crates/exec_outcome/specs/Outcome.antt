-- What an outcome says, and what it owes to the rules: the step of the call, and a sound record.
use Rattle.std.specs.Prelude.{◌≡◌, ◌⊎◌, List, ℕ, Result, Ok, Err}
use Rattle.refusals.specs.declared.Refusal.{Refusal}
use Rattle.refusals.specs.Numbers.{refusal_number}
use Rattle.rig.specs.declared.Cycle.{Cycle}
use Rattle.rig.specs.declared.Rig.{Rig}
use Rattle.rules.specs.Calls as R
use Rattle.exec_state.specs.View.{rig_of, view_of}
use Rattle.exec_state.specs.declared.State.{State}
use Rattle.exec_sound.specs.Sound.{SoundParts}
use Rattle.exec_refusals.specs.Numbers.{not_sound_no}
use Rattle.exec_outcome.specs.declared.Report.{Report}

-- WHAT A CALL COMES TO. The refusal's number is 0 for an accepted call. Told are the flags served, how many waiting tasks that made dispatchable
-- and how many it activated, the bus words and a value. What a refused call tells is 0, and its state is as it was.
pub record Outcome : Type 0 where
  pub st : State
  pub refusal : ℕ
  pub served : ℕ
  pub woken : ℕ
  pub activated : ℕ
  pub words : ℕ
  pub value : ℕ

-- the paper's number and values
abbrev pub telling_of : Outcome → R.Report
telling_of o = record { served = o.served; woken = o.woken; activated = o.activated; words = o.words; value = o.value }

abbrev pub answer_in : Outcome → R.Answer
answer_in o = record { code = o.refusal; report = telling_of o }

-- the state as it was, and a refusal's number
abbrev pub refused_by : State → ℕ → Outcome
refused_by s n = record { st = s; refusal = n; served = 0; woken = 0; activated = 0; words = 0; value = 0 }

-- the state as it was, and the value that was asked for
abbrev pub kept_with : State → ℕ → Outcome
kept_with s v = record { st = s; refusal = 0; served = 0; woken = 0; activated = 0; words = 0; value = v }

-- the state that an accepted call leaves, and what it tells
abbrev pub accepted_with : State → Report → Outcome
accepted_with s p =
    record { st = s; refusal = 0; served = p.served; woken = p.woken; activated = p.activated; words = p.words; value = p.value }

-- what the code makes: the state that a call leaves, and what it tells or its refusal
abbrev pub outcome_of : State → Result Report Refusal → Outcome
outcome_of s (Ok p) = accepted_with s p
outcome_of s (Err r) = refused_by s (refusal_number r)

-- a value alone
abbrev pub value_told : ℕ → Report
value_told v = record { served = 0; woken = 0; activated = 0; words = 0; value = v }

-- the rules' step, of the state that the record shows; the record is sound
pub record Obeys (g : Rig) (cycles : List Cycle) (s : State) (k : R.Call) (o : Outcome) (after : List ℕ) : Type 0 where
  pub next : view_of o.st ≡ (R.step (rig_of g cycles) (view_of s) k).next
  pub answer : answer_in o ≡ (R.step (rig_of g cycles) (view_of s) k).answer
  pub lent : after ≡ (R.step (rig_of g cycles) (view_of s) k).lent
  pub sound : SoundParts g cycles o.st

-- the same, or 12 where the record is not sound
pub record Tells (g : Rig) (cycles : List Cycle) (s : State) (k : R.Call) (o : Outcome) (after : List ℕ) : Type 0 where
  pub is : (SoundParts g cycles s × Obeys g cycles s k o after) ⊎ ((SoundParts g cycles s → ⊥) × (o ≡ refused_by s not_sound_no) × (after ≡ R.lent k))
