-- THE REFUSAL TABLE IN WORDS: what each number that a call can meet is given for.
-- Definitions for the reader; that the calls refuse by them, the smallest number first, is theorem refused_exactly.
use Rattle.std.specs.Prelude.{◌≡◌, ◌≢◌, ◌⊎◌, ◌↔◌, List, ℕ, ◌+◌, ◌≤◌, ◌<◌, length}
use Rattle.rules.specs.Sizes.{most_tasks, minor_cycles, flags_a_cycle, tick_words}
use Rattle.rules.specs.Rig.{Rig}
use Rattle.rules.specs.State.{State, state_of, active, uninvoked, inactive}
use Rattle.rules.specs.Bus.{area_words, block_words}
use Rattle.rules.specs.Starting.{most_links}
use Rattle.rules.specs.Calls.{last_count, Call, schedule, cancel, terminate, finish, tick, wait_until, wait_for, latched, unlatched, signal, read_flag, read_block, write_block, next_waking, read_overruns, why_not}

-- what each number says of a call; ⊥ where the call cannot meet it
pub record Reasons : Type 1 where
  pub five : Type 0
  pub six : Type 0
  pub seven : Type 0
  pub eight : Type 0
  pub nine : Type 0
  pub ten : Type 0
  pub eleven : Type 0

-- 5: "any call on a record but the tick .., while no task is running"
abbrev pub NobodyRuns : State → Type 0
NobodyRuns s = s.running ≡ 0

-- 6: "no such task, flag or row"
abbrev pub NoSuch : ℕ → ℕ → Type 0
NoSuch many n = (n ≡ 0) ⊎ (many < n)

-- "Flags on M lines are minor-cycle flags": it stands at a place of a cycle
abbrev pub MinorCycleFlag : Rig → ℕ → Type 0
MinorCycleFlag r f = (c : ℕ) × (c < minor_cycles) × ((i : ℕ) × (i < flags_a_cycle) × (r.minor c i ≡ f))

-- it is a task's activation flag
abbrev pub ActivationFlag : Rig → ℕ → Type 0
ActivationFlag r f = (t : ℕ) × (1 ≤ t) × (t ≤ most_tasks) × (r.activation t ≡ f)

-- 7: "caller is not the named task's controller"; 8 is a matter of the call
abbrev pub naming : Rig → State → ℕ → Type 0 → Reasons
naming r s t wrong =
    record {
      five = NobodyRuns s;
      six = NoSuch r.tasks t;
      seven = r.controller t ≢ s.running;
      eight = wrong;
      nine = ⊥;
      ten = ⊥;
      eleven = ⊥;
    }

-- 7: "signal of an activation or minor-cycle flag; wait on or reading of a minor-cycle flag"
abbrev pub flagging : Rig → State → ℕ → Type 0 → Reasons
flagging r s f wrong = record { five = NobodyRuns s; six = NoSuch r.flags f; seven = wrong; eight = ⊥; nine = ⊥; ten = ⊥; eleven = ⊥ }

-- 9: "waking count above 2,147,483,647"
abbrev pub waking : State → ℕ → Reasons
waking s count = record { five = NobodyRuns s; six = ⊥; seven = ⊥; eight = ⊥; nine = last_count < count; ten = ⊥; eleven = ⊥ }

-- 10: "The area has exactly 33 words a row; the caller's buffer has exactly the row's words."
abbrev pub blocking : Rig → State → ℕ → List ℕ → List ℕ → Reasons
blocking r s k area buffer =
    record {
      five = NobodyRuns s;
      six = NoSuch r.rows k;
      seven = ⊥;
      eight = ⊥;
      nine = ⊥;
      ten = (length area ≢ area_words r) ⊎ (length buffer ≢ block_words r k);
      eleven = ⊥;
    }

abbrev pub reasons : Rig → State → Call → Reasons
-- 8: "schedule of an invoked task, cancel of an uninvoked one, terminate of one not active"
reasons r s (schedule t) = naming r s t (state_of s t ≢ uninvoked)
reasons r s (cancel t) = naming r s t (state_of s t ≡ uninvoked)
reasons r s (terminate t) = naming r s t (active (state_of s t) ≡ 0)
reasons r s finish = record { five = NobodyRuns s; six = ⊥; seven = ⊥; eight = ⊥; nine = ⊥; ten = ⊥; eleven = ⊥ }
-- 9: "tick at that count"; 10: "Its lent buffer has at least 128 words"
reasons r s (tick buffer) =
    record { five = ⊥; six = ⊥; seven = ⊥; eight = ⊥; nine = last_count ≤ s.count; ten = length buffer < tick_words; eleven = ⊥ }
reasons r s (wait_until t) = waking s t
reasons r s (wait_for n) = waking s (s.count + n)
reasons r s (latched f v) = flagging r s f (MinorCycleFlag r f)
reasons r s (unlatched f v) = flagging r s f (MinorCycleFlag r f)
reasons r s (signal f v) = flagging r s f (MinorCycleFlag r f ⊎ ActivationFlag r f)
reasons r s (read_flag f) = flagging r s f (MinorCycleFlag r f)
reasons r s (read_block k area buffer) = blocking r s k area buffer
reasons r s (write_block k area buffer) = blocking r s k area buffer
-- "No running task is needed. Refusals: 12 alone."
reasons r s next_waking = record { five = ⊥; six = ⊥; seven = ⊥; eight = ⊥; nine = ⊥; ten = ⊥; eleven = ⊥ }
-- "A call reads it for any task, with no running task needed. Refusals: 12, then 6."
reasons r s (read_overruns t) = record { five = ⊥; six = NoSuch r.tasks t; seven = ⊥; eight = ⊥; nine = ⊥; ten = ⊥; eleven = ⊥ }
-- "It needs no running task. Refusals: 12, then 6, then 8 if the task isn't inactive, then 11 for d above 3."
reasons r s (why_not t d) =
    record {
      five = ⊥;
      six = NoSuch r.tasks t;
      seven = ⊥;
      eight = state_of s t ≢ inactive;
      nine = ⊥;
      ten = ⊥;
      eleven = most_links < d;
    }

-- "For a call, .. the smallest number": number n is given exactly when its reason holds and none before it
pub record Exactly (n : ℕ) (w : Reasons) : Type 0 where
  pub five : (n ≡ 5) ↔ w.five
  pub six : (n ≡ 6) ↔ (w.six × (w.five → ⊥))
  pub seven : (n ≡ 7) ↔ (w.seven × (w.five → ⊥) × (w.six → ⊥))
  pub eight : (n ≡ 8) ↔ (w.eight × (w.five → ⊥) × (w.six → ⊥) × (w.seven → ⊥))
  pub nine : (n ≡ 9) ↔ (w.nine × (w.five → ⊥) × (w.six → ⊥) × (w.seven → ⊥) × (w.eight → ⊥))
  pub ten : (n ≡ 10) ↔ (w.ten × (w.five → ⊥) × (w.six → ⊥) × (w.seven → ⊥) × (w.eight → ⊥) × (w.nine → ⊥))
  pub eleven : (n ≡ 11) ↔ (w.eleven × (w.five → ⊥) × (w.six → ⊥) × (w.seven → ⊥) × (w.eight → ⊥) × (w.nine → ⊥) × (w.ten → ⊥))
  -- 0: accepted
  pub none : (n ≡ 0) ↔ ((w.five → ⊥) × (w.six → ⊥) × (w.seven → ⊥) × (w.eight → ⊥) × (w.nine → ⊥) × (w.ten → ⊥) × (w.eleven → ⊥))
