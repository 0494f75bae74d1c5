-- WHO IS STRUCK: "a task that waits for a count, and is not terminated or cancelled before, wakes at that count": what
-- terminates or cancels a task, itself or through an ancestor. (The waking clause stands in crate runs, Demands.)
use Rattle.std.specs.Prelude.{◌≡◌, ℕ}
use Rattle.rules.specs.Rig.{Rig}
use Rattle.rules.specs.State.{State}
use Rattle.rules.specs.Calls.{Call, schedule, cancel, terminate, finish, tick, wait_until, wait_for, latched, unlatched, signal, read_flag, read_block, write_block, next_waking, read_overruns, why_not}
use Rattle.rules.specs.Calls.{refusal}
use Rattle.rules.specs.Family.{Under}

-- call k, made at s, is accepted and terminates task t, or cancels it, itself or through an ancestor
abbrev pub Struck : Rig → State → Call → ℕ → Type 0
Struck r s (schedule u) t = ⊥
Struck r s (cancel u) t = (refusal r s (cancel u) ≡ 0) × Under r.controller u t
Struck r s (terminate u) t = (refusal r s (terminate u) ≡ 0) × (t ≡ u)
Struck r s finish t = ⊥
Struck r s (tick buffer) t = ⊥
Struck r s (wait_until c) t = ⊥
Struck r s (wait_for n) t = ⊥
Struck r s (latched f v) t = ⊥
Struck r s (unlatched f v) t = ⊥
Struck r s (signal f v) t = ⊥
Struck r s (read_flag f) t = ⊥
Struck r s (read_block k area buffer) t = ⊥
Struck r s (write_block k area buffer) t = ⊥
Struck r s next_waking t = ⊥
Struck r s (read_overruns u) t = ⊥
Struck r s (why_not u d) t = ⊥
