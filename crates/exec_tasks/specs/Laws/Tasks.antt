-- Calls that name a task, and the finish: what the state's methods ask and give.
use Rattle.std.specs.Prelude.{◌≡◌, refl, Bool, not, List, [], ℕ, zero, suc, ◌<◌, ◌≤◌, eqb, ltb, get_or}
use Rattle.std.proofs.Common.{sym, ap, ◌∙◌, subst, arith, le-ltb}
use Rattle.chains.specs.Held as L
use Rattle.rig.specs.Rules.{Right}
use Rattle.rig.specs.declared.Cycle.{Cycle}
use Rattle.rig.specs.declared.Rig.{Rig}
use Rattle.rules.specs.State as S
use Rattle.rules.specs.Calls as R
use Rattle.rules_laws.specs.Acceptance.{named_is, somebody_runs}
use Rattle.exec_state.specs.View.{rig_of, view_of, work_of}
use Rattle.exec_state.specs.Post.{CancelOk, Finished, Terminated, Cancelled, Scheduled}
use Rattle.exec_state.specs.Work.{Work}
use Rattle.exec_state.specs.declared.State.{State}
use Rattle.exec_sound.specs.Sound.{SoundParts}
use Rattle.exec_sound.specs.Laws.RightRig.{bounded}
use Rattle.exec_sound.specs.Laws.Check.{placed, running_low}
use Rattle.exec_refusals.specs.Rows.{task_rows, run_rows}
use Rattle.exec_outcome.specs.Laws.Tables.{schedule_table, cancel_table, terminate_table}

-- "Active is 2 or 3."
pub not_active_lem : (n : ℕ) → ltb n 2 ≡ eqb (S.active n) 0
not_active_lem zero = refl
not_active_lem (suc zero) = refl
not_active_lem (suc (suc n)) = le-ltb (suc (suc n)) 2 (omega arith)

pub cancel_ok : (g : Rig) (cycles : List Cycle) → Right g cycles → CancelOk g
cancel_ok g cycles h = bounded g.controller 65 64 h.shaped.controller (λ t b. omega (arith, (placed g cycles h).controller t b))

-- the tables of these calls, by what the code reads of the task's state
module _ (g : Rig) (cycles : List Cycle) (s : State) (t u : ℕ) (e : u ≡ get_or s.state t 0) where
  rows : Bool → List R.Refusal
  rows wrong = task_rows s.running g.tasks g.controller t wrong

  pub schedule_by : R.decide (task_rows s.running g.tasks g.controller t (not (eqb u 0))) ≡ R.refusal (rig_of g cycles) (view_of s) (R.schedule t)
  unfolding rows
  schedule_by = ap (λ (n : ℕ). R.decide (rows (not (eqb n 0)))) e ∙ schedule_table g cycles s t

  pub cancel_by : R.decide (task_rows s.running g.tasks g.controller t (eqb u 0)) ≡ R.refusal (rig_of g cycles) (view_of s) (R.cancel t)
  unfolding rows
  cancel_by = ap (λ (n : ℕ). R.decide (rows (eqb n 0))) e ∙ cancel_table g cycles s t

  pub terminate_by : R.decide (task_rows s.running g.tasks g.controller t (ltb u 2)) ≡ R.refusal (rig_of g cycles) (view_of s) (R.terminate t)
  unfolding rows
  terminate_by =
      ap (λ (n : ℕ). R.decide (rows (ltb n 2))) e ∙ ap (λ (b : Bool). R.decide (rows b)) (not_active_lem (get_or s.state t 0)) ∙ terminate_table g cycles s t

module _ (g : Rig) (cycles : List Cycle) (s : State) (h : SoundParts g cycles s) where
  -- the task that is named is there
  pub task_there : (t : ℕ) (wrong : Bool) → 0 ≡ R.decide (task_rows s.running g.tasks g.controller t wrong) → (0 < t) × (t ≤ 64)
  task_there t wrong e =
      let k = (named_is (rig_of g cycles) (view_of s) t wrong (sym e)).task in
      (k.0, omega (arith, k.1, h.rig.task_count.1))

  -- and so is the one that finishes
  pub runner_there : 0 ≡ R.decide (run_rows s.running) → (0 < s.running) × (s.running ≤ 64)
  runner_there e = (omega (arith, somebody_runs (view_of s) [] (sym e)), running_low g cycles s h)

  module _ (w : Work) where
    pub finished_work : Finished s g w → work_of w.st w.queue ≡ R.effect (rig_of g cycles) (view_of s) R.finish
    unfolding R.effect
    finished_work m = m.is cycles

    pub finished_links : Finished s g w → L.HoldsChains w.st.links
    finished_links m = subst L.HoldsChains (sym m.links) h.links

    module _ (t : ℕ) where
      pub terminated_work : Terminated s g t w → work_of w.st w.queue ≡ R.effect (rig_of g cycles) (view_of s) (R.terminate t)
      unfolding R.effect
      terminated_work m = m.is cycles

      pub cancelled_work : Cancelled s g t w → work_of w.st w.queue ≡ R.effect (rig_of g cycles) (view_of s) (R.cancel t)
      unfolding R.effect
      cancelled_work m = m.is cycles

      pub scheduled_work : Scheduled s g t w → work_of w.st w.queue ≡ R.effect (rig_of g cycles) (view_of s) (R.schedule t)
      unfolding R.effect
      scheduled_work m = m.is cycles

      pub scheduled_links : Scheduled s g t w → L.HoldsChains w.st.links
      scheduled_links m = subst L.HoldsChains (sym m.links) h.links
