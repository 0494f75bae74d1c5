-- The table of each call is that of its rows.
use Rattle.std.specs.Prelude.{◌≡◌, List, ℕ, ◌+◌, ltb, length}
use Rattle.std.proofs.Math.Path.{refl}
use Rattle.rig.specs.declared.Cycle.{Cycle}
use Rattle.rig.specs.declared.Rig.{Rig}
use Rattle.rules.specs.Calls.{schedule, cancel, terminate, finish, tick, wait_until, wait_for, latched, unlatched, signal, read_flag, read_block, write_block, decide, refusals, refusal, is_invoked, is_uninvoked, not_active, last_count, wrong_block}
use Rattle.exec_state.specs.View.{rig_of, view_of}
use Rattle.exec_state.specs.declared.State.{State}
use Rattle.exec_refusals.specs.Rows.{run_rows, count_rows, flag_rows, signal_rows, task_rows, tick_rows, block_rows}

module _ (g : Rig) (cycles : List Cycle) (s : State) where
  pub schedule_table : (t : ℕ) → decide (task_rows s.running g.tasks g.controller t (is_invoked (view_of s) t)) ≡ refusal (rig_of g cycles) (view_of s) (schedule t)
  unfolding refusal refusals
  schedule_table t = refl

  pub cancel_table : (t : ℕ) → decide (task_rows s.running g.tasks g.controller t (is_uninvoked (view_of s) t)) ≡ refusal (rig_of g cycles) (view_of s) (cancel t)
  unfolding refusal refusals
  cancel_table t = refl

  pub terminate_table : (t : ℕ) → decide (task_rows s.running g.tasks g.controller t (not_active (view_of s) t)) ≡ refusal (rig_of g cycles) (view_of s) (terminate t)
  unfolding refusal refusals
  terminate_table t = refl

  pub finish_table : decide (run_rows s.running) ≡ refusal (rig_of g cycles) (view_of s) finish
  unfolding refusal refusals
  finish_table = refl

  pub until_table : (n : ℕ) → decide (count_rows s.running (ltb 2147483647 n)) ≡ refusal (rig_of g cycles) (view_of s) (wait_until n)
  unfolding refusal refusals last_count
  until_table n = refl

  pub for_table : (n : ℕ) → decide (count_rows s.running (ltb 2147483647 (s.count + n))) ≡ refusal (rig_of g cycles) (view_of s) (wait_for n)
  unfolding refusal refusals last_count
  for_table n = refl

  pub latched_table : (f v : ℕ) → decide (flag_rows s.running g.flags cycles f) ≡ refusal (rig_of g cycles) (view_of s) (latched f v)
  unfolding refusal refusals
  latched_table f v = refl

  pub unlatched_table : (f v : ℕ) → decide (flag_rows s.running g.flags cycles f) ≡ refusal (rig_of g cycles) (view_of s) (unlatched f v)
  unfolding refusal refusals
  unlatched_table f v = refl

  pub signal_table : (f v : ℕ) → decide (signal_rows s.running g.flags cycles g.activation f) ≡ refusal (rig_of g cycles) (view_of s) (signal f v)
  unfolding refusal refusals
  signal_table f v = refl

  pub read_table : (f : ℕ) → decide (flag_rows s.running g.flags cycles f) ≡ refusal (rig_of g cycles) (view_of s) (read_flag f)
  unfolding refusal refusals
  read_table f = refl

  pub tick_table : (buffer : List ℕ) → decide (tick_rows s.count (length buffer)) ≡ refusal (rig_of g cycles) (view_of s) (tick buffer)
  unfolding refusal refusals
  tick_table buffer = refl

  pub read_block_table : (k : ℕ) (area buffer : List ℕ) → decide (block_rows s.running g.rows g.row k (length area) (length buffer)) ≡ refusal (rig_of g cycles) (view_of s) (read_block k area buffer)
  unfolding refusal refusals wrong_block
  read_block_table k area buffer = refl

  pub write_block_table : (k : ℕ) (area buffer : List ℕ) → decide (block_rows s.running g.rows g.row k (length area) (length buffer)) ≡ refusal (rig_of g cycles) (view_of s) (write_block k area buffer)
  unfolding refusal refusals wrong_block
  write_block_table k area buffer = refl
