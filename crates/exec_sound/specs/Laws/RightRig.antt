-- A rig that obeys its rules is what the rules of the executive rest on.
use Rattle.std.specs.Prelude.{◌≡◌, ◌≢◌, List, ℕ, zero, suc, ◌<◌, ◌≤◌, leb, ltb, length}
use Rattle.std.proofs.Common.{sym, ◌∙◌, ap, ⊎_elim, arith, leb-true, leb-false, ltb-true, ltb-false}
use Rattle.std.proofs.Math.ListN.{get_or-eq_default}
use Rattle.laws.specs.Cases.{by}
use Rattle.laws.specs.Laws.Tables.{has_place}
use Rattle.rig_tables.specs.Tests.{at}
use Rattle.rig.specs.Rules.{Right, Ancestor, nearest, further}
use Rattle.rig.specs.declared.Cycle.{Cycle}
use Rattle.rig.specs.declared.Rig.{Rig}
use Rattle.rules.specs.RigOk.{RigOk}
use Rattle.exec_state.specs.View.{rig_of}

-- a bound on the entries that are there bounds them all
pub bounded : (l : List ℕ) (n m : ℕ) → length l ≡ n → ((t : ℕ) → t < n → at l t ≤ m) → (t : ℕ) → at l t ≤ m
bounded l n m z h t =
    by (ltb t n) (λ e. h t (ltb-true t n e)) (λ e. let q : at l t ≡ 0 = get_or-eq_default l 0 (omega (arith, ltb-false t n e)) in omega arith)

module _ (g : Rig) (cycles : List Cycle) (h : Right g cycles) where
  -- a task's entries are 0 but for tasks 1 to the rig's number of tasks
  no_task : (l : List ℕ) → length l ≡ 65 → ((t : ℕ) → t < 65 → ((1 ≤ t) × (t ≤ g.tasks) → ⊥) → at l t ≡ 0) → (t : ℕ) → at l t ≢ 0
      → (1 ≤ t) × (t ≤ g.tasks)
  no_task l z f t n =
      let b : t < 65 = omega (arith, has_place l t n) in
      by (leb 1 t)
      (λ e. by (leb t g.tasks) (λ k. (leb-true 1 t e, leb-true t g.tasks k))
      (λ k. absurd (n (f t b (λ q. omega (arith, leb-false t g.tasks k, q.1))))))
      (λ e. absurd (n (f t b (λ q. omega (arith, leb-false 1 t e, q.0)))))

  controller_task : (t : ℕ) → at g.controller t ≢ 0 → (1 ≤ t) × (t ≤ g.tasks)
  controller_task = no_task g.controller h.shaped.controller (λ t b n. (h.task_zeros t b n).controller)

  activation_task : (t : ℕ) → at g.activation t ≢ 0 → (1 ≤ t) × (t ≤ g.tasks)
  activation_task = no_task g.activation h.shaped.activation (λ t b n. (h.task_zeros t b n).activation)

  controller_none : at g.controller 0 ≡ 0
  controller_none = (h.task_zeros 0 (omega arith) (λ q. omega (arith, q.0))).controller

  ancestor_some : {a t : ℕ} → Ancestor (at g.controller) a t → a ≢ 0
  ancestor_some (nearest e n) = n
  ancestor_some (further n k) = ancestor_some k

  controller_some : (t : ℕ) → 2 ≤ t → t ≤ g.tasks → at g.controller t ≢ 0
  controller_some t a b = ⊎_elim (λ e q. omega (arith, e, q)) (λ k. ancestor_some k) (h.controllers.others t a b)

  some : (t : ℕ) → at g.controller t ≢ 0 → t ≢ 0
  some t n e = n (ap (at g.controller) e ∙ controller_none)

  -- an ancestor has a lower number, where those up to it do
  ancestor_low : (n : ℕ) → ((t : ℕ) → t < n → t ≢ 0 → at g.controller t < t) → {a t : ℕ} → Ancestor (at g.controller) a t → t < n → a < n
  ancestor_low n f {a} {t} (nearest e z) b =
      let k = f t b (some t (λ q. z (sym e ∙ q))) in
      omega (arith, k, e)
  ancestor_low n f {a} {t} (further z k) b =
      let c = f t b (some t z) in
      ancestor_low n f k (omega (arith, c))

  low_below : (n t : ℕ) → t < n → t ≢ 0 → at g.controller t < t
  low_below zero t b z = absurd (omega arith)
  low_below (suc n) t b z =
      by (ltb 0 (at g.controller t))
      (λ e.
      let c : at g.controller t ≢ 0 = λ q. omega (arith, ltb-true 0 (at g.controller t) e, q) in
      let k = controller_task t c in
      let o : 1 < t = by (ltb 1 t) (λ y. ltb-true 1 t y) (λ y. absurd (c (ap (at g.controller) (one (ltb-false 1 t y)) ∙ h.controllers.first))) in
      ⊎_elim (λ q. omega (arith, q)) (λ a. ancestor_low t (λ u c y. low_below n u (omega arith) y) a (omega arith)) (h.controllers.others t o k.1))
      (λ e. omega (arith, ltb-false 0 (at g.controller t) e))
    where
      one : t ≤ 1 → t ≡ 1
      one y = omega (arith, z)

  pub rig_ok : RigOk (rig_of g cycles)
  rig_ok =
      record {
        tasks_some = h.task_count.0;
        tasks_le = h.task_count.1;
        flags_le = h.flag_count.1;
        priority_le = bounded g.priority 65 255 h.shaped.priority h.priorities;
        activation_task = activation_task;
        activation_le = bounded g.activation 65 g.flags h.shaped.activation h.activation_numbers;
        activation_unique = λ t u n e.
            h.activation_serves_one t u
            (omega (arith, has_place g.activation t n, h.shaped.activation))
            (omega (arith, has_place g.activation u (λ q. n (e ∙ q)), h.shaped.activation))
            n e;
        activation_not_minor = λ t c i hc hi n e.
            h.activation_not_minor t (omega (arith, has_place g.activation t n, h.shaped.activation)) (n, c, i, hc, hi, e);
        minor_le = λ c i hc hi. omega (arith, h.cycle_numbers c hc i hi);
        controller_none = controller_none;
        controller_low = λ t n. low_below (suc t) t (omega arith) n;
        controller_some = controller_some;
        present_task = λ i e.
            let n : at g.present i ≢ 0 = λ q. omega (arith, e, q) in
            let k = h.condition_numbers i (omega (arith, has_place g.present i n, h.shaped.present)) n in
            (k.0, omega (arith, k.1));
        line_present = h.line_has_condition;
        line_position = λ k l. omega (arith, (h.lines k l).position);
        line_flag_named = λ k l. (h.lines k l).flag;
        desired_le = bounded g.desired 1040 1 h.shaped.desired (λ i b. omega (arith, (h.conditions i b).desired, (h.conditions i b).present));
      }
