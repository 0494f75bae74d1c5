-- Each test of Tests.antt is true exactly when its rule of Rules.antt holds; all together, `right_b` is true of exactly the right
-- rigs.
use Rattle.std.specs.Prelude.{List, ℕ, ◌≤◌, ◌<◌, ◌+◌, ◌-◌, ◌*◌, eqb, length, get_or, ◌≡◌, ◌≢◌}
use Rattle.laws.specs.All.{all_of}
use Rattle.laws.specs.Laws.All.{all_of_at, all_of_cons, all_of_nil}
use Rattle.rig_tables.specs.Tests.{at, within, small_b, conditions_b, lines_rise_b, cycle_rises, condition_tasks_b, lines_b, cycle_small, serves_one_b, not_minor_b, named_b, used_b, minor_conditions_b, task_zeros_b, line_zeros_b, rises_test}
use Rattle.std.proofs.Math.Path.{sym}
use Rattle.std.proofs.Common.{◌∙◌, ap, inl, inr, ⊎_elim, arith, lt-ltb, eqb-true, eq-eqb, leb-true, le-leb, ltb-true}
use Rattle.std.proofs.lemmas.Bool.{eqb-false}
use Rattle.laws.specs.Cases.{by}
use Rattle.laws.specs.Decides.{Is}
use Rattle.laws.specs.Laws.Decides.{is_eqb, is_and, is_not, is_any, is_said, is_leb, is_else, is_all, is_ltb, is_then, is_if}
use Rattle.laws.specs.Members.{In}
use Rattle.laws.specs.Laws.Members.{in_at, at_in}
use Rattle.rig_activation.specs.Laws.Served.{serves_is}
use Rattle.rig.specs.declared.Row.{Row}
use Rattle.rig.specs.declared.Cycle.{Cycle}
use Rattle.rig.specs.declared.Rig.{Rig}
use Rattle.rig.specs.Rules.{no_row, no_cycle, periods, at, flag_at, row_at, line_place, Conditions, RowSizes, Rows, Rises, LineOrder, CycleOrder, ConditionNumbers, Lines, CycleNumbers, ActivationServesOne, ActivationNotMinor, LineHasCondition, ConditionHasLine, MinorConditions, SenderDiffers, TaskZeros, LineZeros, RowZeros}
use Rattle.rig_rows.specs.Tests.{listed_b, row_tests, rows_b, differ_b, row_zero_tests, row_zero, row_zeros_b}
use Rattle.rig_cycles.specs.Tests.{cycles_rise_b, cycles_small_b, minor_b}
use Rattle.rig_cycles.specs.Laws.Marks.{minor_is}

pub within_is : (low n high : ℕ) → Is (within low n high) ((low ≤ n) × (n ≤ high))
within_is low n high = is_and (is_leb low n) (is_leb n high)

pub small_is : (l : List ℕ) (top : ℕ) → Is (small_b l top) ((t : ℕ) → t < 65 → at l t ≤ top)
unfolding small_b
small_is l top = is_all 65 (λ t h. is_leb (at l t) top)

-- ---- rows

listed_is : (p : ℕ) → Is (listed_b p) (In p periods)
unfolding listed_b
listed_is p =
    is_said (is_any 7 (λ i h. is_eqb (at periods i) p)) (λ w. at_in p periods w.0 w.1 w.2)
    (λ i. let w = in_at p periods i in (w.0, w.1, w.2))

sizes_is : (b : Row) → Is (all_of (row_tests b)) (RowSizes b)
unfolding row_tests
sizes_is b = (
  (λ e.
      let k = all_of_at (row_tests b) e in
      record {
        sender = leb-true b.sender 31 (k 0);
        sender_sub = (within_is 1 b.sender_sub 30).0 (k 1);
        receiver = leb-true b.receiver 31 (k 2);
        receiver_sub = (within_is 1 b.receiver_sub 30).0 (k 3);
        words = (within_is 1 b.words 32).0 (k 4);
        period = (listed_is b.period).0 (k 5);
        phase = ltb-true b.phase b.period (k 6);
      }),
  (λ r.
      all_of_cons _ _ (le-leb b.sender 31 r.sender)
      (all_of_cons _ _ ((within_is 1 b.sender_sub 30).1 r.sender_sub)
      (all_of_cons _ _ (le-leb b.receiver 31 r.receiver)
      (all_of_cons _ _ ((within_is 1 b.receiver_sub 30).1 r.receiver_sub)
      (all_of_cons _ _ ((within_is 1 b.words 32).1 r.words)
      (all_of_cons _ _ ((listed_is b.period).1 r.period)
      (all_of_cons _ _ (lt-ltb b.phase b.period r.phase) all_of_nil))))))),
)

row_zero_is : (b : Row) → Is (row_zero b) (b ≡ no_row)
unfolding row_zero row_zero_tests
row_zero_is b = (
  (λ e.
      let k = all_of_at (row_zero_tests b) e in
      same b (eqb-true b.sender 0 (k 0)) (eqb-true b.sender_sub 0 (k 1)) (eqb-true b.receiver 0 (k 2)) (eqb-true b.receiver_sub 0 (k 3))
      (eqb-true b.words 0 (k 4)) (eqb-true b.period 0 (k 5)) (eqb-true b.phase 0 (k 6))),
  (λ e.
      all_of_cons _ _ (eq-eqb b.sender 0 (ap (λ (x : Row). x.sender) e))
      (all_of_cons _ _ (eq-eqb b.sender_sub 0 (ap (λ (x : Row). x.sender_sub) e))
      (all_of_cons _ _ (eq-eqb b.receiver 0 (ap (λ (x : Row). x.receiver) e))
      (all_of_cons _ _ (eq-eqb b.receiver_sub 0 (ap (λ (x : Row). x.receiver_sub) e))
      (all_of_cons _ _ (eq-eqb b.words 0 (ap (λ (x : Row). x.words) e))
      (all_of_cons _ _ (eq-eqb b.period 0 (ap (λ (x : Row). x.period) e))
      (all_of_cons _ _ (eq-eqb b.phase 0 (ap (λ (x : Row). x.phase) e)) all_of_nil))))))),
)
  where
    same : (b : Row) → b.sender ≡ 0 → b.sender_sub ≡ 0 → b.receiver ≡ 0 → b.receiver_sub ≡ 0 → b.words ≡ 0 → b.period ≡ 0 → b.phase ≡ 0 → b ≡ no_row
    same b p q r s t u v =
        ap
        (λ (x : ℕ).
        record { sender = x; sender_sub = b.sender_sub; receiver = b.receiver; receiver_sub = b.receiver_sub; words = b.words; period = b.period; phase = b.phase })
        p
        ∙ rw (q, r, s, t, u, v)

-- ---- orders

rises_is : (t p f u q h : ℕ) → Is (rises_test t p f u q h) (Rises t p f u q h)
rises_is t p f u q h =
    is_said (is_if (is_eqb t u) (is_if (is_eqb p q) (is_ltb f h) (is_ltb p q)) (is_ltb t u))
    (λ w.
    by (eqb t u)
    (λ e.
    let a = eqb-true t u e in
    let v = w.0 a in
    inr (a, by (eqb p q) (λ d. let c = eqb-true p q d in inr (c, v.0 c)) (λ d. inl (v.1 (eqb-false p q d)))))
    (λ e. inl (w.1 (eqb-false t u e))))
    (λ w. (
      (λ a.
          ⊎_elim (λ l. absurd (omega (arith, l)))
          (λ v. ((λ c. ⊎_elim (λ l. absurd (omega (arith, l))) (λ y. y.1) v.1), (λ c. ⊎_elim (λ l. l) (λ y. absurd (c y.0)) v.1)))
          w),
      (λ a. ⊎_elim (λ l. l) (λ v. absurd (a v.0)) w),
    ))

cycle_is : (flags : List ℕ) → Is (cycle_rises flags)
    ((length flags ≡ 15) × ((i : ℕ) → i < 14 → at flags (i + 1) ≢ 0 → (at flags i ≢ 0) × (at flags i < at flags (i + 1))))
unfolding cycle_rises
cycle_is flags =
    is_and (is_eqb (length flags) 15)
    (is_all 14 (λ i h. is_else (is_eqb (at flags (i + 1)) 0) (is_and (is_not (is_eqb (at flags i) 0)) (is_ltb (at flags i) (at flags (i + 1))))))

-- ---- each rule

module _ (g : Rig) (cycles : List Cycle) where
  pub conditions_is : Is (conditions_b g.present g.latched g.desired) (Conditions g)
  unfolding conditions_b
  conditions_is =
      is_all 1040 (λ p h.
      is_said
      (is_and (is_leb (at g.present p) 1)
      (is_and (is_leb (at g.latched p) (at g.present p)) (is_leb (at g.desired p) (at g.present p))))
      (λ w. record { present = w.0; latched = w.1.0; desired = w.1.1 })
      (λ r. (r.present, (r.latched, r.desired))))

  pub rows_is : Is (rows_b g.rows g.row) ((length g.row ≡ 64) × Rows g)
  unfolding rows_b
  rows_is = is_and (is_eqb (length g.row) 64) (is_all g.rows (λ k h. sizes_is (row_at g k)))

  pub line_order_is : Is (lines_rise_b g.lines g.line_task g.line_pos g.line_flag) (LineOrder g)
  unfolding lines_rise_b
  line_order_is =
      is_said
      (is_all (g.lines - 1) (λ k h.
      rises_is (at g.line_task k) (at g.line_pos k) (at g.line_flag k) (at g.line_task (k + 1)) (at g.line_pos (k + 1)) (at g.line_flag (k + 1))))
      (λ f k h. f k (omega arith))
      (λ f k h. f k (omega arith))

  pub cycle_order_is : Is (cycles_rise_b cycles)
      ((length cycles ≡ 64) × (((c : ℕ) → c < 64 → length (get_or cycles c no_cycle).flags ≡ 15) × CycleOrder cycles))
  unfolding cycles_rise_b
  cycle_order_is =
      is_and (is_eqb (length cycles) 64)
      (is_said (is_all 64 (λ c h. cycle_is (get_or cycles c no_cycle).flags))
      (λ f. ((λ c h. (f c h).0), (λ c h. (f c h).1)))
      (λ w c h. (w.0 c h, w.1 c h)))

  pub condition_numbers_is : Is (condition_tasks_b g.tasks g.present) (ConditionNumbers g)
  unfolding condition_tasks_b
  condition_numbers_is = is_all 1040 (λ p h. is_else (is_eqb (at g.present p) 0) (is_and (is_leb 16 p) (is_ltb p (16 * (g.tasks + 1)))))

  pub lines_is : Is (lines_b g.lines g.tasks g.flags g.line_task g.line_pos g.line_flag) (Lines g)
  unfolding lines_b
  lines_is =
      is_all g.lines (λ k h.
      is_said
      (is_and (within_is 1 (at g.line_task k) g.tasks)
      (is_and (is_leb (at g.line_pos k) 15) (within_is 1 (at g.line_flag k) g.flags)))
      (λ w. record { task = w.0; position = w.1.0; flag = w.1.1 })
      (λ r. (r.task, (r.position, r.flag))))

  pub cycle_numbers_is : Is (cycles_small_b g.flags cycles) (CycleNumbers g cycles)
  unfolding cycles_small_b cycle_small
  cycle_numbers_is = is_all 64 (λ c h. is_all 15 (λ i b. is_leb (flag_at cycles c i) g.flags))

  pub serves_one_is : Is (serves_one_b g.activation) (ActivationServesOne g)
  unfolding serves_one_b
  serves_one_is =
      is_said (is_all 65 (λ t h. serves_is g.activation t)) (λ f t u h b n e. sym (f t h n u b (sym e)))
      (λ f t h n u b e. sym (f t u h b n (sym e)))

  pub not_minor_is : Is (not_minor_b g.activation (minor_b cycles)) (ActivationNotMinor g cycles)
  unfolding not_minor_b
  not_minor_is = is_all 65 (λ t h. is_not (minor_is cycles (at g.activation t)))

  pub line_has_condition_is : Is (named_b g.lines g.present g.line_task g.line_pos) (LineHasCondition g)
  unfolding named_b
  line_has_condition_is = is_all g.lines (λ k h. is_eqb (at g.present (line_place g k)) 1)

  pub condition_has_line_is : Is (used_b g.lines g.present g.line_task g.line_pos) (ConditionHasLine g)
  unfolding used_b
  condition_has_line_is =
      is_all 1040 (λ p h. is_else (is_eqb (at g.present p) 0) (is_any g.lines (λ k b. is_eqb (line_place g k) p)))

  pub minor_conditions_is : Is (minor_conditions_b g.lines g.latched g.desired g.line_task g.line_pos g.line_flag (minor_b cycles)) (MinorConditions g cycles)
  unfolding minor_conditions_b
  minor_conditions_is =
      is_all g.lines (λ k h.
      is_then (minor_is cycles (at g.line_flag k))
      (is_said
      (is_and (is_all g.lines (λ j b. is_then (is_eqb (line_place g j) (line_place g k)) (is_eqb j k)))
      (is_and (is_eqb (at g.latched (line_place g k)) 0) (is_eqb (at g.desired (line_place g k)) 1)))
      (λ w. record { alone = w.0; unlatched = w.1.0; desires = w.1.1 })
      (λ r. (r.alone, (r.unlatched, r.desires)))))

  pub sender_differs_is : Is (differ_b g.rows g.row) (SenderDiffers g)
  unfolding differ_b
  sender_differs_is = is_all g.rows (λ k h. is_not (is_eqb (row_at g k).sender (row_at g k).receiver))

  pub task_zeros_is : Is (task_zeros_b g.tasks g.controller g.priority g.privileged g.activation) (TaskZeros g)
  unfolding task_zeros_b
  task_zeros_is =
      is_all 65 (λ t h.
      is_else (within_is 1 t g.tasks)
      (is_said
      (is_and (is_eqb (at g.controller t) 0)
      (is_and (is_eqb (at g.priority t) 0) (is_and (is_eqb (at g.privileged t) 0) (is_eqb (at g.activation t) 0))))
      (λ w. record { controller = w.0; priority = w.1.0; privileged = w.1.1.0; activation = w.1.1.1 })
      (λ r. (r.controller, (r.priority, (r.privileged, r.activation))))))

  pub line_zeros_is : Is (line_zeros_b g.lines g.line_task g.line_pos g.line_flag) (LineZeros g)
  unfolding line_zeros_b
  line_zeros_is =
      is_all 1024 (λ k h.
      is_said
      (is_else (is_ltb k g.lines)
      (is_and (is_eqb (at g.line_task k) 0) (is_and (is_eqb (at g.line_pos k) 0) (is_eqb (at g.line_flag k) 0))))
      (λ f b. let w = f (λ y. omega arith) in record { task = w.0; position = w.1.0; flag = w.1.1 })
      (λ f n. let r = f (omega (arith, n)) in (r.task, (r.position, r.flag))))

  pub row_zeros_is : Is (row_zeros_b g.rows g.row) (RowZeros g)
  unfolding row_zeros_b
  row_zeros_is =
      is_all 64 (λ k h.
      is_said (is_else (is_ltb k g.rows) (row_zero_is (row_at g k))) (λ f b. f (λ y. omega arith)) (λ f n. f (omega (arith, n))))
