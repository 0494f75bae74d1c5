-- `right_b` is true of exactly the right rigs, and the number that `first_broken` gives is that of a rule which does not hold.
use Rattle.std.specs.Prelude.{Bool, true, List, [], ◌∷◌, ℕ, ◌+◌, ◌≤◌, ◌<◌, eqb, length, ◌≡◌, ◌↔◌}
use Rattle.laws.specs.All.{all_of}
use Rattle.laws.specs.Laws.All.{all_of_at, all_of_cons, all_of_nil}
use Rattle.laws.specs.First.{first_false}
use Rattle.laws.specs.Laws.First.{first_all, all_first}
use Rattle.rig_tables.specs.Tests.{at, controllers_b, serves_one_b, named_b, used_b, marked, place, lines_rise_b}
use Rattle.std.proofs.Common.{sym, ◌∙◌, ap, ⊎_elim, arith}
use borrow.Author.Tests.{eqb-true, eqb-false, eq-eqb, leb-true, le-leb}
use Rattle.laws.specs.Cases.{by}
use Rattle.laws.specs.Laws.Decides.{is_eqb, is_said}
use Rattle.rig_tables.specs.Lines.{LinesFit, Together}
use Rattle.rig_conditions.specs.Tables.{Ends}
use Rattle.rig.specs.declared.Cycle.{Cycle}
use Rattle.rig.specs.declared.Rig.{Rig}
use Rattle.rig.specs.Rules.{flag_at, Shaped, Right, Rises}
use Rattle.rig_cycles.specs.Tests.{cycles_rise_b, minor_marks}
use Rattle.rig_cycles.specs.Laws.Marks.{not_minor_law, minor_conditions_law}
use Rattle.rig_whole.specs.Tests.{shaped_tests, count_tests, order_tests, number_tests, task_tests, line_tests, task_group, line_group, tests, first_broken, right_b}
use Rattle.rig_whole.specs.Laws.Tree.{controllers_is}
use Rattle.rig_whole.specs.Laws.Exact.{within_is, small_is, conditions_is, rows_is, line_order_is, cycle_order_is, condition_numbers_is, lines_is, cycle_numbers_is, serves_one_is, not_minor_is, line_has_condition_is, condition_has_line_is, minor_conditions_is, sender_differs_is, task_zeros_is, line_zeros_is, row_zeros_is}

pub lengths_hold : (g : Rig) → length g.controller ≡ 65 → length g.priority ≡ 65 → length g.privileged ≡ 65 → length g.activation ≡ 65
    → length g.present ≡ 1040 → length g.latched ≡ 1040 → length g.desired ≡ 1040 → length g.line_task ≡ 1024 → length g.line_pos ≡ 1024
    → length g.line_flag ≡ 1024 → all_of (shaped_tests g) ≡ true
unfolding shaped_tests
lengths_hold g a b c d e f h i j k =
    all_of_cons _ _ (eq-eqb (length g.controller) 65 a)
    (all_of_cons _ _ (eq-eqb (length g.priority) 65 b)
    (all_of_cons _ _ (eq-eqb (length g.privileged) 65 c)
    (all_of_cons _ _ (eq-eqb (length g.activation) 65 d)
    (all_of_cons _ _ (eq-eqb (length g.present) 1040 e)
    (all_of_cons _ _ (eq-eqb (length g.latched) 1040 f)
    (all_of_cons _ _ (eq-eqb (length g.desired) 1040 h)
    (all_of_cons _ _ (eq-eqb (length g.line_task) 1024 i)
    (all_of_cons _ _ (eq-eqb (length g.line_pos) 1024 j) (all_of_cons _ _ (eq-eqb (length g.line_flag) 1024 k) all_of_nil)))))))))

module _ (g : Rig) (cycles : List Cycle) where
  -- what the tests say, test by test
  tests_facts : all_of (tests g cycles) ≡ true → Right g cycles
  unfolding tests shaped_tests
  tests_facts e =
      let k = all_of_at (tests g cycles) e in
      let s = all_of_at (shaped_tests g) (k 25) in
      let few = (within_is 1 g.tasks 64).0 (k 0) in
      let row = (rows_is g cycles).0 (k 8) in
      let order = (cycle_order_is g cycles).0 (k 10) in
      record {
        task_count = few;
        flag_count = (within_is 1 g.flags 128).0 (k 1);
        master_address = leb-true g.master 31 (k 2);
        line_count = leb-true g.lines 1024 (k 3);
        row_count = leb-true g.rows 64 (k 4);
        priorities = (small_is g.priority 255).0 (k 5);
        privileges = (small_is g.privileged 1).0 (k 6);
        conditions = (conditions_is g cycles).0 (k 7);
        rows = row.1;
        line_order = (line_order_is g cycles).0 (k 9);
        cycle_order = order.1.1;
        activation_numbers = (small_is g.activation g.flags).0 (k 11);
        condition_numbers = (condition_numbers_is g cycles).0 (k 12);
        lines = (lines_is g cycles).0 (k 13);
        cycle_numbers = (cycle_numbers_is g cycles).0 (k 14);
        controllers = (controllers_is g few.1).0 (k 15);
        activation_serves_one = (serves_one_is g cycles).0 (k 16);
        activation_not_minor = (not_minor_is g cycles).0 (k 17);
        line_has_condition = (line_has_condition_is g cycles).0 (k 18);
        condition_has_line = (condition_has_line_is g cycles).0 (k 19);
        minor_conditions = (minor_conditions_is g cycles).0 (k 20);
        sender_differs = (sender_differs_is g cycles).0 (k 21);
        task_zeros = (task_zeros_is g cycles).0 (k 22);
        line_zeros = (line_zeros_is g cycles).0 (k 23);
        row_zeros = (row_zeros_is g cycles).0 (k 24);
        shaped =
            record {
              controller = eqb-true (length g.controller) 65 (s 0);
              priority = eqb-true (length g.priority) 65 (s 1);
              privileged = eqb-true (length g.privileged) 65 (s 2);
              activation = eqb-true (length g.activation) 65 (s 3);
              present = eqb-true (length g.present) 1040 (s 4);
              latched = eqb-true (length g.latched) 1040 (s 5);
              desired = eqb-true (length g.desired) 1040 (s 6);
              line_task = eqb-true (length g.line_task) 1024 (s 7);
              line_pos = eqb-true (length g.line_pos) 1024 (s 8);
              line_flag = eqb-true (length g.line_flag) 1024 (s 9);
              row = row.0;
              sixty_four = order.0;
              fifteen = order.1.0;
            };
      }

  shaped_back : Shaped g cycles → all_of (shaped_tests g) ≡ true
  shaped_back s =
      lengths_hold g s.controller s.priority s.privileged s.activation s.present s.latched s.desired s.line_task s.line_pos s.line_flag

  tests_back : Right g cycles → all_of (tests g cycles) ≡ true
  unfolding tests
  tests_back r =
      all_of_cons _ _ ((within_is 1 g.tasks 64).1 r.task_count)
      (all_of_cons _ _ ((within_is 1 g.flags 128).1 r.flag_count)
      (all_of_cons _ _ (le-leb g.master 31 r.master_address)
      (all_of_cons _ _ (le-leb g.lines 1024 r.line_count)
      (all_of_cons _ _ (le-leb g.rows 64 r.row_count)
      (all_of_cons _ _ ((small_is g.priority 255).1 r.priorities)
      (all_of_cons _ _ ((small_is g.privileged 1).1 r.privileges)
      (all_of_cons _ _ ((conditions_is g cycles).1 r.conditions)
      (all_of_cons _ _ ((rows_is g cycles).1 (r.shaped.row, r.rows))
      (all_of_cons _ _ ((line_order_is g cycles).1 r.line_order)
      (all_of_cons _ _ ((cycle_order_is g cycles).1 (r.shaped.sixty_four, (r.shaped.fifteen, r.cycle_order)))
      (all_of_cons _ _ ((small_is g.activation g.flags).1 r.activation_numbers)
      (all_of_cons _ _ ((condition_numbers_is g cycles).1 r.condition_numbers)
      (all_of_cons _ _ ((lines_is g cycles).1 r.lines)
      (all_of_cons _ _ ((cycle_numbers_is g cycles).1 r.cycle_numbers)
      (all_of_cons _ _ ((controllers_is g r.task_count.1).1 r.controllers)
      (all_of_cons _ _ ((serves_one_is g cycles).1 r.activation_serves_one)
      (all_of_cons _ _ ((not_minor_is g cycles).1 r.activation_not_minor)
      (all_of_cons _ _ ((line_has_condition_is g cycles).1 r.line_has_condition)
      (all_of_cons _ _ ((condition_has_line_is g cycles).1 r.condition_has_line)
      (all_of_cons _ _ ((minor_conditions_is g cycles).1 r.minor_conditions)
      (all_of_cons _ _ ((sender_differs_is g cycles).1 r.sender_differs)
      (all_of_cons _ _ ((task_zeros_is g cycles).1 r.task_zeros)
      (all_of_cons _ _ ((line_zeros_is g cycles).1 r.line_zeros)
      (all_of_cons _ _ ((row_zeros_is g cycles).1 r.row_zeros)
      (all_of_cons _ _ (shaped_back r.shaped) all_of_nil)))))))))))))))))))))))))

  -- THE LAW: the check's answer is exactly that the rig obeys every rule
  pub right_is : (right_b g cycles ≡ true) ↔ Right g cycles
  unfolding right_b first_broken
  right_is =
      is_said (is_eqb (first_broken g cycles) 0) (λ e. tests_facts (first_all 1 (tests g cycles) (omega arith) e))
      (λ r. all_first 1 (tests g cycles) (tests_back r))

  -- no rule is broken exactly when the rig is right
  pub broken_none : (first_broken g cycles ≡ 0) ↔ Right g cycles
  unfolding first_broken
  broken_none =
      ((λ e. tests_facts (first_all 1 (tests g cycles) (omega arith) e)), (λ r. all_first 1 (tests g cycles) (tests_back r)))

-- ---- what the groups of tests give the code that comes after them

pub record Counted (tasks flags lines rows : ℕ) : Type 0 where
  pub some : 1 ≤ tasks
  pub tasks_le : tasks ≤ 64
  pub flags_le : flags ≤ 128
  pub lines_le : lines ≤ 1024
  pub rows_le : rows ≤ 64

pub counted : (tasks flags master lines rows r : ℕ) → r ≡ first_false 1 (count_tests tasks flags master lines rows) → r ≡ 0
    → Counted tasks flags lines rows
counted tasks flags master lines rows r e z =
    let k = all_of_at (count_tests tasks flags master lines rows) (first_all 1 (count_tests tasks flags master lines rows) (omega arith) (sym e ∙ z)) in
    record {
      some = ((within_is 1 tasks 64).0 (k 0)).0;
      tasks_le = ((within_is 1 tasks 64).0 (k 0)).1;
      flags_le = ((within_is 1 flags 128).0 (k 1)).1;
      lines_le = leb-true lines 1024 (k 3);
      rows_le = leb-true rows 64 (k 4);
    }

pub risen : (lines : ℕ) (line_task line_pos line_flag : List ℕ) (cycles : List Cycle) (r : ℕ) → r ≡ first_false 10 (order_tests lines line_task line_pos line_flag cycles)
    → r ≡ 0 → (lines_rise_b lines line_task line_pos line_flag ≡ true) × (cycles_rise_b cycles ≡ true)
risen lines line_task line_pos line_flag cycles r e z =
    let k = all_of_at (order_tests lines line_task line_pos line_flag cycles) (first_all 10 (order_tests lines line_task line_pos line_flag cycles) (omega arith) (sym e ∙ z)) in
    (k 0, k 1)

pub record Numbered (g : Rig) (cycles : List Cycle) : Type 0 where
  pub activation : (t : ℕ) → t < 65 → at g.activation t ≤ 128
  pub fit : LinesFit g.lines g.line_task g.line_pos g.line_flag
  pub together : Together g.lines g.line_task g.line_pos
  pub ends : Ends g.tasks g.lines g.present g.line_task g.line_pos
  pub minor : (c : ℕ) → c < 64 → (i : ℕ) → i < 15 → flag_at cycles c i ≤ 128

-- lines that rise, with positions of 15 at most, have places that do not fall
place_le : (t p f u q h : ℕ) → p ≤ 15 → Rises t p f u q h → place t p ≤ place u q
place_le t p f u q h b =
    ⊎_elim (λ w. omega (arith, w, b)) (λ w. ⊎_elim (λ v. omega (arith, w.0, v)) (λ v. omega (arith, w.0, v.0)) w.1)

pub numbered : (g : Rig) (cycles : List Cycle) (r : ℕ) → Counted g.tasks g.flags g.lines g.rows
    → lines_rise_b g.lines g.line_task g.line_pos g.line_flag ≡ true
    → r ≡ first_false 12 (number_tests g.tasks g.flags g.lines g.activation g.present g.line_task g.line_pos g.line_flag cycles) → r ≡ 0
    → Numbered g cycles
numbered g cycles r n order e z =
    let l : List Bool = number_tests g.tasks g.flags g.lines g.activation g.present g.line_task g.line_pos g.line_flag cycles in
    let k = all_of_at l (first_all 12 l (omega arith) (sym e ∙ z)) in
    let lines = (lines_is g cycles).0 (k 2) in
    record {
      activation = λ t h. omega (arith, (small_is g.activation g.flags).0 (k 0) t h, n.flags_le);
      fit =
          record {
            placed =
                record {
                  few = n.lines_le;
                  low = λ i h. let w = lines i h in omega (arith, w.task.1, w.position, n.tasks_le);
                };
            flags = λ i h. omega (arith, (lines i h).flag.1, n.flags_le);
          };
      together =
          λ k h.
          place_le (at g.line_task k) (at g.line_pos k) (at g.line_flag k) (at g.line_task (k + 1)) (at g.line_pos (k + 1)) (at g.line_flag (k + 1))
          (lines k (omega (arith, h))).position
          ((line_order_is g cycles).0 order k h);
      ends =
          record {
            few = n.tasks_le;
            conditions =
                λ p h b.
                by (eqb (at g.present p) 0) (eqb-true (at g.present p) 0)
                (λ q. absurd (omega (arith, h, ((condition_numbers_is g cycles).0 (k 1) p b (eqb-false (at g.present p) 0 q)).1)));
            lines = λ i h. let w = lines i h in omega (arith, w.task.1, w.position);
          };
      minor = λ c h i b. omega (arith, (cycle_numbers_is g cycles).0 (k 3) c h i b, n.flags_le);
    }

-- the answers of the two groups that go by the table of minor-cycle flags
module _ (g : Rig) (cycles : List Cycle) (n : Numbered g cycles) (table : List ℕ) (e : table ≡ minor_marks cycles) (r : ℕ) where
  pub task_answer : r ≡ first_false 16 (task_tests g.tasks g.controller g.activation (marked table)) → r ≡ first_false 16 (task_group g cycles)
  task_answer q =
      q
      ∙ ap (λ (l : List ℕ). first_false 16 (task_tests g.tasks g.controller g.activation (marked l))) e
      ∙ ap (λ (b : Bool). first_false 16 (controllers_b g.tasks g.controller ∷ serves_one_b g.activation ∷ b ∷ []))
      (not_minor_law g.activation cycles n.activation)

  pub line_answer : r ≡ first_false 19 (line_tests g.lines g.present g.latched g.desired g.line_task g.line_pos g.line_flag (marked table))
      → r ≡ first_false 19 (line_group g cycles)
  line_answer q =
      q
      ∙ ap (λ (l : List ℕ). first_false 19 (line_tests g.lines g.present g.latched g.desired g.line_task g.line_pos g.line_flag (marked l))) e
      ∙ ap (λ (b : Bool). first_false 19 (named_b g.lines g.present g.line_task g.line_pos ∷ used_b g.lines g.present g.line_task g.line_pos ∷ b ∷ []))
      (minor_conditions_law g.lines g.latched g.desired g.line_task g.line_pos g.line_flag cycles n.fit.flags)
