-- The rig of "A bench morning" is a right rig: the premises of the theorems can be met, and the theorems speak of it.
use Rattle.std.specs.Prelude.{◌≡◌, refl, ◌≢◌, List, [], ◌∷◌, ℕ, zero, suc, ◌≤◌, ◌<◌, eqb, get_or}
use Rattle.std.proofs.Common.{sym, ◌∙◌, subst, arith, eqb-true}
use Rattle.std.proofs.lemmas.Bool.{eqb-false}
use Rattle.laws.specs.Cases.{by}
use Rattle.rules.specs.Rig.{place_of}
use Rattle.rules.specs.RigOk.{RigOk}
use Rattle.rules.specs.Scripts.{TaskLine, T, of_task, of_condition, numbers, of_line, of_cycle, rig, bench}

-- P holds of each line's task and its column n
abbrev Lines : (ℕ → ℕ → Type 0) → ℕ → List TaskLine → Type 0
Lines P n [] = Unit {0}
Lines P n (T task c p v a ∷ ls) = P task (get_or (task ∷ c ∷ p ∷ v ∷ a ∷ []) n 0) × Lines P n ls

-- task t has no line
abbrev Missing : ℕ → List TaskLine → Type 0
Missing t [] = Unit {0}
Missing t (T task c p v a ∷ ls) = (task ≢ t) × Missing t ls

-- then it holds of every task, if it holds of 0 where there is no line
of_task_lem : (P : ℕ → ℕ → Type 0) (n : ℕ) (ls : List TaskLine) → Lines P n ls → (t : ℕ) → (Missing t ls → P t 0) → P t (of_task n ls t)
unfolding of_task
of_task_lem P n [] h t d = d tt
of_task_lem P n (T task c p v a ∷ ls) h t d =
    by (eqb task t)
    (λ e. rw e (subst (λ (u : ℕ). P u (get_or (task ∷ c ∷ p ∷ v ∷ a ∷ []) n 0)) (eqb-true task t e) h.0))
    (λ e. rw e (of_task_lem P n ls h.1 t (λ m. d (eqb-false task t e, m))))

-- the T lines of the bench
abbrev lines : List TaskLine
lines = T 1 0 10 0 0 ∷ T 2 1 20 0 3 ∷ T 3 1 20 0 0 ∷ []

-- only task 2 has an activation flag, which is 3
only_two : (t : ℕ) → bench.activation t ≢ 0 → (t ≡ 2) × (bench.activation t ≡ 3)
unfolding bench rig
only_two t =
    of_task_lem (λ u v. v ≢ 0 → (u ≡ 2) × (v ≡ 3)) 4 lines ((λ n. absurd (n refl)), ((λ n. (refl, refl)), ((λ n. absurd (n refl)), tt))) t
    (λ m n. absurd (n refl))

-- only flag 1 is a minor-cycle flag
only_one : (c i : ℕ) → bench.minor c i ≤ 1
unfolding bench rig of_cycle
only_one c i = by (eqb 4 c) (λ e. rw e (go i)) (λ e. rw e (omega arith))
  where
    go : (k : ℕ) → get_or (1 ∷ []) k 0 ≤ 1
    go zero = omega arith
    go (suc k) = omega arith

-- conditions are at places 32 and 48
two_conditions : (i : ℕ) → bench.present i ≡ 1 → (16 ≤ i) × (i < 64)
unfolding bench rig of_condition
two_conditions i =
    by (eqb 32 i)
    (λ e h. let q : 32 ≡ i = eqb-true 32 i e in (omega arith, omega arith))
    (λ e. rw e (by (eqb 48 i) (λ f h. let q : 48 ≡ i = eqb-true 48 i f in (omega arith, omega arith)) (λ f. rw f (λ h. absurd (omega arith)))))

line_there : (k : ℕ) → k < 2 → bench.present (place_of (bench.line_task k) (bench.line_pos k)) ≡ 1
unfolding bench rig of_condition of_line numbers
line_there zero h = refl
line_there (suc zero) h = refl
line_there (suc (suc k)) h = absurd (omega arith)

low_position : (k : ℕ) → k < 2 → bench.line_pos k < 16
unfolding bench rig of_line numbers
low_position zero h = omega arith
low_position (suc zero) h = omega arith
low_position (suc (suc k)) h = absurd (omega arith)

low_flag : (k : ℕ) → k < 2 → (1 ≤ bench.line_flag k) × (bench.line_flag k ≤ 4)
unfolding bench rig of_line numbers
low_flag zero h = (omega arith, omega arith)
low_flag (suc zero) h = (omega arith, omega arith)
low_flag (suc (suc k)) h = absurd (omega arith)

low_desired : (i : ℕ) → bench.desired i ≤ 1
unfolding bench rig of_condition
low_desired i = by (eqb 32 i) (λ e. rw e (omega arith)) (λ e. rw e (by (eqb 48 i) (λ f. rw f (omega arith)) (λ f. rw f (omega arith))))

pub bench_ok : RigOk bench
unfolding bench rig of_task
bench_ok =
    record {
      tasks_some = omega arith;
      tasks_le = omega arith;
      flags_le = omega arith;
      priority_le = λ t. of_task_lem (λ u v. v ≤ 255) 2 lines (omega arith, (omega arith, (omega arith, tt))) t (λ m. omega arith);
      activation_task = λ t n. let e = (only_two t n).0 in (omega arith, omega arith);
      activation_le = λ t. of_task_lem (λ u v. v ≤ 4) 4 lines (omega arith, (omega arith, (omega arith, tt))) t (λ m. omega arith);
      activation_unique = λ t u n e. (only_two t n).0 ∙ sym (only_two u (λ z. n (e ∙ z))).0;
      activation_not_minor = λ t c i lc li n e. omega (arith, only_one c i, (only_two t n).1, e);
      minor_le = λ c i lc li. omega (arith, only_one c i);
      controller_none = refl;
      controller_low = λ t. of_task_lem (λ u v. u ≢ 0 → v < u) 1 lines
          ((λ n. omega arith), ((λ n. omega arith), ((λ n. omega arith), tt))) t (λ m n. omega arith);
      controller_some = λ t. of_task_lem (λ u v. 2 ≤ u → u ≤ 3 → v ≢ 0) 1 lines
          ((λ a b. absurd (omega arith)), ((λ a b z. omega arith), ((λ a b z. omega arith), tt))) t
          (λ m a b. absurd (omega (arith, m.1.0, m.1.1.0)));
      present_task = two_conditions;
      line_present = line_there;
      line_position = low_position;
      line_flag_named = low_flag;
      desired_le = low_desired;
    }
