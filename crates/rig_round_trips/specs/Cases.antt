-- What one line more does, by cases: each fact about it is proved once for each part that it may touch.
-- Assumes nothing.
use Rattle.std.specs.Prelude.{ℕ, ◌≤◌, ◌<◌, ◌≡◌, List, eqb, ltb, get_or}
use Rattle.std.proofs.Common.{eqb-true, ltb-true, ltb-false}
use Rattle.std.proofs.lemmas.Bool.{eqb-false}
use Rattle.laws.specs.Cases.{by}
use Rattle.rig.specs.declared.Rig.{Rig}
use Rattle.rig_tables.specs.Tests.{place}
use Rattle.rig_round_trips.specs.Built.{Marks, Built, built, with_counts, with_task, with_condition, with_line, row_of, with_row, has_line, many_lines, many_rows, many_flags, one_flag, put_flag, by_kind}

-- a property of what a line of kind k does, by kind and room
pub record Cases (P : Built → Type 0) (k : ℕ) (g : Rig) (t : List (List ℕ)) (m : Marks) (v : ℕ → ℕ) : Type 0 where
  pub counts : k ≡ 1 → P (built (with_counts g v) t m)
  pub task : k ≡ 2 → P (built (with_task g (v 0) v) t (has_line m (v 0)))
  pub condition : k ≡ 3 → P (built (with_condition g (place (v 0) (v 1)) v) t m)
  pub line : k ≡ 4 → g.lines < 1024 → P (built (with_line g g.lines v) t m)
  pub many : k ≡ 4 → 1024 ≤ g.lines → P (built g t (many_lines m))
  pub flag : k ≡ 5 → get_or m.inside (v 0) 0 < 15 → P (built g (put_flag t (v 0) (get_or m.inside (v 0) 0) (v 1)) (one_flag m (v 0) (get_or m.inside (v 0) 0)))
  pub crowded : k ≡ 5 → 15 ≤ get_or m.inside (v 0) 0 → P (built g t (many_flags m))
  pub row : (k ≡ 4 → ⊥) → (k ≡ 5 → ⊥) → (k ≡ 2 → ⊥) → (k ≡ 1 → ⊥) → (k ≡ 3 → ⊥) → g.rows < 64 → P (built (with_row g g.rows (row_of v)) t m)
  pub rows : (k ≡ 4 → ⊥) → (k ≡ 5 → ⊥) → (k ≡ 2 → ⊥) → (k ≡ 1 → ⊥) → (k ≡ 3 → ⊥) → 64 ≤ g.rows → P (built g t (many_rows m))

pub by_cases : (P : Built → Type 0) (k : ℕ) (g : Rig) (t : List (List ℕ)) (m : Marks) (v : ℕ → ℕ) → Cases P k g t m v → P (by_kind k g t m v)
unfolding by_kind
by_cases P k g t m v w =
    by (eqb k 1)
    (λ a. rw a (w.counts (eqb-true k 1 a)))
    (λ a. rw a (by (eqb k 2)
    (λ b. rw b (w.task (eqb-true k 2 b)))
    (λ b. rw b (by (eqb k 3)
    (λ c. rw c (w.condition (eqb-true k 3 c)))
    (λ c. rw c (by (eqb k 4)
    (λ d. rw d (by (ltb g.lines 1024) (λ h. rw h (w.line (eqb-true k 4 d) (ltb-true _ _ h))) (λ h. rw h (w.many (eqb-true k 4 d) (ltb-false _ _ h)))))
    (λ d. rw d (by (eqb k 5)
    (λ e. rw e (by (ltb (get_or m.inside (v 0) 0) 15) (λ h. rw h (w.flag (eqb-true k 5 e) (ltb-true _ _ h))) (λ h. rw h (w.crowded (eqb-true k 5 e) (ltb-false _ _ h)))))
    (λ e. rw e (by (ltb g.rows 64)
    (λ h. rw h (w.row (eqb-false k 4 d) (eqb-false k 5 e) (eqb-false k 2 b) (eqb-false k 1 a) (eqb-false k 3 c) (ltb-true _ _ h)))
    (λ h. rw h (w.rows (eqb-false k 4 d) (eqb-false k 5 e) (eqb-false k 2 b) (eqb-false k 1 a) (eqb-false k 3 c) (ltb-false _ _ h)))))))))))))
