-- The rules over the whole file that only lines show: the tests hold exactly when the words do; and what one line more does to what they count.
--     line_rules    no test of `line_tests` fails ↔ `LineRules`
--     many_snoc, every_snoc    one line more at the end
-- Assumes nothing.
use Rattle.std.specs.Prelude.{ℕ, zero, suc, ◌+◌, ◌≤◌, ◌<◌, ◌≡◌, refl, ◌↔◌, Bool, true, false, cond, ◌&&◌, List, [], ◌∷◌, ◌++◌, leb, ltb}
use Rattle.std.proofs.Common.{sym, ap, ◌∙◌, inl, inr, ⊎_elim, arith, ltb-true, lt-ltb}
use Rattle.laws.specs.Cases.{by}
use Rattle.laws.specs.All.{all}
use Rattle.laws.specs.Laws.All.{all_of_at, all_of_cons, all_of_nil}
use Rattle.laws.specs.First.{first_false}
use Rattle.laws.specs.Laws.First.{first_all, all_first}
use Rattle.laws.specs.Decides.{Is}
use Rattle.laws.specs.Laws.Decides.{is_eqb, is_leb, is_and, is_if, is_all, is_said}
use Rattle.rig_lines.specs.Kinds.{kind_t, kind_a, kind_b, count_of, sort_of, names_task, names_flag, under}
use Rattle.rig_lines.specs.Line.{Line}
use Rattle.rig_lines.specs.Laws.Kinds.{is_always}
use Rattle.rig_lines.specs.Whole.{number_of, is_kind, is_task_line, is_flag_line, how_many, every, tasks_of, flags_of, number_under, line_under, has_task, few_flags, line_tests, EachLine, SomeLine, NoneAbove, LineRules}

-- ---- one line more

pub many_snoc : (is : Line → Bool) (rs : List Line) (r : Line) → how_many is (rs ++ (r ∷ [])) ≡ cond (is r) (how_many is rs + 1) (how_many is rs)
unfolding how_many
many_snoc is [] r = by (is r) (λ e. rw e) (λ e. rw e)
many_snoc is (q ∷ rs) r =
    let i = many_snoc is rs r in
    by (is q) (λ e. rw (e, i) (under_suc (is r))) (λ e. rw (e, i))
  where
    under_suc : (b : Bool) → suc (cond b (how_many is rs + 1) (how_many is rs)) ≡ cond b (suc (how_many is rs) + 1) (suc (how_many is rs))
    under_suc true = omega arith
    under_suc false = refl

pub every_snoc : (is : Line → Bool) (rs : List Line) (r : Line) → every is (rs ++ (r ∷ [])) ≡ (every is rs && is r)
unfolding every
every_snoc is [] r = by (is r) (λ e. rw e) (λ e. rw e)
every_snoc is (q ∷ rs) r = by (is q) (λ e. rw e (every_snoc is rs r)) (λ e. rw e)

-- ---- tests and words

every_is : {P : Line → Type 0} (is : Line → Bool) → ((r : Line) → Is (is r) (P r)) → (rs : List Line) → Is (every is rs) (EachLine P rs)
unfolding every
every_is is h [] = (λ _. tt, λ _. refl)
every_is is h (r ∷ rs) = is_and (h r) (every_is is h rs)

some_is : {P : Line → Type 0} (is : Line → Bool) → ((r : Line) → Is (is r) (P r)) → (rs : List Line) → Is (ltb 0 (how_many is rs)) (SomeLine P rs)
unfolding how_many
some_is is h [] = (λ e. absurd (let z = ltb-true 0 0 e in omega arith), λ z. absurd z)
some_is {P} is h (r ∷ rs) =
    by (is r)
    (λ e. (λ _. inl ((h r).0 e), λ _. rw e (lt-ltb 0 (suc (how_many is rs)) (omega arith))))
    (λ e. (
      λ t. inr ((some_is is h rs).0 (rw e at t)),
      λ w. rw e (⊎_elim (λ p. absurd (let z : ◌≡◌ {A = ℕ} 0 1 = ap (λ (b : Bool). cond {A = ℕ} b 1 0) (sym e ∙ (h r).1 p) in omega arith)) (λ q. (some_is is h rs).1 q) w),
    ))

under_is : (tasks flags : ℕ) (r : Line) (f : ℕ) → Is (number_under tasks flags r f) ((sort_of r.kind f ≡ names_task → number_of f r ≤ tasks) × (sort_of r.kind f ≡ names_flag → number_of f r ≤ flags))
unfolding under
under_is tasks flags r f =
    is_said (is_if (is_eqb (sort_of r.kind f) names_task) (is_leb (number_of f r) tasks) (is_if (is_eqb (sort_of r.kind f) names_flag) (is_leb (number_of f r) flags) is_always))
    (λ w. (w.0, λ e. (w.1 (λ d. omega arith)).0 e))
    (λ w. (w.0, λ n. (w.1, λ _. tt)))

line_is : (tasks flags : ℕ) (r : Line) → Is (line_under tasks flags r) (NoneAbove tasks flags r)
line_is tasks flags r =
    is_said (is_all (count_of r.kind) (λ f _. under_is tasks flags r f))
    (λ w. record { task = λ f h. (w f h).0; flag = λ f h. (w f h).1 })
    (λ w f h. (w.task f h, w.flag f h))

task_is : (rs : List Line) → Is (all (tasks_of rs) (has_task rs)) ((t : ℕ) → 1 ≤ t → t ≤ tasks_of rs → SomeLine (λ r. (r.kind ≡ kind_t) × (number_of 0 r ≡ t)) rs)
task_is rs =
    is_said (is_all (tasks_of rs) (λ i _. some_is (is_task_line (suc i)) (λ r. is_and (is_eqb r.kind kind_t) (is_eqb (number_of 0 r) (suc i))) rs))
    (λ w t h k. from w t h k)
    (λ w i h. w (suc i) (omega arith) (omega arith))
  where
    from : ((i : ℕ) → i < tasks_of rs → SomeLine (λ r. (r.kind ≡ kind_t) × (number_of 0 r ≡ suc i)) rs) → (t : ℕ) → 1 ≤ t → t ≤ tasks_of rs → SomeLine (λ r. (r.kind ≡ kind_t) × (number_of 0 r ≡ t)) rs
    from w zero h k = absurd (omega arith)
    from w (suc i) h k = w i (omega arith)

flags_is : (rs : List Line) → Is (all 64 (few_flags rs)) ((c : ℕ) → c < 64 → how_many (is_flag_line c) rs ≤ 15)
flags_is rs = is_all 64 (λ c _. is_leb (how_many (is_flag_line c) rs) 15)

pub line_rules : (rs : List Line) → (first_false 1 (line_tests rs) ≡ 0) ↔ LineRules rs
unfolding line_tests
line_rules rs = (there, back)
  where
    there : first_false 1 (line_tests rs) ≡ 0 → LineRules rs
    there e =
        let f = all_of_at (every (line_under (tasks_of rs) (flags_of rs)) rs ∷ leb (how_many (is_kind kind_a) rs) 1024 ∷ leb (how_many (is_kind kind_b) rs) 64 ∷ all (tasks_of rs) (has_task rs) ∷ all 64 (few_flags rs) ∷ []) (first_all 1 (line_tests rs) (omega arith) e) in
        record {
          none_above = (every_is (line_under (tasks_of rs) (flags_of rs)) (line_is (tasks_of rs) (flags_of rs)) rs).0 (f 0);
          lines = (is_leb (how_many (is_kind kind_a) rs) 1024).0 (f 1);
          rows = (is_leb (how_many (is_kind kind_b) rs) 64).0 (f 2);
          tasks = (task_is rs).0 (f 3);
          flags = (flags_is rs).0 (f 4);
        }

    back : LineRules rs → first_false 1 (line_tests rs) ≡ 0
    back w =
        all_first 1 (line_tests rs)
        (all_of_cons _ _ ((every_is (line_under (tasks_of rs) (flags_of rs)) (line_is (tasks_of rs) (flags_of rs)) rs).1 w.none_above)
        (all_of_cons _ _ ((is_leb (how_many (is_kind kind_a) rs) 1024).1 w.lines)
        (all_of_cons _ _ ((is_leb (how_many (is_kind kind_b) rs) 64).1 w.rows)
        (all_of_cons _ _ ((task_is rs).1 w.tasks)
        (all_of_cons _ [] ((flags_is rs).1 w.flags) all_of_nil)))))
