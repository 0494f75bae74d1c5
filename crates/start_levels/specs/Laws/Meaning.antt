-- THE TABLES ARE THE RULES' ANSWERS: the conditions of each level, the tasks of each level, and the answer.
use Rattle.std.specs.Prelude.{◌≡◌, refl, true, false, not, ◌&&◌, ◌||◌, List, eqb}
use Rattle.std.proofs.Common.{sym, ◌∙◌, arith}
use Rattle.std.proofs.Math.Path.{ap}
use Rattle.std.proofs.Math.Bool.{Bool}
use Rattle.std.proofs.lemmas.Bool.{false≢true}
use Prim.Native.Nat.{ℕ, zero, suc, ◌-◌, ◌≤◌, ◌<◌}
use borrow.Author.Tests.{eqb-true}
use Rattle.laws.specs.Any.{any}
use Rattle.laws.specs.Bits.{bit}
use Rattle.laws.specs.Cases.{by_bool, and_no, and_yes, or_no}
use Rattle.laws.specs.Laws.All.{all_same, and_left}
use Rattle.laws.specs.Laws.Any.{any_same, any_none, any_or}
use Rattle.laws.specs.Laws.Bits.{is_one_bit}
use Rattle.laws.specs.Laws.Lowest.{lowest_same}
use Rattle.rig_tables.specs.Places.{at, place}
use Rattle.rig.specs.Rules.{Right}
use Rattle.rig.specs.declared.Cycle.{Cycle}
use Rattle.rig.specs.declared.Rig.{Rig}
use Rattle.rules.specs.Rig as G
use Rattle.rules.specs.State as S
use Rattle.rules.specs.Starting.{comes_to, brought_one, brought, allows, starts, starts_below, can_start, blocks, lowest_blocking}
use Rattle.exec_state.specs.View.{rig_of, view_of}
use Rattle.exec_state.specs.declared.State.{State}
use Rattle.start_tests.specs.Tables.{stands_at, clear_at, clear, opened_in, able_in, lowest_in}
use Rattle.start_levels.specs.Levels.{conditions_at, tasks_at, base_of, link_of, KeptOf, ReadOff}
use Rattle.start_levels.specs.Laws.Lines.{place_same, owner_most, comes}
use Rattle.start_levels.specs.Laws.Entries.{place_g, owner_g, helps_g, base_test, able_at, base_at, opened_at}

module _ (g : Rig) (cycles : List Cycle) (s : State) (h : Right g cycles) where
  abbrev r : G.Rig
  r = rig_of g cycles

  abbrev v : S.State
  v = view_of s

  -- A line k is one of the condition of task t at position p
  abbrev its_line : ℕ → ℕ → ℕ → Bool
  its_line t p k = eqb (place_g g k) (place t p)

  line_brought : (below : ℕ → Bool) → ((u : ℕ) → below u ≡ true → at s.state u ≡ 1) → (t p : ℕ) → p < 16 → (k : ℕ) → k < g.lines
      → brought_one r v below t p k ≡ ((helps_g g s k && its_line t p k) || (link_of g s k && (below (owner_g g k - 1) && its_line t p k)))
  line_brought below idle t p b k l =
      ap (λ (x : Bool). x && comes_at (place t p)) (sym (place_same (at g.line_task k) (at g.line_pos k) t p (omega (arith, (h.lines k l).position)) b))
      ∙ by_bool (its_line t p k) (λ x. (x && comes_at (place t p)) ≡ ((helps_g g s k && x) || (link_of g s k && (below (owner_g g k - 1) && x))))
      (λ e. ap comes_at (sym (eqb-true (place_g g k) (place t p) e)) ∙ comes g cycles h s below idle k l ∙ here (helps_g g s k) (link_of g s k) (below (owner_g g k - 1)))
      (λ e. away (helps_g g s k) (link_of g s k) (below (owner_g g k - 1)))
    where
      comes_at : ℕ → Bool
      comes_at i = comes_to r v below (at g.desired i) (at g.line_flag k)

      here : (x y z : Bool) → (x || (y && z)) ≡ ((x && true) || (y && (z && true)))
      here x y z = rw (and_yes x, and_yes z)

      away : (x y z : Bool) → false ≡ ((x && false) || (y && (z && false)))
      away x y z = rw (and_no x, and_no z, and_no y)

  -- what the rules allow, by the tables' tests: below tells who can start, and only inactive tasks can
  allows_by : (below : ℕ → Bool) → ((u : ℕ) → below u ≡ true → at s.state u ≡ 1) → (t p : ℕ) → p < 16
      → allows r v below t p ≡ (base_test g s (place t p) || any g.lines (λ k. link_of g s k && (below (owner_g g k - 1) && its_line t p k)))
  unfolding brought
  allows_by below idle t p b =
      ap (λ (x : Bool). stands || x)
      (any_same g.lines (brought_one r v below t p) (λ k. direct k || linked k) (line_brought below idle t p b) ∙ any_or g.lines direct linked)
      ∙ regroup stands (any g.lines direct) (any g.lines linked)
    where
      stands : Bool
      stands = stands_at g.present g.desired s.cond (place t p)

      direct : ℕ → Bool
      direct k = helps_g g s k && its_line t p k

      linked : ℕ → Bool
      linked k = link_of g s k && (below (owner_g g k - 1) && its_line t p k)

      regroup : (x y z : Bool) → (x || (y || z)) ≡ ((x || y) || z)
      regroup true y z = refl
      regroup false y z = refl

  -- "An inactive task can start .."
  only_inactive : (d u : ℕ) → starts_below r v d u ≡ true → at s.state u ≡ 1
  unfolding starts_below starts
  only_inactive zero u e = absurd (false≢true e)
  only_inactive (suc d) u e = eqb-true (at s.state u) 1 (and_left (eqb (at s.state u) 1) _ e)

  -- a table of conditions, each entry the rules' answer within d links, and what is read off it
  abbrev pub Answers : List ℕ → ℕ → Type 0
  Answers table d = (t p : ℕ) → t ≤ 64 → p < 16 → at table (place t p) ≡ bit (allows r v (starts_below r v d) t p)

  answer_clear : (table : List ℕ) (d : ℕ) → Answers table d → (t p : ℕ) → t ≤ 64 → p < 16 → clear_at table t p ≡ allows r v (starts_below r v d) t p
  answer_clear table d f t p a b =
      ap (λ (x : ℕ). eqb x 1) (f t p a b) ∙ is_one_bit (allows r v (starts_below r v d) t p)

  able_answers : (table : List ℕ) (d : ℕ) → Answers table d → (t : ℕ) → t ≤ 64 → at (able_in s.state table) t ≡ bit (starts_below r v (suc d) t)
  unfolding starts_below starts clear
  able_answers table d f t a =
      able_at s.state table t a
      ∙ ap (λ (x : Bool). bit (eqb (at s.state t) 1 && x))
      (all_same 16 (clear_at table t) (allows r v (starts_below r v d) t) (λ p b. answer_clear table d f t p a b))

  base_answers : Answers (base_of g s) 0
  unfolding starts_below
  base_answers t p a b =
      base_at g s (place t p) (omega (arith, a, b))
      ∙ ap bit (sym (allows_by (starts_below r v 0) (only_inactive 0) t p b ∙ alone))
    where
      alone : (base_test g s (place t p) || any g.lines (λ k. link_of g s k && (starts_below r v 0 (owner_g g k - 1) && its_line t p k)))
          ≡ base_test g s (place t p)
      alone =
          ap (λ (x : Bool). base_test g s (place t p) || x) (any_none g.lines (λ k. link_of g s k && false) (λ k l. and_no (link_of g s k)))
          ∙ or_no (base_test g s (place t p))

  module _ (m : ℕ) (task places : List ℕ) (kept : KeptOf g s m task places) where
    -- a level more: "each link lowers d"
    opened_answers : (table : List ℕ) (d : ℕ) → Answers table d
        → Answers (opened_in m task places (able_in s.state table) (base_of g s)) (suc d)
    opened_answers table d f t p a b =
        opened_at g s m task places can kept (place t p) (omega (arith, a, b))
        ∙ ap (λ (x : Bool). bit (base_test g s (place t p) || x)) (any_same g.lines (open_by can_start_at) (open_by (starts_below r v (suc d))) same)
        ∙ ap bit (sym (allows_by (starts_below r v (suc d)) (only_inactive (suc d)) t p b))
      where
        can : List ℕ
        can = able_in s.state table

        can_start_at : ℕ → Bool
        can_start_at u = eqb (at can u) 1

        open_by : (ℕ → Bool) → ℕ → Bool
        open_by below k = link_of g s k && (below (owner_g g k - 1) && its_line t p k)

        same : (k : ℕ) → k < g.lines → open_by can_start_at k ≡ open_by (starts_below r v (suc d)) k
        same k l =
            ap (λ (x : Bool). link_of g s k && (x && its_line t p k))
            (ap (λ (x : ℕ). eqb x 1) (able_answers table d f (owner_g g k - 1) (owner_most g cycles h (at g.line_flag k)))
            ∙ is_one_bit (starts_below r v (suc d) (owner_g g k - 1)))

    -- "Tasks ask about conditions and conditions about tasks": the tables of conditions and of tasks, at each level
    pub conditions_answer : (d : ℕ) → Answers (conditions_at task places m s.state (base_of g s) d) d
    unfolding conditions_at
    conditions_answer zero = base_answers
    conditions_answer (suc d) = opened_answers _ d (conditions_answer d)

    pub tasks_answer : (d t : ℕ) → t ≤ 64
        → at (tasks_at task places m s.state (base_of g s) d) t ≡ bit (can_start r v d t)
    unfolding starts_below can_start
    tasks_answer d t a = able_answers _ d (conditions_answer d) t a

-- the answer that is read off the tables is the rules'
pub meaning : (g : Rig) (cycles : List Cycle) (s : State) → Right g cycles → (t d n : ℕ) → t ≤ 64 → ReadOff g s t d n
    → n ≡ lowest_blocking (rig_of g cycles) (view_of s) d t
unfolding lowest_in lowest_blocking
meaning g cycles s h t d n a q =
    q.answer
    ∙ lowest_same 16 (λ p. not (clear_at table t p)) (blocks (rig_of g cycles) (view_of s) d t)
    (λ p b. ap not (answer_clear g cycles s h table d (conditions_answer g cycles s h q.many q.task q.place q.kept d) t p a b))
  where
    table : List ℕ
    table = conditions_at q.task q.place q.many s.state (base_of g s) d
