-- The test that goes by a table of owners, as the code computes it, says what that of rig_tables says: an activation flag serves
-- one task.
use Rattle.std.specs.Prelude.{◌≡◌, refl, Bool, not, length, ◌||◌, List, ℕ, ◌+◌, ◌≤◌, ◌<◌, eqb, ◌≢◌}
use Rattle.std.proofs.Common.{sym, ◌∙◌, arith, eqb-true, inl, inr, ⊎_elim}
use Rattle.std.proofs.Math.Path.{ap}
use Rattle.std.proofs.lemmas.Bool.{eqb-false}
use Rattle.laws.specs.Cases.{by}
use Rattle.std.specs.List.{list_all, enumerate_from}
use Rattle.laws.specs.All.{all}
use Rattle.laws.specs.Laws.All.{all_same}
use Rattle.laws.specs.Decides.{Is}
use Rattle.laws.specs.Laws.Decides.{is_eqb, is_else, is_all, is_said, is_same, is_or, is_not}
use Rattle.laws.specs.Owners.{owners}
use Rattle.laws.specs.Laws.Owners.{owner_key, owner_some}
use Rattle.rig_tables.specs.Tests.{at, serves_one, serves_one_b, not_minor_b, marked}
use Rattle.rig_tables.specs.Laws.Passes.{some_suc, each_entry, each_place}

-- each activation flag is owned by the task that has it
abbrev pub served_one : List ℕ → List ℕ → ℕ → Bool
served_one activation table t = eqb (at activation t) 0 || eqb (at table (at activation t)) (t + 1)

unfoldable pub served_b : List ℕ → List ℕ → Bool
served_b activation table = all 65 (served_one activation table)

-- an activation flag serves one task
abbrev pub Serves : List ℕ → ℕ → Type 0
Serves activation t = at activation t ≢ 0 → (u : ℕ) → u < 65 → at activation u ≡ at activation t → u ≡ t

pub serves_is : (activation : List ℕ) (t : ℕ) → Is (serves_one activation t) (Serves activation t)
serves_is activation t =
    is_else (is_eqb (at activation t) 0)
    (is_all 65 (λ u h.
    is_said (is_or (is_eqb u t) (is_not (is_eqb (at activation u) (at activation t))))
    (λ w e. ⊎_elim (λ q. q) (λ n. absurd (n e)) w)
    (λ f. by (eqb u t) (λ e. inl (eqb-true u t e)) (λ e. inr (λ q. eqb-false u t e (f q))))))

-- it is owned by its task exactly where it serves no other
module _ (activation : List ℕ) (small : (t : ℕ) → t < 65 → at activation t ≤ 128) where
  abbrev table : List ℕ
  table = owners 65 (at activation) 129

  served_is : ((t : ℕ) → t < 65 → Is (served_one activation table t) (at activation t ≢ 0 → at table (at activation t) ≡ t + 1))
  served_is t h = is_else (is_eqb (at activation t) 0) (is_eqb (at table (at activation t)) (t + 1))

  pub served_law : served_b activation (owners 65 (at activation) 129) ≡ serves_one_b activation
  unfolding served_b serves_one_b
  served_law = is_same (is_said (is_all 65 served_is) there back) (is_all 65 (λ t h. serves_is activation t))
    where
      there : ((t : ℕ) → t < 65 → at activation t ≢ 0 → at table (at activation t) ≡ t + 1) → (t : ℕ) → t < 65 → Serves activation t
      there f t h n u g e = omega (arith, f t h n, f u g (λ z. n (sym e ∙ z)), ap (at table) e)

      back : ((t : ℕ) → t < 65 → Serves activation t) → (t : ℕ) → t < 65 → at activation t ≢ 0 → at table (at activation t) ≡ t + 1
      back f t h n =
          let s = some_suc (at table (at activation t)) (owner_some (at activation) 129 65 t h (omega (arith, small t h))) in
          let k = owner_key (at activation) 129 65 (at activation t) s.0 s.1 in
          omega (arith, s.1, f t h n s.0 k.0 k.1)

-- the tests along the activation flags
pub served_each : (activation table : List ℕ) → length activation ≡ 65
    → list_all (λ (p : ℕ × ℕ). eqb p.1 0 || eqb (at table p.1) (p.0 + 1)) (enumerate_from 0 activation) ≡ served_b activation table
unfolding served_b
served_each activation table h =
    each_place (λ (p : ℕ × ℕ). eqb p.1 0 || eqb (at table p.1) (p.0 + 1)) activation ∙ ap (λ (n : ℕ). all n (served_one activation table)) h

pub unmarked_each : (activation table : List ℕ) → length activation ≡ 65
    → list_all (λ f. eqb (at table f) 0) activation ≡ not_minor_b activation (marked table)
unfolding not_minor_b
unmarked_each activation table h =
    each_entry (λ f. eqb (at table f) 0) activation 0
    ∙ ap (λ (n : ℕ). all n (λ t. eqb (at table (at activation t)) 0)) h
    ∙ all_same 65 (λ t. eqb (at table (at activation t)) 0) (λ t. not (not (eqb (at table (at activation t)) 0)))
    (λ t j. by (eqb (at table (at activation t)) 0) (λ e. rw e refl) (λ e. rw e refl))
