-- What an accepted call tells: the tests that it passed.
use Rattle.std.specs.Prelude.{◌≡◌, refl, ◌≢◌, Bool, true, false, List, [], ◌∷◌, ℕ, zero, suc, ◌≤◌, eqb, ltb}
use Rattle.std.proofs.Common.{subst, arith, add-one, eqb-true, ltb-false}
use Rattle.std.proofs.lemmas.Bool.{eqb-false, not-false}
use Rattle.laws.specs.Cases.{or_false}
use Rattle.laws.specs.Laws.Any.{any_not}
use Rattle.rules.specs.Rig.{Rig, activation_one, is_activation}
use Rattle.rules.specs.State.{State}
use Rattle.rules.specs.Calls.{Refusal, row, decide, nobody_runs, no_such_one, not_controller}

-- a row that is not to be given, and those behind it
pub passed : (n : ℕ) (b : Bool) (xs : List Refusal) → decide (row (suc n) b ∷ xs) ≡ 0 → (b ≡ false) × (decide xs ≡ 0)
unfolding decide
passed n true xs h = absurd (omega arith)
passed n false xs h = (refl, h)

pub somebody_runs : (s : State) (xs : List Refusal) → decide (row 5 (nobody_runs s) ∷ xs) ≡ 0 → s.running ≢ 0
somebody_runs s xs h = eqb-false s.running 0 (passed 4 (nobody_runs s) xs h).0

-- there is such a task, flag or row
pub there_is : (many n : ℕ) → no_such_one many n ≡ false → (1 ≤ n) × (n ≤ many)
unfolding no_such_one
there_is many n h =
    let e = or_false (eqb n 0) (ltb many n) h in
    let z : n ≢ 0 = eqb-false n 0 e.0 in
    (omega arith, ltb-false many n e.1)

-- of a call that names a task
pub record Named (r : Rig) (s : State) (t : ℕ) (wrong : Bool) : Type 0 where
  pub runs : s.running ≢ 0
  pub task : (1 ≤ t) × (t ≤ r.tasks)
  pub control : r.controller t ≡ s.running
  pub right : wrong ≡ false

pub named_is : (r : Rig) (s : State) (t : ℕ) (wrong : Bool)
    → decide (row 5 (nobody_runs s) ∷ row 6 (no_such_one r.tasks t) ∷ row 7 (not_controller r s t) ∷ row 8 wrong ∷ []) ≡ 0 → Named r s t wrong
named_is r s t wrong h =
    let a = passed 4 (nobody_runs s) _ h in
    let b = passed 5 (no_such_one r.tasks t) _ a.1 in
    let c = passed 6 (not_controller r s t) _ b.1 in
    let d = passed 7 wrong [] c.1 in
    record {
      runs = eqb-false s.running 0 a.0;
      task = there_is r.tasks t b.0;
      control = eqb-true (r.controller t) s.running (not-false _ c.0);
      right = d.0;
    }

-- of a call that names a flag
pub record Flagged (r : Rig) (s : State) (f : ℕ) (wrong : Bool) : Type 0 where
  pub runs : s.running ≢ 0
  pub flag : (1 ≤ f) × (f ≤ r.flags)
  pub right : wrong ≡ false

pub flagged_is : (r : Rig) (s : State) (f : ℕ) (wrong : Bool)
    → decide (row 5 (nobody_runs s) ∷ row 6 (no_such_one r.flags f) ∷ row 7 wrong ∷ []) ≡ 0 → Flagged r s f wrong
flagged_is r s f wrong h =
    let a = passed 4 (nobody_runs s) _ h in
    let b = passed 5 (no_such_one r.flags f) _ a.1 in
    let c = passed 6 wrong [] b.1 in
    record { runs = eqb-false s.running 0 a.0; flag = there_is r.flags f b.0; right = c.0 }

-- a flag that is no activation flag is no task's
pub no_activation : (a : ℕ → ℕ) (f : ℕ) → is_activation a f ≡ false → (t : ℕ) → 1 ≤ t → t ≤ 64 → a t ≢ f
unfolding is_activation
no_activation a f e zero h k q = absurd (omega arith)
no_activation a f e (suc t) h k q =
    eqb-false (a (suc t)) f (subst (λ (n : ℕ). eqb (a n) f ≡ false) (add-one t) (any_not 64 (activation_one a f) e t (omega arith))) q
