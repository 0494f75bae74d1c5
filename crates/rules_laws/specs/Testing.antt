-- A task is tested: it is activated, being inactive with all its conditions as desired, or nothing happens.
use Rattle.std.specs.Prelude.{◌≡◌, Bool, cond, ◌&&◌}
use Rattle.std.proofs.Math.Path.{refl}
use Rattle.std.proofs.Math.Bool.{true, false}
use mathlib.Core.List.{[]}
use Prim.Native.Nat.{ℕ, zero, suc, ◌+◌, ◌≤◌}
use Rattle.std.proofs.Common.{arith, eqb-true}
use Rattle.std.proofs.Math.Nat.{le_refl}
use Rattle.std.proofs.lemmas.Bool.{eqb-false}
use Rattle.std.proofs.Math.Dec.{eqb}
use Rattle.rules.specs.Rig.{Rig}
use Rattle.rules.specs.State.{State, Work, Done, state_of}
use Rattle.rules.specs.Conditions.{met}
use Rattle.rules.specs.Serving.{activate, inactives, serve}
use Rattle.rules.specs.Calls.{Call, quiet, effect, tested, ended, again, settled}
use Rattle.rules_laws.specs.Serve.{load, push_length, less_one, served_left}

module _ (r : Rig) where
  -- THE TWO CASES
  pub tested_cases : (t : ℕ) (s : State) (P : Work → Type 0)
      → (state_of s t ≡ 1 → met r.present r.desired t s.conds ≡ true → P (activate r t (quiet s)))
      → ((state_of s t ≡ 1 → met r.present r.desired t s.conds ≡ false) → P (quiet s))
      → P (tested r t s)
  unfolding tested
  tested_cases t s P is else = go (eqb (state_of s t) 1) refl (met r.present r.desired t s.conds) refl
    where
      go : (a : Bool) → eqb (state_of s t) 1 ≡ a → (b : Bool) → met r.present r.desired t s.conds ≡ b
          → P (cond (a && b) (activate r t (quiet s)) (quiet s))
      go true e true m = is (eqb-true _ 1 e) m
      go true e false m = else (λ k. m)
      go false e b m = else (λ k. absurd (eqb-false _ 1 e k))

  -- what an activation keeps, a test keeps
  pub tested_keeps : (P : State → Type 0) → ((t : ℕ) (w : Work) → state_of w.now t ≡ 1 → P w.now → P (activate r t w).now)
      → (t : ℕ) (s : State) → P s → P (tested r t s).now
  tested_keeps P ac t s h = tested_cases t s (λ w. P w.now) (λ e m. ac t (quiet s) e h) (λ n. h)

  -- it queues no more than it takes from the inactive
  pub tested_load : (k : ℕ) (s : State) → load (tested r (suc k) s) ≤ inactives s.states
  unfolding activate
  tested_load k s =
      tested_cases (suc k) s (λ w. load w ≤ inactives s.states)
      (λ e m. omega (arith, push_length (r.activation (suc k)) 1 [], less_one s.states k e)) (λ n. omega arith)

  -- the serving after it serves no more than the first left inactive
  again_left : (t : ℕ) (d : Done) → (again r t d).served + inactives (again r t d).now.states ≤ d.served + inactives d.now.states
  unfolding again
  again_left zero d = le_refl _
  again_left (suc t) d = omega (arith, served_left r (tested r (suc t) d.now), tested_load t d.now)

  -- so both together never serve more than the load
  pub again_le : (t : ℕ) (w : Work) → (again r t (serve r w)).served ≤ load w
  again_le t w = omega (arith, again_left t (serve r w), served_left r w)

  pub settled_le : (s : State) (k : Call) → (settled r s k).served ≤ load (effect r s k)
  unfolding settled
  settled_le s k = again_le (ended s k) (effect r s k)
