-- Up from a task, controller by controller: the bound on the steps never matters, and how far the way leads.
use Rattle.std.specs.Prelude.{◌≡◌, Bool, true, false, ◌&&◌, ◌||◌, not, List, eqb, leb, ltb}
use Rattle.std.proofs.Math.Path.{refl}
use Rattle.std.proofs.Common.{sym, ◌∙◌, ap}
use Prim.Native.Nat.{ℕ, ◌+◌, ◌-◌, ◌≤◌, ◌<◌, zero, suc}
use native.Mathlib.Omega.{arith}
use borrow.Author.Tests.{eqb-true, ltb-true, lt-leb, lt-ltb, le-ltb}
use Rattle.laws.specs.Cases.{by, by_eqb, below_but}
use Rattle.laws.specs.All.{all}
use Rattle.laws.specs.Laws.All.{and_right, and_left}
use Rattle.rig_tables.specs.Tests.{at, climb, controller_one}

-- each task below n has a controller with a lower number, or none
abbrev pub Low : List ℕ → ℕ → Type 0
Low controller n = (t : ℕ) → 1 ≤ t → t < n → at controller t < t

module _ (controller : List ℕ) (c : ℕ) where
  pub climb_stop : (k x : ℕ) → x ≤ c → climb (at controller) c k x ≡ x
  unfolding climb
  climb_stop zero x h = refl
  climb_stop (suc k) x h = rw (le-ltb c x h)

  -- a step more where there are as many as the number is high
  climb_more : (k x : ℕ) → x ≤ k → Low controller (x + 1) → climb (at controller) c k x ≡ climb (at controller) c (suc k) x
  unfolding climb
  climb_more zero x h l = rw (le-ltb c x (omega arith))
  climb_more (suc k) x h l =
      by (ltb c x)
      (λ e.
      let g = l x (omega (arith, ltb-true c x e)) (omega arith) in
      rw e (climb_more k (at controller x) (omega arith) (λ t i j. l t i (omega arith))))
      (λ e. rw e)

  -- no bound that is as high as the number cuts the way short
  pub climb_enough : (k j x : ℕ) → x ≤ k → Low controller (x + 1) → climb (at controller) c k x ≡ climb (at controller) c (k + j) x
  climb_enough k zero x h l = ap (λ (n : ℕ). climb (at controller) c n x) (omega arith)
  climb_enough k (suc j) x h l =
      climb_more k x h l ∙ climb_enough (suc k) j x (omega arith) l ∙ ap (λ (n : ℕ). climb (at controller) c n x) (omega arith)

  -- one turn of the loop
  climb_up : (k x : ℕ) → c < x → climb (at controller) c k (at controller x) ≡ climb (at controller) c (suc k) x
  unfolding climb
  climb_up k x h = rw (lt-ltb c x h)

  pub climb_turn : (x : ℕ) → c < x → x ≤ 64 → Low controller (x + 1) → climb (at controller) c 64 (at controller x) ≡ climb (at controller) c 64 x
  climb_turn x h b l =
      let g = l x (omega arith) (omega arith) in
      sym (climb_more 63 (at controller x) (omega arith) (λ t i j. l t i (omega arith))) ∙ climb_up 63 x h

  -- the way leads down in numbers
  pub climb_le : (k x : ℕ) → Low controller (x + 1) → climb (at controller) c k x ≤ x
  unfolding climb
  climb_le zero x l = omega arith
  climb_le (suc k) x l =
      by (ltb c x)
      (λ e.
      let g = l x (omega (arith, ltb-true c x e)) (omega arith) in
      rw e (omega (arith, climb_le k (at controller x) (λ t i j. l t i (omega arith)))))
      (λ e. rw e (omega arith))

-- where the test holds, every controller has a lower number
pub low_all : (controller : List ℕ) → at controller 1 ≡ 0 → (n : ℕ) → all n (controller_one controller) ≡ true → Low controller n
unfolding all
low_all controller z zero e t i j = absurd (omega arith)
low_all controller z (suc n) e t i j =
    by_eqb t n (λ b. at controller t < t) (λ q. rw q (top (low_all controller z n (and_left (all n (controller_one controller)) (controller_one controller n) e))))
    (λ d. low_all controller z n (and_left (all n (controller_one controller)) (controller_one controller n) e) t i (below_but t n j d))
  where
    second : (a b x : Bool) → a ≡ false → (a || (b && x)) ≡ true → x ≡ true
    second a b x q = rw q (λ w. and_right b x w)

    top : Low controller n → at controller n < n
    top l =
        by_eqb n 1 (λ b. at controller n < n) (λ q. rw q (omega (arith, z)))
        (λ d.
        let s : eqb (climb (at controller) (at controller n) 64 (n - 1)) (at controller n) ≡ true =
        second (leb n 1) (not (eqb (at controller n) 0)) (eqb (climb (at controller) (at controller n) 64 (n - 1)) (at controller n)) (lt-leb n 1 (omega arith)) (and_right (all n (controller_one controller)) (controller_one controller n) e) in
        omega (
          arith,
          eqb-true (climb (at controller) (at controller n) 64 (n - 1)) (at controller n) s,
          climb_le controller (at controller n) 64 (n - 1) (λ u a b. l u a (omega arith)),
        ))

pub controllers_start : (controller : List ℕ) → all 2 (controller_one controller) ≡ true
unfolding all
controllers_start controller = refl
