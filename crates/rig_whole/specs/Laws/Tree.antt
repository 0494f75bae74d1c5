-- Controllers: the climb finds exactly the previous task and its ancestors, and every controller has a lower number.
use Rattle.std.specs.Prelude.{List, ltb, ◌≡◌, ◌⊎◌, ◌≢◌}
use Prim.Native.Nat.{ℕ, suc, ◌≤◌, ◌<◌, zero, ◌+◌, ◌-◌}
use Rattle.rig_tables.specs.Tests.{at, controllers_b, climb}
use Rattle.std.proofs.Common.{sym, ◌∙◌, ap, arith, lt-ltb}
use Rattle.std.proofs.Math.Logic.{inl, inr, ⊎_elim}
use Rattle.laws.specs.Cases.{by, below_but, by_eqb}
use Rattle.laws.specs.Decides.{Is}
use Rattle.laws.specs.Laws.Decides.{is_eqb, is_and, is_not, is_said, is_leb, is_else, is_all}
use Rattle.rig_controllers.specs.Laws.Climb.{Low, climb_stop}
use Rattle.rig.specs.declared.Rig.{Rig}
use Rattle.rig.specs.Rules.{Ancestor, nearest, further, Controllers}

module _ (controller : List ℕ) where
  pub ancestor_some : {a x : ℕ} → Ancestor (at controller) a x → a ≢ 0
  ancestor_some (nearest e n) = n
  ancestor_some (further n h) = ancestor_some h

  -- an ancestor has a lower number
  pub ancestor_low : {a x : ℕ} → Ancestor (at controller) a x → 1 ≤ x → Low controller (x + 1) → a < x
  ancestor_low {a} {x} (nearest e n) g l = omega (arith, l x g (omega arith))
  ancestor_low {a} {x} (further n h) g l =
      let b = l x g (omega arith) in
      omega (arith, ancestor_low h (omega arith) (λ t i j. l t i (omega arith)))

  -- the climb stops at an ancestor
  climb_ancestor : {a x : ℕ} → Ancestor (at controller) a x → 1 ≤ x → Low controller (x + 1) → (k : ℕ) → x ≤ k → climb (at controller) a k x ≡ a
  unfolding climb
  climb_ancestor {a} {x} h g l zero b = absurd (omega arith)
  climb_ancestor {a} {x} (nearest e n) g l (suc k) b =
      rw (lt-ltb a x (ancestor_low (nearest e n) g l)) (ap (climb (at controller) a k) e ∙ climb_stop controller a k a (omega arith))
  climb_ancestor {a} {x} (further n h) g l (suc k) b =
      let d = l x g (omega arith) in
      rw (lt-ltb a x (ancestor_low (further n h) g l)) (climb_ancestor {x = at controller x} h (omega arith) (λ t i j. l t i (omega arith)) k (omega arith))

  -- and where it stops at c, c is where it began or an ancestor
  climb_found : (c : ℕ) → c ≢ 0 → (k x : ℕ) → climb (at controller) c k x ≡ c → (c ≡ x) ⊎ Ancestor (at controller) c x
  unfolding climb
  climb_found c n zero x = λ e. inl (sym e)
  climb_found c n (suc k) x =
      by (ltb c x)
      (λ q. rw q (λ e.
      ⊎_elim (λ r. inr (nearest (sym r) n)) (λ h. inr (further (λ z. n (sym e ∙ climb_stop controller c k (at controller x) (omega arith) ∙ z)) h))
      (climb_found c n k (at controller x) e)))
      (λ q. rw q (λ e. inl (sym e)))

-- "the previous task or one of that task's ancestors"
abbrev Led : List ℕ → ℕ → Type 0
Led controller t = (at controller t ≡ t - 1) ⊎ Ancestor (at controller) (at controller t) (t - 1)

module _ (controller : List ℕ) (tasks : ℕ) (few : tasks ≤ 64) (z : at controller 1 ≡ 0)
    (others : (t : ℕ) → 1 < t → t ≤ tasks → Led controller t) where
  -- every controller has a lower number
  led_low : (n : ℕ) → n ≤ tasks + 1 → Low controller n
  led_low zero h t i j = absurd (omega arith)
  led_low (suc n) h t i j =
      by_eqb t n (λ b. at controller t < t)
      (λ q. rw q (top (led_low n (omega arith)) (omega arith)))
      (λ d. led_low n (omega arith) t i (below_but t n j d))
    where
      top : Low controller n → 1 ≤ n → at controller n < n
      top l g =
          by_eqb n 1 (λ b. at controller n < n) (λ q. rw q (omega (arith, z)))
          (λ d.
          ⊎_elim (λ e. omega arith)
          (λ a. omega (arith, ancestor_low controller a (omega arith) (λ u x y. l u x (omega arith))))
          (others n (omega arith) (omega arith)))

  led_some : (t : ℕ) → 1 < t → t ≤ tasks → at controller t ≢ 0
  led_some t h g = ⊎_elim (λ e y. omega arith) (λ a. ancestor_some controller a) (others t h g)

  led_climb : (t : ℕ) → 1 < t → t ≤ tasks → climb (at controller) (at controller t) 64 (t - 1) ≡ at controller t
  led_climb t h g =
      ⊎_elim (λ e. climb_stop controller (at controller t) 64 (t - 1) (omega arith) ∙ sym e)
      (λ a. climb_ancestor controller a (omega arith) (λ u x y. led_low (tasks + 1) (omega arith) u x (omega arith)) 64 (omega arith))
      (others t h g)

pub controllers_is : (g : Rig) → g.tasks ≤ 64 → Is (controllers_b g.tasks g.controller) (Controllers g)
unfolding controllers_b
controllers_is g few =
    is_said
    (is_and (is_eqb (at g.controller 1) 0)
    (is_all (g.tasks + 1) (λ t h.
    is_else (is_leb t 1)
    (is_and (is_not (is_eqb (at g.controller t) 0))
    (is_eqb (climb (at g.controller) (at g.controller t) 64 (t - 1)) (at g.controller t))))))
    (λ w.
    record {
      first = w.0;
      others = λ t h b.
          let v = w.1 t (omega arith) (λ y. omega arith) in
          climb_found g.controller (at g.controller t) v.0 64 (t - 1) v.1;
    })
    (λ r. (
      r.first,
      (λ t h y.
          let i : 1 < t = omega arith in
          (led_some g.controller g.tasks few r.first r.others t i (omega arith), led_climb g.controller g.tasks few r.first r.others t i (omega arith))),
    ))

-- every controller has a lower number
pub controllers_low : (g : Rig) → g.tasks ≤ 64 → Controllers g → Low g.controller (g.tasks + 1)
controllers_low g few r = led_low g.controller g.tasks few r.first r.others (g.tasks + 1) (omega arith)
