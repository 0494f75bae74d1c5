-- What the rules over conditions say, place by place.
use Rattle.std.specs.Prelude.{◌≡◌, refl, ◌≢◌, ◌⊎◌, ◌↔◌, Bool, true, not, ◌&&◌, ◌||◌, List, ℕ, ◌-◌, ◌<◌, length, get_or}
use Rattle.std.proofs.Math.Path.{ap}
use Rattle.std.proofs.Common.{arith, eqb-true, eq-eqb}
use Rattle.std.proofs.Math.Dec.{eqb}
use Rattle.laws.specs.Cases.{and_true, and_go}
use Rattle.laws.specs.Laws.All.{all_same}
use Rattle.laws.specs.Laws.Decides.{is_eqb, is_not, is_or, is_and, is_all, is_any}
use Rattle.laws.specs.Laws.Stores.{stores_hit, stores_miss}
use Rattle.rules.specs.Rig.{place_of}
use Rattle.rules.specs.Conditions.{relax, met_one, met, drive, names}

module _ (present latched desired : ℕ → ℕ) (t : ℕ) (conds : List ℕ) where
  test : ℕ → Bool
  test p = eqb (present (place_of t p)) 1 && eqb (latched (place_of t p)) 0

  -- "unlatched conditions take the undesired value"
  pub relaxed : (p : ℕ) → p < 16 → place_of t p < length conds → present (place_of t p) ≡ 1 → latched (place_of t p) ≡ 0
      → get_or (relax present latched desired t conds) (place_of t p) 0 ≡ 1 - desired (place_of t p)
  unfolding relax test
  relaxed p a b e f =
      stores_hit test (λ p. place_of t p) (λ p. 1 - desired (place_of t p)) 16 conds p a
      (and_go (eq-eqb (present (place_of t p)) 1 e) (eq-eqb (latched (place_of t p)) 0 f)) b
      (λ j c d q. ap (λ (i : ℕ). 1 - desired i) q)

  -- no other place changes
  pub relaxed_not : (i : ℕ) → ((p : ℕ) → p < 16 → present (place_of t p) ≡ 1 → latched (place_of t p) ≡ 0 → i ≢ place_of t p)
      → get_or (relax present latched desired t conds) i 0 ≡ get_or conds i 0
  unfolding relax test
  relaxed_not i f =
      stores_miss test (λ p. place_of t p) (λ p. 1 - desired (place_of t p)) 16 conds i
      (λ p a e. let q = and_true (eqb (present (place_of t p)) 1) (eqb (latched (place_of t p)) 0) e in f p a (eqb-true _ 1 q.0) (eqb-true _ 0 q.1))

  -- "all conditions are as desired, none included"
  pub met_is : (met present desired t conds ≡ true) ↔ ((p : ℕ) → p < 16 → (present (place_of t p) ≢ 1) ⊎ (get_or conds (place_of t p) 0 ≡ desired (place_of t p)))
  unfolding met
  met_is =
      is_all 16
      (λ p h. is_or (is_not (is_eqb (present (place_of t p)) 1)) (is_eqb (get_or conds (place_of t p) 0) (desired (place_of t p))))

-- the test looks at the places of its own task alone, ..
pub met_same : (present desired : ℕ → ℕ) (t : ℕ) (a b : List ℕ) → ((p : ℕ) → p < 16 → get_or a (place_of t p) 0 ≡ get_or b (place_of t p) 0)
    → met present desired t a ≡ met present desired t b
unfolding met
met_same present desired t a b h =
    all_same 16 (met_one present desired t a) (met_one present desired t b)
    (λ p l. ap (λ (v : ℕ). not (eqb (present (place_of t p)) 1) || eqb v (desired (place_of t p))) (h p l))

-- .. and these are no other task's
pub same_task : (t u p q : ℕ) → p < 16 → q < 16 → place_of t p ≡ place_of u q → t ≡ u
same_task t u p q a b e = omega arith

module _ (lines : ℕ) (line_task line_pos line_flag : ℕ → ℕ) (f v : ℕ) (conds : List ℕ) where
  -- "every condition with that flag takes it"
  pub driven : (k : ℕ) → k < lines → line_flag k ≡ f → place_of (line_task k) (line_pos k) < length conds
      → get_or (drive lines line_task line_pos line_flag f v conds) (place_of (line_task k) (line_pos k)) 0 ≡ v
  unfolding drive
  driven k a e b =
      stores_hit (λ k. eqb (line_flag k) f) (λ k. place_of (line_task k) (line_pos k)) (λ k. v) lines conds k a (eq-eqb (line_flag k) f e) b (λ j c d q. refl)

  pub driven_not : (i : ℕ) → ((k : ℕ) → k < lines → line_flag k ≡ f → i ≢ place_of (line_task k) (line_pos k))
      → get_or (drive lines line_task line_pos line_flag f v conds) i 0 ≡ get_or conds i 0
  unfolding drive
  driven_not i g =
      stores_miss (λ k. eqb (line_flag k) f) (λ k. place_of (line_task k) (line_pos k)) (λ k. v) lines conds i (λ k a e. g k a (eqb-true (line_flag k) f e))

-- "with that flag in a condition"
pub names_is : (lines : ℕ) (line_task line_flag : ℕ → ℕ) (t f : ℕ)
    → (names lines line_task line_flag t f ≡ true) ↔ ((k : ℕ) × (k < lines) × ((line_task k ≡ t) × (line_flag k ≡ f)))
unfolding names
names_is lines line_task line_flag t f =
    is_any lines (λ k h. is_and (is_eqb (line_task k) t) (is_eqb (line_flag k) f))
