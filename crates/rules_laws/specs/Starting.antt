-- WHY WON'T IT START? (L13) What is computed is what the words say; a larger d never turns a yes into a no.
use Rattle.std.specs.Prelude.{◌≡◌, refl, ◌≢◌, ◌⊎◌, [], Bool, true, false, not, eqb, ltb, get_or}
use Rattle.std.proofs.Common.{sym, ◌∙◌, inl, inr, ⊎_elim, true≢false, add-one, ltb-false}
use Rattle.std.proofs.lemmas.Bool.{false≢true}
use Prim.Native.Nat.{ℕ, zero, suc, ◌+◌, ◌-◌, ◌≤◌, ◌<◌}
use native.Mathlib.Omega.{arith}
use Rattle.laws.specs.Cases.{by}
use Rattle.laws.specs.Decides.{Is}
use Rattle.laws.specs.Laws.Decides.{is_eqb, is_ltb, is_and, is_or, is_not, is_if, is_then, is_all, is_any, is_said}
use Rattle.laws.specs.Lowest.{lowest}
use Rattle.laws.specs.Laws.Lowest.{lowest_most, lowest_passes, lowest_before, lowest_none}
use Rattle.rules.specs.Sizes.{most_tasks, positions}
use Rattle.rules.specs.Rig.{Rig, place_of, not_plain}
use Rattle.rules.specs.State.{State, state_of, active, inactive, on}
use Rattle.rules.specs.Starting.{flag_of, comes_on, is_active, goes_off, comes_to, brought, allows, starts, starts_below, can_start, blocks, lowest_blocking}
use Rattle.rules.specs.WhyNot.{Stands, PlainFlag, FlagOf, ComesOn, GoesOff, CanBeBrought, Starts, StartsBelow, CanStart, Blocks, LowestBlocking}
use Rattle.rules.specs.Soundness.{Sound}
use Rattle.rules.specs.Calls.{why_not, effect, ended, refusal, value_only, output, step}
use Rattle.rules_laws.specs.RefusedExactly.{is_minor_lem, is_activation_lem}
use Rattle.rules_laws.specs.Steps.{question_step}

module _ (r : Rig) (s : State) where
  is_plain : (f : ℕ) → Is (not (not_plain r f)) (PlainFlag r f)
  is_plain f = is_not (is_or (is_minor_lem r f) (is_activation_lem r f))

  module _ (who : ℕ → Bool) (Who : ℕ → Type 0) (is : (u : ℕ) → Is (who u) (Who u)) where
    is_flag_of : (f : ℕ) → Is (flag_of r who f) (FlagOf r Who f)
    unfolding flag_of
    is_flag_of f = is_said (is_any most_tasks (λ i h. is_and (is_eqb (r.activation (i + 1)) f) (is (i + 1)))) there back
      where
        there : (i : ℕ) × (i < most_tasks) × ((r.activation (i + 1) ≡ f) × Who (i + 1)) → FlagOf r Who f
        there w = (w.0 + 1, omega arith, omega (arith, w.1), w.2.0, w.2.1)

        back : FlagOf r Who f → (i : ℕ) × (i < most_tasks) × ((r.activation (i + 1) ≡ f) × Who (i + 1))
        back (zero, a, b, e, h) = absurd (omega arith)
        back (suc t, a, b, e, h) = (t, omega arith, (rw add-one e, rw add-one h))

    is_comes_on : (f : ℕ) → Is (comes_on r who f) (ComesOn r Who f)
    unfolding comes_on
    is_comes_on f = is_or (is_minor_lem r f) (is_or (is_plain f) (is_flag_of f))

  is_goes_off : (f : ℕ) → Is (goes_off r s f) (GoesOff r s f)
  unfolding goes_off
  is_goes_off f = is_or (is_plain f) (is_flag_of (is_active s) (λ u. active (state_of s u) ≡ on) (λ u. is_eqb (active (state_of s u)) on) f)

  module _ (below : ℕ → Bool) (Below : ℕ → Type 0) (is : (u : ℕ) → Is (below u) (Below u)) (t : ℕ) where
    is_comes_to : (p f : ℕ) → Is (comes_to r s below (r.desired (place_of t p)) f)
        ((r.desired (place_of t p) ≡ on → ComesOn r Below f) × (r.desired (place_of t p) ≢ on → GoesOff r s f))
    unfolding comes_to
    is_comes_to p f = is_if (is_eqb (r.desired (place_of t p)) on) (is_comes_on below Below is f) (is_goes_off f)

    is_brought : (p : ℕ) → Is (brought r s below t p) (CanBeBrought r s Below t p)
    unfolding brought
    is_brought p =
        is_said
        (is_any r.lines (λ k h. is_and (is_and (is_eqb (r.line_task k) t) (is_eqb (r.line_pos k) p)) (is_comes_to p (r.line_flag k))))
        (λ w. (r.line_flag w.0, (w.0, w.1, (w.2.0.0, w.2.0.1, refl)), w.2.1))
        (λ w. (w.1.0, w.1.1, ((w.1.2.0, w.1.2.1), rw w.1.2.2 w.2)))

    -- a position with no condition is in nobody's way
    is_allowed : (p : ℕ) → Is (allows r s below t p) (r.present (place_of t p) ≡ 1 → Stands r s t p ⊎ CanBeBrought r s Below t p)
    is_allowed p =
        is_said
        (is_or (is_then (is_eqb (r.present (place_of t p)) 1) (is_eqb (get_or s.conds (place_of t p) 0) (r.desired (place_of t p)))) (is_brought p))
        (λ w c. ⊎_elim (λ h. inl (h c)) (λ h. inr h) w)
        (back (eqb (r.present (place_of t p)) 1) refl)
      where
        back : (b : Bool) → eqb (r.present (place_of t p)) 1 ≡ b
            → (r.present (place_of t p) ≡ 1 → Stands r s t p ⊎ CanBeBrought r s Below t p)
            → (r.present (place_of t p) ≡ 1 → Stands r s t p) ⊎ CanBeBrought r s Below t p
        back true e f = ⊎_elim (λ h. inl (λ c. h)) (λ h. inr h) (f ((is_eqb (r.present (place_of t p)) 1).0 e))
        back false e f = inl (λ c. absurd (false≢true (sym e ∙ (is_eqb (r.present (place_of t p)) 1).1 c)))

    is_starts : Is (starts r s below t) (Starts r s Below t)
    unfolding starts
    is_starts =
        is_said
        (is_and (is_eqb (state_of s t) inactive) (is_all positions (λ p h. is_allowed p)))
        (λ w. (w.0, λ p c. w.1 p c.0 c.1))
        (λ w. (w.0, λ p h c. w.1 p (h, c)))

  pub is_starts_below : (d t : ℕ) → Is (starts_below r s d t) (StartsBelow r s d t)
  unfolding starts_below
  is_starts_below zero t = (false≢true, λ z. absurd z)
  is_starts_below (suc d) t = is_starts (starts_below r s d) (StartsBelow r s d) (is_starts_below d) t

  -- WHO CAN START: what is computed is what the words say
  pub can_start_lem : (d t : ℕ) → Is (can_start r s d t) (CanStart r s d t)
  unfolding can_start
  can_start_lem d t = is_starts (starts_below r s d) (StartsBelow r s d) (is_starts_below d) t

  -- a condition blocks exactly where it is not allowed
  is_blocks : (d t p : ℕ) → p < positions → Is (blocks r s d t p) (Blocks r s d t p)
  is_blocks d t p h =
      is_said (is_not (is_allowed (starts_below r s d) (StartsBelow r s d) (is_starts_below d) t p)) there
      (λ b f. ⊎_elim (λ x. b.1 x) (λ x. b.2 x) (f b.0.1))
    where
      there : ((r.present (place_of t p) ≡ 1 → Stands r s t p ⊎ CanBeBrought r s (StartsBelow r s d) t p) → ⊥) → Blocks r s d t p
      there n =
          by (eqb (r.present (place_of t p)) 1)
          (λ e. ((h, (is_eqb (r.present (place_of t p)) 1).0 e), (λ x. n (λ c. inl x)), (λ x. n (λ c. inr x))))
          (λ e. absurd (n (λ c. absurd (false≢true (sym e ∙ (is_eqb (r.present (place_of t p)) 1).1 c)))))

  -- THE ANSWER for an inactive task: yes exactly when it can start; else the condition named is one that blocks, and no lower one does
  pub lowest_blocking_lem : (d t : ℕ) → state_of s t ≡ inactive → LowestBlocking r s d t (lowest_blocking r s d t)
  unfolding lowest_blocking
  lowest_blocking_lem d t quiet =
      record {
        yes = ((λ e. can (λ p h b. free p (rw e h) b)), (λ w. lowest_none positions (blocks r s d t) (λ p h. never p h (λ b. clash w p b))));
        blocking = λ n. let low = below (lowest_most positions (blocks r s d t)) n in (is_blocks d t n₀ low).0 (lowest_passes positions (blocks r s d t) low);
        lower = free;
      }
    where
      n₀ : ℕ
      n₀ = lowest positions (blocks r s d t)

      below : n₀ ≤ positions → n₀ ≢ positions → n₀ < positions
      below h n = omega (arith, h, n)

      never : (p : ℕ) → p < positions → (Blocks r s d t p → ⊥) → blocks r s d t p ≡ false
      never p h n = by (blocks r s d t p) (λ e. absurd (n ((is_blocks d t p h).0 e))) (λ e. e)

      free : (p : ℕ) → p < n₀ → Blocks r s d t p → ⊥
      free p h b = true≢false (sym ((is_blocks d t p b.0.0).1 b) ∙ lowest_before positions (blocks r s d t) p h)

      clash : CanStart r s d t → (p : ℕ) → Blocks r s d t p → ⊥
      clash w p b = ⊎_elim (λ x. b.1 x) (λ x. b.2 x) (w.1 p b.0)

      can : ((p : ℕ) → p < positions → Blocks r s d t p → ⊥) → CanStart r s d t
      can f = (
        quiet,
        λ p c.
            let is = is_allowed (starts_below r s d) (StartsBelow r s d) (is_starts_below d) t p in
            by (allows r s (starts_below r s d) t p) (λ e. is.0 e c.1) (λ e. absurd (f p c.0 ((is_blocks d t p c.0).0 (rw e)))),
      )

-- the words fix the number
pub blocking_same : (r : Rig) (s : State) (d t m n : ℕ) → LowestBlocking r s d t m → LowestBlocking r s d t n → m ≡ n
blocking_same r s d t m n a b = by (eqb m n) (λ e. (is_eqb m n).0 e) (λ e. absurd (apart (λ q. false≢true (sym e ∙ (is_eqb m n).1 q))))
  where
    -- a number is a position that blocks, or 16
    small : (k : ℕ) → LowestBlocking r s d t k → k ≤ positions
    small k w = by (eqb k positions) (λ e. omega (arith, (is_eqb k positions).0 e)) (λ e. omega (arith, (w.blocking (λ q. false≢true (sym e ∙ (is_eqb k positions).1 q))).0.0))

    -- the lower one blocks, which the higher one rules out
    under : (j k : ℕ) → LowestBlocking r s d t j → LowestBlocking r s d t k → j < k → ⊥
    under j k v w h = w.lower j h (v.blocking (λ q. omega (arith, q, h, small k w)))

    apart : m ≢ n → ⊥
    apart q = by (ltb m n) (λ e. under m n a b ((is_ltb m n).0 e)) (λ e. under n m b a (omega (arith, q, ltb-false m n e)))

-- ---- "A larger d never turns a yes into a no."

module _ (r : Rig) (s : State) where
  -- the more can start below, the more conditions can be brought there
  more : (Few Many : ℕ → Type 0) → ((u : ℕ) → Few u → Many u) → (t : ℕ) → Starts r s Few t → Starts r s Many t
  more Few Many f t w = (w.0, λ p c. ⊎_elim (λ x. inl x) (λ x. inr (wider x)) (w.1 p c))
    where
      further : (g : ℕ) → ComesOn r Few g → ComesOn r Many g
      further g (inl x) = inl x
      further g (inr (inl x)) = inr (inl x)
      further g (inr (inr x)) = inr (inr (x.0, x.1, x.2, x.3, f x.0 x.4))

      wider : {p : ℕ} → CanBeBrought r s Few t p → CanBeBrought r s Many t p
      wider x = (x.0, x.1, ((λ e. further x.0 (x.2.0 e)), x.2.1))

  next_below : (d u : ℕ) → StartsBelow r s d u → StartsBelow r s (suc d) u
  next_below zero u z = absurd z
  next_below (suc d) u w = more (StartsBelow r s d) (StartsBelow r s (suc d)) (next_below d) u w

  one_more : (d t : ℕ) → CanStart r s d t → CanStart r s (suc d) t
  one_more d t w = next_below (suc d) t w

  -- by k links more
  further_on : (k d t : ℕ) → CanStart r s d t → CanStart r s (k + d) t
  further_on zero d t w = let q : 0 + d ≡ d = omega arith in rw q w
  further_on (suc k) d t w = let q : suc k + d ≡ suc (k + d) = omega arith in rw q (one_more (k + d) t (further_on k d t w))

  pub larger : (d e t : ℕ) → d ≤ e → CanStart r s d t → CanStart r s e t
  larger d e t h w = let q : (e - d) + d ≡ e = omega (arith, h) in rw q at (further_on (e - d) d t w)

  -- and of the answer: a yes stays, for every inactive task
  pub larger_yes : (d e t : ℕ) → state_of s t ≡ inactive → d ≤ e → lowest_blocking r s d t ≡ positions → lowest_blocking r s e t ≡ positions
  larger_yes d e t quiet h y = (lowest_blocking_lem r s e t quiet).yes.1 (larger d e t h ((lowest_blocking_lem r s d t quiet).yes.0 y))

-- ---- the question itself: where it is not refused, the state is what it was, no flag is served, and the answer is told
pub why_step : (r : Rig) (s : State) → Sound r s → (t d : ℕ) → refusal r s (why_not t d) ≡ 0
    → step r s (why_not t d) ≡ record { next = s; answer = record { code = 0; report = value_only (lowest_blocking r s d t) }; lent = [] }
unfolding ended effect output
why_step r s h t d fine = question_step r s h (why_not t d) refl refl fine
