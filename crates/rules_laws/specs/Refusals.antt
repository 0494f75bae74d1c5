-- The refusal of a call is the smallest number that is to be given, exactly when it is; a refused call changes nothing.
use Rattle.std.specs.Prelude.{◌≡◌, ◌≢◌, ◌⊎◌, ◌↔◌, Bool, true, false, cond, List, [], ◌∷◌}
use Rattle.std.proofs.Math.Path.{refl, ap}
use Rattle.std.proofs.Common.{sym, ◌∙◌, subst, inl, inr, arith}
use Rattle.std.proofs.lemmas.Bool.{false≢true}
use Prim.Native.Nat.{ℕ, zero, suc, ◌≤◌, ◌<◌}
use Rattle.laws.specs.Cases.{dec_eq}
use Rattle.rules.specs.Rig.{Rig}
use Rattle.rules.specs.State.{State}
use Rattle.rules.specs.Calls.{Call, schedule, cancel, terminate, finish, tick, wait_until, wait_for, latched, unlatched, signal, read_flag, read_block, write_block, next_waking, read_overruns, why_not}
use Rattle.rules.specs.Calls.{Refusal, row, decide, refusals, refusal, lent, refused, accepted, after, step}

-- ---- any table that rises

-- number n is to be given by a row of the table
abbrev pub Given : ℕ → List Refusal → Type 0
Given n [] = ⊥
Given n (x ∷ xs) = ((x.number ≡ n) × (x.given ≡ true)) ⊎ Given n xs

-- its numbers rise, all above k
abbrev pub Rising : ℕ → List Refusal → Type 0
Rising k [] = Unit {0}
Rising k (x ∷ xs) = (k < x.number) × Rising x.number xs

rising_above : (k n : ℕ) (xs : List Refusal) → Rising k xs → Given n xs → k < n
rising_above k n [] h g = absurd g
rising_above k n (x ∷ xs) h (inl e) = omega (arith, h.0, e.0)
rising_above k n (x ∷ xs) h (inr g) = omega (arith, h.0, rising_above x.number n xs h.1 g)

decide_given : (xs : List Refusal) → decide xs ≢ 0 → Given (decide xs) xs
unfolding decide
decide_given [] = λ n. absurd (n refl)
decide_given (x ∷ xs) = go x.given refl (λ m. decide_given xs m)
  where
    go : (b : Bool) → x.given ≡ b → (decide xs ≢ 0 → Given (decide xs) xs) → cond b x.number (decide xs) ≢ 0
        → ((x.number ≡ cond b x.number (decide xs)) × (x.given ≡ true)) ⊎ Given (cond b x.number (decide xs)) xs
    go true e ih n = inl (refl, e)
    go false e ih n = inr (ih n)

decide_least : (k n : ℕ) (xs : List Refusal) → Rising k xs → Given n xs → (k < decide xs) × (decide xs ≤ n)
unfolding decide
decide_least k n [] h g = absurd g
decide_least k n (x ∷ xs) h g = go x.given refl g (λ y. decide_least x.number n xs h.1 y)
  where
    go : (b : Bool) → x.given ≡ b → ((x.number ≡ n) × (x.given ≡ true)) ⊎ Given n xs
        → (Given n xs → (x.number < decide xs) × (decide xs ≤ n))
        → (k < cond b x.number (decide xs)) × (cond b x.number (decide xs) ≤ n)
    go true e (inl q) ih = (h.0, omega (arith, q.0))
    go true e (inr y) ih = (h.0, omega (arith, rising_above x.number n xs h.1 y))
    go false e (inl q) ih = absurd (false≢true (sym e ∙ q.1))
    go false e (inr y) ih = let z = ih y in (omega (arith, h.0, z.0), z.1)

-- "the smallest number": n is decided exactly when it is to be given and no smaller one is
pub decide_smallest : (xs : List Refusal) → Rising 0 xs → (n : ℕ) → n ≢ 0
    → (decide xs ≡ n) ↔ (Given n xs × ((m : ℕ) → m < n → Given m xs → ⊥))
decide_smallest xs h n z = (
  (λ e. (
    subst (λ (m : ℕ). Given m xs) e (decide_given xs (λ q. z (sym e ∙ q))),
    (λ m l g. omega (arith, e, (decide_least 0 m xs h g).1)),
  )),
  (λ p. go p (dec_eq (decide xs) n)),
)
  where
    go : Given n xs × ((m : ℕ) → m < n → Given m xs → ⊥) → Dec (decide xs ≡ n) → decide xs ≡ n
    go p (yes e) = e
    go p (no e) =
        let l = decide_least 0 n xs h p.0 in
        absurd (p.1 (decide xs) (omega (arith, l.1)) (decide_given xs (λ q. omega (arith, l.0))))

-- a row that is given decides; one that is not leaves it to those behind it
pub decide_here : (n : ℕ) (b : Bool) (xs : List Refusal) → b ≡ true → decide (row n b ∷ xs) ≡ n
unfolding decide
decide_here n b xs e = rw e

pub decide_next : (n : ℕ) (b : Bool) (xs : List Refusal) → b ≡ false → decide (row n b ∷ xs) ≡ decide xs
unfolding decide
decide_next n b xs e = rw e

-- ---- the tables of the calls

-- 5 to 11, in the table's order
pub refusals_rising : (r : Rig) (s : State) (k : Call) → Rising 0 (refusals r s k)
unfolding refusals
refusals_rising r s (schedule t) = (omega arith, (omega arith, (omega arith, (omega arith, tt))))
refusals_rising r s (cancel t) = (omega arith, (omega arith, (omega arith, (omega arith, tt))))
refusals_rising r s (terminate t) = (omega arith, (omega arith, (omega arith, (omega arith, tt))))
refusals_rising r s finish = (omega arith, tt)
refusals_rising r s (tick buffer) = (omega arith, (omega arith, tt))
refusals_rising r s (wait_until t) = (omega arith, (omega arith, tt))
refusals_rising r s (wait_for n) = (omega arith, (omega arith, tt))
refusals_rising r s (latched f v) = (omega arith, (omega arith, (omega arith, tt)))
refusals_rising r s (unlatched f v) = (omega arith, (omega arith, (omega arith, tt)))
refusals_rising r s (signal f v) = (omega arith, (omega arith, (omega arith, tt)))
refusals_rising r s (read_flag f) = (omega arith, (omega arith, (omega arith, tt)))
refusals_rising r s (read_block k area buffer) = (omega arith, (omega arith, (omega arith, tt)))
refusals_rising r s (write_block k area buffer) = (omega arith, (omega arith, (omega arith, tt)))
refusals_rising r s next_waking = tt
refusals_rising r s (read_overruns t) = (omega arith, tt)
refusals_rising r s (why_not t d) = (omega arith, (omega arith, (omega arith, tt)))

pub refusal_smallest : (r : Rig) (s : State) (k : Call) (n : ℕ) → n ≢ 0
    → (refusal r s k ≡ n) ↔ (Given n (refusals r s k) × ((m : ℕ) → m < n → Given m (refusals r s k) → ⊥))
unfolding refusal
refusal_smallest r s k = decide_smallest (refusals r s k) (refusals_rising r s k)

-- ---- a refused call changes nothing, an accepted one is what `accepted` says

module _ (r : Rig) (s : State) (k : Call) where
  -- "A refused call returns the record unchanged and writes nothing"
  pub refused_is : (n : ℕ) → refusal r s k ≡ suc n → step r s k ≡ refused (suc n) s k
  unfolding step after
  refused_is n e = ap (λ (m : ℕ). after m r s k) e

  pub accepted_is : refusal r s k ≡ 0 → step r s k ≡ accepted r s k
  unfolding step after
  accepted_is e = ap (λ (m : ℕ). after m r s k) e

  -- the answer's number is the refusal
  pub code_is : (step r s k).answer.code ≡ refusal r s k
  unfolding step after accepted
  code_is = go (refusal r s k)
    where
      go : (n : ℕ) → (after n r s k).answer.code ≡ n
      go zero = refl
      go (suc n) = refl

  pub refused_unchanged : (step r s k).answer.code ≢ 0 → ((step r s k).next ≡ s) × ((step r s k).lent ≡ lent k)
  unfolding step after accepted
  refused_unchanged = go (refusal r s k)
    where
      go : (n : ℕ) → (after n r s k).answer.code ≢ 0 → ((after n r s k).next ≡ s) × ((after n r s k).lent ≡ lent k)
      go zero h = absurd (h refl)
      go (suc n) h = (refl, refl)
