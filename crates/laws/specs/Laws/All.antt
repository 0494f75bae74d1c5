-- Laws of the definitions of All.antt.
use Rattle.std.specs.Prelude.{◌≡◌, refl, Bool, true, false, ◌&&◌, ℕ, zero, suc, ◌+◌, ◌-◌, ◌≤◌, ◌<◌, List, [], ◌∷◌, ltb, get_or}
use Rattle.std.proofs.Common.{sym, ◌∙◌, ap, true≢false, add-one, arith, ltb-true, ltb-false, lt-ltb, le-ltb}
use Rattle.std.proofs.lemmas.Bool.{false≢true}
use Rattle.laws.specs.Cases.{by, by_bool, by_eqb, below_but, and_go, and_yes, or_yes, or_skip}
use Rattle.laws.specs.All.{all, all_of, Passed, since}

pub and_left : (a b : Bool) → (a && b) ≡ true → a ≡ true
and_left true b e = refl
and_left false b e = e

pub and_right : (a b : Bool) → (a && b) ≡ true → b ≡ true
and_right true b e = e
and_right false b e = absurd (false≢true e)

-- the four laws that a checking loop's proof cites: where it begins, a turn, a place that fails, and what the answer says
pub all_zero : (p : ℕ → Bool) → all 0 p ≡ true
unfolding all
all_zero p = refl

pub all_next : (i : ℕ) (p : ℕ → Bool) → all i p ≡ true → p i ≡ true → all (i + 1) p ≡ true
unfolding all
all_next i p a b = rw add-one (rw a b)

pub all_at : (n : ℕ) (p : ℕ → Bool) → all n p ≡ true → (k : ℕ) → k < n → p k ≡ true
unfolding all
all_at zero p a k h = absurd (omega arith)
all_at (suc n) p a k h =
    by_eqb k n (λ b. p k ≡ true) (λ q. rw q (and_right (all n p) (p n) a))
    (λ ne. all_at n p (and_left (all n p) (p n) a) k (below_but k n h ne))

pub all_not : (n : ℕ) (p : ℕ → Bool) (k : ℕ) → k < n → p k ≡ false → all n p ≡ false
all_not n p k h e =
    by_bool (all n p) (λ b. b ≡ false) (λ t. absurd (true≢false (sym (all_at n p t k h) ∙ e))) (λ r. refl)

-- where tests do not all pass, one fails
pub fails_at : (n : ℕ) (p : ℕ → Bool) → all n p ≡ false → (k : ℕ) × (k < n) × (p k ≡ false)
unfolding all
fails_at zero p e = absurd (true≢false e)
fails_at (suc n) p e =
    by (p n)
    (λ t.
    let w = fails_at n p (sym (and_yes (all n p)) ∙ ap (λ (b : Bool). all n p && b) (sym t) ∙ e) in
    (w.0, omega (arith, w.1), w.2))
    (λ f. (n, omega arith, f))

pub all_of_nil : all_of [] ≡ true
unfolding all_of
all_of_nil = refl

pub all_of_cons : (b : Bool) (bs : List Bool) → b ≡ true → all_of bs ≡ true → all_of (b ∷ bs) ≡ true
unfolding all_of
all_of_cons b bs e f = rw e f

-- the last test of a list is often what is returned
pub all_of_last : (b : Bool) → all_of (b ∷ []) ≡ b
unfolding all_of
all_of_last true = refl
all_of_last false = refl

pub all_of_skip : (b : Bool) (bs : List Bool) → b ≡ true → all_of (b ∷ bs) ≡ all_of bs
unfolding all_of
all_of_skip b bs e = rw e

pub all_of_at : (l : List Bool) → all_of l ≡ true → (k : ℕ) → get_or l k true ≡ true
unfolding all_of
all_of_at [] e k = refl
all_of_at (b ∷ bs) e zero = and_left b (all_of bs) e
all_of_at (b ∷ bs) e (suc k) = all_of_at bs (and_right b (all_of bs) e) k

pub all_of_not : (l : List Bool) (k : ℕ) → get_or l k true ≡ false → all_of l ≡ false
all_of_not l k e =
    by_bool (all_of l) (λ b. b ≡ false) (λ t. absurd (true≢false (sym (all_of_at l t k) ∙ e))) (λ r. refl)

-- the way back: what holds at each number makes the test true
pub all_all : (n : ℕ) (p : ℕ → Bool) → ((k : ℕ) → k < n → p k ≡ true) → all n p ≡ true
unfolding all
all_all zero p h = refl
all_all (suc n) p h = rw (all_all n p (λ k l. h k (omega arith))) (h n (omega arith))

-- tests that agree on the first n numbers
pub all_same : (n : ℕ) (p q : ℕ → Bool) → ((k : ℕ) → k < n → p k ≡ q k) → all n p ≡ all n q
unfolding all
all_same zero p q h = refl
all_same (suc n) p q h = rw (all_same n p q (λ k l. h k (omega arith)), h n (omega arith))

-- all of several tests at once
pub all_and : (n : ℕ) (p q : ℕ → Bool) → all n (λ k. p k && q k) ≡ (all n p && all n q)
all_and n p q =
    by_bool (all n (λ k. p k && q k)) (λ b. b ≡ (all n p && all n q))
    (λ e. sym (and_go (all_all n p (λ k h. and_left (p k) (q k) (all_at n (λ k. p k && q k) e k h))) (all_all n q (λ k h. and_right (p k) (q k) (all_at n (λ k. p k && q k) e k h)))))
    (λ e. by_bool (all n p && all n q) (λ b. false ≡ b) (λ w. sym e ∙ all_all n (λ k. p k && q k) (λ k h. and_go (all_at n p (and_left (all n p) (all n q) w) k h) (all_at n q (and_right (all n p) (all n q) w) k h))) (λ w. refl))

pub all_three : (n : ℕ) (p q r : ℕ → Bool) → all n (λ k. p k && (q k && r k)) ≡ (all n p && (all n q && all n r))
all_three n p q r = all_and n p (λ k. q k && r k) ∙ ap (λ (x : Bool). all n p && x) (all_and n q r)

pub passed_none : (test : ℕ → Bool) → Passed 0 0 test
passed_none test = sym (all_zero test)

pub passed_next : {bad new : ℕ} (i : ℕ) (test : ℕ → Bool) → Passed bad i test → test i ≡ true → new ≡ bad → Passed new (i + 1) test
unfolding all
passed_next i test p e q = rw q (p ∙ sym (rw add-one (rw e (and_yes (all i test)))))

pub passed_not : {new : ℕ} (i : ℕ) (test : ℕ → Bool) → test i ≡ false → new ≡ 1 → Passed new (i + 1) test
passed_not i test e q = rw q (sym (all_not (i + 1) test i (omega arith) e))

-- numbers that pass make no difference
pub all_more : (n m : ℕ) (p : ℕ → Bool) → n ≤ m → ((k : ℕ) → n ≤ k → k < m → p k ≡ true) → all n p ≡ all m p
all_more n m p h f =
    by_bool (all n p) (λ b. b ≡ all m p)
    (λ e. sym (all_all m p (λ k l. by (ltb k n) (λ q. all_at n p e k (ltb-true k n q)) (λ q. f k (ltb-false k n q) l))))
    (λ e. by_bool (all m p) (λ b. false ≡ b) (λ w. sym e ∙ all_all n p (λ k l. all_at m p w k (omega (arith, l, h)))) (λ w. refl))

-- the tests of m numbers from k on, where those before passed
pub all_on : (k m : ℕ) (p : ℕ → Bool) → all k p ≡ true → all m (λ i. p (k + i)) ≡ all (k + m) p
all_on k m p e =
    by_bool (all m (λ i. p (k + i))) (λ b. b ≡ all (k + m) p)
    (λ t. sym (all_all (k + m) p (λ j h.
    by (ltb j k) (λ l. all_at k p e j (ltb-true j k l))
    (λ l.
    let g = ltb-false j k l in
    let q : k + (j - k) ≡ j = omega (arith, g) in
    rw q at (all_at m (λ i. p (k + i)) t (j - k) (omega (arith, g, h)))))))
    (λ f. by_bool (all (k + m) p) (λ b. false ≡ b) (λ w. sym f ∙ all_all m (λ i. p (k + i)) (λ i h. all_at (k + m) p w (k + i) (omega (arith, h)))) (λ w. refl))

-- where one of the first numbers fails, more do not pass
pub all_short : (m n : ℕ) (p : ℕ → Bool) → m ≤ n → all m p ≡ false → all n p ≡ false
all_short m n p h e =
    by (all n p) (λ t. absurd (false≢true (sym e ∙ all_all m p (λ k l. all_at n p t k (omega (arith, l, h)))))) (λ f. f)

pub since_start : (from : ℕ) (p : ℕ → Bool) (n : ℕ) → n ≤ from → all n (since from p) ≡ true
since_start from p n h = all_all n (since from p) (λ k g. sym (or_yes (ltb k from) (p k) (lt-ltb k from (omega (arith, g, h)))))

pub since_at : (from : ℕ) (p : ℕ → Bool) (i : ℕ) → from ≤ i → p i ≡ since from p i
since_at from p i h = or_skip (ltb i from) (p i) (le-ltb i from h)

pub since_end : (from to i : ℕ) (p : ℕ → Bool) → from ≤ i → i - from ≤ to - from → to ≤ i → all i (since from p) ≡ all to (since from p)
since_end from to i p a b d =
    by (ltb to from)
    (λ e. since_start from p i (omega (arith, ltb-true to from e)) ∙ sym (since_start from p to (omega (arith, ltb-true to from e))))
    (λ e. ap (λ (k : ℕ). all k (since from p)) (omega (arith, ltb-false to from e)))
