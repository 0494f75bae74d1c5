-- Laws of the definitions of First.antt.
use Rattle.std.specs.Prelude.{◌≡◌, refl, ◌≢◌, Bool, true, false, List, [], ◌∷◌, ◌++◌, ℕ, zero, suc, ◌+◌, ◌≤◌, ◌<◌, length, get_or}
use Rattle.std.proofs.Common.{sym, ◌∙◌, ap, arith}
use Rattle.std.proofs.lemmas.Bool.{false≢true}
use Rattle.laws.specs.All.{all_of}
use Rattle.laws.specs.Laws.All.{all_of_cons, all_of_nil}
use Rattle.laws.specs.First.{first_false}

-- a loop through the tests: none left, one that holds, one that fails
pub first_none : (n : ℕ) → first_false n [] ≡ 0
unfolding first_false
first_none n = refl

pub first_skip : (n : ℕ) (b : Bool) (bs : List Bool) → b ≡ true → first_false n (b ∷ bs) ≡ first_false (suc n) bs
unfolding first_false
first_skip n b bs e = rw e

pub first_here : (n : ℕ) (b : Bool) (bs : List Bool) → b ≡ false → first_false n (b ∷ bs) ≡ n
unfolding first_false
first_here n b bs e = rw e

-- a group of tests before the others
pub first_group : (n : ℕ) (xs ys : List Bool) → first_false n xs ≡ 0 → 0 < n → first_false n (xs ++ ys) ≡ first_false (n + length xs) ys
unfolding first_false
first_group n [] ys e h = ap (λ (k : ℕ). first_false k ys) (omega arith)
first_group n (true ∷ xs) ys e h = first_group (suc n) xs ys e (omega arith) ∙ ap (λ (k : ℕ). first_false k ys) (omega arith)
first_group n (false ∷ xs) ys e h = absurd (omega arith)

pub first_in : (n : ℕ) (xs ys : List Bool) → first_false n xs ≢ 0 → first_false n (xs ++ ys) ≡ first_false n xs
unfolding first_false
first_in n [] ys h = absurd (h refl)
first_in n (true ∷ xs) ys h = first_in (suc n) xs ys h
first_in n (false ∷ xs) ys h = refl

-- none fails exactly when all hold
pub first_all : (n : ℕ) (l : List Bool) → 0 < n → first_false n l ≡ 0 → all_of l ≡ true
unfolding first_false
first_all n [] h e = all_of_nil
first_all n (true ∷ bs) h e = all_of_cons true bs refl (first_all (suc n) bs (omega arith) e)
first_all n (false ∷ bs) h e = absurd (omega arith)

pub all_first : (n : ℕ) (l : List Bool) → all_of l ≡ true → first_false n l ≡ 0
unfolding first_false all_of
all_first n [] e = refl
all_first n (true ∷ bs) e = all_first (suc n) bs e
all_first n (false ∷ bs) e = absurd (false≢true e)

-- the answer r of a group of tests, in front of others: it is theirs too, or they go on
pub first_found : (n : ℕ) (xs ys : List Bool) (r : ℕ) → r ≡ first_false n xs → r ≢ 0 → r ≡ first_false n (xs ++ ys)
first_found n xs ys r e h = e ∙ sym (first_in n xs ys (λ z. h (e ∙ z)))

pub first_passed : (n : ℕ) (xs ys : List Bool) (r : ℕ) → r ≡ first_false n xs → r ≡ 0 → 0 < n → first_false n (xs ++ ys) ≡ first_false (n + length xs) ys
first_passed n xs ys r e z h = first_group n xs ys (sym e ∙ z) h

-- a last test that holds changes nothing
pub first_last : (n : ℕ) (xs : List Bool) (b : Bool) → b ≡ true → first_false n (xs ++ (b ∷ [])) ≡ first_false n xs
unfolding first_false
first_last n [] b e = rw e
first_last n (true ∷ xs) b e = first_last (suc n) xs b e
first_last n (false ∷ xs) b e = refl

-- a number that is given is at least the first
pub first_least : (n : ℕ) (l : List Bool) → first_false n l ≢ 0 → n ≤ first_false n l
unfolding first_false
first_least n [] h = absurd (h refl)
first_least n (true ∷ bs) h = omega (arith, first_least (suc n) bs h)
first_least n (false ∷ bs) h = omega arith

-- the number that is given is that of a test that fails
pub first_fails : (n k : ℕ) (l : List Bool) → 0 < n → first_false n l ≡ n + k → get_or l k true ≡ false
unfolding first_false
first_fails n k [] h e = absurd (omega arith)
first_fails n zero (true ∷ bs) h e = absurd (omega (arith, first_least (suc n) bs (λ z. omega arith)))
first_fails n zero (false ∷ bs) h e = refl
first_fails n (suc k) (true ∷ bs) h e = first_fails (suc n) k bs (omega arith) (omega arith)
first_fails n (suc k) (false ∷ bs) h e = absurd (omega arith)

-- and all before it hold
pub first_before : (n k j : ℕ) (l : List Bool) → 0 < n → first_false n l ≡ n + k → j < k → get_or l j true ≡ true
unfolding first_false
first_before n k j [] h e g = refl
first_before n k zero (true ∷ bs) h e g = refl
first_before n k zero (false ∷ bs) h e g = absurd (omega arith)
first_before n zero (suc j) (b ∷ bs) h e g = absurd (omega arith)
first_before n (suc k) (suc j) (true ∷ bs) h e g = first_before (suc n) k j bs (omega arith) (omega arith) (omega arith)
first_before n (suc k) (suc j) (false ∷ bs) h e g = absurd (omega arith)
