-- Laws of the queue's entries.
use Rattle.std.specs.Prelude.{◌≡◌, refl, [], List, ◌∷◌, ◌+◌, ◌<◌, ◌≤◌, ℕ, zero, suc, eqb, ltb, ◌≢◌, get_or, length, set}
use Rattle.std.proofs.Common.{ap, arith, lt-ltb, add-one, get_or-set_same, get_or-set_other}
use Rattle.rules.specs.State.{active}
use Rattle.rules.specs.Serving.{push}
use Rattle.exec_queue.specs.View.{entries, entries_of}
use Rattle.exec_queue.specs.declared.Queue.{Queue}

pub entries_length : (l : List (ℕ × ℕ)) (n : ℕ) → length (entries l n) ≡ n
unfolding entries
entries_length l zero = refl
entries_length l (suc n) = ap suc (entries_length l n)

-- as many are queued as the queue says
pub queue_length : (q : Queue) → length (entries_of q) ≡ q.n
queue_length q = entries_length q.entries q.n

pub entries_none : (l : List (ℕ × ℕ)) → entries l 0 ≡ []
unfolding entries
entries_none l = refl

-- a store behind the last entry is not seen
entries_set : (l : List (ℕ × ℕ)) (k : ℕ) (e : ℕ × ℕ) (n : ℕ) → n ≤ k → entries (set l k e) n ≡ entries l n
unfolding entries
entries_set l k e zero h = refl
entries_set l k e (suc n) h =
    let a : get_or (set l k e) n (0, 0) ≡ get_or l n (0, 0) = get_or-set_other l k n e (0, 0) (λ q. omega arith) in
    rw (a, entries_set l k e n (omega arith))

pub entries_push : (l : List (ℕ × ℕ)) (k f v : ℕ) → k < length l → f ≢ 0 → entries (set l k (f, v)) (k + 1) ≡ push f v (entries l k)
unfolding entries
entries_push l k zero v a n = absurd (n refl)
entries_push l k (suc f) v a n =
    rw add-one (rw (get_or-set_same l k (suc f, v) (0, 0) a, entries_set l k (suc f, v) k (omega arith)))

-- the last entry is taken off
pub entries_pop : (l : List (ℕ × ℕ)) (n j : ℕ) → n ≡ suc j
    → entries l n ≡ (record { flag = (get_or l j (0, 0)).0; value = (get_or l j (0, 0)).1 } ∷ entries l j)
unfolding entries
entries_pop l n j e = rw e

-- "Active is 2 or 3." as the code tests it
pub active_is : (s : ℕ) → ltb 1 s ≡ eqb (active s) 1
active_is zero = refl
active_is (suc zero) = refl
active_is (suc (suc n)) = lt-ltb 1 (suc (suc n)) (omega arith)
