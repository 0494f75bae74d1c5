-- The decimal of n is read as n, and what is read as n is the decimal of n.
--     number_dec    number (dec n) ≡ n, for n below cap
--     dec_number    number l ≡ n → l ≡ dec n, for n below cap
-- Assumes nothing.
use Rattle.std.specs.Prelude.{ℕ, zero, suc, ◌+◌, ◌-◌, ◌*◌, ◌/◌, ◌%◌, ◌^◌, ◌≤◌, ◌<◌, min, ◌≡◌, refl, true, false, List, [], ◌∷◌, ◌++◌, length, drop, get_or, leb, ltb, eqb}
use Rattle.std.proofs.Common.{ap, ◌∙◌, append_assoc, append-nil, arith, pow-suc, add-one, drop_of_length-le, drop-cons, ltb-true, ltb-false, leb-true, eqb-true, lt-ltb, le-ltb, le-leb, ne_eqb}
use Rattle.std.proofs.lemmas.Bool.{eqb-false, lt-leb}
use Rattle.laws.specs.Cases.{by}
use Rattle.laws.specs.Laws.All.{and_left, and_right}
use Rattle.decimal.specs.Decimal.{cap, bad, unread, digit, read_byte, read_on, number, dec_by, dec}

pub digit_of : (b : ℕ) → 48 ≤ b → b ≤ 57 → digit b ≡ true
digit_of b p q = rw (le-leb 48 b p, le-leb b 57 q)

pub digit_is : (b : ℕ) → digit b ≡ true → (48 ≤ b) × (b ≤ 57)
digit_is b e = (leb-true 48 b (and_left (leb 48 b) (leb b 57) e), leb-true b 57 (and_right (leb 48 b) (leb b 57) e))

pub digit_low : (b : ℕ) → b < 48 → digit b ≡ false
digit_low b h = rw (lt-leb 48 b h)

pub digit_high : (b : ℕ) → 57 < b → digit b ≡ false
digit_high b h = rw (le-leb 48 b (omega arith), lt-leb b 57 h)

-- what `read_byte` does, case by case
pub step_start : (b : ℕ) → digit b ≡ true → read_byte unread b ≡ b - 48
unfolding read_byte
step_start b e = rw e

pub step_num : (m b : ℕ) → digit b ≡ true → 0 < m → m ≤ cap → read_byte m b ≡ min cap (m * 10 + (b - 48))
unfolding read_byte
step_num m b e p q = rw (e, ne_eqb m unread (omega arith), ne_eqb m 0 (omega arith), le-ltb cap m q)

pub step_not : (m b : ℕ) → digit b ≡ false → read_byte m b ≡ bad
unfolding read_byte
step_not m b e = rw e

pub step_zero : (b : ℕ) → read_byte 0 b ≡ bad
unfolding read_byte
step_zero b = by (digit b) (λ e. rw e) (λ e. rw e)

pub step_over : (m b : ℕ) → cap < m → (m ≡ unread → ⊥) → read_byte m b ≡ bad
unfolding read_byte
step_over m b h n = by (digit b) (λ e. rw (e, ne_eqb m unread n, ne_eqb m 0 (omega arith), lt-ltb cap m h)) (λ e. rw e)

-- the same as the code has it: w is the byte, made wide
pub on_start : (m b w : ℕ) → 48 ≤ b → b ≤ 57 → m ≡ unread → w ≡ b → w - 48 ≡ read_byte m b
on_start m b w p q e f = rw (e, f, step_start b (digit_of b p q))

pub on_zero : (m b : ℕ) → m ≡ 0 → bad ≡ read_byte m b
on_zero m b e = rw (e, step_zero b)

pub on_num : (m b w : ℕ) → 48 ≤ b → b ≤ 57 → (0 < m) × (m ≤ cap) → w ≡ b → m * 10 + (w - 48) < cap → m * 10 + (w - 48) ≡ read_byte m b
on_num m b w p q h f t = rw (step_num m b (digit_of b p q) h.0 h.1) (omega arith)

pub on_cap : (m b w : ℕ) → 48 ≤ b → b ≤ 57 → 0 < m → m ≤ cap → w ≡ b → cap ≤ m * 10 + (w - 48) → cap ≡ read_byte m b
on_cap m b w p q h g f t = rw (step_num m b (digit_of b p q) h g) (omega arith)

step_high : (m b : ℕ) → cap ≤ m → (m ≡ unread → ⊥) → (cap ≤ read_byte m b) × (read_byte m b ≡ unread → ⊥)
unfolding read_byte
step_high m b h n =
    by (digit b)
    (λ e. rw (e, ne_eqb m unread n, ne_eqb m 0 (omega arith))
    (by (ltb cap m) (λ f. rw f (omega arith)) (λ f. rw f (omega arith))))
    (λ e. rw e (omega arith))

-- at `cap` and at `bad` no text leads back
pub stuck : (l : List ℕ) (m : ℕ) → cap ≤ m → (m ≡ unread → ⊥) → cap ≤ read_on m l
unfolding read_on
stuck [] m h n = h
stuck (b ∷ bs) m h n = let p = step_high m b h n in stuck bs (read_byte m b) p.0 p.1

pub run_snoc : (l : List ℕ) (m b : ℕ) → read_on m (l ++ (b ∷ [])) ≡ read_byte (read_on m l) b
unfolding read_on
run_snoc [] m b = refl
run_snoc (x ∷ xs) m b = run_snoc xs (read_byte m x) b

-- a tenth is below the tenth of the bound
tenth : (k n : ℕ) → n < 10 ^ suc k → n / 10 < 10 ^ k
tenth k n h = let g : n < 10 ^ k * 10 = rw pow-suc at h in omega arith

dec_by_more : (k n : ℕ) → n < 10 ^ suc k → dec_by k n ≡ dec_by (suc k) n
unfolding dec_by
dec_by_more zero n h = rw (lt-ltb n 10 h)
dec_by_more (suc k) n h = by (ltb n 10) (λ e. rw e) (λ e. rw (e, dec_by_more k (n / 10) (tenth (suc k) n h)))

dec_by_snoc : (k m d : ℕ) → 0 < m → d < 10 → dec_by (suc k) (m * 10 + d) ≡ dec_by k m ++ ((48 + d) ∷ [])
unfolding dec_by
dec_by_snoc k m d p q =
    let e : (m * 10 + d) / 10 ≡ m = omega arith in
    let f : (m * 10 + d) % 10 ≡ d = omega arith in
    let t : ltb (m * 10 + d) 10 ≡ false = le-ltb (m * 10 + d) 10 (omega arith) in
    rw (t, e, f)

dec_snoc : (m d : ℕ) → 0 < m → d < 10 → m * 10 + d < cap → dec (m * 10 + d) ≡ dec m ++ ((48 + d) ∷ [])
unfolding dec
dec_snoc m d p q h = dec_by_snoc 8 m d p q ∙ ap (λ (l : List ℕ). l ++ ((48 + d) ∷ [])) (dec_by_more 8 m (omega arith))

pub dec_small : (d : ℕ) → d < 10 → dec d ≡ (48 + d) ∷ []
unfolding dec dec_by
dec_small d h = rw (lt-ltb d 10 h)

-- from 0 and from what is no number, nothing is read
not_from : (l : List ℕ) (m n : ℕ) → n < cap → cap ≤ m → (m ≡ unread → ⊥) → read_on m l ≡ n → ⊥
not_from l m n r h s e = let g = stuck l m h s in omega arith

read_back : (l : List ℕ) (m n : ℕ) → 0 < m → m < cap → n < cap → read_on m l ≡ n → dec m ++ l ≡ dec n
unfolding read_on
read_back [] m n p q r e = append-nil (dec m) ∙ ap dec e
read_back (b ∷ bs) m n p q r e =
    by (digit b)
    (λ t. let w = digit_is b t in
    let f : read_on (min cap (m * 10 + (b - 48))) bs ≡ n = rw (step_num m b t p (omega arith)) at e in
    by (ltb (m * 10 + (b - 48)) cap)
    (λ u. let v = ltb-true (m * 10 + (b - 48)) cap u in
    let g : min cap (m * 10 + (b - 48)) ≡ m * 10 + (b - 48) = omega arith in
    let i : dec (m * 10 + (b - 48)) ++ bs ≡ dec n = read_back bs (m * 10 + (b - 48)) n (omega arith) v r (rw g at f) in
    let j : 48 + (b - 48) ≡ b = omega arith in
    rw (← i, dec_snoc m (b - 48) p (omega arith) v, j, append_assoc))
    (λ u. let v = ltb-false (m * 10 + (b - 48)) cap u in
    absurd (not_from bs (min cap (m * 10 + (b - 48))) n r (omega arith) (omega arith) f)))
    (λ t. absurd (not_from bs bad n r (omega arith) (omega arith) (rw (step_not m b t) at e)))

from_zero : (l : List ℕ) (n : ℕ) → n < cap → read_on 0 l ≡ n → 48 ∷ l ≡ dec n
unfolding read_on
from_zero [] n r e = rw (← e, dec_small 0 (omega arith))
from_zero (b ∷ bs) n r e = absurd (not_from bs bad n r (omega arith) (omega arith) (rw (step_zero b) at e))

pub dec_number : (l : List ℕ) (n : ℕ) → n < cap → number l ≡ n → l ≡ dec n
unfolding read_on
dec_number [] n r e = absurd (omega arith)
dec_number (b ∷ bs) n r e =
    by (digit b)
    (λ t. let w = digit_is b t in
    let f : read_on (b - 48) bs ≡ n = rw (step_start b t) at e in
    by (eqb b 48)
    (λ u. let v = eqb-true b 48 u in rw v (from_zero bs n r (rw v at f)))
    (λ u. let v = ne_zero b u w.0 in
    let j : 48 + (b - 48) ≡ b = omega arith in
    rw (← read_back bs (b - 48) n v (omega arith) r f, dec_small (b - 48) (omega arith), j)))
    (λ t. absurd (not_from bs bad n r (omega arith) (omega arith) (rw (step_not unread b t) at e)))
  where
    ne_zero : (b : ℕ) → eqb b 48 ≡ false → 48 ≤ b → 0 < b - 48
    ne_zero b u p = let v = eqb-false b 48 u in omega arith

pub number_dec_by : (k n : ℕ) → n < 10 ^ suc k → n < cap → number (dec_by k n) ≡ n
unfolding dec_by read_on
number_dec_by zero n h r = step_start (48 + n) (digit_of (48 + n) (omega arith) (omega arith)) ∙ omega arith
number_dec_by (suc k) n h r =
    by (ltb n 10)
    (λ e. let v = ltb-true n 10 e in rw (e, step_start (48 + n) (digit_of (48 + n) (omega arith) (omega arith))) (omega arith))
    (λ e. let v = ltb-false n 10 e in
    let i : read_on unread (dec_by k (n / 10)) ≡ n / 10 = number_dec_by k (n / 10) (tenth (suc k) n h) (omega arith) in
    rw (e, run_snoc, i, step_num (n / 10) (48 + n % 10) (digit_of (48 + n % 10) (omega arith) (omega arith)) (omega arith) (omega arith))
    (omega arith))

pub number_dec : (n : ℕ) → n < cap → number (dec n) ≡ n
unfolding dec
number_dec n h = number_dec_by 9 n (omega arith) h

-- a turn of a loop that reads the list from i on, and its end
pub run_turn : (f : List ℕ) (i m n x : ℕ) → read_on m (drop i f) ≡ x → n ≡ read_byte m (get_or f i 0) → i < length f → read_on n (drop (i + 1) f) ≡ x
unfolding read_on
run_turn f i m n x e q h = let g : read_on m (get_or f i 0 ∷ drop (suc i) f) ≡ x = rw (drop-cons f i 0 h) at e in rw (q, add-one) g

pub run_ends : (f : List ℕ) (i m x : ℕ) → read_on m (drop i f) ≡ x → length f ≤ i → m ≡ x
unfolding read_on
run_ends f i m x e h = rw (drop_of_length-le f h) at e

-- a number of two digits or more, by its last
pub dec_tens : (n : ℕ) → 10 ≤ n → n < cap → dec n ≡ dec (n / 10) ++ ((48 + n % 10) ∷ [])
dec_tens n h g =
    let e : n ≡ n / 10 * 10 + n % 10 = omega arith in
    ap dec e ∙ dec_snoc (n / 10) (n % 10) (omega arith) (omega arith) (omega arith)
