-- "numbers are decimal without spare zeros", said of the text alone; and that the reading, byte after byte, answers exactly that.
--     Decimal         a text of digits, at least one, whose first is 0 only where it is the only one
--     value           what digits say, each by its place
--     number_exact    number l ≤ cap ↔ Decimal l
--     number_value    Decimal l → number l ≡ min cap (value l)
--     number_start    number l ≡ unread ↔ length l ≡ 0, of what is no decimal
--     number_bad      number l ≡ bad ↔ (0 < length l) × (Decimal l → ⊥)
--     dec_plain       what is written for a number is a decimal, and its value is that number
-- Assumes nothing.
use Rattle.std.specs.Prelude.{ℕ, zero, suc, ◌+◌, ◌-◌, ◌*◌, ◌^◌, ◌≤◌, ◌<◌, min, ◌≡◌, refl, ◌≢◌, ◌↔◌, List, [], ◌∷◌, ltb, eqb, length, get_or}
use Rattle.std.proofs.Common.{sym, ap, ◌∙◌, arith, pow-suc, mul_comm, add-mul, mul_assoc, mul-le-mul_right, ltb-true, ltb-false, eqb-true}
use Rattle.std.proofs.lemmas.Bool.{eqb-false}
use Rattle.laws.specs.Cases.{by}
use Rattle.decimal.specs.Decimal.{cap, zero_byte, nine_byte, bad, unread, digit, read_byte, read_on, number, dec}
use Rattle.decimal.specs.Laws.{digit_of, digit_is, step_start, step_num, step_not, step_zero, step_over, number_dec}

-- every byte is a digit
abbrev pub Digits : List ℕ → Type 0
Digits [] = Unit {0}
Digits (b ∷ bs) = (zero_byte ≤ b) × (b ≤ nine_byte) × Digits bs

-- "decimal without spare zeros": digits, at least one; the first is 0 only where it is the only one
pub record Decimal (l : List ℕ) : Type 0 where
  pub some : 0 < length l
  pub digits : Digits l
  pub spare : get_or l 0 0 ≡ zero_byte → length l ≡ 1

-- what digits say: each its own value, times ten for every digit behind it
unfoldable pub value : List ℕ → ℕ
value [] = 0
value (b ∷ bs) = (b - zero_byte) * 10 ^ length bs + value bs

-- what is `bad` stays so
bad_stays : (l : List ℕ) → read_on bad l ≡ bad
unfolding read_on
bad_stays [] = refl
bad_stays (b ∷ bs) = rw (step_over bad b (omega arith) (λ e. omega arith)) (bad_stays bs)

-- after a number that is not 0, whatever is not `bad` was digits
digits_of : (l : List ℕ) (m : ℕ) → 0 < m → m ≤ cap → read_on m l ≢ bad → Digits l
unfolding read_on
digits_of [] m p q n = tt
digits_of (b ∷ bs) m p q n =
    by (digit b)
    (λ t. let w = digit_is b t in
    let s = step_num m b t p q in
    let low : 0 < read_byte m b = rw s (omega arith) in
    let high : read_byte m b ≤ cap = rw s (omega arith) in
    (w.0, w.1, digits_of bs (read_byte m b) low high n))
    (λ t. absurd (n (ap (λ (x : ℕ). read_on x bs) (step_not m b t) ∙ bad_stays bs)))

-- a power of ten is not 0
tens : (k : ℕ) → 1 ≤ 10 ^ k
tens zero = omega arith
tens (suc k) = let e = tens k in rw pow-suc (omega arith)

-- what was `cap` or above stays so, whatever digits follow
capped : (x p v : ℕ) → 1 ≤ p → min cap (min cap x * p + v) ≡ min cap (x * p + v)
capped x p v h =
    by (ltb x cap)
    (λ t. let u = ltb-true x cap t in
    let e : min cap x ≡ x = omega arith in
    rw e)
    (λ t. let u = ltb-false x cap t in
    let e : min cap x ≡ cap = omega arith in
    let g : cap * p ≤ x * p = mul-le-mul_right p u in
    rw e (omega arith))

-- after a number m that is not 0, digits are read by their places behind it
reads_on : (l : List ℕ) (m : ℕ) → 0 < m → m ≤ cap → Digits l → read_on m l ≡ min cap (m * 10 ^ length l + value l)
unfolding read_on value
reads_on [] m p q d = omega arith
reads_on (b ∷ bs) m p q d =
    let t = digit_of b d.0 d.1 in
    let s = step_num m b t p q in
    let low : 0 < read_byte m b = rw s (omega arith) in
    let high : read_byte m b ≤ cap = rw s (omega arith) in
    let i = reads_on bs (read_byte m b) low high d.2 in
    i ∙ (ap (λ (x : ℕ). min cap (x * 10 ^ length bs + value bs)) s ∙ (capped (m * 10 + (b - 48)) (10 ^ length bs) (value bs) (tens (length bs)) ∙ ap (min cap) (spread m (b - 48) (length bs) (value bs))))
  where
    spread : (m d k v : ℕ) → (m * 10 + d) * 10 ^ k + v ≡ m * 10 ^ suc k + (d * 10 ^ k + v)
    spread m d k v =
        let e : 10 ^ suc k ≡ 10 * 10 ^ k = pow-suc 10 k ∙ mul_comm (10 ^ k) 10 in
        let f : m * 10 * 10 ^ k ≡ m * 10 ^ suc k = mul_assoc m 10 (10 ^ k) ∙ ap (λ (x : ℕ). m * x) (sym e) in
        let g : (m * 10 + d) * 10 ^ k ≡ m * 10 * 10 ^ k + d * 10 ^ k = add-mul (m * 10) d (10 ^ k) in
        omega (arith, f, g)

-- ---- the reading of a text

-- a text that is not empty and not `bad` is a decimal
decimal_of : (l : List ℕ) → 0 < length l → number l ≢ bad → Decimal l
unfolding read_on
decimal_of [] h n = absurd (omega arith)
decimal_of (b ∷ bs) h n =
    by (digit b)
    (λ t. let w = digit_is b t in
    let s = step_start b t in
    by (eqb b 48)
    (λ u. let v = eqb-true b 48 u in
    let z : read_on 0 bs ≢ bad = λ e. n (ap (λ (x : ℕ). read_on x bs) (s ∙ ap (λ (x : ℕ). x - 48) v) ∙ e) in
    only b bs w.0 w.1 z)
    (λ u. let v = eqb-false b 48 u in
    let z : read_on (b - 48) bs ≢ bad = λ e. n (ap (λ (x : ℕ). read_on x bs) s ∙ e) in
    record { some = h; digits = (w.0, w.1, digits_of bs (b - 48) (above b v w.0) (omega arith) z); spare = λ e. absurd (v e) }))
    (λ t. absurd (n (ap (λ (x : ℕ). read_on x bs) (step_not unread b t) ∙ bad_stays bs)))
  where
    above : (b : ℕ) → b ≢ 48 → 48 ≤ b → 0 < b - 48
    above b v p = omega arith

    only : (b : ℕ) (bs : List ℕ) → 48 ≤ b → b ≤ 57 → read_on 0 bs ≢ bad → Decimal (b ∷ bs)
    only b [] p q z = record { some = omega arith; digits = (p, q, tt); spare = λ e. refl }
    only b (c ∷ cs) p q z = absurd (z (ap (λ (x : ℕ). read_on x cs) (step_zero c) ∙ bad_stays cs))

-- "decimal": a text is read as its value, or as `cap` where that is not below it
pub number_value : (l : List ℕ) → Decimal l → number l ≡ min cap (value l)
unfolding read_on value
number_value [] w = absurd (let h = w.some in omega arith)
number_value (b ∷ bs) w =
    let d = w.digits in
    let t = digit_of b d.0 d.1 in
    let s = step_start b t in
    by (eqb b 48)
    (λ u. let v = eqb-true b 48 u in zero_alone b bs v s (w.spare v))
    (λ u. let v = eqb-false b 48 u in ap (λ (x : ℕ). read_on x bs) s ∙ reads_on bs (b - 48) (omega arith) (omega arith) d.2)
  where
    zero_alone : (b : ℕ) (bs : List ℕ) → b ≡ 48 → read_byte unread b ≡ b - 48 → suc (length bs) ≡ 1 → read_on (read_byte unread b) bs ≡ min cap ((b - 48) * 10 ^ length bs + value bs)
    zero_alone b [] v s e = s ∙ omega arith
    zero_alone b (c ∷ cs) v s e = absurd (omega arith)

number_none : number [] ≡ unread
unfolding read_on
number_none = refl

-- "numbers are decimal without spare zeros": exactly these are read as numbers
pub number_exact : (l : List ℕ) → (number l ≤ cap) ↔ Decimal l
number_exact l = (there l, λ w. let e = number_value l w in omega arith)
  where
    there : (l : List ℕ) → number l ≤ cap → Decimal l
    there [] h = let e = number_none in absurd (omega arith)
    there (b ∷ bs) h = decimal_of (b ∷ bs) (omega arith) (λ e. omega arith)

-- what is no decimal: nothing at all is read as `unread`, and everything else as `bad`
pub number_start : (l : List ℕ) → (number l ≡ unread) ↔ (length l ≡ 0)
number_start [] = (λ e. refl, λ e. number_none)
number_start (b ∷ bs) = (
  λ e. let w = decimal_of (b ∷ bs) (omega arith) (λ f. omega arith) in
      let h = (number_exact (b ∷ bs)).1 w in
      absurd (omega arith),
  λ e. absurd (omega arith),
)

pub number_bad : (l : List ℕ) → (number l ≡ bad) ↔ ((0 < length l) × (Decimal l → ⊥))
number_bad l = (λ e. (some l e, λ w. let h = (number_exact l).1 w in omega arith), λ w. back w.0 w.1)
  where
    some : (l : List ℕ) → number l ≡ bad → 0 < length l
    some [] e = let f = number_none in absurd (omega arith)
    some (b ∷ bs) e = omega arith

    back : 0 < length l → (Decimal l → ⊥) → number l ≡ bad
    back h n = by (eqb (number l) bad) (λ t. eqb-true (number l) bad t) (λ t. absurd (n (decimal_of l h (eqb-false (number l) bad t))))

-- what is written for a number is a decimal, and says that number
pub dec_plain : (n : ℕ) → n < cap → Decimal (dec n) × (value (dec n) ≡ n)
dec_plain n h =
    let e = number_dec n h in
    let w = (number_exact (dec n)).0 (omega arith) in
    let v = number_value (dec n) w in
    (w, omega arith)
