-- Numbers and counts as they are said; and laws of texts that are written one behind the other.
-- Assumes nothing.
use Rattle.std.specs.Prelude.{ℕ, ◌+◌, ◌≤◌, ◌<◌, ◌≡◌, Bool, true, false, cond, List, [], ◌++◌, eqb, ltb, length}
use Rattle.std.proofs.Common.{sym, subst, arith, length-append, lt-ltb, le-ltb}
use Rattle.laws.specs.Cases.{by}
use Rattle.decimal.specs.Decimal.{cap, dec}
use Rattle.put_text.specs.Wrote.{Wrote}
use Rattle.put_text.specs.Laws.Wrote.{wrote_then, wrote_as, wrote_none}
use Rattle.bench_script.specs.Laws.Written.{dec_length}

-- a number in decimal; one of more than ten digits, to which no file leads, is left out
unfoldable pub number_text : ℕ → List ℕ
number_text n = cond (ltb n cap) (dec n) []

-- what stands before a count, the count, and the word for one or for more
unfoldable pub counted_text : List ℕ → ℕ → List ℕ → List ℕ → List ℕ
counted_text lead n one more = (lead ++ number_text n) ++ cond (eqb n 1) one more

-- ---- laws

pub number_length : (n : ℕ) → length (number_text n) ≤ 10
unfolding number_text
number_length n = by (ltb n cap) (λ e. rw e (dec_length n)) (λ e. rw e (omega arith))

pub number_wrote : (l m : List ℕ) (at n p : ℕ) → n < cap → Wrote l at (dec n) m p → Wrote l at (number_text n) m p
unfolding number_text
number_wrote l m at n p h w = rw (lt-ltb n cap h) w

pub number_left : (l : List ℕ) (at n : ℕ) → cap ≤ n → Wrote l at (number_text n) l at
unfolding number_text
number_left l at n h = rw (le-ltb n cap h) (wrote_none l at)

counted_is : (lead : List ℕ) (n : ℕ) (one more : List ℕ) (b : Bool) → eqb n 1 ≡ b → (lead ++ number_text n) ++ cond b one more ≡ counted_text lead n one more
unfolding counted_text
counted_is lead n one more b e = rw e

module _ (l : List ℕ) (at : ℕ) (lead : List ℕ) (n : ℕ) (one more : List ℕ) (m k : List ℕ) (p q : ℕ) where
  pub counted_one : at + 64 ≤ length l → length lead ≤ 16 → length one ≤ 16 → Wrote l at lead m p → Wrote m p (number_text n) k q → eqb n 1 ≡ true
      → (o : List ℕ) (r : ℕ) → Wrote k q one o r → Wrote l at (counted_text lead n one more) o r
  counted_one h a b u v e o r w =
      let d = number_length n in
      let j = length-append lead (number_text n) in
      wrote_as l o ((lead ++ number_text n) ++ one) (counted_text lead n one more) at r (counted_is lead n one more true e)
      (wrote_then l k o (lead ++ number_text n) one at q r (omega arith) (wrote_then l m k lead (number_text n) at p q (omega arith) u v) w)

  pub counted_more : at + 64 ≤ length l → length lead ≤ 16 → length more ≤ 16 → Wrote l at lead m p → Wrote m p (number_text n) k q → eqb n 1 ≡ false
      → (o : List ℕ) (r : ℕ) → Wrote k q more o r → Wrote l at (counted_text lead n one more) o r
  counted_more h a b u v e o r w =
      let d = number_length n in
      let j = length-append lead (number_text n) in
      wrote_as l o ((lead ++ number_text n) ++ more) (counted_text lead n one more) at r (counted_is lead n one more false e)
      (wrote_then l k o (lead ++ number_text n) more at q r (omega arith) (wrote_then l m k lead (number_text n) at p q (omega arith) u v) w)

pub counted_length : (lead : List ℕ) (n : ℕ) (one more : List ℕ) → length lead ≤ 16 → length one ≤ 16 → length more ≤ 16 → length (counted_text lead n one more) ≤ 42
unfolding counted_text
counted_length lead n one more a b c =
    let d = number_length n in
    let j = length-append lead (number_text n) in
    by (eqb n 1)
    (λ e. rw e (let k = length-append (lead ++ number_text n) one in omega (arith, k)))
    (λ e. rw e (let k = length-append (lead ++ number_text n) more in omega (arith, k)))

-- a text that is chosen by a number
pub chosen : (f : ℕ → List ℕ) (l m : List ℕ) (at p n k : ℕ) → n ≡ k → Wrote l at (f k) m p → Wrote l at (f n) m p
chosen f l m at p n k e w = subst (λ (x : ℕ). Wrote l at (f x) m p) (sym e) w
