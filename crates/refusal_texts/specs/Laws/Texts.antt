-- Laws of the definitions of Texts.antt.
use Rattle.std.specs.Prelude.{ℕ, ◌+◌, ◌<◌, ◌≤◌, ◌≡◌, refl, ◌≢◌, List, [], ◌∷◌, ◌++◌, ltb, length, set}
use Rattle.std.proofs.Common.{sym, ap, subst, ◌∙◌, arith, length-append, length-set, ltb-true, ltb-false}
use Rattle.std.proofs.Math.ListN.{get_or-eq_default}
use Rattle.laws.specs.Cases.{by}
use Rattle.laws.specs.Put.{put}
use Rattle.laws.specs.Laws.Put.{put_one, put_put, length_put}
use Rattle.refusal_texts.specs.Texts.{texts, no_refusal, refusal_text, Given}

-- the statement fixes the result
pub given_same : (t l m n : List ℕ) (p q : ℕ) → Given t l m p → Given t l n q → (m ≡ n) × (p ≡ q)
given_same t l m n p q a b = (
  by (ltb (length t) (length l))
      (λ e. let h = ltb-true (length t) (length l) e in a.fits h ∙ sym (b.fits h))
      (λ e. let h = ltb-false (length t) (length l) e in a.narrow h ∙ sym (b.narrow h)),
  a.size ∙ sym b.size,
)

pub of_number : (l m : List ℕ) (p n k : ℕ) → n ≡ k → Given (refusal_text k) l m p → Given (refusal_text n) l m p
of_number l m p n k e w = subst (λ (x : ℕ). Given (refusal_text x) l m p) (sym e) w

pub of_text : (t u l m : List ℕ) (p : ℕ) → t ≡ u → Given t l m p → Given u l m p
of_text t u l m p e w = subst (λ (x : List ℕ). Given x l m p) e w

-- at least k and not k is above k
past : (n k : ℕ) → n ≢ k → k ≤ n → k < n
past n k e h = omega arith

pub no_other : (n : ℕ) → n ≢ 0 → n ≢ 1 → n ≢ 2 → n ≢ 3 → n ≢ 4 → n ≢ 5 → n ≢ 6 → n ≢ 7 → n ≢ 8 → n ≢ 9 → n ≢ 10 → n ≢ 11 → n ≢ 12 → no_refusal ≡ refusal_text n
unfolding refusal_text
no_other n a0 a1 a2 a3 a4 a5 a6 a7 a8 a9 a10 a11 a12 =
    sym (get_or-eq_default texts no_refusal (past n 12 a12 (past n 11 a11 (past n 10 a10 (past n 9 a9 (past n 8 a8 (past n 7 a7 (past n 6 a6 (past n 5 a5 (past n 4 a4 (past n 3 a3 (past n 2 a2 (past n 1 a1 (past n 0 a0 (omega arith)))))))))))))))

-- the text is put, then the byte 0 behind it; or there is no room
pub given_written : (t l m : List ℕ) (p : ℕ) → length t < length l → p ≡ 0 + length t → m ≡ put l 0 t → Given t l (set m p 0) (length t)
given_written t l m p h e q =
    let s : length m ≡ length l = ap length q ∙ length_put l 0 t (omega arith) in
    let a = length-append t (0 ∷ []) in
    let z : set m p 0 ≡ put l 0 (t ++ (0 ∷ [])) =
    put_one m p 0 (omega (arith, s)) ∙ (ap (λ (x : List ℕ). put x p (0 ∷ [])) q
    ∙ (ap (λ (x : ℕ). put (put l 0 t) x (0 ∷ [])) e ∙ put_put l 0 t (0 ∷ []) (omega (arith, a)))) in
    record { size = refl; fits = λ _. z; narrow = λ k. absurd (let y : ⊥ = omega arith in y); same = length-set m p 0 ∙ s }

pub given_narrow : (t l : List ℕ) → length l ≤ length t → Given t l l (length t)
given_narrow t l h = record { size = refl; fits = λ k. absurd (let y : ⊥ = omega arith in y); narrow = λ _. refl; same = refl }
