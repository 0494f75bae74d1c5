-- An answer is fixed by its number and values, and 11 is given exactly when something is outside its size.
use Rattle.std.specs.Prelude.{◌≡◌, refl, ◌↔◌, Bool, true, false, [], ◌∷◌, ℕ, Result, Ok, Err}
use Rattle.std.proofs.Common.{sym, ap, arith}
use Rattle.word_answers.specs.declared.OutsideSize.{OutsideSize}
use Rattle.word_answers.specs.Answers.{WordReport, word_answered, word_refused, if_in_size, report, encoded_report}

pub refused_exactly : {A : Type 0} (is_in_size : Bool) (value : A) → ((if_in_size is_in_size value).number ≡ 11) ↔ (is_in_size ≡ false)
unfolding if_in_size
refused_exactly true value = ((λ e. let z : ⊥ = omega arith in absurd z), (λ e. ap (λ b. (if_in_size b value).number) e))
refused_exactly false value = ((λ e. refl), (λ e. refl))

-- what an entry's two answers report
pub sized_yes : {A : Type 0} {is_in_size : Bool} {x y : A} → is_in_size ≡ true → x ≡ y → word_answered x ≡ if_in_size is_in_size y
unfolding if_in_size
sized_yes e f = rw (e, f)

pub sized_no : {A : Type 0} {is_in_size : Bool} (y : A) → is_in_size ≡ false → word_refused 11 ≡ if_in_size is_in_size y
unfolding if_in_size
sized_no y e = rw e

-- an accepted report is no refusal, and says its one value
pub accepted_same : {A : Type 0} (x y : A) → word_answered x ≡ word_answered y → x ≡ y
accepted_same {A} x y e = let l : x ∷ [] ≡ y ∷ [] = ap (λ (r : WordReport A). r.values) e in cc

pub accepted_never : {A : Type 0} (x : A) → word_answered x ≡ word_refused 11 → ⊥
accepted_never {A} x e = let z : ◌≡◌ {A = ℕ} 0 11 = ap (λ (r : WordReport A). r.number) e in omega arith

-- what is accepted is in its size, and the value is the one that is answered
pub sized_accepted : {A : Type 0} (is_in_size : Bool) (x y : A) → if_in_size is_in_size x ≡ word_answered y → (is_in_size ≡ true) × (x ≡ y)
unfolding if_in_size
sized_accepted true x y e = (refl, accepted_same x y e)
sized_accepted false x y e = absurd (accepted_never y (sym e))

-- two answers with one report are one answer
pub report_same : {A : Type 0} (a b : Result A OutsideSize) → report a ≡ report b → a ≡ b
report_same (Ok v) (Ok w) e = ap Ok (accepted_same v w e)
report_same (Ok v) (Err _) e = absurd (accepted_never v e)
report_same (Err _) (Ok w) e = absurd (accepted_never w (sym e))
report_same (Err x) (Err y) e = refl

pub encoded_same : (a b : Result ℕ OutsideSize) → encoded_report a ≡ encoded_report b → a ≡ b
encoded_same a b e = report_same a b e
