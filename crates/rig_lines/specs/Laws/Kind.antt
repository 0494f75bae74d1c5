-- The code's test of two kinds is the test of their numbers; and what the kind that a number is taken for says of the number.
use Rattle.std.specs.Prelude.{ℕ, zero, suc, ◌≤◌, ◌<◌, ◌≡◌, refl, ◌⊎◌, Bool, true, false, cond, not, eqb}
use Rattle.std.proofs.Common.{sym, ap, ◌∙◌, inl, inr, arith, lt-ltb, ltb-false, true≢false}
use borrow.Author.Tests.{not-true, not-false}
use Rattle.laws.specs.Cases.{by}
use denote.Enum.Bare.{sameb}
use Rattle.rig_lines.specs.contracts.Kind.{the_type}
use Rattle.rig_lines.specs.declared.Kind.{Kind}
use Rattle.rig_lines.specs.declared.Kind.TheVariants.{Rig, Task, Condition, Line, Flag, Row}
use Rattle.rig_lines.specs.Kinds.{kind_rig, is_known}
use Rattle.rig_lines.specs.Kind.{kind_number}

pub same_kind : (a b : Kind) → sameb the_type a b ≡ eqb (kind_number a) (kind_number b)
same_kind Rig Rig = refl
same_kind Rig Task = refl
same_kind Rig Condition = refl
same_kind Rig Line = refl
same_kind Rig Flag = refl
same_kind Rig Row = refl
same_kind Task Rig = refl
same_kind Task Task = refl
same_kind Task Condition = refl
same_kind Task Line = refl
same_kind Task Flag = refl
same_kind Task Row = refl
same_kind Condition Rig = refl
same_kind Condition Task = refl
same_kind Condition Condition = refl
same_kind Condition Line = refl
same_kind Condition Flag = refl
same_kind Condition Row = refl
same_kind Line Rig = refl
same_kind Line Task = refl
same_kind Line Condition = refl
same_kind Line Line = refl
same_kind Line Flag = refl
same_kind Line Row = refl
same_kind Flag Rig = refl
same_kind Flag Task = refl
same_kind Flag Condition = refl
same_kind Flag Line = refl
same_kind Flag Flag = refl
same_kind Flag Row = refl
same_kind Row Rig = refl
same_kind Row Task = refl
same_kind Row Condition = refl
same_kind Row Line = refl
same_kind Row Flag = refl
same_kind Row Row = refl

pub kind_known : (k : Kind) → (0 < kind_number k) × (kind_number k < 7)
kind_known Rig = (omega arith, omega arith)
kind_known Task = (omega arith, omega arith)
kind_known Condition = (omega arith, omega arith)
kind_known Line = (omega arith, omega arith)
kind_known Flag = (omega arith, omega arith)
kind_known Row = (omega arith, omega arith)

-- what `==` and `!=` of two kinds say of their numbers
pub same_yes : (a b : Kind) (t : Bool) → t ≡ sameb the_type a b → t ≡ true → eqb (kind_number a) (kind_number b) ≡ true
same_yes a b t e h = sym (same_kind a b) ∙ (sym e ∙ h)

pub same_no : (a b : Kind) (t : Bool) → t ≡ sameb the_type a b → t ≡ false → eqb (kind_number a) (kind_number b) ≡ false
same_no a b t e h = sym (same_kind a b) ∙ (sym e ∙ h)

pub differs_yes : (a b : Kind) (t : Bool) → t ≡ not (sameb the_type a b) → t ≡ true → eqb (kind_number a) (kind_number b) ≡ false
differs_yes a b t e h = sym (same_kind a b) ∙ not-true _ (sym e ∙ h)

pub differs_no : (a b : Kind) (t : Bool) → t ≡ not (sameb the_type a b) → t ≡ false → eqb (kind_number a) (kind_number b) ≡ true
differs_no a b t e h = sym (same_kind a b) ∙ not-false _ (sym e ∙ h)

pub only_rig : (k : Kind) → kind_number k ≡ kind_rig → k ≡ Rig
only_rig Rig e = refl
only_rig Task e = absurd (omega arith)
only_rig Condition e = absurd (omega arith)
only_rig Line e = absurd (omega arith)
only_rig Flag e = absurd (omega arith)
only_rig Row e = absurd (omega arith)

-- what the kind that a number is taken for says of the number
pub numbered : (k : Kind) (n : ℕ) → kind_number k ≡ cond (is_known n) n 0 → kind_number k ≡ n
numbered k n e = by (is_known n) (λ t. e ∙ rw t) (λ f. let w = (kind_known k).0 in let z : kind_number k ≡ 0 = e ∙ rw f in absurd (omega arith))

pub unnumbered : (n : ℕ) → 0 ≡ cond (is_known n) n 0 → is_known n ≡ false
unnumbered n e =
    by (is_known n)
    (λ t. let z : 0 ≡ n = e ∙ rw t in absurd (true≢false (sym (ap (λ (x : ℕ). is_known x) z ∙ t))))
    (λ f. f)

pub no_number : (n : ℕ) → is_known n ≡ false → (n ≡ 0) ⊎ (7 ≤ n)
no_number zero e = inl refl
no_number (suc n) e = inr (ltb-false (suc n) 7 (rw (lt-ltb 0 (suc n) (omega arith)) at e))
