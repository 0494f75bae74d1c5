-- Laws of the definitions of Rebuilt.antt.
use Rattle.std.specs.Prelude.{◌≡◌, List, ℕ}
use Rattle.std.proofs.Common.{sym, ap, ◌∙◌}
use Rattle.rig.specs.declared.Rig.{Rig}
use Rattle.rules.specs.Calls as R
use Rattle.exec.specs.Call.{Meets}
use Rattle.exec.specs.Starting.{Starts}
use Rattle.exec.specs.Laws.Starting.{starts_same}
use Rattle.exec.specs.Laws.Unique.{meets_same}
use Rattle.exec.specs.declared.Exec.{Exec}
use Rattle.exec.specs.declared.Step.{Step}
use Rattle.exec.specs.declared.Answer.{Answer}
use Rattle.exec_lent.specs.Rebuilt.{step_of}

-- THE STATEMENTS FIX the record, the answer and the lent words
parts : (x y : Exec) (a b : Answer) → step_of x a ≡ step_of y b → (x ≡ y) × (a ≡ b)
parts x y a b e = (ap (λ (s : Step). s.exec) e, ap (λ (s : Step). s.answer) e)

pub lent_same : (x y z : Exec) (k : R.Call) (a b : Answer) (u v : List ℕ) → Meets x k (step_of y a) u → Meets x k (step_of z b) v
    → ((y ≡ z) × (a ≡ b)) × (u ≡ v)
lent_same x y z k a b u v m n =
    let e = meets_same x k (step_of y a) (step_of z b) u v m n in
    (parts y z a b e.0, e.1)

pub begun_same : (g : Rig) (table : List (List ℕ)) (y z : Exec) (a b : Answer) → Starts g table (step_of y a) → Starts g table (step_of z b)
    → (y ≡ z) × (a ≡ b)
begun_same g table y z a b m n = parts y z a b (starts_same g table (step_of y a) (step_of z b) m n)

pub stored_same : (s : Step) (y z : Exec) (a b : Answer) → step_of y a ≡ s → step_of z b ≡ s → (y ≡ z) × (a ≡ b)
stored_same s y z a b m n = parts y z a b (m ∙ sym n)
