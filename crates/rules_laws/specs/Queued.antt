-- WHILE FLAGS ARE QUEUED: what a flag is going to be, what may be queued, and the law of activation flags.
use Rattle.std.specs.Prelude.{◌≡◌, refl, ◌≢◌, Bool, cond, List, [], ◌∷◌, ℕ, zero, suc, ◌≤◌, eqb, get_or}
use Rattle.std.proofs.Common.{ap, ◌∙◌, arith, eq-eqb, ne_eqb}
use Rattle.rules.specs.Rig.{Rig}
use Rattle.rules.specs.State.{Entry, active, inactive}
use Rattle.rules.specs.Serving.{push}

-- what is queued are flags of the rig with values 0 and 1
abbrev pub Fine : Rig → List Entry → Type 0
Fine r [] = Unit {0}
Fine r (e ∷ q) = ((1 ≤ e.flag) × (e.flag ≤ r.flags) × (e.value ≤ 1)) × Fine r q

pub fine_push : (r : Rig) (f v : ℕ) (q : List Entry) → f ≤ r.flags → v ≤ 1 → Fine r q → Fine r (push f v q)
fine_push r zero v q a b h = h
fine_push r (suc f) v q a b h = ((omega arith, a, b), h)

-- the value that flag f has once the queue is served, if nothing more is queued: the entry at the bottom is served last
unfoldable pub look : List Entry → ℕ → ℕ → ℕ
look [] f d = d
look (e ∷ q) f d = look q f (cond (eqb e.flag f) e.value d)

-- no entry of the queue is of flag f
abbrev pub Absent : ℕ → List Entry → Type 0
Absent f [] = Unit {0}
Absent f (e ∷ q) = (e.flag ≢ f) × Absent f q

-- an activation flag is going to be on exactly when its task is active
abbrev pub Agree : Rig → List ℕ → List ℕ → List Entry → Type 0
Agree r flags states q =
    (t : ℕ) → r.activation t ≢ 0 → look q (r.activation t) (get_or flags (r.activation t) 0) ≡ active (get_or states t 0)

-- nothing is queued of an inactive task's flag
abbrev pub Clear : Rig → List ℕ → List Entry → Type 0
Clear r states q = (t : ℕ) → r.activation t ≢ 0 → get_or states t 0 ≡ inactive → Absent (r.activation t) q

-- ---- what a flag is going to be

pub look_other : (e : Entry) (f d : ℕ) (q : List Entry) → e.flag ≢ f → look (e ∷ q) f d ≡ look q f d
unfolding look
look_other e f d q h = ap (λ (b : Bool). look q f (cond b e.value d)) (ne_eqb e.flag f h)

pub look_same : (e : Entry) (f d : ℕ) (q : List Entry) → e.flag ≡ f → look (e ∷ q) f d ≡ look q f e.value
unfolding look
look_same e f d q h = ap (λ (b : Bool). look q f (cond b e.value d)) (eq-eqb e.flag f h)

pub look_absent : (f d : ℕ) (q : List Entry) → Absent f q → look q f d ≡ d
unfolding look
look_absent f d [] h = refl
look_absent f d (e ∷ q) h = look_other e f d q h.0 ∙ look_absent f d q h.1

-- with nothing queued a flag is what it is
pub look_nil : (f d : ℕ) → look [] f d ≡ d
unfolding look
look_nil f d = refl

-- ---- all but the entry that is served first

abbrev pub rest : List Entry → List Entry
rest [] = []
rest (e ∷ q) = q

pub rest_absent : (f : ℕ) (q : List Entry) → Absent f q → Absent f (rest q)
rest_absent f [] h = h
rest_absent f (e ∷ q) h = h.1

pub rest_one : (f g v : ℕ) → Absent f (rest (push g v []))
rest_one f zero v = tt
rest_one f (suc g) v = tt
