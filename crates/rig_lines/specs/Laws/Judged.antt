-- What the judgement of a line says: 'exactly when', for shape (1), sizes (2) and order (3).
-- Assumes nothing.
use Rattle.std.specs.Prelude.{ℕ, zero, suc, ◌+◌, ◌≤◌, ◌<◌, ◌≡◌, refl, Bool, true, false, cond, ◌&&◌, List, [], ◌∷◌, ltb, eqb, length, get_or}
use Rattle.std.proofs.Common.{arith}
use borrow.Author.Tests.{ltb-true, eqb-true, lt-ltb, eq-eqb}
use Rattle.laws.specs.Laws.All.{and_left, and_right}
use Rattle.rig_lines.specs.Kinds.{count_of, within, timed}
use Rattle.rig_lines.specs.Laws.Kinds.{within_small}
use Rattle.rig_lines.specs.Line.{Line, decimals, shaped, fits, sized, placed, ordered, judge}

-- a line without a fault has shape, sizes and order
pub record Sound (p : ℕ) (r : Line) : Type 0 where
  pub shape : shaped r ≡ true
  pub size : sized r ≡ true
  pub order : ordered p r ≡ true

-- lines of known kinds without a fault, after one of place p
abbrev pub Faultless : ℕ → List Line → Type 0
Faultless p [] = Unit {0}
Faultless p (r ∷ rs) = (r.kind < 7) × (judge p r ≡ 0) × Faultless (placed r) rs

three : (a b c : Bool) → cond {A = ℕ} a (cond b (cond c 0 3) 2) 1 ≡ 0 → (a ≡ true) × (b ≡ true) × (c ≡ true)
three true true true e = (refl, refl, refl)
three true true false e = absurd (omega arith)
three true false c e = absurd (omega arith)
three false b c e = absurd (omega arith)

pub judged_sound : (p : ℕ) (r : Line) → judge p r ≡ 0 → Sound p r
unfolding judge
judged_sound p r e =
    let w = three (shaped r) (sized r) (ordered p r) e in
    record { shape = w.0; size = w.1; order = w.2 }

pub sound_judged : (p : ℕ) (r : Line) → Sound p r → judge p r ≡ 0
unfolding judge
sound_judged p r w = rw (w.shape, w.size, w.order)

-- "a line has the wrong shape": exactly when its number is 1
pub judged_one : (p : ℕ) (r : Line) → (judge p r ≡ 1 → shaped r ≡ false) × (shaped r ≡ false → judge p r ≡ 1)
unfolding judge
judged_one p r = (go (shaped r) (sized r) (ordered p r), λ e. rw e)
  where
    go : (a b c : Bool) → cond {A = ℕ} a (cond b (cond c 0 3) 2) 1 ≡ 1 → a ≡ false
    go true true true e = absurd (omega arith)
    go true true false e = absurd (omega arith)
    go true false c e = absurd (omega arith)
    go false b c e = refl

-- "a number is outside its size", of a line of the right shape: exactly when its number is 2
pub judged_two : (p : ℕ) (r : Line) → (judge p r ≡ 2 → (shaped r ≡ true) × (sized r ≡ false)) × ((shaped r ≡ true) × (sized r ≡ false) → judge p r ≡ 2)
unfolding judge
judged_two p r = (go (shaped r) (sized r) (ordered p r), λ w. rw (w.0, w.1))
  where
    go : (a b c : Bool) → cond {A = ℕ} a (cond b (cond c 0 3) 2) 1 ≡ 2 → (a ≡ true) × (b ≡ false)
    go true true true e = absurd (omega arith)
    go true true false e = absurd (omega arith)
    go true false c e = (refl, refl)
    go false b c e = absurd (omega arith)

-- "a record is out of order or repeated", of a line of the right shape and sizes: exactly when its number is 3
pub judged_three : (p : ℕ) (r : Line) → (judge p r ≡ 3 → (shaped r ≡ true) × (sized r ≡ true) × (ordered p r ≡ false)) × ((shaped r ≡ true) × (sized r ≡ true) × (ordered p r ≡ false) → judge p r ≡ 3)
unfolding judge
judged_three p r = (go (shaped r) (sized r) (ordered p r), λ w. rw (w.0, w.1, w.2))
  where
    go : (a b c : Bool) → cond {A = ℕ} a (cond b (cond c 0 3) 2) 1 ≡ 3 → (a ≡ true) × (b ≡ true) × (c ≡ false)
    go true true true e = absurd (omega arith)
    go true true false e = (refl, refl, refl)
    go true false c e = absurd (omega arith)
    go false b c e = absurd (omega arith)

-- what shape and sizes say
module _ (r : Line) (e : shaped r ≡ true) where
  pub shaped_known : 0 < r.kind
  unfolding shaped
  shaped_known = ltb-true _ _ (and_left (ltb 0 r.kind) (eqb (length r.nums) (count_of r.kind) && decimals r.nums) e)

  inner : (eqb (length r.nums) (count_of r.kind) && decimals r.nums) ≡ true
  unfolding shaped
  inner = and_right (ltb 0 r.kind) (eqb (length r.nums) (count_of r.kind) && decimals r.nums) e

  pub shaped_count : length r.nums ≡ count_of r.kind
  shaped_count = eqb-true _ _ (and_left (eqb (length r.nums) (count_of r.kind)) (decimals r.nums) inner)

  pub shaped_decimals : decimals r.nums ≡ true
  shaped_decimals = and_right (eqb (length r.nums) (count_of r.kind)) (decimals r.nums) inner

pub shaped_if : (r : Line) → 0 < r.kind → length r.nums ≡ count_of r.kind → decimals r.nums ≡ true → shaped r ≡ true
unfolding shaped
shaped_if r a b c = rw (lt-ltb _ _ a, eq-eqb _ _ b) c

pub sized_fits : (r : Line) → sized r ≡ true → fits r.kind 0 r.nums ≡ true
unfolding sized
sized_fits r e = and_left (fits r.kind 0 r.nums) (timed r.kind r.nums) e

pub sized_timed : (r : Line) → sized r ≡ true → timed r.kind r.nums ≡ true
unfolding sized
sized_timed r e = and_right (fits r.kind 0 r.nums) (timed r.kind r.nums) e

pub sized_if : (r : Line) → fits r.kind 0 r.nums ≡ true → timed r.kind r.nums ≡ true → sized r ≡ true
unfolding sized
sized_if r e f = rw e f

-- number i of a line that fits is within its size
pub fits_at : (k f : ℕ) (ns : List ℕ) → fits k f ns ≡ true → (i : ℕ) → i < length ns → within k (f + i) (get_or ns i 0) ≡ true
unfolding fits
fits_at k f [] e i h = absurd (omega arith)
fits_at k f (n ∷ ns) e zero h =
    let z : f + 0 ≡ f = omega arith in
    rw z (and_left (within k f n) (fits k (f + 1) ns) e)
fits_at k f (n ∷ ns) e (suc i) h =
    let z : f + suc i ≡ (f + 1) + i = omega arith in
    rw z (fits_at k (f + 1) ns (and_right (within k f n) (fits k (f + 1) ns) e) i (omega arith))

pub fits_small : (k f : ℕ) (ns : List ℕ) → fits k f ns ≡ true → (i : ℕ) → get_or ns i 0 ≤ 255
unfolding fits
fits_small k f [] e i = omega arith
fits_small k f (n ∷ ns) e zero = within_small k f n (and_left (within k f n) (fits k (f + 1) ns) e)
fits_small k f (n ∷ ns) e (suc i) = fits_small k (f + 1) ns (and_right (within k f n) (fits k (f + 1) ns) e) i
