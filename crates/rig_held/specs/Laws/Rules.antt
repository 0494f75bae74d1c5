-- The rules over lines that are held, line after line.
-- Assumes nothing.
use Rattle.std.specs.Prelude.{ℕ, zero, suc, ◌+◌, ◌≤◌, ◌<◌, ◌≡◌, refl, Bool, true, false, ◌&&◌, List, [], ◌∷◌, eqb, length, get_or, take}
use Rattle.std.proofs.Common.{arith, length-take}
use Rattle.laws.specs.Cases.{by, and_no}
use Rattle.rig_lines.specs.Kinds.{kind_rig, count_of, counts}
use Rattle.rig_lines.specs.Kind.{kind_number}
use Rattle.rig_lines.specs.Line.{Line}
use Rattle.rig_lines.specs.Whole.{number_of, is_kind, how_many, every, tasks_of, flags_of, master_of}
use Rattle.rig_lines.specs.Laws.Whole.{many_snoc, every_snoc}
use Rattle.rig_held.specs.declared.Line.{Line as HeldLine}
use Rattle.rig_held.specs.Held.{held_line, held, Begins}
use Rattle.rig_held.specs.Laws.Lines.{held_number, held_at, held_more, held_all, held_length}

-- ---- each line: a loop that leaves at the first that fails

pub every_none : (p : Line → Bool) → every p (held []) ≡ true
unfolding every held
every_none p = refl

pub every_on : (p : Line → Bool) (l : List HeldLine) (i : ℕ) (d : HeldLine) → i < length l → every p (held (take i l)) ≡ true → p (held_line (get_or l i d)) ≡ true → every p (held (take (i + 1) l)) ≡ true
every_on p l i d h e f = rw (held_more l i d h, every_snoc p (held (take i l)) (held_line (get_or l i d)), e) f

-- a line that fails, whatever follows it
pub every_not : (p : Line → Bool) (l : List HeldLine) (i : ℕ) (d : HeldLine) → i < length l → p (held_line (get_or l i d)) ≡ false → every p (held l) ≡ false
unfolding every held
every_not p [] i d h e = absurd (omega arith)
every_not p (r ∷ rs) zero d h e = rw e
every_not p (r ∷ rs) (suc i) d h e = rw (every_not p rs i d (omega arith) e) (and_no (p (held_line r)))

pub every_all : (p : Line → Bool) (l : List HeldLine) (i : ℕ) → length l ≤ i → every p (held (take i l)) ≡ true → every p (held l) ≡ true
every_all p l i h e = rw (← held_all l i h) e

-- ---- how many lines pass a test

pub many_none : (p : Line → Bool) → how_many p (held []) ≡ 0
unfolding how_many held
many_none p = refl

pub many_yes : (p : Line → Bool) (l : List HeldLine) (i : ℕ) (d : HeldLine) → i < length l → p (held_line (get_or l i d)) ≡ true → how_many p (held (take (i + 1) l)) ≡ how_many p (held (take i l)) + 1
many_yes p l i d h e = rw (held_more l i d h, many_snoc p (held (take i l)) (held_line (get_or l i d)), e)

pub many_no : (p : Line → Bool) (l : List HeldLine) (i : ℕ) (d : HeldLine) → i < length l → p (held_line (get_or l i d)) ≡ false → how_many p (held (take (i + 1) l)) ≡ how_many p (held (take i l))
many_no p l i d h e = rw (held_more l i d h, many_snoc p (held (take i l)) (held_line (get_or l i d)), e)

pub kind_yes : (r : HeldLine) (k : ℕ) → eqb (kind_number r.kind) k ≡ true → is_kind k (held_line r) ≡ true
unfolding held_line
kind_yes r k e = e

pub kind_no : (r : HeldLine) (k : ℕ) → eqb (kind_number r.kind) k ≡ false → is_kind k (held_line r) ≡ false
unfolding held_line
kind_no r k e = e

many_le : (p : Line → Bool) (rs : List Line) → how_many p rs ≤ length rs
unfolding how_many
many_le p [] = omega arith
many_le p (r ∷ rs) = let k = many_le p rs in by (p r) (λ e. rw e (omega arith)) (λ e. rw e (omega arith))

pub many_most : (p : Line → Bool) (l : List HeldLine) (i : ℕ) → how_many p (held (take i l)) ≤ i
many_most p l i = let k = many_le p (held (take i l)) in let e = held_length (take i l) in let f = length-take i l in omega arith

-- ---- a line's first number

-- a line of kind k whose first number is t
pub first_is : (r : HeldLine) (k t : ℕ) → 0 < count_of k → eqb (kind_number r.kind) k ≡ true → (is_kind k (held_line r) && eqb (number_of 0 (held_line r)) t) ≡ eqb (get_or r.numbers 0 0) t
first_is r k t h e = rw (kind_yes r k e, held_at r 0 k e h)

pub first_not : (r : HeldLine) (k t : ℕ) → eqb (kind_number r.kind) k ≡ false → (is_kind k (held_line r) && eqb (number_of 0 (held_line r)) t) ≡ false
first_not r k t e = rw (kind_no r k e)

-- ---- the RIG line's numbers, where they stand

rig_number : (r : HeldLine) (rig : kind_number r.kind ≡ kind_rig) (j : ℕ) → j < 4 → number_of j (held_line r) ≡ get_or r.numbers j 0
unfolding count_of counts
rig_number r rig j h = held_number r j (rw rig h)

pub held_tasks : (l : List HeldLine) (d : HeldLine) → Begins l → tasks_of (held l) ≡ get_or (get_or l 0 d).numbers 1 0
unfolding held tasks_of
held_tasks [] d b = absurd b
held_tasks (r ∷ rs) d b = rig_number r (rw b) 1 (omega arith)

pub held_flags : (l : List HeldLine) (d : HeldLine) → Begins l → flags_of (held l) ≡ get_or (get_or l 0 d).numbers 2 0
unfolding held flags_of
held_flags [] d b = absurd b
held_flags (r ∷ rs) d b = rig_number r (rw b) 2 (omega arith)

pub held_master : (l : List HeldLine) (d : HeldLine) → Begins l → master_of (held l) ≡ get_or (get_or l 0 d).numbers 3 0
unfolding held master_of
held_master [] d b = absurd b
held_master (r ∷ rs) d b = rig_number r (rw b) 3 (omega arith)
