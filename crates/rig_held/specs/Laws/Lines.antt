-- What is read of lines that are held, and how one more comes to be held.
--     held_number    number j of a line stands at its place
--     held_more      the first i + 1 lines are the first i, and one line more
--     held_put       a line that is put behind those that are held
-- Assumes nothing.
use Rattle.std.specs.Prelude.{ℕ, zero, suc, ◌+◌, ◌≤◌, ◌<◌, ◌≡◌, refl, true, List, [], ◌∷◌, ◌++◌, eqb, length, get_or, take}
use Rattle.std.proofs.Common.{ap, arith, add-one, take-suc, take_all, get_or-take, eqb-true}
use Rattle.rig_lines.specs.Kinds.{count_of, counts}
use Rattle.rig_lines.specs.Kind.{kind_number}
use Rattle.rig_lines.specs.Line.{Line}
use Rattle.rig_lines.specs.Laws.Kinds.{entries, entries_le}
use Rattle.rig_held.specs.declared.Line.{Line as HeldLine}
use Rattle.rig_held.specs.Held.{held_line, held, Begins}

pub count_most : (k : ℕ) → count_of k ≤ 7
unfolding count_of counts entries
count_most k = entries_le 7 counts refl k

pub held_kind : (r : HeldLine) → (held_line r).kind ≡ kind_number r.kind
unfolding held_line
held_kind r = refl

pub held_number : (r : HeldLine) (j : ℕ) → j < count_of (kind_number r.kind) → get_or (held_line r).nums j 0 ≡ get_or r.numbers j 0
unfolding held_line
held_number r j h = get_or-take (count_of (kind_number r.kind)) r.numbers j 0 h

-- the same of a line whose kind is known
pub held_at : (r : HeldLine) (j k : ℕ) → eqb (kind_number r.kind) k ≡ true → j < count_of k → get_or (held_line r).nums j 0 ≡ get_or r.numbers j 0
held_at r j k e h = let q : kind_number r.kind ≡ k = eqb-true _ _ e in held_number r j (rw q h)

pub held_none : held [] ≡ []
unfolding held
held_none = refl

pub held_append : (l m : List HeldLine) → held (l ++ m) ≡ held l ++ held m
unfolding held
held_append [] m = refl
held_append (r ∷ rs) m = ap (λ (x : List Line). held_line r ∷ x) (held_append rs m)

pub held_put : (l : List HeldLine) (r : HeldLine) → held (l ++ (r ∷ [])) ≡ held l ++ (held_line r ∷ [])
unfolding held
held_put l r = held_append l (r ∷ [])

pub held_more : (l : List HeldLine) (i : ℕ) (d : HeldLine) → i < length l → held (take (i + 1) l) ≡ held (take i l) ++ (held_line (get_or l i d) ∷ [])
held_more l i d h = let e : take (i + 1) l ≡ take i l ++ (get_or l i d ∷ []) = rw add-one (take-suc l i d h) in rw e (held_put (take i l) (get_or l i d))

pub held_all : (l : List HeldLine) (i : ℕ) → length l ≤ i → held (take i l) ≡ held l
held_all l i h = ap held (take_all i l h)

pub held_length : (l : List HeldLine) → length (held l) ≡ length l
unfolding held
held_length [] = refl
held_length (r ∷ rs) = ap suc (held_length rs)

-- where the lines begin, there is one
pub begins_some : (l : List HeldLine) → Begins l → 1 ≤ length l
begins_some [] b = absurd b
begins_some (r ∷ rs) b = omega arith

-- where there is a line, there is a first
pub held_first : (l : List HeldLine) (d : HeldLine) → 1 ≤ length l → (rs : List Line) × (held l ≡ held_line (get_or l 0 d) ∷ rs)
unfolding held
held_first [] d h = absurd (omega arith)
held_first (r ∷ rs) d h = (held rs, refl)

-- ---- one line more: it is there, and those before it stay

pub held_here : (l : List HeldLine) (r d : HeldLine) → held_line (get_or (l ++ (r ∷ [])) (length l) d) ≡ held_line r
held_here [] r d = refl
held_here (s ∷ l) r d = held_here l r d

pub held_before : (l : List HeldLine) (r d : HeldLine) (j : ℕ) → j < length l → held_line (get_or (l ++ (r ∷ [])) j d) ≡ held_line (get_or l j d)
held_before [] r d j h = absurd (omega arith)
held_before (s ∷ l) r d zero h = refl
held_before (s ∷ l) r d (suc j) h = held_before l r d j (omega arith)

pub held_stays : (l : List HeldLine) (r : HeldLine) (n : ℕ) → n ≤ length l → held (take n (l ++ (r ∷ []))) ≡ held (take n l)
unfolding held
held_stays l r zero h = refl
held_stays [] r (suc n) h = absurd (omega arith)
held_stays (s ∷ l) r (suc n) h = ap (λ (x : List Line). held_line s ∷ x) (held_stays l r n (omega arith))
