-- What the functions of the check answer.
use Rattle.std.specs.Prelude.{◌≡◌, Bool, true, false, ◌&&◌, List, [], ℕ, ◌+◌, ◌≤◌, eqb, length, Option, None, Some}
use Rattle.chains.specs.Ops.{walk}
use Rattle.chains.specs.Laws.Check.{ringb, marked, Rings, Accepted, taskb}
use Rattle.chains.specs.Held.{at}
use Rattle.chains.specs.declared.Links.{Links}

-- the arrays as one value
abbrev pub links_of : List ℕ → List ℕ → List ℕ → Links
links_of n p o = record { next = n; prev = p; on = o }

-- whether rings are right, and the tasks that were met on them
pub record Ring : Type 0 where
  pub ok : Bool
  pub seen : List ℕ

-- what `walk_all` answers, as such a record
abbrev pub ring_of : Option (List ℕ) → Ring
ring_of None = record { ok = false; seen = [] }
ring_of (Some seen) = record { ok = true; seen = seen }

-- the ring of s is tested, and its tasks are marked if it is accepted
pub record Walked (l : Links) (s : ℕ) (seen : List ℕ) (r : Ring) : Type 0 where
  pub ok : r.ok ≡ ringb (at l.next) (at l.prev) (at l.on) 64 s 64 s
  pub marks : r.ok ≡ true → at r.seen ≡ marked (at seen) (walk (at l.next) 64 64 s)
  pub size : length r.seen ≡ 65

-- the rings of the anchors below s are accepted, and seen marks just the tasks on them
abbrev pub RingsTo : Links → List ℕ → ℕ → Type 0
RingsTo l seen s = Rings 64 (at l.next) (at l.prev) (at l.on) (at seen) s

-- the rings of the m anchors from s on are tested, and their tasks are marked too if all of them are accepted
pub record WalkedFrom (l : Links) (s m : ℕ) (seen : List ℕ) (r : Ring) : Type 0 where
  pub yes : r.ok ≡ true → RingsTo l seen s → RingsTo l r.seen (s + m)
  pub no : r.ok ≡ false → Accepted 64 322 (at l.next) (at l.prev) (at l.on) → ⊥
  pub size : length r.seen ≡ 65

-- the anchor is linked to itself, both ways: its ring is empty
unfoldable pub aloneb : (ℕ → ℕ) → (ℕ → ℕ) → ℕ → Bool
aloneb N P s = eqb (N s) s && eqb (P s) s

-- every ring is tested, and the tasks on them are marked
pub record AllWalked (l : Links) (r : Ring) : Type 0 where
  pub yes : r.ok ≡ true → Rings 64 (at l.next) (at l.prev) (at l.on) (at r.seen) 322
  pub no : r.ok ≡ false → Accepted 64 322 (at l.next) (at l.prev) (at l.on) → ⊥

-- every task is tested
pub record TasksTested (l : Links) (seen : List ℕ) (r : Bool) : Type 0 where
  pub yes : r ≡ true → (t : ℕ) → t ≤ 64 → taskb (at l.next) (at l.prev) (at l.on) (at seen) t ≡ true
  pub no : r ≡ false → (t : ℕ) × (t ≤ 64) × (taskb (at l.next) (at l.prev) (at l.on) (at seen) t ≡ false)
