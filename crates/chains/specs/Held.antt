-- The chains that link arrays hold: 64 tasks, and the anchors 65 .. 321 of 257 chains.
use Rattle.std.specs.Prelude.{◌≡◌, List, [], ◌∷◌, ◌++◌, ℕ, ◌≤◌, ◌<◌, length}
pub use Rattle.laws.specs.Tables.{at}
use Rattle.laws.specs.Sizes.{most_tasks, task_places}
use Rattle.laws.specs.Functions.{upd}
use Rattle.laws.specs.Members.{In, without}
use Rattle.laws.specs.Order.{insert_by}
use Rattle.chains.specs.Link.{last, first}
use Rattle.chains.specs.Chains.{LinkedChains}
use Rattle.chains.specs.declared.Links.{Links}

-- the nodes: place 0, which is nobody's, tasks 1 to 64, anchors 65 to 321
abbrev pub nodes : ℕ
nodes = 322

-- the arrays hold the chains X
abbrev pub Held : Links → (ℕ → List ℕ) → Type 0
Held l X = LinkedChains most_tasks nodes (at l.next) (at l.prev) (at l.on) X

-- the arrays hold some chains
abbrev pub HoldsChains : Links → Type 0
HoldsChains l = (X : ℕ → List ℕ) × Held l X

-- t leaves its chain, and nothing else changes
abbrev pub Leaves : Links → ℕ → Links → Type 0
Leaves l t r = (X : ℕ → List ℕ) → Held l X → Held r (upd X (at l.on t) (without t (X (at l.on t))))

-- t goes to the end of the chain of s
abbrev pub Joins : Links → ℕ → ℕ → Links → Type 0
Joins l s t r = (X : ℕ → List ℕ) → Held l X → Held r (upd X s (X s ++ t ∷ []))

-- the arrays' lengths
pub record Sized (l : Links) : Type 0 where
  pub next : length l.next ≡ nodes
  pub prev : length l.prev ≡ nodes
  pub on : length l.on ≡ task_places

-- t is put behind the node u of the chain of s: its anchor, or a task of it
abbrev pub Inserts : Links → ℕ → ℕ → ℕ → Links → Type 0
Inserts l s u t r =
    (X : ℕ → List ℕ) → Held l X → (xs ys : List ℕ) → X s ≡ xs ++ ys → last s xs ≡ u → Held r (upd X s (xs ++ t ∷ ys))

-- t, in chain s or no chain's, may be put: a task in no chain, an anchor, and a node
pub record Puts (l : Links) (s u t : ℕ) : Type 0 where
  pub low : 64 < s
  pub high : s < 322
  pub some : 0 < t
  pub task : t ≤ 64
  pub idle : at l.on t ≡ 0
  pub node : 0 < u
  pub inside : u < 322

-- t is put in its place by waking count
abbrev pub Places : Links → List ℕ → ℕ → ℕ → Links → Type 0
Places l wake s t r = (X : ℕ → List ℕ) → Held l X → Held r (upd X s (insert_by (at wake) t (X s)))

-- a walk through the chain of s, forward from its anchor, at node u with v behind it: all the tasks up to u have passed Q
pub record Scan (Q : ℕ → Type 0) (s u v : ℕ) (xs : List ℕ) : Type 0 where
  pub front : List ℕ
  pub back : List ℕ
  pub whole : xs ≡ front ++ back
  pub end : last s front ≡ u
  pub then : first back s ≡ v
  pub before : (a : ℕ) → In a front → Q a

-- every chain is empty
abbrev pub Empty : Links → Type 0
Empty l = Held l (λ (s : ℕ). [])

-- each anchor below i is linked to itself, and no other node is linked
pub record Selves (l : List ℕ) (i : ℕ) : Type 0 where
  pub size : length l ≡ 322
  pub anchor : (k : ℕ) → 64 < k → k < i → at l k ≡ k
  pub none : (k : ℕ) → k ≤ 64 → at l k ≡ 0
