-- Chains of tasks in link arrays: the invariant, and what a link and an unlink do to it.
-- Nodes: tasks 1 .. T, and the anchors s with T < s < M, one for each chain. N and P are next and previous of every node,
-- O of a task is the anchor of the chain that it is in, or 0. X s is the chain of anchor s, as a list.
use Rattle.std.specs.Prelude.{◌≡◌, ◌⊎◌, List, ℕ, ◌≤◌, ◌<◌}
use Rattle.laws.specs.Members.{In}
use Rattle.chains.specs.Link.{Chain}

-- THE INVARIANT. N, P and O hold the chains X: each chain is linked round its anchor; who is in it is a task and says so;
-- each task is in no chain, with its links 0, or is in the chain that it names.
pub record LinkedChains (T M : ℕ) (N P O : ℕ → ℕ) (X : ℕ → List ℕ) : Type 0 where
  pub link : (s : ℕ) → T < s → s < M → Chain N P s (X s)
  pub own : (s : ℕ) → T < s → s < M → (a : ℕ) → In a (X s) → (0 < a) × (a ≤ T) × (O a ≡ s)
  pub task : (a : ℕ) → a ≤ T → ((O a ≡ 0) × (N a ≡ 0) × (P a ≡ 0)) ⊎ ((T < O a) × (O a < M) × In a (X (O a)))
