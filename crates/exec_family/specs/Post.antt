-- What the loops over a family ask, and what leaving gives.
use Rattle.std.specs.Prelude.{◌≡◌, ◌≤◌, ℕ, List, get_or}
use Rattle.chains.specs.Held.{HoldsChains}
use Rattle.chains.specs.Read.{chains_of}
use Rattle.chains.specs.declared.Links.{Links}
use Rattle.rules.specs.Waiting.{leave}
use Rattle.rules.specs.Family.{deserted}
use Rattle.exec_family.specs.Anchors.{by_name}

-- controllers are tasks, or 0
abbrev pub Controllers : List ℕ → Type 0
Controllers controller = (t : ℕ) → get_or controller t 0 ≤ 64

-- task t has left its chain
pub record Left (l : Links) (t : ℕ) (r : Links) : Type 0 where
  pub is : by_name (chains_of r) ≡ leave t (by_name (chains_of l))
  pub sound : HoldsChains r

-- the marked tasks have left their chains
pub record Deserted (l : Links) (marks : List ℕ) (r : Links) : Type 0 where
  pub is : by_name (chains_of r) ≡ deserted marks (by_name (chains_of l))
  pub sound : HoldsChains r
