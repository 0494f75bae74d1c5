-- What a waking leaves.
use Rattle.std.specs.Prelude.{ℕ}
use Rattle.chains.specs.declared.Links.{Links}

-- the links, and how many it woke
pub record Roused : Type 0 where
  pub links : Links
  pub woken : ℕ
