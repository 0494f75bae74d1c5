-- FOR THE READER: the chain of an anchor as one reads it in the arrays, forward and backward, and what an operation's
-- contract says of it. The chains X of a contract are no hidden value: where the links are sound they are what is read.
use Rattle.std.specs.Prelude.{◌≡◌, Bool, false, cond, ◌&&◌, List, [], ℕ, ltb}
use Rattle.laws.specs.Sizes.{most_tasks}
use Rattle.chains.specs.Ops.{walk}
use Rattle.chains.specs.Held.{at, nodes}
use Rattle.chains.specs.declared.Links.{Links}

-- from the anchor s, by next and by prev, as long as there are tasks, at most 64
abbrev pub chain_at : Links → ℕ → List ℕ
chain_at l s = walk (at l.next) most_tasks most_tasks s

abbrev pub back_at : Links → ℕ → List ℕ
back_at l s = walk (at l.prev) most_tasks most_tasks s

-- an anchor: behind the tasks, within the arrays
abbrev pub inside : ℕ → Bool
inside s = ltb most_tasks s && ltb s nodes

unfoldable pub chains_of : Links → ℕ → List ℕ
chains_of l s = cond (inside s) (chain_at l s) []

-- no chain but at an anchor
abbrev pub Only : (ℕ → List ℕ) → Type 0
Only X = (s : ℕ) → inside s ≡ false → X s ≡ []
