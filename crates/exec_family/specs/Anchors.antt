-- THE ANCHORS: where the links hold the rules' chains. The anchors have numbers behind those of the tasks, so that a number in
-- a link is either a task or a chain's end: 65 for the time chain, then of each flag that for off and that for on, up to 321.
use Rattle.std.specs.Prelude.{Bool, cond, ◌&&◌, List, ℕ, ◌+◌, ◌-◌, ◌*◌, ◌/◌, ◌%◌, eqb, leb}
use Rattle.rules.specs.Sizes.{most_tasks, most_flags}
use Rattle.rules.specs.State.{Chain, time_chain, chain_of}

-- flags 1 to 128, values 0 and 1
abbrev pub is_flag_value : ℕ → ℕ → Bool
is_flag_value f v = leb 1 f && leb f most_flags && leb v 1

-- what is no chain has no anchor: 0
abbrev pub flag_anchor : ℕ → ℕ → ℕ
flag_anchor f v = cond (is_flag_value f v) (most_tasks + 2 * f + v) 0

abbrev pub anchor_of : Chain → ℕ
anchor_of time_chain = 65
anchor_of (chain_of f v) = flag_anchor f v

-- the chain of an anchor
abbrev pub name_of : ℕ → Chain
name_of s = cond (eqb s 65) time_chain (chain_of ((s - 64) / 2) ((s - 64) % 2))

-- the chains by name, of those by anchor
abbrev pub by_name : (ℕ → List ℕ) → Chain → List ℕ
by_name X c = X (anchor_of c)
