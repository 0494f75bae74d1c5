-- The tests of the soundness check over single tables, as the code computes them.
use Rattle.std.specs.Prelude.{Bool, not, cond, ◌||◌, List, ℕ, eqb, leb, length, get_or}
use Rattle.laws.specs.All.{all}
use Rattle.rules.specs.State.{active}
use Rattle.rules.specs.Calls.{no_such_one}

-- the entries of 1 to many are at most top, the others 0
abbrev pub within_one : List ℕ → ℕ → ℕ → ℕ → Bool
within_one table many top i = leb (get_or table i 0) (cond (no_such_one many i) 0 top)

abbrev pub within_b : List ℕ → ℕ → ℕ → Bool
within_b table many top = all (length table) (within_one table many top)

-- the entries of other numbers than 1 to many are 0
abbrev pub empty_one : List ℕ → ℕ → ℕ → Bool
empty_one table many i = not (no_such_one many i) || eqb (get_or table i 0) 0

abbrev pub empty_b : List ℕ → ℕ → Bool
empty_b table many = all 65 (empty_one table many)

-- a condition has the value 0 or 1, and one that is not there 0
abbrev pub cond_one : List ℕ → List ℕ → ℕ → Bool
cond_one present conds i = leb (get_or conds i 0) (cond (eqb (get_or present i 0) 1) 1 0)

abbrev pub conds_b : List ℕ → List ℕ → Bool
conds_b present conds = all 1040 (cond_one present conds)

-- each invoked task but task 1 has an invoked controller
abbrev pub tree_one : List ℕ → List ℕ → ℕ → Bool
tree_one controller states t = eqb t 1 || (eqb (get_or states t 0) 0 || not (eqb (get_or states (get_or controller t 0) 0) 0))

abbrev pub tree_b : List ℕ → List ℕ → Bool
tree_b controller states = all 65 (tree_one controller states)

-- who is waiting is in a chain, and no other is
abbrev pub wait_one : List ℕ → List ℕ → ℕ → Bool
wait_one states on t = cond (eqb (get_or states t 0) 2) (not (eqb (get_or on t 0) 0)) (eqb (get_or on t 0) 0)

abbrev pub waits_b : List ℕ → List ℕ → Bool
waits_b states on = all 65 (wait_one states on)

-- an activation flag is on exactly when its task is active
abbrev pub flag_of_one : List ℕ → List ℕ → List ℕ → ℕ → Bool
flag_of_one activation states values t =
    eqb (get_or activation t 0) 0 || eqb (get_or values (get_or activation t 0) 0) (active (get_or states t 0))

abbrev pub flags_b : List ℕ → List ℕ → List ℕ → Bool
flags_b activation states values = all 65 (flag_of_one activation states values)
