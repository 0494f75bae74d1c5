-- Laws of the definitions of Forms.antt.
use Rattle.std.specs.Prelude.{◌≡◌, refl, List, [], ◌∷◌, ℕ, get_or}
use Rattle.std.proofs.Common.{ap}
use Rattle.std.proofs.Math.ListN.{get_or-map}
use Rattle.rig.specs.declared.Cycle.{Cycle}
use Rattle.rig.specs.Rules.{at, flag_at}
use Rattle.rig.specs.Forms.{cycle_of, cycles_of, table_of}

-- each form is had from the other, and nothing is lost
pub table_of_cycles : (table : List (List ℕ)) → table_of (cycles_of table) ≡ table
unfolding table_of cycles_of
table_of_cycles [] = refl
table_of_cycles (l ∷ ls) = ap (λ (t : List (List ℕ)). l ∷ t) (table_of_cycles ls)

pub cycles_of_table : (cycles : List Cycle) → cycles_of (table_of cycles) ≡ cycles
unfolding table_of cycles_of
cycles_of_table [] = refl
cycles_of_table (c ∷ cs) = ap (λ (t : List Cycle). c ∷ t) (cycles_of_table cs)

-- the flag of a cycle, read from the table
pub cycles_flag : (table : List (List ℕ)) (c i : ℕ) → flag_at (cycles_of table) c i ≡ at (get_or table c []) i
unfolding cycles_of
cycles_flag table c i = ap (λ (y : Cycle). at y.flags i) (get_or-map cycle_of table c [])
