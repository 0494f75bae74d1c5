use Rattle.std.specs.Prelude.{ℕ, ◌<◌, ◌≡◌, length, get_or}
use Rattle.rig_lines.specs.declared.Names.TheVariants.{Task}
use Rattle.rig_lines.specs.Kind.{names_number}
use Rattle.rig_lines.proofs.sorts.Given as goal

abbrev pub invariant-loop-j : goal.invariant-loop-j
invariant-loop-j l = (length l.sorts ≡ 9) × ((i : ℕ) → i < l.j → get_or l.sorts i 0 ≡ names_number (get_or l.names i Task))
