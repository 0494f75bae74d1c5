use Prim.Native.Nat.{ℕ}
use mathlib.Core.List.{[], ◌∷◌}
use Rattle.bench_script.specs.Output.{fields_text}
use Rattle.wiring_lines.specs.Laws.Each.{Telling}
use Rattle.wiring_lines.proofs.put_numbers.Given as goal

abbrev pub invariant-loop-cycle : goal.invariant-loop-cycle
invariant-loop-cycle l = Telling (λ (k : ℕ). fields_text (k ∷ [])) 11 64 l.initial.out l.at l.out l.p l.cycle
