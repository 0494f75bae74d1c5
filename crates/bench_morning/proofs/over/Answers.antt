use mathlib.Core.Path.{ap, ◌∙◌}
use Rattle.exec.specs.declared.Exec.{Exec}
use Rattle.bench_morning.specs.Stream.{fresh}
use Rattle.bench_morning.specs.declared.Phase.TheVariants.{Over}
use Rattle.bench_morning.proofs.over.Goals as goal

pub returns : goal.returns
returns c = c.behind.ensures ∙ ap (λ (e : Exec). fresh _ Over e) c.none.ensures
