use mathlib.Core.Path.{ap, ◌∙◌}
use Rattle.exec.specs.declared.Exec.{Exec}
use Rattle.bench_morning.specs.Stream.{fresh}
use Rattle.bench_morning.specs.declared.Phase.TheVariants.{Opening}
use Rattle.bench_morning.proofs.begin.Goals as goal

pub returns : goal.returns
returns c = c.behind.ensures ∙ ap (λ (e : Exec). fresh c.args.panel Opening e) c.none.ensures
