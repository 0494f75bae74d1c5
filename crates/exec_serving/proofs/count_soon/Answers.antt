use mathlib.Core.Path.{sym, ◌∙◌}
use Rattle.exec_serving.specs.Laws.Serving.{counts_minor, counts_other}
use Rattle.exec_serving.proofs.count_soon.Goals as goal

pub returns-then-in_cycle : goal.returns-then-in_cycle
returns-then-in_cycle c =
    let i = c in
    let a = i.args in
    counts_minor a.cycle.now a.f a.named.now a.state.now a.overruns.now _ (sym i.in_cycle.ensures ∙ c.if-in_cycle.true) c.count.ensures

pub returns-else-in_cycle : goal.returns-else-in_cycle
returns-else-in_cycle c =
    let a = c.args in
    counts_other a.cycle.now a.f a.named.now a.state.now a.overruns.now (sym c.in_cycle.ensures ∙ c.if-in_cycle.false)
