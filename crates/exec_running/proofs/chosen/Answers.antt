use mathlib.Core.Path.{◌≡◌, refl, sym, ◌∙◌}
use Rattle.laws.specs.Cases.{if_yes, if_no}
use Rattle.rules.specs.Running.{chosen}
use mathlib.Core.Bool.{cond}
use Rattle.rig_tables.specs.Tests.{at}
use Rattle.exec_running.specs.Laws.Tests.{choice}
use borrow.Author.Rules.{rules}
use Rattle.exec_running.proofs.chosen.Goals as goal

pub returns-then-stays : goal.returns-then-stays
returns-then-stays c =
    let picked : cond c.stays.result c.args.n c.best-b.result ≡ chosen (at c.args.rig.now.privileged) (at c.args.rig.now.priority) c.args.state.now c.args.n = (let d = c in let a = d.args in choice (at a.rig.now.privileged) (at a.rig.now.priority) a.state.now a.n d.best-b.result c.rank-rb.result c.rank-rn.result c.stays.result d.best-b.ensures.0 c.rank-rb.ensures c.rank-rn.ensures c.stays.ensures) in
    (sym (if_yes _ c.if-stays.true refl) ∙ picked, search rules)

pub returns-else-stays : goal.returns-else-stays
returns-else-stays c =
    let picked : cond c.stays.result c.args.n c.best-b.result ≡ chosen (at c.args.rig.now.privileged) (at c.args.rig.now.priority) c.args.state.now c.args.n = (let d = c in let a = d.args in choice (at a.rig.now.privileged) (at a.rig.now.priority) a.state.now a.n d.best-b.result c.rank-rb.result c.rank-rn.result c.stays.result d.best-b.ensures.0 c.rank-rb.ensures c.rank-rn.ensures c.stays.ensures) in
    (sym (if_no _ c.if-stays.false refl) ∙ picked, search rules)
