-- `chains::unlink` meets its contract: its links stay among the nodes, and its stores are those of the law `unlinked`.
use borrow.Author.Rules.{rules}
use Rattle.chains.specs.Held.{Sized}
use Rattle.chains.specs.Laws.Held.{unlinked, task_links}
use Rattle.chains.proofs.unlink.Goals as goal

pub bounds-l-u : goal.bounds-l-u
bounds-l-u c =
    let r = c.requires in
    (task_links c.args.l.now r.holds_chains.0 r.holds_chains.1 c.args.t r.t_nonzero.0 r.t_nonzero.1).1

pub bounds-l-v : goal.bounds-l-v
bounds-l-v c =
    let r = c.requires in
    (task_links c.args.l.now r.holds_chains.0 r.holds_chains.1 c.args.t r.t_nonzero.0 r.t_nonzero.1).0

pub returns : goal.returns
returns c =
    let r = c.requires in
    let z : Sized c.args.l.now = search rules in
    unlinked c.args.l.now z c.args.t r.t_nonzero.0 r.t_nonzero.1 r.t_nonzero.2
