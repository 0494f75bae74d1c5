-- `chains::link_after` meets its contract: the next of u is a node, and the stores are those of the law `linked_after`.
use borrow.Author.Rules.{rules}
use Rattle.chains.specs.Held.{Sized}
use Rattle.chains.specs.Laws.Held.{linked_after, node_links}
use Rattle.chains.proofs.link_after.Goals as goal

pub bounds-l-v : goal.bounds-l-v
bounds-l-v c =
    let r = c.requires in
    (node_links c.args.l.now r.holds_chains.0 r.holds_chains.1 c.args.u r.puts.node r.puts.inside).0

pub returns : goal.returns
returns c =
    let z : Sized c.args.l.now = search rules in
    linked_after c.args.l.now z c.args.s c.args.u c.args.t c.requires.puts
