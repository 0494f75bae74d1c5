-- `chains::append` meets its contract: the anchor's previous is the end of its chain.
use mathlib.Core.Path.{sym}
use mathlib.Core.List.{[], append-nil}
use Rattle.chains.specs.Laws.Held.{puts_at, tail_node}
use Rattle.chains.proofs.append.Goals as goal

pub link_after-requires-clause-puts : goal.link_after-requires-clause-puts
link_after-requires-clause-puts c =
    let a = c.args in
    let p = c.requires in
    let n = tail_node a.l.now p.holds_chains.0 p.holds_chains.1 a.s p.puts.low p.puts.high in
    puts_at a.l.now a.s _ a.t p.puts n.0 n.1

pub returns : goal.returns
returns c X h =
    let a = c.args in
    let p = c.requires in
    c.link_after.ensures X h (X a.s) [] (sym (append-nil (X a.s))) (tail_node a.l.now X h a.s p.puts.low p.puts.high).2
