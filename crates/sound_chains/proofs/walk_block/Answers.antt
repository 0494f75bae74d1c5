use borrow.Author.Rules.{rules}
use mathlib.Core.Path.{sym, ◌∙◌}
use Rattle.sound_chains.specs.Laws.{from_alone}
use Rattle.sound_chains.proofs.walk_block.Goals as goal

pub returns-then-alone_from : goal.returns-then-alone_from
returns-then-alone_from c =
    let s = c in
    let a = s.args in
    from_alone a.links.now a.s s.requires.0 a.seen.now 16 (search rules) (sym c.alone_from.ensures ∙ c.if-alone_from.true)
