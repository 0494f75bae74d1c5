use borrow.Author.Tests.{eq-eqb, ne_eqb}
use Rattle.rig_lines.specs.declared.Kind.TheVariants.{Rig, Row}
use Rattle.rig_lines.specs.Kinds.{follows}
use Rattle.rig_lines.specs.Laws.Kind.{same_kind, same_yes, same_no}
use Rattle.rig_line_sizes.proofs.in_order.Goals as goal

pub returns-then-p-eq0 : goal.returns-then-p-eq0
unfolding follows
returns-then-p-eq0 c = rw (eq-eqb _ _ c.if-p-eq0.true, c.eq.ensures) (same_kind c.args.kind Rig)

pub returns-then-eq : goal.returns-then-eq
unfolding follows
returns-then-eq c = rw (ne_eqb _ _ c.if-p-eq0.false, same_yes c.args.kind Row _ c.eq-2.ensures c.if-eq.true)

pub returns : goal.returns
unfolding follows
returns c = rw (ne_eqb _ _ c.if-p-eq0.false, same_no c.args.kind Row _ c.eq-2.ensures c.if-eq.false)
