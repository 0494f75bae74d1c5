use mathlib.Core.Path.{◌≡◌, sym}
use borrow.Author.Tests.{eq-eqb, ne_eqb}
use native.Mathlib.Omega.{arith}
use Rattle.laws.specs.Laws.All.{all_zero, all_next, all_at}
use Rattle.laws.specs.Laws.Lowest.{lowest_is, lowest_none}
use Rattle.start_tests.specs.Tables.{lowest_in, clear_at}
use Rattle.start_tests.proofs.lowest.Goals as goal

pub loop-p-init : goal.loop-p-init
loop-p-init c = all_zero _

pub returns-then-table-t-ne1-clause-told : goal.returns-then-table-t-ne1-clause-told
unfolding lowest_in
returns-then-table-t-ne1-clause-told c =
    let l = c.loop-p in
    sym (lowest_is 16 _ l.p (omega arith) (rw (ne_eqb _ _ c.if-table-t-ne1.true)) (λ k b. rw (all_at l.p (clear_at c.args.table.now c.args.t) l.invariant k b)))

pub loop-p-preserved : goal.loop-p-preserved
loop-p-preserved c = all_next c.loop-p.p _ c.loop-p.invariant (eq-eqb _ _ c.if-table-t-ne1.false)

pub returns-clause-told : goal.returns-clause-told
unfolding lowest_in
returns-clause-told c =
    let e : c.loop-p.p ≡ 16 = omega arith in
    sym (lowest_none 16 _ (λ k b. rw (all_at 16 (clear_at c.args.table.now c.args.t) (rw e at c.loop-p.invariant) k b)))
