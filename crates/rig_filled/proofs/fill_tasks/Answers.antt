use borrow.Author.Rules.{rules}
use mathlib.Core.Path.{◌≡◌, refl}
use native.Mathlib.Omega.{arith}
use Rattle.std.specs.Prelude.{length}
use Rattle.rig_held.specs.Laws.Rules.{kind_yes, kind_no}
use Rattle.rig_lines.specs.declared.Kind.TheVariants.{Task}
use Rattle.rig_lines.specs.Laws.Kind.{differs_yes, differs_no}
use Rattle.rig_lines.specs.Kinds.{kind_t, count_of, counts}
use Rattle.rig_fill.specs.Laws.Tables.{table_start, table_on, table_past, table_skip, table_all, says_at}
use Rattle.rig_filled.proofs.fill_tasks.Goals as goal

pub loop-line-init : goal.loop-line-init
loop-line-init c = (table_start _ _ _ _, table_start _ _ _ _, table_start _ _ _ _, table_start _ _ _ _)

pub loop-line-preserved-then-ne : goal.loop-line-preserved-then-ne
loop-line-preserved-then-ne c =
    let w = c.loop-line.invariant in
    let h = c.loop-line-test.true in
    let s = kind_no _ kind_t (differs_yes _ Task _ c.ne.ensures c.if-ne.true) in
    (table_skip _ _ _ _ _ _ _ h _ w.0 s _ refl, table_skip _ _ _ _ _ _ _ h _ w.1 s _ refl, table_skip _ _ _ _ _ _ _ h _ w.2 s _ refl, table_skip _ _ _ _ _ _ _ h _ w.3 s _ refl)

pub loop-line-preserved-then-t-ge-TASK_PLACES : goal.loop-line-preserved-then-t-ge-TASK_PLACES
unfolding count_of counts
loop-line-preserved-then-t-ge-TASK_PLACES c =
    let l0 : length c.args.controller.now ≡ 65 = search rules in
    let l1 : length c.args.priority.now ≡ 65 = search rules in
    let l2 : length c.args.privileged.now ≡ 65 = search rules in
    let l3 : length c.args.activation.now ≡ 65 = search rules in
    let w = c.loop-line.invariant in
    let h = c.loop-line-test.true in
    let g = c.if-t-ge-TASK_PLACES.true in
    let e = differs_no _ Task _ c.ne.ensures c.if-ne.false in
    let s = kind_yes _ kind_t e in
    let q = says_at _ kind_t 0 e (omega arith) in
    (table_past _ _ _ _ _ _ _ h _ w.0 s _ q (omega (arith, l0, g)) _ refl, table_past _ _ _ _ _ _ _ h _ w.1 s _ q (omega (arith, l1, g)) _ refl, table_past _ _ _ _ _ _ _ h _ w.2 s _ q (omega (arith, l2, g)) _ refl, table_past _ _ _ _ _ _ _ h _ w.3 s _ q (omega (arith, l3, g)) _ refl)

pub loop-line-preserved : goal.loop-line-preserved
unfolding count_of counts
loop-line-preserved c =
    let w = c.loop-line.invariant in
    let h = c.loop-line-test.true in
    let e = differs_no _ Task _ c.ne.ensures c.if-ne.false in
    let s = kind_yes _ kind_t e in
    let q = says_at _ kind_t 0 e (omega arith) in
    (table_on _ _ _ _ _ _ _ h _ w.0 s _ _ q (says_at _ kind_t 1 e (omega arith)) _ refl, table_on _ _ _ _ _ _ _ h _ w.1 s _ _ q (says_at _ kind_t 2 e (omega arith)) _ refl, table_on _ _ _ _ _ _ _ h _ w.2 s _ _ q (says_at _ kind_t 3 e (omega arith)) _ refl, table_on _ _ _ _ _ _ _ h _ w.3 s _ _ q (says_at _ kind_t 4 e (omega arith)) _ refl)

pub returns-clause-controller : goal.returns-clause-controller
returns-clause-controller c = table_all _ _ _ _ _ _ c.loop-line-test.false _ c.loop-line.invariant.0

pub returns-clause-priority : goal.returns-clause-priority
returns-clause-priority c = table_all _ _ _ _ _ _ c.loop-line-test.false _ c.loop-line.invariant.1

pub returns-clause-privileged : goal.returns-clause-privileged
returns-clause-privileged c = table_all _ _ _ _ _ _ c.loop-line-test.false _ c.loop-line.invariant.2

pub returns-clause-activation : goal.returns-clause-activation
returns-clause-activation c = table_all _ _ _ _ _ _ c.loop-line-test.false _ c.loop-line.invariant.3
