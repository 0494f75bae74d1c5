use borrow.Author.Rules.{rules}
use mathlib.Core.Path.{◌≡◌, refl}
use native.Mathlib.Omega.{arith}
use Rattle.std.specs.Prelude.{length}
use Rattle.rig_held.specs.Laws.Rules.{kind_yes, kind_no}
use Rattle.rig_lines.specs.declared.Kind.TheVariants.{Condition}
use Rattle.rig_lines.specs.Laws.Kind.{differs_yes, differs_no}
use Rattle.rig_lines.specs.Kinds.{kind_c, count_of, counts}
use Rattle.rig_fill.specs.Laws.Tables.{table_start, table_on, table_past, table_skip, table_all, says_at, place_said}
use Rattle.rig_fill.proofs.fill_conditions.Goals as goal

pub loop-line-init : goal.loop-line-init
loop-line-init c = (table_start _ _ _ _, table_start _ _ _ _, table_start _ _ _ _)

pub loop-line-preserved-then-ne : goal.loop-line-preserved-then-ne
loop-line-preserved-then-ne c =
    let w = c.loop-line.invariant in
    let h = c.loop-line-test.true in
    let s = kind_no _ kind_c (differs_yes _ Condition _ c.ne.ensures c.if-ne.true) in
    (table_skip _ _ _ _ _ _ _ h _ w.0 s _ refl, table_skip _ _ _ _ _ _ _ h _ w.1 s _ refl, table_skip _ _ _ _ _ _ _ h _ w.2 s _ refl)

pub loop-line-preserved-then-p-ge-CONDITIONS : goal.loop-line-preserved-then-p-ge-CONDITIONS
unfolding count_of counts
loop-line-preserved-then-p-ge-CONDITIONS c =
    let p : length c.args.present.now ≡ 1040 = search rules in
    let a : length c.args.latched.now ≡ 1040 = search rules in
    let b : length c.args.desired.now ≡ 1040 = search rules in
    let w = c.loop-line.invariant in
    let h = c.loop-line-test.true in
    let e = differs_no _ Condition _ c.ne.ensures c.if-ne.false in
    let s = kind_yes _ kind_c e in
    let g = c.if-p-ge-CONDITIONS.true in (
      table_past _ _ _ _ _ _ _ h _ w.0 s _ (place_said _ e) (omega (arith, p, g)) _ refl,
      table_past _ _ _ _ _ _ _ h _ w.1 s _ (place_said _ e) (omega (arith, a, g)) _ refl,
      table_past _ _ _ _ _ _ _ h _ w.2 s _ (place_said _ e) (omega (arith, b, g)) _ refl,
    )

pub loop-line-preserved : goal.loop-line-preserved
unfolding count_of counts
loop-line-preserved c =
    let w = c.loop-line.invariant in
    let h = c.loop-line-test.true in
    let e = differs_no _ Condition _ c.ne.ensures c.if-ne.false in
    let s = kind_yes _ kind_c e in (
      table_on _ _ _ _ _ _ _ h _ w.0 s _ _ (place_said _ e) refl _ refl,
      table_on _ _ _ _ _ _ _ h _ w.1 s _ _ (place_said _ e) (says_at _ kind_c 2 e (omega arith)) _ refl,
      table_on _ _ _ _ _ _ _ h _ w.2 s _ _ (place_said _ e) (says_at _ kind_c 3 e (omega arith)) _ refl,
    )

pub returns-clause-present : goal.returns-clause-present
returns-clause-present c = table_all _ _ _ _ _ _ c.loop-line-test.false _ c.loop-line.invariant.0

pub returns-clause-latched : goal.returns-clause-latched
returns-clause-latched c = table_all _ _ _ _ _ _ c.loop-line-test.false _ c.loop-line.invariant.1

pub returns-clause-desired : goal.returns-clause-desired
returns-clause-desired c = table_all _ _ _ _ _ _ c.loop-line-test.false _ c.loop-line.invariant.2
