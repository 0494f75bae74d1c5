use borrow.Author.Rules.{rules}
use mathlib.Core.Path.{◌≡◌, refl, sym, ap, ◌∙◌}
use native.Mathlib.Omega.{arith}
use Rattle.std.specs.Prelude.{ℕ, ◌+◌, length}
use Rattle.rig_held.specs.Laws.Rules.{kind_yes, kind_no, many_none, many_yes, many_no}
use Rattle.rig_lines.specs.declared.Kind.TheVariants.{Line}
use Rattle.rig_lines.specs.Laws.Kind.{differs_yes, differs_no}
use Rattle.rig_lines.specs.Kinds.{kind_a, count_of, counts}
use Rattle.rig_fill.specs.Laws.Tables.{list_start, list_on, list_past, list_skip, list_all, says_at}
use Rattle.rig_fill.proofs.fill_lines.Goals as goal

pub loop-line-init : goal.loop-line-init
loop-line-init c = (omega arith, sym (many_none _), list_start _ _ _, list_start _ _ _, list_start _ _ _)

pub loop-line-preserved-then-ne : goal.loop-line-preserved-then-ne
loop-line-preserved-then-ne c =
    let w = c.loop-line.invariant in
    let h = c.loop-line-test.true in
    let s = kind_no _ kind_a (differs_yes _ Line _ c.ne.ensures c.if-ne.true) in
    (omega (arith, w.0), w.1 ∙ sym (many_no _ _ _ _ h s), list_skip _ _ _ _ _ _ h _ w.2 s _ refl, list_skip _ _ _ _ _ _ h _ w.3 s _ refl, list_skip _ _ _ _ _ _ h _ w.4 s _ refl)

pub loop-line-preserved-then-k-ge-LINES : goal.loop-line-preserved-then-k-ge-LINES
loop-line-preserved-then-k-ge-LINES c =
    let t : length c.args.task.now ≡ 1024 = search rules in
    let p : length c.args.pos.now ≡ 1024 = search rules in
    let f : length c.args.flag.now ≡ 1024 = search rules in
    let w = c.loop-line.invariant in
    let h = c.loop-line-test.true in
    let s = kind_yes _ kind_a (differs_no _ Line _ c.ne.ensures c.if-ne.false) in
    let g = c.if-k-ge-LINES.true in (
      omega (arith, w.0),
      ap (λ (k : ℕ). k + 1) w.1 ∙ sym (many_yes _ _ _ _ h s),
      list_past _ _ _ _ _ _ h _ w.2 s _ w.1 (omega (arith, t, g)) _ refl,
      list_past _ _ _ _ _ _ h _ w.3 s _ w.1 (omega (arith, p, g)) _ refl,
      list_past _ _ _ _ _ _ h _ w.4 s _ w.1 (omega (arith, f, g)) _ refl,
    )

pub loop-line-preserved : goal.loop-line-preserved
unfolding count_of counts
loop-line-preserved c =
    let w = c.loop-line.invariant in
    let h = c.loop-line-test.true in
    let e = differs_no _ Line _ c.ne.ensures c.if-ne.false in
    let s = kind_yes _ kind_a e in (
      omega (arith, w.0),
      ap (λ (k : ℕ). k + 1) w.1 ∙ sym (many_yes _ _ _ _ h s),
      list_on _ _ _ _ _ _ h _ w.2 s _ _ w.1 (says_at _ kind_a 0 e (omega arith)) _ refl,
      list_on _ _ _ _ _ _ h _ w.3 s _ _ w.1 (says_at _ kind_a 1 e (omega arith)) _ refl,
      list_on _ _ _ _ _ _ h _ w.4 s _ _ w.1 (says_at _ kind_a 2 e (omega arith)) _ refl,
    )

pub returns-clause-task : goal.returns-clause-task
returns-clause-task c = list_all _ _ _ _ _ c.loop-line-test.false _ c.loop-line.invariant.2

pub returns-clause-pos : goal.returns-clause-pos
returns-clause-pos c = list_all _ _ _ _ _ c.loop-line-test.false _ c.loop-line.invariant.3

pub returns-clause-flag : goal.returns-clause-flag
returns-clause-flag c = list_all _ _ _ _ _ c.loop-line-test.false _ c.loop-line.invariant.4
