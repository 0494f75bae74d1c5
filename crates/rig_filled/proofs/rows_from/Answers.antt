use borrow.Author.Rules.{rules}
use mathlib.Core.Path.{refl, sym, ap, ◌∙◌}
use native.Mathlib.Omega.{arith}
use Rattle.std.specs.Prelude.{ℕ, ◌+◌, replicate}
use Rattle.rig.specs.Rules.{no_row}
use Rattle.rig_held.specs.Laws.Rules.{kind_yes, kind_no, many_none, many_yes, many_no}
use Rattle.rig_lines.specs.declared.Kind.TheVariants.{Row}
use Rattle.rig_lines.specs.Laws.Kind.{differs_yes, differs_no}
use Rattle.rig_lines.specs.Kinds.{kind_b}
use Rattle.rig_fill.specs.OfLines.{rig_from}
use Rattle.rig_fill.specs.Laws.Tables.{list_start, list_on, list_past, list_skip, list_all, row_says}
use Rattle.rig_filled.proofs.rows_from.Goals as goal

pub loop-line-init : goal.loop-line-init
loop-line-init c = (omega arith, sym (many_none _), refl, list_start _ _ _)

pub loop-line-preserved-then-ne : goal.loop-line-preserved-then-ne
loop-line-preserved-then-ne c =
    let w = c.loop-line.invariant in
    let h = c.loop-line-test.true in
    let s = kind_no _ kind_b (differs_yes _ Row _ c.ne.ensures c.if-ne.true) in
    (omega (arith, w.0), w.1 ∙ sym (many_no _ _ _ _ h s), w.2, list_skip _ _ _ _ _ _ h _ w.3 s _ refl)

pub loop-line-preserved-then-k-ge-ROWS : goal.loop-line-preserved-then-k-ge-ROWS
loop-line-preserved-then-k-ge-ROWS c =
    let w = c.loop-line.invariant in
    let h = c.loop-line-test.true in
    let s = kind_yes _ kind_b (differs_no _ Row _ c.ne.ensures c.if-ne.false) in
    (omega (arith, w.0), ap (λ (k : ℕ). k + 1) w.1 ∙ sym (many_yes _ _ _ _ h s), w.2, list_past _ _ (replicate 64 no_row) _ _ _ h _ w.3 s _ w.1 c.if-k-ge-ROWS.true _ refl)

pub loop-line-preserved : goal.loop-line-preserved
loop-line-preserved c =
    let w = c.loop-line.invariant in
    let h = c.loop-line-test.true in
    let e = differs_no _ Row _ c.ne.ensures c.if-ne.false in
    let s = kind_yes _ kind_b e in
    (omega (arith, w.0), ap (λ (k : ℕ). k + 1) w.1 ∙ sym (many_yes _ _ _ _ h s), search rules, list_on _ _ _ _ _ _ h _ w.3 s _ _ w.1 (row_says _ e) _ refl)

pub returns : goal.returns
unfolding rig_from
returns c = list_all _ _ _ _ _ c.loop-line-test.false _ c.loop-line.invariant.3
