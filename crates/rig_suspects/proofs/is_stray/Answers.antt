use Rattle.rig_lines.specs.Line.{line_of}
use Rattle.rig_lines.specs.File.{lines_of}
use Rattle.rig_shapes.specs.Laws.{is_so_built, is_not}
use mathlib.Core.Path.{sym, ◌∙◌}
use borrow.Author.Tests.{eq-eqb}
use Rattle.rig_suspects.specs.Laws.{stray_other, stray_first, stray_zero, stray_climb}
use Rattle.rig_suspects.proofs.is_stray.Goals as goal

pub returns-then-not-has_kind : goal.returns-then-not-has_kind
returns-then-not-has_kind c = stray_other (lines_of c.args.s.now) (line_of c.args.line.now) (sym c.if-not-has_kind.ensures)

pub returns-then-t-le1 : goal.returns-then-t-le1
returns-then-t-le1 c =
    let a = c.number-t in
    let b = c.number-c in
    stray_first (lines_of c.args.s.now) (line_of c.args.line.now) (sym c.if-not-has_kind.ensures) a.result b.result a.ensures b.ensures c.if-t-le1.true

pub returns-then-c-eq0 : goal.returns-then-c-eq0
returns-then-c-eq0 c =
    let a = c.number-t in
    let b = c.number-c in
    eq-eqb _ _ c.if-c-eq0.true ∙ stray_zero (lines_of c.args.s.now) (line_of c.args.line.now) (sym c.if-not-has_kind.ensures) a.result b.result a.ensures b.ensures c.if-t-le1.false c.if-c-eq0.true

pub returns-else-c-eq0 : goal.returns-else-c-eq0
returns-else-c-eq0 c =
    let a = c.number-t in
    let b = c.number-c in
    stray_climb (lines_of c.args.s.now) (line_of c.args.line.now) (sym c.if-not-has_kind.ensures) a.result b.result a.ensures b.ensures c.if-t-le1.false c.if-c-eq0.false c.climbed.result c.climbed.ensures
