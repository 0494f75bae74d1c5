use borrow.Author.Rules.{rules}
use mathlib.Core.Path.{◌≡◌, sym, ap, ◌∙◌}
use native.Mathlib.Omega.{arith}
use Rattle.std.specs.Prelude.{◌<◌, true, false, get_or}
use Rattle.laws.specs.Laws.All.{all_zero, all_next, all_not}
use Rattle.rig_lines.specs.Kind.{kind_number, names_number}
use Rattle.rig_lines.specs.Kinds.{count_of}
use Rattle.rig_marks.specs.Laws.Marks.{task_over, task_under, flag_over, flag_under, other_under, under_all}
use Rattle.rig_marks.proofs.line_under.Goals as goal
use Rattle.rig_marks.proofs.line_under.Goals.{in-Task, in-Flag, in-Other}

pub loop-j-init : goal.loop-j-init
loop-j-init c = all_zero _

pub returns-then-most-x : goal.returns-then-most-x
returns-then-most-x c =
    let small : get_or c.args.line.now.numbers c.loop-j.j 0 < 256 = search rules in
    let t = c.loop-j-test.true in
    let k = c.count-j-end.ensures in
    let h : c.loop-j.j < count_of (kind_number c.args.line.now.kind) = omega (arith, t, k.0) in
    let s = c.names-names.ensures c.loop-j.j (omega (arith, t, k.1)) in
    let over = c.if-most-x.true in
    under_all c.args.line.now c.args.tasks c.args.flags _ k.0 false (sym (all_not _ _ _ t (elim c.match-names-j.branch [
      | in-Task w ↦ task_over _ _ _ _ h (sym s ∙ ap names_number w.in-Task.is) (omega (arith, over, w.most-is))
      | in-Flag w ↦
          let e = sym s ∙ ap names_number w.in-Flag.is in
          flag_over _ _ _ _ h (λ q. omega (arith, e, q)) e (omega (arith, over, w.most-is))
      | in-Other w ↦ absurd (omega (arith, over, small, w.most-is))
    ])))

pub loop-j-preserved : goal.loop-j-preserved
loop-j-preserved c =
    let t = c.loop-j-test.true in
    let k = c.count-j-end.ensures in
    let h : c.loop-j.j < count_of (kind_number c.args.line.now.kind) = omega (arith, t, k.0) in
    let s = c.names-names.ensures c.loop-j.j (omega (arith, t, k.1)) in
    let below = c.if-most-x.false in
    all_next _ _ c.loop-j.invariant (elim c.match-names-j.branch [
      | in-Task w ↦ task_under _ _ _ _ h (sym s ∙ ap names_number w.in-Task.is) (omega (arith, below, w.most-is))
      | in-Flag w ↦
          let e = sym s ∙ ap names_number w.in-Flag.is in
          flag_under _ _ _ _ h (λ q. omega (arith, e, q)) e (omega (arith, below, w.most-is))
      | in-Other w ↦
          let e = sym s ∙ ap names_number w.in-Other.is in
          other_under _ _ _ _ h (λ q. omega (arith, e, q)) (λ q. omega (arith, e, q))
    ])

pub returns : goal.returns
returns c =
    let e : c.loop-j.j ≡ c.count-j-end.result = omega (arith, c.loop-j-test.false, c.loop-j.auto.j-end) in
    under_all c.args.line.now c.args.tasks c.args.flags _ c.count-j-end.ensures.0 true (sym (rw e at c.loop-j.invariant))
