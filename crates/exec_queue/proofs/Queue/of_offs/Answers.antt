use mathlib.Core.Path.{◌≡◌, refl, sym, ◌∙◌, ap}
use mathlib.Core.List.{[]}
use native.Mathlib.Omega.{arith}
use Rattle.laws.specs.Cases.{if_yes, if_no}
use Rattle.laws.specs.Laws.Iter.{iter_zero, iter_step}
use Rattle.chains.specs.Held.{at}
use Rattle.rules.specs.Family.{offs, off_one}
use Rattle.exec_queue.specs.View.{entries_of}
use Rattle.exec_queue.specs.declared.Queue.{Queue}
use Rattle.exec_queue.proofs.Queue.of_offs.Goals as goal
use Rattle.exec_queue.proofs.Queue.of_offs.Goals.{else-struck, then-struck}

pub loop-i-init : goal.loop-i-init
loop-i-init c = (c.empty-q.ensures.0 ∙ sym (iter_zero _ _), omega (arith, c.empty-q.ensures.1))

pub loop-i-preserved : goal.loop-i-preserved
loop-i-preserved c =
    let d = c in
    let a = c.args in
    let e = sym c.struck.ensures in
    let next = iter_step d.loop-i.i (off_one (at a.activation.now) a.marks.now a.state.now) [] (entries_of d.loop-i.q) d.loop-i.invariant.0 in (
      elim c.if-struck.branch [ then-struck w ↦ ap entries_of w.q-is ∙ w.push.ensures.is ∙ sym (if_yes _ (e ∙ w.if-struck.true) refl) ∙ next | else-struck w ↦ ap entries_of w.q-is ∙ sym (if_no _ (e ∙ w.if-struck.false) refl) ∙ next ],
      elim c.if-struck.branch [ then-struck w ↦ omega (arith, ap (λ (x : Queue). x.n) w.q-is, w.push.ensures.more, d.loop-i.invariant.1) | else-struck w ↦ omega (arith, ap (λ (x : Queue). x.n) w.q-is, d.loop-i.invariant.1) ],
    )

pub returns : goal.returns
unfolding offs
returns c =
    let e : c.loop-i.i ≡ 64 = omega arith in
    rw e at c.loop-i.invariant.0
