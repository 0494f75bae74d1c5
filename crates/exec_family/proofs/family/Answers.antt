use borrow.Author.Rules.{rules}
use mathlib.Core.Path.{◌≡◌, sym, ◌∙◌, ap}
use Prim.Native.Nat.{ℕ, ◌+◌}
use native.Mathlib.Omega.{arith}
use lib.ListN.{set, replicate, length-set}
use Rattle.laws.specs.Laws.Iter.{iter_zero, iter_step}
use Rattle.chains.specs.Held.{at}
use Rattle.rules.specs.Family.{family, mark_one}
use Rattle.exec_family.proofs.family.Goals as goal

pub loop-i-init : goal.loop-i-init
loop-i-init c = (sym (iter_zero _ _), search rules)

pub loop-i-preserved : goal.loop-i-preserved
loop-i-preserved c =
    let d = c in
    let a = d.args in
    let i = d.loop-i.i in
    let next = iter_step i (mark_one (at a.controller.now) a.t) (replicate 65 0) d.loop-i.marks d.loop-i.invariant.0 in (
      ap (λ (x : ℕ). set d.loop-i.marks (i + 1) x) c.mark.ensures ∙ next,
      length-set d.loop-i.marks (i + 1) c.mark.result ∙ d.loop-i.invariant.1,
    )

pub returns : goal.returns
unfolding family
returns c =
    let e : c.loop-i.i ≡ 64 = omega arith in
    rw e at c.loop-i.invariant.0
