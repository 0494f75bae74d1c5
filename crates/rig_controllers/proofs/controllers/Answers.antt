use borrow.Author.Rules.{rules}
use mathlib.Core.Path.{◌≡◌, sym, ◌∙◌}
use mathlib.Core.Bool.{true}
use borrow.Author.Tests.{ne_eqb, eq-eqb, lt-leb}
use Prim.Native.Nat.{◌+◌}
use native.Mathlib.Omega.{arith}
use Rattle.laws.specs.All.{all}
use Rattle.laws.specs.Cases.{and_go, and_stop, or_skip}
use Rattle.laws.specs.Laws.All.{all_next, all_not}
use Rattle.rig_tables.specs.Tests.{controller_one, controllers_b}
use Rattle.rig_controllers.specs.Laws.Climb.{controllers_start, low_all}
use Rattle.rig_controllers.proofs.controllers.Goals as goal

pub returns-then-rig-ne0 : goal.returns-then-rig-ne0
unfolding controllers_b
returns-then-rig-ne0 c = sym (and_stop _ (ne_eqb _ _ c.if-rig-ne0.true))

pub loop-t-init : goal.loop-t-init
loop-t-init c = (controllers_start c.args.rig.now.controller, search rules)

pub controller_ok-requires : goal.controller_ok-requires
controller_ok-requires c = (search rules, (search rules, low_all c.args.rig.now.controller c.if-rig-ne0.false c.loop-t.t c.loop-t.invariant.0))

pub returns-then-not-controller_ok : goal.returns-then-not-controller_ok
unfolding controllers_b
returns-then-not-controller_ok c =
    let g = c.args.rig.now in
    let t = c.loop-t.t in
    sym (and_go (eq-eqb _ _ c.if-rig-ne0.false) (all_not (g.tasks + 1) (controller_one g.controller) t (omega (arith, c.loop-t-test.true)) (sym (or_skip _ _ (lt-leb t 1 c.loop-t.invariant.1.0)) ∙ sym c.if-not-controller_ok.ensures)))

pub loop-t-preserved : goal.loop-t-preserved
loop-t-preserved c = (all_next _ _ c.loop-t.invariant.0 (sym (or_skip _ _ (lt-leb c.loop-t.t 1 c.loop-t.invariant.1.0)) ∙ sym c.if-not-controller_ok.ensures), search rules)

pub returns-else-rig-ne0 : goal.returns-else-rig-ne0
unfolding controllers_b
returns-else-rig-ne0 c =
    let e : c.loop-t.t ≡ c.args.rig.now.tasks + 1 = omega arith in
    sym (and_go (eq-eqb _ _ c.if-rig-ne0.false) (rw e at c.loop-t.invariant.0))

pub returns-else-not-controller_ok : goal.returns-else-not-controller_ok
unfolding controllers_b
returns-else-not-controller_ok c =
    let g = c.args.rig.now in
    let t = c.loop-t.t in
    let e : t ≡ g.tasks = omega arith in
    let next : all (t + 1) (controller_one g.controller) ≡ true = all_next _ _ c.loop-t.invariant.0 (sym (or_skip _ _ (lt-leb t 1 c.loop-t.invariant.1.0)) ∙ sym c.if-not-controller_ok.ensures) in
    sym (and_go (eq-eqb _ _ c.if-rig-ne0.false) (rw e at next))
