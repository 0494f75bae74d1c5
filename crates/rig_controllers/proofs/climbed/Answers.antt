use mathlib.Core.Path.{sym, ◌∙◌}
use native.Mathlib.Omega.{arith}
use Rattle.rig_controllers.specs.Laws.Climb.{climb_turn, climb_stop}
use Rattle.rig_controllers.proofs.climbed.Goals as goal

pub loop-y-preserved : goal.loop-y-preserved
loop-y-preserved c =
    let d = c in
    let a = d.args in
    (climb_turn a.controller.now a.c d.loop-y.y c.loop-y-test.true (omega arith) (λ t i j. d.requires.1 t i (omega arith)) ∙ d.loop-y.invariant.0, omega (arith, c.requires.1 c.loop-y.y (omega arith) (omega arith)))

pub returns : goal.returns
returns c = sym (climb_stop c.args.controller.now c.args.c 64 c.loop-y.y c.loop-y-test.false) ∙ c.loop-y.invariant.0
