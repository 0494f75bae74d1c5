use mathlib.Core.Path.{ap}
use mathlib.Core.Bool.{not}
use Rattle.exec_testing.specs.Laws.Testing.{tested_active, tested_unmet, tested_yes}
use Rattle.exec_testing.proofs.tested.Goals as goal
use Rattle.exec_testing.proofs.tested.Goals.{else-st-t-eq-INACTIVE-via-then-st-t-eq-INACTIVE+else-met, else-st-t-eq-INACTIVE-via-else-st-t-eq-INACTIVE}

pub returns-then-met : goal.returns-then-met
returns-then-met c =
    let a = c.args in
    let n = c.empty-queue in
    let m = c.met in
    let x = c.relax in
    tested_yes a.st.now a.rig.now a.t n.result n.ensures.0 c.if-st-t-eq-INACTIVE.true m.result m.ensures (ap not c.if-met.true)
    c.push.new.self c.push.ensures x.new.cond x.ensures

pub returns-else-st-t-eq-INACTIVE : goal.returns-else-st-t-eq-INACTIVE
returns-else-st-t-eq-INACTIVE c =
    let a = c.args in
    let n = c.empty-queue in
    elim c.else-st-t-eq-INACTIVE.branch [
      | else-st-t-eq-INACTIVE-via-then-st-t-eq-INACTIVE+else-met w ↦
          tested_unmet a.st.now a.rig.now a.t n.result n.ensures.0 w.if-st-t-eq-INACTIVE.true w.met.result w.met.ensures (ap not w.if-met.false)
      | else-st-t-eq-INACTIVE-via-else-st-t-eq-INACTIVE w ↦ tested_active a.st.now a.rig.now a.t n.result n.ensures.0 w.if-st-t-eq-INACTIVE.false
    ]
