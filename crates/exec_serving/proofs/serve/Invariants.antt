use Rattle.rules_laws.specs.Serve.{load}
use Rattle.exec_state.specs.View.{work_of}
use Rattle.rig.specs.declared.Rig.{Rig}
use Rattle.exec_offers.specs.Set.{tables_of}
use Rattle.exec_serving.specs.Set.{with_places}
use Rattle.exec_serving.specs.Laws.Serving.{Turned}
use Rattle.exec_serving.proofs.serve.Given as goal

abbrev pub invariant-loop-f : goal.invariant-loop-f
invariant-loop-f l =
    Turned l.rig l.cycle l.initial.st l.initial.queue l.st l.queue l.served l.woken l.activated
    × ((g : Rig) → Turned (tables_of l.rig (with_places l.rig.line_pos g)) l.cycle l.initial.st l.initial.queue l.st l.queue l.served l.woken l.activated)

abbrev pub decreases-loop-f : goal.decreases-loop-f
decreases-loop-f l = load (work_of l.st l.queue)
