use Rattle.exec.specs.Starting.{no_state}
use Rattle.exec.proofs.none.Goals as goal

pub returns : goal.returns
returns c = λ i. record { rig = c.none.ensures i; cycles = c.no_cycles.ensures i; st = no_state }
