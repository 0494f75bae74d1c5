-- The rules' answer to serving that the code's shows, and the rig for which it serves.
use Rattle.std.specs.Prelude.{[], ◌∷◌}
use Rattle.rig.specs.declared.Cycle.{Cycle}
use Rattle.rig.specs.declared.Rig.{Rig}
use Rattle.rules.specs.Rig as G
use Rattle.rules.specs.State as S
use Rattle.exec_state.specs.View.{rig_of, view_of}
use Rattle.exec_serving.specs.Done.{Done}

abbrev pub done_of : Done → S.Done
done_of d = record { now = view_of d.st; served = d.served; woken = d.woken; activated = d.activated }

-- the rig with a single cycle beside it: its flags are the minor-cycle flags of what is served
abbrev pub rig_in_cycle : Rig → Cycle → G.Rig
rig_in_cycle g cycle = rig_of g (cycle ∷ [])
