-- WHETHER A RIG IS RIGHT, as a test. The type of `right_decided` is all that is known of it: how the answer is computed is nobody's to
-- believe (Tests.antt, and `right_computed` in Laws/Decided.antt).
use Rattle.std.specs.Prelude.{Bool, List}
use Rattle.laws.specs.Decides.{Is}
use Rattle.rig.specs.declared.Cycle.{Cycle}
use Rattle.rig.specs.declared.Rig.{Rig}
use Rattle.rig.specs.Rules.{Right}
use Rattle.rig_whole.specs.Tests.{right_b}
use Rattle.rig_whole.specs.Laws.Whole.{right_is}

-- a test that is true of exactly the right rigs
pub right_decided : (g : Rig) (cycles : List Cycle) → (b : Bool) × Is b (Right g cycles)
right_decided g cycles = (right_b g cycles, right_is g cycles)

unfoldable pub is_right : Rig → List Cycle → Bool
is_right g cycles = (right_decided g cycles).0
