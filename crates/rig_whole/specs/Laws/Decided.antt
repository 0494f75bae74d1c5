-- Laws of `is_right`: what it says of a rig, and that the tests compute it.
-- Assumes nothing.
use Rattle.std.specs.Prelude.{◌≡◌, false, List}
use Rattle.laws.specs.Cases.{by}
use Rattle.laws.specs.Decides.{Is}
use Rattle.laws.specs.Laws.Decides.{is_same}
use Rattle.rig.specs.declared.Cycle.{Cycle}
use Rattle.rig.specs.declared.Rig.{Rig}
use Rattle.rig.specs.Rules.{Right}
use Rattle.rig_whole.specs.Tests.{right_b}
use Rattle.rig_whole.specs.Decided.{right_decided, is_right}
use Rattle.rig_whole.specs.Laws.Whole.{right_is}

module _ (g : Rig) (cycles : List Cycle) where
  pub decided_is : Is (is_right g cycles) (Right g cycles)
  unfolding is_right
  decided_is = (right_decided g cycles).1

  pub decided_not : (Right g cycles → ⊥) → is_right g cycles ≡ false
  decided_not n = by (is_right g cycles) (λ e. absurd (n (decided_is.0 e))) (λ e. e)

  pub right_computed : is_right g cycles ≡ right_b g cycles
  right_computed = is_same decided_is (right_is g cycles)
