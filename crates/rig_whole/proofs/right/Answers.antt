use Rattle.std.proofs.Common.{sym, ◌∙◌}
use Rattle.rig_whole.specs.Laws.Which.{ok_right}
use Rattle.rig_whole.proofs.right.Goals as goal

pub returns : goal.returns
returns c = let k = ok_right _ _ c.first_broken.result c.first_broken.ensures in ((λ q. k.0 (sym c.is_ok.ensures.value ∙ q)), (λ h. c.is_ok.ensures.value ∙ k.1 h))
