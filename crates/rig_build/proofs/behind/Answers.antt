use mathlib.Core.Path.{ap, ◌∙◌}
use Prim.Native.Nat.{ℕ, ◌+◌}
use Rattle.rig_whole.specs.Numbers.{some_rule}
use Rattle.rig_build.specs.Laws.Answers.{behind_more}
use Rattle.rig_build.proofs.behind.Goals as goal

pub returns : goal.returns
returns c = ap (λ (n : ℕ). 5 + n) c.number.ensures ∙ behind_more _ (some_rule c.args.rule)
