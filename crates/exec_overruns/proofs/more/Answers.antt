use mathlib.Core.Path.{◌∙◌}
use native.Mathlib.Omega.{arith}
use Rattle.exec_overruns.specs.Laws.Counting.{more_most, one_or_none}
use Rattle.exec_overruns.proofs.more.Goals as goal

pub returns : goal.returns
returns c = c.saturating_add.ensures ∙ more_most c.args.n c.from.result c.args.soon (omega arith) (c.from.ensures ∙ one_or_none c.args.soon)
