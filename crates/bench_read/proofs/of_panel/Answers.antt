use mathlib.Core.Path.{sym, refl}
use Rattle.laws.specs.Cases.{if_yes, if_no}
use Rattle.bench_read.proofs.of_panel.Goals as goal

pub returns-then-panel : goal.returns-then-panel
returns-then-panel c = sym (if_yes _ c.if-panel.true refl)

pub returns-else-panel : goal.returns-else-panel
returns-else-panel c = sym (if_no _ c.if-panel.false refl)
