use borrow.Author.Rules.{rules}
use mathlib.Core.Path.{sym, ◌∙◌}
use Rattle.std.specs.Prelude.{ℕ, eqb}
use Rattle.rules.specs.Rig.{in_cycle}
use Rattle.exec_queue.specs.Laws.Found.{any_list}
use Rattle.exec_queue.proofs.in_cycle.Goals as goal

pub returns : goal.returns
unfolding in_cycle
returns c = c.contains.ensures.value ∙ sym (any_list (λ (y : ℕ). eqb y c.args.f) c.args.cycle.now.flags 0 15 (search rules))
