use borrow.Author.Rules.{rules}
use mathlib.Core.Path.{sym, ◌∙◌}
use Rattle.std.specs.Prelude.{ℕ, eqb}
use Rattle.rules.specs.Rig.{is_activation}
use Rattle.exec_queue.specs.Laws.Found.{any_behind}
use Rattle.exec_queue.proofs.is_activation.Goals as goal

pub returns : goal.returns
unfolding is_activation
returns c = c.contains.ensures.value ∙ sym (any_behind (λ (y : ℕ). eqb y c.args.f) c.args.activation.now 0 64 (search rules))
