use Rattle.std.proofs.Common.{rules, ◌≡◌, sym, ◌∙◌, ap, length, ℕ, ◌+◌, ◌*◌}
use Rattle.laws.specs.All.{all}
use Rattle.laws.specs.Cases.{and_go, and_stop}
use Rattle.rig_zeros.specs.Laws.Passes.{zero_from, condition_tasks_each, zeros_first}
use Rattle.rig_zeros.proofs.condition_tasks.Goals as goal

pub returns-then-zeros : goal.returns-then-zeros
returns-then-zeros c =
    let g = c.args.rig.now in
    let long : length g.present ≡ 1040 = search rules in
    sym (condition_tasks_each g.tasks g.present ∙ and_go (sym (zeros_first 16 0 g.present (search rules)) ∙ sym c.zeros.ensures ∙ c.if-zeros.true) (sym (c.zeros-then-zeros.ensures ∙ ap (λ (n : ℕ). all n (zero_from (16 * (g.tasks + 1)) g.present)) long)))

pub returns-else-zeros : goal.returns-else-zeros
returns-else-zeros c =
    let g = c.args.rig.now in
    sym (condition_tasks_each g.tasks g.present ∙ and_stop _ (sym (zeros_first 16 0 g.present (search rules)) ∙ sym c.zeros.ensures ∙ c.if-zeros.false) ∙ sym c.if-zeros.false)
