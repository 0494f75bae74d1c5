use mathlib.Core.Path.{◌≡◌, ap, ◌∙◌, refl}
use native.Mathlib.Omega.{arith}
use Rattle.std.specs.Prelude.{Some}
use Rattle.rig_culprits.specs.declared.Culprit.TheVariants.{Line, Task}
use Rattle.rig_saying.specs.Laws.{culprit_line_lem, culprit_task, culprit_none}
use Rattle.rig_saying.proofs.culprit.Goals as goal

pub returns-in-Line : goal.returns-in-Line
returns-in-Line c =
    let i = c.in-Line in
    let e : c.args.who ≡ Some (Line i.n) = c.in-Some.is ∙ ap Some i.is in
    rw e (culprit_line_lem c.args.out.now c.args.at (record { what = 1; number = i.n }) c.requires refl _ _ _ _ c.put_text-a.ensures c.put_number.ensures)

pub returns-in-Task : goal.returns-in-Task
returns-in-Task c =
    let i = c.in-Task in
    let e : c.args.who ≡ Some (Task i.n) = c.in-Some.is ∙ ap Some i.is in
    rw e (culprit_task c.args.out.now c.args.at (record { what = 2; number = i.n }) c.requires (omega arith) refl _ _ _ _ c.put_text-a-in-Task.ensures c.put_number-in-Task.ensures)

pub returns-in_default : goal.returns-in_default
returns-in_default c = rw c.in_default.is (culprit_none c.args.out.now c.args.at (record { what = 0; number = 0 }) (omega arith) (omega arith))
