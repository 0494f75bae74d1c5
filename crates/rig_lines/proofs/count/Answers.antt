use mathlib.Core.Path.{sym, ap, ◌∙◌}
use native.Mathlib.Omega.{arith}
use Rattle.rig_lines.specs.Kind.{kind_report}
use Rattle.rig_lines.specs.Kinds.{count_of}
use Rattle.rig_lines.specs.Laws.Kind.{numbered, unnumbered, no_number}
use Rattle.rig_lines.specs.Laws.Kinds.{count_none}
use Rattle.rig_lines.proofs.count.Goals as goal

pub returns-in-Some : goal.returns-in-Some
returns-in-Some c =
    let k = numbered c.in-Some.kind c.args.k (sym (ap kind_report c.in-Some.is) ∙ c.numbered.ensures) in
    (c.count.ensures.0 ∙ ap count_of k, c.count.ensures.1)

pub returns-in-None : goal.returns-in-None
returns-in-None c = (count_none c.args.k (no_number c.args.k (unnumbered c.args.k (sym (ap kind_report c.in-None.is) ∙ c.numbered.ensures))), omega arith)
