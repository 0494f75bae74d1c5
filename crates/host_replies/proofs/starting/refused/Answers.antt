use mathlib.Core.Path.{ap}
use Rattle.exec.specs.declared.Exec.{Exec}
use Rattle.host_replies.specs.Told.{coded_of, refused_file}
use Rattle.host_replies.proofs.starting.refused.Goals as goal

-- src/starting.rt:7:1
pub returns : goal.returns
returns c = ap (λ (x : Exec). coded_of x (refused_file c.args.number c.args.line).reply) c.none.ensures
