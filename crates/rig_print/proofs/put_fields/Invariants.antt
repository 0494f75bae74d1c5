use Rattle.rig_print.specs.Laws.Line.{InFields}
use Rattle.rig_print.proofs.put_fields.Given as goal

abbrev pub invariant-loop-f : goal.invariant-loop-f
invariant-loop-f l = InFields l.initial.buf l.buf l.at l.m l.v l.p l.f
