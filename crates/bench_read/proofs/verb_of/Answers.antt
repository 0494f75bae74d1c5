use Rattle.bench_script.specs.Laws.Fields.{verb_one, verb_none}
use Rattle.bench_read.proofs.verb_of.Goals as goal

pub returns-then-f-eq1 : goal.returns-then-f-eq1
returns-then-f-eq1 c = verb_one c.args.f.now c.if-f-eq1.true

pub returns-else-f-eq1 : goal.returns-else-f-eq1
returns-else-f-eq1 c = verb_none c.args.f.now c.if-f-eq1.false
