use Rattle.bench_script.specs.Laws.Written.{any_none, any_one}
use Rattle.bench_script.proofs.put_if_any.Goals as goal

pub returns-then-n-none : goal.returns-then-n-none
returns-then-n-none c = any_none _ _ _ _ c.if-n-none.true

pub returns : goal.returns
returns c = any_one _ _ _ _ _ _ c.if-n-none.false c.put_field.ensures
