use Rattle.decimal.specs.Laws.{run_turn, run_ends}
use Rattle.decimal.proofs.number_in.Goals as goal

pub loop-b-preserved : goal.loop-b-preserved
loop-b-preserved c = run_turn _ _ _ _ _ c.loop-b.invariant c.step_on-m.ensures c.loop-b-test.true

pub returns : goal.returns
returns c = run_ends _ _ _ _ c.loop-b.invariant c.loop-b-test.false
