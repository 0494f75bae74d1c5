use mathlib.Core.List.{[]}
use Rattle.refusals.specs.Numbers.{some_number, handed_on}
use Rattle.exec_refusals.specs.Numbers.{past_count}
use Rattle.exec_refusals.specs.Rows.{none, here, past, ran, ran_out}
use Rattle.exec_refusals.proofs.of_count.Goals as goal

pub returns-in_err-of_run : goal.returns-in_err-of_run
returns-in_err-of_run c =
    rw (handed_on _ _ c.from_residual.ensures.1) (ran_out _ c.args.sound c.args.running _ (some_number _) c.in_err-of_run.ensures)

pub returns-then-above : goal.returns-then-above
returns-then-above c = ran past_count c.args.sound c.args.running _ c.in_ok-of_run.ensures (here past_count _ [] c.if-above.true)

pub returns : goal.returns
returns c = ran 0 c.args.sound c.args.running _ c.in_ok-of_run.ensures (past 0 past_count _ [] c.if-above.false none)
