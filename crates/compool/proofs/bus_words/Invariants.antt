use Rattle.compool.specs.View.{rows_of}
use Rattle.compool.specs.Laws.Words.{Sent}
use Rattle.compool.proofs.bus_words.Given as goal

abbrev pub invariant-loop-row : goal.invariant-loop-row
invariant-loop-row l = Sent l.rig.master (rows_of l.rig.row) l.count l.initial.out l.out l.n l.row-index
