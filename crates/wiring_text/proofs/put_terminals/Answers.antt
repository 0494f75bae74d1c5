use Rattle.wiring_text.specs.Sheet.{terminals_text}
use Rattle.wiring_lines.specs.Laws.Each.{telling_none, telling_room, telling_next, telling_all}
use Rattle.wiring_text.specs.Laws.{terminal_short, terminal_wrote}
use Rattle.wiring_text.proofs.put_terminals.Goals as goal

pub loop-a-init : goal.loop-a-init
loop-a-init c = telling_none _ _ _ _ _ c.requires.1

pub terminal_cycles-cycles-requires : goal.terminal_cycles-cycles-requires
terminal_cycles-cycles-requires c = c.requires.0

pub put_terminal-p-requires : goal.put_terminal-p-requires
put_terminal-p-requires c = telling_room _ _ _ _ _ (terminal_short _ _ _ _) _ _ _ c.loop-a.invariant c.loop-a-test.true

pub loop-a-preserved : goal.loop-a-preserved
loop-a-preserved c = telling_next _ _ _ _ _ (terminal_short _ _ _ _) _ _ _ c.loop-a.invariant c.loop-a-test.true _ _ (terminal_wrote _ _ _ _ _ _ _ _ _ _ c.terminal_cycles-cycles.ensures c.put_terminal-p.ensures)

pub shape_of-out : goal.shape_of-out
shape_of-out c = c.loop-a.invariant.wrote.size

pub returns : goal.returns
unfolding terminals_text
returns c = telling_all _ _ _ _ _ _ _ _ c.loop-a.invariant c.loop-a-test.false
