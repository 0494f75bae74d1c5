use Rattle.wiring_text.specs.Laws.{spoken_none, spoken_some}
use Rattle.wiring_text.proofs.put_terminal.Goals as goal

pub returns-then-times-eq0 : goal.returns-then-times-eq0
returns-then-times-eq0 c = spoken_none _ _ _ _ c.frame-times.ensures _ _ c.if-times-eq0.true

pub returns : goal.returns
returns c = spoken_some _ _ _ _ c.frame-times.ensures _ _ c.if-times-eq0.false _ _ c.put_line.ensures
