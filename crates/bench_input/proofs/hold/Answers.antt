use Rattle.bench_input.specs.Laws.Line.{hold_more, hold_full}
use Rattle.bench_input.proofs.hold.Goals as goal

pub returns-then-held-ge-LINE : goal.returns-then-held-ge-LINE
returns-then-held-ge-LINE c = let s = c in hold_full s.args.line.now s.args.held s.args.b s.requires.0 s.requires.1 c.if-held-ge-LINE.true

pub returns : goal.returns
returns c = let s = c in hold_more s.args.line.now s.args.held s.args.b s.requires.0 c.if-held-ge-LINE.false
