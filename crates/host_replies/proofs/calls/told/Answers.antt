use mathlib.Core.Path.{ap}
use Rattle.host_replies.specs.Told.{coded_of}
use Rattle.host_replies.proofs.calls.told.Goals as goal

-- src/calls.rt:39:1
pub returns : goal.returns
returns c = ap (coded_of c.args.s.exec) c.reply_of-reply.ensures
