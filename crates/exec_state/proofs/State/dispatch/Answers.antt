use Rattle.chains.specs.Held.{Sized}
use Rattle.exec_state.specs.Laws.Effects.{dispatched_is}
use borrow.Author.Rules.{rules}
use Rattle.exec_state.proofs.State.dispatch.Goals as goal

pub returns : goal.returns
returns c =
    let sized : Sized c.args.self.now.links = (record { next = search rules; prev = search rules; on = search rules }) in
    dispatched_is c.args.self.now c.args.rig.now c.chosen-c.result c.chosen-c.ensures.0 sized
