use Rattle.std.proofs.Common.{sym, ◌∙◌, arith}
use mathlib.Core.Bool.{false≢true}
use Rattle.chain_tests.specs.Laws.Order.{held_reaches}
use Rattle.exec_sound.specs.Laws.Check.{order_facts, order_back}
use Rattle.exec_sound.proofs.chains_ok.Goals as goal

pub in_order-requires : goal.in_order-requires
in_order-requires c = (omega arith, omega arith, held_reaches c.args.st.now.links (c.sound.ensures.0 c.if-sound.true) 65 (omega arith) (omega arith))

pub returns-then-sound : goal.returns-then-sound
returns-then-sound c =
    let s = c.args.st.now in
    let held = c.sound.ensures.0 c.if-sound.true in (
      order_facts s.count s.wake s.links held c.in_order.result c.in_order.ensures.order c.in_order.ensures.sized,
      order_back s.count s.wake s.links held c.in_order.result c.in_order.ensures.order,
    )

pub returns-else-sound : goal.returns-else-sound
returns-else-sound c = ((λ e. absurd (false≢true (sym c.if-sound.false ∙ e))), (λ h. c.sound.ensures.1 h.links))
