use Prim.Native.Nat.{◌≤◌}
use Rattle.rig.specs.declared.Rig.{Rig}
use Rattle.exec_state.specs.Set.{put_state, put_cond}
use Rattle.exec_offers.specs.Set.{tables_of}
use Rattle.exec_offers.specs.Laws.Offers.{Turned}
use Rattle.exec_state.specs.declared.State.{State}
use Rattle.exec_offers.proofs.offers.Given as goal

abbrev pub invariant-loop-i : goal.invariant-loop-i
invariant-loop-i l = ((g : Rig) (s : State) → Turned (tables_of l.rig g) l.f (put_cond (put_state s l.initial.state) l.initial.cond) l.initial.queue (put_cond (put_state s l.state) l.cond) l.queue l.activated l.i) × (l.i ≤ 64)
