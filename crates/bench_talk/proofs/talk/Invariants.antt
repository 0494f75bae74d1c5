use Prim.Native.Nat.{◌-◌}
use lib.ListN.{length, take}
use Rattle.bench_talk.specs.Laws.Talk.{at_line, Talking}
use Rattle.bench_talk.proofs.talk.Given as goal

abbrev pub invariant-loop-i : goal.invariant-loop-i
invariant-loop-i l = Talking l.s.panel (at_line l.s.panel l.s.exec (take l.s.held l.s.line)) l.piece l.initial.out l.place l.out l.exec l.line l.held l.at l.i

abbrev pub decreases-loop-i : goal.decreases-loop-i
decreases-loop-i l = length l.piece - l.i
