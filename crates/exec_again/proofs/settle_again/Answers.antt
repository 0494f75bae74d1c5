use native.Mathlib.Omega.{arith}
use Rattle.exec_serving.specs.Done.{done_with}
use Rattle.exec_outcome.specs.Outcome.{accepted_with}
use Rattle.exec_outcome.specs.Laws.Settling.{empty_cycle}
use Rattle.exec_again.specs.Laws.Again.{Small, again_settles, again_small, again_is}
use Rattle.exec_again.proofs.settle_again.Goals as goal

pub settle-o-requires : goal.settle-o-requires
settle-o-requires c =
    let a = c.args in
    let d = c.serve-d in
    let x = c.tested-queued in
    again_settles a.rig.now empty_cycle (record { st = a.st.now; queue = a.queue }) (done_with d.new.st d.result) (d.ensures a.rig.now) a.t c.requires
    (record { st = x.new.st; queue = x.result }) x.ensures

pub overflow_add-result : goal.overflow_add-result
overflow_add-result c =
    let a = c.args in
    let d = c.serve-d in
    let x = c.tested-queued in
    let o = c.settle-o in
    let s = again_small a.rig.now empty_cycle (record { st = a.st.now; queue = a.queue }) (done_with d.new.st d.result) (d.ensures a.rig.now) a.t c.requires
    (record { st = x.new.st; queue = x.result }) x.ensures (accepted_with o.new.st o.result) o.ensures in
    omega (arith, s.served, s.woken, s.activated, s.words)

pub overflow_add-result-2 : goal.overflow_add-result-2
overflow_add-result-2 c =
    let a = c.args in
    let d = c.serve-d in
    let x = c.tested-queued in
    let o = c.settle-o in
    let s = again_small a.rig.now empty_cycle (record { st = a.st.now; queue = a.queue }) (done_with d.new.st d.result) (d.ensures a.rig.now) a.t c.requires
    (record { st = x.new.st; queue = x.result }) x.ensures (accepted_with o.new.st o.result) o.ensures in
    omega (arith, s.served, s.woken, s.activated, s.words)

pub overflow_add-result-3 : goal.overflow_add-result-3
overflow_add-result-3 c =
    let a = c.args in
    let d = c.serve-d in
    let x = c.tested-queued in
    let o = c.settle-o in
    let s = again_small a.rig.now empty_cycle (record { st = a.st.now; queue = a.queue }) (done_with d.new.st d.result) (d.ensures a.rig.now) a.t c.requires
    (record { st = x.new.st; queue = x.result }) x.ensures (accepted_with o.new.st o.result) o.ensures in
    omega (arith, s.served, s.woken, s.activated, s.words)

pub returns : goal.returns
returns c =
    let a = c.args in
    let d = c.serve-d in
    let x = c.tested-queued in
    let o = c.settle-o in
    again_is a.rig.now empty_cycle (record { st = a.st.now; queue = a.queue }) (done_with d.new.st d.result) (d.ensures a.rig.now) a.t c.requires
    (record { st = x.new.st; queue = x.result }) x.ensures (accepted_with o.new.st o.result) o.ensures
