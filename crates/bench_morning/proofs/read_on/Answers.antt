use Prim.Native.Nat.{◌≤◌}
use mathlib.Core.Path.{refl}
use native.Mathlib.Omega.{arith}
use lib.ListN.{length, length-take}
use Rattle.bench_morning.specs.Laws.Open.{opens_on, opens_whole}
use Rattle.bench_morning.proofs.read_on.Goals as goal

pub slice_bounds-start-end : goal.slice_bounds-start-end
slice_bounds-start-end c =
    let inside : c.scan-c.result.from ≤ length c.scan-c.new.keep = (let w = c.scan-c.ensures in let s = c in let a = w.inside.0 in let b = w.inside.1 in let z = w.wrote.size in let f = s.requires.2.0 in omega arith) in
    inside

pub slice_bounds-start-end-then-c : goal.slice_bounds-start-end-then-c
slice_bounds-start-end-then-c c =
    let inside : c.scan-c.result.from ≤ length c.scan-c.new.keep = (let w = c.scan-c.ensures in let s = c in let a = w.inside.0 in let b = w.inside.1 in let z = w.wrote.size in let f = s.requires.2.0 in omega arith) in
    let k = c.scan-c in
    let h = inside in
    let l = length-take k.result.from k.new.keep in
    omega arith

pub returns-then-c : goal.returns-then-c
returns-then-c c =
    let s = c in
    let k = c.scan-c in
    let o = c.start-o in
    opens_whole s.args.s s.args.keep.now s.args.piece.now s.args.out.now s.requires.1 k.result k.new.keep k.ensures c.if-c.true o.result o.new.out o.ensures

pub returns : goal.returns
returns c =
    let s = c in
    let k = c.scan-c in
    opens_on s.args.s s.args.keep.now s.args.piece.now s.args.out.now s.requires.1 k.result k.new.keep k.ensures c.if-c.false s.requires.2.0 _ refl
