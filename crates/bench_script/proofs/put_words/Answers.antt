use mathlib.Core.Path.{subst}
use mathlib.Core.List.{[], ◌∷◌}
use Prim.Native.Nat.{ℕ}
use native.Mathlib.Omega.{arith}
use Rattle.bench_script.specs.Output.{fields_text}
use Rattle.put_text.specs.Wrote.{Wrote}
use Rattle.bench_script.specs.Laws.Written.{listing_start, listing_room, listing_step, listing_end}
use Rattle.bench_script.proofs.put_words.Goals as goal

pub loop-w-init : goal.loop-w-init
loop-w-init c = (listing_start c.args.out.now c.args.at c.args.words.now c.requires, omega arith)

pub put_field-p-requires : goal.put_field-p-requires
put_field-p-requires c =
    let s = c in
    let l = c.loop-w in
    listing_room s.args.out.now s.args.at s.args.words.now l.out l.p l.w-index l.invariant.0 c.loop-w-test.true

pub loop-w-preserved : goal.loop-w-preserved
loop-w-preserved c =
    let s = c in
    let l = c.loop-w in
    let u = c.put_field-p in (
      listing_step s.args.out.now s.args.at s.args.words.now l.out l.p l.w-index l.invariant.0 c.loop-w-test.true u.new.out u.result
          u.ensures,
      omega arith,
    )

pub shape_of-out : goal.shape_of-out
shape_of-out c = c.loop-w.invariant.0.wrote.size

pub returns : goal.returns
returns c =
    let s = c in
    let l = c.loop-w in
    listing_end s.args.out.now s.args.at s.args.words.now l.out l.p l.w-index l.invariant.0 c.loop-w-test.false
