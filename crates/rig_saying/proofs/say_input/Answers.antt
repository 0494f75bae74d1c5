use native.Mathlib.Omega.{arith}
use Rattle.text.specs.Split.{part}
use Rattle.bench_script.specs.Laws.Input.{end_le}
use Rattle.rig_saying.specs.Laws.{said_fits, said_part}
use Rattle.rig_saying.proofs.say_input.Goals as goal

pub slice_bounds-say-end : goal.slice_bounds-say-end
slice_bounds-say-end c =
    let e = c.rig_end-end.ensures in
    let k = end_le c.args.input.now in
    omega (arith, e, k)

pub returns : goal.returns
unfolding part
returns c =
    let i = c.args.input.now in
    let w = c.say in
    record { said = said_part i _ _ _ _ c.rig_end-end.ensures w.ensures; counts_of = said_fits _ _ _ _ w.ensures }
