use native.Mathlib.Omega.{arith}
use Rattle.bench_script.specs.Laws.Written.{dec_length}
use Rattle.rig_phrases.specs.Writing.{number_wrote, number_left}
use Rattle.rig_phrases.proofs.put_number.Goals as goal

pub put_number-requires : goal.put_number-requires
put_number-requires c =
    let d = dec_length c.args.n in
    (c.if-n-lt-CAP.true, omega (arith, d, c.requires))

pub returns-then-n-lt-CAP : goal.returns-then-n-lt-CAP
returns-then-n-lt-CAP c =
    let a = c.args in
    let w = c.put_number in
    number_wrote _ _ _ a.n _ c.if-n-lt-CAP.true w.ensures

pub returns : goal.returns
returns c = number_left c.args.out.now c.args.at c.args.n c.if-n-lt-CAP.false
