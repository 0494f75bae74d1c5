use native.Mathlib.Omega.{arith}
use lib.ListN.{length-set}
use Rattle.bench_script.specs.Laws.Written.{dec_length, field_wrote}
use borrow.Author.Rules.{rules}
use Rattle.bench_script.proofs.put_field.Goals as goal

pub put_number-requires : goal.put_number-requires
put_number-requires c =
    let s = c in
    let l = length-set s.args.out.now s.args.at 9 in
    let d = dec_length s.args.n in
    (search rules, omega arith)

pub shape_of-out : goal.shape_of-out
shape_of-out c =
    let s = c in
    let p = c.put_number in
    (field_wrote s.args.out.now p.new.buf s.args.at s.args.n p.result s.requires p.ensures).size

pub returns : goal.returns
returns c =
    let s = c in
    let p = c.put_number in
    field_wrote s.args.out.now p.new.buf s.args.at s.args.n p.result s.requires p.ensures
