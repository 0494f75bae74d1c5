-- It calls itself on the number without its last digit, as `dec` is defined.
use Rattle.std.proofs.Common.{arith}
use Rattle.decimal.specs.Write.{write_small, tens_room, write_tens}
use Rattle.decimal.proofs.+put_number.Goals as goal

pub bounds-buf-at : goal.bounds-buf-at
bounds-buf-at t c = (write_small c.args.buf.now c.args.at c.args.n c.requires.1 c.if-n-lt10.true).0

pub returns-then-n-lt10 : goal.returns-then-n-lt10
returns-then-n-lt10 t c = (write_small c.args.buf.now c.args.at c.args.n c.requires.1 c.if-n-lt10.true).1

pub put_number-p-requires : goal.put_number-p-requires
put_number-p-requires t c =
    let r = tens_room c.args.buf.now c.args.at c.args.n c.requires.1 c.if-n-lt10.false c.requires.0 in
    (omega arith, (omega arith, omega arith))

pub bounds-buf-p : goal.bounds-buf-p
bounds-buf-p t c =
    let r = tens_room c.args.buf.now c.args.at c.args.n c.requires.1 c.if-n-lt10.false c.requires.0 in
    omega (arith, r, c.put_number-p.ensures.place, c.put_number-p.ensures.size)

pub overflow_add-result-2 : goal.overflow_add-result-2
overflow_add-result-2 t c =
    let r = tens_room c.args.buf.now c.args.at c.args.n c.requires.1 c.if-n-lt10.false c.requires.0 in
    omega (arith, r, c.put_number-p.ensures.place)

pub returns : goal.returns
returns t c =
    write_tens c.args.buf.now c.args.at c.args.n c.requires.1 c.if-n-lt10.false c.requires.0 c.put_number-p.new.buf
    c.put_number-p.result c.put_number-p.ensures
