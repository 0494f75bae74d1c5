use Rattle.refusal_texts.specs.Laws.Texts.{given_written, given_narrow}
use Rattle.refusal_texts.proofs.give.Goals as goal

pub returns-then-n-out : goal.returns-then-n-out
returns-then-n-out c =
    let w = c.put_text-p in
    given_written c.args.text.now c.args.out.now _ w.result c.if-n-out.true w.ensures.place w.ensures.text

pub returns-else-n-out : goal.returns-else-n-out
returns-else-n-out c = given_narrow c.args.text.now c.args.out.now c.if-n-out.false
