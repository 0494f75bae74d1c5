use native.Mathlib.Omega.{arith}
use Rattle.refusal_texts.specs.Laws.Texts.{of_text, no_other}
use Rattle.refusal_texts.proofs.refusal_text.Goals as goal

pub returns-in_default : goal.returns-in_default
returns-in_default c =
    let n = c.args.number in
    of_text _ _ _ _ _ (no_other n (omega arith) (omega arith) (omega arith) (omega arith) (omega arith) (omega arith) (omega arith) (omega arith) (omega arith) (omega arith) (omega arith) (omega arith) (omega arith)) c.give-in_default.ensures
