use native.Mathlib.Omega.{arith}
use Rattle.rig_build.specs.Laws.Answers.{nine}
use borrow.Author.Rules.{rules}
use Rattle.rig_build.proofs.bytes_of.Goals as goal

pub overflow_cast-result : goal.overflow_cast-result
overflow_cast-result c = omega (arith, c.requires 0)

pub overflow_cast-result-2 : goal.overflow_cast-result-2
overflow_cast-result-2 c = omega (arith, c.requires 1)

pub overflow_cast-result-3 : goal.overflow_cast-result-3
overflow_cast-result-3 c = omega (arith, c.requires 2)

pub overflow_cast-result-4 : goal.overflow_cast-result-4
overflow_cast-result-4 c = omega (arith, c.requires 3)

pub overflow_cast-result-5 : goal.overflow_cast-result-5
overflow_cast-result-5 c = omega (arith, c.requires 4)

pub overflow_cast-result-6 : goal.overflow_cast-result-6
overflow_cast-result-6 c = omega (arith, c.requires 5)

pub overflow_cast-result-7 : goal.overflow_cast-result-7
overflow_cast-result-7 c = omega (arith, c.requires 6)

pub overflow_cast-result-8 : goal.overflow_cast-result-8
overflow_cast-result-8 c = omega (arith, c.requires 7)

pub overflow_cast-result-9 : goal.overflow_cast-result-9
overflow_cast-result-9 c = omega (arith, c.requires 8)

pub returns : goal.returns
returns c = nine _ (search rules)
