use Rattle.std.specs.Prelude.{◌≡◌, true}
use Rattle.laws.specs.All.{all}
use Rattle.rig_marks.specs.Marks.{few_one}
use Rattle.rig_marks.proofs.few_flags.Given as goal

abbrev pub invariant-loop-c : goal.invariant-loop-c
invariant-loop-c l = all l.c (few_one l.many) ≡ true
