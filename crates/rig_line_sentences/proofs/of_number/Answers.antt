use mathlib.Core.Path.{◌∙◌}
use native.Mathlib.Omega.{arith}
use Rattle.rig_line_sentences.specs.Laws.Sentences.{no_other_shape}
use Rattle.rig_line_sentences.specs.Sentences.{shape_sentence}
use Rattle.rig_line_sentences.proofs.of_number.Goals as goal

pub returns-in_default : goal.returns-in_default
unfolding shape_sentence
returns-in_default c = c.of_shape-in_default.ensures ∙ no_other_shape c.args.reason (omega arith) (omega arith) (omega arith) (omega arith) (omega arith) (omega arith) (omega arith) (omega arith) (omega arith) (omega arith)
