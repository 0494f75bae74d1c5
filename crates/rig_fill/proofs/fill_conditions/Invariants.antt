use Rattle.std.specs.Prelude.{◌≡◌, take}
use Rattle.rig_held.specs.Held.{held}
use Rattle.rig_lines.specs.Kinds.{kind_c}
use Rattle.rig_lines.specs.Whole.{number_of, is_kind}
use Rattle.rig_fill.specs.OfLines.{stored, one, condition_place}
use Rattle.rig_fill.proofs.fill_conditions.Given as goal

abbrev pub invariant-loop-line : goal.invariant-loop-line
invariant-loop-line l = (l.present ≡ stored (is_kind kind_c) condition_place one l.initial.present (held (take l.line-index l.lines))) × (l.latched ≡ stored (is_kind kind_c) condition_place (number_of 2) l.initial.latched (held (take l.line-index l.lines))) × (l.desired ≡ stored (is_kind kind_c) condition_place (number_of 3) l.initial.desired (held (take l.line-index l.lines)))
