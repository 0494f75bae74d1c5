use Rattle.std.specs.Prelude.{◌≡◌, ◌≤◌, length, take, replicate}
use Rattle.rig_held.specs.Held.{held}
use Rattle.rig.specs.Rules.{no_row}
use Rattle.rig_lines.specs.Kinds.{kind_b}
use Rattle.rig_lines.specs.Whole.{is_kind, how_many}
use Rattle.rig_fill.specs.OfLines.{listed, row_said}
use Rattle.rig_filled.proofs.rows_from.Given as goal

abbrev pub invariant-loop-line : goal.invariant-loop-line
invariant-loop-line l = (l.c ≤ l.line-index) × (l.c ≡ how_many (is_kind kind_b) (held (take l.line-index l.lines))) × (length l.row ≡ 64) × (l.row ≡ listed (is_kind kind_b) row_said 0 (replicate 64 no_row) (held (take l.line-index l.lines)))
