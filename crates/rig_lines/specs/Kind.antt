-- The kinds of the code, by their numbers here.
use Rattle.std.specs.Prelude.{ℕ, Option, None, Some}
use Rattle.rig_lines.specs.declared.Kind.{Kind}
use Rattle.rig_lines.specs.declared.Kind.TheVariants.{Rig, Task, Condition, Line, Flag, Row}
use Rattle.rig_lines.specs.declared.Names.{Names}
use Rattle.rig_lines.specs.declared.Names.TheVariants.{Task as NamesTask, Flag as NamesFlag, Other}
use Rattle.rig_lines.specs.Kinds.{kind_rig, kind_t, kind_c, kind_a, kind_m, kind_b, names_task, names_flag}

abbrev pub kind_number : Kind → ℕ
kind_number Rig = kind_rig
kind_number Task = kind_t
kind_number Condition = kind_c
kind_number Line = kind_a
kind_number Flag = kind_m
kind_number Row = kind_b

-- the kind that a name was found to be, 0 for none
abbrev pub kind_report : Option Kind → ℕ
kind_report None = 0
kind_report (Some k) = kind_number k

-- what a number of a line names
abbrev pub names_number : Names → ℕ
names_number NamesTask = names_task
names_number NamesFlag = names_flag
names_number Other = 0
