-- The file is written part by part.
-- Assumes nothing.
use Rattle.std.specs.Prelude.{ℕ, ◌+◌, ◌≤◌, ◌≡◌, List, ◌++◌, length}
use Rattle.std.proofs.Common.{ap, append_assoc, arith, length-append}
use Rattle.put_text.specs.Wrote.{Wrote}
use Rattle.put_text.specs.Laws.Wrote.{wrote_then}
use Rattle.rig.specs.declared.Rig.{Rig}
use Rattle.rig_write.specs.Kept.{kept, ended}
use Rattle.rig_write.specs.Laws.Kept.{text_append}
use Rattle.rig_lines.specs.Text.{text}
use Rattle.rig_write.specs.File.{rig_line, is_task, task_line, is_condition, condition_line, is_line, flag_line, is_flag, cycle_line, is_row, row_line, lines_from, file_of}

-- the parts of the file, one behind the other
abbrev pub tasks_text : Rig → List ℕ
tasks_text g = text (kept 65 (is_task g) (task_line g))

abbrev pub conditions_text : Rig → List ℕ
conditions_text g = text (kept 1040 (is_condition g) (condition_line g))

abbrev pub lines_text : Rig → List ℕ
lines_text g = text (kept 1024 (is_line g) (flag_line g))

abbrev pub cycles_text : List (List ℕ) → List ℕ
cycles_text table = text (kept 960 (is_flag table) (cycle_line table))

abbrev pub rows_text : Rig → List ℕ
rows_text g = text (kept 64 (is_row g) (row_line g))

-- what stands from each part on
abbrev pub from_cycles : Rig → List (List ℕ) → List ℕ
from_cycles g table = cycles_text table ++ rows_text g

abbrev pub from_lines : Rig → List (List ℕ) → List ℕ
from_lines g table = lines_text g ++ from_cycles g table

abbrev pub from_conditions : Rig → List (List ℕ) → List ℕ
from_conditions g table = conditions_text g ++ from_lines g table

abbrev pub from_tasks : Rig → List (List ℕ) → List ℕ
from_tasks g table = tasks_text g ++ from_conditions g table

pub file_parts : (g : Rig) (table : List (List ℕ)) → ended (rig_line g) ++ from_tasks g table ≡ file_of g table
unfolding file_of lines_from text
file_parts g table = simp (text_append, append_assoc)

pub file_room : (n : ℕ) (g : Rig) (table : List (List ℕ)) → length (file_of g table) ≤ n → 0 + length (ended (rig_line g) ++ from_tasks g table) ≤ n
file_room n g table h = let e = ap length (file_parts g table) in omega arith

-- a part is written where there is room for it and for the rest; then the rest has its room behind it
module _ (l : List ℕ) (at : ℕ) (a rest : List ℕ) (h : at + length (a ++ rest) ≤ length l) where
  pub part_room : at + length a ≤ length l
  part_room = let k = length-append a rest in omega arith

  module _ (m : List ℕ) (p : ℕ) (u : Wrote l at a m p) where
    pub rest_room : p + length rest ≤ length m
    rest_room = let k = length-append a rest in let e = u.place in let s = u.size in omega arith

    pub with_rest : (o : List ℕ) (q : ℕ) → Wrote m p rest o q → Wrote l at (a ++ rest) o q
    with_rest o q w = let k = length-append a rest in wrote_then l m o a rest at p q (omega arith) u w
