-- A file's lines as they build a rig one after the other, with marks of what only the lines show: a way to prove what a file's rig is, line by line.
-- No contract speaks of it. What it builds is the rig of the lines (Bridge).
-- Assumes nothing.
use Rattle.std.specs.Prelude.{ℕ, ◌+◌, Bool, cond, List, [], ◌∷◌, ltb, eqb, get_or, set, replicate}
use Rattle.laws.specs.All.{all}
use Rattle.rig.specs.declared.Row.{Row}
use Rattle.rig.specs.declared.Rig.{Rig}
use Rattle.rig_tables.specs.Tests.{place}
use Rattle.rig.specs.Forms.{no_rig}
use Rattle.rig_lines.specs.Kinds.{count_of, under}
use Rattle.rig_lines.specs.Line.{Line}
use Rattle.rig_fill.specs.OfLines.{zeros}

-- 1 where a number was above the RIG line's, where there were more than 1,024 A lines, more than 64 B lines, and more than fifteen flags of a cycle;
-- 1 at each task that has a T line; and how many flags each cycle has so far, up to fifteen
pub record Marks : Type 0 where
  pub above : ℕ
  pub lines : ℕ
  pub rows : ℕ
  pub crowded : ℕ
  pub tline : List ℕ
  pub inside : List ℕ

pub record Built : Type 0 where
  pub rig : Rig
  pub table : List (List ℕ)
  pub marks : Marks

-- the i-th number of a line; 0 behind the last
abbrev pub numbers : List ℕ → ℕ → ℕ
numbers ns i = get_or ns i 0

unfoldable pub no_marks : Marks
no_marks = record { above = 0; lines = 0; rows = 0; crowded = 0; tline = zeros 65; inside = zeros 64 }

unfoldable pub no_table : List (List ℕ)
no_table = replicate 64 (zeros 15)

unfoldable pub nothing : Built
nothing = record { rig = no_rig; table = no_table; marks = no_marks }

-- RIG, edition, tasks, flags, master's bus address
abbrev pub with_counts : Rig → (ℕ → ℕ) → Rig
with_counts g v =
    record {
      tasks = v 1;
      flags = v 2;
      master = v 3;
      lines = g.lines;
      rows = g.rows;
      controller = g.controller;
      priority = g.priority;
      privileged = g.privileged;
      activation = g.activation;
      present = g.present;
      latched = g.latched;
      desired = g.desired;
      line_task = g.line_task;
      line_pos = g.line_pos;
      line_flag = g.line_flag;
      row = g.row;
    }

-- T, task, controller, priority, privileged, activation flag
abbrev pub with_task : Rig → ℕ → (ℕ → ℕ) → Rig
with_task g t v =
    record {
      tasks = g.tasks;
      flags = g.flags;
      master = g.master;
      lines = g.lines;
      rows = g.rows;
      controller = set g.controller t (v 1);
      priority = set g.priority t (v 2);
      privileged = set g.privileged t (v 3);
      activation = set g.activation t (v 4);
      present = g.present;
      latched = g.latched;
      desired = g.desired;
      line_task = g.line_task;
      line_pos = g.line_pos;
      line_flag = g.line_flag;
      row = g.row;
    }

-- C, task, position, latched, desired
abbrev pub with_condition : Rig → ℕ → (ℕ → ℕ) → Rig
with_condition g p v =
    record {
      tasks = g.tasks;
      flags = g.flags;
      master = g.master;
      lines = g.lines;
      rows = g.rows;
      controller = g.controller;
      priority = g.priority;
      privileged = g.privileged;
      activation = g.activation;
      present = set g.present p 1;
      latched = set g.latched p (v 2);
      desired = set g.desired p (v 3);
      line_task = g.line_task;
      line_pos = g.line_pos;
      line_flag = g.line_flag;
      row = g.row;
    }

-- A, task, position, flag: behind those before it
abbrev pub with_line : Rig → ℕ → (ℕ → ℕ) → Rig
with_line g i v =
    record {
      tasks = g.tasks;
      flags = g.flags;
      master = g.master;
      lines = g.lines + 1;
      rows = g.rows;
      controller = g.controller;
      priority = g.priority;
      privileged = g.privileged;
      activation = g.activation;
      present = g.present;
      latched = g.latched;
      desired = g.desired;
      line_task = set g.line_task i (v 0);
      line_pos = set g.line_pos i (v 1);
      line_flag = set g.line_flag i (v 2);
      row = g.row;
    }

-- B, sender, its sub-address, receiver, its sub-address, words, period, phase: behind those before it
unfoldable pub row_of : (ℕ → ℕ) → Row
row_of v =
    record {
      sender = v 0;
      sender_sub = v 1;
      receiver = v 2;
      receiver_sub = v 3;
      words = v 4;
      period = v 5;
      phase = v 6;
    }

abbrev pub with_row : Rig → ℕ → Row → Rig
with_row g i b =
    record {
      tasks = g.tasks;
      flags = g.flags;
      master = g.master;
      lines = g.lines;
      rows = g.rows + 1;
      controller = g.controller;
      priority = g.priority;
      privileged = g.privileged;
      activation = g.activation;
      present = g.present;
      latched = g.latched;
      desired = g.desired;
      line_task = g.line_task;
      line_pos = g.line_pos;
      line_flag = g.line_flag;
      row = set g.row i b;
    }

-- a mark of a number above the RIG line's, after a line of kind k
abbrev pub under_one : ℕ → ℕ → ℕ → (ℕ → ℕ) → ℕ → Bool
under_one tasks flags k v i = under tasks flags k i (v i)

unfoldable pub above_after : ℕ → ℕ → ℕ → (ℕ → ℕ) → ℕ → ℕ → ℕ
above_after old k m v tasks flags = cond (all m (under_one tasks flags k v)) old 1

abbrev pub with_above : Marks → ℕ → Marks
with_above k a = record { above = a; lines = k.lines; rows = k.rows; crowded = k.crowded; tline = k.tline; inside = k.inside }

abbrev pub has_line : Marks → ℕ → Marks
has_line k t = record { above = k.above; lines = k.lines; rows = k.rows; crowded = k.crowded; tline = set k.tline t 1; inside = k.inside }

abbrev pub many_lines : Marks → Marks
many_lines k = record { above = k.above; lines = 1; rows = k.rows; crowded = k.crowded; tline = k.tline; inside = k.inside }

abbrev pub many_rows : Marks → Marks
many_rows k = record { above = k.above; lines = k.lines; rows = 1; crowded = k.crowded; tline = k.tline; inside = k.inside }

abbrev pub many_flags : Marks → Marks
many_flags k = record { above = k.above; lines = k.lines; rows = k.rows; crowded = 1; tline = k.tline; inside = k.inside }

abbrev pub one_flag : Marks → ℕ → ℕ → Marks
one_flag k c n = record { above = k.above; lines = k.lines; rows = k.rows; crowded = k.crowded; tline = k.tline; inside = set k.inside c (n + 1) }

abbrev pub built : Rig → List (List ℕ) → Marks → Built
built g t k = record { rig = g; table = t; marks = k }

-- M, cycle, flag: behind the cycle's flags before it, where there is room
abbrev pub put_flag : List (List ℕ) → ℕ → ℕ → ℕ → List (List ℕ)
put_flag t c n f = set t c (set (get_or t c []) n f)

-- each kind's part, with the marks as they are then
abbrev pub on_task : Rig → List (List ℕ) → Marks → (ℕ → ℕ) → Built
on_task g t k v = built (with_task g (v 0) v) t (has_line k (v 0))

abbrev pub on_line : Rig → List (List ℕ) → Marks → (ℕ → ℕ) → Built
on_line g t k v = cond (ltb g.lines 1024) (built (with_line g g.lines v) t k) (built g t (many_lines k))

abbrev pub on_flag : Rig → List (List ℕ) → Marks → (ℕ → ℕ) → Built
on_flag g t k v =
    cond (ltb (get_or k.inside (v 0) 0) 15)
    (built g (put_flag t (v 0) (get_or k.inside (v 0) 0) (v 1)) (one_flag k (v 0) (get_or k.inside (v 0) 0)))
    (built g t (many_flags k))

abbrev pub on_row : Rig → List (List ℕ) → Marks → (ℕ → ℕ) → Built
on_row g t k v = cond (ltb g.rows 64) (built (with_row g g.rows (row_of v)) t k) (built g t (many_rows k))

unfoldable pub by_kind : ℕ → Rig → List (List ℕ) → Marks → (ℕ → ℕ) → Built
by_kind k g t m v =
    cond (eqb k 1) (built (with_counts g v) t m)
    (cond (eqb k 2) (on_task g t m v)
    (cond (eqb k 3) (built (with_condition g (place (v 0) (v 1)) v) t m)
    (cond (eqb k 4) (on_line g t m v)
    (cond (eqb k 5) (on_flag g t m v) (on_row g t m v)))))

-- what one line more does
unfoldable pub store : Built → ℕ → (ℕ → ℕ) → Built
store b k v =
    by_kind k b.rig b.table (with_above b.marks (above_after b.marks.above k (count_of k) v b.rig.tasks b.rig.flags)) v

unfoldable pub build : Built → List Line → Built
build b [] = b
build b (r ∷ rs) = build (store b r.kind (numbers r.nums)) rs
