-- THE RULES OVER THE WHOLE FILE THAT ONLY ITS LINES SHOW, and the rig does not: as tests, and in the paper's words. The tests hold exactly when
-- the words do: `line_rules` (Laws/Whole).
use Rattle.std.specs.Prelude.{ℕ, suc, ◌≤◌, ◌<◌, ◌≡◌, ◌⊎◌, Bool, true, cond, ◌&&◌, List, [], ◌∷◌, leb, ltb, eqb, get_or}
use Rattle.laws.specs.All.{all}
use Rattle.rig_lines.specs.Kinds.{kind_t, kind_a, kind_m, kind_b, count_of, sort_of, names_task, names_flag, under}
use Rattle.rig_lines.specs.Line.{Line}

-- number f of a line, from 0; 0 behind the last
abbrev pub number_of : ℕ → Line → ℕ
number_of f r = get_or r.nums f 0

abbrev pub is_kind : ℕ → Line → Bool
is_kind k r = eqb r.kind k

-- the T line of task t; an M line of cycle c
abbrev pub is_task_line : ℕ → Line → Bool
is_task_line t r = is_kind kind_t r && eqb (number_of 0 r) t

abbrev pub is_flag_line : ℕ → Line → Bool
is_flag_line c r = is_kind kind_m r && eqb (number_of 0 r) c

-- how many lines pass a test; whether each does
unfoldable pub how_many : (Line → Bool) → List Line → ℕ
how_many is [] = 0
how_many is (r ∷ rs) = cond (is r) (suc (how_many is rs)) (how_many is rs)

unfoldable pub every : (Line → Bool) → List Line → Bool
every is [] = true
every is (r ∷ rs) = is r && every is rs

-- the RIG line, which is the first: its tasks, flags and master
unfoldable pub tasks_of : List Line → ℕ
tasks_of [] = 0
tasks_of (r ∷ rs) = number_of 1 r

unfoldable pub flags_of : List Line → ℕ
flags_of [] = 0
flags_of (r ∷ rs) = number_of 2 r

unfoldable pub master_of : List Line → ℕ
master_of [] = 0
master_of (r ∷ rs) = number_of 3 r

-- ---- as tests, in the order of the rules' numbers

abbrev pub number_under : ℕ → ℕ → Line → ℕ → Bool
number_under tasks flags r f = under tasks flags r.kind f (number_of f r)

abbrev pub line_under : ℕ → ℕ → Line → Bool
line_under tasks flags r = all (count_of r.kind) (number_under tasks flags r)

abbrev pub has_task : List Line → ℕ → Bool
has_task rs i = ltb 0 (how_many (is_task_line (suc i)) rs)

abbrev pub few_flags : List Line → ℕ → Bool
few_flags rs c = leb (how_many (is_flag_line c) rs) 15

unfoldable pub line_tests : List Line → List Bool
line_tests rs =
    every (line_under (tasks_of rs) (flags_of rs)) rs ∷
    leb (how_many (is_kind kind_a) rs) 1024 ∷
    leb (how_many (is_kind kind_b) rs) 64 ∷
    all (tasks_of rs) (has_task rs) ∷
    all 64 (few_flags rs) ∷
    []

-- ---- in words

-- of each line, of some line of a file
abbrev pub EachLine : (Line → Type 0) → List Line → Type 0
EachLine P [] = Unit {0}
EachLine P (r ∷ rs) = P r × EachLine P rs

abbrev pub SomeLine : (Line → Type 0) → List Line → Type 0
SomeLine P [] = ⊥
SomeLine P (r ∷ rs) = P r ⊎ SomeLine P rs

-- "no task or flag number is above the RIG line's": of the numbers of a line that name a task, and of those that name a flag
pub record NoneAbove (tasks flags : ℕ) (r : Line) : Type 0 where
  pub task : (f : ℕ) → f < count_of r.kind → sort_of r.kind f ≡ names_task → number_of f r ≤ tasks
  pub flag : (f : ℕ) → f < count_of r.kind → sort_of r.kind f ≡ names_flag → number_of f r ≤ flags

pub record LineRules (rs : List Line) : Type 0 where
  -- "no task or flag number is above the RIG line's"
  pub none_above : EachLine (NoneAbove (tasks_of rs) (flags_of rs)) rs
  -- "at most 1,024 A and 64 B lines"
  pub lines : how_many (is_kind kind_a) rs ≤ 1024
  pub rows : how_many (is_kind kind_b) rs ≤ 64
  -- "each task has its T line"
  pub tasks : (t : ℕ) → 1 ≤ t → t ≤ tasks_of rs → SomeLine (λ r. (r.kind ≡ kind_t) × (number_of 0 r ≡ t)) rs
  -- "Flags on M lines are minor-cycle flags, at most 15 a cycle"
  pub flags : (c : ℕ) → c < 64 → how_many (is_flag_line c) rs ≤ 15
