-- LINES THAT ARE LOOKED FOR, and the single tests by which a line or a task breaks a rule over the whole file.
use Rattle.std.specs.Prelude.{ℕ, zero, suc, ◌+◌, ◌-◌, Bool, cond, not, ◌&&◌, ◌||◌, List, [], ◌∷◌, eqb, leb, length, get_or, Option, None, Some}
use Rattle.laws.specs.All.{all}
use Rattle.text.specs.Split.{split, part}
use Rattle.rig_tables.specs.Tests.{climb}
use Rattle.rig_lines.specs.Line.{Line}
use Rattle.rig_lines.specs.File.{lines_in}
use Rattle.rig_lines.specs.Kind.{kind_number}
use Rattle.rig_suspects.specs.declared.Key as declared

-- the lines from a place of the file on
unfoldable pub lines_from : List ℕ → ℕ → List Line
lines_from s at = lines_in (split 10 (part at (length s) s))

-- ---- looking for a line

abbrev pub number_of : Line → ℕ → ℕ
number_of r i = get_or r.nums i 0

-- what a line must be to be the one that is looked for: of this kind, with number i equal to x and number j equal to y
pub record Key : Type 0 where
  pub kind : ℕ
  pub i : ℕ
  pub x : ℕ
  pub j : ℕ
  pub y : ℕ

-- a key of the code
abbrev pub key_of : declared.Key → Key
key_of k = record { kind = kind_number k.kind; i = k.i; x = k.x; j = k.j; y = k.y }

-- a line is of the key's kind and has its two numbers
unfoldable pub fits_key : Key → Line → Bool
fits_key k r = eqb r.kind k.kind && (eqb (number_of r k.i) k.x && eqb (number_of r k.j) k.y)

-- number m of the first line that fits, 0 where there is none
unfoldable pub look_in : Key → ℕ → List Line → ℕ
look_in k m [] = 0
look_in k m (r ∷ rs) = cond (fits_key k r) (number_of r m) (look_in k m rs)

-- the kinds' numbers (rig_lines/Kinds)
abbrev pub rig_line : ℕ
rig_line = 1

abbrev pub t_line : ℕ
t_line = 2

abbrev pub c_line : ℕ
c_line = 3

abbrev pub a_line : ℕ
a_line = 4

-- the T line of a task; a T line with an activation flag; an A line of a condition
abbrev pub task_key : ℕ → Key
task_key t = record { kind = t_line; i = 0; x = t; j = 0; y = t }

abbrev pub flag_key : ℕ → Key
flag_key f = record { kind = t_line; i = 4; x = f; j = 4; y = f }

abbrev pub condition_key : ℕ → ℕ → Key
condition_key t p = record { kind = a_line; i = 0; x = t; j = 1; y = p }

abbrev pub rig_key : Key
rig_key = record { kind = rig_line; i = 0; x = 1; j = 0; y = 1 }

-- ---- single tests of a line

-- "task 1 has controller 0; every other controller is the previous task or one of that task's ancestors"
abbrev pub controller_in : List Line → ℕ → ℕ
controller_in rs t = look_in (task_key t) 1 rs

unfoldable pub stray_from : List Line → ℕ → ℕ → Bool
stray_from rs t c = cond (leb t 1) (not (eqb c 0)) (eqb c 0 || not (eqb (climb (controller_in rs) c 64 (t - 1)) c))

unfoldable pub stray : List Line → Line → Bool
stray rs r = eqb r.kind t_line && stray_from rs (number_of r 0) (number_of r 1)

-- "An activation flag serves one task": one of the lines behind has it too
unfoldable pub shared : Line → List Line → Bool
shared r behind = eqb r.kind t_line && (not (eqb (number_of r 4) 0) && eqb (look_in (flag_key (number_of r 4)) 4 behind) (number_of r 4))

-- "each condition has at least one A"
unfoldable pub unused : List Line → Line → Bool
unused rs r = eqb r.kind c_line && eqb (look_in (condition_key (number_of r 0) (number_of r 1)) 0 rs) 0

-- ---- the lowest task without a T line

-- "each task has its T line": the lowest that has none, 0 for none
unfoldable pub task_count_of : List Line → ℕ
task_count_of rs = look_in rig_key 1 rs

abbrev pub has_t_line : List Line → ℕ → Bool
has_t_line rs i = eqb (look_in (task_key (i + 1)) 0 rs) (i + 1)

-- the lowest place below n at which a test fails, counted from 1; 0 for none
unfoldable pub lowest_false : ℕ → (ℕ → Bool) → ℕ
lowest_false zero test = 0
lowest_false (suc n) test = cond (all n test) (cond (test n) 0 (suc n)) (lowest_false n test)

unfoldable pub task_missing : List Line → ℕ
task_missing rs = lowest_false (task_count_of rs) (has_t_line rs)

-- what is counted from 1: 0 is none
unfoldable pub counted : ℕ → Option ℕ
counted zero = None
counted (suc n) = Some (suc n)
