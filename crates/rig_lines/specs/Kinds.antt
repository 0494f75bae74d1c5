-- The kinds of a rig file's lines: "RIG, edition (always 1), tasks, flags, master's bus address; T, task, controller (0 for none), priority,
-- privileged 0/1, activation flag (0 for none); C, task, position, latched 0/1, desired 0/1; A, task, position, flag; M, cycle 0 to 63, flag;
-- B, sender, its sub-address, receiver, its sub-address, words, period, phase".
-- What an edition of the file fixes is in these tables alone: a kind's row of a table starts at 9 times the kind, since the widest line of any
-- edition has nine numbers.
use Rattle.std.specs.Prelude.{ℕ, ◌+◌, ◌*◌, Bool, true, cond, ◌&&◌, List, [], ◌∷◌, leb, ltb, eqb, get_or}

-- the kinds by their numbers, which are the order of the records; 0 is none
abbrev pub kind_rig : ℕ
kind_rig = 1

abbrev pub kind_t : ℕ
kind_t = 2

abbrev pub kind_c : ℕ
kind_c = 3

abbrev pub kind_a : ℕ
kind_a = 4

abbrev pub kind_m : ℕ
kind_m = 5

abbrev pub kind_b : ℕ
kind_b = 6

-- whether a number is a kind's
abbrev pub is_known : ℕ → Bool
is_known k = ltb 0 k && ltb k 7

-- how many numbers a line of each kind has, in the order of the kinds' numbers: none, RIG, T, C, A, M, B
unfoldable pub counts : List ℕ
counts = 0 ∷ 4 ∷ 5 ∷ 4 ∷ 3 ∷ 2 ∷ 7 ∷ []

-- "each kind rising strictly by its leading numbers (T task; C task and position; A and M all; B lines in row order, free)": how many of them
unfoldable pub keys : List ℕ
keys = 0 ∷ 0 ∷ 1 ∷ 2 ∷ 3 ∷ 2 ∷ 0 ∷ []

-- the least and the greatest value of each number
unfoldable pub lows : List ℕ
lows =
    -- none
    0 ∷ 0 ∷ 0 ∷ 0 ∷ 0 ∷ 0 ∷ 0 ∷ 0 ∷ 0 ∷
    -- RIG: edition, tasks, flags, master
    1 ∷ 1 ∷ 1 ∷ 0 ∷ 0 ∷ 0 ∷ 0 ∷ 0 ∷ 0 ∷
    -- T: task, controller, priority, privileged, activation flag
    1 ∷ 0 ∷ 0 ∷ 0 ∷ 0 ∷ 0 ∷ 0 ∷ 0 ∷ 0 ∷
    -- C: task, position, latched, desired
    1 ∷ 0 ∷ 0 ∷ 0 ∷ 0 ∷ 0 ∷ 0 ∷ 0 ∷ 0 ∷
    -- A: task, position, flag
    1 ∷ 0 ∷ 1 ∷ 0 ∷ 0 ∷ 0 ∷ 0 ∷ 0 ∷ 0 ∷
    -- M: cycle, flag
    0 ∷ 1 ∷ 0 ∷ 0 ∷ 0 ∷ 0 ∷ 0 ∷ 0 ∷ 0 ∷
    -- B: sender, sub-address, receiver, sub-address, words, period, phase
    0 ∷ 1 ∷ 0 ∷ 1 ∷ 1 ∷ 1 ∷ 0 ∷ 0 ∷ 0 ∷ []

unfoldable pub highs : List ℕ
highs =
    -- none
    0 ∷ 0 ∷ 0 ∷ 0 ∷ 0 ∷ 0 ∷ 0 ∷ 0 ∷ 0 ∷
    -- RIG: edition, tasks, flags, master
    1 ∷ 64 ∷ 128 ∷ 31 ∷ 0 ∷ 0 ∷ 0 ∷ 0 ∷ 0 ∷
    -- T: task, controller, priority, privileged, activation flag
    64 ∷ 64 ∷ 255 ∷ 1 ∷ 128 ∷ 0 ∷ 0 ∷ 0 ∷ 0 ∷
    -- C: task, position, latched, desired
    64 ∷ 15 ∷ 1 ∷ 1 ∷ 0 ∷ 0 ∷ 0 ∷ 0 ∷ 0 ∷
    -- A: task, position, flag
    64 ∷ 15 ∷ 128 ∷ 0 ∷ 0 ∷ 0 ∷ 0 ∷ 0 ∷ 0 ∷
    -- M: cycle, flag
    63 ∷ 128 ∷ 0 ∷ 0 ∷ 0 ∷ 0 ∷ 0 ∷ 0 ∷ 0 ∷
    -- B: sender, sub-address, receiver, sub-address, words, period, phase
    31 ∷ 30 ∷ 31 ∷ 30 ∷ 32 ∷ 64 ∷ 63 ∷ 0 ∷ 0 ∷ []

-- what each number names: a task, a flag, or (0) something else
abbrev pub names_task : ℕ
names_task = 1

abbrev pub names_flag : ℕ
names_flag = 2

unfoldable pub sorts : List ℕ
sorts =
    -- none
    0 ∷ 0 ∷ 0 ∷ 0 ∷ 0 ∷ 0 ∷ 0 ∷ 0 ∷ 0 ∷
    -- RIG: edition, tasks, flags, master
    0 ∷ 0 ∷ 0 ∷ 0 ∷ 0 ∷ 0 ∷ 0 ∷ 0 ∷ 0 ∷
    -- T: task, controller, priority, privileged, activation flag
    1 ∷ 1 ∷ 0 ∷ 0 ∷ 2 ∷ 0 ∷ 0 ∷ 0 ∷ 0 ∷
    -- C: task, position, latched, desired
    1 ∷ 0 ∷ 0 ∷ 0 ∷ 0 ∷ 0 ∷ 0 ∷ 0 ∷ 0 ∷
    -- A: task, position, flag
    1 ∷ 0 ∷ 2 ∷ 0 ∷ 0 ∷ 0 ∷ 0 ∷ 0 ∷ 0 ∷
    -- M: cycle, flag
    0 ∷ 2 ∷ 0 ∷ 0 ∷ 0 ∷ 0 ∷ 0 ∷ 0 ∷ 0 ∷
    -- B: sender, sub-address, receiver, sub-address, words, period, phase
    0 ∷ 0 ∷ 0 ∷ 0 ∷ 0 ∷ 0 ∷ 0 ∷ 0 ∷ 0 ∷ []

unfoldable pub count_of : ℕ → ℕ
count_of k = get_or counts k 0

unfoldable pub keys_of : ℕ → ℕ
keys_of k = get_or keys k 0

unfoldable pub low_of : ℕ → ℕ → ℕ
low_of k f = get_or lows (k * 9 + f) 0

unfoldable pub high_of : ℕ → ℕ → ℕ
high_of k f = get_or highs (k * 9 + f) 0

unfoldable pub sort_of : ℕ → ℕ → ℕ
sort_of k f = get_or sorts (k * 9 + f) 0

-- "no task or flag number is above the RIG line's": of number f of a line of kind k, n, in a rig of so many tasks and flags
unfoldable pub under : ℕ → ℕ → ℕ → ℕ → ℕ → Bool
under tasks flags k f n = cond (eqb (sort_of k f) names_task) (leb n tasks) (cond (eqb (sort_of k f) names_flag) (leb n flags) true)

-- number f of a line of kind k is within its size
unfoldable pub within : ℕ → ℕ → ℕ → Bool
within k f n = leb (low_of k f) n && leb n (high_of k f)

-- "periods 1, 2, 4, 8, 16, 32, 64"
abbrev pub periods : List ℕ
periods = 1 ∷ 2 ∷ 4 ∷ 8 ∷ 16 ∷ 32 ∷ 64 ∷ []

unfoldable pub period_listed : ℕ → Bool
period_listed p =
    cond (eqb p 1) true (cond (eqb p 2) true (cond (eqb p 4) true (cond (eqb p 8) true (cond (eqb p 16) true (cond (eqb p 32) true (eqb p 64))))))

-- "phase below the period": of a B line's numbers
unfoldable pub timed : ℕ → List ℕ → Bool
timed k v = cond (eqb k kind_b) (period_listed (get_or v 5 0) && ltb (get_or v 6 0) (get_or v 5 0)) true

-- the letters of the kinds' names, by their ASCII numbers
abbrev pub letter_a : ℕ
letter_a = 65

abbrev pub letter_b : ℕ
letter_b = 66

abbrev pub letter_c : ℕ
letter_c = 67

abbrev pub letter_g : ℕ
letter_g = 71

abbrev pub letter_i : ℕ
letter_i = 73

abbrev pub letter_m : ℕ
letter_m = 77

abbrev pub letter_r : ℕ
letter_r = 82

abbrev pub letter_t : ℕ
letter_t = 84

-- a kind's name, and the kind of a name, 0 where there is none
unfoldable pub name_of : ℕ → List ℕ
name_of k =
    cond (eqb k kind_rig) (letter_r ∷ letter_i ∷ letter_g ∷ [])
    (cond (eqb k kind_t) (letter_t ∷ [])
    (cond (eqb k kind_c) (letter_c ∷ [])
    (cond (eqb k kind_a) (letter_a ∷ [])
    (cond (eqb k kind_m) (letter_m ∷ []) (letter_b ∷ [])))))

unfoldable pub kind_of_letter : ℕ → ℕ
kind_of_letter a =
    cond (eqb a letter_t) kind_t
    (cond (eqb a letter_c) kind_c (cond (eqb a letter_a) kind_a (cond (eqb a letter_m) kind_m (cond (eqb a letter_b) kind_b 0))))

unfoldable pub kind_of : List ℕ → ℕ
kind_of [] = 0
kind_of (a ∷ []) = kind_of_letter a
kind_of (a ∷ b ∷ []) = 0
kind_of (a ∷ b ∷ c ∷ []) = cond (eqb a letter_r && (eqb b letter_i && eqb c letter_g)) kind_rig 0
kind_of (a ∷ b ∷ c ∷ d ∷ l) = 0

-- a line's place in the order: its kind, then the numbers that the kind rises by. Each is below 256, so that places compare as these
-- do, one after the other: `ordered_exact` (Laws/Order)
unfoldable pub keyed : ℕ → List ℕ → ℕ → ℕ
keyed k v j = cond (ltb j (keys_of k)) (get_or v j 0) 0

unfoldable pub place_in_order : ℕ → List ℕ → ℕ
place_in_order k v = ((k * 256 + keyed k v 0) * 256 + keyed k v 1) * 256 + keyed k v 2

-- "Records in this order, each kind rising strictly": the first line is RIG, and each other one comes after the line before it; B lines are free
unfoldable pub follows : ℕ → ℕ → ℕ → Bool
follows p k r = cond (eqb p 0) (eqb k kind_rig) (cond (eqb k kind_b) (leb p r) (ltb p r))
