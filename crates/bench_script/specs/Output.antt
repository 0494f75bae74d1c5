-- AN OUTPUT LINE: "prints verb, answer (0 accepted), count, running task (0 none), then, if accepted, bus words or the
-- flag's value, tab-parted". L2, of woken and activated: "The runner prints both after the running task wherever it prints that".
use Rattle.std.specs.Prelude.{ℕ, cond, List, [], ◌∷◌, ◌++◌, map, eqb}
use Rattle.decimal.specs.Decimal.{dec}
use Rattle.text.specs.Split.{led}
use Rattle.bench_script.specs.Letters.{tab, lf, question}

-- numbers, each after a tab
unfoldable pub fields_text : List ℕ → List ℕ
fields_text numbers = led tab (map dec numbers)

-- a number of which one says that there is none: 0 of a waking count, "nothing if no task waits on time", 16 of a position
abbrev pub if_any : ℕ → ℕ → List ℕ
if_any none n = cond (eqb n none) [] (n ∷ [])

-- the verb's letters, the numbers, and LF
unfoldable pub line_text : List ℕ → List ℕ → List ℕ
line_text verb numbers = verb ++ (fields_text numbers ++ (lf ∷ []))

-- "prints ? alone"
abbrev pub wrong_text : List ℕ
wrong_text = question ∷ lf ∷ []

-- a field is a tab and at most ten digits
abbrev pub room_of_field : ℕ
room_of_field = 11

-- the bytes of output that a turn asks for: more than any turn's line has
abbrev pub turn_room : ℕ
turn_room = 2048

-- and those that the line START asks for
abbrev pub start_room : ℕ
start_room = 64
