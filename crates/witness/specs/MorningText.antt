-- "A bench morning": the texts of the paper, fields parted by a tab, each line ended by LF.
use Rattle.std.specs.Prelude.{List, [], ◌∷◌, map, ℕ}
use Prim.Native.String.{String, ◌++◌}
use Rattle.witness.specs.Text.{bytes}

-- "Input": the rig
abbrev rig_text : String
rig_text =
    "RIG\t1\t3\t4\t1\n"
    ++ "T\t1\t0\t10\t0\t0\n"
    ++ "T\t2\t1\t20\t0\t3\n"
    ++ "T\t3\t1\t20\t0\t0\n"
    ++ "C\t2\t0\t0\t1\n"
    ++ "C\t3\t0\t1\t1\n"
    ++ "A\t2\t0\t1\n"
    ++ "A\t3\t0\t3\n"
    ++ "M\t4\t1\n"
    ++ "B\t1\t5\t7\t2\t32\t2\t0\n"

unfoldable pub morning_file : List ℕ
morning_file = bytes rig_text

-- the script's lines, without their LF
unfoldable pub morning_script : List (List ℕ)
morning_script = map bytes ("S\t2" ∷ "S\t3" ∷ "K" ∷ "K" ∷ "K" ∷ "K" ∷ "F" ∷ "R\t2" ∷ "K" ∷ "K" ∷ [])

-- "a rig, the line RUN, then script lines"
unfoldable pub morning_input : List ℕ
morning_input = bytes (rig_text ++ "RUN\n" ++ "S\t2\n" ++ "S\t3\n" ++ "K\n" ++ "K\n" ++ "K\n" ++ "K\n" ++ "F\n" ++ "R\t2\n" ++ "K\n" ++ "K\n")

-- "Whole output", and behind the running task woken and activated (L2): the tick that makes the count 4 serves flag 1, which activates task 2,
-- and then task 2's activation flag, which activates task 3. No other call serves a flag that wakes or activates anybody.
unfoldable pub morning_output : List ℕ
morning_output =
    bytes
    ("START\t0\t0\t1\t0\t0\n"
    ++ "S\t0\t0\t1\t0\t0\n"
    ++ "S\t0\t0\t1\t0\t0\n"
    ++ "K\t0\t1\t1\t0\t0\n"
    ++ "K\t0\t2\t1\t0\t0\t14400\n"
    ++ "K\t0\t3\t1\t0\t0\n"
    ++ "K\t0\t4\t2\t0\t2\t14400\n"
    ++ "F\t0\t4\t3\t0\t0\n"
    ++ "R\t0\t4\t1\t0\t0\n"
    ++ "K\t0\t5\t1\t0\t0\n"
    ++ "K\t0\t6\t3\t0\t0\t14400\n")
