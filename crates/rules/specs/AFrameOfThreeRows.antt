-- A FRAME OF THREE ROWS, computed (L11): from the master, to the master, between two terminals. (The name puts this file before the proofs: a wrong
-- definition is refused here.)
use Rattle.std.specs.Prelude.{◌≡◌, refl, List, [], ◌∷◌, map, ℕ, get_or}
use Rattle.laws.specs.Iter.{iter}
use Rattle.laws.specs.Tables.{total, sum}
use Rattle.word_parts.specs.Packed.{command_word}
use Rattle.rules.specs.Rig.{Row}
use Rattle.rules.specs.Bus.{row_words, bus_words}
use Rattle.rules.specs.Frame.{due_in, commands_to, commands_in, times_a_frame, commands_a_frame}
use Rattle.rules.specs.Scripts.{B}

-- the master is at address 1; the first row is due in cycle 0, the second in cycle 63
abbrev pub three_rows : List Row
three_rows = B 1 5 7 2 32 2 0 ∷ B 3 1 1 2 4 4 3 ∷ B 3 4 7 4 16 8 2 ∷ []

abbrev pub row_of_three : ℕ → Row
row_of_three i = get_or three_rows i (B 0 0 0 0 0 0 0)

-- how often each is due; the third in cycles 0 to 3
pub rows_a_frame : map times_a_frame three_rows ≡ 32 ∷ 16 ∷ 8 ∷ []
unfolding times_a_frame sum
rows_a_frame = refl

pub third_row_in_cycles : map (due_in (row_of_three 2)) (0 ∷ 1 ∷ 2 ∷ 3 ∷ []) ≡ 0 ∷ 0 ∷ 1 ∷ 0 ∷ []
third_row_in_cycles = refl

-- how often the master, the two terminals and another address are spoken to; terminal 7 in cycles 0 to 3
pub terminals_a_frame : map (commands_a_frame 3 1 row_of_three) (1 ∷ 3 ∷ 7 ∷ 5 ∷ []) ≡ 0 ∷ 24 ∷ 40 ∷ 0 ∷ []
unfolding commands_a_frame commands_to bus_words row_words command_word iter total sum
terminals_a_frame = refl

pub terminal_in_cycles : map (commands_in 3 1 row_of_three 7) (0 ∷ 1 ∷ 2 ∷ 3 ∷ []) ≡ 1 ∷ 0 ∷ 2 ∷ 0 ∷ []
unfolding commands_to bus_words row_words command_word iter total
terminal_in_cycles = refl
