-- COMPOOL AND BUS WORDS: a row's block in the lent area, and the command words of a count.
use Rattle.std.specs.Prelude.{Bool, cond, List, [], ◌∷◌, ◌++◌, ℕ, ◌+◌, ◌-◌, ◌*◌, ◌%◌, eqb, length, take, drop}
use Rattle.laws.specs.Iter.{iter}
use Rattle.laws.specs.Put.{put}
use Rattle.word_parts.specs.Packed.{command_word}
use Rattle.rules.specs.Sizes.{block_size, tags}
use Rattle.rules.specs.Rig.{Rig, Row}

-- "Row k's block starts at word 33(k - 1) of the lent area: a tag word, then its data."
abbrev pub block_at : ℕ → ℕ
block_at k = block_size * (k - 1)

-- "The area has exactly 33 words a row; the caller's buffer has exactly the row's words."
abbrev pub area_words : Rig → ℕ
area_words r = block_size * r.rows

abbrev pub block_words : Rig → ℕ → ℕ
block_words r k = (r.row (k - 1)).words

-- "Write stores the data and the count modulo 65,536 as tag and touches no other word"
unfoldable pub written : ℕ → ℕ → List ℕ → List ℕ → List ℕ
written count k area words = put area (block_at k) (count % tags ∷ words)

-- "read copies the data out": as many words as the buffer has
unfoldable pub copied : ℕ → List ℕ → List ℕ → List ℕ
copied k area buffer = take (length buffer) (drop (block_at k + 1) area)

-- "A row is due when count modulo period equals phase."
abbrev pub row_due : Row → ℕ → Bool
row_due b count = eqb (count % b.period) b.phase

-- "from the master, a receive command to the receiver; to the master, a transmit command to the sender; else receive,
-- then transmit"
abbrev pub receive_word : Row → ℕ
receive_word b = command_word b.receiver 0 b.receiver_sub b.words

abbrev pub transmit_word : Row → ℕ
transmit_word b = command_word b.sender 1 b.sender_sub b.words

unfoldable pub row_words : ℕ → Row → List ℕ
row_words master b =
    cond (eqb b.sender master) (receive_word b ∷ [])
    (cond (eqb b.receiver master) (transmit_word b ∷ [])
    (receive_word b ∷ transmit_word b ∷ []))

-- "Rows in order": the words of the rows before row i, then those of row i if it is due
abbrev pub bus_one : ℕ → (ℕ → Row) → ℕ → ℕ → List ℕ → List ℕ
bus_one master row count i words = cond (row_due (row i) count) (words ++ row_words master (row i)) words

unfoldable pub bus_words : ℕ → ℕ → (ℕ → Row) → ℕ → List ℕ
bus_words rows master row count = iter rows (bus_one master row count) []
