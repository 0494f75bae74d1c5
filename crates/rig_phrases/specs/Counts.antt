-- HOW MUCH A RIG HOLDS, as it is said.
use Rattle.std.specs.Prelude.{ℕ, List}
use Rattle.put_text.specs.Text.{ascii}
use Rattle.rig_phrases.specs.Writing.{counted_text}

abbrev pub tasks_text : ℕ → List ℕ
tasks_text n = counted_text (ascii "right: ") n (ascii " task") (ascii " tasks")

abbrev pub flags_text : ℕ → List ℕ
flags_text n = counted_text (ascii ", ") n (ascii " flag") (ascii " flags")

abbrev pub conditions_text : ℕ → List ℕ
conditions_text n = counted_text (ascii ", ") n (ascii " condition") (ascii " conditions")

abbrev pub rows_text : ℕ → List ℕ
rows_text n = counted_text (ascii ", ") n (ascii " bus row\n") (ascii " bus rows\n")
