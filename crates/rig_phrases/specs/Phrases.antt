-- THE PHRASES around the sentences that are said of a refused rig file.
use Rattle.std.specs.Prelude.{ℕ, List}
use Rattle.put_text.specs.Text.{ascii}

abbrev pub refused_by_text : List ℕ
refused_by_text = ascii "refused by "

abbrev pub at_line_text : List ℕ
at_line_text = ascii " at line "

abbrev pub colon_text : List ℕ
colon_text = ascii ": "

abbrev pub culprit_line_text : List ℕ
culprit_line_text = ascii ": line "

abbrev pub culprit_task_text : List ℕ
culprit_task_text = ascii ": task "

abbrev pub end_text : List ℕ
end_text = ascii ".\n"
