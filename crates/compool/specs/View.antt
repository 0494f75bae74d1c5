-- The rules' row that a row of the rig shows.
use Rattle.std.specs.Prelude.{List, ℕ, get_or}
use Rattle.rig.specs.Rules.{no_row}
use Rattle.rig.specs.declared.Row.{Row}
use Rattle.rules.specs.Rig as R

abbrev pub row_of : Row → R.Row
row_of b =
    record {
      sender = b.sender;
      sender_sub = b.sender_sub;
      receiver = b.receiver;
      receiver_sub = b.receiver_sub;
      words = b.words;
      period = b.period;
      phase = b.phase;
    }

-- rows in order from 0
abbrev pub rows_of : List Row → ℕ → R.Row
rows_of rows i = row_of (get_or rows i no_row)
