-- What the bus words ask of the rows: fields within their sizes, as the rig's rules have them. And a row's command in one direction.
use Rattle.std.specs.Prelude.{List, ℕ, ◌<◌, ◌≤◌, get_or}
use Rattle.rig.specs.declared.Row.{Row}
use Rattle.rig.specs.Rules.{no_row}
use Rattle.rules.specs.Rig as R
use Rattle.rules.specs.Bus.{receive_word, transmit_word}
use Rattle.compool.specs.declared.Direction.{Direction}
use Rattle.compool.specs.declared.Direction.TheVariants.{Receive, Transmit}

pub record RowFits (b : Row) : Type 0 where
  pub sender : b.sender ≤ 31
  pub sender_sub : b.sender_sub ≤ 31
  pub receiver : b.receiver ≤ 31
  pub receiver_sub : b.receiver_sub ≤ 31
  pub period : 0 < b.period

pub record RowsFit (many : ℕ) (rows : List Row) : Type 0 where
  pub few : many ≤ 64
  pub row : (k : ℕ) → k < many → RowFits (get_or rows k no_row)

abbrev pub word_in : Direction → R.Row → ℕ
word_in Receive b = receive_word b
word_in Transmit b = transmit_word b
