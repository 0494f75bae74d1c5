-- THE REFUSALS' TEXTS: the build paper's table of refusal numbers, word by word.
use Rattle.std.specs.Prelude.{ℕ, ◌<◌, ◌≤◌, ◌≡◌, List, [], ◌∷◌, ◌++◌, length, get_or}
use Rattle.laws.specs.Put.{put}
use Rattle.put_text.specs.Text.{ascii}

-- by number: 0 for none, then 1 to 12
abbrev pub texts : List (List ℕ)
texts =
    ascii "accepted" ∷
    ascii "a line or script line has the wrong shape, or no LF; empty file (line 1)" ∷
    ascii "a number is outside its size; file too long (line 0, tested first)" ∷
    ascii "a record is out of order or repeated" ∷
    ascii "a whole-file rule is broken (line 0), or an entry that takes a rig (start, writer) is given one that breaks any rule" ∷
    ascii "any call on a record but the tick (start makes the record), while no task is running" ∷
    ascii "no such task, flag or row" ∷
    ascii "caller is not the named task's controller; signal of an activation or minor-cycle flag; wait on or reading of a minor-cycle flag" ∷
    ascii "schedule of an invoked task, cancel of an uninvoked one, terminate of one not active" ∷
    ascii "waking count above 2,147,483,647; tick at that count" ∷
    ascii "a lent buffer has not the length that this paper states for it" ∷
    ascii "a word's field, an expected address or a status image is outside its size" ∷
    ascii "the record handed in is not sound" ∷
    []

abbrev pub no_refusal : List ℕ
no_refusal = ascii "no refusal has this number"

unfoldable pub refusal_text : ℕ → List ℕ
refusal_text number = get_or texts number no_refusal

-- what C has of a text in a buffer of its own: how long it is; the text with the byte 0 behind it at the front, if there is room for both; else
-- nothing is written
pub record Given (text before after : List ℕ) (count : ℕ) : Type 0 where
  pub size : count ≡ length text
  pub fits : length text < length before → after ≡ put before 0 (text ++ (0 ∷ []))
  pub narrow : length before ≤ length text → after ≡ before
  pub same : length after ≡ length before
