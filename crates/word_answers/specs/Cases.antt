-- Worked cases as tables.
use Rattle.std.specs.Prelude.{◌≡◌, List, map, ℕ}
use Rattle.word_answers.specs.Answers.{WordReport}

-- asked: what the rules answer; told: what the paper says
pub record Case : Type 0 where
  pub asked : WordReport ℕ
  pub told : WordReport ℕ

abbrev pub case : WordReport ℕ → WordReport ℕ → Case
case asked told = record { asked = asked; told = told }

-- every case of a table is answered as the paper says: its two columns are equal
abbrev pub AsTold : List Case → Type 0
AsTold cases = map (λ (c : Case). c.asked) cases ≡ map (λ (c : Case). c.told) cases
