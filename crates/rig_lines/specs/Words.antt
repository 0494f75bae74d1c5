-- WHAT IS WRONG WITH A LINE, in the paper's words: its shape (1), its sizes (2), its order (3); and which line of a file is the first faulty
-- one. `fault_of` (File) computes exactly this: `first_faulty`, `none_faulty` (Laws/FirstFaulty).
use Rattle.std.specs.Prelude.{ℕ, zero, suc, ◌+◌, ◌≤◌, ◌<◌, ◌≡◌, ◌⊎◌, List, [], ◌∷◌, length, get_or, take}
use Rattle.laws.specs.Members.{In}
use Rattle.decimal.specs.Plain.{Decimal}
use Rattle.text.specs.Split.{split, lf, tab}
use Rattle.rig_lines.specs.Kinds.{kind_rig, kind_b, count_of, keys_of, low_of, high_of, kind_of, periods}
use Rattle.rig_lines.specs.Line.{Line, first, others, line_of}

-- ---- shape

-- "numbers are decimal without spare zeros"
abbrev pub Decimals : List (List ℕ) → Type 0
Decimals [] = Unit {0}
Decimals (p ∷ ps) = Decimal p × Decimals ps

-- "fields are parted by one tab": the first names a kind, and behind it are as many as the kind has numbers, each a decimal
pub record Shape (l : List ℕ) : Type 0 where
  pub known : 0 < kind_of (first (split tab l))
  pub count : length (others (split tab l)) ≡ count_of (kind_of (first (split tab l)))
  pub numbers : Decimals (others (split tab l))

-- ---- sizes

-- every number is within its size; of a B line, "periods 1, 2, 4, 8, 16, 32, 64, phase below the period"
pub record Sizes (r : Line) : Type 0 where
  pub within : (i : ℕ) → i < length r.nums → (low_of r.kind i ≤ get_or r.nums i 0) × (get_or r.nums i 0 ≤ high_of r.kind i)
  pub timed : r.kind ≡ kind_b → In (get_or r.nums 5 0) periods × (get_or r.nums 6 0 < get_or r.nums 5 0)

-- ---- order

-- "its leading numbers (T task; C task and position; A and M all; ..)": as many as `keys` says of the kind
unfoldable pub leading : Line → List ℕ
leading r = take (keys_of r.kind) r.nums

-- numbers before numbers: the first decides, where it is the same the others do
abbrev pub Below : List ℕ → List ℕ → Type 0
Below [] [] = ⊥
Below [] (n ∷ ns) = ⊥
Below (m ∷ ms) [] = ⊥
Below (m ∷ ms) (n ∷ ns) = (m < n) ⊎ ((m ≡ n) × Below ms ns)

-- "Records in this order, each kind rising strictly by its leading numbers": line q comes before line r
abbrev pub Before : Line → Line → Type 0
Before q r = (q.kind < r.kind) ⊎ ((q.kind ≡ r.kind) × Below (leading q) (leading r))

-- "B lines in row order, free": line r may follow line q
abbrev pub MayFollow : Line → Line → Type 0
MayFollow q r = Before q r ⊎ ((q.kind ≡ kind_b) × (r.kind ≡ kind_b))

-- ---- the lines of a file, counted from 0

-- the text of line n
abbrev pub line_at : List ℕ → ℕ → List ℕ
line_at s n = get_or (split lf s) n []

-- "Lines end in LF": line n does, something stands behind its end, be it nothing at all
abbrev pub Ended : List ℕ → ℕ → Type 0
Ended s n = n + 1 < length (split lf s)

-- the first line is RIG, and each other one may follow the line before it
abbrev pub InPlace : List ℕ → ℕ → Type 0
InPlace s zero = (line_of (line_at s 0)).kind ≡ kind_rig
InPlace s (suc n) = MayFollow (line_of (line_at s n)) (line_of (line_at s (suc n)))

-- refusal number j is due to line n: "1: a line .. has the wrong shape, or no LF; empty file (line 1)", "2: a number is outside its size",
-- "3: a record is out of order or repeated". Without LF the last line is a line where it has a byte, or where it is all of the file.
pub data Wrong (s : List ℕ) (n j : ℕ) : Type 0 where
  unended : j ≡ 1 → (Ended s n → ⊥) → (n ≡ 0) ⊎ (0 < length (line_at s n)) → Wrong s n j
  shape : j ≡ 1 → Ended s n → (Shape (line_at s n) → ⊥) → Wrong s n j
  size : j ≡ 2 → Ended s n → (Sizes (line_of (line_at s n)) → ⊥) → Wrong s n j
  order : j ≡ 3 → Ended s n → (InPlace s n → ⊥) → Wrong s n j

-- "the first faulty line decides, then the smallest number": nothing is wrong with the lines before n, and j is line n's smallest number
pub record FirstFaulty (s : List ℕ) (n j : ℕ) : Type 0 where
  pub before : (i k : ℕ) → i < n → Wrong s i k → ⊥
  pub here : Wrong s n j
  pub least : (k : ℕ) → k < j → Wrong s n k → ⊥

-- no line is faulty
abbrev pub NoneFaulty : List ℕ → Type 0
NoneFaulty s = (n k : ℕ) → Wrong s n k → ⊥
