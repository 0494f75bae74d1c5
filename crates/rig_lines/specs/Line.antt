-- A line of a rig file, and how it is judged.
use Rattle.std.specs.Prelude.{ℕ, ◌+◌, Bool, true, cond, ◌&&◌, List, [], ◌∷◌, map, leb, ltb, eqb, length}
use Rattle.decimal.specs.Decimal.{cap, number}
use Rattle.text.specs.Split.{split, tab}
use Rattle.rig_lines.specs.Kinds.{count_of, within, timed, kind_of, place_in_order, follows}

-- a kind and its numbers
pub record Line : Type 0 where
  pub kind : ℕ
  pub nums : List ℕ

unfoldable pub first : List (List ℕ) → List ℕ
first [] = []
first (p ∷ ps) = p

unfoldable pub others : List (List ℕ) → List (List ℕ)
others [] = []
others (p ∷ ps) = ps

-- what a line's bytes say: "fields are parted by one tab", the first names the kind, the others are numbers
unfoldable pub line_of : List ℕ → Line
line_of l = record { kind = kind_of (first (split tab l)); nums = map number (others (split tab l)) }

-- every field was a decimal ("numbers are decimal without spare zeros"): what is none is read as more than `cap`
unfoldable pub decimals : List ℕ → Bool
decimals [] = true
decimals (n ∷ ns) = leb n cap && decimals ns

-- a known kind, as many fields as it has, each a decimal
unfoldable pub shaped : Line → Bool
shaped r = ltb 0 r.kind && (eqb (length r.nums) (count_of r.kind) && decimals r.nums)

-- the numbers from the f-th on are within their sizes
unfoldable pub fits : ℕ → ℕ → List ℕ → Bool
fits k f [] = true
fits k f (n ∷ ns) = within k f n && fits k (f + 1) ns

unfoldable pub sized : Line → Bool
sized r = fits r.kind 0 r.nums && timed r.kind r.nums

-- a line's place in the order
unfoldable pub placed : Line → ℕ
placed r = place_in_order r.kind r.nums

-- in order after a line of place p, 0 for none
unfoldable pub ordered : ℕ → Line → Bool
ordered p r = follows p r.kind (placed r)

-- "A line is judged for shape, then sizes, then order": its refusal number after a line of place p, 0 for none
unfoldable pub judge : ℕ → Line → ℕ
judge p r = cond (shaped r) (cond (sized r) (cond (ordered p r) 0 3) 2) 1
