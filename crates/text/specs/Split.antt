-- A text in pieces, parted by one byte: lines by LF, fields by a tab.
use Rattle.std.specs.Prelude.{ℕ, ◌-◌, List, [], ◌∷◌, ◌++◌, eqb, take, drop, cond}

-- "Lines end in LF; fields are parted by one tab"
abbrev pub lf : ℕ
lf = 10

abbrev pub tab : ℕ
tab = 9

-- x in front of the first piece
unfoldable pub on_head : ℕ → List (List ℕ) → List (List ℕ)
on_head x [] = (x ∷ []) ∷ []
on_head x (p ∷ ps) = (x ∷ p) ∷ ps

-- the pieces of a text; there is at least one
unfoldable pub split : ℕ → List ℕ → List (List ℕ)
split c [] = [] ∷ []
split c (x ∷ xs) = cond (eqb x c) ([] ∷ split c xs) (on_head x (split c xs))

-- pieces, each with c before it; and pieces with c between them
unfoldable pub led : ℕ → List (List ℕ) → List ℕ
led c [] = []
led c (p ∷ ps) = c ∷ (p ++ led c ps)

unfoldable pub join : ℕ → List (List ℕ) → List ℕ
join c [] = []
join c (p ∷ ps) = p ++ led c ps

-- the bytes from a up to b, as `&s[a..b]` has them
unfoldable pub part : ℕ → ℕ → List ℕ → List ℕ
part a b s = take (b - a) (drop a s)

-- the pieces that follow a piece: none at the end, and those of what stands after the parting byte
unfoldable pub rest : ℕ → List ℕ → List (List ℕ)
rest c [] = []
rest c (x ∷ xs) = split c xs
