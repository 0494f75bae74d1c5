-- Laws of the morning byte by byte.
use Rattle.std.specs.Prelude.{ℕ, ◌+◌, ◌<◌, ◌≡◌, refl, List, [], ◌∷◌, ◌++◌, length, get_or, take}
use Rattle.std.proofs.Common.{sym, ap, ◌∙◌, append_assoc, append-nil, add-one, take-suc}
use Rattle.bench_morning.specs.Desk.{Desk, over, next, says, desk_after, said}

-- bytes in two parts
pub after_append : (d : Desk) (a b : List ℕ) → desk_after d (a ++ b) ≡ desk_after (desk_after d a) b
unfolding desk_after
after_append d [] b = refl
after_append d (x ∷ a) b = after_append (next d x) a b

pub said_append : (d : Desk) (a b : List ℕ) → said d (a ++ b) ≡ said d a ++ said (desk_after d a) b
unfolding desk_after said
said_append d [] b = refl
said_append d (x ∷ a) b =
    ap (λ (t : List ℕ). says d x ++ t) (said_append (next d x) a b) ∙ sym (append_assoc (says d x) (said (next d x) a) (said (desk_after (next d x) a) b))

pub after_one : (d : Desk) (b : ℕ) → desk_after d (b ∷ []) ≡ next d b
unfolding desk_after
after_one d b = refl

pub said_one : (d : Desk) (b : ℕ) → said d (b ∷ []) ≡ says d b
unfolding said
said_one d b = append-nil (says d b)

-- one byte more of a piece
module _ (d : Desk) (piece : List ℕ) (i : ℕ) (h : i < length piece) where
  more : take (i + 1) piece ≡ take i piece ++ (get_or piece i 0 ∷ [])
  more = ap (λ (n : ℕ). take n piece) (add-one i) ∙ take-suc piece i 0 h

  pub after_more : desk_after d (take (i + 1) piece) ≡ next (desk_after d (take i piece)) (get_or piece i 0)
  after_more = ap (desk_after d) more ∙ after_append d (take i piece) (get_or piece i 0 ∷ []) ∙ after_one (desk_after d (take i piece)) (get_or piece i 0)

  pub said_more : said d (take (i + 1) piece) ≡ said d (take i piece) ++ says (desk_after d (take i piece)) (get_or piece i 0)
  said_more =
      ap (said d) more ∙ said_append d (take i piece) (get_or piece i 0 ∷ [])
      ∙ ap (λ (t : List ℕ). said d (take i piece) ++ t) (said_one (desk_after d (take i piece)) (get_or piece i 0))

-- behind a refused rig nothing is said
pub over_after : (bytes : List ℕ) → desk_after over bytes ≡ over
unfolding desk_after next
over_after [] = refl
over_after (b ∷ bytes) = over_after bytes

pub over_said : (bytes : List ℕ) → said over bytes ≡ []
unfolding said says next
over_said [] = refl
over_said (b ∷ bytes) = over_said bytes
