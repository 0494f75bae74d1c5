-- The tables keep their lengths.
use Rattle.std.specs.Prelude.{◌≡◌, refl, List, [], ◌∷◌, ℕ, ◌+◌, length, set}
use Rattle.std.proofs.Common.{◌∙◌, length-set}
use Rattle.laws.specs.Laws.Stores.{stores_length}
use Rattle.rules.specs.Serving.{rouse}
use Rattle.rules.specs.Family.{cleared, is_marked}

pub cleared_length : (marks states : List ℕ) → length (cleared marks states) ≡ length states
unfolding cleared
cleared_length marks states = stores_length (λ i. is_marked marks (i + 1)) (λ i. i + 1) (λ i. 0) 64 states

pub rouse_length : (ts states : List ℕ) → length (rouse ts states) ≡ length states
unfolding rouse
rouse_length [] states = refl
rouse_length (t ∷ ts) states = rouse_length ts (set states t 3) ∙ length-set states t 3
