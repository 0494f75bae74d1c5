-- `split` and `join` undo one another.
--     join_split     the pieces of s, joined, are s
--     split_piece    a piece up to its end, and what is left
--     split_last     a text without the byte is one piece
--     split_join     pieces without the byte come back
--     led_append     pieces with the byte before each, and others behind them
-- Assumes nothing.
use Rattle.std.specs.Prelude.{ℕ, ◌≡◌, refl, List, [], ◌∷◌, ◌++◌, eqb}
use Rattle.std.proofs.Common.{ap, ◌∙◌, append-nil, append_assoc, eqb-true, eq-eqb, ne_eqb}
use Rattle.laws.specs.Cases.{by}
use Rattle.text.specs.Split.{on_head, split, led, join}

-- c does not stand in the list
abbrev pub Free : ℕ → List ℕ → Type 0
Free c [] = Unit {0}
Free c (x ∷ xs) = (x ≡ c → ⊥) × Free c xs

abbrev pub Frees : ℕ → List (List ℕ) → Type 0
Frees c [] = Unit {0}
Frees c (p ∷ ps) = Free c p × Frees c ps

-- the pieces are a first one and others
pub split_cons : (c : ℕ) (s : List ℕ) → (p : List ℕ) × (ps : List (List ℕ)) × (split c s ≡ p ∷ ps)
unfolding split on_head
split_cons c [] = ([], [], refl)
split_cons c (x ∷ xs) =
    by (eqb x c) (λ e. ([], split c xs, rw e)) (λ e. let w = split_cons c xs in (x ∷ w.0, w.1, rw (e, w.2)))

led_join : (c : ℕ) (s : List ℕ) → led c (split c s) ≡ c ∷ join c (split c s)
unfolding led join
led_join c s = let w = split_cons c s in rw w.2

join_on_head : (c x : ℕ) (ps : List (List ℕ)) → join c (on_head x ps) ≡ x ∷ join c ps
unfolding join on_head led
join_on_head c x [] = refl
join_on_head c x (p ∷ ps) = refl

pub join_split : (c : ℕ) (s : List ℕ) → join c (split c s) ≡ s
unfolding split join led
join_split c [] = refl
join_split c (x ∷ xs) =
    by (eqb x c)
    (λ e. rw (e, led_join c xs, join_split c xs, eqb-true x c e))
    (λ e. rw (e, join_on_head c x, join_split c xs))

pub split_piece : (c : ℕ) (p r : List ℕ) → Free c p → split c (p ++ (c ∷ r)) ≡ p ∷ split c r
unfolding split on_head
split_piece c [] r h = rw (eq-eqb c c refl)
split_piece c (x ∷ xs) r h = rw (ne_eqb x c h.0, split_piece c xs r h.1)

pub split_last : (c : ℕ) (p : List ℕ) → Free c p → split c p ≡ p ∷ []
unfolding split on_head
split_last c [] h = refl
split_last c (x ∷ xs) h = rw (ne_eqb x c h.0, split_last c xs h.1)

pub split_join : (c : ℕ) (p : List ℕ) (ps : List (List ℕ)) → Free c p → Frees c ps → split c (p ++ led c ps) ≡ p ∷ ps
unfolding led
split_join c p [] h g = rw append-nil (split_last c p h)
split_join c p (q ∷ qs) h g = split_piece c p (q ++ led c qs) h ∙ ap (λ (l : List (List ℕ)). p ∷ l) (split_join c q qs g.0 g.1)

pub led_append : (c : ℕ) (a b : List (List ℕ)) → led c (a ++ b) ≡ led c a ++ led c b
unfolding led
led_append c [] b = refl
led_append c (p ∷ ps) b = rw (led_append c ps b, append_assoc)
