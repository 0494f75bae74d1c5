-- The definitions of `Kinds` as the code meets them: one law for each way through a function, and the bounds that the tables give.
-- Assumes nothing.
use Rattle.std.specs.Prelude.{ℕ, zero, suc, ◌+◌, ◌*◌, ◌≤◌, ◌<◌, ◌≡◌, refl, ◌⊎◌, ◌≢◌, Bool, true, false, cond, ◌&&◌, List, [], ◌∷◌, ◌++◌, leb, eqb, length, get_or, drop}
use Rattle.std.proofs.Common.{sym, ap, ◌∙◌, inl, inr, ⊎_elim, arith, get_or-drop, leb-true, le-leb, eqb-true}
use Rattle.std.proofs.Math.ListN.{get_or-append}
use Rattle.std.proofs.lemmas.Bool.{lt-leb, eqb-false}
use Rattle.laws.specs.Laws.Tables.{zeros_at}
use Rattle.laws.specs.Cases.{by}
use Rattle.laws.specs.Decides.{Is}
use Rattle.laws.specs.Laws.All.{and_left, and_right}
use Rattle.rig_lines.specs.Kinds.{counts, keys, lows, highs, sorts, count_of, keys_of, low_of, high_of, sort_of, within, kind_of_letter, kind_of}

pub within_low : (k f n : ℕ) → n < low_of k f → false ≡ within k f n
unfolding within
within_low k f n h = rw (lt-leb _ _ h)

pub within_high : (k f n : ℕ) → low_of k f ≤ n → high_of k f < n → false ≡ within k f n
unfolding within
within_high k f n h g = rw (le-leb _ _ h, lt-leb _ _ g)

pub within_fits : (k f n : ℕ) → low_of k f ≤ n → n ≤ high_of k f → true ≡ within k f n
unfolding within
within_fits k f n h g = rw (le-leb _ _ h, le-leb _ _ g)

pub within_is : (k f n : ℕ) → within k f n ≡ true → (low_of k f ≤ n) × (n ≤ high_of k f)
unfolding within
within_is k f n e =
    (leb-true _ _ (and_left (leb (low_of k f) n) (leb n (high_of k f)) e), leb-true _ _ (and_right (leb (low_of k f) n) (leb n (high_of k f)) e))

pub kind_one : (l : List ℕ) → length l ≡ 1 → kind_of l ≡ kind_of_letter (get_or l 0 0)
unfolding kind_of
kind_one [] h = absurd (omega arith)
kind_one (a ∷ []) h = refl
kind_one (a ∷ b ∷ l) h = absurd (omega arith)

pub kind_three : (l : List ℕ) → length l ≡ 3 → kind_of l ≡ cond (eqb (get_or l 0 0) 82 && (eqb (get_or l 1 0) 73 && eqb (get_or l 2 0) 71)) 1 0
unfolding kind_of
kind_three [] h = absurd (omega arith)
kind_three (a ∷ []) h = absurd (omega arith)
kind_three (a ∷ b ∷ []) h = absurd (omega arith)
kind_three (a ∷ b ∷ c ∷ []) h = refl
kind_three (a ∷ b ∷ c ∷ d ∷ l) h = absurd (omega arith)

pub kind_none : (l : List ℕ) → (length l ≡ 1 → ⊥) → (length l ≡ 3 → ⊥) → 0 ≡ kind_of l
unfolding kind_of
kind_none [] g h = refl
kind_none (a ∷ []) g h = absurd (g refl)
kind_none (a ∷ b ∷ []) g h = refl
kind_none (a ∷ b ∷ c ∷ []) g h = absurd (h refl)
kind_none (a ∷ b ∷ c ∷ d ∷ l) g h = refl

-- a bound on every entry of a table: one test, which antt computes
unfoldable pub entries : (ℕ → Bool) → List ℕ → Bool
entries f [] = true
entries f (x ∷ xs) = f x && entries f xs

pub entries_le : (m : ℕ) (l : List ℕ) → entries (λ x. leb x m) l ≡ true → (i : ℕ) → get_or l i 0 ≤ m
unfolding entries
entries_le m [] e i = omega arith
entries_le m (x ∷ xs) e zero = leb-true x m (and_left (leb x m) (entries (λ y. leb y m) xs) e)
entries_le m (x ∷ xs) e (suc i) = entries_le m xs (and_right (leb x m) (entries (λ y. leb y m) xs) e) i

pub low_small : (k f : ℕ) → low_of k f ≤ 255
unfolding low_of lows entries
low_small k f = entries_le 255 lows refl (k * 9 + f)

pub high_small : (k f : ℕ) → high_of k f ≤ 255
unfolding high_of highs entries
high_small k f = entries_le 255 highs refl (k * 9 + f)

pub within_small : (k f n : ℕ) → within k f n ≡ true → n ≤ 255
within_small k f n e = omega (arith, (within_is k f n e).1, high_small k f)

pub letter_small : (a : ℕ) → kind_of_letter a < 7
unfolding kind_of_letter
letter_small a =
    by (eqb a 84)
    (λ e. rw e (omega arith))
    (λ e. rw e (by (eqb a 67)
    (λ f. rw f (omega arith))
    (λ f. rw f (by (eqb a 65)
    (λ g. rw g (omega arith))
    (λ g. rw g (by (eqb a 77) (λ h. rw h (omega arith)) (λ h. rw h (by (eqb a 66) (λ i. rw i (omega arith)) (λ i. rw i (omega arith))))))))))

pub kind_small : (l : List ℕ) → kind_of l < 7
unfolding kind_of
kind_small [] = omega arith
kind_small (a ∷ []) = letter_small a
kind_small (a ∷ b ∷ []) = omega arith
kind_small (a ∷ b ∷ c ∷ []) = by (eqb a 82 && (eqb b 73 && eqb c 71)) (λ e. rw e (omega arith)) (λ e. rw e (omega arith))
kind_small (a ∷ b ∷ c ∷ d ∷ l) = omega arith

-- what is asked of nothing holds
pub is_always : Is true (Unit {0})
is_always = (λ _. tt, λ _. refl)

-- ---- a kind's row of a table, as the code writes it

pub row_at : (t lit rest : List ℕ) (a k j : ℕ) → drop a t ≡ lit ++ rest → k * 9 ≡ a → j < length lit → get_or lit j 0 ≡ get_or t (k * 9 + j) 0
row_at t lit rest a k j d e h =
    sym (get_or-append lit rest 0 j h)
    ∙ (ap (λ (l : List ℕ). get_or l j 0) (sym d) ∙ (get_or-drop a t j 0 ∙ ap (λ (n : ℕ). get_or t (n + j) 0) (sym e)))

abbrev pub nought : List ℕ
nought = 0 ∷ 0 ∷ 0 ∷ 0 ∷ 0 ∷ 0 ∷ 0 ∷ 0 ∷ 0 ∷ []

-- nothing stands past the end of a table
pub past : (l : List ℕ) (i : ℕ) → length l ≤ i → get_or l i 0 ≡ 0
past [] i h = refl
past (x ∷ xs) zero h = absurd (omega arith)
past (x ∷ xs) (suc i) h = past xs i (omega arith)

-- no kind has a number behind the table
behind : (t : List ℕ) (k j : ℕ) → length t ≤ k * 9 → get_or nought j 0 ≡ get_or t (k * 9 + j) 0
behind t k j h = zeros_at 9 j ∙ sym (past t (k * 9 + j) (omega arith))

-- what is no kind has no numbers
pub no_kind : (k : ℕ) → k ≢ 1 → k ≢ 2 → k ≢ 3 → k ≢ 4 → k ≢ 5 → k ≢ 6 → (k ≡ 0) ⊎ (7 ≤ k)
no_kind zero a b c d e f = inl refl
no_kind (suc zero) a b c d e f = absurd (a refl)
no_kind (suc (suc zero)) a b c d e f = absurd (b refl)
no_kind (suc (suc (suc zero))) a b c d e f = absurd (c refl)
no_kind (suc (suc (suc (suc zero)))) a b c d e f = absurd (d refl)
no_kind (suc (suc (suc (suc (suc zero))))) a b c d e f = absurd (e refl)
no_kind (suc (suc (suc (suc (suc (suc zero)))))) a b c d e f = absurd (f refl)
no_kind (suc (suc (suc (suc (suc (suc (suc k))))))) a b c d e f = inr (seven k)
  where
    seven : (k : ℕ) → 7 ≤ suc (suc (suc (suc (suc (suc (suc k))))))
    seven k = omega arith

pub low_none : (k j : ℕ) → (k ≡ 0) ⊎ (7 ≤ k) → j < 9 → get_or nought j 0 ≡ low_of k j
unfolding low_of lows
low_none k j w h = ⊎_elim (λ e. row_at lows nought (drop 9 lows) 0 k j refl (omega arith) h) (λ e. behind lows k j (omega arith)) w

pub high_none : (k j : ℕ) → (k ≡ 0) ⊎ (7 ≤ k) → j < 9 → get_or nought j 0 ≡ high_of k j
unfolding high_of highs
high_none k j w h = ⊎_elim (λ e. row_at highs nought (drop 9 highs) 0 k j refl (omega arith) h) (λ e. behind highs k j (omega arith)) w

-- no number of a RIG line and of a B line names a task or a flag
pub sort_none : (k j : ℕ) → k ≢ 2 → k ≢ 3 → k ≢ 4 → k ≢ 5 → j < 9 → get_or nought j 0 ≡ sort_of k j
unfolding sort_of sorts
sort_none k j b c d e h =
    by (eqb k 1)
    (λ t. row_at sorts nought (drop 18 sorts) 9 k j refl (let z = eqb-true k 1 t in omega arith) h)
    (λ t. by (eqb k 6)
    (λ u. row_at sorts nought [] 54 k j refl (let z = eqb-true k 6 u in omega arith) h)
    (λ u. ⊎_elim (λ z. row_at sorts nought (drop 9 sorts) 0 k j refl (omega arith) h) (λ z. behind sorts k j (omega arith))
    (no_kind k (eqb-false k 1 t) b c d e (eqb-false k 6 u))))

pub count_none : (k : ℕ) → (k ≡ 0) ⊎ (7 ≤ k) → 0 ≡ count_of k
unfolding count_of counts
count_none k w = ⊎_elim (λ e. rw e) (λ e. sym (past counts k (omega arith))) w

pub key_none : (k : ℕ) → k ≢ 2 → k ≢ 3 → k ≢ 4 → k ≢ 5 → 0 ≡ keys_of k
unfolding keys_of keys
key_none zero a b c d = refl
key_none (suc zero) a b c d = refl
key_none (suc (suc zero)) a b c d = absurd (a refl)
key_none (suc (suc (suc zero))) a b c d = absurd (b refl)
key_none (suc (suc (suc (suc zero)))) a b c d = absurd (c refl)
key_none (suc (suc (suc (suc (suc zero))))) a b c d = absurd (d refl)
key_none (suc (suc (suc (suc (suc (suc zero)))))) a b c d = refl
key_none (suc (suc (suc (suc (suc (suc (suc k))))))) a b c d = refl
