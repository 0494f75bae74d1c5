-- What the code's tests of rank come to.
use Rattle.std.specs.Prelude.{◌≡◌, cond, not, ◌&&◌, ◌||◌, Bool, ◌+◌, ℕ, eqb, ltb, leb, ◌≢◌, List, get_or}
use Rattle.rules.specs.Running.{best, chosen, best_one, rank}
use Rattle.std.proofs.Common.{eq-eqb, ne_eqb}

-- a turn of the search for the best: a task that is dispatchable is compared by rank, another is passed over
module _ (pv pr : ℕ → ℕ) (l : List ℕ) (i b : ℕ) where
  pub best_compares : (x y : ℕ) (r : Bool) → get_or l (i + 1) 0 ≡ 3 → x ≡ rank pv pr b → y ≡ rank pv pr (i + 1)
      → r ≡ (eqb b 0 || ltb x y) → cond r (i + 1) b ≡ best_one pv pr l i b
  best_compares x y r es ex ey er = rw (er, ex, ey, eq-eqb (get_or l (i + 1) 0) 3 es)

  pub best_passes : get_or l (i + 1) 0 ≢ 3 → b ≡ best_one pv pr l i b
  best_passes n = rw (ne_eqb (get_or l (i + 1) 0) 3 n)

-- who runs, by the best and by who ran
pub choice : (pv pr : ℕ → ℕ) (l : List ℕ) (n b x y : ℕ) (r : Bool) → b ≡ best pv pr l 64 → x ≡ rank pv pr b → y ≡ rank pv pr n
    → r ≡ (not (eqb n 0) && (eqb (get_or l n 0) 3 && leb x y)) → cond r n b ≡ chosen pv pr l n
unfolding chosen
choice pv pr l n b x y r eb ex ey er = rw (er, ex, ey, eb)
