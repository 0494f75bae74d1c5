-- The tables of a level: with no link there are those that need none; with one more, those whose links are open to tasks within the others;
-- where nobody can start with one link less, a link more opens nothing.
use Rattle.std.proofs.Common.{◌≡◌, ◌∙◌, sym, refl, true, List, ℕ, zero, suc, ◌-◌, arith}
use Rattle.start_tests.specs.Tables.{Linked, nobody, opened_in}
use Rattle.start_levels.specs.Levels.{conditions_at, tasks_at}
use Rattle.start_levels.specs.Laws.Entries.{opened_none}

pub at_none : (task place : List ℕ) (m : ℕ) (state base : List ℕ) (d : ℕ) → d ≡ 0 → base ≡ conditions_at task place m state base d
unfolding conditions_at
at_none task place m state base d e = rw e

pub at_more : (task place : List ℕ) (m : ℕ) (state base : List ℕ) (d : ℕ) (can table : List ℕ) → (d ≡ 0 → ⊥)
    → can ≡ tasks_at task place m state base (d - 1)
    → table ≡ opened_in m task place can base
    → table ≡ conditions_at task place m state base d
unfolding conditions_at
at_more task place m state base zero can table f g h = absurd (f refl)
at_more task place m state base (suc d) can table f g h = let e : suc d - 1 ≡ d = omega arith in h ∙ rw (g, e)

pub at_rest : (task place : List ℕ) (m : ℕ) (state base : List ℕ) (d : ℕ) (can : List ℕ) → (d ≡ 0 → ⊥)
    → can ≡ tasks_at task place m state base (d - 1)
    → Linked m task place
    → nobody can ≡ true
    → base ≡ conditions_at task place m state base d
at_rest task place m state base d can f g h none = at_more task place m state base d can base f g (sym (opened_none m task place can base h none))
