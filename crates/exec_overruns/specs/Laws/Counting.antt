-- Tasks are counted one after the other: the loop, turn by turn.
use Rattle.std.specs.Prelude.{◌≡◌, refl, Bool, true, false, ◌&&◌, List, ℕ, ◌+◌, ◌-◌, ◌≤◌, ◌<◌, get_or, set, min}
use Rattle.std.proofs.Math.Path.{sym, ap}
use Rattle.std.proofs.Common.{◌∙◌, arith, lt-ltb, le-ltb}
use Rattle.std.proofs.Math.Bool.{cond}
use Rattle.std.proofs.Math.Dec.{eqb}
use Rattle.std.proofs.Math.Logic.{⊎_elim}
use Rattle.std.proofs.Math.Nat.{min_comm, min-eq_left}
use Rattle.std.proofs.lemmas.Bool.{cases_lt}
use Rattle.std.specs.Int.{from_bool}
use Rattle.std.proofs.lemmas.List.{set-get_or}
use Rattle.laws.specs.Cases.{if_yes, if_no}
use Rattle.laws.specs.Iter.{iter}
use Rattle.laws.specs.Laws.Iter.{iter_zero, iter_step}
use Rattle.laws.specs.Laws.Stores.{stores_miss}
use Rattle.rules.specs.Rig.{Rig, is_minor}
use Rattle.rules.specs.State.{State, active}
use Rattle.rules.specs.Conditions.{names}
use Rattle.rules.specs.Serving.{too_soon, most_overruns, more_by_one, overrun_one, overrun}
use Rattle.exec_overruns.specs.Post.{as_before, Names, Counted}

pub one_at_most : (add : ℕ) (soon : Bool) → add ≡ cond soon 1 0 → add ≤ 1
one_at_most add true e = omega arith
one_at_most add false e = omega arith

-- "It stops at 65,535": there, and below
pub more_stops : (n add : ℕ) (soon : Bool) → n ≤ 65535 → add ≡ cond soon 1 0 → 65535 - add < n → 65535 ≡ cond soon (more_by_one n) n
unfolding more_by_one most_overruns
more_stops n add true h e k = sym (if_no _ (le-ltb n 65535 (omega arith)) (omega arith))
more_stops n add false h e k = absurd (omega arith)

pub more_goes : (n add : ℕ) (soon : Bool) → add ≡ cond soon 1 0 → n ≤ 65535 - add → n + add ≡ cond soon (more_by_one n) n
unfolding more_by_one most_overruns
more_goes n add true e k = sym (if_yes _ (lt-ltb n 65535 (omega arith)) (omega arith))
more_goes n add false e k = omega arith

-- the sum that stops: the lesser of the sum and the most
pub more_most : (n add : ℕ) (soon : Bool) → n ≤ 65535 → add ≡ cond soon 1 0 → min (n + add) 65535 ≡ cond soon (more_by_one n) n
more_most n add soon h e =
    let a : add ≤ 1 = one_at_most add soon e in
    ⊎_elim (λ l. min_comm (n + add) 65535 ∙ min-eq_left (omega arith) ∙ more_stops n add soon h e (omega arith))
    (λ l. min-eq_left l ∙ more_goes n add soon e (omega arith))
    (cases_lt 65535 (n + add))

pub one_or_none : (soon : Bool) → from_bool soon ≡ cond soon 1 0
one_or_none true = refl
one_or_none false = refl

-- marked and active is named and active, where the flag is a minor-cycle flag
in_turn : (a n m : Bool) → m ≡ true → (a && (n && m)) ≡ (n && a)
in_turn true true m e = e
in_turn true false m e = refl
in_turn false true m e = refl
in_turn false false m e = refl

module _ (named states numbers : List ℕ) where
  -- tasks 1 to i are done
  abbrev pub Counting : List ℕ → ℕ → Type 0
  Counting l i = (r : Rig) (f : ℕ) (s : State) → Names r f named → l ≡ iter i (overrun_one r f (as_before states numbers s)) numbers

  pub counting_start : Counting numbers 0
  counting_start r f s k = sym (iter_zero _ _)

  pub counting_next : (l : List ℕ) (i : ℕ) → i < 64 → Counting l i → (b : Bool) → b ≡ (eqb (get_or named (i + 1) 0) 1 && eqb (active (get_or states (i + 1) 0)) 1)
      → (n : ℕ) → n ≡ cond b (more_by_one (get_or l (i + 1) 0)) (get_or l (i + 1) 0) → Counting (set l (i + 1) n) (i + 1)
  unfolding too_soon
  counting_next l i a h b e n q r f s k =
      go b q
      ∙ ap (λ (x : Bool). cond x (set l (i + 1) (more_by_one (get_or numbers (i + 1) 0))) l) (e ∙ sym soon)
      ∙ iter_step i (overrun_one r f (as_before states numbers s)) numbers l (h r f s k)
    where
      soon : too_soon r f (as_before states numbers s) (i + 1) ≡ (eqb (get_or named (i + 1) 0) 1 && eqb (active (get_or states (i + 1) 0)) 1)
      soon =
          in_turn (eqb (active (get_or states (i + 1) 0)) 1) (names r.lines r.line_task r.line_flag (i + 1) f) (is_minor r.minor f) k.minor
          ∙ ap (λ (x : Bool). x && eqb (active (get_or states (i + 1) 0)) 1) (k.those (i + 1) (omega arith))

      -- no turn before it was at its place
      untouched : get_or l (i + 1) 0 ≡ get_or numbers (i + 1) 0
      untouched = ap (λ (x : List ℕ). get_or x (i + 1) 0) (h r f s k) ∙ stores_miss (λ j. too_soon r f (as_before states numbers s) (j + 1)) (λ j. j + 1) (λ j. more_by_one (get_or numbers (j + 1) 0)) i numbers (i + 1) (λ j c d y. omega arith)

      go : (x : Bool) → n ≡ cond x (more_by_one (get_or l (i + 1) 0)) (get_or l (i + 1) 0)
          → set l (i + 1) n ≡ cond x (set l (i + 1) (more_by_one (get_or numbers (i + 1) 0))) l
      go true y = ap (set l (i + 1)) (y ∙ ap more_by_one untouched)
      go false y = ap (set l (i + 1)) y ∙ set-get_or l (i + 1) 0

  pub counting_done : (l : List ℕ) (i : ℕ) → Counting l i → i ≡ 64 → Counted named states numbers l
  unfolding overrun
  counting_done l i h e r f s k = rw e at (h r f s k)
