-- A search by number and one along the list come to the same.
use Rattle.std.specs.Prelude.{◌≡◌, Bool, ◌||◌, List, [], ◌∷◌, ℕ, zero, suc, ◌+◌, ◌≤◌, get_or, length}
use Rattle.std.proofs.Common.{sym, ◌∙◌, ap, arith, add-one}
use Rattle.std.proofs.Math.ListN.{take, drop}
use Rattle.std.proofs.lemmas.List.{take_all}
use Rattle.std.specs.List.{list_any}
use Rattle.std.proofs.lemmas.List.Folds.{list_any_more}
use Rattle.laws.specs.Any.{any}
use Rattle.laws.specs.Laws.Any.{any_zero, any_more, any_same}
use Rattle.chains.specs.Held.{at}
use Rattle.rig.specs.Rules.{no_cycle}
use Rattle.rig.specs.declared.Cycle.{Cycle}
use Rattle.rules.specs.Rig.{in_cycle, is_minor}
use Rattle.exec_queue.specs.View.{minor_of}

module _ {X : Type 0} (p : X → Bool) (l : List X) (d : X) where
  up_to : (i : ℕ) → i ≤ length l → any i (λ k. p (get_or l k d)) ≡ list_any p (take i l)
  up_to zero h = any_zero _
  up_to (suc i) h =
      let m : any (i + 1) (λ k. p (get_or l k d)) ≡ list_any p (take (i + 1) l) =
      any_more i (λ k. p (get_or l k d)) ∙ ap (λ (b : Bool). b || p (get_or l i d)) (up_to i (omega arith)) ∙ sym (list_any_more p l i d (omega arith)) in
      rw add-one at m

  pub any_list : (n : ℕ) → length l ≡ n → any n (λ k. p (get_or l k d)) ≡ list_any p l
  any_list n e = up_to n (omega (arith, e)) ∙ ap (list_any p) (take_all n l (omega (arith, e)))

-- .. from the second on
pub any_behind : {X : Type 0} (p : X → Bool) (l : List X) (d : X) (n : ℕ) → length l ≡ suc n
    → any n (λ k. p (get_or l (k + 1) d)) ≡ list_any p (take n (drop 1 l))
any_behind p [] d n e = absurd (omega (arith, e))
any_behind p (x ∷ l) d n e =
    let z : length l ≡ n = omega (arith, e) in
    any_same n (λ k. p (get_or (x ∷ l) (k + 1) d)) (λ k. p (get_or l k d)) (λ k h. ap (λ (j : ℕ). p (get_or (x ∷ l) j d)) (add-one k))
    ∙ any_list p l d n z ∙ sym (ap (list_any p) (take_all n l (omega (arith, z))))

-- a flag is on the list of some cycle
pub minor_list : (cycles : List Cycle) (f : ℕ) → length cycles ≡ 64
    → is_minor (minor_of cycles) f ≡ list_any (λ (y : Cycle). in_cycle (at y.flags) f) cycles
unfolding is_minor
minor_list cycles f e = any_list (λ (y : Cycle). in_cycle (at y.flags) f) cycles no_cycle 64 e
