-- What a flag does for a condition, by its owner and what the condition desires, in the order of the code's tests.
use Rattle.std.specs.Prelude.{◌≡◌, refl, ◌≢◌, Bool, true, false, not, ◌&&◌, ◌||◌, List, ℕ, ◌-◌, ◌≤◌, eqb, ltb}
use Rattle.std.proofs.lemmas.Bool.{false≢true, eqb-false, not-true}
use Rattle.std.proofs.Common.{arith, eq-eqb, ne_eqb}
use Rattle.laws.specs.Cases.{and_true}
use Rattle.rig_tables.specs.Places.{at}
use Rattle.start_tests.specs.Tables.{helps, is_link}

module _ (state : List ℕ) (desired owner : ℕ) where
  pub nobodys_helps : owner ≡ 0 → true ≡ helps state desired owner
  nobodys_helps o = rw (eq-eqb owner 0 o)

  pub on_not_helped : owner ≢ 0 → desired ≡ 1 → false ≡ helps state desired owner
  on_not_helped o d = rw (ne_eqb owner 0 o, eq-eqb desired 1 d)

  pub off_helped : owner ≢ 0 → desired ≢ 1 → ltb 1 (at state (owner - 1)) ≡ helps state desired owner
  off_helped o d = rw (ne_eqb owner 0 o, ne_eqb desired 1 d)

  pub nobodys_no_link : owner ≡ 0 → false ≡ is_link state desired owner
  nobodys_no_link o = rw (eq-eqb owner 0 o)

  pub off_no_link : owner ≢ 0 → desired ≢ 1 → false ≡ is_link state desired owner
  off_no_link o d = rw (ne_eqb owner 0 o, ne_eqb desired 1 d)

  pub on_link : owner ≢ 0 → desired ≡ 1 → eqb (at state (owner - 1)) 1 ≡ is_link state desired owner
  on_link o d = rw (ne_eqb owner 0 o, eq-eqb desired 1 d)

  -- a flag that helps with no link is no link
  pub helps_no_link : helps state desired owner ≡ true → is_link state desired owner ≡ false
  helps_no_link e = go (eqb owner 0) (eqb desired 1) (ltb 1 (at state (owner - 1))) (eqb (at state (owner - 1)) 1) e
    where
      go : (o d x y : Bool) → (o || (not d && x)) ≡ true → (not o && (d && y)) ≡ false
      go true d x y h = refl
      go false true x y h = absurd (false≢true h)
      go false false x y h = refl

  -- a link has an owner
  pub link_owned : is_link state desired owner ≡ true → 1 ≤ owner
  link_owned e = some owner (eqb-false owner 0 (not-true _ (and_true _ _ e).0))
    where
      some : (o : ℕ) → o ≢ 0 → 1 ≤ o
      some o h = omega arith
