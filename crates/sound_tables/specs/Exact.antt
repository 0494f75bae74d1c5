-- What each test says: it is true exactly when the rules' soundness has the part that it tests.
use Rattle.std.specs.Prelude.{◌≡◌, refl, ◌≢◌, ◌↔◌, Bool, true, false, not, cond, ◌||◌, List, ℕ, ◌+◌, ◌≤◌, ◌<◌, eqb, leb, ltb, length, get_or}
use Rattle.std.proofs.Common.{sym, ◌∙◌, ap, true≢false, arith, leb-true, le-leb, ltb-true, ltb-false, le-ltb, eqb-true, eq-eqb, ne_eqb}
use Rattle.std.proofs.lemmas.Bool.{false≢true, eqb-false}
use Rattle.std.proofs.Math.ListN.{get_or-eq_default}
use Rattle.laws.specs.Cases.{by, by_eqb}
use Rattle.laws.specs.All.{all}
use Rattle.laws.specs.Laws.All.{all_at, all_all, all_more}
use Rattle.laws.specs.Laws.Tables.{has_place}
use Rattle.rules.specs.State.{active}
use Rattle.rules.specs.Calls.{no_such_one}
use Rattle.rules.specs.Soundness.{Within, Tree}
use Rattle.rules_laws.specs.Acceptance.{there_is}
use Rattle.sound_tables.specs.Tests.{within_one, within_b, empty_one, empty_b, cond_one, conds_b, tree_one, tree_b, wait_one, waits_b, flag_of_one, flags_b}

-- a number that is none of 1 to many
pub no_such : (many n : ℕ) → no_such_one many n ≡ true → (1 ≤ n) × (n ≤ many) → ⊥
unfolding no_such_one
no_such many n e h = true≢false (sym e ∙ rw (ne_eqb n 0 (λ q. omega (arith, h.0)), le-ltb many n h.1))

-- every place of a table, in range or not
everywhere : (l : List ℕ) (P : ℕ → ℕ → Type 0) → ((i : ℕ) → P i 0) → ((i : ℕ) → i < length l → P i (get_or l i 0)) → (i : ℕ) → P i (get_or l i 0)
everywhere l P z h i =
    by (ltb i (length l)) (λ e. h i (ltb-true i (length l) e)) (λ e. rw (get_or-eq_default l 0 (ltb-false i (length l) e)) (z i))

not_true : (b : Bool) → not b ≡ true → b ≡ false
not_true true e = absurd (false≢true e)
not_true false e = refl

module _ (l : List ℕ) (many : ℕ) where
  module _ (top : ℕ) where
    within_one_lem : (i : ℕ) → within_one l many top i ≡ true → (get_or l i 0 ≤ top) × (get_or l i 0 ≢ 0 → (1 ≤ i) × (i ≤ many))
    within_one_lem i = go (no_such_one many i) refl
      where
        go : (b : Bool) → no_such_one many i ≡ b → leb (get_or l i 0) (cond b 0 top) ≡ true → (get_or l i 0 ≤ top) × (get_or l i 0 ≢ 0 → (1 ≤ i) × (i ≤ many))
        go true e q =
            let z : get_or l i 0 ≤ 0 = leb-true (get_or l i 0) 0 q in
            (omega arith, (λ n. absurd (n (omega arith))))
        go false e q = (leb-true (get_or l i 0) top q, (λ n. there_is many i e))

    one_within : (i : ℕ) → get_or l i 0 ≤ top → (get_or l i 0 ≢ 0 → (1 ≤ i) × (i ≤ many)) → within_one l many top i ≡ true
    one_within i a b = go (no_such_one many i) refl
      where
        go : (c : Bool) → no_such_one many i ≡ c → leb (get_or l i 0) (cond c 0 top) ≡ true
        go true e =
            by_eqb (get_or l i 0) 0 (λ x. leb (get_or l i 0) 0 ≡ true) (λ q. le-leb (get_or l i 0) 0 (omega arith)) (λ n. absurd (no_such many i e (b n)))
        go false e = le-leb (get_or l i 0) top a

    pub within_facts : within_b l many top ≡ true → ((i : ℕ) → get_or l i 0 ≤ top) × Within many l
    within_facts e =
        let k : (i : ℕ) → i < length l → (get_or l i 0 ≤ top) × (get_or l i 0 ≢ 0 → (1 ≤ i) × (i ≤ many)) =
        λ i h. within_one_lem i (all_at (length l) (within_one l many top) e i h) in
        ((λ i. everywhere l (λ j x. x ≤ top) (λ j. omega arith) (λ j h. (k j h).0) i), (λ i n. (k i (has_place l i n)).1 n))

    pub within_back : ((i : ℕ) → get_or l i 0 ≤ top) → Within many l → within_b l many top ≡ true
    within_back a b = all_all (length l) (within_one l many top) (λ i h. one_within i (a i) (b i))

  pub empty_facts : length l ≡ 65 → empty_b l many ≡ true → Within many l
  empty_facts z e i n = go (no_such_one many i) refl (all_at 65 (empty_one l many) e i (omega (arith, has_place l i n)))
    where
      go : (b : Bool) → no_such_one many i ≡ b → (not b || eqb (get_or l i 0) 0) ≡ true → (1 ≤ i) × (i ≤ many)
      go true x q = absurd (n (eqb-true (get_or l i 0) 0 q))
      go false x q = there_is many i x

  pub empty_back : Within many l → empty_b l many ≡ true
  empty_back b = all_all 65 (empty_one l many) (λ i h. go i (no_such_one many i) refl)
    where
      go : (i : ℕ) (c : Bool) → no_such_one many i ≡ c → (not c || eqb (get_or l i 0) 0) ≡ true
      go i true e = by_eqb (get_or l i 0) 0 (λ x. x ≡ true) (λ q. refl) (λ n. absurd (no_such many i e (b i n)))
      go i false e = refl

module _ (present conds : List ℕ) where
  cond_one_lem : (i : ℕ) → cond_one present conds i ≡ true → (get_or conds i 0 ≤ 1) × (get_or conds i 0 ≢ 0 → get_or present i 0 ≡ 1)
  cond_one_lem i =
      by_eqb (get_or present i 0) 1 (λ b. leb (get_or conds i 0) (cond b 1 0) ≡ true → (get_or conds i 0 ≤ 1) × (get_or conds i 0 ≢ 0 → get_or present i 0 ≡ 1))
      (λ e q. (leb-true (get_or conds i 0) 1 q, (λ n. e)))
      (λ e q. let z : get_or conds i 0 ≤ 0 = leb-true (get_or conds i 0) 0 q in (omega arith, (λ n. absurd (n (omega arith)))))

  one_cond : (i : ℕ) → get_or conds i 0 ≤ 1 → (get_or conds i 0 ≢ 0 → get_or present i 0 ≡ 1) → cond_one present conds i ≡ true
  one_cond i a b =
      by_eqb (get_or present i 0) 1 (λ c. leb (get_or conds i 0) (cond c 1 0) ≡ true)
      (λ e. le-leb (get_or conds i 0) 1 a)
      (λ e. by_eqb (get_or conds i 0) 0 (λ c. leb (get_or conds i 0) 0 ≡ true) (λ q. le-leb (get_or conds i 0) 0 (omega arith)) (λ n. absurd (e (b n))))

  pub conds_facts : length conds ≡ 1040 → conds_b present conds ≡ true → ((i : ℕ) → get_or conds i 0 ≤ 1) × ((i : ℕ) → get_or conds i 0 ≢ 0 → get_or present i 0 ≡ 1)
  conds_facts z e =
      let k : (i : ℕ) → i < 1040 → (get_or conds i 0 ≤ 1) × (get_or conds i 0 ≢ 0 → get_or present i 0 ≡ 1) =
      λ i h. cond_one_lem i (all_at 1040 (cond_one present conds) e i h) in (
        (λ i. everywhere conds (λ j x. x ≤ 1) (λ j. omega arith) (λ j h. (k j (omega (arith, h))).0) i),
        (λ i n. (k i (omega (arith, has_place conds i n))).1 n),
      )

  pub conds_back : ((i : ℕ) → get_or conds i 0 ≤ 1) → ((i : ℕ) → get_or conds i 0 ≢ 0 → get_or present i 0 ≡ 1) → conds_b present conds ≡ true
  conds_back a b = all_all 1040 (cond_one present conds) (λ i h. one_cond i (a i) (b i))

module _ (t a b : ℕ) where
  tree_one_lem : (eqb t 1 || (eqb a 0 || not (eqb b 0))) ≡ true → t ≢ 1 → a ≢ 0 → b ≢ 0
  tree_one_lem e n m =
      eqb-false b 0
      (not_true (eqb b 0)
      (sym (ap (λ (x : Bool). x || not (eqb b 0)) (ne_eqb a 0 m)) ∙ sym (ap (λ (x : Bool). x || (eqb a 0 || not (eqb b 0))) (ne_eqb t 1 n)) ∙ e))

  one_tree : (t ≢ 1 → a ≢ 0 → b ≢ 0) → (eqb t 1 || (eqb a 0 || not (eqb b 0))) ≡ true
  one_tree h =
      by_eqb t 1 (λ x. (x || (eqb a 0 || not (eqb b 0))) ≡ true) (λ e. refl)
      (λ n. by_eqb a 0 (λ x. (x || not (eqb b 0)) ≡ true) (λ e. refl) (λ m. ap not (ne_eqb b 0 (h n m))))

module _ (controller states : List ℕ) where
  pub tree_facts : length states ≡ 65 → tree_b controller states ≡ true → Tree (λ (t : ℕ). get_or controller t 0) states
  tree_facts z e t n m =
      tree_one_lem t (get_or states t 0) (get_or states (get_or controller t 0) 0)
      (all_at 65 (tree_one controller states) e t (omega (arith, has_place states t m))) n m

  pub tree_back : Tree (λ (t : ℕ). get_or controller t 0) states → tree_b controller states ≡ true
  tree_back h =
      all_all 65 (tree_one controller states) (λ t l. one_tree t (get_or states t 0) (get_or states (get_or controller t 0) 0) (h t))

  -- no task beyond the last is invoked, so those up to it are all
  pub tree_many : (many : ℕ) → Within many states → many ≤ 64 → all (many + 1) (tree_one controller states) ≡ tree_b controller states
  tree_many many w h =
      all_more (many + 1) 65 (tree_one controller states) (omega (arith, h))
      (λ t a b. one_tree t (get_or states t 0) (get_or states (get_or controller t 0) 0) (λ n m. absurd (omega (arith, a, (w t m).1))))

module _ (a b : ℕ) where
  wait_one_lem : cond (eqb a 2) (not (eqb b 0)) (eqb b 0) ≡ true → (a ≡ 2) ↔ (b ≢ 0)
  wait_one_lem =
      by_eqb a 2 (λ x. cond x (not (eqb b 0)) (eqb b 0) ≡ true → (a ≡ 2) ↔ (b ≢ 0))
      (λ e f. ((λ q. eqb-false b 0 (not_true (eqb b 0) f)), (λ n. e)))
      (λ e f. ((λ q. absurd (e q)), (λ n. absurd (n (eqb-true b 0 f)))))

  one_wait : (a ≡ 2) ↔ (b ≢ 0) → cond (eqb a 2) (not (eqb b 0)) (eqb b 0) ≡ true
  one_wait h =
      by_eqb a 2 (λ x. cond x (not (eqb b 0)) (eqb b 0) ≡ true)
      (λ e. ap not (ne_eqb b 0 (h.0 e)))
      (λ e. by_eqb b 0 (λ x. x ≡ true) (λ q. refl) (λ n. absurd (e (h.1 n))))

module _ (states on : List ℕ) where
  pub waits_facts : waits_b states on ≡ true → (t : ℕ) → t < 65 → (get_or states t 0 ≡ 2) ↔ (get_or on t 0 ≢ 0)
  waits_facts e t h = wait_one_lem (get_or states t 0) (get_or on t 0) (all_at 65 (wait_one states on) e t h)

  pub waits_back : ((t : ℕ) → t < 65 → (get_or states t 0 ≡ 2) ↔ (get_or on t 0 ≢ 0)) → waits_b states on ≡ true
  waits_back h = all_all 65 (wait_one states on) (λ t l. one_wait (get_or states t 0) (get_or on t 0) (h t l))

module _ (a v s : ℕ) where
  flag_one : (eqb a 0 || eqb v (active s)) ≡ true → a ≢ 0 → v ≡ active s
  flag_one e n = eqb-true v (active s) (sym (ap (λ (x : Bool). x || eqb v (active s)) (ne_eqb a 0 n)) ∙ e)

  one_flag_lem : (a ≢ 0 → v ≡ active s) → (eqb a 0 || eqb v (active s)) ≡ true
  one_flag_lem h = by_eqb a 0 (λ x. (x || eqb v (active s)) ≡ true) (λ e. refl) (λ n. eq-eqb v (active s) (h n))

module _ (activation states values : List ℕ) where
  pub flags_facts : length activation ≡ 65 → flags_b activation states values ≡ true
      → (t : ℕ) → get_or activation t 0 ≢ 0 → get_or values (get_or activation t 0) 0 ≡ active (get_or states t 0)
  flags_facts z e t n =
      flag_one (get_or activation t 0) (get_or values (get_or activation t 0) 0) (get_or states t 0)
      (all_at 65 (flag_of_one activation states values) e t (omega (arith, has_place activation t n))) n

  pub flags_back : ((t : ℕ) → get_or activation t 0 ≢ 0 → get_or values (get_or activation t 0) 0 ≡ active (get_or states t 0))
      → flags_b activation states values ≡ true
  flags_back h =
      all_all 65 (flag_of_one activation states values)
      (λ t l. one_flag_lem (get_or activation t 0) (get_or values (get_or activation t 0) 0) (get_or states t 0) (h t))

  -- no task beyond the last has an activation flag, so those up to it are all
  pub flags_many : (many : ℕ) → Within many activation → many ≤ 64
      → all (many + 1) (flag_of_one activation states values) ≡ flags_b activation states values
  flags_many many w h =
      all_more (many + 1) 65 (flag_of_one activation states values) (omega (arith, h))
      (λ t a b.
      one_flag_lem (get_or activation t 0) (get_or values (get_or activation t 0) 0) (get_or states t 0) (λ n. absurd (omega (arith, a, (w t n).1))))
