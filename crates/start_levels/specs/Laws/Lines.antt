-- What the flag of one A line does, by its owner: the words of the rules and the tests of the tables agree.
use Rattle.std.specs.Prelude.{◌≡◌, refl, ◌≢◌, Bool, false, not, cond, ◌&&◌, ◌||◌, List}
use Rattle.std.proofs.Math.Path.{sym, ap}
use Rattle.std.proofs.Common.{◌∙◌, true≢false, arith, add-one}
use Rattle.std.proofs.Math.Bool.{true}
use Prim.Native.Nat.{ℕ, zero, suc, ◌+◌, ◌-◌, ◌≤◌, ◌<◌}
use Rattle.std.proofs.Math.Dec.{eqb, ltb}
use borrow.Author.Tests.{eqb-true, eqb-false, eq-eqb, lt-ltb}
use Rattle.laws.specs.Any.{any}
use Rattle.laws.specs.Cases.{by, by_bool, and_true, and_go, and_no, or_no}
use Rattle.laws.specs.Laws.Any.{any_at, any_some}
use Rattle.laws.specs.Laws.Decides.{is_eqb, is_and, is_said, is_same}
use Rattle.laws.specs.Laws.Owners.{owner_key, owner_some}
use Rattle.rig_tables.specs.Places.{at, place}
use Rattle.rig_tables.specs.Laws.Passes.{some_suc}
use Rattle.rig.specs.Rules.{Right}
use Rattle.rig.specs.declared.Cycle.{Cycle}
use Rattle.rig.specs.declared.Rig.{Rig}
use Rattle.rules.specs.Rig as G
use Rattle.rules.specs.State.{active}
use Rattle.rules.specs.Starting.{owner_one, flag_of, comes_on, goes_off, comes_to, is_active}
use Rattle.rules_laws.specs.RefusedExactly.{is_minor_lem, is_activation_lem}
use Rattle.exec_state.specs.View.{rig_of, view_of}
use Rattle.exec_state.specs.declared.State.{State}
use Rattle.start_tests.specs.Tables.{place_at, owner_at, helps_one}
use Rattle.start_levels.specs.Levels.{Sized, owners_of, link_of}

-- "Active is 2 or 3", as the tables ask for it
active_above : (n : ℕ) → eqb (active n) 1 ≡ ltb 1 n
active_above zero = refl
active_above (suc zero) = refl
active_above (suc (suc n)) = sym (lt-ltb 1 (suc (suc n)) (omega arith))

-- two conditions stand at one place if they are the same task's, at the same position
pub place_same : (u q t p : ℕ) → q < 16 → p < 16 → eqb (place u q) (place t p) ≡ (eqb u t && eqb q p)
place_same u q t p a b =
    is_same (is_said (is_eqb (place u q) (place t p)) (λ e. (omega (arith, a, b, e), omega (arith, a, b, e))) (λ w. omega (arith, w.0, w.1)))
    (is_and (is_eqb u t) (is_eqb q p))

-- the rules of comes_to over what they ask: d desires on, m a minor-cycle flag, a an activation flag, x of a task that can start,
-- y of an active task
unowned_comes : (d m a x y : Bool) → a ≡ false → (d ≡ false → m ≡ false) → cond d (m || (not (m || a) || x)) (not (m || a) || y) ≡ true
unowned_comes true true a x y e h = refl
unowned_comes true false a x y e h = rw e
unowned_comes false m a x y e h = rw (e, h refl)

owned_comes : (d m a x y : Bool) → m ≡ false → a ≡ true → cond d (m || (not (m || a) || x)) (not (m || a) || y) ≡ cond d x y
owned_comes true m a x y e f = rw (e, f)
owned_comes false m a x y e f = rw (e, f)

split_comes : (d x y b : Bool) (n : ℕ) → x ≡ b → y ≡ ltb 1 n → (b ≡ true → n ≡ 1)
    → cond d x y ≡ ((not d && ltb 1 n) || ((d && eqb n 1) && b))
split_comes true x y true n e f q = rw (e, q refl)
split_comes true x y false n e f q = e ∙ sym (and_no (eqb n 1))
split_comes false x y b n e f q = f ∙ sym (or_no (ltb 1 n))

module _ (g : Rig) (cycles : List Cycle) (h : Right g cycles) where
  abbrev r : G.Rig
  r = rig_of g cycles

  pub sized : Sized g
  sized =
      record {
        few = h.line_count;
        task = λ k l. omega (arith, (h.lines k l).task.1, h.task_count.1);
        pos = λ k l. (h.lines k l).position;
        flag = λ k l. omega (arith, (h.lines k l).flag.1, h.flag_count.1);
        activation = λ t l. omega (arith, h.activation_numbers t l, h.flag_count.1);
      }

  activation_none : at g.activation 0 ≡ 0
  activation_none = (h.task_zeros 0 (omega arith) (λ q. omega (arith, q.0))).activation

  -- a flag that has no owner is no activation flag
  unowned : (f : ℕ) → at (owners_of g) f ≡ 0 → G.is_activation (at g.activation) f ≡ false
  unowned f e =
      by_bool (G.is_activation (at g.activation) f) (λ b. b ≡ false)
      (λ t.
      let w = (is_activation_lem r f).0 t in
      let here : w.0 < 65 = omega (arith, w.2) in
      let low : at g.activation w.0 < 129 = omega (arith, sized.activation w.0 here) in
      absurd (owner_some (at g.activation) 129 65 w.0 here low (ap (at (owners_of g)) w.3 ∙ e)))
      (λ t. refl)

  -- an owner is a task with that activation flag, and not place 0 of the table, which is nobody's
  abbrev pub owner_task : ℕ → ℕ
  owner_task f = at (owners_of g) f - 1

  pub owner_most : (f : ℕ) → owner_task f ≤ 64
  owner_most f =
      by (eqb (at (owners_of g) f) 0) (λ e. omega (arith, eqb-true (at (owners_of g) f) 0 e))
      (λ e.
      let w = some_suc (at (owners_of g) f) (eqb-false (at (owners_of g) f) 0 e) in
      omega (arith, w.1, (owner_key (at g.activation) 129 65 f w.0 w.1).0))

  owned : (f : ℕ) → at (owners_of g) f ≢ 0 → at g.activation (owner_task f) ≡ f
  owned f n =
      let w = some_suc (at (owners_of g) f) n in
      let q : owner_task f ≡ w.0 = omega (arith, w.1) in
      ap (at g.activation) q ∙ (owner_key (at g.activation) 129 65 f w.0 w.1).1

  owner_least : (f : ℕ) → f ≢ 0 → at (owners_of g) f ≢ 0 → 1 ≤ owner_task f
  owner_least f n o =
      by (eqb (owner_task f) 0)
      (λ e. absurd (n (sym (owned f o) ∙ ap (at g.activation) (eqb-true (owner_task f) 0 e) ∙ activation_none)))
      (λ e. omega (arith, eqb-false (owner_task f) 0 e))

  -- "An activation flag serves one task and is no minor-cycle flag."
  module _ (f i : ℕ) (n : f ≢ 0) (a : 1 ≤ i) (b : i ≤ 64) (q : at g.activation i ≡ f) where
    owned_activation : G.is_activation (at g.activation) f ≡ true
    owned_activation = (is_activation_lem r f).1 (i, a, b, q)

    owned_not_minor : G.is_minor r.minor f ≡ false
    owned_not_minor =
        by_bool (G.is_minor r.minor f) (λ x. x ≡ false)
        (λ t.
        let w = (is_minor_lem r f).0 t in
        absurd (h.activation_not_minor i (omega (arith, b)) ((λ z. n (sym q ∙ z)), w.0, w.2.0, w.1, w.2.1, w.2.2 ∙ sym q)))
        (λ t. refl)

    owned_flag : (who : ℕ → Bool) → flag_of r who f ≡ who i
    unfolding flag_of
    owned_flag who =
        by_bool (who i) (λ x. any 64 (owner_one r who f) ≡ x)
        (λ e. there i a b q e)
        (λ e.
        by_bool (any 64 (owner_one r who f)) (λ x. x ≡ false)
        (λ t.
        let w = any_some 64 (owner_one r who f) t in
        let both = and_true (G.activation_one (at g.activation) f w.0) (who (w.0 + 1)) w.2 in
        let own = eqb-true (at g.activation (w.0 + 1)) f both.0 in
        let one = h.activation_serves_one (w.0 + 1) i (omega (arith, w.1)) (omega (arith, b)) (λ z. n (sym own ∙ z)) (own ∙ sym q) in
        absurd (true≢false (sym both.1 ∙ ap who one ∙ e)))
        (λ t. refl))
      where
        there : (j : ℕ) → 1 ≤ j → j ≤ 64 → at g.activation j ≡ f → who j ≡ true → any 64 (owner_one r who f) ≡ true
        there zero a b q e = absurd (omega arith)
        there (suc j) a b q e =
            any_at 64 (owner_one r who f) j (omega (arith, b))
            (and_go (eq-eqb (at g.activation (j + 1)) f (ap (at g.activation) (add-one j) ∙ q)) (ap who (add-one j) ∙ e))

  line_flag_named : (k : ℕ) → k < g.lines → at g.line_flag k ≢ 0
  line_flag_named k l e = omega (arith, (h.lines k l).flag.0, e)

  -- "A condition with a minor-cycle flag .. desires on": where it desires off, no line has one
  off_not_minor : (k : ℕ) → k < g.lines → eqb (at g.desired (place_at g.line_task g.line_pos k)) 1 ≡ false
      → G.is_minor r.minor (at g.line_flag k) ≡ false
  off_not_minor k l e =
      by_bool (G.is_minor r.minor (at g.line_flag k)) (λ b. b ≡ false)
      (λ t.
      let w = (is_minor_lem r (at g.line_flag k)).0 t in
      absurd (eqb-false (at g.desired (place_at g.line_task g.line_pos k)) 1 e
      (h.minor_conditions k l (line_flag_named k l, w.0, w.2.0, w.1, w.2.1, w.2.2)).desires))
      (λ t. refl)

  -- the flag of a line brings its condition there if it helps, or if it is a link to a task below
  pub comes : (s : State) (below : ℕ → Bool) → ((u : ℕ) → below u ≡ true → at s.state u ≡ 1) → (k : ℕ) → k < g.lines
      → comes_to r (view_of s) below (at g.desired (place_at g.line_task g.line_pos k)) (at g.line_flag k)
      ≡ (helps_one g.line_task g.line_pos g.line_flag g.desired (owners_of g) s.state k
      || (link_of g s k && below (owner_at g.line_flag (owners_of g) k - 1)))
  unfolding comes_to comes_on goes_off
  comes s below idle k l =
      by_bool (eqb o 0) (λ z. comes_to r (view_of s) below d f ≡ ((z || (not (eqb d 1) && ltb 1 n)) || ((not z && (eqb d 1 && eqb n 1)) && below u)))
      (λ e. unowned_comes (eqb d 1) (G.is_minor r.minor f) (G.is_activation r.activation f) x y (unowned f (eqb-true o 0 e)) (off_not_minor k l))
      (λ e.
      let some = line_flag_named k l in
      let q = owned f (eqb-false o 0 e) in
      let a = owner_least f some (eqb-false o 0 e) in
      let b = owner_most f in
      owned_comes (eqb d 1) (G.is_minor r.minor f) (G.is_activation r.activation f) x y (owned_not_minor f u some a b q) (owned_activation f u some a b q)
      ∙ split_comes (eqb d 1) x y (below u) n (owned_flag f u some a b q below) (owned_flag f u some a b q (is_active (view_of s)) ∙ active_above n) (idle u))
    where
      f : ℕ
      f = at g.line_flag k

      o : ℕ
      o = at (owners_of g) f

      u : ℕ
      u = owner_task f

      n : ℕ
      n = at s.state u

      x : Bool
      x = flag_of r below f

      y : Bool
      y = flag_of r (is_active (view_of s)) f

      d : ℕ
      d = at g.desired (place_at g.line_task g.line_pos k)
