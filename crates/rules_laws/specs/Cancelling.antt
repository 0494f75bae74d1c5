-- Cancel: the activation flag of who is marked is queued off if it was active. So it too hands the serving a state and a
-- queue that it can start from.
use Rattle.std.specs.Prelude.{◌≡◌, ◌≢◌, Bool, cond, ◌&&◌}
use Rattle.std.proofs.Math.Path.{refl, sym, ap, subst}
use Rattle.std.proofs.Common.{◌∙◌, arith}
use Rattle.std.proofs.Math.Bool.{true, false, true≢false}
use mathlib.Core.List.{List, []}
use Prim.Native.Nat.{ℕ, zero, suc, ◌+◌, ◌≤◌, ◌<◌}
use Rattle.std.proofs.Math.Numerals.{add-one}
use Rattle.std.proofs.Math.Dec.{eqb}
use Rattle.std.proofs.Math.ListN.{length, get_or}
use Rattle.laws.specs.Cases.{by, dec_eq}
use Rattle.laws.specs.Iter.{iter}
use Rattle.laws.specs.Laws.Iter.{iter_ind}
use Rattle.laws.specs.Laws.Tables.{has_place}
use Rattle.rules.specs.Rig.{Rig}
use Rattle.rules.specs.RigOk.{RigOk}
use Rattle.rules.specs.State.{State, Entry, active}
use Rattle.rules.specs.Serving.{push}
use Rattle.rules.specs.Family.{family, is_marked, cleared, off_one, offs}
use Rattle.rules.specs.Calls.{cancelled}
use Rattle.rules.specs.Soundness.{Tasks}
use Rattle.rules_laws.specs.Queued.{Fine, fine_push, look, look_nil, look_absent, Absent, Agree, Clear, rest_absent}
use Rattle.rules_laws.specs.Agreement.{push_absent, push_look, push_look_self}
use Rattle.rules_laws.specs.Lengths.{cleared_length}
use Rattle.rules_laws.specs.Leaving.{cleared_hit, cleared_miss, cleared_small}
use Rattle.rules_laws.specs.FamilyLaws.{marked_down, family_none}
use Rattle.rules_laws.specs.WaitingLaws.{chains_desert}
use Rattle.rules_laws.specs.Good.{Good, Ready}

-- ---- what is queued

module _ (r : Rig) (ok : RigOk r) (marks l : List ℕ) where
  offs_fine : Fine r (offs r.activation marks l)
  unfolding offs
  offs_fine =
      iter_ind (λ i q. Fine r q) (off_one r.activation marks l) [] tt
      (λ i q h. go (is_marked marks (i + 1) && eqb (active (get_or l (i + 1) 0)) 1) i q h) 64
    where
      go : (x : Bool) (i : ℕ) (q : List Entry) → Fine r q → Fine r (cond x (push (r.activation (i + 1)) 0 q) q)
      go true i q h = fine_push r (r.activation (i + 1)) 0 q (ok.activation_le (i + 1)) (omega arith) h
      go false i q h = h

  -- nothing is queued of a task that is not marked, or not yet reached
  some_absent : (k u : ℕ) → r.activation u ≢ 0 → (u ≤ k → is_marked marks u ≡ false) → Absent (r.activation u) (iter k (off_one r.activation marks l) [])
  unfolding iter
  some_absent zero u nz h = tt
  some_absent (suc k) u nz h =
      rw add-one (go (is_marked marks (suc k)) refl (eqb (active (get_or l (suc k) 0)) 1) (some_absent k u nz (λ c. h (omega arith))))
    where
      q : List Entry
      q = iter k (off_one r.activation marks l) []

      go : (x : Bool) → is_marked marks (suc k) ≡ x → (y : Bool) → Absent (r.activation u) q
          → Absent (r.activation u) (cond (x && y) (push (r.activation (suc k)) 0 q) q)
      go true e true ih =
          push_absent r ok (suc k) u 0 q (λ p. true≢false (sym e ∙ sym (ap (is_marked marks) p) ∙ h (omega arith))) nz ih
      go true e false ih = ih
      go false e y ih = ih

  pub offs_absent : (u : ℕ) → r.activation u ≢ 0 → is_marked marks u ≡ false → Absent (r.activation u) (offs r.activation marks l)
  unfolding offs
  offs_absent u nz h = some_absent 64 u nz (λ c. h)

  -- a marked task's flag is going to be off
  some_off : (k u d : ℕ) → r.activation u ≢ 0 → is_marked marks u ≡ true → 1 ≤ u → u ≤ k → d ≡ active (get_or l u 0)
      → look (iter k (off_one r.activation marks l) []) (r.activation u) d ≡ 0
  unfolding iter
  some_off zero u d nz h a b e = absurd (omega arith)
  some_off (suc k) u d nz h a b e =
      rw add-one (go (is_marked marks (suc k)) refl (get_or l (suc k) 0) refl (dec_eq u (suc k)) (λ c. some_off k u d nz h a c e))
    where
      q : List Entry
      q = iter k (off_one r.activation marks l) []

      none : u ≡ suc k → Absent (r.activation u) q
      none p = some_absent k u nz (λ c. absurd (omega arith))

      go : (x : Bool) → is_marked marks (suc k) ≡ x → (m : ℕ) → get_or l (suc k) 0 ≡ m → Dec (u ≡ suc k)
          → (u ≤ k → look q (r.activation u) d ≡ 0)
          → look (cond (x && eqb (active m) 1) (push (r.activation (suc k)) 0 q) q) (r.activation u) d ≡ 0
      go false y m z (yes p) ih = absurd (true≢false (sym h ∙ ap (is_marked marks) p ∙ y))
      go true y zero z (yes p) ih = look_absent (r.activation u) d q (none p) ∙ e ∙ ap (λ (v : ℕ). active (get_or l v 0)) p ∙ ap active z
      go true y (suc zero) z (yes p) ih = look_absent (r.activation u) d q (none p) ∙ e ∙ ap (λ (v : ℕ). active (get_or l v 0)) p ∙ ap active z
      go true y (suc (suc m)) z (yes p) ih =
          rw p (push_look_self r ok (suc k) 0 d q (rw p at nz) (rw p at (none p)))
      go false y m z (no p) ih = ih (omega arith)
      go true y zero z (no p) ih = ih (omega arith)
      go true y (suc zero) z (no p) ih = ih (omega arith)
      go true y (suc (suc m)) z (no p) ih = push_look r ok (suc k) u 0 d q p nz ∙ ih (omega arith)

  pub offs_off : (u d : ℕ) → r.activation u ≢ 0 → is_marked marks u ≡ true → 1 ≤ u → u ≤ 64 → d ≡ active (get_or l u 0)
      → look (offs r.activation marks l) (r.activation u) d ≡ 0
  unfolding offs
  offs_off = some_off 64

-- ---- cancel

module _ (r : Rig) (ok : RigOk r) (s : State) (g : Good r s []) (t : ℕ) where
  marks : List ℕ
  marks = family r.controller t

  l : List ℕ
  l = s.states

  -- who is still invoked is not marked, and is as he was
  unmarked : (u : ℕ) → get_or (cleared marks l) u 0 ≢ 0 → is_marked marks u ≡ false
  unfolding marks l
  unmarked u n = by (is_marked marks u) (λ e. absurd (go u e n (dec_eq u 0))) (λ e. e)
    where
      go : (u : ℕ) → is_marked marks u ≡ true → get_or (cleared marks l) u 0 ≢ 0 → Dec (u ≡ 0) → ⊥
      go u e n (yes q) = true≢false (sym e ∙ ap (is_marked marks) q ∙ family_none r ok t)
      go u e n (no q) =
          let low : u < length l = subst (λ (m : ℕ). u < m) (cleared_length marks l) (has_place (cleared marks l) u n) in
          n (cleared_hit marks l u e (omega arith) low (omega (arith, low, g.tasks.sized)))

  was_invoked : (u : ℕ) → get_or (cleared marks l) u 0 ≢ 0 → get_or l u 0 ≢ 0
  was_invoked u n e = n (cleared_miss marks l u (unmarked u n) ∙ e)

  cancelled_tasks : Tasks r (cleared marks l)
  unfolding marks l
  cancelled_tasks =
      record {
        sized = cleared_length marks l ∙ g.tasks.sized;
        small = cleared_small marks l g.tasks.small;
        within = λ u n. g.tasks.within u (was_invoked u n);
        tree = λ u m n.
            let a = g.tasks.within u (was_invoked u n) in
            let c : get_or l (r.controller u) 0 ≢ 0 = g.tasks.tree u m (was_invoked u n) in
            by (is_marked marks (r.controller u))
            (λ e. absurd (true≢false (sym (marked_down r ok t u a.0 (omega (arith, a.1, ok.tasks_le)) e) ∙ unmarked u n)))
            (λ e q. c (sym (cleared_miss marks l (r.controller u) e) ∙ q));
      }

  agrees : Agree r s.flags (cleared marks l) (offs r.activation marks l)
  unfolding l
  agrees u nz =
      let a = ok.activation_task u nz in
      let low : u ≤ 64 = omega (arith, a.1, ok.tasks_le) in
      let now : get_or s.flags (r.activation u) 0 ≡ active (get_or l u 0) = sym (look_nil (r.activation u) _) ∙ g.agree u nz in
      by (is_marked marks u)
      (λ e. offs_off r ok marks l u _ nz e a.0 low now ∙ sym (ap active (cleared_hit marks l u e a.0 (omega (arith, low, g.tasks.sized)) low)))
      (λ e. look_absent (r.activation u) _ (offs r.activation marks l) (offs_absent r ok marks l u nz e) ∙ now ∙ sym (ap active (cleared_miss marks l u e)))

  clears : Clear r (cleared marks l) (offs r.activation marks l)
  clears u nz e = offs_absent r ok marks l u nz (unmarked u (λ q. omega (arith, e, q)))

  pub cancelled_ready : Ready r (cancelled r s t)
  unfolding cancelled marks l
  cancelled_ready =
      record {
        good =
            record {
              tasks = cancelled_tasks;
              flags = g.flags;
              conds = g.conds;
              wakes = g.wakes;
              overruns = g.overruns;
              chains = chains_desert s.count s.wakes s.chains s.states marks g.chains;
              agree = agrees;
              fine = offs_fine r ok marks l;
            };
        clear = λ u nz e. rest_absent (r.activation u) (offs r.activation marks l) (clears u nz e);
      }
