-- What the test of a task and a schedule do before their queue is served.
use Rattle.std.specs.Prelude.{◌≡◌, ◌≢◌, Bool, true, false, not, ◌&&◌, ℕ, eqb, set}
use Rattle.std.proofs.Math.Path.{refl, sym, ap}
use Rattle.std.proofs.Common.{◌∙◌}
use mathlib.Core.List.{List, []}
use borrow.Author.Tests.{eq-eqb, ne_eqb, not-true, not-false}
use Rattle.laws.specs.Cases.{and_go, and_stop, if_yes, if_no}
use Rattle.chains.specs.Held.{at}
use Rattle.exec_queue.specs.Post.{Pushed}
use Rattle.exec_queue.specs.View.{entries_of}
use Rattle.exec_queue.specs.declared.Queue.{Queue}
use Rattle.rig.specs.declared.Rig.{Rig}
use Rattle.rules.specs.State.{Entry, with_tables, with_overruns}
use Rattle.rules.specs.Conditions.{relax, met}
use Rattle.rules.specs.Serving.{push, activate}
use Rattle.rules.specs.Calls.{quiet, tested, scheduled}
use Rattle.exec_state.specs.View.{rig_of, view_of, work_of}
use Rattle.exec_state.specs.Set.{put_state, put_overruns, put_cond}
use Rattle.exec_state.specs.Post.{Tested, Scheduled}
use Rattle.exec_state.specs.declared.State.{State}
use Rattle.exec_state.specs.Work.{Work}

module _ (s : State) (g : Rig) (t : ℕ) (none : Queue) (z : entries_of none ≡ []) where
  kept_is : work_of s none ≡ quiet (view_of s)
  kept_is = ap (λ (x : List Entry). record { now = view_of s; queue = x }) z

  -- it is not inactive, or a condition is not as desired
  tested_no : (eqb (at s.state t) 1 && met (at g.present) (at g.desired) t s.cond) ≡ false → Tested s g t (record { st = s; queue = none })
  unfolding tested
  tested_no e = record { is = λ cycles. kept_is ∙ sym (if_no _ e refl); links = refl }

  pub tested_active : at s.state t ≢ 1 → Tested s g t (record { st = s; queue = none })
  tested_active n = tested_no (and_stop _ (ne_eqb (at s.state t) 1 n))

  -- the code's test of its conditions
  module _ (i : at s.state t ≡ 1) (b : Bool) (test : b ≡ met (at g.present) (at g.desired) t s.cond) where
    pub tested_unmet : not b ≡ true → Tested s g t (record { st = s; queue = none })
    tested_unmet n = tested_no (and_go (eq-eqb (at s.state t) 1 i) (sym test ∙ not-true b n))

    pub tested_yes : not b ≡ false → (q : Queue) → Pushed none (at g.activation t) 1 q → (c : List ℕ)
        → c ≡ relax (at g.present) (at g.latched) (at g.desired) t s.cond
        → Tested s g t (record { st = put_cond (put_state s (set s.state t 3)) c; queue = q })
    unfolding tested activate
    tested_yes y q m c r =
        record {
          is = λ cycles.
              ap (λ (x : List Entry). record { now = view_of (put_cond (put_state s (set s.state t 3)) c); queue = x }) m.is
              ∙ ap (λ (x : List ℕ). record { now = view_of (put_cond (put_state s (set s.state t 3)) x); queue = push (at g.activation t) 1 (entries_of none) }) r
              ∙ ap (activate (rig_of g cycles) t) kept_is
              ∙ sym (if_yes _ (and_go (eq-eqb (at s.state t) 1 i) (sym test ∙ not-false b y)) refl);
          links = refl;
        }

-- ---- schedule

pub scheduled_is : (s : State) (g : Rig) (t : ℕ) (conds : List ℕ) → conds ≡ relax (at g.present) (at g.latched) (at g.desired) t s.cond
    → (w : Work) → Tested (put_overruns (put_state (put_cond s conds) (set s.state t 1)) (set s.overruns t 0)) g t w → Scheduled s g t w
unfolding scheduled
scheduled_is s g t conds e w m =
    record {
      is = λ cycles. m.is cycles ∙ ap (λ (x : List ℕ). tested (rig_of g cycles) t (with_overruns (with_tables (view_of s) x (set s.state t 1)) (set s.overruns t 0))) e;
      links = m.links;
    }
