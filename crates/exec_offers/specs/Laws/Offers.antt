-- The tasks are offered one after the other: the loop, turn by turn.
use Rattle.std.specs.Prelude.{◌≡◌, refl, Bool, true, false, ◌&&◌, ℕ, ◌+◌, ◌≤◌, eqb, set}
use Rattle.std.proofs.Math.Path.{sym, ap}
use Rattle.std.proofs.Common.{◌∙◌}
use mathlib.Core.List.{List, []}
use native.Mathlib.Omega.{arith}
use Rattle.std.proofs.Math.Nat.{le_trans}
use Rattle.std.proofs.Math.ListN.{get_or}
use borrow.Author.Tests.{eqb-true}
use Rattle.laws.specs.Cases.{if_yes, if_no, and_true}
use Rattle.laws.specs.Laws.Tables.{in_range, was_there}
use Rattle.laws.specs.Iter.{iter}
use Rattle.laws.specs.Laws.Iter.{iter_zero, iter_step}
use Rattle.chains.specs.Held.{at}
use Rattle.rig.specs.declared.Cycle.{Cycle}
use Rattle.rig.specs.declared.Rig.{Rig}
use Rattle.rules.specs.State.{Entry}
use Rattle.rules.specs.Conditions.{relax, met, names}
use Rattle.rules.specs.Serving.{push, activate, ready, offer, offer_next, offers, made}
use Rattle.rules_laws.specs.Made.{made_next, made_none}
use Rattle.rules_laws.specs.Serve.{load, offers_load}
use Rattle.exec_queue.specs.View.{entries_of}
use Rattle.exec_queue.specs.Laws.Queued.{queue_length}
use Rattle.exec_queue.specs.Post.{Pushed}
use Rattle.exec_queue.specs.declared.Queue.{Queue}
use Rattle.exec_state.specs.View.{rig_of, view_of, work_of}
use Rattle.exec_state.specs.Set.{put_state, put_cond}
use Rattle.exec_offers.specs.Post.{Offered}
use Rattle.exec_state.specs.declared.State.{State}

-- tasks 1 to i are done, and m of them were activated
pub record Turned (g : Rig) (f : ℕ) (s₀ : State) (q₀ : Queue) (s : State) (q : Queue) (m i : ℕ) : Type 0 where
  pub is : (cycles : List Cycle) → work_of s q ≡ iter i (offer_next (rig_of g cycles) f) (work_of s₀ q₀)
  pub links : s.links ≡ s₀.links
  pub many : m ≡ made 1 s₀.state s.state
  pub few : m ≤ i
  -- who is inactive was so
  pub ones : (t : ℕ) → get_or s.state t 0 ≡ 1 → get_or s₀.state t 0 ≡ 1

-- a state to look at where any would do
abbrev pub some_state : State
some_state =
    record { count = 0; value = []; cond = []; state = []; wake = []; overruns = []; links = record { next = []; prev = []; on = [] }; running = 0 }

-- the code's test of task t
abbrev pub ready_b : Rig → ℕ → ℕ → State → Bool
ready_b g f t s =
    eqb (get_or s.state t 0) 1
    && (names g.lines (at g.line_task) (at g.line_flag) t f && met (at g.present) (at g.desired) t s.cond)

module _ (g : Rig) (f : ℕ) (s₀ : State) (q₀ : Queue) where
  pub turned_start : Turned g f s₀ q₀ s₀ q₀ 0 0
  turned_start =
      record {
        is = λ cycles. sym (iter_zero _ _);
        links = refl;
        many = sym (made_none 1 (λ z. omega arith) s₀.state);
        few = omega arith;
        ones = λ t e. e;
      }

  module _ (s : State) (q : Queue) (m i : ℕ) (h : Turned g f s₀ q₀ s q m i) where
    next : (cycles : List Cycle) → offer (rig_of g cycles) f (i + 1) (work_of s q) ≡ iter (i + 1) (offer_next (rig_of g cycles) f) (work_of s₀ q₀)
    next cycles = iter_step i (offer_next (rig_of g cycles) f) (work_of s₀ q₀) (work_of s q) (h.is cycles)

    -- the queue has room
    pub turned_room : load (work_of s₀ q₀) ≤ 79 → q.n ≤ 79
    unfolding offers
    turned_room r =
        omega (
          arith,
          le_trans (offers_load (rig_of g []) f i (work_of s₀ q₀)) r,
          ap load (h.is []),
          queue_length q,
        )

    pub turned_no : ready_b g f (i + 1) s ≡ false → Turned g f s₀ q₀ s q m (i + 1)
    unfolding offer ready
    turned_no e =
        record { is = λ cycles. sym (if_no _ e refl) ∙ next cycles; links = h.links; many = h.many; few = omega (arith, h.few); ones = h.ones }

    pub turned_yes : ready_b g f (i + 1) s ≡ true → (c : List ℕ) → c ≡ relax (at g.present) (at g.latched) (at g.desired) (i + 1) s.cond
        → (p : Queue) → Pushed q (at g.activation (i + 1)) 1 p
        → Turned g f s₀ q₀ (put_cond (put_state s (set s.state (i + 1) 3)) c) p (m + 1) (i + 1)
    unfolding offer ready activate
    turned_yes e c r p y =
        let t = put_state s (set s.state (i + 1) 3) in
        let now : get_or s.state (i + 1) 0 ≡ 1 = eqb-true _ 1 (and_true (eqb (get_or s.state (i + 1) 0) 1) _ e).0 in
        let was = h.ones (i + 1) now in
        let one = made_next 1 s₀.state s.state (i + 1) (in_range s₀.state (i + 1) 0 was) (in_range s.state (i + 1) 0 now) was (λ z. omega (arith, now, z)) in
        record {
          is = λ cycles.
              ap (λ (x : List Entry). record { now = view_of (put_cond t c); queue = x }) y.is
              ∙ ap (λ (x : List ℕ). record { now = view_of (put_cond t x); queue = push (at g.activation (i + 1)) 1 (entries_of q) }) r
              ∙ sym (if_yes _ e refl)
              ∙ next cycles;
          links = h.links;
          many = omega (arith, h.many, one);
          few = omega (arith, h.few);
          ones = λ u k. h.ones u (was_there s.state (i + 1) u 3 1 (λ z. omega arith) k);
        }

  pub turned_done : (s : State) (q : Queue) (m i : ℕ) → Turned g f s₀ q₀ s q m i → i ≡ 64 → Offered (record { st = s₀; queue = q₀ }) g f (record { st = s; queue = q })
  unfolding offers
  turned_done s q m i h e =
      record { is = λ cycles. h.is cycles ∙ ap (λ (n : ℕ). iter n (offer_next (rig_of g cycles) f) (work_of s₀ q₀)) e; links = h.links }
