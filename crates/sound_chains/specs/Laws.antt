-- The laws that the proofs of the check cite.
use Rattle.std.specs.Prelude.{◌≡◌, refl, ◌≢◌, ◌↔◌, Bool, not, List, ◌∷◌, eqb, length, set, replicate}
use Rattle.std.proofs.Math.Path.{sym, ap}
use Rattle.std.proofs.Common.{◌∙◌, subst}
use Rattle.std.proofs.Math.Bool.{true, false}
use Rattle.std.proofs.lemmas.Bool.{false≢true}
use Prim.Native.Nat.{ℕ, zero, suc, ◌+◌, ◌-◌, ◌≤◌, ◌<◌}
use native.Mathlib.Omega.{arith}
use Rattle.std.specs.Int.Bits.{bit_or, bit_xor}
use Rattle.std.proofs.Math.ListN.{length-set}
use Rattle.laws.specs.Laws.Tables.{zeros_at}
use borrow.Author.Tests.{eqb-true, not-true}
use Rattle.laws.specs.Cases.{by, and_true}
use Rattle.laws.specs.All.{all}
use Rattle.laws.specs.Laws.All.{all_at, fails_at}
use Rattle.laws.specs.Faults.{or_zero, xor_zero}
use Rattle.chains.specs.Ops.{walk}
use Rattle.chains.specs.Laws.Check.{stepb, step_out, ringb, marked, rings_start, rings_next, taskb, ring_end, ring_out, ring_bad, ring_next, walk_end, walk_next, tasks_accepted, accepted_tasks, equivalence}
use Rattle.chains.specs.Held.{at, HoldsChains}
use Rattle.chains.specs.Laws.Held.{at_set}
use Rattle.chains.specs.declared.Links.{Links}
use Rattle.sound_chains.specs.Post.{Ring, aloneb, RingsTo, Walked, WalkedFrom, AllWalked, TasksTested}

-- the walk of a ring, at u with v behind it: what is left to test, and to mark
pub record RingAt (l : Links) (s : ℕ) (seen m : List ℕ) (left u v : ℕ) : Type 0 where
  pub here : v ≡ at l.next u
  pub room : left ≤ 64
  pub size : length m ≡ 65
  pub same : ringb (at l.next) (at l.prev) (at l.on) 64 s 64 s ≡ ringb (at l.next) (at l.prev) (at l.on) 64 s left u
  pub marks : marked (at seen) (walk (at l.next) 64 64 s) ≡ marked (at m) (walk (at l.next) 64 left u)

module _ (l : Links) (s : ℕ) (seen : List ℕ) (ls : 64 < s) where
  N : ℕ → ℕ
  N = at l.next

  P : ℕ → ℕ
  P = at l.prev

  O : ℕ → ℕ
  O = at l.on

  pub ring_start : length seen ≡ 65 → RingAt l s seen seen 64 s (at l.next s)
  ring_start z = record { here = refl; room = omega arith; size = z; same = refl; marks = refl }

  module _ (m : List ℕ) (left u v : ℕ) (k : RingAt l s seen m left u v) where
    pub ring_turn : v ≢ s → left ≢ 0 → stepb (at l.prev) (at l.on) 64 s u v ≡ true → RingAt l s seen (set m v 1) (left - 1) v (at l.next v)
    unfolding marked N P O
    ring_turn n z b =
        let d = step_out N P O 64 s ls u v b in
        let e = k.here in
        let n' : N u ≢ s = λ q. n (e ∙ q) in
        let b' : stepb P O 64 s u (N u) ≡ true = rw e at b in
        let r : ringb N P O 64 s left u ≡ ringb N P O 64 s (left - 1) v =
        ring_next N P O 64 s ls left (left - 1) u (omega arith) n' b' ∙ ap (ringb N P O 64 s (left - 1)) (sym e) in
        let w : walk N 64 left u ≡ v ∷ walk N 64 (left - 1) v =
        walk_next N P O 64 s ls left (left - 1) u (omega arith) (rw e at d.0) (rw e at d.1)
        ∙ ap (λ (x : ℕ). x ∷ walk N 64 (left - 1) x) (sym e) in
        record {
          here = refl;
          room = omega arith;
          size = length-set m v 1 ∙ k.size;
          same = k.same ∙ r;
          marks =
              k.marks ∙ ap (marked (at m)) w
              ∙ ap (λ (f : ℕ → ℕ). marked f (walk N 64 (left - 1) v)) (sym (at_set m v 1 (omega (arith, d.1, k.size))));
        }

    pub ring_over : v ≡ s → Walked l s seen (record { ok = eqb (at l.prev s) u; seen = m })
    unfolding marked N P O
    ring_over q =
        let e : N u ≡ s = sym k.here ∙ q in
        record {
          ok = sym (k.same ∙ ring_end N P O 64 s ls left u e);
          marks = λ o. sym (k.marks ∙ ap (marked (at m)) (walk_end N P O 64 s ls left u e));
          size = k.size;
        }

    refused : ringb N P O 64 s left u ≡ false → Walked l s seen (record { ok = false; seen = m })
    unfolding N P O
    refused e = record { ok = sym (k.same ∙ e); marks = λ o. absurd (false≢true o); size = k.size }

    pub ring_spent : v ≢ s → left ≡ 0 → Walked l s seen (record { ok = false; seen = m })
    unfolding N P O
    ring_spent n z = refused (ap (λ (i : ℕ). ringb N P O 64 s i u) z ∙ ring_out N P O 64 s ls u (λ q. n (k.here ∙ q)))

    pub ring_wrong : v ≢ s → (b : Bool) → b ≡ stepb (at l.prev) (at l.on) 64 s u v → not b ≡ true
        → Walked l s seen (record { ok = false; seen = m })
    unfolding N P O
    ring_wrong n b t f =
        let w : stepb P O 64 s u v ≡ false = sym t ∙ not-true b f in
        refused (ring_bad N P O 64 s ls left u (λ q. n (k.here ∙ q)) (rw k.here at w))

-- what alone_from keeps: an anchor's two links, each compared with its own number
pub alone_fault : (N P : ℕ → ℕ) (s : ℕ) → aloneb N P s ≡ eqb (bit_or (bit_xor (N s) s) (bit_xor (P s) s)) 0
unfolding aloneb
alone_fault N P s = sym (or_zero (bit_xor (N s) s) (bit_xor (P s) s) ∙ rw (xor_zero (N s) s, xor_zero (P s) s))

pub tasks_tested : (l : Links) (seen : List ℕ) (r : Bool) → r ≡ all 65 (taskb (at l.next) (at l.prev) (at l.on) (at seen)) → TasksTested l seen r
tasks_tested l seen r e =
    let test = taskb (at l.next) (at l.prev) (at l.on) (at seen) in
    record {
      yes = λ q t h. all_at 65 test (sym e ∙ q) t (omega (arith, h));
      no = λ q. let w = fails_at 65 test (sym e ∙ q) in (w.0, omega (arith, w.1), w.2);
    }

module _ (l : Links) where
  pub all_start : RingsTo l (replicate 65 0) 65
  all_start = rings_start 64 (at l.next) (at l.prev) (at l.on) (at (replicate 65 0)) (zeros_at 65)

  all_next : (seen : List ℕ) (s : ℕ) (r : Ring) → 64 < s → RingsTo l seen s → Walked l s seen r → r.ok ≡ true → RingsTo l r.seen (suc s)
  all_next seen s r ls k w o =
      rings_next 64 (at l.next) (at l.prev) (at l.on) (at seen) (at r.seen) s ls k (sym w.ok ∙ o) (w.marks o)

  -- a ring whose anchor is linked to itself is walked, with nothing marked
  alone_walked : (seen : List ℕ) (s : ℕ) → 64 < s → length seen ≡ 65 → aloneb (at l.next) (at l.prev) s ≡ true → Walked l s seen (record { ok = true; seen = seen })
  unfolding aloneb marked
  alone_walked seen s ls z e =
      let N = at l.next in
      let P = at l.prev in
      let O = at l.on in
      let a = and_true (eqb (N s) s) (eqb (P s) s) e in
      let n = eqb-true (N s) s a.0 in
      record {
        ok = sym (ring_end N P O 64 s ls 64 s n ∙ a.1);
        marks = λ o. ap (marked (at seen)) (sym (walk_end N P O 64 s ls 64 s n));
        size = z;
      }

  module _ (s : ℕ) (ls : 64 < s) (seen : List ℕ) where
    pub from_start : length seen ≡ 65 → WalkedFrom l s 0 seen (record { ok = true; seen = seen })
    from_start z =
        let e : s ≡ s + 0 = omega arith in
        record { yes = λ q k. subst (RingsTo l seen) e k; no = λ q. absurd (false≢true (sym q)); size = z }

    pub from_next : (i : ℕ) (m : List ℕ) (r : Ring) → WalkedFrom l s i seen (record { ok = true; seen = m }) → Walked l (s + i) m r → r.ok ≡ true
        → WalkedFrom l s (i + 1) seen (record { ok = true; seen = r.seen })
    from_next i m r k w o =
        let e : suc (s + i) ≡ s + (i + 1) = omega arith in
        record {
          yes = λ q b. subst (RingsTo l r.seen) e (all_next m (s + i) r (omega arith) (k.yes refl b) w o);
          no = λ q. absurd (false≢true (sym q));
          size = w.size;
        }

    pub from_refused : (i m : ℕ) (x : List ℕ) (r : Ring) → s + i < 322 → Walked l (s + i) x r → r.ok ≡ false → WalkedFrom l s m seen (record { ok = false; seen = r.seen })
    from_refused i m x r h w o =
        record {
          yes = λ q. absurd (false≢true q);
          no = λ q a. false≢true (sym o ∙ w.ok ∙ a.ring (s + i) (omega arith) h);
          size = w.size;
        }

    -- so a block of such anchors is walked
    pub from_alone : (m : ℕ) → length seen ≡ 65 → all m (λ i. aloneb (at l.next) (at l.prev) (s + i)) ≡ true → WalkedFrom l s m seen (record { ok = true; seen = seen })
    unfolding all
    from_alone zero z e = from_start z
    from_alone (suc m) z e =
        let a = and_true (all m (λ i. aloneb (at l.next) (at l.prev) (s + i))) (aloneb (at l.next) (at l.prev) (s + m)) e in
        let n : m + 1 ≡ suc m = omega arith in
        rw n at
        (from_next m seen (record { ok = true; seen = seen }) (from_alone m z a.0) (alone_walked seen (s + m) (omega arith) z a.1) refl)

  pub all_refused : (r : Ring) (s m : ℕ) (seen : List ℕ) → WalkedFrom l s m seen r → r.ok ≡ false → AllWalked l (record { ok = false; seen = r.seen })
  all_refused r s m seen w o = record { yes = λ q. absurd (false≢true q); no = λ q. w.no o }

  pub all_over : (r : Ring) (s m : ℕ) (seen : List ℕ) → s + m ≡ 322 → RingsTo l seen s → WalkedFrom l s m seen r → AllWalked l r
  all_over r s m seen e k w = record { yes = λ q. subst (RingsTo l r.seen) e (w.yes q k); no = w.no }

  -- the whole check's two ways out
  pub not_sound : (r : Ring) → AllWalked l r → r.ok ≡ false → (false ≡ true) ↔ HoldsChains l
  not_sound r w o = ((λ q. absurd (false≢true q)), (λ h. absurd (w.no o ((equivalence 64 322 (at l.next) (at l.prev) (at l.on)).1 h))))

  pub tested_sound : (r : Ring) (b : Bool) → AllWalked l r → r.ok ≡ true → TasksTested l r.seen b → (b ≡ true) ↔ HoldsChains l
  tested_sound r b w o k =
      let q = equivalence 64 322 (at l.next) (at l.prev) (at l.on) in (
        (λ e. q.0 (tasks_accepted 64 322 (at l.next) (at l.prev) (at l.on) (at r.seen) (w.yes o) (k.yes e))),
        (λ h. by b (λ e. e)
            (λ e.
            let n = k.no e in
            absurd (false≢true (sym n.2 ∙ accepted_tasks 64 322 (at l.next) (at l.prev) (at l.on) (at r.seen) (w.yes o) (q.1 h) n.0 n.1)))),
      )
