-- Tasks that leave their chains, one or all that are marked: what the links show.
use Rattle.std.specs.Prelude.{◌≡◌, refl, ◌+◌, ◌<◌, ℕ, ◌≢◌, List, get_or}
use Rattle.std.proofs.Common.{sym, ◌∙◌, arith, eq-eqb, ne_eqb}
use Rattle.std.proofs.Math.Path.{ap}
use Rattle.chains.specs.Held.{at, HoldsChains, Held, Leaves}
use Rattle.chains.specs.Read.{chains_of}
use Rattle.chains.specs.Laws.Read.{only_of, held_chains, sound_chains, chains_ext}
use Rattle.chains.specs.declared.Links.{Links}
use Rattle.rules.specs.Waiting.{leave}
use Rattle.rules.specs.Family.{deserted, leave_one}
use Rattle.laws.specs.Cases.{if_yes, if_no}
use Rattle.laws.specs.Iter.{iter}
use Rattle.laws.specs.Laws.Iter.{iter_zero, iter_step}
use Rattle.laws.specs.Functions.{upd}
use Rattle.laws.specs.Laws.Functions.{on_upd}
use Rattle.laws.specs.Members.{without}
use Rattle.laws.specs.Laws.Members.{without_out}
use Rattle.exec_family.specs.Anchors.{by_name}
use Rattle.exec_family.specs.Post.{Left, Deserted}

-- links that hold the chains without t hold nothing else
abbrev lacking : ℕ → (ℕ → List ℕ) → ℕ → List ℕ
lacking t X s = without t (X s)

left_of : (l r : Links) (t : ℕ) → Held r (lacking t (chains_of l)) → Left l t r
unfolding leave
left_of l r t h =
    record {
      is = ap by_name (held_chains r (lacking t (chains_of l)) h (λ s e. ap (without t) (only_of l s e)));
      sound = (lacking t (chains_of l), h);
    }

-- t is in no chain but its own
elsewhere : (l : Links) (X : ℕ → List ℕ) → Held l X → (t s : ℕ) → 64 < s → s < 322 → s ≢ at l.on t → without t (X s) ≡ X s
elsewhere l X h t s ls hs n = without_out t (X s) (λ i. n (sym (h.own s ls hs t i).2))

pub left_idle : (l : Links) → HoldsChains l → (t : ℕ) → at l.on t ≡ 0 → Left l t l
left_idle l h t e =
    let X = chains_of l in
    let k : Held l X = sound_chains l h in
    left_of l l t
    (chains_ext 64 322 (at l.next) (at l.prev) (at l.on) X (lacking t X) k
    (λ s ls hs. sym (elsewhere l X k t s ls hs (λ q. omega arith))))

pub left_unlinked : (l : Links) → HoldsChains l → (t : ℕ) (r : Links) → Leaves l t r → Left l t r
left_unlinked l h t r f =
    let X = chains_of l in
    let k : Held l X = sound_chains l h in
    let o = at l.on t in
    left_of l r t
    (chains_ext 64 322 (at r.next) (at r.prev) (at r.on) (upd X o (without t (X o))) (lacking t X) (f X k)
    (λ s ls hs.
    on_upd (λ (ys : List ℕ). ys ≡ without t (X s)) X o (without t (X o)) s
    (λ q. ap (λ (a : ℕ). without t (X a)) (sym q)) (λ n. sym (elsewhere l X k t s ls hs n))))

-- ---- the loop over all tasks

pub record Turned (l : Links) (marks : List ℕ) (k : Links) (i : ℕ) : Type 0 where
  pub is : by_name (chains_of k) ≡ iter i (leave_one marks) (by_name (chains_of l))
  pub sound : HoldsChains k

module _ (l : Links) (marks : List ℕ) where
  pub turned_start : HoldsChains l → Turned l marks l 0
  turned_start h = record { is = sym (iter_zero _ _); sound = h }

  module _ (k : Links) (i : ℕ) (h : Turned l marks k i) where
    next : leave_one marks i (by_name (chains_of k)) ≡ iter (i + 1) (leave_one marks) (by_name (chains_of l))
    next = iter_step i (leave_one marks) (by_name (chains_of l)) (by_name (chains_of k)) h.is

    pub turned_yes : get_or marks (i + 1) 0 ≡ 1 → (r : Links) → Left k (i + 1) r → Turned l marks r (i + 1)
    turned_yes e r m = record { is = m.is ∙ sym (if_yes _ (eq-eqb _ _ e) refl) ∙ next; sound = m.sound }

    pub turned_no : get_or marks (i + 1) 0 ≢ 1 → Turned l marks k (i + 1)
    turned_no n = record { is = sym (if_no _ (ne_eqb _ _ n) refl) ∙ next; sound = h.sound }

  pub turned_done : (k : Links) (i : ℕ) → Turned l marks k i → i ≡ 64 → Deserted l marks k
  unfolding deserted
  turned_done k i h e =
      record { is = h.is ∙ ap (λ (n : ℕ). iter n (leave_one marks) (by_name (chains_of l))) e; sound = h.sound }
